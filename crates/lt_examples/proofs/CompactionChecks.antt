-- Worked compactions, computed.
use Rattle.std.specs.Str.{chars, is_utf8}
use Rattle.std.specs.Fmt.{digits}
use lib.Utf8.{encode}
use Rattle.std.proofs.Common.{List, [], drop, map, pos, refl, take, ℕ, ◌∷◌, ◌≡◌}
use Rattle.std.specs.Prelude.{None, Some, codes}
use Rattle.lt_terms.specs.Conversion.{at_rank, number_of_text}
use Rattle.lt_terms.specs.Layout.{cell_to, coerce, unflatten}
use Rattle.lt_terms.specs.Log.{Change, Item, change_item, changes_of, checkpoint_item, spelled}
use Rattle.lt_terms.specs.declared.Op.{Op}
use Rattle.lt_terms.specs.Value.{Value, int_value, text_value}
use Rattle.lt_terms.specs.Key.{int_part}
use Rattle.lt_tables.specs.Schema.{carrier, carrier_layout, carriers, new_table, schema_fault}
use Rattle.lt_tables.specs.Fair.{breaks, breaks_at, point_of}
use Rattle.lt_tables.specs.Row.{snapshot}
use Rattle.lt_tables.specs.Version.{asof, collapse, compose, merge, read_cells, seen}
use Rattle.lt_tables.specs.Query.{Mode, answer, do_compact, holds, interval, major, minor}
use Rattle.lt_words.specs.Script.{number_word}
use Rattle.lt_words.specs.Reply.{no_such_delta}
use Rattle.lt_storage.specs.Bundle.{bundle_bytes, cut}
use Rattle.lt_machine.specs.Machine.{State, compacted, deltas_at, flush_id, flushed, opened, part_job, refused, retained, with_durable, with_items}
use Rattle.lt_machine.specs.Sound.{held_versions}
use Rattle.lt_examples.specs.Examples.{head, one_table, version_one}
use Rattle.lt_examples.proofs.MachineChecks.{started}
use Rattle.lt_terms.specs.declared.Op.TheVariants as ops

computes : Unit {0}
unfolding is_utf8 chars encode digits at_rank number_of_text carrier carrier_layout schema_fault spelled breaks breaks_at point_of snapshot unflatten cell_to coerce seen compose merge asof collapse interval holds answer bundle_bytes cut refused number_word
computes = tt

abbrev at : ℕ → Op → List (ℕ × Value) → Item
at t op set = change_item (record { ts = t; table = 1; version = 1; op = op; key = int_part (pos 1) ∷ []; set = set })

abbrev a_is : ℕ → ℕ × Value
a_is n = (1, int_value (pos n))

abbrev b_is : List ℕ → ℕ × Value
b_is t = (2, text_value t)

-- a partition compacted, whichever way
abbrev compact : Mode → State → State
compact m s = elim (part_job s.durable 0 m) [ None ↦ s | Some j ↦ with_durable s (compacted s.durable j) ]

abbrev reads : List Change → State → ℕ → List (List Value)
reads source s t = map (λ v. read_cells (new_table version_one) version_one.columns (carriers one_table 1) v.cells) (asof t (held_versions source s 1))

-- ---- an update of an absent row: a major compaction leaves nothing

abbrev lone : List Item
lone = at 5 ops.Update (a_is 9 ∷ []) ∷ checkpoint_item 6 ∷ []

abbrev lone_flushed : State
lone_flushed = retained (flushed (changes_of lone) (with_items 0 lone started) 0) 6

lone_reads_nothing : reads (changes_of lone) lone_flushed 6 ≡ []
unfolding computes
lone_reads_nothing = refl

nothing_left : deltas_at (compact major lone_flushed) 0 ≡ []
unfolding computes
nothing_left = refl

nothing_on_shelf : (compact major lone_flushed).durable.shelf ≡ []
unfolding computes
nothing_on_shelf = refl

-- ---- what two deltas have twice is read once, and collapsed to one insert

abbrev again : List Item
again = checkpoint_item 10 ∷ at 11 ops.Insert (a_is 10 ∷ b_is (codes "x") ∷ []) ∷ at 12 ops.Update (a_is 13 ∷ []) ∷ checkpoint_item 20 ∷ []

abbrev once : State
once = flushed (changes_of again) (with_items 0 (take 3 again) started) 0

abbrev twice : State
twice = flushed (changes_of again) (with_items 0 (take 3 again) (opened once.durable (head ∷ []))) 0

abbrev durable_to_20 : State
durable_to_20 = retained (flushed (changes_of again) (with_items 0 (drop 3 again) twice) 0) 20

second_delta : flush_id (with_items 0 (take 3 again) (opened once.durable (head ∷ []))) 0 ≡ Some 1
unfolding computes
second_delta = refl

no_third_delta : flush_id (with_items 0 (drop 3 again) twice) 0 ≡ None
unfolding computes
no_third_delta = refl

reads_once : reads (changes_of again) durable_to_20 20 ≡ (int_value (pos 13) ∷ text_value (codes "x") ∷ []) ∷ []
unfolding computes
reads_once = refl

one_insert : deltas_at (compact major durable_to_20) 0 ≡ record { id = 2; bundles = 1; versions = 1; least = 12; greatest = 12 } ∷ []
unfolding computes
one_insert = refl

reads_the_same : reads (changes_of again) (compact major durable_to_20) 20 ≡ (int_value (pos 13) ∷ text_value (codes "x") ∷ []) ∷ []
unfolding computes
reads_the_same = refl

-- ---- a minor compaction of the first and the last of three never collapses

abbrev three : List Item
three = at 3 ops.Insert (a_is 10 ∷ b_is (codes "x") ∷ []) ∷ at 5 ops.Update (a_is 50 ∷ []) ∷ at 9 ops.Update (b_is (codes "z") ∷ []) ∷ checkpoint_item 10 ∷ []

abbrev flushed_each : State
flushed_each = let source = changes_of three in let first = flushed source (with_items 0 (take 1 three) started) 0 in
    let second = flushed source (with_items 0 (take 1 (drop 1 three)) first) 0 in let third = flushed source (with_items 0 (take 1 (drop 2 three)) second) 0 in
    retained (flushed source (with_items 0 (drop 3 three) third) 0) 10

unknown_input : refused flushed_each (do_compact 0 (minor (0 ∷ 7 ∷ []))) ≡ Some (no_such_delta 7)
unfolding computes
unknown_input = refl

minor_told : deltas_at (compact (minor (0 ∷ 2 ∷ [])) flushed_each) 0
    ≡ record { id = 1; bundles = 1; versions = 1; least = 5; greatest = 5 } ∷ record { id = 3; bundles = 1; versions = 2; least = 3; greatest = 9 } ∷ []
unfolding computes
minor_told = refl

minor_reads : reads (changes_of three) (compact (minor (0 ∷ 2 ∷ [])) flushed_each) 10 ≡ (int_value (pos 50) ∷ text_value (codes "z") ∷ []) ∷ []
unfolding computes
minor_reads = refl
