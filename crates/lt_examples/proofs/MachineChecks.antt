-- A worked run, computed: a job that goes by steps while its partition is split and flushed.
use Rattle.std.specs.Str.{chars, is_utf8}
use Rattle.std.specs.Fmt.{digits}
use lib.Utf8.{encode}
use Rattle.std.proofs.Common.{List, [], drop, false, length, pos, refl, take, ℕ, ◌*◌, ◌∷◌, ◌≡◌}
use Rattle.std.specs.Prelude.{None, Option, Some, codes, filter, flat_map, map, nat_lt, slice_get, zip}
use Rattle.lt_terms.specs.Conversion.{at_rank, number_of_text}
use Rattle.lt_terms.specs.Layout.{Cell, cell_to, coerce, unflatten}
use Rattle.lt_terms.specs.Log.{Change, Item, change_item, changes_of, checkpoint_item, spelled}
use Rattle.lt_terms.specs.Value.{Value, int_value, text_value}
use Rattle.lt_terms.specs.Key.{int_part}
use Rattle.lt_terms.specs.declared.Progress.{Progress}
use Rattle.lt_tables.specs.Schema.{carrier, carrier_layout, carriers, new_table, schema_fault}
use Rattle.lt_tables.specs.Fair.{breaks, breaks_at, point_of}
use Rattle.lt_tables.specs.Row.{row_at, snapshot}
use Rattle.lt_tables.specs.Version.{RowVersion, asof, collapse, compose, effect_of, merge, read_cells, seen}
use Rattle.lt_tables.specs.Query.{answer, do_flush, do_job_begin, do_job_finish, do_job_step, do_retain, do_scan, do_split, holds, int_literal, interval, major}
use Rattle.lt_words.specs.Script.{number_word, plain_query}
use Rattle.lt_words.specs.Reply.{above_durable, at_edge, not_done, not_safe, reply_text, too_old}
use Rattle.lt_storage.specs.Bundle.{bundle_bytes, cut}
use Rattle.lt_storage.specs.Store.{manifest_bytes, stored}
use Rattle.lt_machine.specs.Machine.{State, checkpoints, compacted, deltas_at, flush_id, flushed, fresh, job_after, job_progress, opened, part_job, ranges_of, refused, resume_after, retained, split_key, streams_told, was_split, with_catalogue, with_durable, with_items}
use Rattle.lt_machine.specs.Sound.{held_versions, row_cells, up_to_ts}
use Rattle.lt_machine.specs.Outside.{job_bundles, new_deltas, piece_lengths}
use Rattle.lt_examples.specs.Examples.{head, one_table, version_one}
use Rattle.lt_terms.specs.declared.Op.TheVariants as ops
use Rattle.lt_terms.specs.declared.Progress.TheVariants as progress

computes : Unit {0}
unfolding is_utf8 chars encode digits at_rank number_of_text carrier carrier_layout schema_fault spelled breaks breaks_at point_of snapshot unflatten cell_to coerce seen compose merge asof collapse interval holds answer bundle_bytes cut manifest_bytes refused reply_text number_word
computes = tt

abbrev pub insert_at : ℕ → Item
insert_at n = change_item (record { ts = n; table = 1; version = 1; op = ops.Insert; key = int_part (pos n) ∷ []; set = (1, int_value (pos (10 * n))) ∷ (2, text_value (codes "x")) ∷ [] })

abbrev pub update_at : ℕ → ℕ → ℕ → Item
update_at t key a = change_item (record { ts = t; table = 1; version = 1; op = ops.Update; key = int_part (pos key) ∷ []; set = (1, int_value (pos a)) ∷ [] })

abbrev items : List Item
items = insert_at 1 ∷ insert_at 2 ∷ insert_at 3 ∷ insert_at 4 ∷ update_at 5 1 11 ∷ checkpoint_item 6 ∷ update_at 7 4 44 ∷ checkpoint_item 8 ∷ []

abbrev source : List Change
source = changes_of items

-- the table's number, and the key's parts
abbrev pub key_of : ℕ → List ℕ
key_of n = split_key (new_table version_one) (int_literal (pos n) ∷ [])

abbrev pub started : State
started = with_catalogue (opened (fresh 1048576 (head ∷ [])) (head ∷ [])) one_table

abbrev pumped : State
pumped = with_items 0 (take 6 items) started

abbrev after_flush : State
after_flush = flushed source pumped 0

abbrev begun : State
begun = let s = retained (was_split after_flush (key_of 3)) 5 in record s { job = part_job s.durable 0 major }

abbrev flushed_twice : State
flushed_twice = let s = was_split (with_items 0 (drop 6 items) begun) (key_of 2) in flushed source (flushed source s 0) 2

manifest_of_fresh : length (manifest_bytes (record { limit = 1048576; minimum = 0; next_id = 0; catalogue = []; streams = (fresh 1048576 (head ∷ [])).streams; parts = (fresh 1048576 (head ∷ [])).parts; deltas = [] })) ≡ 61
unfolding computes
manifest_of_fresh = refl

pump_told : streams_told pumped ≡ record { stream = 0; offset = 288; checkpoint = 6; closed = false } ∷ []
unfolding computes
pump_told = refl

checkpoint_pumped : checkpoints pumped ≡ 6 ∷ []
unfolding computes
checkpoint_pumped = refl

flush_told : flush_id pumped 0 ≡ Some 0
unfolding computes
flush_told = refl

delta_told_first : deltas_at after_flush 0 ≡ record { id = 0; bundles = 1; versions = 5; least = 1; greatest = 5 } ∷ []
unfolding computes
delta_told_first = refl

abbrev stepped : ℕ → State
stepped n = record flushed_twice { job = elim flushed_twice.job [ None ↦ None | Some j ↦ Some (job_after flushed_twice n j) ] }

progress_of : State → Option Progress
progress_of s = elim s.job [ None ↦ None | Some j ↦ Some (job_progress s j) ]

abbrev finished : State
finished = elim (stepped 10).job [ None ↦ flushed_twice | Some j ↦ record (with_durable flushed_twice (compacted flushed_twice.durable j)) { job = None } ]

resumed : resume_after (was_split (with_items 0 (drop 6 items) begun) (key_of 2)) 0 ≡ 8
unfolding computes
resumed = refl

nothing_pending : flush_id (was_split (with_items 0 (drop 6 items) begun) (key_of 2)) 0 ≡ None
unfolding computes
nothing_pending = refl

one_key_taken : progress_of (stepped 1) ≡ Some progress.More
unfolding computes progress_of
one_key_taken = refl

all_keys_taken : progress_of (stepped 10) ≡ Some progress.Done
unfolding computes progress_of
all_keys_taken = refl

not_finished_early : refused (stepped 1) do_job_finish ≡ Some not_done
unfolding computes
not_finished_early = refl

finished_lower : deltas_at finished 0 ≡ record { id = 2; bundles = 1; versions = 2; least = 2; greatest = 5 } ∷ []
unfolding computes
finished_lower = refl

sibling_kept : deltas_at finished 2 ≡ record { id = 0; bundles = 1; versions = 5; least = 1; greatest = 5 } ∷ record { id = 1; bundles = 1; versions = 1; least = 7; greatest = 7 } ∷ []
unfolding computes
sibling_kept = refl

-- the answers of the source
scanned : answer (new_table version_one) version_one.columns (plain_query (codes "t") 1 8 None) (snapshot source (new_table version_one) version_one.columns 8)
    ≡ (int_value (pos 1) ∷ int_value (pos 11) ∷ text_value (codes "x") ∷ []) ∷ (int_value (pos 2) ∷ int_value (pos 20) ∷ text_value (codes "x") ∷ [])
    ∷ (int_value (pos 3) ∷ int_value (pos 30) ∷ text_value (codes "x") ∷ []) ∷ (int_value (pos 4) ∷ int_value (pos 44) ∷ text_value (codes "x") ∷ []) ∷ []
unfolding computes
scanned = refl

-- what is stored and pending reads the same, before and after the job
abbrev reads_held : State → ℕ → List (List Value)
reads_held s t = map (λ v. read_cells (new_table version_one) version_one.columns (carriers one_table 1) v.cells) (asof t (held_versions source s 1))

held_in_memory : reads_held pumped 6 ≡ (int_value (pos 11) ∷ text_value (codes "x") ∷ []) ∷ (int_value (pos 20) ∷ text_value (codes "x") ∷ []) ∷ (int_value (pos 30) ∷ text_value (codes "x") ∷ []) ∷ (int_value (pos 40) ∷ text_value (codes "x") ∷ []) ∷ []
unfolding computes
held_in_memory = refl

held_after_job : reads_held finished 8 ≡ (int_value (pos 11) ∷ text_value (codes "x") ∷ []) ∷ (int_value (pos 20) ∷ text_value (codes "x") ∷ []) ∷ (int_value (pos 30) ∷ text_value (codes "x") ∷ []) ∷ (int_value (pos 44) ∷ text_value (codes "x") ∷ []) ∷ []
unfolding computes
held_after_job = refl

-- refusals
scan_too_early : refused finished (do_scan (plain_query (codes "t") 1 9 None)) ≡ Some (not_safe 0 8)
unfolding computes
scan_too_early = refl

scan_too_late : refused finished (do_scan (plain_query (codes "t") 1 4 None)) ≡ Some (too_old 5)
unfolding computes
scan_too_late = refl

split_at_edge : refused finished (do_split (codes "t") (int_literal (pos 3) ∷ [])) ≡ Some (at_edge 2)
unfolding computes
split_at_edge = refl

retain_above : refused finished (do_retain 9) ≡ Some (above_durable 6)
unfolding computes
retain_above = refl

-- up to the minimum, what a partition has stored of a key makes its row, also after the job
abbrev stored_at : State → ℕ → List RowVersion
stored_at s i = elim (slice_get (zip s.durable.parts (ranges_of s.durable)) i) [ None ↦ [] | Some x ↦ stored s.durable x.0 x.1 1 ]

abbrev stored_row : State → ℕ → ℕ → Option (List Cell)
stored_row s i key = effect_of (up_to_ts (key_of key) s.durable.minimum (stored_at s i))

abbrev source_row : State → ℕ → Option (List Cell)
source_row s key = row_cells one_table 1 (row_at source (key_of key) s.durable.minimum)

row_of_one : stored_row finished 0 1 ≡ source_row finished 1
unfolding computes
row_of_one = refl

row_of_two : stored_row finished 1 2 ≡ source_row finished 2
unfolding computes
row_of_two = refl

row_of_four : stored_row finished 2 4 ≡ source_row finished 4
unfolding computes
row_of_four = refl

row_before_job : stored_row flushed_twice 0 1 ≡ source_row flushed_twice 1
unfolding computes
row_before_job = refl

-- above the minimum the stored versions are what the changes are seen as
seen_above : filter (λ v. nat_lt 5 v.ts) (stored_at finished 2) ≡ map (seen one_table) (drop 5 source)
unfolding computes
seen_above = refl

-- what is written: for a flush its bundle, the index and the manifest; for a job the bundle in a step, the rest at its finish
flush_pieces : length (piece_lengths (do_flush 0) pumped after_flush) ≡ 3
unfolding computes
flush_pieces = refl

step_pieces : length (piece_lengths (do_job_step 9) (stepped 1) (stepped 10)) ≡ 1
unfolding computes
step_pieces = refl

no_more_pieces : piece_lengths (do_job_step 9) (stepped 10) (stepped 10) ≡ []
unfolding computes
no_more_pieces = refl

finish_pieces : length (piece_lengths do_job_finish (stepped 10) finished) ≡ 2
unfolding computes
finish_pieces = refl

split_pieces : length (piece_lengths (do_split (codes "t") []) after_flush (was_split after_flush (key_of 3))) ≡ 1
unfolding computes
split_pieces = refl

begin_writes_nothing : piece_lengths (do_job_begin 0 major) after_flush after_flush ≡ []
unfolding computes
begin_writes_nothing = refl

-- the bundle that the job makes is the one that its delta has
abbrev bundles_of_job : State → List (List RowVersion)
bundles_of_job s = elim s.job [ None ↦ [] | Some j ↦ map (λ b. b.1) (job_bundles s j) ]

made_bundle : bundles_of_job (stepped 10) ≡ flat_map (λ d. flat_map (λ t. t.bundles) d.tables) (new_deltas (stepped 10) finished)
unfolding computes
made_bundle = refl
