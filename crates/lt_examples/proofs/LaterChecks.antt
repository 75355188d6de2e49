-- Worked encodings, groups, joins, relays and generated streams, computed.
use Rattle.std.specs.Str.{chars, is_utf8}
use Rattle.std.specs.Fmt.{digits}
use lib.Utf8.{encode}
use Rattle.std.proofs.Common.{List, [], length, map, pos, refl, ℕ, ◌∷◌, ◌≡◌}
use Rattle.std.specs.Prelude.{codes}
use Rattle.lt_terms.specs.Conversion.{at_rank, number_of_text}
use Rattle.lt_terms.specs.Log.{change_item, checkpoint_item, header_item, spelled}
use Rattle.lt_terms.specs.Layout.{bytes_cell, int_cell, unset}
use Rattle.lt_terms.specs.Kind.{Kind, enumeration, plain}
use Rattle.lt_terms.specs.Value.{Value, int_value, null_value, text_value}
use Rattle.lt_tables.specs.Schema.{carrier, carrier_layout, new_table}
use Rattle.lt_tables.specs.Fair.{breaks}
use Rattle.lt_tables.specs.Row.{snapshot}
use Rattle.lt_tables.specs.Version.{compose}
use Rattle.lt_machine.specs.Program.{gen_stream}
use Rattle.lt_planned.specs.Group.{count_rows, grouped_rows, max_of, min_of, sum_of}
use Rattle.lt_planned.specs.Join.{join_rows}
use Rattle.lt_planned.specs.Relay.{relay_header, relay_items}
use Rattle.lt_planned.specs.Encoded.{as_dictionary, as_packed, spelling_bytes}
use Rattle.lt_examples.specs.Examples.{inserted, updated, version_one}
use Rattle.lt_terms.specs.declared.Op.TheVariants as ops
use Rattle.lt_terms.specs.declared.Rank.TheVariants as rank
use Rattle.lt_terms.specs.declared.JoinKind.TheVariants as kind_of_join

computes : Unit {0}
unfolding is_utf8 chars encode digits at_rank number_of_text carrier carrier_layout spelled breaks snapshot compose grouped_rows join_rows relay_items gen_stream
computes = tt

composed_update : compose (record { key = []; ts = 3; op = ops.Insert; cells = int_cell (pos 1) ∷ int_cell (pos 2) ∷ [] }) (record { key = []; ts = 5; op = ops.Update; cells = unset ∷ int_cell (pos 9) ∷ [] })
    ≡ record { key = []; ts = 5; op = ops.Insert; cells = int_cell (pos 1) ∷ int_cell (pos 9) ∷ [] }
unfolding computes
composed_update = refl

composed_delete : compose (record { key = []; ts = 3; op = ops.Delete; cells = unset ∷ unset ∷ [] }) (record { key = []; ts = 5; op = ops.Update; cells = unset ∷ int_cell (pos 9) ∷ [] })
    ≡ record { key = []; ts = 5; op = ops.Delete; cells = unset ∷ unset ∷ [] }
unfolding computes
composed_delete = refl

packed_fives : spelling_bytes rank.Int64 (int_cell (pos 5) ∷ int_cell (pos 5) ∷ int_cell (pos 5) ∷ int_cell (pos 5) ∷ []) as_packed
    ≡ 3 ∷ 0 ∷ 0 ∷ 0 ∷ 0 ∷ 0 ∷ 0 ∷ 0 ∷ 5 ∷ 1 ∷ 2 ∷ 2 ∷ 2 ∷ 2 ∷ 0 ∷ 0 ∷ 0 ∷ 0 ∷ []
unfolding computes
packed_fives = refl

dictionary_of_x : spelling_bytes rank.Text (bytes_cell (codes "x") ∷ bytes_cell (codes "x") ∷ bytes_cell (codes "x") ∷ []) (as_dictionary (bytes_cell (codes "x") ∷ []) (0 ∷ 0 ∷ 0 ∷ []))
    ≡ 2 ∷ 0 ∷ 0 ∷ 0 ∷ 1 ∷ 2 ∷ 0 ∷ 0 ∷ 0 ∷ 0 ∷ 0 ∷ 0 ∷ 0 ∷ 1 ∷ 120 ∷ 1 ∷ 0 ∷ 0 ∷ 0 ∷ []
unfolding computes
dictionary_of_x = refl

generated_four : length (gen_stream 4) ≡ 229
unfolding computes
generated_four = refl

generated_ten : length (gen_stream 10) ≡ 495
unfolding computes
generated_ten = refl

-- orders by region, with a number, a status and a total
abbrev full : List (List ℕ × Kind)
full = (codes "region", plain rank.Text) ∷ (codes "id", plain rank.Int64) ∷ (codes "status", enumeration ((pos 0, codes "new") ∷ (pos 1, codes "paid") ∷ [])) ∷ (codes "total", plain rank.Int64) ∷ (codes "note", plain rank.Text) ∷ []

abbrev orders : List (List Value)
orders = (text_value (codes "eu") ∷ int_value (pos 1) ∷ int_value (pos 1) ∷ int_value (pos 2500) ∷ text_value (codes "ok") ∷ [])
    ∷ (text_value (codes "eu") ∷ int_value (pos 2) ∷ int_value (pos 5) ∷ int_value (pos 0) ∷ text_value [] ∷ [])
    ∷ (text_value (codes "us") ∷ int_value (pos 1) ∷ int_value (pos 0) ∷ int_value (pos 900) ∷ null_value ∷ []) ∷ []

by_region : grouped_rows full (codes "region" ∷ []) (count_rows ∷ sum_of (codes "total") ∷ max_of (codes "status") ∷ []) orders
    ≡ (text_value (codes "eu") ∷ int_value (pos 2) ∷ text_value (codes "2500") ∷ int_value (pos 5) ∷ []) ∷ (text_value (codes "us") ∷ int_value (pos 1) ∷ text_value (codes "900") ∷ int_value (pos 0) ∷ []) ∷ []
unfolding computes
by_region = refl

of_nothing : grouped_rows full [] (count_rows ∷ sum_of (codes "total") ∷ min_of (codes "note") ∷ []) [] ≡ (int_value (pos 0) ∷ null_value ∷ null_value ∷ []) ∷ []
unfolding computes
of_nothing = refl

left_on_note : join_rows kind_of_join.Left full full ((codes "note", codes "note") ∷ []) (0 ∷ 1 ∷ []) (3 ∷ []) orders orders
    ≡ (text_value (codes "eu") ∷ int_value (pos 1) ∷ int_value (pos 2500) ∷ []) ∷ (text_value (codes "eu") ∷ int_value (pos 2) ∷ int_value (pos 0) ∷ []) ∷ (text_value (codes "us") ∷ int_value (pos 1) ∷ null_value ∷ []) ∷ []
unfolding computes
left_on_note = refl

inner_on_region : map length (join_rows kind_of_join.Inner full full ((codes "region", codes "region") ∷ []) (0 ∷ 1 ∷ []) (1 ∷ 3 ∷ []) orders orders) ≡ 4 ∷ 4 ∷ 4 ∷ 4 ∷ 4 ∷ []
unfolding computes
inner_on_region = refl

relay_from_five : relay_items (record { table = 1; version = 1; from = 5; to = 8 }) (new_table version_one) version_one.columns (inserted ∷ updated ∷ [])
    ≡ header_item relay_header ∷ change_item inserted ∷ change_item updated ∷ checkpoint_item 8 ∷ []
unfolding computes
relay_from_five = refl

relay_header_frame : spelled (header_item relay_header) ≡ 1 ∷ 0 ∷ 0 ∷ 0 ∷ 14 ∷ 76 ∷ 84 ∷ 76 ∷ 79 ∷ 71 ∷ 50 ∷ 0 ∷ 0 ∷ 0 ∷ 0 ∷ 0 ∷ 0 ∷ 0 ∷ 0 ∷ []
unfolding computes
relay_header_frame = refl
