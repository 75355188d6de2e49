-- Worked frames, streams and snapshots, computed.
use Rattle.std.specs.Str.{chars, is_utf8}
use lib.Utf8.{encode}
use Rattle.std.proofs.Common.{[], pos, refl, true, ◌∷◌, ◌≡◌}
use Rattle.std.specs.Prelude.{None, Some, codes}
use Rattle.lt_terms.specs.Conversion.{at_rank, number_of_text}
use Rattle.lt_terms.specs.Log.{change_item, checkpoint_item, header_item, spelled}
use Rattle.lt_terms.specs.Value.{int_value, text_value}
use Rattle.lt_tables.specs.Schema.{carrier, carrier_layout, new_table, schema_fault, version_not_next}
use Rattle.lt_tables.specs.Fair.{breaks, is_fair, late, point_of}
use Rattle.lt_tables.specs.Row.{snapshot}
pub use Rattle.lt_examples.specs.Examples.{head, inserted, one_table, updated, version_one}

computes : Unit {0}
unfolding is_utf8 chars encode at_rank number_of_text carrier carrier_layout schema_fault spelled breaks point_of snapshot
computes = tt

header_frame : spelled (header_item head) ≡ 1 ∷ 0 ∷ 0 ∷ 0 ∷ 13 ∷ 76 ∷ 84 ∷ 76 ∷ 79 ∷ 71 ∷ 49 ∷ 0 ∷ 0 ∷ 0 ∷ 0 ∷ 0 ∷ 0 ∷ 0 ∷ []
unfolding computes
header_frame = refl

checkpoint_frame : spelled (checkpoint_item 7) ≡ 3 ∷ 0 ∷ 0 ∷ 0 ∷ 8 ∷ 0 ∷ 0 ∷ 0 ∷ 0 ∷ 0 ∷ 0 ∷ 0 ∷ 7 ∷ []
unfolding computes
checkpoint_frame = refl

insert_frame : spelled (change_item inserted) ≡ 2 ∷ 0 ∷ 0 ∷ 0 ∷ 48 ∷ 0 ∷ 0 ∷ 0 ∷ 0 ∷ 0 ∷ 0 ∷ 0 ∷ 5 ∷ 0 ∷ 0 ∷ 0 ∷ 1 ∷ 0 ∷ 0 ∷ 0 ∷ 1 ∷ 1 ∷ 1 ∷ 1 ∷ 0 ∷ 0 ∷ 0 ∷ 0 ∷ 0 ∷ 0 ∷ 0 ∷ 1 ∷ 0 ∷ 2 ∷ 0 ∷ 1 ∷ 2 ∷ 0 ∷ 0 ∷ 0 ∷ 0 ∷ 0 ∷ 0 ∷ 0 ∷ 10 ∷ 0 ∷ 2 ∷ 3 ∷ 0 ∷ 0 ∷ 0 ∷ 1 ∷ 120 ∷ []
unfolding computes
insert_frame = refl

version_accepted : schema_fault [] version_one ≡ None
unfolding computes
version_accepted = refl

version_again : schema_fault one_table version_one ≡ Some (version_not_next 2)
unfolding computes
version_again = refl

stream_fair : is_fair head one_table (change_item inserted ∷ checkpoint_item 6 ∷ change_item updated ∷ checkpoint_item 9 ∷ []) ≡ true
unfolding computes
stream_fair = refl

change_late : breaks head one_table (change_item inserted ∷ checkpoint_item 8 ∷ []) (change_item updated) ≡ Some (late 8)
unfolding computes
change_late = refl

snapshot_after_update : snapshot (inserted ∷ updated ∷ []) (new_table version_one) version_one.columns 9
    ≡ record { key = 0 ∷ 0 ∷ 0 ∷ 1 ∷ 128 ∷ 0 ∷ 0 ∷ 0 ∷ 0 ∷ 0 ∷ 0 ∷ 1 ∷ []; row = int_value (pos 1) ∷ int_value (pos 11) ∷ text_value (codes "x") ∷ [] } ∷ []
unfolding computes
snapshot_after_update = refl

snapshot_before : snapshot (inserted ∷ updated ∷ []) (new_table version_one) version_one.columns 4 ≡ []
unfolding computes
snapshot_before = refl
