-- The checkpoints of the partitions, as the streams say.
use Rattle.std.specs.Prelude.{List, Some, [], map, slice_get, zip, ℕ, ◌≡◌}
use Rattle.lt_terms.specs.Key.{Range}
use Rattle.lt_tables.specs.Pump.{StreamAt}
use Rattle.lt_machine.specs.Machine.{checkpoint_at}
use Rattle.lt_tables.specs.Pump.{Part}
use Rattle.lt_parts.specs.Parts.{checkpoints_of, ranges}
use Rattle.lt_parts.specs.declared.entry.PartEntry.{PartEntry}

-- there are no deltas
abbrev pub part_of_entry : PartEntry → Part
part_of_entry e = record { low = e.low; resume = e.resume; ids = [] }

-- each partition's checkpoint is kept as the streams say
abbrev pub AreSettled : List PartEntry → List StreamAt → Type 0
AreSettled es ss = checkpoints_of es ≡ map (λ x. checkpoint_at ss (part_of_entry x.0) x.1) (zip es (ranges es))

-- how far the partition at a place is durable, and its checkpoint
pub record HasTimes (es : List PartEntry) (ss : List StreamAt) (part durable checkpoint : ℕ) : Type 0 where
  pub entry : PartEntry
  pub range : Range
  pub here : slice_get es part ≡ Some entry
  pub its : slice_get (ranges es) part ≡ Some range
  pub is_durable : durable ≡ entry.resume
  pub is_checkpoint : checkpoint ≡ checkpoint_at ss (part_of_entry entry) range
