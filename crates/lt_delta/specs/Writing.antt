-- What a write to free space leaves of the disk and of the space, and why it is refused.
use Rattle.std.specs.Prelude.{Contains, IfSome, List, Some, length, ⊤, ℕ, ◌≡◌}
use Rattle.std.specs.declared.result.Result.{Result}
use Rattle.std.specs.declared.result.Result.TheVariants.{Err, Ok}
use Rattle.lt_terms.specs.declared.Extent.{Extent}
use Rattle.lt_world.specs.Disk.{DiskState, LeftOnly, with_bytes}
use Rattle.lt_world.specs.Extents.{IsFull, IsLowestGap}
use Rattle.lt_space.specs.Extents.{AreApart, Extents, Takes}
use Rattle.lt_disk.specs.Within.{IsWithin, ReadsWithin}
use Rattle.lt_delta.specs.declared.refusal.DeltaRefusal.{DeltaRefusal}
use Rattle.lt_delta.specs.declared.refusal.DeltaRefusal.TheVariants as refusals

-- the lowest gap of a length is taken, and nothing else
pub record TakesGap (old new : Extents) (len : ℕ) (e : Extent) : Type 0 where
  pub lowest : IsLowestGap old.limit old.taken len e
  pub taken : Takes e old new
  pub there : Contains new.taken e
  pub apart : AreApart new

-- nothing but an extent changes: in each image, at each moment, and in what reads
pub record WritesAt (old new : DiskState) (e : Extent) : Type 0 where
  pub images : LeftOnly old new (IsWithin old e.place e.length)
  pub reads : ReadsWithin e.place e.length old new

-- the bytes were written to the lowest gap, which is taken
pub record Wrote (old new : DiskState) (before after : Extents) (bytes : List ℕ) (e : Extent) : Type 0 where
  pub takes : TakesGap before after (length bytes) e
  pub writes : WritesAt old new e
  pub told : IfSome old.told (λ a. new.told ≡ Some (with_bytes a e.place bytes))

-- only the lowest gap that fits was written to
pub record WritesGap (old new : DiskState) (space : Extents) (bytes : List ℕ) : Type 0 where
  pub extent : Extent
  pub gap : IsLowestGap space.limit space.taken (length bytes) extent
  pub writes : WritesAt old new extent

-- why no gap of a length is taken; out of memory is always allowed
abbrev pub RefusesGap : Extents → ℕ → DeltaRefusal → Type 0
RefusesGap space len refusals.Disk = ⊥
RefusesGap space len (refusals.Damaged place length) = ⊥
RefusesGap space len (refusals.StoreFull need room) = (need ≡ len) × IsFull space.limit space.taken need room
RefusesGap space len refusals.Memory = ⊤

-- why bytes are not written; a fault of the disk has its cause in the disk's count
abbrev pub RefusesWrite : DiskState → DiskState → Extents → List ℕ → DeltaRefusal → Type 0
RefusesWrite old new space bytes refusals.Disk = WritesGap old new space bytes
RefusesWrite old new space bytes (refusals.Damaged place length) = ⊥
RefusesWrite old new space bytes (refusals.StoreFull need room) = RefusesGap space (length bytes) (refusals.StoreFull need room)
RefusesWrite old new space bytes refusals.Memory = ⊤

-- an answer as that of a call of the disk: only a fault of the disk is an error there
abbrev pub of_disk : {A : Type 0} → Result A DeltaRefusal → Result (Unit {0}) (Unit {0})
of_disk (Ok x) = Ok tt
of_disk (Err refusals.Disk) = Err tt
of_disk (Err (refusals.Damaged place len)) = Ok tt
of_disk (Err (refusals.StoreFull need room)) = Ok tt
of_disk (Err refusals.Memory) = Ok tt
