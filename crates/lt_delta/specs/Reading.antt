-- What the readers of an index answer.
use Rattle.std.specs.Prelude.{IfSome, List, None, Option, Some, ⊤, ℕ, ◌≡◌}
use Rattle.std.specs.declared.result.Result.{Result}
use Rattle.std.specs.declared.result.Result.TheVariants.{Err, Ok}
use Rattle.lt_terms.specs.declared.Extent.{Extent}
use Rattle.lt_world.specs.Disk.{CountsOne, DiskState, LeftOnly, bytes_in}
use Rattle.lt_storage.specs.Store.{IsIndex, TableIndex, index_bytes}
use Rattle.lt_delta.specs.declared.refusal.DeltaRefusal.{DeltaRefusal}
use Rattle.lt_delta.specs.declared.refusal.DeltaRefusal.TheVariants as refusals
use Rattle.lt_delta.specs.declared.stop.Stop.{Stop}
use Rattle.lt_delta.specs.declared.stop.Stop.TheVariants as stops

-- ---- bytes

-- where reading stopped, it gives nothing, unless memory ran out
abbrev pub Stops : {A : Type 0} → Option A → Stop → Type 0
Stops read stops.Unlike = read ≡ None
Stops read stops.Memory = ⊤

-- a reader answered what reading gives, as its callers see it, and left the rest
abbrev pub Gives : {X A : Type 0} → (X → A) → Option (A × List ℕ) → Result X Stop → List ℕ → Type 0
Gives view read (Ok x) left = read ≡ Some (view x, left)
Gives view read (Err e) left = Stops read e

-- the same of a whole text
abbrev pub GivesWhole : {X A : Type 0} → (X → A) → Option A → Result X Stop → Type 0
GivesWhole view read (Ok x) = read ≡ Some (view x)
GivesWhole view read (Err e) = Stops read e

-- ---- whole indexes

-- an index of the grammar
abbrev pub IsLawful : List TableIndex → Type 0
IsLawful ts = IsIndex ts (index_bytes ts)

-- no index of the grammar has these bytes
abbrev pub IsNoIndex : List ℕ → Type 0
IsNoIndex bytes = (ts : List TableIndex) → IsIndex ts bytes → ⊥

-- why bytes are not read as an index; out of memory is always allowed
abbrev pub StopsIndex : List ℕ → Stop → Type 0
StopsIndex bytes stops.Unlike = IsNoIndex bytes
StopsIndex bytes stops.Memory = ⊤

-- ---- extents

-- what one read leaves of a disk
pub record OnlyReads (old new : DiskState) : Type 0 where
  -- it reads as before
  pub told : new.told ≡ old.told
  -- a crash leaves what it might have left before, at each moment
  pub images : LeftOnly old new old.leaves
  -- at most one read was made, and nothing was written
  pub reads : CountsOne old.reads new.reads
  pub write_faults : new.write_faults ≡ old.write_faults

-- why the bytes of an extent are not read; a fault of the disk has its cause in the disk's count
abbrev pub RefusesBytes : DeltaRefusal → Type 0
RefusesBytes refusals.Disk = ⊤
RefusesBytes (refusals.Damaged place len) = ⊥
RefusesBytes (refusals.StoreFull need room) = ⊥
RefusesBytes refusals.Memory = ⊤

-- why nothing is read at an extent: damage is that of the extent, where what stands there is as it says
abbrev pub RefusesRead : (List ℕ → Type 0) → Option (List ℕ) → Extent → DeltaRefusal → Type 0
RefusesRead Damage told at refusals.Disk = ⊤
RefusesRead Damage told at (refusals.Damaged place len) = (place ≡ at.place) × (len ≡ at.length) × IfSome told (λ image. Damage (bytes_in image at))
RefusesRead Damage told at (refusals.StoreFull need room) = ⊥
RefusesRead Damage told at refusals.Memory = ⊤
