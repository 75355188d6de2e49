-- What calls leave of a disk outside a range, and after a sync.
use Rattle.std.specs.Prelude.{IfSome, List, ℕ}
use Rattle.lt_world.specs.Disk.{DiskState, Only, StaysOutside}
use Rattle.lt_world.specs.Object.{StaysTold}

-- an image that came of one of the old ones, and is as that one outside a range
abbrev pub IsWithin : DiskState → ℕ → ℕ → List ℕ → Type 0
IsWithin old place len image = (a : List ℕ) × old.leaves a × StaysOutside place len a image

-- outside a range what reads stays, where it is told
abbrev pub ReadsWithin : ℕ → ℕ → DiskState → DiskState → Type 0
ReadsWithin place len old new = StaysTold old.told new.told × IfSome old.told (λ a. IfSome new.told (StaysOutside place len a))

-- a crash leaves what reads, and nothing else
abbrev pub IsStable : DiskState → Type 0
IsStable disk = IfSome disk.told (λ image. Only image disk.leaves)
