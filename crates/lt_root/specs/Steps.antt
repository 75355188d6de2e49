-- What a commit and its steps leave of a disk.
use Rattle.std.specs.Prelude.{IfSome, IsTrue, List, ℕ, ◌-◌, ◌<◌, ◌≡◌, ◌≤◌, ◌⊎◌}
use Rattle.std.specs.declared.result.Result.{Result}
use Rattle.std.specs.declared.result.Result.TheVariants.{Err, Ok}
use Rattle.lt_terms.specs.declared.Root.{Root}
use Rattle.lt_world.specs.Disk.{DiskState, LeavesNow, StaysOutside}
use Rattle.lt_world.specs.Slots.{HasRoot}
use Rattle.lt_world.specs.Slots.{is_open, slot_place}
use Rattle.lt_root.specs.Roots.{gate_place}
use Rattle.lt_root.specs.declared.refusal.CommitFault.{CommitFault}
use Rattle.lt_root.specs.declared.refusal.CommitFault.TheVariants as faults

-- an image that holds a new root, and that outside its slot is what read before
abbrev pub HasCommitted : Root → List ℕ → List ℕ → Type 0
HasCommitted r seen image = HasRoot r image × StaysOutside (slot_place r.slot) 512 seen image

-- The old root counts in each image after a commit. It did before, and a manifest may stand at the place of the next root.
abbrev pub KeepsRoot : DiskState → DiskState → Root → ℕ → ℕ → Type 0
KeepsRoot old new r place len = IfSome old.told (λ _. 1024 ≤ place → 0 < len → LeavesNow old (HasRoot r) → LeavesNow new (HasRoot r))

-- Each image has all that read before the commit, but in the slot of the next root.
abbrev pub KeepsOthers : DiskState → DiskState → Root → ℕ → ℕ → Type 0
KeepsOthers old new r place len = IfSome old.told (λ seen. 1024 ≤ place → 0 < len → LeavesNow old (HasRoot r) → LeavesNow new (StaysOutside (slot_place (1 - r.slot)) 512 seen))

-- an image that is as one of the old ones, or differs from it by a gate alone, and that where the gate reads as open
abbrev pub IsClosing : DiskState → ℕ → List ℕ → Type 0
IsClosing old slot image = (a : List ℕ) × old.leaves a × ((image ≡ a) ⊎ (IfSome old.told (λ t. IsTrue (is_open t slot)) × StaysOutside (gate_place slot) 1 a image))

-- an answer as that of a write or a sync: a fault in a read is none there
abbrev pub of_write : {A : Type 0} → Result A CommitFault → Result (Unit {0}) (Unit {0})
of_write (Ok x) = Ok tt
of_write (Err faults.Read) = Ok tt
of_write (Err faults.Write) = Err tt
