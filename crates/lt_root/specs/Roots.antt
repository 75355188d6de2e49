-- The root slots: what each says, which counts, and why none does.
use Rattle.std.specs.Prelude.{IsTrue, List, ⊤, ℕ, ◌++◌, ◌+◌, ◌-◌, ◌∷◌, ◌≡◌}
use Rattle.std.specs.declared.result.Result.{Result}
use Rattle.std.specs.declared.result.Result.TheVariants.{Err, Ok}
use Rattle.lt_terms.specs.declared.Root.{Root}
use Rattle.lt_world.specs.Disk.{zeros}
use Rattle.lt_world.specs.Slots.{HasNoStore, IsSlot, is_open, open_gate, slot_body, slot_place}
use Rattle.lt_world.specs.Slots.{IsDamagedSlot}
use Rattle.lt_root.specs.declared.refusal.RootRefusal.{RootRefusal}
use Rattle.lt_root.specs.declared.refusal.RootRefusal.TheVariants as refusals

-- the root of a new store
abbrev pub first_root : ℕ → ℕ → Root
first_root place len = record { generation = 1; place = place; length = len; slot = 0 }

-- the other slot, with the next generation
abbrev pub next_root : Root → ℕ → ℕ → Root
next_root r place len = record { generation = r.generation + 1; place = place; length = len; slot = 1 - r.slot }

-- a slot's first 511 bytes
abbrev pub body_of : Root → List ℕ
body_of r = slot_body r.generation r.place r.length

-- both slots as a new store has them: the first open, the second empty
abbrev pub first_slots : ℕ → ℕ → List ℕ
first_slots place len = body_of (first_root place len) ++ (open_gate ∷ zeros 512)

-- where a slot's gate stands
abbrev pub gate_place : ℕ → ℕ
gate_place slot = slot_place slot + 511

-- the slot is open, and what stands before its gate is no root
abbrev pub IsHurt : List ℕ → ℕ → RootRefusal → Type 0
IsHurt image slot refusal = (refusal ≡ refusals.Damaged (slot_place slot) 512) × IsTrue (is_open image slot) × ((r : Root) → r.slot ≡ slot → IsSlot image r → ⊥)

-- both slots are open, and say these
pub record AreSlots (image : List ℕ) (first second : Root) : Type 0 where
  pub zero : IsSlot image first
  pub one : IsSlot image second
  pub at_zero : first.slot ≡ 0
  pub at_one : second.slot ≡ 1

-- why no root is loaded; a fault of the disk has its cause in the disk's count
abbrev pub RefusesRoot : List ℕ → RootRefusal → Type 0
RefusesRoot image refusals.NoStore = HasNoStore image
RefusesRoot image (refusals.Damaged place len) = IsDamagedSlot image (record { place = place; length = len })
RefusesRoot image refusals.Disk = ⊤

-- an answer as that of a call of the disk: only a fault of the disk is an error there
abbrev pub of_disk : Result Root RootRefusal → Result (Unit {0}) (Unit {0})
of_disk (Ok r) = Ok tt
of_disk (Err refusals.NoStore) = Ok tt
of_disk (Err (refusals.Damaged place len)) = Ok tt
of_disk (Err refusals.Disk) = Err tt
