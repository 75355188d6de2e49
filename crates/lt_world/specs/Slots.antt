-- The two root slots at the front of a store file, and which of them counts.
use Rattle.std.specs.Prelude.{Bool, IsTrue, List, codes, false, length, nat_le, nat_lt, slice_index, ℕ, ◌&&◌, ◌*◌, ◌++◌, ◌+◌, ◌-◌, ◌<◌, ◌==◌, ◌^◌, ◌≡◌, ◌≤◌, ◌⊎◌}
use Rattle.lt_terms.specs.Log.{u64}
use Rattle.lt_terms.specs.declared.Root.{Root}
use Rattle.lt_terms.specs.declared.Extent.{Extent}
use Rattle.lt_world.specs.Disk.{bytes_at, zeros}

-- ---- root slots

abbrev pub open_gate : ℕ
open_gate = 165

abbrev pub slot_place : ℕ → ℕ
slot_place slot = 512 * slot

-- a slot's first 511 bytes; the gate follows
abbrev pub slot_body : ℕ → ℕ → ℕ → List ℕ
slot_body generation place len = codes "LTROOT" ++ (u64 generation ++ (u64 place ++ (u64 len ++ zeros 481)))

abbrev pub gate_of : List ℕ → ℕ → ℕ
gate_of image slot = slice_index image (slot_place slot + 511)

abbrev pub is_open : List ℕ → ℕ → Bool
is_open image slot = gate_of image slot == open_gate

abbrev pub is_root : ℕ → ℕ → ℕ → Bool
is_root generation place len = nat_lt 0 generation && nat_lt generation (2 ^ 64) && nat_le 1024 place && nat_lt place (2 ^ 64) && nat_lt 0 len && nat_lt len (2 ^ 64)

-- the open slot's body spells the root
pub record IsSlot (image : List ℕ) (r : Root) : Type 0 where
  pub open_now : IsTrue (is_open image r.slot)
  pub lawful : IsTrue (is_root r.generation r.place r.length)
  pub spells : bytes_at image (slot_place r.slot) 511 ≡ slot_body r.generation r.place r.length

-- of the open slots the one with the greater generation counts
pub record CountsAsRoot (image : List ℕ) (r : Root) : Type 0 where
  pub is_slot : IsSlot image r
  pub which : r.slot < 2
  pub greater : IsTrue (is_open image (1 - r.slot)) → (other : Root) × IsSlot image other × (other.slot ≡ 1 - r.slot) × (other.generation < r.generation)

-- no gate is open
abbrev pub HasNoStore : List ℕ → Type 0
HasNoStore image = (is_open image 0 ≡ false) × (is_open image 1 ≡ false)

-- ---- when an opening finds damage

-- the place and length name what should be read: a root slot, the manifest, an index or a bundle; and what stands there is not of the
-- grammar, or meets another extent, the slots or the limit
abbrev pub slots_extent : ℕ → Extent
slots_extent n = record { place = 512 * n; length = 512 }

abbrev pub IsDamagedSlot : List ℕ → Extent → Type 0
IsDamagedSlot image e = ((n : ℕ) × (n < 2) × (e ≡ slots_extent n) × IsTrue (is_open image n) × ((r : Root) → r.slot ≡ n → IsSlot image r → ⊥)
    × ((m : ℕ) → m < n → IsTrue (is_open image m) → (r : Root) × (r.slot ≡ m) × IsSlot image r))
    ⊎ ((e ≡ record { place = 0; length = 1024 }) × ((r q : Root) × IsSlot image r × IsSlot image q × (r.slot ≡ 0) × (q.slot ≡ 1) × (r.generation ≡ q.generation)))

-- ---- a disk

-- an image holds a root, and both slots stand within it
abbrev pub HasRoot : Root → List ℕ → Type 0
HasRoot r image = CountsAsRoot image r × (1024 ≤ length image)
