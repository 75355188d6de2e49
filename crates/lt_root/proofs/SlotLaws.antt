-- What the bytes of a slot say, and what images that read the same in a slot say of it.
use Rattle.std.proofs.Common.{List, ap, ap₂, arith, drop, get_or, inl, inr, length, subst, sym, take, ℕ, ◌*◌, ◌+◌, ◌-◌, ◌++◌, ◌^◌, ◌<◌, ◌∙◌, ◌≡◌, ◌≤◌}
use Rattle.std.specs.Prelude.{IsTrue, nat_le, nat_lt, ◌&&◌, ◌==◌}
use Rattle.std.specs.Int.{from_be_bytes, to_be_bytes, w64}
use Rattle.std.proofs.lemmas.Bool.{and_from, and_parts, eq-eqb, le-leb, lt-ltb, ltb-true}
use Rattle.lt_terms.specs.declared.Extent.{Extent}
use Rattle.lt_terms.specs.declared.Root.{Root}
use Rattle.lt_terms.specs.Log.{u64}
use Rattle.lt_world.specs.Disk.{bytes_at, zeros}
use Rattle.lt_world.specs.Slots.{IsDamagedSlot}
use Rattle.lt_world.specs.Slots.{CountsAsRoot, HasNoStore, IsSlot, gate_of, is_open, is_root, open_gate, slot_place}
use Rattle.lt_codecs.proofs.Codecs.{wide64}
use Rattle.lt_disk.proofs.Written.{bytes_within, same_bytes}
use Rattle.lt_root.specs.declared.refusal.RootRefusal.{RootRefusal}
use Rattle.lt_root.specs.declared.refusal.RootRefusal.TheVariants as refusals
use Rattle.lt_root.specs.Roots.{RefusesRoot, body_of}

-- ---- bytes

-- the numbers of a root fit 64 bits
pub record Fits (r : Root) : Type 0 where
  pub generation : r.generation < 2 ^ 64
  pub place : r.place < 2 ^ 64
  pub long : r.length < 2 ^ 64

pub fits : (r : Root) → IsTrue (is_root r.generation r.place r.length) → Fits r
fits r h =
    let a = and_parts (nat_lt 0 r.generation && nat_lt r.generation (2 ^ 64) && nat_le 1024 r.place && nat_lt r.place (2 ^ 64) && nat_lt 0 r.length) (nat_lt r.length (2 ^ 64)) h in
    let b = and_parts (nat_lt 0 r.generation && nat_lt r.generation (2 ^ 64) && nat_le 1024 r.place && nat_lt r.place (2 ^ 64)) (nat_lt 0 r.length) a.0 in
    let c = and_parts (nat_lt 0 r.generation && nat_lt r.generation (2 ^ 64) && nat_le 1024 r.place) (nat_lt r.place (2 ^ 64)) b.0 in
    let d = and_parts (nat_lt 0 r.generation && nat_lt r.generation (2 ^ 64)) (nat_le 1024 r.place) c.0 in
    let e = and_parts (nat_lt 0 r.generation) (nat_lt r.generation (2 ^ 64)) d.0 in
    record { generation = ltb-true r.generation (2 ^ 64) e.1; place = ltb-true r.place (2 ^ 64) c.1; long = ltb-true r.length (2 ^ 64) a.1 }

pub lawful_root : (generation place len : ℕ) → 0 < generation → generation < 2 ^ 64 → 1024 ≤ place → place < 2 ^ 64 → 0 < len → len < 2 ^ 64 → IsTrue (is_root generation place len)
lawful_root generation place len a b c d e f =
    and_from (nat_lt 0 generation && nat_lt generation (2 ^ 64) && nat_le 1024 place && nat_lt place (2 ^ 64) && nat_lt 0 len) (nat_lt len (2 ^ 64))
    (and_from (nat_lt 0 generation && nat_lt generation (2 ^ 64) && nat_le 1024 place && nat_lt place (2 ^ 64)) (nat_lt 0 len)
    (and_from (nat_lt 0 generation && nat_lt generation (2 ^ 64) && nat_le 1024 place) (nat_lt place (2 ^ 64))
    (and_from (nat_lt 0 generation && nat_lt generation (2 ^ 64)) (nat_le 1024 place)
    (and_from (nat_lt 0 generation) (nat_lt generation (2 ^ 64)) (lt-ltb 0 generation a) (lt-ltb generation (2 ^ 64) b))
    (le-leb 1024 place c))
    (lt-ltb place (2 ^ 64) d))
    (lt-ltb 0 len e))
    (lt-ltb len (2 ^ 64) f)

number_back : (bytes rest : List ℕ) (at n : ℕ) → n < 2 ^ 64 → drop at bytes ≡ to_be_bytes w64 n ++ rest → from_be_bytes w64 (take 8 (drop at bytes)) ≡ n
number_back bytes rest at n lt is = ap (λ l. from_be_bytes w64 (take 8 l)) is ∙ wide64.again n lt

pub generation_back : (r : Root) (bytes : List ℕ) → IsTrue (is_root r.generation r.place r.length) → bytes ≡ body_of r → from_be_bytes w64 (take 8 (drop 6 bytes)) ≡ r.generation
generation_back r bytes lawful is = number_back bytes (u64 r.place ++ (u64 r.length ++ zeros 481)) 6 r.generation (fits r lawful).generation (ap (drop 6) is)

pub place_back : (r : Root) (bytes : List ℕ) → IsTrue (is_root r.generation r.place r.length) → bytes ≡ body_of r → from_be_bytes w64 (take 8 (drop 14 bytes)) ≡ r.place
place_back r bytes lawful is = number_back bytes (u64 r.length ++ zeros 481) 14 r.place (fits r lawful).place (ap (drop 14) is)

pub length_back : (r : Root) (bytes : List ℕ) → IsTrue (is_root r.generation r.place r.length) → bytes ≡ body_of r → from_be_bytes w64 (take 8 (drop 22 bytes)) ≡ r.length
length_back r bytes lawful is = number_back bytes (zeros 481) 22 r.length (fits r lawful).long (ap (drop 22) is)

pub same_root : (a b : Root) → a.generation ≡ b.generation → a.place ≡ b.place → a.length ≡ b.length → a.slot ≡ b.slot → a ≡ b
same_root a b p q r s =
    ap₂ (λ (generation place : ℕ). root_of generation place a.length a.slot) p q ∙ ap₂ (root_of b.generation b.place) r s
  where
    root_of : ℕ → ℕ → ℕ → ℕ → Root
    root_of generation place len slot = record { generation = generation; place = place; length = len; slot = slot }

-- ---- a slot of the two as they stand in the file

module _ (slots : List ℕ) (n slot : ℕ) (size : length slots ≡ 1024) (within : slot < 2) (is : n ≡ slot) where
  read_there : take (512 * n + 511 - 512 * n) (drop (512 * n) slots) ≡ bytes_at slots (slot_place slot) 511
  read_there =
      let len : 512 * n + 511 - 512 * n ≡ 511 = omega arith in
      ap₂ (λ (count at : ℕ). take count (drop (512 * at) slots)) len is ∙ bytes_within slots (slot_place slot) 511 (omega (arith, size, within))

  pub open_there : get_or slots (512 * n + 511) 0 ≡ 165 → IsTrue (is_open slots slot)
  open_there gate = eq-eqb (gate_of slots slot) open_gate (ap (λ at. get_or slots (512 * at + 511) 0) (sym is) ∙ gate)

  pub slot_there : (r : Root) → get_or slots (512 * n + 511) 0 ≡ 165 → take (512 * n + 511 - 512 * n) (drop (512 * n) slots) ≡ body_of r → IsTrue (is_root r.generation r.place r.length) → r.slot ≡ slot → IsSlot slots r
  slot_there r gate spells lawful here = record {
    open_now = subst (λ s. IsTrue (is_open slots s)) (sym here) (open_there gate);
    lawful = lawful;
    spells = ap (λ s. bytes_at slots (slot_place s) 511) here ∙ sym read_there ∙ spells;
  }

  pub none_there : ((r : Root) → IsTrue (is_root r.generation r.place r.length) → take (512 * n + 511 - 512 * n) (drop (512 * n) slots) ≡ body_of r → ⊥) → (r : Root) → r.slot ≡ slot → IsSlot slots r → ⊥
  none_there none r here is_slot = none r is_slot.lawful (read_there ∙ ap (λ s. bytes_at slots (slot_place s) 511) (sym here) ∙ is_slot.spells)

-- ---- images that read the same in a range

abbrev pub SameIn : ℕ → ℕ → List ℕ → List ℕ → Type 0
SameIn from size a b = (i : ℕ) → from ≤ i → i < from + size → get_or b i 0 ≡ get_or a i 0

pub same_back : (from size : ℕ) (a b : List ℕ) → SameIn from size a b → SameIn from size b a
same_back from size a b same i low high = sym (same i low high)

pub open_same : (slot : ℕ) (a b : List ℕ) → SameIn (slot_place slot + 511) 1 a b → is_open b slot ≡ is_open a slot
open_same slot a b same = ap (λ gate. gate == open_gate) (same (slot_place slot + 511) (omega arith) (omega arith))

pub slot_same : (r : Root) (a b : List ℕ) → SameIn (slot_place r.slot) 512 a b → IsSlot a r → IsSlot b r
slot_same r a b same is = record {
  open_now = open_same r.slot a b (λ i low high. same i (omega (arith, low)) (omega (arith, high))) ∙ is.open_now;
  lawful = is.lawful;
  spells = same_bytes a b (slot_place r.slot) 511 (λ i low high. same i low (omega (arith, high))) ∙ is.spells;
}

-- below both slots' end
abbrev pub SameSlots : List ℕ → List ℕ → Type 0
SameSlots a b = SameIn 0 1024 a b

pub in_slot : (slot : ℕ) (a b : List ℕ) → slot < 2 → SameSlots a b → SameIn (slot_place slot) 512 a b
in_slot slot a b within same i low high = same i (omega arith) (omega (arith, high, within))

pub open_in : (slot : ℕ) (a b : List ℕ) → slot < 2 → SameSlots a b → is_open b slot ≡ is_open a slot
open_in slot a b within same = open_same slot a b (λ i low high. same i (omega arith) (omega (arith, high, within)))

pub counts_same : (r : Root) (a b : List ℕ) → SameSlots a b → CountsAsRoot a r → CountsAsRoot b r
counts_same r a b same counts = record {
  is_slot = slot_same r a b (in_slot r.slot a b counts.which same) counts.is_slot;
  which = counts.which;
  greater = λ gate.
      let other = counts.greater (sym (open_in (1 - r.slot) a b (omega arith) same) ∙ gate) in
      (other.0, slot_same other.0 a b (in_slot other.0.slot a b (omega (arith, other.2)) same) other.1, other.2, other.3);
}

pub no_store_same : (a b : List ℕ) → SameSlots a b → HasNoStore a → HasNoStore b
no_store_same a b same none = (open_in 0 a b (omega arith) same ∙ none.0, open_in 1 a b (omega arith) same ∙ none.1)

pub damaged_same : (e : Extent) (a b : List ℕ) → SameSlots a b → IsDamagedSlot a e → IsDamagedSlot b e
damaged_same e a b same (inl (n, within, is, gate, none, before)) = inl (
  n,
  within,
  is,
  open_in n a b within same ∙ gate,
  (λ r here is_slot. none r here (slot_same r b a (same_back (slot_place r.slot) 512 a b (in_slot r.slot a b (omega (arith, here, within)) same)) is_slot)),
  (λ m less gate_m. let found = before m less (sym (open_in m a b (omega (arith, less, within)) same) ∙ gate_m) in (found.0, found.1, slot_same found.0 a b (in_slot found.0.slot a b (omega (arith, found.1, less, within)) same) found.2)),
)
damaged_same e a b same (inr (is, (r, q, r_is, q_is, r_here, q_here, equal))) = inr (
  is,
  (
    r,
    q,
    slot_same r a b (in_slot r.slot a b (omega (arith, r_here)) same) r_is,
    slot_same q a b (in_slot q.slot a b (omega (arith, q_here)) same) q_is,
    r_here,
    q_here,
    equal,
  ),
)

pub refused_same : (e : RootRefusal) (a b : List ℕ) → SameSlots a b → RefusesRoot a e → RefusesRoot b e
refused_same refusals.NoStore a b same none = no_store_same a b same none
refused_same (refusals.Damaged place len) a b same hurt = damaged_same (record { place = place; length = len }) a b same hurt
refused_same refusals.Disk a b same free = tt
