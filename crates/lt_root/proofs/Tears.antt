-- What tears in the slot that does not count leave of the root.
use Rattle.std.proofs.Common.{List, [], ap, arith, false, get_or, inl, inr, length, refl, subst, sym, ℕ, ◌+◌, ◌-◌, ◌++◌, ◌<◌, ◌∙◌, ◌∷◌, ◌≡◌, ◌≤◌, ◌⊎◌}
use Rattle.std.specs.Prelude.{IsTrue}
use Rattle.std.proofs.lemmas.Bool.{cases_Bool, cases_eq, eq-eqb}
use Rattle.lt_terms.specs.declared.Root.{Root}
use Rattle.lt_world.specs.Disk.{StaysOutside, bytes_at, with_bytes, zeros}
use Rattle.lt_world.specs.Slots.{HasRoot}
use Rattle.lt_world.specs.Slots.{IsSlot, gate_of, is_open, is_root, open_gate, slot_place}
use Rattle.lt_disk.proofs.Written.{bytes_written, same_bytes, written_inside, written_length}
use Rattle.lt_root.specs.Roots.{body_of, gate_place}
use Rattle.lt_root.proofs.Choosing.{counts_alone}
use Rattle.lt_root.proofs.SlotLaws.{SameIn, open_same, slot_same}

-- what lies outside the range of a tear reads the same
same_outside : (a b : List ℕ) (place len from size : ℕ) → StaysOutside place len a b → from + size ≤ length a → (from + size ≤ place) ⊎ (place + len ≤ from) → SameIn from size a b
same_outside a b place len from size stays within (inl before) i low high = stays.others i (omega (arith, high, within)) (inl (omega (arith, high, before)))
same_outside a b place len from size stays within (inr behind) i low high = stays.others i (omega (arith, high, within)) (inr (omega (arith, low, behind)))

-- two slots that are the two of a file
abbrev pub AreOthers : ℕ → ℕ → Type 0
AreOthers slot other = (slot < 2) × (other ≡ 1 - slot)

-- a tear within one of two slots leaves the other one
other_same : (slot other place len : ℕ) (a b : List ℕ) → AreOthers slot other → slot_place other ≤ place → place + len ≤ slot_place other + 512 → 1024 ≤ length a → StaysOutside place len a b → SameIn (slot_place slot) 512 a b
other_same slot other place len a b (low, is) begins ends long stays = same_outside a b place len (slot_place slot) 512 stays (omega (arith, low, long)) (elim (cases_eq slot 0) [
  | inl zero ↦ inl (omega (arith, zero, is, begins))
  | inr one ↦ inr (omega (arith, one, low, is, ends))
])

module _ (r : Root) (other : ℕ) (others : AreOthers r.slot other) where
  -- while the gate of the other slot is closed, the root counts, whatever becomes of that gate
  pub closing_keeps : (a c : List ℕ) → HasRoot r a → IsTrue (is_open a other) → StaysOutside (gate_place other) 1 a c → HasRoot r c
  closing_keeps a c has gate stays = (
    record {
      is_slot = slot_same r a c (other_same r.slot other (gate_place other) 1 a c others (omega arith) (omega arith) has.1 stays) has.0.is_slot;
      which = others.0;
      greater = λ still.
          let found = has.0.greater (subst (λ n. IsTrue (is_open a n)) others.1 gate) in
          let there : found.0.slot ≡ other = found.2 ∙ sym others.1 in
          let body : SameIn (slot_place found.0.slot) 511 a c = same_outside a c (gate_place other) 1 (slot_place found.0.slot) 511 stays (omega (arith, there, others.0, others.1, has.1)) (inl (omega (arith, there))) in (
            found.0,
            record {
              open_now = subst (λ n. IsTrue (is_open c n)) (sym found.2) still;
              lawful = found.1.lawful;
              spells = same_bytes a c (slot_place found.0.slot) 511 body ∙ found.1.spells;
            },
            found.2,
            found.3,
          );
    },
    omega (arith, has.1, stays.longer),
  )

  -- behind a closed gate the body may tear
  pub body_keeps : (a c : List ℕ) → HasRoot r a → is_open a other ≡ false → StaysOutside (slot_place other) 511 a c → HasRoot r c × (is_open c other ≡ false)
  body_keeps a c has closed stays =
      let gate : is_open c other ≡ false = open_same other a c (same_outside a c (slot_place other) 511 (slot_place other + 511) 1 stays (omega (arith, others.0, others.1, has.1)) (inr (omega arith))) ∙ closed in
      let is_slot = slot_same r a c (other_same r.slot other (slot_place other) 511 a c others (omega arith) (omega arith) has.1 stays) has.0.is_slot in
      ((counts_alone c r other is_slot others.0 others.1 gate, omega (arith, has.1, stays.longer)), gate)

  -- once the next root's body stands there, its gate decides
  module _ (n : Root) (there : n.slot ≡ other) (later : r.generation < n.generation) (lawful : IsTrue (is_root n.generation n.place n.length)) where
    body_same : (a c : List ℕ) → 1024 ≤ length a → StaysOutside (gate_place other) 1 a c → bytes_at a (slot_place other) 511 ≡ body_of n → bytes_at c (slot_place n.slot) 511 ≡ body_of n
    body_same a c long stays spelled =
        ap (λ s. bytes_at c (slot_place s) 511) there ∙ same_bytes a c (slot_place other) 511 (same_outside a c (gate_place other) 1 (slot_place other) 511 stays (omega (arith, others.0, others.1, long)) (inl (omega arith))) ∙ spelled

    pub opened : (a c : List ℕ) → HasRoot r a → bytes_at a (slot_place other) 511 ≡ body_of n → StaysOutside (gate_place other) 1 a c → IsTrue (is_open c other) → HasRoot n c
    opened a c has spelled stays gate =
        let former = slot_same r a c (other_same r.slot other (gate_place other) 1 a c others (omega arith) (omega arith) has.1 stays) has.0.is_slot in (
          record {
            is_slot = record { open_now = subst (λ s. IsTrue (is_open c s)) (sym there) gate; lawful = lawful; spells = body_same a c has.1 stays spelled };
            which = omega (arith, there, others.1);
            greater = λ _. (r, former, omega (arith, there, others.0, others.1), later);
          },
          omega (arith, has.1, stays.longer),
        )

    pub opening : (a c : List ℕ) → HasRoot r a → bytes_at a (slot_place other) 511 ≡ body_of n → StaysOutside (gate_place other) 1 a c → HasRoot r c ⊎ HasRoot n c
    opening a c has spelled stays = elim (cases_Bool (is_open c other)) [
      | inl gate ↦ inr (opened a c has spelled stays gate)
      | inr closed ↦
          let former = slot_same r a c (other_same r.slot other (gate_place other) 1 a c others (omega arith) (omega arith) has.1 stays) has.0.is_slot in
          inl (counts_alone c r other former others.0 others.1 closed, omega (arith, has.1, stays.longer))
    ]

-- ---- the writes themselves

pub body_written : (a : List ℕ) (n : Root) (slot : ℕ) → bytes_at (with_bytes a (slot_place slot) (body_of n)) (slot_place slot) 511 ≡ body_of n
body_written a n slot = bytes_written a (slot_place slot) (body_of n)

pub gate_written : (a : List ℕ) (slot : ℕ) → IsTrue (is_open (with_bytes a (gate_place slot) (165 ∷ [])) slot)
gate_written a slot =
    let image = with_bytes a (gate_place slot) (165 ∷ []) in
    eq-eqb (gate_of image slot) open_gate (ap (λ n. get_or image n 0) (let e : gate_place slot ≡ gate_place slot + 0 = omega arith in e) ∙ written_inside a (gate_place slot) (165 ∷ []) 0 (omega arith))

-- ---- the first root

-- both slots as they are written, and then the gate of the first
pub laid : (a slots : List ℕ) (n : Root) → slots ≡ body_of n ++ zeros 513 → with_bytes (with_bytes a 0 slots) 511 (165 ∷ []) ≡ with_bytes a 0 (body_of n ++ (165 ∷ zeros 512))
laid a slots n is = ap (λ s. with_bytes (with_bytes a 0 s) 511 (165 ∷ [])) is

pub first_made : (a : List ℕ) (n : Root) → n.slot ≡ 0 → IsTrue (is_root n.generation n.place n.length) → HasRoot n (with_bytes a 0 (body_of n ++ (165 ∷ zeros 512)))
first_made a n zero lawful =
    let image = with_bytes a 0 (body_of n ++ (165 ∷ zeros 512)) in
    let is_slot : IsSlot image n = record { open_now = subst (λ s. IsTrue (is_open image s)) (sym zero) refl; lawful = lawful; spells = ap (λ s. bytes_at image (slot_place s) 511) zero } in
    (counts_alone image n 1 is_slot (omega (arith, zero)) (omega (arith, zero)) refl, omega (arith, written_length a 0 (body_of n ++ (165 ∷ zeros 512))))
