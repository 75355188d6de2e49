-- Which of the two slots counts.
use Rattle.std.proofs.Common.{List, None, Option, Some, ap, arith, false, get_or, inl, inr, length, refl, subst, sym, zero-add, ℕ, ◌-◌, ◌*◌, ◌<◌, ◌∙◌, ◌≡◌}
use Rattle.std.specs.Prelude.{IfSome, IsTrue}
use Rattle.std.proofs.lemmas.Bool.{both_ways}
use Rattle.lt_terms.specs.declared.Root.{Root}
use Rattle.lt_world.specs.Disk.{Reads, bytes_at}
use Rattle.lt_world.specs.Slots.{IsDamagedSlot}
use Rattle.lt_world.specs.Slots.{CountsAsRoot, IsSlot, is_open}
use Rattle.lt_root.specs.declared.refusal.RootRefusal.{RootRefusal}
use Rattle.lt_root.specs.Roots.{AreSlots, IsHurt, RefusesRoot}
use Rattle.lt_disk.proofs.Written.{byte_at}
use Rattle.lt_root.proofs.SlotLaws.{SameSlots, counts_same, refused_same}

pub counts_first : (image : List ℕ) (first second : Root) → AreSlots image first second → second.generation < first.generation → CountsAsRoot image first
counts_first image first second are less = record { is_slot = are.zero; which = omega (arith, are.at_zero); greater = λ gate. (second, are.one, omega (arith, are.at_zero, are.at_one), less) }

pub counts_second : (image : List ℕ) (first second : Root) → AreSlots image first second → first.generation < second.generation → CountsAsRoot image second
counts_second image first second are less = record { is_slot = are.one; which = omega (arith, are.at_one); greater = λ gate. (first, are.zero, omega (arith, are.at_zero, are.at_one), less) }

pub counts_alone : (image : List ℕ) (r : Root) (other : ℕ) → IsSlot image r → r.slot < 2 → other ≡ 1 - r.slot → is_open image other ≡ false → CountsAsRoot image r
counts_alone image r other is_slot which there closed = record {
  is_slot = is_slot;
  which = which;
  greater = λ gate. absurd (both_ways (is_open image other) closed (ap (is_open image) there ∙ gate));
}

pub both_equal : (image : List ℕ) (first second : Root) → AreSlots image first second → first.generation ≡ second.generation → IsDamagedSlot image (record { place = 0; length = 1024 })
both_equal image first second are same = inr (refl, (first, second, are.zero, are.one, are.at_zero, are.at_one, same))

refused_by : (image : List ℕ) (slot : ℕ) (e : RootRefusal) → IsHurt image slot e → IsDamagedSlot image (record { place = 512 * slot; length = 512 }) → RefusesRoot image e
refused_by image slot e hurt damaged = subst (RefusesRoot image) (sym hurt.0) damaged

pub first_hurt : (image : List ℕ) (e : RootRefusal) → IsHurt image 0 e → RefusesRoot image e
first_hurt image e hurt = refused_by image 0 e hurt (inl (0, omega arith, refl, hurt.1, hurt.2, (λ m less gate. absurd (omega (arith, less)))))

-- the second, where the first is closed or says a root
pub second_hurt : (image : List ℕ) (e : RootRefusal) → (IsTrue (is_open image 0) → (r : Root) × (r.slot ≡ 0) × IsSlot image r) → IsHurt image 1 e → RefusesRoot image e
second_hurt image e before hurt = refused_by image 1 e hurt (inl (
  1,
  omega arith,
  refl,
  hurt.1,
  hurt.2,
  (λ m less gate.
      let zero_is : m ≡ 0 = omega (arith, less) in
      let found = before (subst (λ n. IsTrue (is_open image n)) zero_is gate) in
      (found.0, found.1 ∙ sym zero_is, found.2)),
))

-- ---- the slots as a disk reads them

same_read : (image slots : List ℕ) → length slots ≡ 1024 → slots ≡ bytes_at image 0 (length slots) → SameSlots slots image
same_read image slots size is i low high =
    ap (λ n. get_or image n 0) (sym (zero-add i)) ∙ sym (byte_at image 0 (length slots) i (omega (arith, size, high))) ∙ ap (λ l. get_or l i 0) (sym is)

pub counts_told : (told : Option (List ℕ)) (slots : List ℕ) (r : Root) → length slots ≡ 1024 → Reads told 0 slots → CountsAsRoot slots r → IfSome told (λ image. CountsAsRoot image r)
counts_told None slots r size reads counts = tt
counts_told (Some image) slots r size reads counts = counts_same r slots image (same_read image slots size reads) counts

pub refused_told : (told : Option (List ℕ)) (slots : List ℕ) (e : RootRefusal) → length slots ≡ 1024 → Reads told 0 slots → RefusesRoot slots e → IfSome told (λ image. RefusesRoot image e)
refused_told None slots e size reads refused = tt
refused_told (Some image) slots e size reads refused = refused_same e slots image (same_read image slots size reads) refused
