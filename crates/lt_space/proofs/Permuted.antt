-- Lists of the same extents in another order.
use Rattle.std.proofs.Common.{List, ap, arith, get_or, inl, inr, length, refl, sym, ℕ, ◌<◌, ◌∙◌, ◌≡◌, ◌≢◌}
use Rattle.std.specs.Prelude.{Some, slice_get, swap}
use Rattle.std.specs.List.Sorted.{IsPermutation}
use Rattle.std.proofs.lemmas.Bool.{cases_eq}
use Rattle.std.proofs.lemmas.List.Edits.{length-swap, swapped_from_swap}
use Rattle.std.proofs.lemmas.List.Sorted.{Contains-permutation, IsPermutation-keeps, IsPermutation-sym}
use Rattle.std.proofs.lemmas.Option.{get_or_from_slice_get, slice_get-get_or, slice_get_within}
use Rattle.lt_terms.specs.declared.Extent.{Extent}
use Rattle.lt_world.specs.Extents.{IsMisplaced, MeetsAnother}
use Rattle.lt_space.specs.Extents.{IsOverlap}

-- where the item at n stands after those at a and b have changed their places
pub data Moves (a b n k : ℕ) : Type 0 where
  to_second : n ≡ a → k ≡ b → Moves a b n k
  to_first : n ≡ b → k ≡ a → Moves a b n k
  stays : n ≢ a → n ≢ b → k ≡ n → Moves a b n k

moved : {X : Type 0} (xs : List X) (a b n : ℕ) (x : X) → a < length xs → b < length xs → slice_get xs n ≡ Some x → (k : ℕ) × (slice_get (swap xs a b) k ≡ Some x) × Moves a b n k
moved xs a b n x a_within b_within there =
    let swapped = swapped_from_swap xs (swap xs a b) a b x a_within b_within refl in
    let size = length-swap xs a b in
    let here : get_or xs n x ≡ x = get_or_from_slice_get xs n x x there in
    elim (cases_eq n a) [
      | inl first ↦ (b, slice_get-get_or (swap xs a b) b x (omega (arith, size, b_within)) ∙ ap Some (swapped.1 ∙ ap (λ i. get_or xs i x) (sym first) ∙ here), to_second first refl)
      | inr not_first ↦ elim (cases_eq n b) [
        | inl second ↦ (a, slice_get-get_or (swap xs a b) a x (omega (arith, size, a_within)) ∙ ap Some (swapped.0 ∙ ap (λ i. get_or xs i x) (sym second) ∙ here), to_first second refl)
        | inr not_second ↦ (n, slice_get-get_or (swap xs a b) n x (omega (arith, size, slice_get_within xs n x there)) ∙ ap Some (swapped.2 n not_first not_second ∙ here), stays not_first not_second refl)
      ]
    ]

moved_apart : (a b n m k l : ℕ) → Moves a b n k → Moves a b m l → n ≢ m → k ≢ l
moved_apart a b n m k l (to_second p q) (to_second r s) other same = other (omega (arith, p, r))
moved_apart a b n m k l (to_second p q) (to_first r s) other same = other (omega (arith, p, q, r, s, same))
moved_apart a b n m k l (to_second p q) (stays r s t) other same = s (omega (arith, q, t, same))
moved_apart a b n m k l (to_first p q) (to_second r s) other same = other (omega (arith, p, q, r, s, same))
moved_apart a b n m k l (to_first p q) (to_first r s) other same = other (omega (arith, p, r))
moved_apart a b n m k l (to_first p q) (stays r s t) other same = r (omega (arith, q, t, same))
moved_apart a b n m k l (stays p q u) (to_second r s) other same = q (omega (arith, u, s, same))
moved_apart a b n m k l (stays p q u) (to_first r s) other same = p (omega (arith, u, s, same))
moved_apart a b n m k l (stays p q u) (stays r s t) other same = other (omega (arith, u, t, same))

meets_permuted : (xs ys : List Extent) (e : Extent) → IsPermutation xs ys → MeetsAnother xs e → MeetsAnother ys e
meets_permuted xs ys e permuted meets =
    IsPermutation-keeps xs (λ l. MeetsAnother l e) meets
    (λ l a b a_within b_within (n, m, f, other, at_n, at_m, not_apart).
    let first = moved l a b n e a_within b_within at_n in
    let second = moved l a b m f a_within b_within at_m in
    (first.0, second.0, f, moved_apart a b n m first.0 second.0 first.2 second.2 other, first.1, second.1, not_apart))
    ys permuted

pub misplaced_permuted : (limit : ℕ) (xs ys : List Extent) (e : Extent) → IsPermutation xs ys → IsMisplaced limit xs e → IsMisplaced limit ys e
misplaced_permuted limit xs ys e permuted (here, inl alone) = (Contains-permutation xs ys e permuted here, inl alone)
misplaced_permuted limit xs ys e permuted (here, inr meets) = (Contains-permutation xs ys e permuted here, inr (meets_permuted xs ys e permuted meets))

pub overlap_permuted : (limit : ℕ) (xs ys : List Extent) (place : ℕ) → IsPermutation xs ys → IsOverlap limit xs place → IsOverlap limit ys place
overlap_permuted limit xs ys place permuted o = record {
  extent = o.extent;
  misplaced = misplaced_permuted limit xs ys o.extent permuted o.misplaced;
  here = o.here;
  least = λ e is. o.least e (misplaced_permuted limit ys xs e (IsPermutation-sym xs ys permuted) is);
}
