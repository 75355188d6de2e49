-- Extents are given back, one after another.
use Rattle.std.proofs.Common.{List, ap, arith, get_or, refl, subst, sym, ℕ, ◌++◌, ◌+◌, ◌<◌, ◌∷◌, ◌≡◌}
use Rattle.std.specs.Prelude.{Contains, drop, length}
use Rattle.std.specs.List.Sorted.{IsPermutation}
use Rattle.std.proofs.lemmas.List.{drop_more}
use Rattle.std.proofs.lemmas.List.Sorted.{Contains-permutation, sum_by-IsPermutation}
use Rattle.std.proofs.lemmas.List.Sums.{sum_by-append, sum_by-cons}
use Rattle.lt_terms.specs.declared.Extent.{Extent}
use Rattle.lt_space.specs.Extents.{Extents, Takes}
use Rattle.lt_store.proofs.Counting.{count, from_counts, same, without}

pub took : (e : Extent) (old new : Extents) → Takes e old new → (x : Extent) → count x new.taken ≡ count x old.taken + same x e
took e old new t x = omega (arith, ap (count x) t.were, ap (count x) t.are, sum_by-append (same x) t.before t.after, sum_by-append (same x) t.before (e ∷ t.after), sum_by-cons (same x) e t.after)

-- one is taken, another one given back, and what leaves is still taken
pub still_taken : (root e : Extent) (leaving rest : List Extent) (old after given : Extents) → Takes e old after → Takes root given after → IsPermutation (root ∷ (leaving ++ rest)) old.taken → IsPermutation (leaving ++ e ∷ rest) given.taken
still_taken root e leaving rest old after given takes gives p = from_counts (leaving ++ e ∷ rest) given.taken (λ x.
    omega (
      arith,
      sum_by-append (same x) leaving (e ∷ rest),
      sum_by-cons (same x) e rest,
      sum_by-IsPermutation (same x) (root ∷ (leaving ++ rest)) old.taken p,
      sum_by-cons (same x) root (leaving ++ rest),
      sum_by-append (same x) leaving rest,
      took e old after takes x,
      took root given after gives x,
    ))

-- the next one is taken
pub next_taken : (xs rest taken : List Extent) (i : ℕ) (d : Extent) → i < length xs → IsPermutation (drop i xs ++ rest) taken → Contains taken (get_or xs i d)
next_taken xs rest taken i d within p =
    Contains-permutation (get_or xs i d ∷ (drop (i + 1) xs ++ rest)) taken (get_or xs i d) (subst (λ (l : List Extent). IsPermutation (l ++ rest) taken) (drop_more xs i d within) p) (0, omega arith, refl)

-- and once it is given back the others are
pub one_less : (xs rest : List Extent) (before after : Extents) (i : ℕ) (d : Extent) → i < length xs → Takes (get_or xs i d) after before → IsPermutation (drop i xs ++ rest) before.taken → IsPermutation (drop (i + 1) xs ++ rest) after.taken
one_less xs rest before after i d within t p =
    let first : IsPermutation (get_or xs i d ∷ (drop (i + 1) xs ++ rest)) (t.before ++ get_or xs i d ∷ t.after) = subst (IsPermutation (get_or xs i d ∷ (drop (i + 1) xs ++ rest))) t.are (subst (λ (l : List Extent). IsPermutation (l ++ rest) before.taken) (drop_more xs i d within) p) in
    subst (IsPermutation (drop (i + 1) xs ++ rest)) (sym t.were) (without (drop (i + 1) xs ++ rest) t.before t.after (get_or xs i d) first)
