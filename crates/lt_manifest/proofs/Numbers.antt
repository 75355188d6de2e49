-- What a search among numbers in order tells, and which lists have the same members.
use Rattle.std.proofs.Common.{Bool, List, [], arith, eq-eqb, false, get_or, length, ltb-false, ltb-true, refl, suc, sym, true, zero, ℕ, ◌<◌, ◌∙◌, ◌∷◌, ◌≡◌, ◌≤◌}
use Rattle.std.specs.Prelude.{Err, IsTrue, Ok, Result, is_ok, nat_lt, ◌==◌}
use Rattle.std.specs.List.Sorted.{IsBinarySearchResult, IsPermutation, IsSorted}
use Rattle.std.specs.Ordering.{nat_cmp}
use Rattle.std.proofs.lemmas.Bool.{and_parts, ne_eqb}
use Rattle.std.proofs.lemmas.List.{get_or_default}
use Rattle.std.proofs.lemmas.List.Folds.{list_any_at, list_any_none}
use Rattle.std.proofs.lemmas.List.Sorted.{IsNonDecreasingBy-from_sort, list_any-IsPermutation, searched}
use Rattle.lt_terms.specs.Value.{rises_above, rises_strictly}
use Rattle.lt_manifest.specs.Rules.{DoesRise, SameMembers, is_in}

-- what stands before a place is less, and what stands behind it is more
beside : (ns : List ℕ) (n i k : ℕ) (b : Bool) → nat_lt k i ≡ b → (k < i → get_or ns k 0 < n) → (i ≤ k → n < get_or ns k 0) → get_or ns k 0 ≡ n → ⊥
beside ns n i k true e low high same = omega (arith, low (ltb-true k i e), same)
beside ns n i k false e low high same = omega (arith, high (ltb-false k i e), same)

pub found : (ns : List ℕ) (n : ℕ) (r : Result ℕ ℕ) → DoesRise ns → IsBinarySearchResult (λ m. nat_cmp m n) ns r → is_ok r ≡ is_in ns n
found ns n (Ok i) up h =
    let at = searched ns n (Ok i) h (λ i j le lt. up i j 0 le lt) in
    sym (list_any_at (λ m. m == n) ns i 0 at.0 (eq-eqb (get_or ns i 0) n at.1))
found ns n (Err i) up h =
    let at = searched ns n (Err i) h (λ i j le lt. up i j 0 le lt) in
    sym (list_any_none (λ m. m == n) ns (λ k d lt. ne_eqb (get_or ns k d) n (λ e. beside ns n i k (nat_lt k i) refl (λ low. at.1 k low) (λ high. at.2 k high lt) (sym (get_or_default ns k d 0 lt) ∙ e))))

above : (low : ℕ) (ns : List ℕ) → IsTrue (rises_above low ns) → (j d : ℕ) → j < length ns → low < get_or ns j d
above low [] h j d lt = absurd (omega (arith, lt))
above low (n ∷ ns) h zero d lt = ltb-true low n (and_parts (nat_lt low n) (rises_above n ns) h).0
above low (n ∷ ns) h (suc j) d lt =
    let p = and_parts (nat_lt low n) (rises_above n ns) h in
    omega (arith, ltb-true low n p.0, above n ns p.1 j d (omega (arith, lt)))

rising : (low : ℕ) (ns : List ℕ) → IsTrue (rises_above low ns) → DoesRise ns
rising low [] h i j d le lt = absurd (omega (arith, lt))
rising low (n ∷ ns) h zero zero d le lt = omega arith
rising low (n ∷ ns) h zero (suc j) d le lt = omega (arith, above n ns (and_parts (nat_lt low n) (rises_above n ns) h).1 j d (omega (arith, lt)))
rising low (n ∷ ns) h (suc i) zero d le lt = absurd (omega (arith, le))
rising low (n ∷ ns) h (suc i) (suc j) d le lt = rising n ns (and_parts (nat_lt low n) (rises_above n ns) h).1 i j d (omega (arith, le)) (omega (arith, lt))

pub does_rise : (ns : List ℕ) → IsTrue (rises_strictly ns) → DoesRise ns
does_rise [] h i j d le lt = absurd (omega (arith, lt))
does_rise (n ∷ ns) h zero zero d le lt = omega arith
does_rise (n ∷ ns) h zero (suc j) d le lt = omega (arith, above n ns h j d (omega (arith, lt)))
does_rise (n ∷ ns) h (suc i) zero d le lt = absurd (omega (arith, le))
does_rise (n ∷ ns) h (suc i) (suc j) d le lt = rising n ns h i j d (omega (arith, le)) (omega (arith, lt))

pub sorted_rises : (ns : List ℕ) → IsSorted nat_cmp ns → DoesRise ns
sorted_rises ns h = IsNonDecreasingBy-from_sort (λ n. n) ns h

pub shuffled : (ns ms : List ℕ) → IsPermutation ms ns → SameMembers ns ms
shuffled ns ms p n = sym (list_any-IsPermutation (λ m. m == n) ms ns p)
