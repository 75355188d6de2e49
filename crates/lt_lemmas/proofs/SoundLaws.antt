-- Ranges that have a key in common meet.
use Rattle.std.proofs.Common.{Bool, List, false, refl, subst, sym, true, ℕ, ◌∙◌, ◌≡◌}
use Rattle.std.specs.Prelude.{None, Option, Some, not}
use Rattle.std.proofs.lemmas.Bool.{and_from}
use Rattle.lt_terms.specs.Key.{Range, below, common, in_range, is_below_high, meets, same_key}
use Rattle.lt_lemmas.proofs.PointLaws.{above, below_trans, left, right, same}
use Rattle.lt_lemmas.proofs.ClipLaws.{in-common}

-- ---- tests and lists

pub not-true : (b : Bool) → not b ≡ true → b ≡ false
not-true true h = sym h
not-true false h = refl

pub twice : (b : Bool) → b ≡ true → not (not b) ≡ true
twice true h = refl
twice false h = h

-- ---- two ranges with a key in common meet

pub low-high : (k low : List ℕ) (high : Option (List ℕ)) (b : Bool) → same_key k low ≡ b → below k low ≡ false → is_below_high k high ≡ true → is_below_high low high ≡ true
low-high k low None b s h e = refl
low-high k low (Some x) true s h e = subst (λ (y : List ℕ). below y x ≡ true) (same k low s) e
low-high k low (Some x) false s h e = below_trans low k x (above k low h s) e

pub meets-by : (k : List ℕ) (r s : Range) → in_range k r ≡ true → in_range k s ≡ true → meets r s ≡ true
meets-by k r s a b =
    let e : in_range k (common r s) ≡ true = in-common k r s ∙ and_from _ _ a b in
    twice (is_below_high (common r s).low (common r s).high) (low-high k (common r s).low (common r s).high (same_key k (common r s).low) refl
    (not-true (below k (common r s).low) (left (not (below k (common r s).low)) _ e)) (right (not (below k (common r s).low)) _ e))

-- ---- the two cases of a test

pub pick : {X : Type 0} (b : Bool) → (b ≡ true → X) → (b ≡ false → X) → X
pick true f g = f refl
pick false f g = g refl
