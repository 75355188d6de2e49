-- Ranges that meet have a key in common; bounds that rise.
use Rattle.std.proofs.Common.{Bool, List, [], ap, false, refl, subst, sym, true, ℕ, ◌∙◌, ◌∷◌, ◌≡◌}
use Rattle.std.specs.Ordering.{is_eq, is_lt}
use Rattle.std.specs.declared.cmp.Ordering.{Ordering}
use Rattle.std.specs.declared.cmp.Ordering.TheVariants.{Equal, Greater, Less}
use Rattle.std.proofs.lemmas.Bool.{and_from, and_parts, false≢true}
use Rattle.std.specs.Prelude.{IsTrue, Some, not}
use Rattle.lt_terms.specs.Key.{Range, below, bytes_cmp, common, first_bound, in_range, is_below_high, meets, rise, same_key}
use Rattle.lt_lemmas.proofs.PointLaws.{above, below_trans, itself, same}
use Rattle.lt_lemmas.proofs.SoundLaws.{pick}
use Rattle.lt_lemmas.proofs.ClipLaws.{in-common}

-- ---- keys and ranges

equal_not_less : (o : Ordering) → is_eq o ≡ true → is_lt o ≡ false
equal_not_less Less h = cc
equal_not_less Equal h = refl
equal_not_less Greater h = cc

pub not_below_itself : (k : List ℕ) → below k k ≡ false
not_below_itself k = equal_not_less (bytes_cmp k k) (itself k)

pub is_false : (b : Bool) → (b ≡ true → ⊥) → b ≡ false
is_false true f = absurd (f refl)
is_false false f = refl

pub not_below_trans : (a b c : List ℕ) → below a b ≡ false → below b c ≡ false → below a c ≡ false
not_below_trans a b c h i = is_false (below a c) (λ e. pick (same_key a b)
    (λ s. false≢true (sym i ∙ ap (λ (x : List ℕ). below x c) (sym (same a b s)) ∙ e))
    (λ s. false≢true (sym i ∙ below_trans b a c (above a b h s) e)))

untwice : (b : Bool) → not (not b) ≡ true → b ≡ true
untwice true h = refl
untwice false h = h

-- ranges that meet have a key in common
pub meets_some : (x q : Range) → meets x q ≡ true → (k : List ℕ) × (in_range k x ≡ true) × (in_range k q ≡ true)
meets_some x q h =
    let c = common x q in
    let k = c.low in
    let i : in_range k c ≡ true = and_from _ _ (ap not (not_below_itself k)) (untwice (is_below_high c.low c.high) h) in
    let p = and_parts (in_range k x) (in_range k q) (sym (in-common k x q) ∙ i) in
    (k, p.0, p.1)

-- ---- bounds that rise

pub rise_first : (a b : List ℕ) (xs : List (List ℕ)) → IsTrue (rise (a ∷ xs)) → first_bound xs ≡ Some b → below a b ≡ true
rise_first a b [] h e = cc
rise_first a b (c ∷ xs) h e = let d : c ≡ b = cc in subst (λ (x : List ℕ). below a x ≡ true) d (and_parts (below a c) (rise (c ∷ xs)) h).0

pub rise_rest : (a : List ℕ) (xs : List (List ℕ)) → IsTrue (rise (a ∷ xs)) → IsTrue (rise xs)
rise_rest a [] h = refl
rise_rest a (c ∷ xs) h = (and_parts (below a c) (rise (c ∷ xs)) h).1
