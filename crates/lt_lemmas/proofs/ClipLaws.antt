-- Keys below bounds, and in what two ranges have in common.
use Rattle.std.proofs.Common.{Equal, Greater, Less, List, Ordering, ap, false, refl, sym, true, ℕ, ◌∙◌, ◌≡◌}
use Rattle.std.specs.Prelude.{Bool, None, Option, Some, cond, not, ◌&&◌, ◌||◌}
use Rattle.std.specs.Ordering.{is_lt, ordering_reverse}
use Rattle.std.proofs.lemmas.Cmp.{nat_list_cmp_total}
use Rattle.std.proofs.lemmas.Bool.{false≢true}
use Rattle.std.proofs.lemmas.Map.Lookups.{exact_bytes}
use Rattle.lt_terms.specs.Key.{Range, below, bytes_cmp, common, in_range, is_below_high, lesser_high}
use Rattle.lt_lemmas.proofs.MergeLaws.{less}

-- ---- tests

pub and-swap : (a b : Bool) → (a && b) ≡ (b && a)
and-swap true true = refl
and-swap true false = refl
and-swap false true = refl
and-swap false false = refl

-- ---- keys below bounds

pub key-less : (a b : List ℕ) → below a b ≡ true → bytes_cmp a b ≡ Less
key-less a b h = less (bytes_cmp a b) h

pub key-trans : (a b c : List ℕ) → below a b ≡ true → below b c ≡ true → below a c ≡ true
key-trans a b c h i = ap is_lt (nat_list_cmp_total.trans a b c (key-less a b h) (key-less b c i))

upto-by : (a b c : List ℕ) (o : Ordering) → bytes_cmp a c ≡ o → below a b ≡ true → below c b ≡ false → is_lt o ≡ true
upto-by a b c Less e h i = refl
upto-by a b c Equal e h i = absurd (false≢true (sym i ∙ ap (λ k. below k b) (sym (exact_bytes a c e)) ∙ h))
upto-by a b c Greater e h i = absurd (false≢true (sym i ∙ key-trans c a b (ap is_lt (nat_list_cmp_total.antisymm c a ∙ ap ordering_reverse e)) h))

-- what is below a bound is below each greater one
pub below-upto : (a b c : List ℕ) → below a b ≡ true → below c b ≡ false → below a c ≡ true
below-upto a b c h i = upto-by a b c (bytes_cmp a c) refl h i

or-more : (x y : Bool) → (x ≡ true → y ≡ true) → y ≡ (x || y)
or-more true y h = h refl
or-more false y h = refl

or-less : (x y : Bool) → (y ≡ true → x ≡ true) → x ≡ (x || y)
or-less true y h = refl
or-less false true h = h refl
or-less false false h = refl

and-more : (x y : Bool) → (x ≡ true → y ≡ true) → x ≡ (x && y)
and-more true y h = sym (h refl)
and-more false y h = refl

and-less : (x y : Bool) → (y ≡ true → x ≡ true) → y ≡ (x && y)
and-less true y h = refl
and-less false true h = sym (h refl)
and-less false false h = refl

greater-low-by : (k a b : List ℕ) (c : Bool) → below a b ≡ c → below k (cond c b a) ≡ (below k a || below k b)
greater-low-by k a b true e = or-more (below k a) (below k b) (λ h. key-trans k a b h e)
greater-low-by k a b false e = or-less (below k a) (below k b) (λ h. below-upto k b a h e)

lesser-high-by : (k a b : List ℕ) (c : Bool) → below a b ≡ c → below k (cond c a b) ≡ (below k a && below k b)
lesser-high-by k a b true e = and-more (below k a) (below k b) (λ h. key-trans k a b h e)
lesser-high-by k a b false e = and-less (below k a) (below k b) (λ h. below-upto k b a h e)

lesser-high : (k : List ℕ) (a b : Option (List ℕ)) → is_below_high k (lesser_high a b) ≡ (is_below_high k a && is_below_high k b)
lesser-high k None b = refl
lesser-high k (Some a) None = and-swap true (below k a)
lesser-high k (Some a) (Some b) = lesser-high-by k a b (below a b) refl

four : (x y c d : Bool) → (not (x || y) && (c && d)) ≡ ((not x && c) && (not y && d))
four true y c d = refl
four false true true d = refl
four false true false d = refl
four false false c d = refl

-- a key is in what two ranges have in common where it is in both
pub in-common : (k : List ℕ) (r s : Range) → in_range k (common r s) ≡ (in_range k r && in_range k s)
in-common k r s = ap (λ b. not b && is_below_high k (lesser_high r.high s.high)) (greater-low-by k r.low s.low (below r.low s.low) refl)
    ∙ ap (λ b. not (below k r.low || below k s.low) && b) (lesser-high k r.high s.high)
    ∙ four (below k r.low) (below k s.low) (is_below_high k r.high) (is_below_high k s.high)
