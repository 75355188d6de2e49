-- Low bounds that rise, and how many of them a key passes.
use Rattle.std.proofs.Common.{Bool, List, Some, [], ap, arith, false, get_or, inl, inr, le-ltb, lt-ltb, refl, subst, suc, sym, true, zero, ℕ, ◌<◌, ◌∙◌, ◌∷◌, ◌≡◌}
use Rattle.std.specs.Prelude.{IsTrue, nat_lt, not, slice_get}
use Rattle.std.specs.List.Sorted.{IsPartitionPoint, IsPartitionedBy}
use Rattle.std.proofs.lemmas.Bool.{and_parts, cases_lt, false≢true}
use Rattle.std.proofs.lemmas.Option.{get_or_from_slice_get, none-some, same_Some, slice_get-get_or, slice_get_within}
use Rattle.lt_terms.specs.Key.{below, rise}
use Rattle.lt_lemmas.proofs.PointLaws.{below_trans}
use Rattle.lt_lemmas.proofs.SoundLaws.{pick}
use Rattle.lt_lemmas.proofs.SplitLaws.{not_below_itself, not_below_trans, rise_rest}
use Rattle.lt_parts.specs.declared.entry.PartEntry.{PartEntry}
use Rattle.lt_parts.specs.Parts.{lows_of}

-- ---- bounds

pub is_false : (b : Bool) → (b ≡ true → ⊥) → b ≡ false
is_false true f = absurd (f refl)
is_false false f = refl

pub untrue : (b : Bool) → not b ≡ false → b ≡ true
untrue true e = refl
untrue false e = sym e

pub not_above : (a b : List ℕ) → below a b ≡ true → below b a ≡ false
not_above a b h = is_false (below b a) (λ e. false≢true (sym (not_below_itself a) ∙ below_trans a b a h e))

-- a bound that is not above one below a third is below the third
pub up_to_below : (a b c : List ℕ) → below b a ≡ false → below b c ≡ true → below a c ≡ true
up_to_below a b c h i = pick (below a c) (λ e. e) (λ e. absurd (false≢true (sym (not_below_trans b a c h e) ∙ i)))

pub below_up_to : (a b c : List ℕ) → below a b ≡ true → below c b ≡ false → below a c ≡ true
below_up_to a b c h i = pick (below a c) (λ e. e) (λ e. absurd (false≢true (sym (not_below_trans a c b e i) ∙ h)))

-- ---- they rise

head_below : (e : PartEntry) (es : List PartEntry) → IsTrue (rise (lows_of (e ∷ es))) → (j : ℕ) (x : PartEntry) → slice_get es j ≡ Some x → below e.low x.low ≡ true
head_below e [] r j x h = absurd (none-some x h)
head_below e (f ∷ es) r zero x h = subst (λ (y : PartEntry). below e.low y.low ≡ true) (same_Some f x h) (and_parts (below e.low f.low) (rise (lows_of (f ∷ es))) r).0
head_below e (f ∷ es) r (suc j) x h = let p = and_parts (below e.low f.low) (rise (lows_of (f ∷ es))) r in below_trans e.low f.low x.low p.0 (head_below f es p.1 j x h)

pub lows_rise : (es : List PartEntry) → IsTrue (rise (lows_of es)) → (i j : ℕ) (x y : PartEntry) → slice_get es i ≡ Some x → slice_get es j ≡ Some y → i < j → below x.low y.low ≡ true
lows_rise [] r i j x y h k l = absurd (none-some x h)
lows_rise (e ∷ es) r zero zero x y h k l = absurd (omega (arith, l))
lows_rise (e ∷ es) r (suc i) zero x y h k l = absurd (omega (arith, l))
lows_rise (e ∷ es) r zero (suc j) x y h k l = subst (λ (z : PartEntry). below z.low y.low ≡ true) (same_Some e x h) (head_below e es r j y k)
lows_rise (e ∷ es) r (suc i) (suc j) x y h k l = lows_rise es (rise_rest e.low (lows_of es) r) i j x y h k (omega (arith, l))

-- ---- a test that the first ones pass

parted : (p : PartEntry → Bool) (es : List PartEntry) → IsTrue (rise (lows_of es)) → ((x y : PartEntry) → below x.low y.low ≡ true → p y ≡ true → p x ≡ true) → IsPartitionedBy p es
parted p es r step i j d le lt e = elim (cases_lt i j) [
  | inl l ↦ step (get_or es i d) (get_or es j d) (lows_rise es r i j (get_or es i d) (get_or es j d) (slice_get-get_or es i d (omega (arith, l, lt))) (slice_get-get_or es j d lt) l) e
  | inr g ↦ subst (λ k. p (get_or es k d) ≡ true) (let s : j ≡ i = omega (arith, g, le) in s) e
]

pub parted_below : (bound : List ℕ) (es : List PartEntry) → IsTrue (rise (lows_of es)) → IsPartitionedBy (λ e. below e.low bound) es
parted_below bound es r = parted (λ e. below e.low bound) es r (λ x y h e. below_trans x.low y.low bound h e)

pub parted_up_to : (key : List ℕ) (es : List PartEntry) → IsTrue (rise (lows_of es)) → IsPartitionedBy (λ e. not (below key e.low)) es
parted_up_to key es r = parted (λ e. not (below key e.low)) es r (λ x y h e. pick (below key x.low)
    (λ k. absurd (false≢true (ap not (sym (below_trans key x.low y.low k h)) ∙ e)))
    (λ k. ap not k))

pub counted : (p : PartEntry → Bool) (es : List PartEntry) (n : ℕ) → IsPartitionPoint (λ y. p y ≡ true) (λ y. p y ≡ false) es n → (i : ℕ) (x : PartEntry) → slice_get es i ≡ Some x → p x ≡ nat_lt i n
counted p es n point i x h =
    let here : get_or es i x ≡ x = get_or_from_slice_get es i x x h in
    elim (cases_lt i n) [
      | inl l ↦ ap p (sym here) ∙ point.0 i x (omega arith) l ∙ sym (lt-ltb i n l)
      | inr g ↦ ap p (sym here) ∙ point.1 i x g (slice_get_within es i x h) ∙ sym (le-ltb i n g)
    ]
