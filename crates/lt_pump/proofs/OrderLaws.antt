-- Subscriptions in the order of their low bounds: the one of a key is the last that begins up to it, or none.
use Rattle.std.proofs.Common.{Bool, List, [], ap, arith, false, get_or, inl, inr, refl, subst, suc, sym, take, true, zero, ℕ, ◌++◌, ◌+◌, ◌-◌, ◌<◌, ◌≤◌, ◌∙◌, ◌∷◌, ◌≡◌, length, map, slice_index_or}
use Rattle.std.specs.Prelude.{None, Option, Some, not, slice_get, ◌&&◌}
use Rattle.std.specs.List.{All}
use Rattle.std.specs.List.Sorted.{IsPartitionPoint, IsPartitionedBy, IsPermutation, IsSortedBy}
use Rattle.std.proofs.lemmas.Bool.{and_from, and_parts, cases_eq, cases_lt, false≢true}
use Rattle.std.proofs.lemmas.Cmp.{nat_list_cmp_total}
use Rattle.std.proofs.lemmas.List.{get_or_default}
use Rattle.std.proofs.lemmas.List.MinMax.{ranks_by}
use Rattle.std.proofs.lemmas.List.Sorted.{All-permutation, IsPermutation-sym, sorted_far}
use Rattle.lt_terms.specs.Key.{Range, below, in_range, is_below_high}
use Rattle.lt_core.specs.View.{view_range}
use Rattle.lt_lemmas.proofs.SoundLaws.{pick}
use Rattle.lt_lemmas.proofs.SplitLaws.{not_below_itself, not_below_trans}
use Rattle.lt_pump.specs.Given.{AreApart, AreDisjoint, HasKey, IsOutOfAll}
use Rattle.lt_pump.specs.Order.{AreByLow, AreOrdered, AreOwners, IsOutside, IsOwner}
use Rattle.lt_pump.specs.View.{view_subscription}
use Rattle.lt_pump.specs.declared.owners.Owner.{Owner}
use Rattle.lt_pump.specs.declared.subscription.Subscription.{Subscription}
use Rattle.lt_pump.proofs.GivenLaws.{all_there}
use Rattle.lt_pump.proofs.SubLaws.{mapped_there}

abbrev pub low_of : Owner → List ℕ
low_of o = o.sub.now.range.low

abbrev pub lower : Owner → Owner → Bool
lower a b = below (low_of a) (low_of b)

abbrev pub begins : List ℕ → Owner → Bool
begins key o = not (below key (low_of o))

is_false : (b : Bool) → (b ≡ true → ⊥) → b ≡ false
is_false true f = absurd (f refl)
is_false false f = refl

not_true : (b : Bool) → not b ≡ true → b ≡ false
not_true true e = sym e
not_true false e = refl

not_false : (b : Bool) → not b ≡ false → b ≡ true
not_false true e = refl
not_false false e = sym e

-- ---- keys and low bounds

below_kept : (low key : List ℕ) (high : Option (List ℕ)) → below key low ≡ false → is_below_high key high ≡ true → is_below_high low high ≡ true
below_kept low key None l h = refl
below_kept low key (Some high) l h = pick (below low high) (λ e. e) (λ e. absurd (false≢true (sym (not_below_trans key low high l e) ∙ h)))

-- a bound between the low bound and a key of a range is in the range
between : (low key : List ℕ) (r : Range) → below key low ≡ false → below low r.low ≡ false → in_range key r ≡ true → in_range low r ≡ true
between low key r l m i = and_from (not (below low r.low)) (is_below_high low r.high) (ap not m) (below_kept low key r.high l (and_parts (not (below key r.low)) (is_below_high key r.high) i).1)

low_within : (key : List ℕ) (r : Range) → in_range key r ≡ true → in_range r.low r ≡ true
low_within key r i = between r.low key r (not_true (below key r.low) (and_parts (not (below key r.low)) (is_below_high key r.high) i).0) (not_below_itself r.low) i

too_low : (key : List ℕ) (r : Range) → not (below key r.low) ≡ false → in_range key r ≡ false
too_low key r e = ap (λ b. b && is_below_high key r.high) e

-- a range without its low bound has no keys
pub no_keys : (key : List ℕ) (r : Range) → in_range r.low r ≡ false → in_range key r ≡ false
no_keys key r e = is_false (in_range key r) (λ i. false≢true (sym e ∙ low_within key r i))

-- ---- two places

apart_later : (subs : List (Range × ℕ)) (i j : ℕ) (s t : Range × ℕ) → AreDisjoint subs → slice_get subs i ≡ Some s → slice_get subs j ≡ Some t → i < j → AreApart s.0 t.0
apart_later [] i j s t d a b l = absurd cc
apart_later (x ∷ xs) zero zero s t d a b l = absurd (omega (arith, l))
apart_later (x ∷ xs) zero (suc j) s t d a b l = let e : x ≡ s = cc in subst (λ (y : Range × ℕ). AreApart y.0 t.0) e (all_there (λ y. AreApart x.0 y.0) xs j t d.0 b)
apart_later (x ∷ xs) (suc i) zero s t d a b l = absurd (omega (arith, l))
apart_later (x ∷ xs) (suc i) (suc j) s t d a b l = apart_later xs i j s t d.1 a b (omega (arith, l))

apart : (subs : List (Range × ℕ)) (i j : ℕ) (s t : Range × ℕ) → AreDisjoint subs → slice_get subs i ≡ Some s → slice_get subs j ≡ Some t → (i ≡ j → ⊥) → AreApart s.0 t.0
apart subs i j s t d a b other = elim (cases_lt i j) [
  | inl l ↦ apart_later subs i j s t d a b l
  | inr g ↦ elim (cases_lt j i) [
    | inl l ↦ (λ key p q. apart_later subs j i t s d b a l key q p)
    | inr h ↦ absurd (other (omega (arith, g, h)))
  ]
]

same_place : (subs : List Subscription) (i j : ℕ) (x y : Subscription) → slice_get subs i ≡ Some x → slice_get subs j ≡ Some y → i ≡ j → x ≡ y
same_place subs i j x y a b e = let f : Some x ≡ Some y = sym a ∙ ap (slice_get subs) e ∙ b in cc

-- ---- one after another

all_front : {A : Type 0} (P : A → Type 0) (xs : List A) (x : A) → All P (xs ++ x ∷ []) → All P xs × P x
all_front P [] x a = (λ k d l. absurd (omega (arith, l)), a 0 x (omega arith))
all_front {A} P (y ∷ xs) x a =
    let r = all_front P xs x (λ k d l. a (suc k) d (omega (arith, l))) in (front r.0, r.1)
  where
    front : All P xs → All P (y ∷ xs)
    front b zero d l = a zero d (omega arith)
    front b (suc k) d l = b k d (omega (arith, l))

out_suc : (key : List ℕ) (subs : List Subscription) (i : ℕ) (x : Subscription) → i < length subs → x ≡ slice_index_or subs i x → IsOutOfAll key (map view_subscription (take i subs)) → in_range key (view_range x.range) ≡ false
    → IsOutOfAll key (map view_subscription (take (suc i) subs))
out_suc key [] i x l e o n = absurd (omega (arith, l))
out_suc key (s ∷ ss) zero x l e o n = (subst (λ (y : Subscription). in_range key (view_range y.range) ≡ false) e n, tt)
out_suc key (s ∷ ss) (suc i) x l e o n = (o.0, out_suc key ss i x (omega (arith, l)) e o.1 n)

pub out_next : (key : List ℕ) (subs : List Subscription) (i : ℕ) (x : Subscription) → i < length subs → x ≡ slice_index_or subs i x → IsOutOfAll key (map view_subscription (take i subs)) → in_range key (view_range x.range) ≡ false
    → IsOutOfAll key (map view_subscription (take (i + 1) subs))
out_next key subs i x l e o n = let one : suc i ≡ i + 1 = omega arith in subst (λ m. IsOutOfAll key (map view_subscription (take m subs))) one (out_suc key subs i x l e o n)

-- one with keys is taken
pub whole_pushed : (key : List ℕ) (subs : List Subscription) (i : ℕ) (x : Subscription) (os : List Owner) (o : Owner) → i < length subs → x ≡ slice_index_or subs i x → o.sub.now ≡ x
    → (All (IsOutside key) os → IsOutOfAll key (map view_subscription (take i subs))) → All (IsOutside key) (os ++ o ∷ []) → IsOutOfAll key (map view_subscription (take (i + 1) subs))
whole_pushed key subs i x os o l e s w a =
    let f = all_front (IsOutside key) os o a in out_next key subs i x l e (w f.0) (subst (λ (y : Subscription). in_range key (view_range y.range) ≡ false) s f.1)

-- ---- ordered

pub ordered : (subs : List Subscription) (os ps : List Owner) → AreOwners subs os → IsPermutation os ps → IsSortedBy lower ps → AreOrdered subs ps
ordered subs os ps a p s = record {
  all = record {
    known = All-permutation (IsOwner subs) os ps p a.known;
    whole = λ key out. a.whole key (All-permutation (IsOutside key) ps os (IsPermutation-sym os ps p) out);
  };
  by_low = sorted_far lower (ranks_by nat_list_cmp_total low_of) ps s;
}

pub parted : (key : List ℕ) (os : List Owner) → AreByLow os → IsPartitionedBy (begins key) os
parted key os s i j d le l e = ap not (not_below_trans key (low_of (get_or os j d)) (low_of (get_or os i d)) (not_true (below key (low_of (get_or os j d))) e) (s i j d le l))

abbrev pub Parts : List ℕ → List Owner → ℕ → Type 0
Parts key os n = IsPartitionPoint (λ y. begins key y ≡ true) (λ y. begins key y ≡ false) os n

pub none_begins : (key : List ℕ) (subs : List Subscription) (os : List Owner) (n : ℕ) → AreOrdered subs os → Parts key os n → n ≡ 0 → IsOutOfAll key (map view_subscription subs)
none_begins key subs os n o p z = o.all.whole key (λ k d l. too_low key (view_range (get_or os k d).sub.now.range) (p.1 k d (omega (arith, z)) l))

-- of two that begin up to a key, the one that begins first does not have it
met : (key : List ℕ) (subs : List Subscription) (x y : Owner) → AreDisjoint (map view_subscription subs) → IsOwner subs x → IsOwner subs y → below key (low_of x) ≡ false → below (low_of x) (low_of y) ≡ false
    → in_range key (view_range x.sub.now.range) ≡ false → in_range key (view_range y.sub.now.range) ≡ true → ⊥
met key subs x y disjoint own other up low lacks has = elim (cases_eq y.place x.place) [
  | inl same ↦ false≢true (sym lacks ∙ subst (λ (s : Subscription). in_range key (view_range s.range) ≡ true) (same_place subs y.place x.place y.sub.now x.sub.now other.here own.here same) has)
  | inr differ ↦ apart (map view_subscription subs) y.place x.place (view_subscription y.sub.now) (view_subscription x.sub.now) disjoint (mapped_there view_subscription subs y.place y.sub.now other.here) (mapped_there view_subscription subs x.place x.sub.now own.here) differ
      (low_of x) (between (low_of x) key (view_range y.sub.now.range) up low has) own.keys
]

-- the last that begins up to a key has it, or none has
pub last_lacks : (key : List ℕ) (subs : List Subscription) (os : List Owner) (n : ℕ) (x : Owner) → AreOrdered subs os → AreDisjoint (map view_subscription subs) → Parts key os n → 0 < n → n ≤ length os → x ≡ get_or os (n - 1) x
    → in_range key (view_range x.sub.now.range) ≡ false → IsOutOfAll key (map view_subscription subs)
last_lacks key subs os n x o disjoint p some within is lacks = o.all.whole key (λ k d l. elim (cases_lt k n) [
  | inl early ↦ is_false (in_range key (view_range (get_or os k d).sub.now.range)) (λ has. met key subs x (get_or os k d) disjoint last (o.all.known k d l) up (low k d l early) lacks has)
  | inr late ↦ too_low key (view_range (get_or os k d).sub.now.range) (p.1 k d late l)
])
  where
    inside : n - 1 < length os
    inside = omega (arith, some, within)

    last : IsOwner subs x
    last = subst (IsOwner subs) (sym is) (o.all.known (n - 1) x inside)

    up : below key (low_of x) ≡ false
    up = not_true (below key (low_of x)) (subst (λ (y : Owner). begins key y ≡ true) (sym is) (p.0 (n - 1) x (omega arith) (omega (arith, some))))

    low : (k : ℕ) (d : Owner) → k < length os → k < n → below (low_of x) (low_of (get_or os k d)) ≡ false
    low k d l early = subst (λ (y : Owner). below (low_of y) (low_of (get_or os k d)) ≡ false) (get_or_default os (n - 1) d x inside ∙ sym is) (o.by_low k (n - 1) d (omega (arith, early)) inside)

pub last_has : (key : List ℕ) (subs : List Subscription) (os : List Owner) (n : ℕ) (x : Owner) → AreOrdered subs os → 0 < n → n ≤ length os → x ≡ get_or os (n - 1) x → in_range key (view_range x.sub.now.range) ≡ true → HasKey key x.place (map view_subscription subs)
last_has key subs os n x o some within is has = record {
  sub = view_subscription x.sub.now;
  here = mapped_there view_subscription subs x.place x.sub.now (subst (λ (y : Owner). slice_get subs y.place ≡ Some y.sub.now) (sym is) (o.all.known (n - 1) x (omega (arith, some, within))).here);
  within = has;
}
