-- The order of row versions: a list that is in order stays so where one is put in, filtered or clipped.
use Rattle.std.proofs.Common.{Equal, Greater, Less, List, Ordering, [], ap, arith, eqb-true, false, refl, sym, true, ℕ, ◌∙◌, ◌∷◌, ◌≡◌}
use Rattle.std.specs.Ordering.{is_eq, is_lt, nat_cmp, ordering_reverse, ordering_then}
use Rattle.std.specs.Cmp.{IsTotalOrder}
use Rattle.std.proofs.lemmas.Cmp.{back_total, nat_cmp_total, nat_list_cmp_total, on_total, then_total, tied_itself}
use Rattle.std.specs.Prelude.{Bool, IsTrue, cond, filter, nat_lt, ◌&&◌, ◌==◌, ◌||◌}
use Rattle.std.proofs.lemmas.Bool.Decides.{nat_tests}
use Rattle.std.proofs.lemmas.Map.Lookups.{exact_bytes}
use Rattle.std.specs.List.{AllByRecursion}
use Rattle.std.proofs.lemmas.Bool.{and_from, and_parts}
use Rattle.lt_terms.specs.Key.{Range, below, bytes_cmp, in_range, same_key}
use Rattle.lt_tables.specs.Version.{RowVersion, clip, is_ordered, put_version, same_name, stands_before}

-- ---- names: keys, rising, and timestamps, falling

pub name_cmp : RowVersion → RowVersion → Ordering
name_cmp a b = ordering_then (bytes_cmp a.key b.key) (nat_cmp b.ts a.ts)

pub names_total : IsTotalOrder name_cmp
unfolding name_cmp
names_total = then_total (on_total (λ (v : RowVersion). v.key) nat_list_cmp_total) (on_total (λ (v : RowVersion). v.ts) (back_total nat_cmp_total))

lt-then : (o p : Ordering) → is_lt (ordering_then o p) ≡ (is_lt o || (is_eq o && is_lt p))
lt-then Less p = refl
lt-then Equal p = refl
lt-then Greater p = refl

eq-then : (o p : Ordering) → is_eq (ordering_then o p) ≡ (is_eq o && is_eq p)
eq-then Less p = refl
eq-then Equal p = refl
eq-then Greater p = refl

nat-lt : (a b : ℕ) → is_lt (nat_cmp a b) ≡ nat_lt a b
nat-lt a b = grind (arith, nat_tests)

nat-eq : (a b : ℕ) → is_eq (nat_cmp a b) ≡ (b == a)
nat-eq a b = grind (arith, nat_tests)

pub before-is : (a b : RowVersion) → stands_before a b ≡ is_lt (name_cmp a b)
unfolding name_cmp
before-is a b = sym (lt-then (bytes_cmp a.key b.key) (nat_cmp b.ts a.ts) ∙ ap (λ x. below a.key b.key || (same_key a.key b.key && x)) (nat-lt b.ts a.ts))

pub same-is : (a b : RowVersion) → same_name a b ≡ is_eq (name_cmp a b)
unfolding name_cmp
same-is a b = sym (eq-then (bytes_cmp a.key b.key) (nat_cmp b.ts a.ts) ∙ ap (λ x. same_key a.key b.key && x) (nat-eq b.ts a.ts))

pub less : (o : Ordering) → is_lt o ≡ true → o ≡ Less
less Less h = refl
less Equal h = cc
less Greater h = cc

pub is_equal : (o : Ordering) → is_eq o ≡ true → o ≡ Equal
is_equal Less h = cc
is_equal Equal h = refl
is_equal Greater h = cc

pub greater : (o : Ordering) → is_lt o ≡ false → is_eq o ≡ false → o ≡ Greater
greater Less h i = cc
greater Equal h i = cc
greater Greater h i = refl

pub before-cmp : (a b : RowVersion) → stands_before a b ≡ true → name_cmp a b ≡ Less
before-cmp a b h = less (name_cmp a b) (sym (before-is a b) ∙ h)

pub same-cmp : (a b : RowVersion) → same_name a b ≡ true → name_cmp a b ≡ Equal
same-cmp a b h = is_equal (name_cmp a b) (sym (same-is a b) ∙ h)

pub before-trans : (a b c : RowVersion) → stands_before a b ≡ true → stands_before b c ≡ true → stands_before a c ≡ true
before-trans a b c h i = before-is a c ∙ ap is_lt (names_total.trans a b c (before-cmp a b h) (before-cmp b c i))

-- a version stands before, with or after another
pub before-other : (a b : RowVersion) → stands_before a b ≡ false → same_name a b ≡ false → stands_before b a ≡ true
before-other a b h i = before-is b a ∙ ap is_lt (names_total.antisymm b a ∙ ap ordering_reverse (greater (name_cmp a b) (sym (before-is a b) ∙ h) (sym (same-is a b) ∙ i)))

pub before-not : (a b : RowVersion) → stands_before a b ≡ true → stands_before b a ≡ false
before-not a b h = before-is b a ∙ ap is_lt (names_total.antisymm b a ∙ ap ordering_reverse (before-cmp a b h))

pub same-not-before : (a b : RowVersion) → same_name a b ≡ true → stands_before a b ≡ false
same-not-before a b h = before-is a b ∙ ap is_lt (same-cmp a b h)

before-same : (a b c : RowVersion) → same_name a b ≡ true → stands_before a c ≡ stands_before b c
before-same a b c h = before-is a c ∙ ap is_lt (names_total.congr a b c (same-cmp a b h)) ∙ sym (before-is b c)

pub same-key : (a b : List ℕ) → same_key a b ≡ true → a ≡ b
same-key a b h = exact_bytes a b (is_equal (bytes_cmp a b) h)

pub same-itself : (a : List ℕ) → same_key a a ≡ true
same-itself a = ap is_eq (tied_itself nat_list_cmp_total a)

eq-back : (o : Ordering) → is_eq o ≡ is_eq (ordering_reverse o)
eq-back Less = refl
eq-back Equal = refl
eq-back Greater = refl

pub same-back : (a b : List ℕ) → same_key a b ≡ same_key b a
same-back a b = eq-back (bytes_cmp a b) ∙ ap is_eq (sym (nat_list_cmp_total.antisymm b a))

-- ---- order

abbrev pub Above : RowVersion → List RowVersion → Type 0
Above v ws = AllByRecursion (λ w. IsTrue (stands_before v w)) ws

pub above-before : (u v : RowVersion) (ws : List RowVersion) → stands_before u v ≡ true → Above v ws → Above u ws
above-before u v [] h a = tt
above-before u v (w ∷ ws) h a = (before-trans u v w h a.0, above-before u v ws h a.1)

pub above-same : (u v : RowVersion) (ws : List RowVersion) → same_name u v ≡ true → Above v ws → Above u ws
above-same u v [] h a = tt
above-same u v (w ∷ ws) h a = (before-same u v w h ∙ a.0, above-same u v ws h a.1)

pub ordered-tail : (v : RowVersion) (ws : List RowVersion) → IsTrue (is_ordered (v ∷ ws)) → IsTrue (is_ordered ws)
ordered-tail v [] h = refl
ordered-tail v (w ∷ ws) h = (and_parts (stands_before v w) (is_ordered (w ∷ ws)) h).1

pub ordered-above : (v : RowVersion) (ws : List RowVersion) → IsTrue (is_ordered (v ∷ ws)) → Above v ws
ordered-above v [] h = tt
ordered-above v (w ∷ ws) h = let p = and_parts (stands_before v w) (is_ordered (w ∷ ws)) h in (p.0, above-before v w ws p.0 (ordered-above w ws p.1))

pub ordered-cons : (v : RowVersion) (ws : List RowVersion) → Above v ws → IsTrue (is_ordered ws) → IsTrue (is_ordered (v ∷ ws))
ordered-cons v [] a h = refl
ordered-cons v (w ∷ ws) a h = and_from (stands_before v w) (is_ordered (w ∷ ws)) a.0 h

-- ---- merging

put-above-by : (u v w : RowVersion) (ws : List RowVersion) (b c : Bool) → IsTrue (stands_before u v) → Above u (w ∷ ws) → Above u (put_version v ws)
    → Above u (cond b (v ∷ w ∷ ws) (cond c (v ∷ ws) (w ∷ put_version v ws)))
put-above-by u v w ws true c h a i = (h, a)
put-above-by u v w ws false true h a i = (h, a.1)
put-above-by u v w ws false false h a i = (a.0, i)

pub put-above : (u v : RowVersion) (ws : List RowVersion) → IsTrue (stands_before u v) → Above u ws → Above u (put_version v ws)
put-above u v [] h a = (h, tt)
put-above u v (w ∷ ws) h a = put-above-by u v w ws (stands_before v w) (same_name v w) h a (put-above u v ws h a.1)

put-ordered-by : (v w : RowVersion) (ws : List RowVersion) (b c : Bool) → stands_before v w ≡ b → same_name v w ≡ c → IsTrue (is_ordered (w ∷ ws)) → IsTrue (is_ordered (put_version v ws))
    → IsTrue (is_ordered (cond b (v ∷ w ∷ ws) (cond c (v ∷ ws) (w ∷ put_version v ws))))
put-ordered-by v w ws true c e f h i = and_from (stands_before v w) (is_ordered (w ∷ ws)) e h
put-ordered-by v w ws false true e f h i = ordered-cons v ws (above-same v w ws f (ordered-above w ws h)) (ordered-tail w ws h)
put-ordered-by v w ws false false e f h i = ordered-cons w (put_version v ws) (put-above w v ws (before-other v w e f) (ordered-above w ws h)) i

pub put-ordered : (v : RowVersion) (ws : List RowVersion) → IsTrue (is_ordered ws) → IsTrue (is_ordered (put_version v ws))
put-ordered v [] h = refl
put-ordered v (w ∷ ws) h = put-ordered-by v w ws (stands_before v w) (same_name v w) refl refl h (put-ordered v ws (ordered-tail w ws h))

abbrev pub named : List ℕ → ℕ → RowVersion → Bool
named key t v = same_key key v.key && v.ts == t

pub named-key : (key : List ℕ) (t : ℕ) (v : RowVersion) → named key t v ≡ true → key ≡ v.key
named-key key t v h = same-key key v.key (and_parts (same_key key v.key) (v.ts == t) h).0

pub named-ts : (key : List ℕ) (t : ℕ) (v : RowVersion) → named key t v ≡ true → v.ts ≡ t
named-ts key t v h = eqb-true v.ts t (and_parts (same_key key v.key) (v.ts == t) h).1

-- ---- clipping

filter-above-by : (u v : RowVersion) (vs : List RowVersion) (b : Bool) → IsTrue (stands_before u v) → Above u vs → Above u (cond b (v ∷ vs) vs)
filter-above-by u v vs true h a = (h, a)
filter-above-by u v vs false h a = a

pub filter-above : (p : RowVersion → Bool) (u : RowVersion) (vs : List RowVersion) → Above u vs → Above u (filter p vs)
filter-above p u [] a = tt
filter-above p u (v ∷ vs) a = filter-above-by u v (filter p vs) (p v) a.0 (filter-above p u vs a.1)

filter-ordered-by : (v : RowVersion) (vs : List RowVersion) (b : Bool) → Above v vs → IsTrue (is_ordered vs) → IsTrue (is_ordered (cond b (v ∷ vs) vs))
filter-ordered-by v vs true a h = ordered-cons v vs a h
filter-ordered-by v vs false a h = h

-- what is left of an ordered list is ordered
pub filter-ordered : (p : RowVersion → Bool) (vs : List RowVersion) → IsTrue (is_ordered vs) → IsTrue (is_ordered (filter p vs))
filter-ordered p [] h = refl
filter-ordered p (v ∷ vs) h = filter-ordered-by v (filter p vs) (p v) (filter-above p v vs (ordered-above v vs h)) (filter-ordered p vs (ordered-tail v vs h))

pub clip-ordered : (r : Range) (vs : List RowVersion) → IsTrue (is_ordered vs) → IsTrue (is_ordered (clip r vs))
clip-ordered r = filter-ordered (λ v. in_range v.key r)
