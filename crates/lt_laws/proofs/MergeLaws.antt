-- The order of row versions, and what the merge of ordered lists is.
use Rattle.std.proofs.Common.{List, [], ap, arith, eq-eqb, eqb-true, false, inl, inr, refl, subst, suc, sym, true, zero, ℕ, ◌++◌, ◌∙◌, ◌∷◌, ◌≡◌}
use Rattle.std.specs.Ordering.{is_eq, is_lt}
use Rattle.std.proofs.lemmas.Cmp.{alike_right}
use Rattle.std.specs.Prelude.{Bool, Contains, IsTrue, None, Option, Some, cond, find, map, ◌&&◌, ◌==◌, ◌⊎◌}
use Rattle.std.proofs.lemmas.Bool.{and_from, and_parts, false≢true, true≢false}
use Rattle.lt_terms.specs.Key.{Range, in_range, same_key}
use Rattle.lt_tables.specs.Version.{IsMerge, RowVersion, clip, is_ordered, merge, put_version, put_versions, same_name, stands_before}
use Rattle.lt_tables.specs.Schema.{first_of}
use Rattle.lt_lemmas.proofs.MergeLaws.{Above, before-cmp, before-is, before-not, before-trans, clip-ordered, named, named-key, named-ts, names_total, ordered-above, ordered-tail, put-ordered, same-cmp, same-is, same-itself, same-key}

-- ---- names: keys, rising, and timestamps, falling

before-apart : (a b : RowVersion) → stands_before a b ≡ true → same_name a b ≡ false
before-apart a b h = same-is a b ∙ ap is_eq (before-cmp a b h)

before-as : (a b c : RowVersion) → same_name a b ≡ true → stands_before c a ≡ stands_before c b
before-as a b c h = before-is c a ∙ ap is_lt (alike_right names_total a b c (same-cmp a b h)) ∙ sym (before-is c b)

-- ---- merging

pub puts-ordered : (vs ws : List RowVersion) → IsTrue (is_ordered ws) → IsTrue (is_ordered (put_versions vs ws))
puts-ordered [] ws h = h
puts-ordered (v ∷ vs) ws h = put-ordered v (put_versions vs ws) (puts-ordered vs ws h)

pub merge-ordered : (lists : List (List RowVersion)) → IsTrue (is_ordered (merge lists))
unfolding merge
merge-ordered [] = refl
merge-ordered (vs ∷ lists) = puts-ordered vs (merge lists) (merge-ordered lists)

pub named-itself : (v : RowVersion) → named v.key v.ts v ≡ true
named-itself v = and_from (same_key v.key v.key) (v.ts == v.ts) (same-itself v.key) (eq-eqb v.ts v.ts refl)

pub named-same : (key : List ℕ) (t : ℕ) (v w : RowVersion) → same_name v w ≡ true → named key t v ≡ named key t w
named-same key t v w h = let p = and_parts (same_key v.key w.key) (v.ts == w.ts) h in let k = same-key v.key w.key p.0 in let u = eqb-true v.ts w.ts p.1 in
    ap (λ x. same_key key x && v.ts == t) k ∙ ap (λ x. same_key key w.key && x == t) u

-- two that have one name are named the same
named-both : (key : List ℕ) (t : ℕ) (v w : RowVersion) → named key t v ≡ true → named key t w ≡ true → same_name v w ≡ true
named-both key t v w h i = and_from (same_key v.key w.key) (v.ts == w.ts)
    (ap (λ x. same_key x w.key) (sym (named-key key t v h)) ∙ ap (same_key key) (sym (named-key key t w i)) ∙ same-itself key)
    (eq-eqb v.ts w.ts (named-ts key t v h ∙ sym (named-ts key t w i)))

find-put-cases : (v w : RowVersion) (x y : Bool) (o : Option RowVersion) → (x ≡ true → y ≡ true → false ≡ true) → cond y (Some w) (cond x (Some v) o) ≡ cond x (Some v) (cond y (Some w) o)
find-put-cases v w true true o h = absurd (false≢true (h refl refl))
find-put-cases v w true false o h = refl
find-put-cases v w false true o h = refl
find-put-cases v w false false o h = refl

find-put-same : (v w : RowVersion) (x y : Bool) (o : Option RowVersion) → x ≡ y → cond x (Some v) o ≡ cond x (Some v) (cond y (Some w) o)
find-put-same v w true y o h = refl
find-put-same v w false true o h = cc
find-put-same v w false false o h = refl

find-put-by : (key : List ℕ) (t : ℕ) (v w : RowVersion) (ws : List RowVersion) (b c : Bool) → same_name v w ≡ c → find (named key t) (put_version v ws) ≡ cond (named key t v) (Some v) (find (named key t) ws)
    → find (named key t) (cond b (v ∷ w ∷ ws) (cond c (v ∷ ws) (w ∷ put_version v ws))) ≡ cond (named key t v) (Some v) (find (named key t) (w ∷ ws))
find-put-by key t v w ws true c f i = refl
find-put-by key t v w ws false true f i = find-put-same v w (named key t v) (named key t w) (find (named key t) ws) (named-same key t v w f)
find-put-by key t v w ws false false f i = ap (cond (named key t w) (Some w)) i
    ∙ find-put-cases v w (named key t v) (named key t w) (find (named key t) ws) (λ h j. sym f ∙ named-both key t v w h j)

-- what is put is found, and else what was found before
pub find-put : (key : List ℕ) (t : ℕ) (v : RowVersion) (ws : List RowVersion) → find (named key t) (put_version v ws) ≡ cond (named key t v) (Some v) (find (named key t) ws)
find-put key t v [] = refl
find-put key t v (w ∷ ws) = find-put-by key t v w ws (stands_before v w) (same_name v w) refl (find-put key t v ws)

or-cond : (b : Bool) (v : RowVersion) (o p : Option RowVersion) → cond b (Some v) (first_of (o ∷ p ∷ [])) ≡ first_of (cond b (Some v) o ∷ p ∷ [])
or-cond true v o p = refl
or-cond false v o p = refl

or-none : (p : Option RowVersion) → p ≡ first_of (p ∷ [])
or-none None = refl
or-none (Some v) = refl

pub find-puts : (key : List ℕ) (t : ℕ) (vs ws : List RowVersion) → find (named key t) (put_versions vs ws) ≡ first_of (find (named key t) vs ∷ find (named key t) ws ∷ [])
find-puts key t [] ws = or-none (find (named key t) ws)
find-puts key t (v ∷ vs) ws = find-put key t v (put_versions vs ws) ∙ ap (cond (named key t v) (Some v)) (find-puts key t vs ws)
    ∙ or-cond (named key t v) v (find (named key t) vs) (find (named key t) ws)

two-firsts : (o : Option RowVersion) (os : List (Option RowVersion)) → first_of (o ∷ first_of os ∷ []) ≡ first_of (o ∷ os)
two-firsts None os = sym (or-none (first_of os))
two-firsts (Some v) os = refl

pub merge-first : (key : List ℕ) (t : ℕ) (lists : List (List RowVersion)) → find (named key t) (merge lists) ≡ first_of (map (find (named key t)) lists)
unfolding merge
merge-first key t [] = refl
merge-first key t (vs ∷ lists) = find-puts key t vs (merge lists) ∙ ap (λ o. first_of (find (named key t) vs ∷ o ∷ [])) (merge-first key t lists)
    ∙ two-firsts (find (named key t) vs) (map (find (named key t)) lists)

-- the merge of any lists, ordered or not
pub merge-is-merge : (lists : List (List RowVersion)) → IsMerge lists (merge lists)
merge-is-merge lists = record { ordered = merge-ordered lists; first = λ key t. merge-first key t lists }

-- ---- an ordered list is what it finds

cond-some : (b : Bool) (w v : RowVersion) (o : Option RowVersion) → cond b (Some w) o ≡ Some v → (b ≡ true → w ≡ v → ⊥) → o ≡ Some v
cond-some true w v o h i = absurd (i refl cc)
cond-some false w v o h i = h

some-cond : (b : Bool) (w v : RowVersion) (o : Option RowVersion) → b ≡ true → cond b (Some w) o ≡ Some v → w ≡ v
some-cond true w v o e h = cc
some-cond false w v o e h = absurd (false≢true e)

found-above-by : (q : RowVersion → Bool) (u w v : RowVersion) (ws : List RowVersion) (b : Bool) → IsTrue (stands_before u w) → (find q ws ≡ Some v → IsTrue (stands_before u v)) → cond b (Some w) (find q ws) ≡ Some v → IsTrue (stands_before u v)
found-above-by q u w v ws true h i f = let e : w ≡ v = cc in ap (stands_before u) (sym e) ∙ h
found-above-by q u w v ws false h i f = i f

found-above : (q : RowVersion → Bool) (u v : RowVersion) (ws : List RowVersion) → Above u ws → find q ws ≡ Some v → IsTrue (stands_before u v)
found-above q u v [] a f = cc
found-above q u v (w ∷ ws) a f = found-above-by q u w v ws (q w) a.0 (found-above q u v ws a.1) f

not-itself : (v : RowVersion) → IsTrue (stands_before v v) → ⊥
not-itself v h = false≢true (sym (before-not v v h) ∙ h)

-- what a list finds at a name that another list begins with stands there, or after the list's own first
head-or-above : (v w : RowVersion) (ws : List RowVersion) (b : Bool) → Above w ws → cond b (Some w) (find (named v.key v.ts) ws) ≡ Some v → (w ≡ v → ⊥) → IsTrue (stands_before w v)
head-or-above v w ws true a f n = absurd (n cc)
head-or-above v w ws false a f n = found-above (named v.key v.ts) w v ws a f

heads-by : (v w : RowVersion) (vs ws : List RowVersion) (b c : Bool) → named v.key v.ts w ≡ b → named w.key w.ts v ≡ c → Above v vs → Above w ws → cond b (Some w) (find (named v.key v.ts) ws) ≡ Some v → cond c (Some v) (find (named w.key w.ts) vs) ≡ Some w → w ≡ v
heads-by v w vs ws true c e g a i f h = cc
heads-by v w vs ws false true e g a i f h = cc
heads-by v w vs ws false false e g a i f h = let x = found-above (named v.key v.ts) w v ws i f in let y = found-above (named w.key w.ts) v w vs a h in absurd (not-itself v (before-trans v w v y x))

none-named-by : (key : List ℕ) (t : ℕ) (v w : RowVersion) (o : Option RowVersion) (b : Bool) → named key t w ≡ b → named key t v ≡ true → IsTrue (stands_before v w) → o ≡ None → cond b (Some w) o ≡ None
none-named-by key t v w o true e h s i = absurd (false≢true (sym (before-apart v w s) ∙ named-both key t v w h e))
none-named-by key t v w o false e h s i = i

none-named : (key : List ℕ) (t : ℕ) (v : RowVersion) (ws : List RowVersion) → named key t v ≡ true → Above v ws → find (named key t) ws ≡ None
none-named key t v [] h a = refl
none-named key t v (w ∷ ws) h a = none-named-by key t v w (find (named key t) ws) (named key t w) refl h a.0 (none-named key t v ws h a.1)

abbrev pub FindSame : List RowVersion → List RowVersion → Type 0
FindSame vs ws = (key : List ℕ) (t : ℕ) → find (named key t) vs ≡ find (named key t) ws

tails-by : (key : List ℕ) (t : ℕ) (v : RowVersion) (vs ws : List RowVersion) (b : Bool) → named key t v ≡ b → Above v vs → Above v ws → cond b (Some v) (find (named key t) vs) ≡ cond b (Some v) (find (named key t) ws) → find (named key t) vs ≡ find (named key t) ws
tails-by key t v vs ws true e a i h = none-named key t v vs e a ∙ sym (none-named key t v ws e i)
tails-by key t v vs ws false e a i h = h

head-found : (v : RowVersion) (vs : List RowVersion) → find (named v.key v.ts) (v ∷ vs) ≡ Some v
head-found v vs = ap (λ b. cond b (Some v) (find (named v.key v.ts) vs)) (named-itself v)

-- two ordered lists that find the same versions are one list
pub ordered-unique : (vs ws : List RowVersion) → IsTrue (is_ordered vs) → IsTrue (is_ordered ws) → FindSame vs ws → vs ≡ ws
ordered-unique [] [] h i same = refl
ordered-unique [] (w ∷ ws) h i same = let e = same w.key w.ts ∙ head-found w ws in cc
ordered-unique (v ∷ vs) [] h i same = let e = sym (same v.key v.ts) ∙ head-found v vs in cc
ordered-unique (v ∷ vs) (w ∷ ws) h i same = let a = ordered-above v vs h in let b = ordered-above w ws i in
    let e : w ≡ v = heads-by v w vs ws (named v.key v.ts w) (named w.key w.ts v) refl refl a b (sym (same v.key v.ts) ∙ head-found v vs) (same w.key w.ts ∙ head-found w ws) in
    let c : Above v ws = subst (λ x. Above x ws) e b in
    ap (λ x. x ∷ vs) (sym e) ∙ ap (λ xs. w ∷ xs) (ordered-unique vs ws (ordered-tail v vs h) (ordered-tail w ws i)
    (λ key t. tails-by key t v vs ws (named key t v) refl a c (same key t ∙ ap (λ x. cond (named key t x) (Some x) (find (named key t) ws)) e)))

-- so the merge of lists is one list
pub one-merge : (lists : List (List RowVersion)) (vs ws : List RowVersion) → IsMerge lists vs → IsMerge lists ws → vs ≡ ws
one-merge lists vs ws h i = ordered-unique vs ws h.ordered i.ordered (λ key t. h.first key t ∙ sym (i.first key t))

pub merge-only : (lists : List (List RowVersion)) (vs : List RowVersion) → IsMerge lists vs → vs ≡ merge lists
merge-only lists vs h = one-merge lists vs (merge lists) h (merge-is-merge lists)

-- an ordered list is the merge of itself alone
pub merge-alone : (vs : List RowVersion) → IsTrue (is_ordered vs) → merge (vs ∷ []) ≡ vs
merge-alone vs h = sym (merge-only (vs ∷ []) vs (record { ordered = h; first = λ key t. or-none (find (named key t) vs) }))

-- ---- clipping

abbrev pub none : Option RowVersion
none = None

pub none-either : (b : Bool) → none ≡ cond b none none
none-either true = refl
none-either false = refl

find-clip-by : (q : RowVersion → Bool) (v : RowVersion) (vs : List RowVersion) (a b c : Bool) → q v ≡ b → (b ≡ true → a ≡ c) → (o : Option RowVersion) (rest : List RowVersion) → find q rest ≡ cond c o None → find q (cond a (v ∷ rest) rest) ≡ cond c (cond b (Some v) o) None
find-clip-by q v vs true true true e h o rest i = ap (λ x. cond x (Some v) (find q rest)) e
find-clip-by q v vs true false c e h o rest i = ap (λ x. cond x (Some v) (find q rest)) e ∙ i
find-clip-by q v vs false true false e h o rest i = i
find-clip-by q v vs false false c e h o rest i = i
find-clip-by q v vs true true false e h o rest i = absurd (true≢false (h refl))
find-clip-by q v vs false true true e h o rest i = absurd (false≢true (h refl))

-- a clip finds the names in its range
pub find-clip : (r : Range) (key : List ℕ) (t : ℕ) (vs : List RowVersion) → find (named key t) (clip r vs) ≡ cond (in_range key r) (find (named key t) vs) None
find-clip r key t [] = none-either (in_range key r)
find-clip r key t (v ∷ vs) = find-clip-by (named key t) v vs (in_range v.key r) (named key t v) (in_range key r) refl (λ h. ap (λ k. in_range k r) (sym (named-key key t v h))) (find (named key t) vs) (clip r vs) (find-clip r key t vs)

firsts-none : (lists : List (List RowVersion)) → none ≡ first_of (map (λ vs. none) lists)
firsts-none [] = refl
firsts-none (vs ∷ lists) = firsts-none lists

cond-firsts : (b : Bool) (f : List RowVersion → Option RowVersion) (lists : List (List RowVersion)) → cond b (first_of (map f lists)) None ≡ first_of (map (λ vs. cond b (f vs) None) lists)
cond-firsts true f lists = refl
cond-firsts false f lists = firsts-none lists

firsts-clip : (r : Range) (key : List ℕ) (t : ℕ) (lists : List (List RowVersion)) → first_of (map (λ vs. cond (in_range key r) (find (named key t) vs) None) lists) ≡ first_of (map (find (named key t)) (map (clip r) lists))
firsts-clip r key t [] = refl
firsts-clip r key t (vs ∷ lists) = ap (λ o. first_of (o ∷ map (λ vs. cond (in_range key r) (find (named key t) vs) None) lists)) (sym (find-clip r key t vs))
    ∙ sym (two-firsts (find (named key t) (clip r vs)) (map (λ vs. cond (in_range key r) (find (named key t) vs) None) lists))
    ∙ ap (λ o. first_of (find (named key t) (clip r vs) ∷ o ∷ [])) (firsts-clip r key t lists)
    ∙ two-firsts (find (named key t) (clip r vs)) (map (find (named key t)) (map (clip r) lists))

-- the clip of a merge is the merge of the clips
pub clip-is-merge : (r : Range) (lists : List (List RowVersion)) (vs : List RowVersion) → IsMerge lists vs → IsMerge (map (clip r) lists) (clip r vs)
clip-is-merge r lists vs h = record {
  ordered = clip-ordered r vs h.ordered;
  first = λ key t. find-clip r key t vs ∙ ap (λ o. cond (in_range key r) o None) (h.first key t) ∙ cond-firsts (in_range key r) (find (named key t)) lists ∙ firsts-clip r key t lists;
}

pub clip-merge : (r : Range) (lists : List (List RowVersion)) → clip r (merge lists) ≡ merge (map (clip r) lists)
clip-merge r lists = merge-only (map (clip r) lists) (clip r (merge lists)) (clip-is-merge r lists (merge lists) (merge-is-merge lists))

-- ---- merges within merges

firsts-join-by : (o p q r : Option RowVersion) (ps rs : List (Option RowVersion)) → p ≡ first_of ps → r ≡ first_of rs → first_of (p ∷ q ∷ []) ≡ r → first_of (first_of (o ∷ ps) ∷ q ∷ []) ≡ first_of (o ∷ rs)
firsts-join-by None p q r ps rs e f h = ap (λ p. first_of (p ∷ q ∷ [])) (sym e) ∙ h ∙ f
firsts-join-by (Some v) p q r ps rs e f h = refl

firsts-join : (f : List RowVersion → Option RowVersion) (xs ys : List (List RowVersion)) → first_of (first_of (map f xs) ∷ first_of (map f ys) ∷ []) ≡ first_of (map f (xs ++ ys))
firsts-join f [] ys = sym (or-none (first_of (map f ys)))
firsts-join f (x ∷ xs) ys = firsts-join-by (f x) (first_of (map f xs)) (first_of (map f ys)) (first_of (map f (xs ++ ys))) (map f xs) (map f (xs ++ ys)) refl refl (firsts-join f xs ys)

put-merges : (xs ys : List (List RowVersion)) → put_versions (merge xs) (merge ys) ≡ merge (xs ++ ys)
put-merges xs ys = merge-only (xs ++ ys) (put_versions (merge xs) (merge ys)) (record {
  ordered = puts-ordered (merge xs) (merge ys) (merge-ordered ys);
  first = λ key t. find-puts key t (merge xs) (merge ys) ∙ ap (λ o. first_of (o ∷ find (named key t) (merge ys) ∷ [])) (merge-first key t xs)
      ∙ ap (λ o. first_of (first_of (map (find (named key t)) xs) ∷ o ∷ [])) (merge-first key t ys) ∙ firsts-join (find (named key t)) xs ys;
})

-- a merge among the lists is as its own lists in its place
pub merge-within : (xs ys zs : List (List RowVersion)) → merge (xs ++ merge ys ∷ zs) ≡ merge (xs ++ (ys ++ zs))
unfolding merge
merge-within [] ys zs = put-merges ys zs
merge-within (x ∷ xs) ys zs = ap (put_versions x) (merge-within xs ys zs)

-- the order of two lists that agree says nothing, nor does a list that stands there twice
firsts-swap : (o p : Option RowVersion) (os : List (Option RowVersion)) → ((v w : RowVersion) → o ≡ Some v → p ≡ Some w → v ≡ w) → first_of (o ∷ p ∷ os) ≡ first_of (p ∷ o ∷ os)
firsts-swap None None os h = refl
firsts-swap None (Some w) os h = refl
firsts-swap (Some v) None os h = refl
firsts-swap (Some v) (Some w) os h = ap Some (h v w refl refl)

firsts-twice : (o : Option RowVersion) (os : List (Option RowVersion)) → first_of (o ∷ o ∷ os) ≡ first_of (o ∷ os)
firsts-twice None os = refl
firsts-twice (Some v) os = refl

pub merge-swap : (vs ws : List RowVersion) (lists : List (List RowVersion)) → ((key : List ℕ) (t : ℕ) (v w : RowVersion) → find (named key t) vs ≡ Some v → find (named key t) ws ≡ Some w → v ≡ w)
    → merge (vs ∷ ws ∷ lists) ≡ merge (ws ∷ vs ∷ lists)
merge-swap vs ws lists agree = merge-only (ws ∷ vs ∷ lists) (merge (vs ∷ ws ∷ lists)) (record {
  ordered = merge-ordered (vs ∷ ws ∷ lists);
  first = λ key t. merge-first key t (vs ∷ ws ∷ lists) ∙ firsts-swap (find (named key t) vs) (find (named key t) ws) (map (find (named key t)) lists) (agree key t);
})

pub merge-twice : (vs : List RowVersion) (lists : List (List RowVersion)) → merge (vs ∷ vs ∷ lists) ≡ merge (vs ∷ lists)
merge-twice vs lists = merge-only (vs ∷ lists) (merge (vs ∷ vs ∷ lists)) (record {
  ordered = merge-ordered (vs ∷ vs ∷ lists);
  first = λ key t. merge-first key t (vs ∷ vs ∷ lists) ∙ firsts-twice (find (named key t) vs) (map (find (named key t)) lists);
})

-- ---- what is merged

put_from_by : (v w : RowVersion) (ws : List RowVersion) (x : RowVersion) (b c : Bool) → (Contains (put_version v ws) x → (v ≡ x) ⊎ Contains ws x) → Contains (cond b (v ∷ w ∷ ws) (cond c (v ∷ ws) (w ∷ put_version v ws))) x → (v ≡ x) ⊎ Contains (w ∷ ws) x
put_from_by v w ws x true c f (zero, l, e) = inl e
put_from_by v w ws x true c f (suc k, l, e) = inr (k, omega (arith, l), e)
put_from_by v w ws x false true f (zero, l, e) = inl e
put_from_by v w ws x false true f (suc k, l, e) = inr (suc k, omega (arith, l), e)
put_from_by v w ws x false false f (zero, l, e) = inr (zero, omega arith, e)
put_from_by v w ws x false false f (suc k, l, e) = elim (f (k, omega (arith, l), e)) [ inl d ↦ inl d | inr (i, m, g) ↦ inr (suc i, omega (arith, m), g) ]

put_from : (v : RowVersion) (ws : List RowVersion) (x : RowVersion) → Contains (put_version v ws) x → (v ≡ x) ⊎ Contains ws x
put_from v [] x (zero, l, e) = inl e
put_from v [] x (suc k, l, e) = absurd (omega (arith, l))
put_from v (w ∷ ws) x h = put_from_by v w ws x (stands_before v w) (same_name v w) (put_from v ws x) h

pub puts_from : (vs ws : List RowVersion) (x : RowVersion) → Contains (put_versions vs ws) x → Contains vs x ⊎ Contains ws x
puts_from [] ws x h = inr h
puts_from (v ∷ vs) ws x h = elim (put_from v (put_versions vs ws) x h) [
  | inl e ↦ inl (zero, omega arith, e)
  | inr i ↦ elim (puts_from vs ws x i) [ inl (k, l, e) ↦ inl (suc k, omega (arith, l), e) | inr j ↦ inr j ]
]

-- a merged version is one of those merged
pub merged_member : (lists : List (List RowVersion)) (v : RowVersion) → Contains (merge lists) v → (l : List RowVersion) × Contains lists l × Contains l v
unfolding merge
merged_member [] v h = absurd (omega (arith, h.1))
merged_member (vs ∷ lists) v h = elim (puts_from vs (merge lists) v h) [
  | inl i ↦ (vs, (zero, omega arith, refl), i)
  | inr i ↦ (let r = merged_member lists v i in (r.0, (let k = r.1 in (suc k.0, omega (arith, k.1), k.2)), r.2))
]

pub same_names : (v w : RowVersion) → same_name v w ≡ true → (v.key ≡ w.key) × (v.ts ≡ w.ts)
same_names v w h = let p = and_parts (same_key v.key w.key) (v.ts == w.ts) h in (same-key v.key w.key p.0, eqb-true v.ts w.ts p.1)
