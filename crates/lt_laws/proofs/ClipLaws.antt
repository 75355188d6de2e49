-- Clips of lists of row versions by ranges of keys, and maps that keep the versions' names.
use Rattle.std.proofs.Common.{List, [], ap, false, inl, inr, refl, subst, sym, true, ℕ, ◌++◌, ◌∙◌, ◌∷◌, ◌≡◌}
use Rattle.std.specs.Prelude.{Bool, IsTrue, None, Option, Some, cond, filter, map, nat_lt, not, ◌&&◌, ◌==◌, ◌||◌}
use Rattle.std.proofs.lemmas.Bool.{and_parts, false≢true, or_cases}
use Rattle.std.specs.List.{AllByRecursion}
use Rattle.std.specs.Ordering.{is_lt, ordering_reverse}
use Rattle.std.proofs.lemmas.Cmp.{nat_list_cmp_total}
use Rattle.std.specs.Option.{option_map_or}
use Rattle.lt_terms.specs.Key.{Range, below, common, in_range, is_below_high, is_empty_range, is_high_within, same_key}
use Rattle.lt_terms.specs.Layout.{Leaf}
use Rattle.lt_tables.specs.Version.{RowVersion, clip, coerce_all, coerced, is_ordered, merge, put_version, put_versions, same_name, stands_before}
use Rattle.lt_machine.specs.Claims.{abuts}
use Rattle.lt_lemmas.proofs.ClipLaws.{and-swap, below-upto, in-common, key-less, key-trans}
use Rattle.lt_lemmas.proofs.MergeLaws.{Above, ordered-above, ordered-tail, same-key}
use Rattle.lt_terms.specs.declared.Op.TheVariants as ops

-- ---- clips of clips

filter-twice-by : (v : RowVersion) (p : RowVersion → Bool) (xs ys : List RowVersion) (b c : Bool) → p v ≡ b → filter p xs ≡ ys → filter p (cond c (v ∷ xs) xs) ≡ cond (b && c) (v ∷ ys) ys
filter-twice-by v p xs ys true true e h = ap (λ b. cond b (v ∷ filter p xs) (filter p xs)) e ∙ ap (λ l. v ∷ l) h
filter-twice-by v p xs ys false true e h = ap (λ b. cond b (v ∷ filter p xs) (filter p xs)) e ∙ h
filter-twice-by v p xs ys true false e h = h
filter-twice-by v p xs ys false false e h = h

filter-twice : (p q : RowVersion → Bool) (vs : List RowVersion) → filter p (filter q vs) ≡ filter (λ v. p v && q v) vs
filter-twice p q [] = refl
filter-twice p q (v ∷ vs) = filter-twice-by v p (filter q vs) (filter (λ v. p v && q v) vs) (p v) (q v) refl (filter-twice p q vs)

filter-as : (p q : RowVersion → Bool) (vs : List RowVersion) → ((v : RowVersion) → p v ≡ q v) → filter p vs ≡ filter q vs
filter-as p q [] e = refl
filter-as p q (v ∷ vs) e = ap (λ b. cond b (v ∷ filter p vs) (filter p vs)) (e v) ∙ ap (λ l. cond (q v) (v ∷ l) l) (filter-as p q vs e)

pub filter-swap : (p q : RowVersion → Bool) (vs : List RowVersion) → filter p (filter q vs) ≡ filter q (filter p vs)
filter-swap p q vs = filter-twice p q vs ∙ filter-as (λ v. p v && q v) (λ v. q v && p v) vs (λ v. and-swap (p v) (q v)) ∙ sym (filter-twice q p vs)

-- ---- adjoining ranges

-- a key at or after a version's, below a bound
pub before-below : (v w : RowVersion) (bound : List ℕ) → stands_before v w ≡ true → below w.key bound ≡ true → below v.key bound ≡ true
before-below v w bound h i = elim (or_cases (below v.key w.key) (same_key v.key w.key && nat_lt w.ts v.ts) h) [
  | inl e ↦ key-trans v.key w.key bound e i
  | inr e ↦ ap (λ k. below k bound) (same-key v.key w.key (and_parts (same_key v.key w.key) (nat_lt w.ts v.ts) e).0) ∙ i
]

not-true : (b : Bool) → IsTrue (not b) → b ≡ false
not-true true h = cc
not-true false h = refl

within-high : (key mid : List ℕ) (high : Option (List ℕ)) → IsTrue (is_high_within (Some mid) high) → below key mid ≡ true → is_below_high key high ≡ true
within-high key mid None h i = refl
within-high key mid (Some b) h i = below-upto key mid b i (not-true (below b mid) h)

past-low-by : (key low mid : List ℕ) (b : Bool) → below key low ≡ b → IsTrue (not (below mid low)) → below key mid ≡ false → b ≡ false
past-low-by key low mid true e h i = absurd (false≢true (sym i ∙ below-upto key low mid e (not-true (below mid low) h)))
past-low-by key low mid false e h i = refl

pub clip-clip : (r s : Range) (vs : List RowVersion) → clip r (clip s vs) ≡ clip (common r s) vs
clip-clip r s vs = filter-twice (λ v. in_range v.key r) (λ v. in_range v.key s) vs ∙ sym (filter-as (λ v. in_range v.key (common r s)) (λ v. in_range v.key r && in_range v.key s) vs (λ v. in-common v.key r s))

abbrev Past : List ℕ → List RowVersion → Type 0
Past mid vs = AllByRecursion (λ w. below w.key mid ≡ false) vs

past-one : (v w : RowVersion) (mid : List ℕ) (b : Bool) → below w.key mid ≡ b → stands_before v w ≡ true → below v.key mid ≡ false → b ≡ false
past-one v w mid true e h i = absurd (false≢true (sym i ∙ before-below v w mid h e))
past-one v w mid false e h i = refl

past-above : (v : RowVersion) (mid : List ℕ) (ws : List RowVersion) → below v.key mid ≡ false → Above v ws → Past mid ws
past-above v mid [] h a = tt
past-above v mid (w ∷ ws) h a = (past-one v w mid (below w.key mid) refl a.0 h, past-above v mid ws h a.1)

pub and-false : (b c : Bool) → c ≡ false → (b && c) ≡ false
and-false true c h = h
and-false false c h = refl

clip-past : (low mid : List ℕ) (vs : List RowVersion) → Past mid vs → clip (record { low = low; high = Some mid }) vs ≡ []
clip-past low mid [] h = refl
clip-past low mid (v ∷ vs) h = ap (λ b. cond b (v ∷ clip (record { low = low; high = Some mid }) vs) (clip (record { low = low; high = Some mid }) vs)) (and-false (not (below v.key low)) (below v.key mid) h.0) ∙ clip-past low mid vs h.1

join-low : (v : RowVersion) (xs ys zs : List RowVersion) (x a c : Bool) → a ≡ true → c ≡ true → xs ++ ys ≡ zs → cond (x && a) (v ∷ xs) xs ++ ys ≡ cond (x && c) (v ∷ zs) zs
join-low v xs ys zs true a c e f h = ap (λ a. cond a (v ∷ xs) xs ++ ys) e ∙ ap (λ l. v ∷ l) h ∙ ap (λ c. cond c (v ∷ zs) zs) (sym f)
join-low v xs ys zs false a c e f h = h

join-high : (v : RowVersion) (ys zs : List RowVersion) (x c : Bool) → x ≡ false → ys ≡ zs → cond c (v ∷ ys) ys ≡ cond (not x && c) (v ∷ zs) zs
join-high v ys zs x c e h = ap (λ l. cond c (v ∷ l) l) h ∙ ap (λ x. cond (not x && c) (v ∷ zs) zs) (sym e)

module _ (low mid : List ℕ) (high : Option (List ℕ)) (rise : IsTrue (not (below mid low))) (within : IsTrue (is_high_within (Some mid) high)) where
  abbrev lower : Range
  lower = record { low = low; high = Some mid }

  abbrev upper : Range
  upper = record { low = mid; high = high }

  abbrev joined : Range
  joined = record { low = low; high = high }

  join-by : (v : RowVersion) (vs : List RowVersion) (b : Bool) → below v.key mid ≡ b → Above v vs → clip lower vs ++ clip upper vs ≡ clip joined vs
      → cond (not (below v.key low) && b) (v ∷ clip lower vs) (clip lower vs) ++ cond (not b && is_below_high v.key high) (v ∷ clip upper vs) (clip upper vs)
      ≡ cond (not (below v.key low) && is_below_high v.key high) (v ∷ clip joined vs) (clip joined vs)
  join-by v vs true e a h = join-low v (clip lower vs) (clip upper vs) (clip joined vs) (not (below v.key low)) true (is_below_high v.key high) refl (within-high v.key mid high within e) h
  join-by v vs false e a h = let n = clip-past low mid vs (past-above v mid vs e a) in
      ap (λ b. cond b (v ∷ clip lower vs) (clip lower vs) ++ cond (is_below_high v.key high) (v ∷ clip upper vs) (clip upper vs)) (and-false (not (below v.key low)) false refl)
      ∙ ap (λ l. l ++ cond (is_below_high v.key high) (v ∷ clip upper vs) (clip upper vs)) n
      ∙ join-high v (clip upper vs) (clip joined vs) (below v.key low) (is_below_high v.key high) (past-low-by v.key low mid (below v.key low) refl rise e) (ap (λ l. l ++ clip upper vs) (sym n) ∙ h)

  -- the clips below and from a bound, one after the other, are the clip of both
  pub clips-join : (vs : List RowVersion) → IsTrue (is_ordered vs) → clip (record { low = low; high = Some mid }) vs ++ clip (record { low = mid; high = high }) vs ≡ clip (record { low = low; high = high }) vs
  clips-join [] h = refl
  clips-join (v ∷ vs) h = join-by v vs (below v.key mid) refl (ordered-above v vs h) (clips-join vs (ordered-tail v vs h))

-- the clips by a range and by the one that begins where it ends are the clip by both, where the bounds do not fall
pub clips-neighbours : (r s : Range) (vs : List RowVersion) → r.high ≡ Some s.low → IsTrue (not (below s.low r.low)) → IsTrue (is_high_within r.high s.high) → IsTrue (is_ordered vs)
    → clip r vs ++ clip s vs ≡ clip (record { low = r.low; high = s.high }) vs
clips-neighbours r s vs e h i o = ap (λ b. clip (record { low = r.low; high = b }) vs ++ clip s vs) e ∙ clips-join r.low s.low s.high h (subst (λ b. IsTrue (is_high_within b s.high)) e i) vs o

pub key-not-below : (a b : List ℕ) → below a b ≡ true → below b a ≡ false
key-not-below a b h = ap is_lt (nat_list_cmp_total.antisymm b a ∙ ap ordering_reverse (key-less a b h))

abuts-high : (h : Option (List ℕ)) (low : List ℕ) → IsTrue (option_map_or (λ b. same_key b low) h false) → h ≡ Some low
abuts-high None low e = cc
abuts-high (Some b) low e = ap Some (same-key b low e)

twice-not : (b : Bool) → IsTrue (not (not b)) → b ≡ true
twice-not true h = refl
twice-not false h = cc

not-empty-high : (low : List ℕ) (h : Option (List ℕ)) → IsTrue (not (not (is_below_high low h))) → is_below_high low h ≡ true
not-empty-high low h e = twice-not (is_below_high low h) e

within-not-empty : (mid : List ℕ) (h : Option (List ℕ)) → is_below_high mid h ≡ true → IsTrue (is_high_within (Some mid) h)
within-not-empty mid None e = refl
within-not-empty mid (Some b) e = ap not (key-not-below mid b e)

-- so they are for two ranges that abut, of which none is empty
pub clips-abut : (r s : Range) (vs : List RowVersion) → IsTrue (abuts r s) → IsTrue (not (is_empty_range r)) → IsTrue (not (is_empty_range s)) → IsTrue (is_ordered vs)
    → clip r vs ++ clip s vs ≡ clip (record { low = r.low; high = s.high }) vs
clips-abut r s vs a n k o = let e = abuts-high r.high s.low a in
    clips-neighbours r s vs e (ap not (key-not-below r.low s.low (subst (λ b. is_below_high r.low b ≡ true) e (not-empty-high r.low r.high n))))
    (subst (λ b. IsTrue (is_high_within b s.high)) (sym e) (within-not-empty s.low s.high (not-empty-high s.low s.high k))) o

-- where the middle bound is below the low one, or above the high one, or the list has no order, they are not
abbrev at_key : ℕ → RowVersion
at_key k = record { key = k ∷ []; ts = 1; op = ops.Delete; cells = [] }

abbrev from_to : ℕ → ℕ → Range
from_to a b = record { low = a ∷ []; high = Some (b ∷ []) }

middle_too_low : (clip (from_to 5 1) (at_key 3 ∷ []) ++ clip (from_to 1 9) (at_key 3 ∷ []) ≡ at_key 3 ∷ []) × (clip (from_to 5 9) (at_key 3 ∷ []) ≡ [])
middle_too_low = (refl, refl)

middle_too_high : (clip (from_to 1 9) (at_key 7 ∷ []) ++ clip (from_to 9 5) (at_key 7 ∷ []) ≡ at_key 7 ∷ []) × (clip (from_to 1 5) (at_key 7 ∷ []) ≡ [])
middle_too_high = (refl, refl)

no_order : clip (from_to 1 5) (at_key 7 ∷ at_key 3 ∷ []) ++ clip (from_to 5 9) (at_key 7 ∷ at_key 3 ∷ []) ≡ at_key 3 ∷ at_key 7 ∷ []
no_order = refl

-- ---- maps that keep names

pub record KeepsNames (f : RowVersion → RowVersion) : Type 0 where
  pub key : (v : RowVersion) → (f v).key ≡ v.key
  pub ts : (v : RowVersion) → (f v).ts ≡ v.ts

pub coerced-keeps : (from to : List Leaf) → KeepsNames (coerced from to)
coerced-keeps from to = record { key = λ v. refl; ts = λ v. refl }

map-cond : (f : RowVersion → RowVersion) (b : Bool) (xs ys : List RowVersion) → map f (cond b xs ys) ≡ cond b (map f xs) (map f ys)
map-cond f true xs ys = refl
map-cond f false xs ys = refl

module _ (f : RowVersion → RowVersion) (keeps : KeepsNames f) where
  keeps-before : (v w : RowVersion) → stands_before (f v) (f w) ≡ stands_before v w
  keeps-before v w = ap (λ k. below k (f w).key || (same_key k (f w).key && nat_lt (f w).ts (f v).ts)) (keeps.key v)
      ∙ ap (λ k. below v.key k || (same_key v.key k && nat_lt (f w).ts (f v).ts)) (keeps.key w)
      ∙ ap (λ t. below v.key w.key || (same_key v.key w.key && nat_lt t (f v).ts)) (keeps.ts w)
      ∙ ap (λ t. below v.key w.key || (same_key v.key w.key && nat_lt w.ts t)) (keeps.ts v)

  keeps-same : (v w : RowVersion) → same_name (f v) (f w) ≡ same_name v w
  keeps-same v w = ap (λ k. same_key k (f w).key && (f v).ts == (f w).ts) (keeps.key v) ∙ ap (λ k. same_key v.key k && (f v).ts == (f w).ts) (keeps.key w)
      ∙ ap (λ t. same_key v.key w.key && t == (f w).ts) (keeps.ts v) ∙ ap (λ t. same_key v.key w.key && v.ts == t) (keeps.ts w)

  pub map-ordered : (vs : List RowVersion) → is_ordered (map f vs) ≡ is_ordered vs
  map-ordered [] = refl
  map-ordered (v ∷ []) = refl
  map-ordered (v ∷ w ∷ vs) = ap (λ b. b && is_ordered (map f (w ∷ vs))) (keeps-before v w) ∙ ap (λ b. stands_before v w && b) (map-ordered (w ∷ vs))

  pub map-put : (v : RowVersion) (ws : List RowVersion) → map f (put_version v ws) ≡ put_version (f v) (map f ws)
  map-put v [] = refl
  map-put v (w ∷ ws) = map-cond f (stands_before v w) (v ∷ w ∷ ws) (cond (same_name v w) (v ∷ ws) (w ∷ put_version v ws))
      ∙ ap (cond (stands_before v w) (f v ∷ f w ∷ map f ws)) (map-cond f (same_name v w) (v ∷ ws) (w ∷ put_version v ws) ∙ ap (λ l. cond (same_name v w) (f v ∷ map f ws) (f w ∷ l)) (map-put v ws)
      ∙ ap (λ b. cond b (f v ∷ map f ws) (f w ∷ put_version (f v) (map f ws))) (sym (keeps-same v w)))
      ∙ ap (λ b. cond b (f v ∷ f w ∷ map f ws) (cond (same_name (f v) (f w)) (f v ∷ map f ws) (f w ∷ put_version (f v) (map f ws)))) (sym (keeps-before v w))

  map-puts : (vs ws : List RowVersion) → map f (put_versions vs ws) ≡ put_versions (map f vs) (map f ws)
  map-puts [] ws = refl
  map-puts (v ∷ vs) ws = map-put v (put_versions vs ws) ∙ ap (put_version (f v)) (map-puts vs ws)

  pub map-merge : (lists : List (List RowVersion)) → map f (merge lists) ≡ merge (map (map f) lists)
  unfolding merge
  map-merge [] = refl
  map-merge (vs ∷ lists) = map-puts vs (merge lists) ∙ ap (put_versions (map f vs)) (map-merge lists)

  pub map-clip : (r : Range) (vs : List RowVersion) → map f (clip r vs) ≡ clip r (map f vs)
  map-clip r [] = refl
  map-clip r (v ∷ vs) = map-cond f (in_range v.key r) (v ∷ clip r vs) (clip r vs) ∙ ap (λ l. cond (in_range v.key r) (f v ∷ l) l) (map-clip r vs)
      ∙ ap (λ k. cond (in_range k r) (f v ∷ clip r (map f vs)) (clip r (map f vs))) (sym (keeps.key v))

-- coercion keeps order, and goes through merges and clips
pub coerce-ordered : (from to : List Leaf) (vs : List RowVersion) → is_ordered (coerce_all from to vs) ≡ is_ordered vs
coerce-ordered from to = map-ordered (coerced from to) (coerced-keeps from to)

pub coerce-merge : (from to : List Leaf) (lists : List (List RowVersion)) → coerce_all from to (merge lists) ≡ merge (map (coerce_all from to) lists)
coerce-merge from to = map-merge (coerced from to) (coerced-keeps from to)

pub coerce-clip : (from to : List Leaf) (r : Range) (vs : List RowVersion) → coerce_all from to (clip r vs) ≡ clip r (coerce_all from to vs)
coerce-clip from to = map-clip (coerced from to) (coerced-keeps from to)
