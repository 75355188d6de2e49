-- The keys of a table that a list of changes has, by rising key, and what is given for each of them.
use Rattle.std.proofs.Common.{Bool, List, [], ap, ap₂, cond, eq-eqb, eqb-true, false, inl, inr, refl, subst, sym, true, ℕ, ◌++◌, ◌<◌, ◌∙◌, ◌∷◌, ◌≡◌}
use Rattle.std.specs.List.{AllByRecursion, cons_option}
use Rattle.std.specs.Prelude.{IsTrue, None, Option, filter, filter_map, fold, if◌then◌else◌, nat_le, option_map, ⊤, ◌==◌, ◌^◌, ◌||◌, ◌⊎◌}
use Rattle.std.specs.Ordering.{is_eq, is_lt}
use Rattle.std.specs.declared.cmp.Ordering.{Ordering}
use Rattle.std.specs.declared.cmp.Ordering.TheVariants.{Equal, Greater, Less}
use Rattle.lt_terms.specs.Key.{KeyPart, below, bytes_cmp, is_key_of, key_bytes, same_key}
use Rattle.lt_terms.specs.Log.{Change, change_key}
use Rattle.lt_tables.specs.Row.{AreKeyed, Entry, IsKeyed, entry_of, in_time, kinds_in, put_parts, row_after, row_at}
use Rattle.lt_tables.specs.Schema.{Catalogue, Column, Table}
use Rattle.lt_tables.specs.Fair.{changes_to}
use Rattle.lt_codecs.proofs.KeyLaws.{one_key, one_table}
use Rattle.lt_lemmas.proofs.PointLaws.{above, below_trans, same, swapped}

-- ---- keys with their parts, by rising key

abbrev pub Named : Type 0
Named = List ℕ × List KeyPart

abbrev pub AreOver : List ℕ → List Named → Type 0
AreOver a ks = AllByRecursion (λ k. below a k.0 ≡ true) ks

abbrev pub AreRising : List Named → Type 0
AreRising [] = ⊤
AreRising (k ∷ ks) = AreOver k.0 ks × AreRising ks

-- a key is among them
abbrev pub has_key : List ℕ → List Named → Bool
has_key a [] = false
has_key a (k ∷ ks) = same_key a k.0 || has_key a ks

over_trans : (a b : List ℕ) → below a b ≡ true → (ks : List Named) → AreOver b ks → AreOver a ks
over_trans a b h [] i = tt
over_trans a b h (k ∷ ks) i = (below_trans a b k.0 h i.0, over_trans a b h ks i.1)

less_is_not : (o : Ordering) → is_lt o ≡ true → is_eq o ≡ false
less_is_not Less h = refl
less_is_not Equal h = cc
less_is_not Greater h = cc

pub apart : (a b : List ℕ) → below a b ≡ true → same_key a b ≡ false
apart a b h = less_is_not (bytes_cmp a b) h

pub or_false : (a b : Bool) → a ≡ false → b ≡ false → (a || b) ≡ false
or_false true b h i = h
or_false false b h i = i

pub or_rest : (a b : Bool) → a ≡ false → (a || b) ≡ true → b ≡ true
or_rest true b h i = cc
or_rest false b h i = i

none_over : (a : List ℕ) (ks : List Named) → AreOver a ks → has_key a ks ≡ false
none_over a [] i = refl
none_over a (k ∷ ks) i = or_false (same_key a k.0) (has_key a ks) (apart a k.0 i.0) (none_over a ks i.1)

-- ---- two rising lists of keys, of which each has the keys that something is given for

abbrev pub Needs : {E : Type 0} → (Named → Option E) → List Named → Named → Type 0
Needs f ks x = (f x ≡ None) ⊎ (has_key x.0 ks ≡ true)

needs_less : {E : Type 0} (f : Named → Option E) (k x : Named) (ks : List Named) → below k.0 x.0 ≡ true → Needs f (k ∷ ks) x → Needs f ks x
needs_less f k x ks h (inl e) = inl e
needs_less f k x ks h (inr e) = inr (or_rest (same_key x.0 k.0) (has_key x.0 ks) (swapped x.0 k.0 ∙ apart k.0 x.0 h) e)

all_need_less : {E : Type 0} (f : Named → Option E) (k : Named) (ks xs : List Named) → AreOver k.0 xs → AllByRecursion (Needs f (k ∷ ks)) xs → AllByRecursion (Needs f ks) xs
all_need_less f k ks [] h a = tt
all_need_less f k ks (x ∷ xs) h a = (needs_less f k x ks h.0 a.0, all_need_less f k ks xs h.1 a.1)

needed_none : {E : Type 0} (f : Named → Option E) (x : Named) (ks : List Named) → has_key x.0 ks ≡ false → Needs f ks x → f x ≡ None
needed_none f x ks h (inl e) = e
needed_none f x ks h (inr e) = let d : false ≡ true = sym h ∙ e in cc

-- keys with these bytes are one
abbrev pub IsOne : (Named → Type 0) → Type 0
IsOne P = (x y : Named) → P x → P y → x.0 ≡ y.0 → x ≡ y

abbrev pub Alike : {E : Type 0} → (Named → Type 0) → (Named → Option E) → (Named → Option E) → Type 0
Alike P f g = (x : Named) → P x → f x ≡ g x

by_heads : {E : Type 0} (f g : Named → Option E) (x y : Named) (xs ys : List Named) (b s : Bool) → below x.0 y.0 ≡ b → same_key x.0 y.0 ≡ s
    → (b ≡ true → f x ≡ None) → (b ≡ true → filter_map f xs ≡ filter_map g (y ∷ ys))
    → (b ≡ false → s ≡ false → g y ≡ None) → (b ≡ false → s ≡ false → filter_map f (x ∷ xs) ≡ filter_map g ys)
    → (s ≡ true → f x ≡ g y) → (s ≡ true → filter_map f xs ≡ filter_map g ys)
    → filter_map f (x ∷ xs) ≡ filter_map g (y ∷ ys)
by_heads f g x y xs ys true s e d fx low gy high one both = ap (λ o. cons_option o (filter_map f xs)) (fx refl) ∙ low refl
by_heads f g x y xs ys false true e d fx low gy high one both = ap₂ cons_option (one refl) (both refl)
by_heads f g x y xs ys false false e d fx low gy high one both = high refl refl ∙ ap (λ o. cons_option o (filter_map g ys)) (sym (gy refl refl))

pub same_map : {E : Type 0} (P : Named → Type 0) (f g : Named → Option E) → IsOne P → Alike P f g → (xs ys : List Named) → AreRising xs → AreRising ys → AllByRecursion P xs → AllByRecursion P ys
    → AllByRecursion (Needs f ys) xs → AllByRecursion (Needs g xs) ys → filter_map f xs ≡ filter_map g ys
same_map P f g one alike [] [] r s p q a b = refl
same_map P f g one alike [] (y ∷ ys) r s p q a b =
    same_map P f g one alike [] ys r s.1 p q.1 a b.1 ∙ ap (λ o. cons_option o (filter_map g ys)) (sym (needed_none g y [] refl b.0))
same_map P f g one alike (x ∷ xs) [] r s p q a b =
    ap (λ o. cons_option o (filter_map f xs)) (needed_none f x [] refl a.0) ∙ same_map P f g one alike xs [] r.1 s p.1 q a.1 b
same_map P f g one alike (x ∷ xs) (y ∷ ys) r s p q a b = by_heads f g x y xs ys (below x.0 y.0) (same_key x.0 y.0) refl refl
    (λ e. needed_none f x (y ∷ ys) (none_over x.0 (y ∷ ys) (e, over_trans x.0 y.0 e ys s.0)) a.0)
    (λ e. same_map P f g one alike xs (y ∷ ys) r.1 s p.1 q a.1 (all_need_less g x xs (y ∷ ys) (e, over_trans x.0 y.0 e ys s.0) b))
    (λ e d. let h : below y.0 x.0 ≡ true = above x.0 y.0 e d in needed_none g y (x ∷ xs) (none_over y.0 (x ∷ xs) (h, over_trans y.0 x.0 h xs r.0)) b.0)
    (λ e d. let h : below y.0 x.0 ≡ true = above x.0 y.0 e d in same_map P f g one alike (x ∷ xs) ys r s.1 p q.1 (all_need_less f y ys (x ∷ xs) (h, over_trans y.0 x.0 h xs r.0) a) b.1)
    (λ d. alike x p.0 ∙ ap g (one x y p.0 q.0 (same x.0 y.0 d)))
    (λ d. let e : x.0 ≡ y.0 = same x.0 y.0 d in same_map P f g one alike xs ys r.1 s.1 p.1 q.1
    (all_need_less f y ys xs (subst (λ (k : List ℕ). AreOver k xs) e r.0) a.1) (all_need_less g x xs ys (subst (λ (k : List ℕ). AreOver k ys) (sym e) s.0) b.1))

-- ---- the keys of a list of changes

put_over_by : (a : List ℕ) (c : Change) (k : Named) (ks : List Named) (b s : Bool) → below a (change_key c) ≡ true → AreOver a (k ∷ ks) → AreOver a (put_parts c ks)
    → AreOver a (cond b ((change_key c, c.key) ∷ k ∷ ks) (cond s (k ∷ ks) (k ∷ put_parts c ks)))
put_over_by a c k ks true s h i ih = (h, i)
put_over_by a c k ks false true h i ih = i
put_over_by a c k ks false false h i ih = (i.0, ih)

put_over : (a : List ℕ) (c : Change) (ks : List Named) → below a (change_key c) ≡ true → AreOver a ks → AreOver a (put_parts c ks)
put_over a c [] h i = (h, tt)
put_over a c (k ∷ ks) h i = put_over_by a c k ks (below (change_key c) k.0) (same_key (change_key c) k.0) h i (put_over a c ks h i.1)

put_rising_by : (c : Change) (k : Named) (ks : List Named) (b s : Bool) → below (change_key c) k.0 ≡ b → same_key (change_key c) k.0 ≡ s → AreRising (k ∷ ks) → AreRising (put_parts c ks)
    → AreRising (cond b ((change_key c, c.key) ∷ k ∷ ks) (cond s (k ∷ ks) (k ∷ put_parts c ks)))
put_rising_by c k ks true s e d r ih = ((e, over_trans (change_key c) k.0 e ks r.0), r)
put_rising_by c k ks false true e d r ih = r
put_rising_by c k ks false false e d r ih = (put_over k.0 c ks (above (change_key c) k.0 e d) r.0, ih)

put_rising : (c : Change) (ks : List Named) → AreRising ks → AreRising (put_parts c ks)
put_rising c [] r = (tt, tt)
put_rising c (k ∷ ks) r = put_rising_by c k ks (below (change_key c) k.0) (same_key (change_key c) k.0) refl refl r (put_rising c ks r.1)

put_all_by : (P : Named → Type 0) (x k : Named) (ks js : List Named) (b s : Bool) → P x → AllByRecursion P (k ∷ ks) → AllByRecursion P js → AllByRecursion P (cond b (x ∷ k ∷ ks) (cond s (k ∷ ks) (k ∷ js)))
put_all_by P x k ks js true s h a ih = (h, a)
put_all_by P x k ks js false true h a ih = a
put_all_by P x k ks js false false h a ih = (a.0, ih)

put_all : (P : Named → Type 0) (c : Change) (ks : List Named) → P (change_key c, c.key) → AllByRecursion P ks → AllByRecursion P (put_parts c ks)
put_all P c [] h a = (h, tt)
put_all P c (k ∷ ks) h a = put_all_by P (change_key c, c.key) k ks (put_parts c ks) (below (change_key c) k.0) (same_key (change_key c) k.0) h a (put_all P c ks h a.1)

pub or_left : (a b : Bool) → a ≡ true → (a || b) ≡ true
or_left true b h = refl
or_left false b h = cc

pub or_right : (a b : Bool) → b ≡ true → (a || b) ≡ true
or_right true b h = refl
or_right false b h = h

or_swap : (a b c : Bool) → (b || (a || c)) ≡ (a || (b || c))
or_swap true true c = refl
or_swap true false c = refl
or_swap false b c = refl

or_twice : (a b c : Bool) → a ≡ b → (a || c) ≡ (b || (a || c))
or_twice true true c e = refl
or_twice true false c e = cc
or_twice false true c e = cc
or_twice false false c e = refl

put_has_by : (a k : List ℕ) (x y : Named) (ks js : List Named) (b s : Bool) → same_key x.0 y.0 ≡ s → has_key a js ≡ (same_key a x.0 || has_key a ks)
    → has_key a (cond b (x ∷ y ∷ ks) (cond s (y ∷ ks) (y ∷ js))) ≡ (same_key a x.0 || (same_key a y.0 || has_key a ks))
put_has_by a k x y ks js true s e ih = refl
put_has_by a k x y ks js false true e ih = or_twice (same_key a y.0) (same_key a x.0) (has_key a ks) (ap (same_key a) (sym (same x.0 y.0 e)))
put_has_by a k x y ks js false false e ih = ap (λ r. same_key a y.0 || r) ih ∙ or_swap (same_key a x.0) (same_key a y.0) (has_key a ks)

put_has : (a : List ℕ) (c : Change) (ks : List Named) → has_key a (put_parts c ks) ≡ (same_key a (change_key c) || has_key a ks)
put_has a c [] = refl
put_has a c (k ∷ ks) = put_has_by a a (change_key c, c.key) k ks (put_parts c ks) (below (change_key c) k.0) (same_key (change_key c) k.0) refl (put_has a c ks)

abbrev with_key : ℕ → List Named → Change → List Named
with_key table ks c = if c.table == table then put_parts c ks else ks

with_rising : (c : Change) (ks : List Named) (b : Bool) → AreRising ks → AreRising (cond b (put_parts c ks) ks)
with_rising c ks true r = put_rising c ks r
with_rising c ks false r = r

pub keys_rising : (table : ℕ) (ks : List Named) (cs : List Change) → AreRising ks → AreRising (fold (with_key table) ks cs)
keys_rising table ks [] r = r
keys_rising table ks (c ∷ cs) r = keys_rising table (with_key table ks c) cs (with_rising c ks (c.table == table) r)

with_all : (P : Named → Type 0) (c : Change) (ks : List Named) (b : Bool) → (b ≡ true → P (change_key c, c.key)) → AllByRecursion P ks → AllByRecursion P (cond b (put_parts c ks) ks)
with_all P c ks true h a = put_all P c ks (h refl) a
with_all P c ks false h a = a

pub keys_all : (P : Named → Type 0) (table : ℕ) (ks : List Named) (cs : List Change) → AllByRecursion P ks → AllByRecursion (λ c. (c.table == table) ≡ true → P (change_key c, c.key)) cs → AllByRecursion P (fold (with_key table) ks cs)
keys_all P table ks [] a b = a
keys_all P table ks (c ∷ cs) a b = keys_all P table (with_key table ks c) cs (with_all P c ks (c.table == table) b.0 a) b.1

with_has : (a : List ℕ) (c : Change) (ks : List Named) (b : Bool) → has_key a ks ≡ true → has_key a (cond b (put_parts c ks) ks) ≡ true
with_has a c ks true h = put_has a c ks ∙ or_right (same_key a (change_key c)) (has_key a ks) h
with_has a c ks false h = h

keys_keep : (table : ℕ) (a : List ℕ) (ks : List Named) (cs : List Change) → has_key a ks ≡ true → has_key a (fold (with_key table) ks cs) ≡ true
keys_keep table a ks [] h = h
keys_keep table a ks (c ∷ cs) h = keys_keep table a (with_key table ks c) cs (with_has a c ks (c.table == table) h)

-- ---- keys of the tables' kinds

abbrev pub IsNamed : Catalogue → ℕ → Named → Type 0
IsNamed cat table x = (table < 2 ^ 32) × (x.0 ≡ key_bytes table x.1) × IsTrue (is_key_of (kinds_in cat table) x.1)

pub named_once : (cat : Catalogue) (table : ℕ) → IsOne (IsNamed cat table)
named_once cat table x y p q e = let d : x.1 ≡ y.1 = one_key table (kinds_in cat table) x.1 y.1 p.2 q.2 (sym p.1 ∙ e ∙ q.1) in
    ap₂ (λ (a : List ℕ) (b : List KeyPart). let z : Named = (a, b) in z) e d

named_by : (cat : Catalogue) (table : ℕ) (c : Change) → IsKeyed cat c → (c.table == table) ≡ true → IsNamed cat table (change_key c, c.key)
named_by cat table c k e = subst (λ (n : ℕ). IsNamed cat n (change_key c, c.key)) (eqb-true c.table table e) (k.0, refl, k.1)

pub all_named : (cat : Catalogue) (table : ℕ) (cs : List Change) → AreKeyed cat cs → AllByRecursion (λ c. (c.table == table) ≡ true → IsNamed cat table (change_key c, c.key)) cs
all_named cat table [] a = tt
all_named cat table (c ∷ cs) a = (named_by cat table c a.0, all_named cat table cs a.1)

-- a key of the table that has a change in a list is among the list's keys
pub table_of_key : (cat : Catalogue) (table : ℕ) (x : Named) (c : Change) → IsNamed cat table x → IsKeyed cat c → same_key (change_key c) x.0 ≡ true → c.table ≡ table
table_of_key cat table x c p k s = one_table c.table table c.key x.1 [] [] k.0 p.0 (ap (λ (a : List ℕ). a ++ []) (same (change_key c) x.0 s ∙ p.1))

found_by : (cat : Catalogue) (table : ℕ) (x : Named) (c : Change) (cs : List Change) (ks : List Named) (b : Bool) → same_key (change_key c) x.0 ≡ b → IsNamed cat table x → IsKeyed cat c
    → (changes_to x.0 cs ≡ []) ⊎ (has_key x.0 (fold (with_key table) (with_key table ks c) cs) ≡ true)
    → (cond b (c ∷ changes_to x.0 cs) (changes_to x.0 cs) ≡ []) ⊎ (has_key x.0 (fold (with_key table) (with_key table ks c) cs) ≡ true)
found_by cat table x c cs ks true s p k h =
    let e : (c.table == table) ≡ true = eq-eqb c.table table (table_of_key cat table x c p k s) in
    let put : has_key x.0 (with_key table ks c) ≡ true = ap (λ b. has_key x.0 (cond b (put_parts c ks) ks)) e ∙ put_has x.0 c ks ∙ or_left (same_key x.0 (change_key c)) (has_key x.0 ks) (swapped x.0 (change_key c) ∙ s) in
    inr (keys_keep table x.0 (with_key table ks c) cs put)
found_by cat table x c cs ks false s p k h = h

pub changed_or_found : (cat : Catalogue) (table : ℕ) (x : Named) (cs : List Change) (ks : List Named) → IsNamed cat table x → AreKeyed cat cs
    → (changes_to x.0 cs ≡ []) ⊎ (has_key x.0 (fold (with_key table) ks cs) ≡ true)
changed_or_found cat table x [] ks p a = inl refl
changed_or_found cat table x (c ∷ cs) ks p a = found_by cat table x c cs ks (same_key (change_key c) x.0) refl p a.0 (changed_or_found cat table x cs (with_key table ks c) p a.1)

-- a key without changes has no row
pub no_row : (source : List Change) (key : List ℕ) (t : ℕ) → changes_to key source ≡ [] → row_at source key t ≡ None
no_row source key t e = ap (λ cs. row_after (in_time (filter (λ c. nat_le c.ts t) cs))) e

-- ---- what is given for the keys within some

abbrev pub entry_at : Table → List Column → List Change → ℕ → Named → Option Entry
entry_at table columns source t x = option_map (entry_of table columns x) (row_at source x.0 t)
