-- Which changes the subscriptions are given, one change after another.
use Rattle.std.proofs.Common.{Bool, List, [], ap, ap₂, cond, eqb-true, false, refl, subst, suc, sym, true, zero, ℕ, ◌++◌, ◌<◌, ◌∙◌, ◌∷◌, ◌≡◌, arith, eq-eqb}
use Rattle.std.specs.Prelude.{IsTrue, Option, Some, length, nat_lt, not, slice_get, unwrap_or, ◌&&◌, ◌==◌, ◌||◌}
use Rattle.std.specs.List.{AllByRecursion}
use Rattle.std.proofs.lemmas.Bool.{and_from, and_parts}
use Rattle.std.proofs.lemmas.List.Sums.{fold-append}
use Rattle.lt_terms.specs.Key.{Range, in_range, same_key}
use Rattle.lt_terms.specs.Log.{Change, change_key}
use Rattle.lt_tables.specs.Pump.{holds_change, put_change, without_change}
use Rattle.lt_tables.specs.Schema.{change_at}
use Rattle.lt_lemmas.proofs.PartsChanged.{change_twice, changed_there}
use Rattle.lt_lemmas.proofs.PointLaws.{itself, same}
use Rattle.lt_pump.specs.Given.{AreApart, AreDisjoint, HasKey, IsOutOfAll, all_given, given}
use Rattle.lt_pump.specs.Positions.{IsOther}

abbrev pub Held : Type 0
Held = List (List Change)

abbrev pub Subs : Type 0
Subs = List (Range × ℕ)

-- ---- at a place

pub all_there : {A : Type 0} (P : A → Type 0) (xs : List A) (i : ℕ) (x : A) → AllByRecursion P xs → slice_get xs i ≡ Some x → P x
all_there P [] i x a e = absurd cc
all_there P (y ∷ xs) zero x a e = let d : y ≡ x = cc in subst P d a.0
all_there P (y ∷ xs) (suc i) x a e = all_there P xs i x a.1 e

pub there : {A : Type 0} (xs : List A) (i : ℕ) → i < length xs → (x : A) × (slice_get xs i ≡ Some x)
there [] i l = absurd (omega (arith, l))
there (x ∷ xs) zero l = (x, refl)
there (x ∷ xs) (suc i) l = there xs i (omega (arith, l))

pub there_below : {A : Type 0} (xs : List A) (i : ℕ) (x : A) → slice_get xs i ≡ Some x → i < length xs
there_below [] i x e = absurd cc
there_below (y ∷ xs) zero x e = omega arith
there_below (y ∷ xs) (suc i) x e = let l = there_below xs i x e in omega (arith, l)

changed_same : {A : Type 0} (f : A → A) (P : A → Type 0) → ((x : A) → P x → f x ≡ x) → (i : ℕ) (xs : List A) → AllByRecursion P xs → change_at f i xs ≡ xs
changed_same f P k i [] a = refl
changed_same f P k zero (x ∷ xs) a = ap (λ y. y ∷ xs) (k x a.0)
changed_same f P k (suc i) (x ∷ xs) a = ap (λ ys. x ∷ ys) (changed_same f P k i xs a.1)

pub all_changed : {A : Type 0} (P : A → Type 0) (f : A → A) → ((x : A) → P x → P (f x)) → (i : ℕ) (xs : List A) → AllByRecursion P xs → AllByRecursion P (change_at f i xs)
all_changed P f k i [] a = tt
all_changed P f k zero (x ∷ xs) a = (k x a.0, a.1)
all_changed P f k (suc i) (x ∷ xs) a = (a.0, all_changed P f k i xs a.1)

no : (b : Bool) → (b ≡ true → ⊥) → b ≡ false
no true h = absurd (h refl)
no false h = refl

-- ---- one change

-- to a list outside of whose range it lies, or that begins later
outside : (c : Change) (s : Range × ℕ) (held : List Change) → in_range (change_key c) s.0 ≡ false → given (c ∷ []) s.0 s.1 held ≡ held
outside c s held e = ap (λ b. cond (b && nat_lt s.1 c.ts) (put_change c held) held) e

at_most : (b d : Bool) (x y : List Change) → d ≡ false → cond (b && d) x y ≡ y
at_most true d x y e = ap (λ z. cond z x y) e
at_most false d x y e = refl

low : (c : Change) (s : Range × ℕ) (held : List Change) → nat_lt s.1 c.ts ≡ false → given (c ∷ []) s.0 s.1 held ≡ held
low c s held e = at_most (in_range (change_key c) s.0) (nat_lt s.1 c.ts) (put_change c held) held e

inside : (c : Change) (s : Range × ℕ) (held : List Change) → in_range (change_key c) s.0 ≡ true → nat_lt s.1 c.ts ≡ true → given (c ∷ []) s.0 s.1 held ≡ put_change c held
inside c s held e l = ap₂ (λ (b d : Bool). cond (b && d) (put_change c held) held) e l

-- where no subscription has its key
pub given_none : (c : Change) (subs : Subs) (held : Held) → IsOutOfAll (change_key c) subs → all_given (c ∷ []) subs held ≡ held
given_none c [] held a = refl
given_none c (s ∷ ss) [] a = refl
given_none c (s ∷ ss) (h ∷ hs) a = ap₂ (λ (x : List Change) (xs : Held). x ∷ xs) (outside c s h a.0) (given_none c ss hs a.1)

-- the others have not what one has
others_out : (key : List ℕ) (s : Range × ℕ) (ss : Subs) → in_range key s.0 ≡ true → AllByRecursion (λ t. AreApart s.0 t.0) ss → IsOutOfAll key ss
others_out key s [] e a = tt
others_out key s (t ∷ ts) e a = (no (in_range key t.0) (λ f. a.0 key e f), others_out key s ts e a.1)

first_out : (key : List ℕ) (s : Range × ℕ) (ss : Subs) (i : ℕ) (sub : Range × ℕ) → AllByRecursion (λ t. AreApart s.0 t.0) ss → slice_get ss i ≡ Some sub → in_range key sub.0 ≡ true → in_range key s.0 ≡ false
first_out key s ss i sub a e f = no (in_range key s.0) (λ g. all_there (λ t. AreApart s.0 t.0) ss i sub a e key g f)

-- where one has it, and begins later
pub given_low : (c : Change) (subs : Subs) (held : Held) (i : ℕ) (sub : Range × ℕ) → AreDisjoint subs → slice_get subs i ≡ Some sub → in_range (change_key c) sub.0 ≡ true → nat_lt sub.1 c.ts ≡ false → all_given (c ∷ []) subs held ≡ held
given_low c [] held i sub d e f l = refl
given_low c (s ∷ ss) [] i sub d e f l = refl
given_low c (s ∷ ss) (h ∷ hs) zero sub d e f l =
    let is : s ≡ sub = cc in
    ap₂ (λ (x : List Change) (xs : Held). x ∷ xs) (low c s h (ap (λ (t : Range × ℕ). nat_lt t.1 c.ts) is ∙ l)) (given_none c ss hs (others_out (change_key c) s ss (ap (λ (t : Range × ℕ). in_range (change_key c) t.0) is ∙ f) d.0))
given_low c (s ∷ ss) (h ∷ hs) (suc i) sub d e f l =
    ap₂ (λ (x : List Change) (xs : Held). x ∷ xs) (outside c s h (first_out (change_key c) s ss i sub d.0 e f)) (given_low c ss hs i sub d.1 e f l)

-- where one has it, and begins before it
pub given_one : (c : Change) (subs : Subs) (held : Held) (i : ℕ) (sub : Range × ℕ) → AreDisjoint subs → slice_get subs i ≡ Some sub → in_range (change_key c) sub.0 ≡ true → nat_lt sub.1 c.ts ≡ true → all_given (c ∷ []) subs held ≡ change_at (put_change c) i held
given_one c [] held i sub d e f l = absurd cc
given_one c (s ∷ ss) [] i sub d e f l = refl
given_one c (s ∷ ss) (h ∷ hs) zero sub d e f l =
    let is : s ≡ sub = cc in
    ap₂ (λ (x : List Change) (xs : Held). x ∷ xs) (inside c s h (ap (λ (t : Range × ℕ). in_range (change_key c) t.0) is ∙ f) (ap (λ (t : Range × ℕ). nat_lt t.1 c.ts) is ∙ l))
    (given_none c ss hs (others_out (change_key c) s ss (ap (λ (t : Range × ℕ). in_range (change_key c) t.0) is ∙ f) d.0))
given_one c (s ∷ ss) (h ∷ hs) (suc i) sub d e f l =
    ap₂ (λ (x : List Change) (xs : Held). x ∷ xs) (outside c s h (first_out (change_key c) s ss i sub d.0 e f)) (given_one c ss hs i sub d.1 e f l)

-- ---- one after another

pub given_nothing : (subs : Subs) (held : Held) → all_given [] subs held ≡ held
given_nothing [] held = refl
given_nothing (s ∷ ss) [] = refl
given_nothing (s ∷ ss) (h ∷ hs) = ap (λ (xs : Held). h ∷ xs) (given_nothing ss hs)

pub given_append : (xs ys : List Change) (subs : Subs) (held : Held) → all_given (xs ++ ys) subs held ≡ all_given ys subs (all_given xs subs held)
given_append xs ys [] held = refl
given_append xs ys (s ∷ ss) [] = refl
given_append xs ys (s ∷ ss) (h ∷ hs) = ap₂ (λ (x : List Change) (zs : Held). x ∷ zs) (fold-append (λ ds c. cond (in_range (change_key c) s.0 && nat_lt s.1 c.ts) (put_change c ds) ds) h xs ys) (given_append xs ys ss hs)

pub given_length : (cs : List Change) (subs : Subs) (held : Held) → length (all_given cs subs held) ≡ length held
given_length cs [] held = refl
given_length cs (s ∷ ss) [] = refl
given_length cs (s ∷ ss) (h ∷ hs) = ap suc (given_length cs ss hs)

-- ---- what is put, and taken back

put_by : (P : Change → Type 0) (c d : Change) (ds : List Change) (b : Bool) → P c → AllByRecursion P (d ∷ ds) → AllByRecursion P (put_change c ds) → AllByRecursion P (cond b (c ∷ d ∷ ds) (d ∷ put_change c ds))
put_by P c d ds true p a i = (p, a)
put_by P c d ds false p a i = (a.0, i)

pub all_put : (P : Change → Type 0) (c : Change) (ds : List Change) → P c → AllByRecursion P ds → AllByRecursion P (put_change c ds)
all_put P c [] p a = (p, tt)
all_put P c (d ∷ ds) p a = put_by P c d ds _ p a (all_put P c ds p a.1)

given_by : (P : Change → Type 0) (c : Change) (h : List Change) (b : Bool) → P c → AllByRecursion P h → AllByRecursion P (cond b (put_change c h) h)
given_by P c h true p a = all_put P c h p a
given_by P c h false p a = a

pub all_after : (P : Change → Type 0) (c : Change) (subs : Subs) (held : Held) → P c → AllByRecursion (AllByRecursion P) held → AllByRecursion (AllByRecursion P) (all_given (c ∷ []) subs held)
all_after P c [] held p a = a
all_after P c (s ∷ ss) [] p a = a
all_after P c (s ∷ ss) (h ∷ hs) p a = (given_by P c h (in_range (change_key c) s.0 && nat_lt s.1 c.ts) p a.0, all_after P c ss hs p a.1)

abbrev is_named : Change → Change → Bool
is_named c d = same_key (change_key d) (change_key c) && d.ts == c.ts

named_self : (c : Change) → is_named c c ≡ true
named_self c = and_from (same_key (change_key c) (change_key c)) (c.ts == c.ts) (itself (change_key c)) (eq-eqb c.ts c.ts refl)

other_named : (c d : Change) → IsOther c d → is_named c d ≡ false
other_named c d o = no (is_named c d) (λ e. let p = and_parts (same_key (change_key d) (change_key c)) (d.ts == c.ts) e in o (same (change_key d) (change_key c) p.0) (eqb-true d.ts c.ts p.1))

without_none : (c : Change) (ds : List Change) → AllByRecursion (IsOther c) ds → without_change (change_key c) c.ts ds ≡ ds
without_none c [] a = refl
without_none c (d ∷ ds) a = ap (λ (b : Bool). cond (not b) (d ∷ without_change (change_key c) c.ts ds) (without_change (change_key c) c.ts ds)) (other_named c d a.0) ∙ ap (λ (xs : List Change). d ∷ xs) (without_none c ds a.1)

without_self : (c : Change) (ds : List Change) → AllByRecursion (IsOther c) ds → without_change (change_key c) c.ts (c ∷ ds) ≡ ds
without_self c ds a = ap (λ (b : Bool). cond (not b) (c ∷ without_change (change_key c) c.ts ds) (without_change (change_key c) c.ts ds)) (named_self c) ∙ without_none c ds a

without_by : (c d : Change) (ds : List Change) (b : Bool) → AllByRecursion (IsOther c) (d ∷ ds) → without_change (change_key c) c.ts (put_change c ds) ≡ ds → without_change (change_key c) c.ts (cond b (c ∷ d ∷ ds) (d ∷ put_change c ds)) ≡ d ∷ ds
without_by c d ds true a i = without_self c (d ∷ ds) a
without_by c d ds false a i = ap (λ (b : Bool). cond (not b) (d ∷ without_change (change_key c) c.ts (put_change c ds)) (without_change (change_key c) c.ts (put_change c ds))) (other_named c d a.0) ∙ ap (λ (xs : List Change). d ∷ xs) i

without_put : (c : Change) (ds : List Change) → AllByRecursion (IsOther c) ds → without_change (change_key c) c.ts (put_change c ds) ≡ ds
without_put c [] a = without_self c [] a
without_put c (d ∷ ds) a = without_by c d ds _ a (without_put c ds a.1)

-- what was put can be taken back, and then all is as it was
pub taken_back : (c : Change) (i : ℕ) (held now : Held) → AllByRecursion (AllByRecursion (IsOther c)) held → now ≡ change_at (without_change (change_key c) c.ts) i (change_at (put_change c) i held) → now ≡ held
taken_back c i held now a e = e ∙ change_twice (without_change (change_key c) c.ts) (put_change c) i held
    ∙ changed_same (λ ds. without_change (change_key c) c.ts (put_change c ds)) (AllByRecursion (IsOther c)) (without_put c) i held a

holds_by : (c d : Change) (ds : List Change) (b : Bool) → holds_change (change_key c) c.ts (put_change c ds) ≡ true → holds_change (change_key c) c.ts (cond b (c ∷ d ∷ ds) (d ∷ put_change c ds)) ≡ true
holds_by c d ds true i = ap (λ b. b || holds_change (change_key c) c.ts (d ∷ ds)) (named_self c)
holds_by c d ds false i = elim (is_named c d) as (λ b. (b || holds_change (change_key c) c.ts (put_change c ds)) ≡ true) [ true ↦ refl | false ↦ i ]

holds_put : (c : Change) (ds : List Change) → holds_change (change_key c) c.ts (put_change c ds) ≡ true
holds_put c [] = ap (λ b. b || false) (named_self c)
holds_put c (d ∷ ds) = holds_by c d ds _ (holds_put c ds)

pub holds_there : (c : Change) (i : ℕ) (held now : Held) → i < length held → now ≡ change_at (put_change c) i held → IsTrue (holds_change (change_key c) c.ts (unwrap_or (slice_get now i) []))
holds_there c i held now l e =
    let x = there held i l in
    let g : slice_get now i ≡ Some (put_change c x.0) = ap (λ (h : Held). slice_get h i) e ∙ changed_there (put_change c) i held x.0 x.1 in
    ap (λ (o : Option (List Change)). holds_change (change_key c) c.ts (unwrap_or o [])) g ∙ holds_put c x.0

-- none of this name stands in the list at a place
pub fresh_there : (c : Change) (i : ℕ) (held : Held) → i < length held → AllByRecursion (AllByRecursion (IsOther c)) held → AllByRecursion (IsOther c) (unwrap_or (slice_get held i) [])
fresh_there c i held l a = let x = there held i l in subst (λ (o : Option (List Change)). AllByRecursion (IsOther c) (unwrap_or o [])) (sym x.1) (all_there (AllByRecursion (IsOther c)) held i x.0 a x.1)

-- ---- by what a caller sees

pub known_there : (key : List ℕ) (i : ℕ) (subs : Subs) (held : Held) → HasKey key i subs → length subs ≡ length held → i < length held
known_there key i subs held k e = let l = there_below subs i k.sub k.here in omega (arith, l, e)
