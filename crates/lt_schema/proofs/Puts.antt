-- A field put among others that stand in falling order.
use Rattle.std.proofs.Common.{List, None, Some, [], ap, ap₂, append_assoc, arith, cond, drop, false, get_or, length, lt-ltb, refl, set, subst, sym, take, true, ℕ, ◌+◌, ◌++◌, ◌<◌, ◌≤◌, ◌∙◌, ◌∷◌, ◌≡◌}
use Rattle.std.specs.Prelude.{insert, nat_lt, reverse, slice_get, ◌==◌}
use Rattle.std.specs.List.{AllByRecursion}
use Rattle.std.proofs.lemmas.Bool.{eq-eqb}
use Rattle.std.proofs.lemmas.List.{drop-set, drop_more, reverse-append, take-append-drop, take-set, take_more}
use Rattle.std.proofs.lemmas.Option.{none-some, slice_get_read}
use Rattle.lt_codecs.proofs.ListFacts.{all_append}
use Rattle.lt_core.specs.declared.kind.Kind.{Kind}
use Rattle.lt_core.specs.View.{view_kind}
use Rattle.lt_terms.specs.Kind as kinds
use Rattle.lt_terms.specs.Kind.{field_kind}
use Rattle.lt_tables.specs.Schema.{put_kind}
use Rattle.lt_schema.specs.Carriers.{EndsBelow, falling_fields}
use Rattle.lt_schema.specs.View.{view_fields}

abbrev Field : Type 0
Field = ℕ × List ℕ × Kind

not_below : (n m : ℕ) → m < n → nat_lt n m ≡ false
not_below n m h = grind arith

not_same : (n m : ℕ) → m < n → n == m ≡ false
not_same n m h = grind arith

apart : (n m : ℕ) → n < m → n == m ≡ false
apart n m h = grind arith

-- the lower fields stay in front
pub put_past : (n : ℕ) (name : List ℕ) (k : kinds.Kind) (lows rest new : List Field) → AllByRecursion (λ f. f.0 < n) lows → put_kind n name k (view_fields rest) ≡ view_fields new
    → put_kind n name k (view_fields (lows ++ rest)) ≡ view_fields (lows ++ new)
put_past n name k [] rest new a e = e
put_past n name k (f ∷ lows) rest new a e =
    let here = field_kind f.0 f.1 (view_kind f.2) in
    let old = view_fields (lows ++ rest) in
    ap (λ b. cond b (field_kind n name k old) (cond (nat_lt n f.0) (field_kind n name k (here old)) (here (put_kind n name k old)))) (not_same n f.0 a.0)
    ∙ ap (λ b. cond b (field_kind n name k (here old)) (here (put_kind n name k old))) (not_below n f.0 a.0)
    ∙ ap here (put_past n name k lows rest new a.1 e)

-- in front of a greater one, or at the end
pub put_new : (g : Field) (rest : List Field) → ((f : Field) → slice_get rest 0 ≡ Some f → g.0 < f.0) → put_kind g.0 g.1 (view_kind g.2) (view_fields rest) ≡ view_fields (g ∷ rest)
put_new g [] h = refl
put_new g (f ∷ rest) h =
    let k = view_kind g.2 in
    let here = field_kind f.0 f.1 (view_kind f.2) in
    let old = view_fields rest in
    let below : nat_lt g.0 f.0 ≡ true = lt-ltb g.0 f.0 (h f refl) in
    let other : g.0 == f.0 ≡ false = apart g.0 f.0 (h f refl) in
    ap (λ b. cond b (field_kind g.0 g.1 k old) (cond (nat_lt g.0 f.0) (field_kind g.0 g.1 k (here old)) (here (put_kind g.0 g.1 k old)))) other
    ∙ ap (λ b. cond b (field_kind g.0 g.1 k (here old)) (here (put_kind g.0 g.1 k old))) below

-- in the place of one with its number
pub put_same : (g f : Field) (rest : List Field) → g.0 ≡ f.0 → put_kind g.0 g.1 (view_kind g.2) (view_fields (f ∷ rest)) ≡ view_fields (g ∷ rest)
put_same g f rest e =
    let k = view_kind g.2 in
    let here = field_kind f.0 f.1 (view_kind f.2) in
    let old = view_fields rest in
    ap (λ b. cond b (field_kind g.0 g.1 k old) (cond (nat_lt g.0 f.0) (field_kind g.0 g.1 k (here old)) (here (put_kind g.0 g.1 k old)))) (eq-eqb g.0 f.0 e)

some_same : (a b : Field) → Some a ≡ Some b → a ≡ b
some_same a b e = cc

all_reverse : (P : Field → Type 0) (xs : List Field) → AllByRecursion P xs → AllByRecursion P (reverse xs)
all_reverse P [] a = tt
all_reverse P (x ∷ xs) a = subst (AllByRecursion P) (sym (reverse-append (x ∷ []) xs)) (all_append P (reverse xs) (x ∷ []) (all_reverse P xs a.1) (a.0, tt))

turned : (xs : List Field) (x : Field) (ys : List Field) → reverse (xs ++ x ∷ ys) ≡ reverse ys ++ x ∷ reverse xs
turned xs x ys =
    let front : reverse (x ∷ ys) ≡ reverse ys ++ x ∷ [] = reverse-append (x ∷ []) ys in
    reverse-append xs (x ∷ ys) ∙ ap (λ zs. zs ++ reverse xs) front ∙ append_assoc (reverse ys) (x ∷ []) (reverse xs)

-- the list, with what the front ends in
parted : (fs : List Field) (b : ℕ) (f : Field) → b < length fs → f ≡ get_or fs b f → reverse fs ≡ reverse (drop (b + 1) fs) ++ f ∷ reverse (take b fs)
parted fs b f lt is =
    let whole : fs ≡ take b fs ++ f ∷ drop (b + 1) fs = sym (take-append-drop b fs) ∙ ap (λ zs. take b fs ++ zs) (drop_more fs b f lt ∙ ap (λ z. z ∷ drop (b + 1) fs) (sym is)) in
    ap reverse whole ∙ turned (take b fs) f (drop (b + 1) fs)

-- in the place of the one before those that are lower
pub put_replaced : (fs : List Field) (g f : Field) (at b : ℕ) → EndsBelow fs g.0 at → at ≡ b + 1 → f ≡ get_or fs b f → g.0 ≡ f.0
    → falling_fields (set fs b g) ≡ put_kind g.0 g.1 (view_kind g.2) (falling_fields fs)
put_replaced fs g f at b ends next is same =
    let lt : b < length fs = omega (arith, ends.within, next) in
    let lows = reverse (drop (b + 1) fs) in
    let rest = reverse (take b fs) in
    let lower : AllByRecursion (λ x. x.0 < g.0) lows = all_reverse (λ x. x.0 < g.0) (drop (b + 1) fs) (subst (λ n. AllByRecursion (λ (x : Field). x.0 < g.0) (drop n fs)) next ends.lower) in
    let now : set fs b g ≡ take b fs ++ g ∷ drop (b + 1) fs = sym (take-append-drop b (set fs b g)) ∙ ap₂ (λ xs ys. xs ++ ys) (take-set fs b g) (drop-set fs b g lt) in
    let new : falling_fields (set fs b g) ≡ view_fields (lows ++ g ∷ rest) = ap falling_fields now ∙ ap view_fields (turned (take b fs) g (drop (b + 1) fs)) in
    new ∙ sym (ap (λ xs. put_kind g.0 g.1 (view_kind g.2) (view_fields xs)) (parted fs b f lt is) ∙ put_past g.0 g.1 (view_kind g.2) lows (f ∷ rest) (g ∷ rest) lower (put_same g f rest same))

-- behind those that are not lower
inserted : (fs : List Field) (g : Field) (at : ℕ) → EndsBelow fs g.0 at → ((f : Field) → slice_get (reverse (take at fs)) 0 ≡ Some f → g.0 < f.0)
    → falling_fields (insert fs at g) ≡ put_kind g.0 g.1 (view_kind g.2) (falling_fields fs)
inserted fs g at ends past =
    let lows = reverse (drop at fs) in
    let rest = reverse (take at fs) in
    let lower : AllByRecursion (λ x. x.0 < g.0) lows = all_reverse (λ x. x.0 < g.0) (drop at fs) ends.lower in
    let old : reverse fs ≡ lows ++ rest = ap reverse (sym (take-append-drop at fs)) ∙ reverse-append (take at fs) (drop at fs) in
    ap view_fields (turned (take at fs) g (drop at fs))
    ∙ sym (ap (λ xs. put_kind g.0 g.1 (view_kind g.2) (view_fields xs)) old ∙ put_past g.0 g.1 (view_kind g.2) lows rest (g ∷ rest) lower (put_new g rest past))

pub put_first : (fs : List Field) (g : Field) (at : ℕ) → EndsBelow fs g.0 at → at ≤ 0 → falling_fields (insert fs at g) ≡ put_kind g.0 g.1 (view_kind g.2) (falling_fields fs)
put_first fs g at ends none =
    let zeroth : at ≡ 0 = omega (arith, none) in
    inserted fs g at ends (λ f e. let gone : slice_get (reverse (take at fs)) 0 ≡ None = ap (λ n. slice_get (reverse (take n fs)) 0) zeroth in absurd (none-some f (sym gone ∙ e)))

pub put_behind : (fs : List Field) (g h : Field) (at b : ℕ) → EndsBelow fs g.0 at → at ≡ b + 1 → h ≡ get_or fs b h → (h.0 ≡ g.0 → ⊥) → falling_fields (insert fs at g) ≡ put_kind g.0 g.1 (view_kind g.2) (falling_fields fs)
put_behind fs g h at b ends next is other =
    let lt : b < length fs = omega (arith, ends.within, next) in
    let got : slice_get fs b ≡ Some h = slice_get_read fs (length fs) b h refl lt is in
    let front : reverse (take at fs) ≡ h ∷ reverse (take b fs) = ap (λ n. reverse (take n fs)) next ∙ ap reverse (take_more fs b h lt ∙ ap (λ z. take b fs ++ z ∷ []) (sym is)) ∙ turned (take b fs) h [] in
    inserted fs g at ends (λ f e.
    let same : h ≡ f = some_same h f (ap (λ xs. slice_get xs 0) (sym front) ∙ e) in
    subst (λ (x : Field). g.0 < x.0) same (omega (arith, ends.stops b h next got, other)))
