-- The first element of a numbered list that passes a test.
use Rattle.std.proofs.Common.{Bool, List, None, Option, Some, [], ap, arith, cond, false, lt-ltb, le-ltb, refl, suc, sym, true, zero, ℕ, ◌+◌, ◌<◌, ◌∙◌, ◌∷◌, ◌≡◌, ◌≤◌}
use Rattle.std.specs.Prelude.{IfNone, IfSome, find, nat_lt, option_map, slice_get, zip, ◌&&◌}
use Rattle.std.proofs.lemmas.Bool.{and_from, and_parts, false≢true}
use Rattle.std.proofs.lemmas.Option.{none-some, same_Some, slice_get-map}
use Rattle.lt_terms.specs.Key.{Range, meets}
use Rattle.lt_tables.specs.Pump.{numbered_from}
use Rattle.lt_parts.specs.declared.entry.PartEntry.{PartEntry}
use Rattle.lt_parts.specs.Parts.{Meeting, checkpoints_of, first_below_in, ranges}
use Rattle.lt_parts.specs.Search.{IsFirstBelow, NoneBelow}
use Rattle.lt_parts.proofs.Bounds.{is_false}
use Rattle.lt_parts.proofs.Ranges.{entry_of, high_at, range_of, range_with}

pub find_at : {A : Type 0} (p : A → Bool) (m : ℕ) (xs : List A) (n : ℕ) (x : A) → slice_get xs n ≡ Some x → p x ≡ true → ((k : ℕ) (y : A) → k < n → slice_get xs k ≡ Some y → p y ≡ false) → find (λ x. p x.1) (numbered_from m xs) ≡ Some (m + n, x)
find_at p m [] n x h e f = absurd (none-some x h)
find_at {A} p m (z ∷ xs) zero x h e f =
    let s : z ≡ x = same_Some z x h in
    let k : m ≡ m + 0 = omega arith in
    ap (λ (b : Bool). cond b (Some (m, z)) (find (λ x. p x.1) (numbered_from (m + 1) xs))) (ap p s ∙ e)
    ∙ ap (λ (y : A). Some (m, y)) s ∙ ap (λ (i : ℕ). Some (i, x)) k
find_at {A} p m (z ∷ xs) (suc n) x h e f =
    let k : m + 1 + n ≡ m + suc n = omega arith in
    ap (λ (b : Bool). cond b (Some (m, z)) (find (λ x. p x.1) (numbered_from (m + 1) xs))) (f 0 z (omega arith) refl)
    ∙ find_at p (m + 1) xs n x h e (λ k y l g. f (suc k) y (omega (arith, l)) g) ∙ ap (λ (i : ℕ). Some (i, x)) k

pub find_none : {A : Type 0} (p : A → Bool) (m : ℕ) (xs : List A) → ((k : ℕ) (y : A) → slice_get xs k ≡ Some y → p y ≡ false) → find (λ x. p x.1) (numbered_from m xs) ≡ None
find_none p m [] f = refl
find_none p m (z ∷ xs) f = ap (λ (b : Bool). cond b (Some (m, z)) (find (λ x. p x.1) (numbered_from (m + 1) xs))) (f 0 z refl) ∙ find_none p (m + 1) xs (λ k y g. f (suc k) y g)

-- ---- ranges with their checkpoints

zip_at : {A B : Type 0} (xs : List A) (ys : List B) (n : ℕ) (x : A) (y : B) → slice_get xs n ≡ Some x → slice_get ys n ≡ Some y → slice_get (zip xs ys) n ≡ Some (x, y)
zip_at [] ys n x y h k = absurd (none-some x h)
zip_at (a ∷ xs) [] n x y h k = absurd (none-some y k)
zip_at {A} {B} (a ∷ xs) (b ∷ ys) zero x y h k = ap (λ (c : A). Some (c, b)) (same_Some a x h) ∙ ap (λ (c : B). Some (x, c)) (same_Some b y k)
zip_at (a ∷ xs) (b ∷ ys) (suc n) x y h k = zip_at xs ys n x y h k

zip_parts : {A B : Type 0} (xs : List A) (ys : List B) (n : ℕ) (z : A × B) → slice_get (zip xs ys) n ≡ Some z → (slice_get xs n ≡ Some z.0) × (slice_get ys n ≡ Some z.1)
zip_parts [] ys n z h = absurd (none-some z h)
zip_parts (a ∷ xs) [] n z h = absurd (none-some z h)
zip_parts {A} {B} (a ∷ xs) (b ∷ ys) zero z h = let s : (a, b) ≡ z = same_Some (a, b) z h in (ap (λ (c : A × B). Some c.0) s, ap (λ (c : A × B). Some c.1) s)
zip_parts (a ∷ xs) (b ∷ ys) (suc n) z h = zip_parts xs ys n z h

abbrev passes : Range → ℕ → Range × ℕ → Bool
passes q at y = meets y.0 q && nat_lt y.1 at

-- one that does not pass does not meet, or has no earlier checkpoint
fails : (es : List PartEntry) (q : Range) (first last at k : ℕ) (y : Range × ℕ) → Meeting es q first last → ((e : PartEntry) → first ≤ k → k < last → slice_get es k ≡ Some e → at ≤ e.checkpoint) → slice_get (zip (ranges es) (checkpoints_of es)) k ≡ Some y → passes q at y ≡ false
fails es q first last at k y m none g =
    let z = zip_parts (ranges es) (checkpoints_of es) k y g in
    let e = entry_of es k y.0 z.0 in
    let cp : e.0.checkpoint ≡ y.1 = same_Some e.0.checkpoint y.1 (sym (slice_get-map (λ (x : PartEntry). x.checkpoint) es k ∙ ap (option_map (λ (x : PartEntry). x.checkpoint)) e.1) ∙ z.1) in
    is_false (passes q at y) (λ t.
    let p = and_parts (meets y.0 q) (nat_lt y.1 at) t in
    let i = (m.exact k y.0 z.0).0 p.0 in
    let late : at ≤ e.0.checkpoint = none e.0 i.0 i.1 e.1 in
    false≢true (sym (le-ltb y.1 at (omega (arith, late, cp))) ∙ p.1))

first_some : (es : List PartEntry) (q : Range) (first last at n cp : ℕ) → Meeting es q first last → IsFirstBelow es first last at n cp → first_below_in (ranges es) (checkpoints_of es) q at ≡ Some (n, cp)
first_some es q first last at n cp m h =
    let r = range_with h.entry.low (high_at es n) in
    let in_ranges = range_of es n h.entry h.here in
    let in_checkpoints : slice_get (checkpoints_of es) n ≡ Some h.entry.checkpoint = slice_get-map (λ (x : PartEntry). x.checkpoint) es n ∙ ap (option_map (λ (x : PartEntry). x.checkpoint)) h.here in
    let early : nat_lt h.entry.checkpoint at ≡ true = lt-ltb h.entry.checkpoint at (let i = h.its in let l = h.late in omega (arith, i, l)) in
    let met : meets r q ≡ true = (m.exact n r in_ranges).1 (h.from, h.to) in
    let found = find_at (passes q at) 0 (zip (ranges es) (checkpoints_of es)) n (r, h.entry.checkpoint) (zip_at (ranges es) (checkpoints_of es) n r h.entry.checkpoint in_ranges in_checkpoints) (and_from (meets r q) (nat_lt h.entry.checkpoint at) met early)
    (λ k y l g. fails es q first last at k y m (λ e f t i. h.earlier k e f l i) g) in
    let k : 0 + n ≡ n = omega arith in
    ap (option_map (λ (x : ℕ × (Range × ℕ)). (x.0, x.1.1))) found ∙ ap (λ (i : ℕ). Some (i, h.entry.checkpoint)) k ∙ ap (λ (t : ℕ). Some (n, t)) (sym h.its)

first_none : (es : List PartEntry) (q : Range) (first last at : ℕ) → Meeting es q first last → NoneBelow es first last at → first_below_in (ranges es) (checkpoints_of es) q at ≡ None
first_none es q first last at m none = ap (option_map (λ (x : ℕ × (Range × ℕ)). (x.0, x.1.1))) (find_none (passes q at) 0 (zip (ranges es) (checkpoints_of es)) (λ k y g. fails es q first last at k y m (λ e f t i. none k e f t i) g))

pub first_below_is : (es : List PartEntry) (q : Range) (first last at : ℕ) (o : Option (ℕ × ℕ)) → Meeting es q first last → IfSome o (λ x. IsFirstBelow es first last at x.0 x.1) → IfNone o (NoneBelow es first last at) → o ≡ first_below_in (ranges es) (checkpoints_of es) q at
first_below_is es q first last at None m some none = sym (first_none es q first last at m none)
first_below_is es q first last at (Some x) m some none = sym (first_some es q first last at x.0 x.1 m some)
