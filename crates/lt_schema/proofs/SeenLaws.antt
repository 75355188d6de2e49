-- One more name is seen, and names that are the same set.
use Rattle.std.proofs.Common.{Bool, List, None, Option, Some, [], ap, append_assoc, ap₂, cond, drop, false, get_or, length, map, refl, sym, take, true, ◌+◌, ◌++◌, ◌<◌, ◌≤◌, ◌∙◌, ◌∷◌, ◌≡◌, ℕ}
use Rattle.std.specs.Prelude.{not, ◌||◌}
use Rattle.std.specs.Borrow.{Bor}
use Rattle.std.specs.Option.{option_or}
use Rattle.std.specs.Ordering.{is_eq, nat_cmp}
use Rattle.std.specs.Cmp.Lexicographic.{slice_cmp}
use Rattle.std.specs.BTreeSet.{BTreeSet, Updates}
use Rattle.std.proofs.lemmas.Bool.Decides.{same_from_decides}
use Rattle.std.proofs.lemmas.List.{drop_more, map_push, take_all, take_more}
use Rattle.std.proofs.Math.ListN.{drop_of_length-le}
use Rattle.std.proofs.lemmas.Map.Text.{is_eq-slice_cmp}
use Rattle.std.proofs.lemmas.Slice.Eq.{bytes_eq-Decides}
use Rattle.lt_terms.specs.Conversion.{same_bytes}
use Rattle.lt_tables.specs.Schema as schema
use Rattle.lt_tables.specs.Schema.{first_of, is_among, repeated, repeated_column, repeated_in, when}
use Rattle.lt_core.specs.View.{view_kind}
use Rattle.lt_schema.specs.declared.version.Column.{Column}
use Rattle.lt_schema.specs.View.{view_column, view_columns}
use Rattle.lt_schema.specs.Seen.{Holds}

-- nothing behind it changes what was found
pub option_or-none : {A : Type 0} (o : Option A) → option_or o None ≡ o
option_or-none None = refl
option_or-none (Some a) = refl

not-true : (b : Bool) → not b ≡ false → b ≡ true
not-true true e = refl
not-true false e = cc

not-false' : (b : Bool) → not b ≡ true → b ≡ false
not-false' true e = cc
not-false' false e = refl

same_bytes_comm : (a b : List ℕ) → same_bytes a b ≡ same_bytes b a
same_bytes_comm a b = let d = bytes_eq-Decides b a in same_from_decides (same_bytes a b) (same_bytes b a) (bytes_eq-Decides a b) ((λ e. sym (d.0 e)), (λ e. d.1 (sym e)))

or_by : (b c : Bool) → cond b true c ≡ b || c
or_by true c = refl
or_by false c = refl

pub seen_more : (text : Bor (List ℕ)) (name : List ℕ) (old new : BTreeSet (Bor (List ℕ))) → text.now ≡ name → Updates (λ x y. slice_cmp nat_cmp x.now y.now) old new text true
    → (before : List (List ℕ)) → Holds old before → Holds new (name ∷ before)
seen_more text name old new is up before h q =
    up.0 q ∙ ap (λ b. cond (is_eq (slice_cmp nat_cmp text.now q.now)) true b) (h q)
    ∙ ap (λ b. cond b true (is_among before q.now)) (is_eq-slice_cmp text.now q.now ∙ same_bytes_comm text.now q.now ∙ ap (same_bytes q.now) is)
    ∙ or_by (same_bytes q.now name) (is_among before q.now)

-- ---- names as a loop goes over them

-- the names passed are those that were seen, and what is found among the rest is what there is
pub record SoFar {A : Type 0} (name : A → List ℕ) (seen : BTreeSet (Bor (List ℕ))) (at : ℕ) (items : List A) : Type 0 where
  pub holds : Holds seen (map name (take at items))
  pub first : repeated (map name (take at items)) (map name (drop at items)) ≡ repeated [] (map name items)

abbrev SameNames : List (List ℕ) → List (List ℕ) → Type 0
SameNames a b = (n : List ℕ) → is_among a n ≡ is_among b n

repeated_same : (a b ns : List (List ℕ)) → SameNames a b → repeated a ns ≡ repeated b ns
repeated_same a b [] s = refl
repeated_same a b (n ∷ ns) s = ap₂ option_or (ap (λ t. when t n) (s n)) (repeated_same (n ∷ a) (n ∷ b) ns (λ m. ap (λ t. same_bytes m n || t) (s m)))

or_swap : (a b c : Bool) → a || (b || c) ≡ b || (a || c)
or_swap true true c = refl
or_swap true false c = refl
or_swap false b c = refl

among_push : (a : List (List ℕ)) (n : List ℕ) → SameNames (n ∷ a) (a ++ n ∷ [])
among_push [] n m = refl
among_push (x ∷ a) n m = or_swap (same_bytes m n) (same_bytes m x) (is_among a m) ∙ ap (λ t. same_bytes m x || t) (among_push a n m)

pub so_far_none : {A : Type 0} (name : A → List ℕ) (seen : BTreeSet (Bor (List ℕ))) (items : List A) → Holds seen [] → SoFar name seen 0 items
so_far_none name seen items h = record { holds = h; first = refl }

at_item : {A : Type 0} (name : A → List ℕ) (items : List A) (at : ℕ) (x : A) (before : List (List ℕ)) → at < length items → x ≡ get_or items at x
    → repeated before (map name (drop at items)) ≡ option_or (when (is_among before (name x)) (name x)) (repeated (name x ∷ before) (map name (drop (at + 1) items)))
at_item name items at x before lt is = ap (λ xs. repeated before (map name xs)) (drop_more items at x lt) ∙ ap (λ y. repeated before (map name (y ∷ drop (at + 1) items))) (sym is)

pub so_far_twice : {A : Type 0} (name : A → List ℕ) (seen : BTreeSet (Bor (List ℕ))) (at : ℕ) (items : List A) (x : A) → SoFar name seen at items → at < length items → x ≡ get_or items at x
    → not (is_among (map name (take at items)) (name x)) ≡ false → repeated [] (map name items) ≡ Some (name x)
so_far_twice name seen at items x s lt is twice =
    let before = map name (take at items) in
    sym s.first ∙ at_item name items at x before lt is ∙ ap (λ b. option_or (when b (name x)) (repeated (name x ∷ before) (map name (drop (at + 1) items)))) (not-true (is_among before (name x)) twice)

pub so_far_more : {A : Type 0} (name : A → List ℕ) (seen new : BTreeSet (Bor (List ℕ))) (at : ℕ) (items : List A) (x : A) → SoFar name seen at items → at < length items → x ≡ get_or items at x
    → not (is_among (map name (take at items)) (name x)) ≡ true → Holds new (name x ∷ map name (take at items)) → SoFar name new (at + 1) items
so_far_more name seen new at items x s lt is fresh holds =
    let before = map name (take at items) in
    let rest = map name (drop (at + 1) items) in
    let more : map name (take (at + 1) items) ≡ before ++ name x ∷ [] = ap (map name) (take_more items at x lt) ∙ map_push name (take at items) (get_or items at x) ∙ ap (λ y. before ++ name y ∷ []) (sym is) in
    record {
      holds = λ q. holds q ∙ among_push before (name x) q.now ∙ ap (λ ns. is_among ns q.now) (sym more);
      first = ap (λ ns. repeated ns rest) more ∙ sym (repeated_same (name x ∷ before) (before ++ name x ∷ []) rest (among_push before (name x)))
          ∙ ap (λ b. option_or (when b (name x)) (repeated (name x ∷ before) rest)) (sym (not-false' (is_among before (name x)) fresh)) ∙ sym (at_item name items at x before lt is) ∙ s.first;
    }

pub so_far_all : {A : Type 0} (name : A → List ℕ) (seen : BTreeSet (Bor (List ℕ))) (at : ℕ) (items : List A) → SoFar name seen at items → length items ≤ at → (repeated [] (map name items) ≡ None) × Holds seen (map name items)
so_far_all name seen at items s all = (
  sym s.first ∙ ap (λ xs. repeated (map name (take at items)) (map name xs)) (drop_of_length-le items all),
  λ q. s.holds q ∙ ap (λ xs. is_among (map name xs) q.now) (take_all at items all),
)

-- ---- the same of columns, behind the names of the key

pub record ColumnsSoFar (key : List (List ℕ)) (seen : BTreeSet (Bor (List ℕ))) (at : ℕ) (items : List Column) : Type 0 where
  pub holds : Holds seen (key ++ map (λ c. c.name) (take at items))
  pub first : repeated_column (key ++ map (λ c. c.name) (take at items)) (view_columns (drop at items)) ≡ repeated_column key (view_columns items)

column_same : (a b : List (List ℕ)) (cs : List schema.Column) → SameNames a b → repeated_column a cs ≡ repeated_column b cs
column_same a b [] s = refl
column_same a b (c ∷ cs) s = ap₂ (λ x y. first_of (x ∷ repeated_in c.kind ∷ y ∷ [])) (ap (λ t. when t c.name) (s c.name)) (column_same (c.name ∷ a) (c.name ∷ b) cs (λ m. ap (λ t. same_bytes m c.name || t) (s m)))

pub columns_more : (key : List (List ℕ)) (seen new : BTreeSet (Bor (List ℕ))) (at : ℕ) (items : List Column) (x : Column) → ColumnsSoFar key seen at items → at < length items → x ≡ get_or items at x
    → not (is_among (key ++ map (λ c. c.name) (take at items)) x.name) ≡ true → repeated_in (view_kind x.kind) ≡ None → Holds new (x.name ∷ (key ++ map (λ c. c.name) (take at items))) → ColumnsSoFar key new (at + 1) items
columns_more key seen new at items x s lt is fresh inner holds =
    let name : Column → List ℕ = λ c. c.name in
    let before = key ++ map name (take at items) in
    let rest = view_columns (drop (at + 1) items) in
    let more : key ++ map name (take (at + 1) items) ≡ before ++ x.name ∷ [] =
    ap (λ xs. key ++ map name xs) (take_more items at x lt) ∙ ap (λ ns. key ++ ns) (map_push name (take at items) (get_or items at x)) ∙ sym (append_assoc key (map name (take at items)) (name (get_or items at x) ∷ []))
    ∙ ap (λ y. before ++ name y ∷ []) (sym is) in
    let here : repeated_column before (view_columns (drop at items)) ≡ repeated_column before (view_column x ∷ rest) = ap (λ xs. repeated_column before (view_columns xs)) (drop_more items at x lt) ∙ ap (λ y. repeated_column before (view_column y ∷ rest)) (sym is) in
    record {
      holds = λ q. holds q ∙ among_push before x.name q.now ∙ ap (λ ns. is_among ns q.now) (sym more);
      first = ap (λ ns. repeated_column ns rest) more ∙ sym (column_same (x.name ∷ before) (before ++ x.name ∷ []) rest (among_push before x.name))
          ∙ sym (option_or-none (repeated_column (x.name ∷ before) rest))
          ∙ ap₂ (λ b o. first_of (when b x.name ∷ o ∷ repeated_column (x.name ∷ before) rest ∷ [])) (sym (not-false' (is_among before x.name) fresh)) (sym inner) ∙ sym here ∙ s.first;
    }
