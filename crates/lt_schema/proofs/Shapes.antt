-- The fields of a value beside those of a kind, as a loop goes over them.
use Rattle.std.proofs.Common.{Bool, List, None, Some, [], ap, arith, drop, false, get_or, inl, inr, length, refl, sym, true, ◌+◌, ◌-◌, ◌<◌, ◌≤◌, ◌∙◌, ◌∷◌, ◌≡◌, ℕ}
use Rattle.std.specs.Prelude.{slice_get, ◌&&◌, ◌==◌}
use Rattle.std.proofs.lemmas.Bool.{eq-eqb, ne_eqb}
use Rattle.std.proofs.lemmas.List.{drop_all, drop_more, length-drop}
use Rattle.std.proofs.lemmas.Option.{get_or_from_slice_get, none-some, slice_get_cases, slice_get_within}
use Rattle.lt_core.specs.declared.kind.Kind.{Kind}
use Rattle.lt_core.specs.declared.value.Value.{Value}
use Rattle.lt_core.specs.View.{view_kind, view_settings, view_value}
use Rattle.lt_terms.specs.Kind.{has_shape, have_shapes}
use Rattle.lt_terms.specs.Value.{fields_of, no_fields}
use Rattle.lt_schema.specs.View.{view_fields}

pub drop_got : {A : Type 0} (xs : List A) (i : ℕ) (x : A) → slice_get xs i ≡ Some x → drop i xs ≡ x ∷ drop (i + 1) xs
drop_got xs i x e = drop_more xs i x (slice_get_within xs i x e) ∙ ap (λ z. z ∷ drop (i + 1) xs) (get_or_from_slice_get xs i x x e)

pub got_past : {A : Type 0} (xs : List A) (i : ℕ) → slice_get xs i ≡ None → length xs ≤ i
got_past xs i e = elim (slice_get_cases xs i).1 [ inl f ↦ absurd (none-some f.0 (sym e ∙ f.2)) | inr p ↦ p.0 ]

abbrev pub shapes_from : ℕ → List (ℕ × Value) → List (ℕ × List ℕ × Kind) → Bool
shapes_from at fs ks = have_shapes (fields_of (view_settings (drop at fs))) (view_fields (drop at ks))

shapes_at : (at : ℕ) (fs : List (ℕ × Value)) (ks : List (ℕ × List ℕ × Kind)) (f : ℕ × Value) (k : ℕ × List ℕ × Kind) → at < length fs → f ≡ get_or fs at f → slice_get ks at ≡ Some k
    → shapes_from at fs ks ≡ f.0 == k.0 && has_shape (view_value f.1) (view_kind k.2) && shapes_from (at + 1) fs ks
shapes_at at fs ks f k lt is got =
    ap (λ xs. have_shapes (fields_of (view_settings xs)) (view_fields (drop at ks))) (drop_more fs at f lt ∙ ap (λ x. x ∷ drop (at + 1) fs) (sym is))
    ∙ ap (λ ys. have_shapes (fields_of (view_settings (f ∷ drop (at + 1) fs))) (view_fields ys)) (drop_got ks at k got)

-- the next numbers differ
pub shapes_other : (at : ℕ) (fs : List (ℕ × Value)) (ks : List (ℕ × List ℕ × Kind)) (f : ℕ × Value) (k : ℕ × List ℕ × Kind) → at < length fs → f ≡ get_or fs at f → slice_get ks at ≡ Some k
    → (f.0 ≡ k.0 → ⊥) → shapes_from at fs ks ≡ false
shapes_other at fs ks f k lt is got ne = shapes_at at fs ks f k lt is got ∙ ap (λ b. b && has_shape (view_value f.1) (view_kind k.2) && shapes_from (at + 1) fs ks) (ne_eqb f.0 k.0 ne)

shape_by : (b c d : Bool) → b ≡ true → b && c && d ≡ c && d
shape_by true c d e = refl
shape_by false c d e = cc

-- the next numbers are the same, and the value has the shape or not
pub shapes_more : (at : ℕ) (fs : List (ℕ × Value)) (ks : List (ℕ × List ℕ × Kind)) (f : ℕ × Value) (k : ℕ × List ℕ × Kind) → at < length fs → f ≡ get_or fs at f → slice_get ks at ≡ Some k
    → f.0 ≡ k.0 → shapes_from at fs ks ≡ has_shape (view_value f.1) (view_kind k.2) && shapes_from (at + 1) fs ks
shapes_more at fs ks f k lt is got same = shapes_at at fs ks f k lt is got ∙ shape_by (f.0 == k.0) (has_shape (view_value f.1) (view_kind k.2)) (shapes_from (at + 1) fs ks) (eq-eqb f.0 k.0 same)

-- one field more than the kind has
pub shapes_past : (at : ℕ) (fs : List (ℕ × Value)) (ks : List (ℕ × List ℕ × Kind)) (f : ℕ × Value) → at < length fs → f ≡ get_or fs at f → slice_get ks at ≡ None → shapes_from at fs ks ≡ false
shapes_past at fs ks f lt is none =
    ap (λ xs. have_shapes (fields_of (view_settings xs)) (view_fields (drop at ks))) (drop_more fs at f lt ∙ ap (λ x. x ∷ drop (at + 1) fs) (sym is))
    ∙ ap (λ ys. have_shapes (fields_of (view_settings (f ∷ drop (at + 1) fs))) (view_fields ys)) (drop_all at ks (got_past ks at none))

none_left : (ys : List (ℕ × List ℕ × Kind)) → have_shapes no_fields (view_fields ys) ≡ 0 == length ys
none_left [] = refl
none_left (y ∷ ys) = grind arith

none_by : (a b : ℕ) → a ≤ b → 0 == b - a ≡ a == b
none_by a b h = grind arith

-- no field is left
pub shapes_all : (at : ℕ) (fs : List (ℕ × Value)) (ks : List (ℕ × List ℕ × Kind)) → length fs ≤ at → at ≤ length ks → shapes_from at fs ks ≡ at == length ks
shapes_all at fs ks all within =
    ap (λ xs. have_shapes (fields_of (view_settings xs)) (view_fields (drop at ks))) (drop_all at fs all)
    ∙ none_left (drop at ks) ∙ ap (λ n. 0 == n) (length-drop at ks) ∙ none_by at (length ks) within
