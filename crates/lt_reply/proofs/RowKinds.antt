-- The kinds of a whole row are those that a query without names picks.
use Rattle.std.proofs.Common.{List, None, Option, [], ap, append_assoc, length, length-append, refl, sym, ℕ, ◌+◌, ◌++◌, ◌∙◌, ◌∷◌, ◌≡◌, Some}
use Rattle.std.specs.Prelude.{filter_map, map, option_map, slice_get}
use Rattle.std.specs.List.{cons_option}
use Rattle.lt_terms.specs.Kind.{Kind}
use Rattle.lt_tables.specs.Query.{Query, full_columns, places, places_from}
use Rattle.lt_words.specs.Reply.{picked_kinds}
use Rattle.lt_tables.specs.Schema.{KeyColumn, SchemaVersion, Table}
use Rattle.lt_reply.specs.Rows.{row_kinds}

behind : {A : Type 0} (front : List A) (x : A) (xs : List A) → slice_get (front ++ x ∷ xs) (length front) ≡ Some x
behind [] x xs = refl
behind (y ∷ front) x xs = behind front x xs

-- what f gives at each place of a list, from the place behind a front on
each_place : {A B : Type 0} (f : A → B) (full front xs : List A) → full ≡ front ++ xs → filter_map (λ p. option_map f (slice_get full p)) (places_from (length front) xs) ≡ map f xs
each_place f full front [] e = refl
each_place {A} {B} f full front (x ∷ xs) e =
    let read : ℕ → Option B = λ p. option_map f (slice_get full p) in
    let here : slice_get full (length front) ≡ Some x = ap (λ (l : List A). slice_get l (length front)) e ∙ behind front x xs in
    let rest : filter_map read (places_from (length front + 1) xs) ≡ map f xs =
    ap (λ n. filter_map read (places_from n xs)) (sym (length-append front (x ∷ []))) ∙ each_place f full (front ++ x ∷ []) xs (e ∙ sym (append_assoc front (x ∷ []) xs)) in
    ap (λ o. cons_option (option_map f o) (filter_map read (places_from (length front + 1) xs))) here ∙ ap (λ (ys : List B). f x ∷ ys) rest

pub all_picked : (t : Table) (v : SchemaVersion) (q : Query) → t.key ≡ v.key → q.columns ≡ None → picked_kinds t v.columns q ≡ row_kinds v
all_picked t v q same none =
    let full = full_columns v.key v.columns in
    ap (λ (key : List KeyColumn). filter_map (λ p. option_map (λ c. c.1) (slice_get (full_columns key v.columns) p)) (places (full_columns key v.columns) q.columns)) same
    ∙ ap (λ (names : Option (List (List ℕ))). filter_map (λ p. option_map (λ c. c.1) (slice_get full p)) (places full names)) none
    ∙ each_place (λ (c : List ℕ × Kind). c.1) full [] full refl
