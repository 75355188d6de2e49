-- Reading items one after another, as a loop does.
use Rattle.std.proofs.Common.{◌≡◌, ℕ, ◌+◌, ◌<◌, ◌≤◌, List, [], ◌∷◌, ◌++◌, Option, Some, None, option_map, length, drop, get_or, map, refl, sym, ap, ◌∙◌, append_assoc}
use Rattle.std.specs.Prelude.{option_and_then}
use Rattle.std.proofs.lemmas.List.{append-nil, drop_all, drop_more, map_push}
use Rattle.lt_words.specs.SchemaText.{all_of}

-- what was read before, and what is still read
abbrev pub with_front : {A : Type 0} → List A → Option (List A) → Option (List A)
with_front front o = option_map (λ xs. front ++ xs) o

pub no_front : {A : Type 0} (o : Option (List A)) → with_front [] o ≡ o
no_front None = refl
no_front (Some xs) = refl

-- an item's answer before those of the rest
abbrev before : {A : Type 0} → Option (List A) → Option A → Option (List A)
before rest one = option_and_then (λ x. option_map (λ xs. x ∷ xs) rest) one

pub regroup : {A : Type 0} (front : List A) (x : A) (o : Option (List A)) → with_front front (option_map (λ xs. x ∷ xs) o) ≡ with_front (front ++ x ∷ []) o
regroup front x None = refl
regroup {A} front x (Some xs) = ap Some (sym (append_assoc front (x ∷ []) xs))

module _ {V D A X : Type 0} (see : V → D) (f : D → Option A) (show : X → A) (vs : List V) where
  -- what stands before the i-th item was read as these
  abbrev pub left_at : ℕ → List X → Option (List A)
  left_at i done = with_front (map show done) (all_of f (map see (drop i vs)))

  turn : (i : ℕ) (v : V) (done : List X) → i < length vs → v ≡ get_or vs i v → left_at i done ≡ with_front (map show done) (before (all_of f (map see (drop (i + 1) vs))) (f (see v)))
  turn i v done lt is = ap (λ (ws : List V). with_front (map show done) (all_of f (map see ws))) (drop_more vs i v lt)
      ∙ ap (λ w. with_front (map show done) (before (all_of f (map see (drop (i + 1) vs))) (f (see w)))) (sym is)

  pub goes_on : (i : ℕ) (v : V) (done : List X) (x : X) → i < length vs → v ≡ get_or vs i v → f (see v) ≡ Some (show x) → left_at i done ≡ left_at (i + 1) (done ++ x ∷ [])
  goes_on i v done x lt is read =
      let rest = all_of f (map see (drop (i + 1) vs)) in
      turn i v done lt is
      ∙ ap (λ o. with_front (map show done) (before rest o)) read
      ∙ regroup (map show done) (show x) rest
      ∙ ap (λ (xs : List A). with_front xs rest) (sym (map_push show done x))

  pub stops_at : (i : ℕ) (v : V) (done : List X) → i < length vs → v ≡ get_or vs i v → f (see v) ≡ None → left_at i done ≡ None
  stops_at i v done lt is read = turn i v done lt is ∙ ap (λ o. with_front (map show done) (before (all_of f (map see (drop (i + 1) vs))) o)) read

  pub is_done : (i : ℕ) (done : List X) → length vs ≤ i → left_at i done ≡ Some (map show done)
  is_done i done le = ap (λ (ws : List V). with_front (map show done) (all_of f (map see ws))) (drop_all i vs le) ∙ ap Some (append-nil (map show done))
