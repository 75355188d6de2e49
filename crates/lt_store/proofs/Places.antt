-- Extents by their places.
use Rattle.std.proofs.Common.{List, ap, get_or, subst, ℕ, ◌+◌, ◌<◌, ◌∙◌, ◌∷◌, ◌≡◌}
use Rattle.std.specs.Prelude.{Contains, drop, length}
use Rattle.std.proofs.lemmas.List.{drop_more}
use Rattle.std.proofs.lemmas.Map.Made.{Contains-tail}
use Rattle.lt_terms.specs.declared.Extent.{Extent}

abbrev HasOneAt : ℕ → List Extent → Type 0
HasOneAt place xs = (e : Extent) × Contains xs e × (e.place ≡ place)

behind : (x : Extent) (xs : List Extent) (place : ℕ) → (x.place ≡ place → ⊥) → HasOneAt place (x ∷ xs) → HasOneAt place xs
behind x xs place other (e, there, at) = (e, Contains-tail x xs e (λ is. other (ap (λ y. y.place) is ∙ at)) there, at)

-- where the first of some extents is elsewhere, one behind it stands there
pub further : (xs : List Extent) (i place : ℕ) (d : Extent) → i < length xs → ((get_or xs i d).place ≡ place → ⊥) → HasOneAt place (drop i xs) → HasOneAt place (drop (i + 1) xs)
further xs i place d within other has = behind (get_or xs i d) (drop (i + 1) xs) place other (subst (HasOneAt place) (drop_more xs i d within) has)
