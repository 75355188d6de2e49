-- The first version that a plain iterator has to come.
use Rattle.std.proofs.Common.{List, None, Option, Some, [], drop, map, suc, sym, zero, ap, refl, ℕ, ◌+◌, ◌∙◌, ◌∷◌, ◌≡◌}
use Rattle.std.specs.Prelude.{option_map, slice_get, unwrap_or}
use Rattle.std.specs.Option.{option_map_or}
use Rattle.std.proofs.lemmas.List.{drop-drop}
use Rattle.std.proofs.lemmas.Option.{slice_get-map}
use Rattle.lt_core.specs.View.{view_scalar}
use Rattle.lt_core.specs.declared.leaf.Scalar.{Scalar}
use Rattle.lt_terms.specs.Layout.{unset}
use Rattle.lt_tables.specs.Version.{cell_at, first_version}
use Rattle.lt_tables.specs.Version.{RowVersion}
use Rattle.lt_version.specs.declared.row_version.RowVersion.{RowVersion as CodeVersion}
use Rattle.lt_version.specs.View.{first_cell, view_version}

first_dropped : (vs : List RowVersion) (n : ℕ) → first_version (drop n vs) ≡ slice_get vs n
first_dropped [] zero = refl
first_dropped [] (suc n) = refl
first_dropped (v ∷ vs) zero = refl
first_dropped (v ∷ vs) (suc n) = first_dropped vs n

pub first_is : (list : List CodeVersion) (n : ℕ) → first_version (drop n (map view_version list)) ≡ option_map view_version (slice_get list n)
first_is list n = first_dropped (map view_version list) n ∙ slice_get-map view_version list n

pub first_got : (list : List CodeVersion) (n : ℕ) (v : CodeVersion) → Some v ≡ slice_get list n → first_version (drop n (map view_version list)) ≡ Some (view_version v)
first_got list n v e = first_is list n ∙ ap (option_map view_version) (sym e)

pub first_none : (list : List CodeVersion) (n : ℕ) → None ≡ slice_get list n → first_version (drop n (map view_version list)) ≡ None
first_none list n e = first_is list n ∙ ap (option_map view_version) (sym e)

pub cell_got : (list : List CodeVersion) (n leaf : ℕ) (v : CodeVersion) (cell : Option Scalar) → Some v ≡ slice_get list n → cell ≡ slice_get v.cells leaf
    → first_cell (drop n (map view_version list)) leaf ≡ unwrap_or (option_map view_scalar cell) unset
cell_got list n leaf v cell e d = ap (λ o. option_map_or (λ w. cell_at w.cells leaf) o unset) (first_got list n v e)
    ∙ ap (λ o. unwrap_or o unset) (slice_get-map view_scalar v.cells leaf ∙ ap (option_map view_scalar) (sym d))

pub dropped_one : (vs : List RowVersion) (n : ℕ) → drop (n + 1) vs ≡ drop 1 (drop n vs)
dropped_one vs n = sym (drop-drop 1 n vs)
