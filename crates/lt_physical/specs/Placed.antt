-- Leaves with their cells, and the values that they give.
use Rattle.std.specs.Prelude.{List, None, filter, filter_map, if◌then◌else◌, map, [], ℕ, ◌++◌, ◌==◌, ◌∷◌}
use Rattle.lt_core.specs.View.{view_leaf, view_scalar}
use Rattle.lt_terms.specs.Layout.{Cell, Leaf, next_field, value_from}
use Rattle.lt_terms.specs.Value.{Value}
use Rattle.lt_physical.specs.declared.values.Placed.{Placed}

abbrev pub view_found : Placed → Leaf × Cell
view_found p = (view_leaf p.leaf.now, view_scalar p.cell.now)

abbrev pub view_placed : List Placed → List (Leaf × Cell)
view_placed ps = map view_found ps

-- those of a column
abbrev pub of_column : ℕ → List (Leaf × Cell) → List (Leaf × Cell)
of_column column cells = filter (λ c. c.0.column == column) cells

-- the fields of the struct at a path
abbrev pub fields_at : ℕ → ℕ → List ℕ → List (Leaf × Cell) → List (ℕ × Value)
fields_at depth column path cells = map (λ n. (n, value_from depth column (path ++ n ∷ []) cells)) (filter_map (λ d. if d.0.column == column then next_field path d.0.path else None) cells)
