-- The leaves of a layout.
use Rattle.std.specs.Prelude.{Bool, List, [], filter, ℕ, ◌∷◌}
use Rattle.std.specs.Option.{option_map_or}
use Rattle.lt_terms.specs.declared.Rank.{Rank}
use Rattle.lt_terms.specs.Layout.{Leaf, layout_of}
use Rattle.lt_tables.specs.Schema.{Catalogue, Table, carriers_of, column_live, table_numbered}

abbrev pub one_leaf : ℕ → List ℕ → Rank → Bool → Leaf
one_leaf column path rank presence = record { column = column; path = path; rank = rank; presence = presence }

-- the leaves of a table's column in its carrier, where it is live
abbrev pub live_leaves : Table → ℕ → List Leaf
live_leaves t n = layout_of (carriers_of t (filter (column_live t) (n ∷ [])))

abbrev pub carrier_leaves : Catalogue → ℕ → ℕ → List Leaf
carrier_leaves cat number n = option_map_or (λ t. live_leaves t n) (table_numbered cat number) []
