-- When the catalogue knows an index, table by table and leaf by leaf.
use Rattle.std.specs.Prelude.{Bool, is_some, nat_le, ◌&&◌, ◌==◌}
use Rattle.lt_terms.specs.Kind.{rank_number}
use Rattle.lt_terms.specs.Layout.{Leaf, same_leaf}
use Rattle.lt_terms.specs.Log.{bit}
use Rattle.lt_tables.specs.Schema.{Catalogue, table_numbered}
use Rattle.lt_storage.specs.Store.{TableIndex, is_covered}

-- the table is registered, and its layout agrees with the carriers
abbrev pub is_known_table : Catalogue → TableIndex → Bool
is_known_table cat t = is_some (table_numbered cat t.table) && is_covered cat t.table t.layout

-- a leaf of the carriers takes what a leaf has: it stands at the same path, with the same presence and at least the rank
abbrev pub takes_leaf : Leaf → Leaf → Bool
takes_leaf leaf carrier = same_leaf carrier leaf && (bit carrier.presence == bit leaf.presence) && nat_le (rank_number leaf.rank) (rank_number carrier.rank)
