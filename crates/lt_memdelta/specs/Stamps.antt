-- The versions of a group as they are kept: the changes of each key, the latest first.
use Rattle.std.specs.Prelude.{List, [], map, ℕ, ◌++◌, ◌∷◌}
use Rattle.std.specs.declared.cmp.Ordering.{Ordering}
use Rattle.std.specs.declared.cmp.Reverse.{Reverse}
use Rattle.std.specs.Ordering.{nat_cmp}
use Rattle.std.specs.BTreeMap.{BTreeMap}
use Rattle.lt_core.specs.View.{view_cells}
use Rattle.lt_tables.specs.Version.{RowVersion}
use Rattle.lt_memdelta.specs.declared.change.Change.{Change}

abbrev pub Stamps : Type 0
Stamps = BTreeMap (Reverse ℕ) Change

-- a later timestamp is less
abbrev pub later : Reverse ℕ → Reverse ℕ → Ordering
later a b = nat_cmp b.0 a.0

abbrev pub stamped : ℕ → Reverse ℕ
stamped ts = record { 0 = ts }

abbrev pub version_at : List ℕ → Reverse ℕ × Change → RowVersion
version_at key s = record { key = key; ts = s.0.0; op = s.1.op; cells = view_cells s.1.cells }

abbrev pub versions_at : List ℕ → List (Reverse ℕ × Change) → List RowVersion
versions_at key stamps = map (version_at key) stamps

-- the versions of the keys, in their order
abbrev pub rows_of : List (List ℕ × Stamps) → List RowVersion
rows_of [] = []
rows_of (e ∷ es) = versions_at e.0 e.1.entries ++ rows_of es
