-- What the code's row versions stand for.
use Rattle.std.specs.Prelude.{List, ℕ}
use Rattle.std.specs.Option.{option_map_or}
use Rattle.lt_core.specs.View.{view_cells}
use Rattle.lt_terms.specs.declared.Op.{Op}
use Rattle.lt_terms.specs.Layout.{Cell, unset}
use Rattle.lt_tables.specs.Version.{cell_at, first_version}
use Rattle.lt_tables.specs.Version as model
use Rattle.lt_version.specs.declared.row_version.RowVersion.{RowVersion}
use Rattle.lt_version.specs.declared.versions.Head.{Head}

abbrev pub view_version : RowVersion → model.RowVersion
view_version v = record { key = v.key; ts = v.ts; op = v.op; cells = view_cells v.cells }

-- the name of a version, and what it does
pub record Name : Type 0 where
  pub key : List ℕ
  pub ts : ℕ
  pub op : Op

abbrev pub name_of : model.RowVersion → Name
name_of v = record { key = v.key; ts = v.ts; op = v.op }

abbrev pub view_head : Head → Name
view_head h = record { key = h.key.now; ts = h.ts; op = h.op }

-- a cell of the first version to come
abbrev pub first_cell : List model.RowVersion → ℕ → Cell
first_cell vs leaf = option_map_or (λ v. cell_at v.cells leaf) (first_version vs) unset
