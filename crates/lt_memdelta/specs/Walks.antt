-- What is left of a walk over versions.
use Rattle.std.specs.Prelude.{List, None, Option, Some, [], length, ℕ, ◌++◌, ◌∷◌}
use Rattle.lt_tables.specs.Version.{RowVersion}
use Rattle.lt_core.specs.View.{view_cells}
use Rattle.lt_memdelta.specs.Stamps.{Stamps, rows_of, versions_at}
use Rattle.lt_memdelta.specs.declared.change.Item.{Item}
use Rattle.lt_memdelta.specs.declared.walk.Keyed.{Keyed}
use Rattle.lt_memdelta.specs.declared.walk.Walk.{Walk}

abbrev pub view_item : Item → RowVersion
view_item i = record { key = i.key.now; ts = i.ts; op = i.change.now.op; cells = view_cells i.change.now.cells }

abbrev pub keyed_rest : Option Keyed → List RowVersion
keyed_rest None = []
keyed_rest (Some k) = versions_at k.key.now k.stamps

abbrev pub keys_rest : Option (List (List ℕ × Stamps)) → List RowVersion
keys_rest None = []
keys_rest (Some es) = rows_of es

abbrev pub keys_left : Option (List (List ℕ × Stamps)) → ℕ
keys_left None = 0
keys_left (Some es) = length es

abbrev pub walk_rest : Walk → List RowVersion
walk_rest w = keyed_rest w.keyed ++ keys_rest w.keys

-- the first version, and those behind it
abbrev pub items_rest : Option Item → Walk → List RowVersion
items_rest None walk = []
items_rest (Some item) walk = view_item item ∷ walk_rest walk
