-- The groups of a memory delta.
use Rattle.std.specs.Prelude.{Bool, List, [], filter, find, if◌then◌else◌, length, map, ℕ, ◌&&◌, ◌==◌, ◌∷◌, ◌+◌, take}
use Rattle.std.specs.Int.{from_be_bytes, w32}
use Rattle.std.specs.List.{AllByRecursion}
use Rattle.std.specs.Option.{option_map_or}
use Rattle.lt_tables.specs.Version.{RowVersion, put_version}
use Rattle.lt_memdelta.specs.declared.group.Group.{Group}
use Rattle.lt_memdelta.specs.Groups.{has_rows}

-- the number in a key's first four bytes
abbrev pub table_in : List ℕ → ℕ
table_in key = from_be_bytes w32 (take 4 key)

abbrev pub is_group : ℕ → ℕ → Group → Bool
is_group table version g = g.table == table && g.version == version

-- the ordered list of one group
abbrev pub group_rows : ℕ → ℕ → List Group → List RowVersion
group_rows table version gs = option_map_or (λ g. g.rows) (find (is_group table version) gs) []

-- with a version in its group, which stands last where it is new
abbrev pub put_in : ℕ → ℕ → RowVersion → List Group → List Group
put_in table version v [] = record { table = table; version = version; rows = v ∷ [] } ∷ []
put_in table version v (g ∷ gs) = if is_group table version g then record g { rows = put_version v g.rows } ∷ gs else g ∷ put_in table version v gs

abbrev pub is_kept : Group → Bool
is_kept g = has_rows g.rows

abbrev pub with_rows : (List RowVersion → List RowVersion) → Group → Group
with_rows f g = record g { rows = f g.rows }

-- the groups with other rows, but for those that have none
abbrev pub regrouped : (List RowVersion → List RowVersion) → List Group → List Group
regrouped f gs = filter is_kept (map (with_rows f) gs)

abbrev pub total : List Group → ℕ
total [] = 0
total (g ∷ gs) = length g.rows + total gs

-- what is true of each row
abbrev pub EachRow : (RowVersion → Type 0) → List Group → Type 0
EachRow P gs = AllByRecursion (λ g. AllByRecursion P g.rows) gs

abbrev pub shape_of : Group → ℕ × ℕ
shape_of g = (g.table, g.version)
