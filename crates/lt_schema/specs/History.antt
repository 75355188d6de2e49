-- What a column may not do against the older versions, one by one.
use Rattle.std.specs.Prelude.{Bool, List, is_none, ℕ, ◌&&◌}
use Rattle.std.specs.List.{list_any}
use Rattle.lt_tables.specs.Schema.{Column, Registered, clash, column_numbered, has_column, kinds_given, latest}

-- an older version has the number, and the latest has not
abbrev pub was_dropped : List Registered → ℕ → Bool
was_dropped versions n = list_any (has_column n) versions && is_none (column_numbered (latest versions) n)

-- an older kind of the column clashes with its kind
abbrev pub clashes : List Registered → Column → Bool
clashes versions c = list_any (λ k. clash k c.kind) (kinds_given versions c.number)
