-- Look-ups by parts.
use Rattle.std.specs.Prelude.{List, Option, ℕ, find}
use Rattle.std.specs.Prelude.{option_and_then}
use Rattle.lt_tables.specs.Schema.{Column, Registered, column_numbered, has_column}

-- a column as it was first declared
abbrev pub declared : List Registered → ℕ → Option Column
declared versions n = option_and_then (λ r. column_numbered r.columns n) (find (has_column n) versions)
