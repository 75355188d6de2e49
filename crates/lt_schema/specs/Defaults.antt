-- Nesting and defaults, by parts.
use Rattle.std.specs.Prelude.{Bool, List, nat_lt, not, unwrap_or, ◌&&◌}
use Rattle.std.specs.List.{list_any}
use Rattle.lt_terms.specs.Value.{null_value}
use Rattle.lt_terms.specs.Kind.{has_shape, nesting}
use Rattle.lt_terms.specs.Log.{is_log_value}
use Rattle.lt_tables.specs.Schema.{Column}

-- none of the kinds nests more than 4 deep
abbrev pub nest_low : List Column → Bool
nest_low columns = not (list_any (λ c. nat_lt 4 (nesting c.kind)) columns)

-- the default, null where none is given, is of the column's kind and a value of a log
abbrev pub is_fallback : Column → Bool
is_fallback c = has_shape (unwrap_or c.fallback null_value) c.kind && is_log_value (unwrap_or c.fallback null_value)
