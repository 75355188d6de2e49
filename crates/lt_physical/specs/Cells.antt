-- Values that are found in what is set.
use Rattle.std.specs.Prelude.{None, Option, Some}
use Rattle.std.specs.Borrow.{Bor}
use Rattle.std.specs.Option.{option_copied}
use Rattle.lt_terms.specs.Value as model
use Rattle.lt_core.specs.declared.value.Value.{Value}
use Rattle.lt_core.specs.View.{view_value}

abbrev pub value_given : Option (Bor Value) → Option Value
value_given o = option_copied o

-- none stands for null
abbrev pub value_found : Option (Bor Value) → model.Value
value_found None = model.null_value
value_found (Some v) = view_value v.now
