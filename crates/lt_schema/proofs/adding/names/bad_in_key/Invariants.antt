use Rattle.std.specs.Prelude.{◌≡◌, drop}
use Rattle.lt_schema.specs.Names.{bad_key_name}
use Rattle.lt_schema.specs.View.{view_key}
use Rattle.lt_schema.proofs.adding.names.bad_in_key.Given as goal

abbrev pub invariant-loop-column : goal.invariant-loop-column
invariant-loop-column l = bad_key_name (view_key (drop l.column-index l.key)) ≡ bad_key_name (view_key l.key)
