use Rattle.std.specs.Prelude.{drop, ◌≡◌}
use Rattle.lt_terms.specs.Key.{is_key_of}
use Rattle.lt_tables.specs.Schema.{key_kinds}
use Rattle.lt_core.specs.View.{view_parts}
use Rattle.lt_schema.specs.View.{view_key}
use Rattle.lt_fair.proofs.shape.is_key_of.Given as goal

abbrev pub invariant-loop-column : goal.invariant-loop-column
invariant-loop-column l = is_key_of (key_kinds (view_key (drop l.column-index l.columns))) (view_parts l.left) ≡ is_key_of (key_kinds (view_key l.columns)) (view_parts l.parts)
