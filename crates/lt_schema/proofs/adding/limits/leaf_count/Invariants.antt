use Rattle.std.specs.Prelude.{[], ◌+◌, ◌++◌, ◌∷◌, map, ◌≡◌}
use Rattle.lt_tables.specs.Schema.{live_version}
use Rattle.lt_schema.specs.Limits.{leaves_in}
use Rattle.lt_schema.specs.Tables.{view_registered}
use Rattle.lt_schema.specs.View.{view_columns}
use Rattle.lt_schema.proofs.adding.limits.leaf_count.Given as goal

abbrev pub invariant-loop-number : goal.invariant-loop-number
invariant-loop-number l =
    l.count + leaves_in (map view_registered l.versions ++ live_version (view_columns l.columns) ∷ []) l.number-iterator ≡ leaves_in (map view_registered l.versions ++ live_version (view_columns l.columns) ∷ []) l.numbers.keys
