use Rattle.std.specs.Prelude.{◌≡◌, drop, map}
use Rattle.lt_schema.specs.History.{clashes}
use Rattle.lt_schema.specs.Tables.{view_registered}
use Rattle.lt_schema.specs.View.{view_column}
use Rattle.lt_schema.proofs.adding.history.clashes.Given as goal

abbrev pub invariant-loop-registered : goal.invariant-loop-registered
invariant-loop-registered l = clashes (map view_registered (drop l.registered-index l.versions)) (view_column l.column) ≡ clashes (map view_registered l.versions) (view_column l.column)
