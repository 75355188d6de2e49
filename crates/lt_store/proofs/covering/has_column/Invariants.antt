use Rattle.std.specs.Prelude.{◌≡◌, drop, map}
use Rattle.std.specs.List.{list_any}
use Rattle.lt_tables.specs.Schema.{has_column}
use Rattle.lt_schema.specs.Tables.{view_registered}
use Rattle.lt_store.proofs.covering.has_column.Given as goal

abbrev pub invariant-loop-registered : goal.invariant-loop-registered
invariant-loop-registered l = list_any (has_column l.column) (map view_registered (drop l.registered-index l.versions)) ≡ list_any (has_column l.column) (map view_registered l.versions)
