use Rattle.std.specs.Prelude.{drop, map, option_map, ◌≡◌}
use Rattle.lt_core.specs.View.{view_kind}
use Rattle.lt_tables.specs.Schema.{joined_all, kinds_given}
use Rattle.lt_schema.specs.Tables.{view_registered}
use Rattle.lt_schema.proofs.Joins.{carried}
use Rattle.lt_schema.proofs.carrier.carrier_of.Given as goal

abbrev pub invariant-loop-registered : goal.invariant-loop-registered
invariant-loop-registered l = carried (option_map view_kind l.carrier) (kinds_given (map view_registered (drop l.registered-index l.versions)) l.number) ≡ joined_all (kinds_given (map view_registered l.versions) l.number)
