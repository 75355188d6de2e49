use Rattle.std.specs.Prelude.{◌≡◌, drop, map}
use Rattle.lt_schema.specs.Lookups.{declared}
use Rattle.lt_schema.specs.Tables.{view_registered}
use Rattle.lt_schema.proofs.lookup.first_declared.Given as goal

abbrev pub invariant-loop-registered : goal.invariant-loop-registered
invariant-loop-registered l = declared (map view_registered (drop l.registered-index l.versions)) l.number ≡ declared (map view_registered l.versions) l.number
