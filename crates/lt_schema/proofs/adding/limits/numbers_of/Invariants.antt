use Rattle.std.specs.Prelude.{drop, flat_map, map, ◌≡◌}
use Rattle.lt_schema.specs.Limits.{numbers_in, with_numbers}
use Rattle.lt_schema.specs.Tables.{view_registered}
use Rattle.lt_schema.proofs.adding.limits.numbers_of.Given as goal

abbrev pub invariant-loop-registered : goal.invariant-loop-registered
invariant-loop-registered l = with_numbers l.numbers.keys (flat_map (λ r. r.columns) (map view_registered (drop l.registered-index l.versions))) ≡ numbers_in (map view_registered l.versions)
