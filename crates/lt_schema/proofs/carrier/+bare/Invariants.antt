use Rattle.std.specs.Prelude.{◌≡◌, map, take}
use Rattle.lt_schema.specs.View.{view_field}
use Rattle.lt_schema.proofs.Joins.{bare_one}
use Rattle.lt_schema.proofs.carrier.+bare.Given as goal

abbrev pub invariant-bare_fields-loop-number : goal.invariant-bare_fields-loop-number
invariant-bare_fields-loop-number l = map view_field l.copies ≡ map bare_one (map view_field (take l.number-index l.number-items))
