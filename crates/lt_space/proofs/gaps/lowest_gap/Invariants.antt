use Rattle.std.proofs.Common.{map, ◌<◌}
use Rattle.lt_space.specs.Taken.{extent_at}
use Rattle.lt_space.proofs.Passing.{IsAt}
use Rattle.lt_space.proofs.gaps.lowest_gap.Given as goal

abbrev pub invariant-loop-spot : goal.invariant-loop-spot
invariant-loop-spot l = record {
  at : IsAt l.limit l.taken (map extent_at l.spot-iterator) l.passed;
  longer : l.passed.longest < l.len;
}
