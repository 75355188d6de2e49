use Rattle.std.proofs.Common.{map}
use Rattle.lt_space.specs.Gaps.{IsReached}
use Rattle.lt_space.specs.Taken.{extent_at}
use Rattle.lt_space.proofs.Passing.{IsAt}
use Rattle.lt_space.proofs.gaps.longest_gap.Given as goal

abbrev pub invariant-loop-spot : goal.invariant-loop-spot
invariant-loop-spot l = record {
  at : IsAt l.limit l.taken (map extent_at l.spot-iterator) l.passed;
  reached : IsReached l.limit l.taken l.passed.longest;
}
