use Rattle.std.proofs.Common.{◌≡◌, ◌<◌, ◌≤◌, ◌^◌, ◌-◌, length}
use Rattle.lt_world.specs.Feed.{FeedGoes}
use Rattle.std.specs.Prelude.{◌⊎◌}
use Rattle.lt_world.specs.Disk.{Rose}
use Rattle.lt_pump.specs.Reads.{StandAhead, left_of}
use Rattle.lt_pump.proofs.reading.find.Given as goal

abbrev pub invariant-loop-ahead : goal.invariant-loop-ahead
invariant-loop-ahead g l = record {
  known : l.stream < (g.F.Feed.state l.feed).known;
  place : length (left_of l.ahead) ≤ 2 ^ 63 - l.offset;
  reads : StandAhead (g.F.Feed.state l.feed).told l.stream l.offset (left_of l.ahead);
  kept : (g.F.Feed.state l.feed).faults ≡ (g.F.Feed.state l.fn.feed).faults;
  called : (left_of l.ahead ≡ left_of l.fn.ahead) ⊎ Rose (g.F.Feed.state l.fn.feed).calls (g.F.Feed.state l.feed).calls;
  goes : FeedGoes (g.F.Feed.state l.fn.feed) (g.F.Feed.state l.feed);
}

abbrev pub decreases-loop-ahead : goal.decreases-loop-ahead
decreases-loop-ahead g l = 2 ^ 63 - l.offset - length (left_of l.ahead)
