use Rattle.std.specs.Prelude.{[], ◌⊎◌}
use Rattle.lt_world.specs.Disk.{Rose}
use Rattle.std.proofs.Common.{◌≡◌, ◌-◌, ◌<◌, ◌≤◌, ◌^◌, length, map}
use Rattle.lt_world.specs.Feed.{FeedGoes}
use Rattle.lt_pump.specs.Given.{AreBehind}
use Rattle.lt_pump.specs.Positions.{Took, stream_of}
use Rattle.lt_pump.specs.Reads.{StandAhead, left_of}
use Rattle.lt_pump.specs.View.{view_subscription}
use Rattle.lt_pump.proofs.position.Position.run.Given as goal

abbrev pub invariant-loop-records : goal.invariant-loop-records
invariant-loop-records g l = record {
  known : l.stream < (g.F.Feed.state l.feed).known;
  place : length (left_of l.ahead) ≤ 2 ^ 63 - l.self.offset;
  ahead : StandAhead (g.F.Feed.state l.feed).told l.stream l.self.offset (left_of l.ahead);
  behind : AreBehind (stream_of l.self) (g.V.Deliver.held l.to);
  lists : length (g.V.Deliver.held l.to) ≡ length (g.V.Deliver.held l.fn.to);
  catalogue : g.V.Deliver.catalogue l.to ≡ g.V.Deliver.catalogue l.fn.to;
  header : (stream_of l.self).header ≡ (stream_of l.fn.self).header;
  took : (t : Took (g.F.Feed.state l.feed).told l.cat (map view_subscription l.subs) (stream_of l.fn.self) (stream_of l.self) (g.V.Deliver.held l.fn.to) (g.V.Deliver.held l.to)) × (l.records ≡ length t.items);
  kept : (g.F.Feed.state l.feed).faults ≡ (g.F.Feed.state l.fn.feed).faults;
  called : ((left_of l.ahead ≡ []) × (l.records ≡ 0)) ⊎ Rose (g.F.Feed.state l.fn.feed).calls (g.F.Feed.state l.feed).calls;
  goes : FeedGoes (g.F.Feed.state l.fn.feed) (g.F.Feed.state l.feed);
}
