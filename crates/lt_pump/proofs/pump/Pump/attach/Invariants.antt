use Rattle.std.proofs.Common.{◌≡◌, ◌≤◌}
use Rattle.std.specs.Option.{option_copied}
use Rattle.lt_world.specs.Feed.{FeedGoes}
use Rattle.lt_world.specs.Disk.{Rose}
use Rattle.lt_pump.proofs.AttachLaws.{Fitting}
use Rattle.lt_pump.proofs.TileLaws.{Tiling}
use Rattle.lt_pump.proofs.pump.Pump.attach.Given as goal

abbrev pub invariant-loop-stream : goal.invariant-loop-stream
invariant-loop-stream g l = record {
  known : l.count ≤ (g.F.Feed.state l.feed).known;
  fitting : Fitting (g.F.Feed.state l.feed).told (option_copied l.kept) l.count l.stream l.bound l.lows l.positions.items;
  tiling : Tiling (option_copied l.kept) l.count l.stream l.bound l.lows l.positions.items;
  kept : (g.F.Feed.state l.feed).faults ≡ (g.F.Feed.state l.fn.feed).faults;
  called : Rose (g.F.Feed.state l.fn.feed).calls (g.F.Feed.state l.feed).calls;
  goes : FeedGoes (g.F.Feed.state l.fn.feed) (g.F.Feed.state l.feed);
}
