use Rattle.std.proofs.Common.{length, ◌≡◌, ◌≤◌}
use Rattle.lt_pump.specs.Given.{AreAllBehind}
use Rattle.lt_pump.specs.Pumps.{streams_of}
use Rattle.tests_stream.proofs.pump.pump_through.Given as goal

abbrev pub invariant-loop : goal.invariant-loop
invariant-loop g l = record {
  known : length (streams_of l.pump) ≤ (g.F.Feed.state l.feed).known;
  lists : length (g.V.Deliver.held l.to) ≡ length (g.V.Deliver.held l.fn.to);
  catalogue : g.V.Deliver.catalogue l.to ≡ g.V.Deliver.catalogue l.fn.to;
  behind : AreAllBehind (streams_of l.pump) (g.V.Deliver.held l.to);
}
