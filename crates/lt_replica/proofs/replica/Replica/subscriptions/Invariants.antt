use Rattle.std.proofs.Common.{map, take, ◌≡◌}
use Rattle.lt_pump.specs.View.{view_subscription}
use Rattle.lt_replica.proofs.PumpedState.{subs_of}
use Rattle.lt_replica.proofs.replica.Replica.subscriptions.Given as goal

abbrev pub invariant-loop-part : goal.invariant-loop-part
invariant-loop-part l = map view_subscription l.subs ≡ take l.part (subs_of l.self.map)
