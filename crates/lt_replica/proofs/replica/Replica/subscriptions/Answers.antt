use Rattle.std.proofs.Common.{arith}
use Rattle.lt_replica.proofs.PumpedState.{sub_all, sub_next}
use Rattle.lt_replica.proofs.replica.Replica.subscriptions.Goals as goal

pub loop-part-preserved : goal.loop-part-preserved
loop-part-preserved c = sub_next c.args.self.now.map c.loop-part.part c.loop-part.subs c.add_subscription.new.subs (omega (arith, c.loop-part-test.true, c.len-count.ensures.count)) c.loop-part.invariant c.in_ok-add_subscription.ensures

pub returns-clause-subs : goal.returns-clause-subs
returns-clause-subs c = sub_all c.args.self.now.map c.loop-part.part _ (omega (arith, c.loop-part-test.false, c.len-count.ensures.count)) c.loop-part.invariant
