use Rattle.std.proofs.Common.{arith, length, subst, sym, ◌+◌, ◌∙◌, ◌≤◌}
use Rattle.std.specs.Prelude.{IfSome}
use Rattle.lt_pump.specs.Pumps.{streams_of}
use Rattle.lt_replica.specs.Settling.{HasTimes}
use Rattle.lt_replica.proofs.RangeLaws.{SettledTo, none_told, not_there, settled_all, settled_next}
use Rattle.lt_replica.proofs.ranges.settle.Goals.{in-Some, in_default}
use Rattle.lt_replica.proofs.ranges.settle.Goals as goal

pub loop-part-preserved : goal.loop-part-preserved
loop-part-preserved c =
    let ss = streams_of c.args.pump.now in
    let now = c.loop-part.map in
    let n = c.loop-part.part in
    elim c.match-times_of.branch [
      | in-Some w ↦ subst (λ m. SettledTo ss c.args.map.now m (n + 1)) (sym (w.map-is ∙ w.set.ensures.times))
          (settled_next ss c.args.map.now now n _ _ c.loop-part.invariant (subst (λ o. IfSome o (λ t. HasTimes now ss n t.0 t.1)) w.in-Some.is c.times_of.ensures.some))
      | in_default w ↦ absurd (not_there ss c.args.map.now now n c.loop-part.invariant (omega (arith, c.loop-part-test.true, c.len-count.ensures.count)) (none_told c.times_of.result (length now ≤ n) w.in_default.not-Some c.times_of.ensures.none))
    ]

pub returns-clause-settled : goal.returns-clause-settled
returns-clause-settled c = settled_all (streams_of c.args.pump.now) c.args.map.now c.loop-part.map c.loop-part.part (omega (arith, c.loop-part-test.false, c.len-count.ensures.count)) c.loop-part.invariant
