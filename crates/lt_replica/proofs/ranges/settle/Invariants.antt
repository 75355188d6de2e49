use Rattle.lt_pump.specs.Pumps.{streams_of}
use Rattle.lt_replica.proofs.RangeLaws.{SettledTo}
use Rattle.lt_replica.proofs.ranges.settle.Given as goal

abbrev pub invariant-loop-part : goal.invariant-loop-part
invariant-loop-part l = SettledTo (streams_of l.pump) l.fn.map l.map l.part
