use Rattle.std.proofs.Common.{take, ◌≡◌}
use Rattle.lt_machine.specs.Machine.{checkpoints_meeting}
use Rattle.lt_parts.specs.Parts.{interval}
use Rattle.lt_pump.specs.Pumps.{streams_of}
use Rattle.lt_replica.proofs.RangeLaws.{first_least}
use Rattle.lt_replica.proofs.ranges.least_meeting.Given as goal

abbrev pub invariant-loop-stream : goal.invariant-loop-stream
invariant-loop-stream l = l.least ≡ first_least (checkpoints_meeting (take l.stream (streams_of l.pump)) (interval l.low l.high))
