use Rattle.std.specs.Prelude.{take, ◌≡◌}
use Rattle.lt_machine.specs.Machine.{streams_told}
use Rattle.lt_reply.specs.View.{view_streams}
use Rattle.lt_replica.specs.State.{state_of}
use Rattle.lt_replica.proofs.replica.Replica.stream_lines.Given as goal

abbrev pub invariant-loop-stream : goal.invariant-loop-stream
invariant-loop-stream l = view_streams l.lines ≡ take l.stream (streams_told (state_of l.self))
