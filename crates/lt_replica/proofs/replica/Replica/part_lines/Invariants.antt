use Rattle.std.specs.Prelude.{take, ◌≡◌}
use Rattle.lt_machine.specs.Machine.{parts_told}
use Rattle.lt_reply.specs.View.{view_parts}
use Rattle.lt_replica.specs.State.{state_of}
use Rattle.lt_replica.proofs.replica.Replica.part_lines.Given as goal

abbrev pub invariant-loop-part : goal.invariant-loop-part
invariant-loop-part l = view_parts l.lines ≡ take l.part (parts_told (state_of l.self))
