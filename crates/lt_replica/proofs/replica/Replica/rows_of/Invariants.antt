use Rattle.std.proofs.Common.{map, take, ◌≡◌}
use Rattle.lt_pending.specs.Held.{held_in}
use Rattle.lt_records.specs.View.{view_change}
use Rattle.lt_steps.specs.Memory.{gone_over}
use Rattle.lt_replica.proofs.replica.Replica.rows_of.Given as goal

abbrev pub invariant-loop-part : goal.invariant-loop-part
invariant-loop-part l = map (λ c. view_change c.now) l.changes.items ≡ gone_over (map held_in (take l.part-index l.part-items))
