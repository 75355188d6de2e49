use Rattle.std.proofs.Common.{sym, ◌∙◌}
use Rattle.lt_space.proofs.Overlaps.{IsBound, front_more, overlap_here}
use Rattle.lt_space.proofs.misplaced.first_misplaced.Goals as goal

pub returns-then-is_misplaced-clause-some : goal.returns-then-is_misplaced-clause-some
returns-then-is_misplaced-clause-some c =
    let bound = c.bound_behind.ensures in
    let is : IsBound c.args.limit c.args.sorted.now c.loop-i.i c.bound_behind.result = record { limit = bound.limit; next = bound.next; reached = bound.reached } in
    overlap_here c.args.limit c.args.sorted.now c.loop-i.i c.bound_behind.result _ c.requires c.loop-i.invariant c.loop-i-test.true is (sym c.is_misplaced.ensures ∙ c.if-is_misplaced.true)

pub loop-i-preserved : goal.loop-i-preserved
loop-i-preserved c =
    let bound = c.bound_behind.ensures in
    let is : IsBound c.args.limit c.args.sorted.now c.loop-i.i c.bound_behind.result = record { limit = bound.limit; next = bound.next; reached = bound.reached } in
    front_more c.args.limit c.args.sorted.now c.loop-i.i c.bound_behind.result _ c.loop-i.invariant c.loop-i-test.true is (sym c.is_misplaced.ensures ∙ c.if-is_misplaced.false)
