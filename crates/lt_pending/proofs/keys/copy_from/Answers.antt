use Rattle.std.proofs.Common.{◌∙◌}
use Rattle.lt_pending.proofs.Copies.{copies-changes, copies-named, copies-next, copies-none}
use Rattle.lt_pending.proofs.keys.copy_from.Goals as goal

pub loop-key-init : goal.loop-key-init
loop-key-init c =
    copies-none c.args.low.now c.args.keys.now.entries c.new-copies.result.entries c.into_iter-key-iterator.result c.new-copies.ensures.empty (c.into_iter-key-iterator.ensures.into_iter_gives ∙ c.range-key-items.ensures.between tt)
    c.range-key-items.ensures.ordered c.requires

pub loop-key-preserved-in_ok-insert : goal.loop-key-preserved-in_ok-insert
loop-key-preserved-in_ok-insert c =
    copies-next c.args.low.now c.args.keys.now.entries c.loop-key.copies.entries c.insert.new.self.entries c.loop-key.key-iterator c.next.new.self c.in_ok-copy.field-0 c.in-Some.key.now c.in-Some.stamps.now c.in_ok-copy_stamps.field-0
    c.loop-key.invariant c.in-Some.ensures.steps c.in_ok-copy.ensures c.in_ok-copy_stamps.ensures c.in_ok-insert.ensures.entries

pub loop-key-preserved : goal.loop-key-preserved
loop-key-preserved c =
    copies-next c.args.low.now c.args.keys.now.entries c.loop-key.copies.entries c.insert.new.self.entries c.loop-key.key-iterator c.next.new.self c.in_ok-copy.field-0 c.in-Some.key.now c.in-Some.stamps.now c.in_ok-copy_stamps.field-0
    c.loop-key.invariant c.in-Some.ensures.steps c.in_ok-copy.ensures c.in_ok-copy_stamps.ensures c.in_ok-insert.ensures.entries

pub returns-clause-changes : goal.returns-clause-changes
returns-clause-changes c = copies-changes c.args.low.now c.args.keys.now.entries c.loop-key.copies.entries c.loop-key.key-iterator c.loop-key.invariant c.in-None.ensures.steps.0

pub returns-clause-named : goal.returns-clause-named
returns-clause-named c = copies-named c.args.low.now c.args.keys.now.entries c.loop-key.copies.entries c.loop-key.key-iterator c.loop-key.invariant
