use Rattle.lt_pending.proofs.Copies.{stamps-next}
use Rattle.lt_pending.proofs.stamps.copy_stamps.Goals as goal

pub loop-ts-preserved-in_ok-insert : goal.loop-ts-preserved-in_ok-insert
loop-ts-preserved-in_ok-insert c =
    stamps-next c.args.stamps.now.entries c.loop-ts.copies.entries c.insert.new.self.entries c.loop-ts.ts-iterator c.next.new.self (c.in-Some.ts.now, c.in-Some.change.now) c.in_ok-copy_change.field-0
    c.iter-ts-items.ensures.ordered c.loop-ts.invariant c.in-Some.ensures.steps c.in_ok-copy_change.ensures c.in_ok-insert.ensures.entries

pub loop-ts-preserved : goal.loop-ts-preserved
loop-ts-preserved c =
    stamps-next c.args.stamps.now.entries c.loop-ts.copies.entries c.insert.new.self.entries c.loop-ts.ts-iterator c.next.new.self (c.in-Some.ts.now, c.in-Some.change.now) c.in_ok-copy_change.field-0
    c.iter-ts-items.ensures.ordered c.loop-ts.invariant c.in-Some.ensures.steps c.in_ok-copy_change.ensures c.in_ok-insert.ensures.entries
