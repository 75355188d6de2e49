use Rattle.std.proofs.Common.{ap, is_lt, refl, sym, ◌∙◌}
use Rattle.lt_pending.proofs.Splits.{IsPopped, all-below, popped}
use Rattle.lt_pending.proofs.keys.pop_from.Goals as goal

pub returns-then-is_lt-clause-end : goal.returns-then-is_lt-clause-end
returns-then-is_lt-clause-end c = all-below c.args.low.now c.in_ok-last.last.now c.args.keys.now.entries c.requires (ap is_lt (sym c.cmp.ensures) ∙ sym c.is_lt.ensures ∙ c.if-is_lt.true) c.in_ok-last.ensures.all_up_to

gone : (c : goal.Joined-pop_last) → IsPopped c.args.low.now c.args.keys.now.entries c.pop_last.new.self.entries c.len-count.result
gone c = popped c.args.low.now c.pop_last.result c.args.keys.now.entries c.pop_last.new.self.entries (c.in_ok-last.last.now, c.in_ok-last.stamps.now) c.len-count.result
    c.pop_last.ensures.removal c.pop_last.ensures.len c.in_ok-last.ensures.last (c.pop_last.ensures.variant.1 (c.in_ok-last.ensures.variant.0 refl)) c.requires
    (ap is_lt (sym c.cmp.ensures) ∙ sym c.is_lt.ensures ∙ c.if-is_lt.false) c.len-count.ensures.len

pub returns-clause-below : goal.returns-clause-below
returns-clause-below c = (gone c).below

pub returns-clause-count : goal.returns-clause-count
returns-clause-count c = (gone c).count

pub returns-clause-named : goal.returns-clause-named
returns-clause-named c = (gone c).named
