use Rattle.std.proofs.Common.{ap, is_lt, sym, ◌∙◌}
use Rattle.lt_memdelta.proofs.Splits.{all-below, popped}
use Rattle.lt_memdelta.proofs.keys.pop_from.Goals as goal

pub returns-then-is_lt-clause-end : goal.returns-then-is_lt-clause-end
returns-then-is_lt-clause-end c = λ _. all-below c.args.low.now c.in-Some.last.now c.args.keys.now.entries (ap is_lt (sym c.cmp.ensures) ∙ sym c.is_lt.ensures ∙ c.if-is_lt.true) c.in-Some.ensures.all_up_to

pub returns-clause-below : goal.returns-clause-below
returns-clause-below c = popped c.args.low.now c.pop_last.result c.args.keys.now.entries c.pop_last.new.self.entries (c.in-Some.last.now, c.in-Some.field-0-1.now)
    c.pop_last.ensures.removal c.pop_last.ensures.unchanged c.in-Some.ensures.last (ap is_lt (sym c.cmp.ensures) ∙ sym c.is_lt.ensures ∙ c.if-is_lt.false)
