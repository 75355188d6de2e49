use Rattle.std.proofs.Common.{arith, subst, sym}
use Rattle.lt_space.specs.Extents.{Takes}
use Rattle.lt_space.proofs.Orders.{apart_in_order}
use Rattle.lt_space.proofs.Passing.{stands}
use Rattle.lt_space.proofs.Taking.{given_back, given_takes, kept_given, order_given}
use Rattle.lt_space.proofs.space.Space.give.Goals as goal

pub back_to-self-inside-requires : goal.back_to-self-inside-requires
back_to-self-inside-requires c = λ e has.
    let order = order_given c.self.inside.limit c.args.extent c.remove.new.self c.self.inside.taken c.remove.ensures c.self.invariant.order in
    omega (arith, (stands 1024 c.self.inside.limit c.remove.new.self e order has).within, c.self.ranges.1)

pub invariant_of-self : goal.invariant_of-self
invariant_of-self c = kept_given c.self.inside.limit c.args.extent c.remove.new.self c.self.inside.taken c.self.inside.passed c.back_to-self-inside.result c.self.invariant c.remove.ensures c.back_to-self-inside.ensures

pub returns-clause-apart : goal.returns-clause-apart
returns-clause-apart c = apart_in_order 1024 c.self.inside.limit c.remove.new.self (omega arith) (order_given c.self.inside.limit c.args.extent c.remove.new.self c.self.inside.taken c.remove.ensures c.self.invariant.order)

pub returns-clause-undoes : goal.returns-clause-undoes
returns-clause-undoes c before some taken =
    given_back c.args.extent before _ _ some c.self.invariant.order (subst (Takes c.args.extent before) (sym c.self.view_is) taken) (given_takes c.self.inside.limit c.args.extent c.remove.new.self c.self.inside.taken c.remove.ensures)
