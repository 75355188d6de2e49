use Rattle.std.proofs.Common.{arith, subst, sym}
use Rattle.std.specs.Prelude.{IsTrue}
use Rattle.lt_world.specs.Extents.{are_apart}
use Rattle.lt_space.specs.Extents.{AreApart}
use Rattle.lt_space.proofs.Orders.{apart_in_order, free_gap}
use Rattle.lt_space.proofs.Spots.{adds_has}
use Rattle.lt_space.proofs.Taking.{kept_taken}
use Rattle.lt_space.proofs.space.Space.take.Goals as goal

pub returns-in_default-clause-apart : goal.returns-in_default-clause-apart
returns-in_default-clause-apart c = subst AreApart c.self.view_is (apart_in_order 1024 c.self.inside.limit c.self.inside.taken (omega arith) c.self.invariant.order)

pub returns-in_err-insert-clause-apart : goal.returns-in_err-insert-clause-apart
returns-in_err-insert-clause-apart c =
    subst (λ l. IsTrue (are_apart c.self.inside.limit l)) (sym c.in_err-insert.ensures.err) (apart_in_order 1024 c.self.inside.limit c.self.inside.taken (omega arith) c.self.invariant.order)

pub invariant_of-self-2 : goal.invariant_of-self-2
invariant_of-self-2 c =
    let limit = c.self.inside.limit in
    let taken = c.self.inside.taken in
    let found = c.in-Some.ensures in
    let free = free_gap limit taken _ found.gap.free in
    kept_taken limit taken c.insert.new.self c.in-Some.gap c.args.length found.passed found.gap c.requires c.in_ok-insert.ensures.taken (c.in_ok-insert.ensures.order 1024 limit c.self.invariant.order free.behind_slots free.below_limit)

pub returns-clause-there : goal.returns-clause-there
returns-clause-there c = adds_has _ c.self.inside.taken c.insert.new.self c.in_ok-insert.ensures.taken

pub returns-clause-apart : goal.returns-clause-apart
returns-clause-apart c =
    let limit = c.self.inside.limit in
    let free = free_gap limit c.self.inside.taken _ c.in-Some.ensures.gap.free in
    apart_in_order 1024 limit c.insert.new.self (omega arith) (c.in_ok-insert.ensures.order 1024 limit c.self.invariant.order free.behind_slots free.below_limit)
