use Rattle.std.proofs.Common.{arith, refl, subst, sym, ◌+◌, ◌≡◌}
use Rattle.lt_replica.specs.Opening.{HoldsNothing}
use Rattle.lt_replica.proofs.OpeningLaws.{holds_more}
use Rattle.lt_replica.proofs.opening.empty_parts.Goals as goal

pub loop-init : goal.loop-init
loop-init c = subst (HoldsNothing 0) (sym c.new-parts.ensures.items) (record { many = refl; nothing = refl })

pub loop-preserved : goal.loop-preserved
loop-preserved c = subst (HoldsNothing (c.loop.counter + 1)) (sym c.in_ok-push.ensures.items) (holds_more c.loop.counter c.loop.parts.items c.new.result c.loop.invariant c.new.ensures)

pub returns : goal.returns
returns c = let e : c.loop.counter ≡ c.args.count = omega (arith, c.loop-test.false, c.loop.auto.counter-end) in subst (λ n. HoldsNothing n c.loop.parts.items) e c.loop.invariant
