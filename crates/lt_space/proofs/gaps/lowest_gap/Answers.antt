use Rattle.std.proofs.Common.{ap, arith, map, subst, sym, ◌∙◌}
use Rattle.lt_space.specs.Taken.{extent_at}
use Rattle.lt_space.proofs.Passing.{IsAt, begins, found_here, found_last, last_at, next_at, none_fits, passes, stops}
use Rattle.lt_space.proofs.gaps.lowest_gap.Goals as goal

pub loop-spot-init : goal.loop-spot-init
loop-spot-init c = record {
  at = begins c.args.limit c.args.taken.now _ c.args.from c.requires.passed (ap (map extent_at) c.into_iter-spot-iterator.ensures.into_iter_gives ∙ c.from-spot-items.ensures);
  longer = c.requires.longer;
}

pub returns-then-len-extent-clause-passed : goal.returns-then-len-extent-clause-passed
returns-then-len-extent-clause-passed c = stops c.args.limit c.args.taken.now _ c.loop-spot.passed c.requires.passed.order c.loop-spot.invariant.at

pub returns-then-len-extent-clause-gap : goal.returns-then-len-extent-clause-gap
returns-then-len-extent-clause-gap c =
    let so_far = c.loop-spot.invariant in
    let next = next_at c.args.limit c.args.taken.now c.loop-spot.spot-iterator c.next.new.self c.in-Some.spot.now c.extent_at-extent.result c.loop-spot.passed so_far.at c.in-Some.ensures.steps c.extent_at-extent.ensures in
    found_here c.args.limit c.args.taken.now c.extent_at-extent.result _ c.loop-spot.passed c.args.len next so_far.longer c.if-len-extent.true

pub loop-spot-preserved : goal.loop-spot-preserved
loop-spot-preserved c =
    let so_far = c.loop-spot.invariant in
    let next = next_at c.args.limit c.args.taken.now c.loop-spot.spot-iterator c.next.new.self c.in-Some.spot.now c.extent_at-extent.result c.loop-spot.passed so_far.at c.in-Some.ensures.steps c.extent_at-extent.ensures in
    record {
      at = subst (IsAt c.args.limit c.args.taken.now (map extent_at c.next.new.self)) (sym c.with-passed.ensures) (passes c.args.limit c.args.taken.now c.extent_at-extent.result _ c.loop-spot.passed next);
      longer = omega (arith, ap (λ p. p.longest) c.with-passed.ensures, so_far.longer, c.if-len-extent.false);
    }

pub returns-then-len-saturating_sub-clause-passed : goal.returns-then-len-saturating_sub-clause-passed
returns-then-len-saturating_sub-clause-passed c = stops c.args.limit c.args.taken.now _ c.loop-spot.passed c.requires.passed.order c.loop-spot.invariant.at

pub returns-then-len-saturating_sub-clause-gap : goal.returns-then-len-saturating_sub-clause-gap
returns-then-len-saturating_sub-clause-gap c =
    let so_far = c.loop-spot.invariant in
    let last = last_at c.args.limit c.args.taken.now c.loop-spot.spot-iterator c.loop-spot.passed so_far.at c.in-None.ensures.steps.0 in
    found_last c.args.limit c.args.taken.now c.loop-spot.passed c.args.len last so_far.longer (omega (arith, c.if-len-saturating_sub.true, c.saturating_sub.ensures))

pub returns-else-len-saturating_sub-clause-none : goal.returns-else-len-saturating_sub-clause-none
returns-else-len-saturating_sub-clause-none c =
    let so_far = c.loop-spot.invariant in
    let last = last_at c.args.limit c.args.taken.now c.loop-spot.spot-iterator c.loop-spot.passed so_far.at c.in-None.ensures.steps.0 in
    none_fits c.args.limit c.args.taken.now c.loop-spot.passed c.args.len last so_far.longer (omega (arith, c.if-len-saturating_sub.false, c.saturating_sub.ensures))
