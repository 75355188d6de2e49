use Rattle.std.proofs.Common.{ap, arith, map, max, subst, sym, ◌∙◌}
use Rattle.lt_space.specs.Gaps.{IsLongestGap, IsReached}
use Rattle.lt_space.specs.Taken.{extent_at}
use Rattle.lt_space.proofs.Passing.{IsAt, begins, last_at, longest_is, next_at, none_kept, passes, reached_more}
use Rattle.lt_space.proofs.gaps.longest_gap.Goals as goal

pub loop-spot-init : goal.loop-spot-init
loop-spot-init c = record {
  at = begins c.args.limit c.args.taken.now _ _ (none_kept c.args.limit c.args.taken.now c.requires.order) (ap (map extent_at) c.into_iter-spot-iterator.ensures.into_iter_gives ∙ c.from-spot-items.ensures);
  reached = λ some. absurd (omega (arith, some));
}

pub loop-spot-preserved : goal.loop-spot-preserved
loop-spot-preserved c =
    let so_far = c.loop-spot.invariant in
    let limit = c.args.limit in
    let taken = c.args.taken.now in
    let next = next_at limit taken c.loop-spot.spot-iterator c.next.new.self c.in-Some.spot.now c.extent_at.result c.loop-spot.passed so_far.at c.in-Some.ensures.steps c.extent_at.ensures in
    record {
      at = subst (IsAt limit taken (map extent_at c.next.new.self)) (sym c.with-passed.ensures) (passes limit taken c.extent_at.result _ c.loop-spot.passed next);
      reached = subst (λ p. IsReached limit taken p.longest) (sym c.with-passed.ensures) (reached_more limit taken c.extent_at.result _ c.loop-spot.passed next so_far.reached);
    }

pub returns : goal.returns
returns c =
    let so_far = c.loop-spot.invariant in
    let limit = c.args.limit in
    let taken = c.args.taken.now in
    let last = last_at limit taken c.loop-spot.spot-iterator c.loop-spot.passed so_far.at c.in-None.ensures.steps.0 in
    let room = c.max.ensures ∙ ap (λ left. max c.loop-spot.passed.longest left) c.saturating_sub.ensures in
    subst (IsLongestGap limit taken) (sym room) (longest_is limit taken c.loop-spot.passed last so_far.reached)
