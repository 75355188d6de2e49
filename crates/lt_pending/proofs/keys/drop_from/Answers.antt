use Rattle.std.proofs.Common.{arith, length, refl, ◌+◌, ◌<◌, ◌^◌, ◌∙◌, ◌≡◌}
use Rattle.lt_pending.specs.Stamps.{changes_in}
use Rattle.lt_pending.proofs.keys.drop_from.Goals as goal

pub last-init : goal.last-init
last-init c = record {
  below = refl;
  count = omega arith;
  named = c.requires.named;
}

pub pop_from-requires : goal.pop_from-requires
pop_from-requires c = c.last.invariant.named

pub overflow_add-dropped : goal.overflow_add-dropped
overflow_add-dropped c =
    let all : length (changes_in c.last.keys.entries) + c.last.dropped ≡ length (changes_in c.args.keys.now.entries) = c.last.invariant.count in
    let own : length (changes_in c.pop_from.new.keys.entries) + c.in-Some.count ≡ length (changes_in c.last.keys.entries) = c.in-Some.ensures.count in
    let few : length (changes_in c.args.keys.now.entries) < 2 ^ 64 = c.requires.few in
    omega (arith, all, own, few)

pub last-smaller : goal.last-smaller
last-smaller c = c.in-Some.ensures.fewer refl

pub last-preserved : goal.last-preserved
last-preserved c = record {
  below = c.in-Some.ensures.below ∙ c.last.invariant.below;
  count = omega (arith, c.last.invariant.count, c.in-Some.ensures.count);
  named = c.in-Some.ensures.named;
}

pub returns-clause-changes : goal.returns-clause-changes
returns-clause-changes c = c.in_default.ensures.end ∙ c.last.invariant.below

pub returns-clause-count : goal.returns-clause-count
returns-clause-count c = omega (arith, c.last.invariant.count, c.in_default.ensures.count)
