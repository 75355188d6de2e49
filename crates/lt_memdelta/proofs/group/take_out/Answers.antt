use Rattle.std.proofs.Common.{arith, cond, length, refl, sym, ap, ◌∙◌, ◌≡◌, ◌+◌, ◌<◌}
use Rattle.lt_memdelta.specs.Deltas.{with_rows}
use Rattle.lt_memdelta.specs.Groups.{without}
use Rattle.lt_memdelta.proofs.Grouped.{partly, partly-all, taken-fits, taken-next}
use Rattle.lt_memdelta.proofs.group.take_out.Goals as goal
use Rattle.lt_memdelta.proofs.group.take_out.Goals.{then-remove, else-remove}

pub loop-i-init : goal.loop-i-init
loop-i-init c = (refl, omega arith)

pub overflow_add-removed : goal.overflow_add-removed
overflow_add-removed c =
    let i = c.loop-i.i in
    let some = ap (λ b. length c.remove.new.self + cond b 1 0) (sym c.if-remove.true) ∙ c.remove.ensures.count in
    let within : i < length c.loop-i.groups = omega (arith, c.loop-i-test.true, c.loop-i.auto.groups) in
    let few = taken-fits c.loop-i.groups c.args.groups.now i c.loop-i.removed 1 c.index-groups-i.result c.remove.new.self within c.index-groups-i.is some c.loop-i.invariant.1 in
    omega (arith, few, c.requires)

pub loop-i-preserved : goal.loop-i-preserved
loop-i-preserved c =
    let next = taken-next (without c.args.key.now c.args.ts) c.loop-i.groups c.args.groups.now c.loop-i.i c.loop-i.removed c.if-remove.removed in
    elim c.if-remove.branch [
      | then-remove w ↦ next 1 c.index-groups-i.result c.remove.new.self c.loop-i-test.true c.index-groups-i.is c.remove.ensures.removed (ap (λ b. length c.remove.new.self + cond b 1 0) (sym w.if-remove.true) ∙ c.remove.ensures.count) w.removed-is c.loop-i.invariant
      | else-remove w ↦ next 0 c.index-groups-i.result c.remove.new.self c.loop-i-test.true c.index-groups-i.is c.remove.ensures.removed (ap (λ b. length c.remove.new.self + cond b 1 0) (sym w.if-remove.false) ∙ c.remove.ensures.count) (w.removed-is ∙ omega arith) c.loop-i.invariant
    ]

pub returns-clause-taken : goal.returns-clause-taken
returns-clause-taken c =
    let f = with_rows (without c.args.key.now c.args.ts) in
    let at : c.loop-i.i ≡ length c.args.groups.now = omega (arith, c.loop-i-test.false, c.loop-i.auto.i-end) in
    c.loop-i.invariant.0 ∙ ap (λ j. partly f j c.args.groups.now) at ∙ partly-all f c.args.groups.now

pub returns-clause-count : goal.returns-clause-count
returns-clause-count c = c.loop-i.invariant.1
