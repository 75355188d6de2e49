use Rattle.std.proofs.Common.{ap, arith, length, ◌∙◌, ◌≡◌}
use Rattle.lt_memdelta.specs.Deltas.{with_rows}
use Rattle.lt_memdelta.specs.Groups.{rows_below}
use Rattle.lt_memdelta.proofs.Grouped.{cut-next, partly, partly-all}
use Rattle.lt_memdelta.proofs.group.cut.Goals as goal

pub loop-i-preserved : goal.loop-i-preserved
loop-i-preserved c = cut-next (rows_below c.args.low.now) c.loop-i.groups c.args.groups.now c.loop-i.i c.index-groups-i.result c.cut.new.self c.loop-i-test.true c.index-groups-i.is c.cut.ensures c.loop-i.invariant

pub returns : goal.returns
returns c =
    let f = with_rows (rows_below c.args.low.now) in
    let at : c.loop-i.i ≡ length c.args.groups.now = omega (arith, c.loop-i-test.false, c.loop-i.auto.i-end) in
    c.loop-i.invariant ∙ ap (λ j. partly f j c.args.groups.now) at ∙ partly-all f c.args.groups.now
