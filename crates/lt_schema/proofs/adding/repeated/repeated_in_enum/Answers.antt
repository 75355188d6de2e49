use Rattle.std.proofs.Common.{map, sym, take, ◌∙◌}
use Rattle.lt_schema.proofs.SeenLaws.{so_far_more}
use Rattle.lt_schema.proofs.adding.repeated.repeated_in_enum.Goals as goal

pub loop-name-preserved : goal.loop-name-preserved
loop-name-preserved c =
    let items = c.as_slice-name-items.result.now in
    let before = map (λ n. n.1) (take c.loop-name.name-index items) in
    so_far_more (λ n. n.1) c.loop-name.seen c.see.new.seen c.loop-name.name-index items c.loop-name-item.result c.loop-name.invariant c.loop-name-test.true c.loop-name-item.is
    (sym (c.in_ok-see.ensures.fresh before c.loop-name.invariant.holds) ∙ c.if-not-branch.false) (c.in_ok-see.ensures.added before c.loop-name.invariant.holds)
