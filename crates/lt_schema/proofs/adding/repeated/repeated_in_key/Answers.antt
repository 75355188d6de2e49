use Rattle.std.proofs.Common.{map, sym, take, ◌∙◌}
use Rattle.lt_schema.specs.declared.version.KeyColumn.{KeyColumn}
use Rattle.lt_schema.proofs.SeenLaws.{so_far_more}
use Rattle.lt_schema.proofs.adding.repeated.repeated_in_key.Goals as goal

pub loop-column-preserved : goal.loop-column-preserved
loop-column-preserved c =
    let before = map (λ (k : KeyColumn). k.name) (take c.loop-column.column-index c.args.key.now) in
    so_far_more (λ k. k.name) c.loop-column.seen c.see.new.seen c.loop-column.column-index c.args.key.now c.column-item.result c.loop-column.invariant c.loop-column-test.true c.column-item.is
    (sym (c.in_ok-see.ensures.fresh before c.loop-column.invariant.holds) ∙ c.if-not-branch.false) (c.in_ok-see.ensures.added before c.loop-column.invariant.holds)
