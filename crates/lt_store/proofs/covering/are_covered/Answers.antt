use Rattle.std.proofs.Common.{false, sym, true, ◌∙◌}
use Rattle.lt_store.proofs.Covers.{covered_more}
use Rattle.lt_store.proofs.covering.are_covered.Goals as goal

pub returns-in-None : goal.returns-in-None
returns-in-None c =
    sym (covered_more c.args.catalogue.now c.args.table.now.number c.args.layout.now c.loop-leaf.leaf-index c.leaf-item.result false c.loop-leaf-test.true c.leaf-item.is c.in-None.ensures.covered)
    ∙ c.loop-leaf.invariant.1

pub loop-leaf-preserved : goal.loop-leaf-preserved
loop-leaf-preserved c = (
  c.in-Some.ensures.within,
  sym (covered_more c.args.catalogue.now c.args.table.now.number c.args.layout.now c.loop-leaf.leaf-index c.leaf-item.result true c.loop-leaf-test.true c.leaf-item.is c.in-Some.ensures.covered)
      ∙ c.loop-leaf.invariant.1,
)
