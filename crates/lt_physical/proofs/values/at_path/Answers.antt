use Rattle.std.proofs.Common.{ap₂, sym, ◌∙◌}
use Rattle.lt_terms.specs.Layout.{same_path}
use Rattle.lt_physical.proofs.PlacedCells.{found_first}
use Rattle.lt_physical.proofs.values.at_path.Goals as goal

pub returns-then-eq : goal.returns-then-eq
returns-then-eq c =
    let same = sym (ap₂ same_path c.as_slice.ensures c.as_slice-then-one-column.ensures) ∙ sym c.if-eq.ensures in
    sym (found_first c.args.column c.args.path.now c.args.placed.now c.loop-one.one-index c.one-item.result c.loop-one-test.true c.one-item.is c.if-one-column.true same) ∙ c.loop-one.invariant
