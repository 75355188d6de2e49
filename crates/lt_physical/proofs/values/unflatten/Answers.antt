use Rattle.std.proofs.Common.{[], Some, ap, ap₂, sym, ◌∙◌}
use Rattle.lt_core.specs.View.{view_cells, view_layout}
use Rattle.lt_terms.specs.Layout.{sets, value_from}
use Rattle.lt_physical.specs.Placed.{view_placed}
use Rattle.lt_physical.proofs.PlacedCells.{set_column, unset_column}
use Rattle.lt_physical.proofs.values.unflatten.Goals as goal

pub returns-then-not-sets : goal.returns-then-not-sets
returns-then-not-sets c =
    let column = c.args.column in
    unset_column (view_layout c.args.layout.now) (view_cells c.args.cells.now) column
    (ap (sets column) (sym c.in_ok-placed.ensures) ∙ ap (λ ps. sets column (view_placed ps)) (sym c.deref.ensures.value) ∙ sym c.if-not-sets.ensures)

pub returns : goal.returns
returns c =
    let column = c.args.column in
    ap Some (c.in_ok-value_from.ensures ∙ ap₂ (λ p ps. value_from 5 column p (view_placed ps)) c.new-path.ensures c.deref-2.ensures.value ∙ ap (value_from 5 column []) c.in_ok-placed.ensures)
    ∙ set_column (view_layout c.args.layout.now) (view_cells c.args.cells.now) column
    (ap (sets column) (sym c.in_ok-placed.ensures) ∙ ap (λ ps. sets column (view_placed ps)) (sym c.deref.ensures.value) ∙ sym c.if-not-sets.ensures)
