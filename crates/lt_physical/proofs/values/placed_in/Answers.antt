use Rattle.std.proofs.Common.{false, true, ap, eq-eqb, drop, ◌++◌, ◌+◌, ◌∙◌}
use Rattle.std.proofs.lemmas.Bool.{ne_eqb}
use Rattle.lt_core.specs.View.{view_cells, view_layout, view_leaf, view_scalar}
use Rattle.lt_terms.specs.Layout.{with_cells}
use Rattle.lt_physical.specs.Placed.{of_column, view_placed}
use Rattle.lt_physical.proofs.PlacedCells.{goes_on, opened, placed_more}
use Rattle.lt_physical.proofs.values.placed_in.Goals as goal
use Rattle.lt_physical.proofs.values.placed_in.Goals.{then-leaf-column+in_ok-push, else-leaf-column}

pub loop-leaf-preserved : goal.loop-leaf-preserved
loop-leaf-preserved c =
    let leaf = c.leaf-item.result in
    let ps = view_placed c.loop-leaf.placed.items in
    let column = c.args.column in
    let all = of_column column (with_cells (view_layout c.args.layout.now) (view_cells c.args.cells.now)) in
    let rest = with_cells (view_layout (drop (c.loop-leaf.leaf-index + 1) c.as_slice-leaf-items.result.now)) (view_cells c.in-Some.behind.now) in
    let next = opened column c.as_slice-leaf-items.result.now c.loop-leaf.leaf-index leaf c.loop-leaf.rest.now c.in-Some.behind.now c.in-Some.cell.now ps all c.loop-leaf-test.true c.leaf-item.is (c.in-Some.ensures.cases).0 c.loop-leaf.invariant in
    let more = goes_on column ps (view_placed c.if-leaf-column.placed.items) (view_leaf leaf) (view_scalar c.in-Some.cell.now) rest all in
    elim c.if-leaf-column.branch [
      | then-leaf-column+in_ok-push w ↦
          ap (λ r. view_placed c.if-leaf-column.placed.items ++ of_column column (with_cells (view_layout (drop (c.loop-leaf.leaf-index + 1) c.as_slice-leaf-items.result.now)) (view_cells r.now))) w.rest-is
          ∙ more true (eq-eqb leaf.column column w.if-leaf-column.true) (ap (λ v. view_placed v.items) w.placed-is ∙ ap view_placed w.in_ok-push.ensures.items ∙ placed_more c.loop-leaf.placed.items (record { leaf = _; cell = _ })) next
      | else-leaf-column w ↦
          ap (λ r. view_placed c.if-leaf-column.placed.items ++ of_column column (with_cells (view_layout (drop (c.loop-leaf.leaf-index + 1) c.as_slice-leaf-items.result.now)) (view_cells r.now))) w.rest-is
          ∙ more false (ne_eqb leaf.column column w.if-leaf-column.false) (ap (λ v. view_placed v.items) w.placed-is) next
    ]
