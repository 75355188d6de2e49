use Rattle.std.proofs.Common.{length, take, ◌≡◌}
use Rattle.lt_core.specs.View.{view_cells}
use Rattle.lt_tables.specs.Version.{overlay}
use Rattle.lt_version.proofs.row_version.overlaid.Given as goal

abbrev pub invariant-loop-now : goal.invariant-loop-now
invariant-loop-now l = record {
  number : length l.cells ≡ l.now-index;
  laid : view_cells l.cells ≡ overlay (view_cells (take l.now-index l.older)) (view_cells (take l.now-index l.newer));
}
