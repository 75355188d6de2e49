use Rattle.std.proofs.Common.{false, map, take, ◌≡◌}
use Rattle.lt_core.specs.View.{view_row}
use Rattle.lt_world.specs.RowSink.{Given, RowSinkGoes}
use Rattle.lt_replica.proofs.scanning.give.Given as goal

abbrev pub invariant-loop-row : goal.invariant-loop-row
invariant-loop-row g l = record {
  given : Given (g.R.RowSink.state l.fn.rows) (g.R.RowSink.state l.rows) (map view_row (take l.row-index l.row-items));
  goes : RowSinkGoes (g.R.RowSink.state l.fn.rows) (g.R.RowSink.state l.rows);
  faults : (g.R.RowSink.state l.rows).faults ≡ (g.R.RowSink.state l.fn.rows).faults;
  led : g.R.RowSink.led l.fn.rows l.rows false;
}
