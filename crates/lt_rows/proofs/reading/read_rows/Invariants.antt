use Rattle.std.proofs.Common.{◌≡◌, ◌++◌, map}
use Rattle.lt_core.specs.View.{view_row}
use Rattle.lt_rows.specs.Present.{row_of}
use Rattle.lt_rows.specs.View.{view_readings, view_rows}
use Rattle.lt_rows.proofs.reading.read_rows.Given as goal

abbrev pub invariant-loop-present : goal.invariant-loop-present
invariant-loop-present l = map view_row l.list ++ map (λ e. row_of (view_readings l.readings.items) e.1) (view_rows l.present-iterator) ≡ map (λ e. row_of (view_readings l.readings.items) e.1) (view_rows l.rows.entries)
