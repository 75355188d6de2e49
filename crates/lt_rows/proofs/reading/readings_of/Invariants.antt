use Rattle.std.proofs.Common.{◌≡◌, map, take}
use Rattle.lt_schema.specs.View.{view_columns}
use Rattle.lt_rows.specs.Present.{reading_of}
use Rattle.lt_rows.specs.View.{view_readings}
use Rattle.lt_rows.proofs.reading.readings_of.Given as goal

abbrev pub invariant-loop-column : goal.invariant-loop-column
invariant-loop-column l = view_readings l.readings.items ≡ map (reading_of l.catalogue l.version.number) (view_columns (take l.column-index l.column-items))
