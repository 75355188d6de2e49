use Rattle.std.proofs.Common.{◌≡◌, ◌++◌, map, take}
use Rattle.lt_core.specs.View.{view_parts, view_row}
use Rattle.lt_terms.specs.Key.{part_value}
use Rattle.lt_rows.specs.Present.{read_set}
use Rattle.lt_rows.specs.View.{view_readings, view_set}
use Rattle.lt_rows.proofs.reading.read_row.Given as goal

abbrev pub invariant-loop-part : goal.invariant-loop-part
invariant-loop-part l = view_row l.row ≡ map part_value (view_parts (take l.part-index l.part-items))

abbrev pub invariant-loop-reading : goal.invariant-loop-reading
invariant-loop-reading l = view_row l.row ≡ map part_value (view_parts l.present.parts.now) ++ map (read_set (view_set l.present.set.entries)) (view_readings (take l.reading-index l.reading-items))
