-- What the code's changes, rows and readings stand for.
use Rattle.std.specs.Borrow.{Bor}
use Rattle.std.specs.Prelude.{List, map, ℕ}
use Rattle.lt_core.specs.declared.value.Value.{Value}
use Rattle.lt_core.specs.View.{view_kind, view_parts, view_value}
use Rattle.lt_terms.specs.Log.{Change}
use Rattle.lt_records.specs.View.{view_change}
use Rattle.lt_records.specs.declared.record.ChangeRecord.{ChangeRecord}
use Rattle.lt_rows.specs.declared.present.Present.{Present}
use Rattle.lt_rows.specs.declared.reading.Reading.{Reading}
use Rattle.lt_rows.specs.Present as spec

abbrev pub view_changes : List (Bor ChangeRecord) → List Change
view_changes cs = map (λ c. view_change c.now) cs

abbrev pub view_set : List (ℕ × Bor Value) → spec.Set
view_set es = map (λ e. (e.0, view_value e.1.now)) es

abbrev pub view_present : Present → spec.Present
view_present p = (view_parts p.parts.now, view_set p.set.entries)

abbrev pub view_rows : List (List ℕ × Present) → spec.Rows
view_rows es = map (λ e. (e.0, view_present e.1)) es

abbrev pub view_reading : Reading → spec.Reading
view_reading r = record { number = r.number; kind = view_kind r.kind.now; default = view_value r.default }

abbrev pub view_readings : List Reading → List spec.Reading
view_readings rs = map view_reading rs
