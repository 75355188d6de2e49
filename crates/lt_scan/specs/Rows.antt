-- How a call that hands over rows ended.
use Rattle.std.specs.Prelude.{Bool, Err, Ok, Result, false, true}
use Rattle.lt_scan.specs.declared.row_sink.RowRefusal.{RowRefusal}
use Rattle.lt_scan.specs.declared.row_sink.RowRefusal.TheVariants as refusals

-- whether a row met a fault of the outside
abbrev pub falls : RowRefusal → Bool
falls refusals.Fault = true
falls refusals.Memory = false

abbrev pub fell : {T : Type 0} → Result T RowRefusal → Bool
fell (Ok x) = false
fell (Err e) = falls e
