use Rattle.std.specs.Prelude.{take, ◌<◌, ◌≡◌}
use Rattle.std.specs.List.{AllByRecursion}
use Rattle.lt_schema.proofs.tables.place_of.Given as goal

abbrev pub invariant-loop-table : goal.invariant-loop-table
invariant-loop-table l = record { in_step : l.at ≡ l.table-index; lower : AllByRecursion (λ t. t.number < l.number) (take l.table-index l.tables) }
