use Rattle.std.proofs.Common.{drop, map, ◌≡◌}
use Rattle.lt_terms.specs.Value.{rises_above}
use Rattle.lt_manifest.specs.View.{view_table}
use Rattle.lt_manifest.proofs.reading.catalogue.numbers_rise_above.Given as goal

abbrev pub invariant-loop-table : goal.invariant-loop-table
invariant-loop-table l = rises_above l.last (map (λ t. t.number) (map view_table (drop l.table-index l.tables))) ≡ rises_above l.low (map (λ t. t.number) (map view_table l.tables))
