use Rattle.std.proofs.Common.{◌≡◌, drop, map}
use Rattle.lt_terms.specs.Value.{rises_above}
use Rattle.lt_delta.specs.View.{view_tables}
use Rattle.lt_delta.proofs.order.rise_above.Given as goal

abbrev pub invariant-loop-table : goal.invariant-loop-table
invariant-loop-table l = rises_above l.low (map (λ t. t.table) (view_tables (drop l.table-index l.tables))) ≡ rises_above l.fn.number (map (λ t. t.table) (view_tables l.tables))
