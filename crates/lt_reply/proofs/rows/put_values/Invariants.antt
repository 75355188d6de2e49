use Rattle.std.proofs.Common.{◌≡◌, ◌++◌, drop, map}
use Rattle.serde_json.specs.View.{view}
use Rattle.lt_core.specs.View.{view_row}
use Rattle.lt_schema.specs.View.{view_columns}
use Rattle.lt_reply.specs.Rows.{column_kinds, shown_each}
use Rattle.lt_reply.proofs.rows.put_values.Given as goal

abbrev pub invariant-loop-column : goal.invariant-loop-column
invariant-loop-column l = map view l.items.items ++ shown_each (column_kinds (view_columns (drop l.column-index l.column-items))) (view_row l.rest)
    ≡ map view l.fn.items.items ++ shown_each (column_kinds (view_columns l.columns)) (view_row l.values)
