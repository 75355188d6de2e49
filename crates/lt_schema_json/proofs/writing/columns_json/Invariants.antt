use Rattle.std.proofs.Common.{◌≡◌, map, take}
use Rattle.serde_json.specs.View.{view}
use Rattle.lt_words.specs.SchemaText.{column_data}
use Rattle.lt_schema.specs.View.{view_columns}
use Rattle.lt_schema_json.proofs.writing.columns_json.Given as goal

abbrev pub invariant-loop-column : goal.invariant-loop-column
invariant-loop-column l = map view l.items.items ≡ map column_data (view_columns (take l.column-index l.column-items))
