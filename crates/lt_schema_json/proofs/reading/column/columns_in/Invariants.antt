use Rattle.std.proofs.Common.{◌≡◌, drop}
use Rattle.lt_words.specs.SchemaText.{columns_in}
use Rattle.lt_schema.specs.View.{view_columns}
use Rattle.lt_schema_json.specs.Reading.{values_view}
use Rattle.lt_schema_json.proofs.ReadTexts.{with_columns}
use Rattle.lt_schema_json.proofs.reading.column.columns_in.Given as goal

abbrev pub invariant-loop-value : goal.invariant-loop-value
invariant-loop-value l =
    with_columns (view_columns l.columns) (columns_in (values_view (drop l.value-index l.values)))
    ≡ columns_in (values_view l.values)
