use Rattle.std.proofs.Common.{◌≡◌, drop}
use Rattle.lt_words.specs.SchemaText.{all_of, key_column}
use Rattle.lt_schema.specs.View.{view_key}
use Rattle.lt_schema_json.specs.Reading.{values_view}
use Rattle.lt_schema_json.proofs.Fronts.{with_front}
use Rattle.lt_schema_json.proofs.reading.key.key_in.Given as goal

abbrev pub invariant-loop-item : goal.invariant-loop-item
invariant-loop-item l =
    with_front (view_key l.key) (all_of key_column (values_view (drop l.item-index l.items)))
    ≡ all_of key_column (values_view l.items)
