use Rattle.std.proofs.Common.{◌≡◌, drop}
use Rattle.std.specs.Prelude.{map}
use Rattle.lt_words.specs.SchemaText.{all_of}
use Rattle.lt_schema.specs.View.{view_field}
use Rattle.lt_schema_json.specs.Reading.{one_field, values_view}
use Rattle.lt_schema_json.proofs.Fronts.{with_front}
use Rattle.lt_schema_json.proofs.reading.kind.+kind.Given as goal

abbrev pub invariant-fields_in-loop-item : goal.invariant-fields_in-loop-item
invariant-fields_in-loop-item l =
    with_front (map view_field l.fields) (all_of one_field (values_view (drop l.item-index l.item-items)))
    ≡ all_of one_field (values_view l.item-items)
