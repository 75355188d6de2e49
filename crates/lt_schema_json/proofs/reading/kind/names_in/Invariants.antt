use Rattle.std.proofs.Common.{◌≡◌, drop}
use Rattle.lt_words.specs.SchemaText.{all_of, enum_name}
use Rattle.lt_schema_json.specs.Reading.{values_view}
use Rattle.lt_schema_json.proofs.Fronts.{with_front}
use Rattle.lt_schema_json.proofs.reading.kind.names_in.Given as goal

abbrev pub invariant-loop-item : goal.invariant-loop-item
invariant-loop-item l =
    with_front l.names (all_of enum_name (values_view (drop l.item-index l.items)))
    ≡ all_of enum_name (values_view l.items)
