use Rattle.std.proofs.Common.{◌≡◌, drop}
use Rattle.lt_words.specs.SchemaText.{all_of}
use Rattle.lt_core.specs.View.{view_parts}
use Rattle.lt_log_text.specs.Lines.{part_in}
use Rattle.lt_schema_json.specs.Reading.{values_view}
use Rattle.lt_schema_json.proofs.Fronts.{with_front}
use Rattle.lt_log_text.proofs.reading.value.key_in.Given as goal

abbrev pub invariant-loop-item : goal.invariant-loop-item
invariant-loop-item l =
    with_front (view_parts l.parts) (all_of part_in (values_view (drop l.item-index l.items)))
    ≡ all_of part_in (values_view l.items)
