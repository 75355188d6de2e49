use Rattle.std.proofs.Common.{◌≡◌, drop, map}
use Rattle.serde_json.specs.View.{view}
use Rattle.lt_words.specs.SchemaText.{all_of}
use Rattle.lt_words.specs.Script.{literal_in}
use Rattle.lt_pred.specs.View.{view_literals}
use Rattle.lt_script.proofs.LiteralLaws.{with_front}
use Rattle.lt_script.proofs.literals.literals_in.Given as goal

abbrev pub invariant-loop-item : goal.invariant-loop-item
invariant-loop-item l =
    with_front (view_literals l.literals) (all_of literal_in (map view (drop l.item-index l.items)))
    ≡ all_of literal_in (map view l.items)
