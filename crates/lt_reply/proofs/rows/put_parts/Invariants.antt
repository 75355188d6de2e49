use Rattle.std.proofs.Common.{◌≡◌, ◌++◌, map, take}
use Rattle.serde_json.specs.View.{view}
use Rattle.lt_words.specs.SchemaText.{plain_data}
use Rattle.lt_core.specs.View.{view_row}
use Rattle.lt_reply.proofs.rows.put_parts.Given as goal

abbrev pub invariant-loop-part : goal.invariant-loop-part
invariant-loop-part l = map view l.items.items ≡ map view l.fn.items.items ++ map plain_data (view_row (take l.part-index l.parts))
