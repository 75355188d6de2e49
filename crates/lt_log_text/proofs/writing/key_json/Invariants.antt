use Rattle.std.proofs.Common.{◌≡◌, map, take}
use Rattle.serde_json.specs.View.{view}
use Rattle.lt_core.specs.View.{view_parts}
use Rattle.lt_log_text.specs.Lines.{part_data}
use Rattle.lt_log_text.proofs.writing.key_json.Given as goal

abbrev pub invariant-loop-part : goal.invariant-loop-part
invariant-loop-part l = map view l.items.items ≡ map part_data (view_parts (take l.part-index l.part-items))
