use Rattle.std.proofs.Common.{◌≡◌, drop}
use Rattle.std.specs.List.{list_all}
use Rattle.lt_terms.specs.Log.{is_log_part}
use Rattle.lt_core.specs.View.{view_parts}
use Rattle.lt_log_text.proofs.lawful.are_parts.Given as goal

abbrev pub invariant-loop-part : goal.invariant-loop-part
invariant-loop-part l =
    list_all is_log_part (view_parts (drop l.part-index l.part-items)) ≡ list_all is_log_part (view_parts l.part-items)
