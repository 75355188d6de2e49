use Rattle.std.proofs.Common.{◌≡◌, drop}
use Rattle.lt_terms.specs.Value.{are_fields, fields_of}
use Rattle.lt_core.specs.View.{view_settings}
use Rattle.lt_log_text.proofs.lawful.+value.Given as goal

abbrev pub invariant-are_fields-loop-number : goal.invariant-are_fields-loop-number
invariant-are_fields-loop-number l =
    are_fields l.depth l.low (fields_of (view_settings (drop l.number-index l.number-items)))
    ≡ are_fields l.depth 0 (fields_of (view_settings l.number-items))
