use Rattle.std.proofs.Common.{◌≡◌, drop}
use Rattle.std.specs.Prelude.{◌&&◌}
use Rattle.std.specs.List.{list_all}
use Rattle.lt_terms.specs.Value.{is_number}
use Rattle.lt_terms.specs.Log.{is_log_value}
use Rattle.lt_core.specs.View.{view_settings}
use Rattle.lt_log_text.proofs.lawful.are_values.Given as goal

abbrev pub invariant-loop-number : goal.invariant-loop-number
invariant-loop-number l =
    list_all (λ s. is_number s.0 && is_log_value s.1) (view_settings (drop l.number-index l.number-items))
    ≡ list_all (λ s. is_number s.0 && is_log_value s.1) (view_settings l.number-items)
