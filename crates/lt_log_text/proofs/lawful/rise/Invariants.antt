use Rattle.std.proofs.Common.{◌≡◌, drop}
use Rattle.lt_terms.specs.Value.{rises_above}
use Rattle.std.specs.Prelude.{map}
use Rattle.lt_core.specs.View.{view_settings}
use Rattle.lt_log_text.proofs.lawful.rise.Given as goal

abbrev pub invariant-loop-number : goal.invariant-loop-number
invariant-loop-number l =
    rises_above l.low (map (λ s. s.0) (view_settings (drop l.number-index l.number-items))) ≡ rises_above 0 (map (λ s. s.0) (view_settings l.number-items))
