use Rattle.std.proofs.Common.{drop, ◌≡◌}
use Rattle.lt_terms.specs.Value.{rises_above}
use Rattle.lt_manifest.proofs.reading.ids.rise_above.Given as goal

abbrev pub invariant-loop-number : goal.invariant-loop-number
invariant-loop-number l = rises_above l.last (drop l.number-index l.numbers) ≡ rises_above l.low l.numbers
