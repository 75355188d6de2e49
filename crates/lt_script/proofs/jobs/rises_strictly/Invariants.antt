use Rattle.std.proofs.Common.{◌≡◌, drop}
use Rattle.lt_terms.specs.Value.{rises_above, rises_strictly}
use Rattle.lt_script.proofs.jobs.rises_strictly.Given as goal

abbrev pub invariant-loop-number : goal.invariant-loop-number
invariant-loop-number l = rises_above l.low (drop l.number-index l.rest) ≡ rises_strictly l.numbers
