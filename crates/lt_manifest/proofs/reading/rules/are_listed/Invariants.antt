use Rattle.std.proofs.Common.{drop, ◌≡◌}
use Rattle.lt_manifest.specs.Rules.{are_listed}
use Rattle.lt_manifest.proofs.reading.rules.are_listed.Given as goal

abbrev pub invariant-loop-id : goal.invariant-loop-id
invariant-loop-id l = are_listed l.next_id l.known (drop l.id-index l.ids) ≡ are_listed l.next_id l.known l.ids
