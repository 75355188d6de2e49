use Rattle.std.proofs.Common.{length}
use Rattle.lt_pending.proofs.Splits.{IsPopped}
use Rattle.lt_pending.proofs.keys.drop_from.Given as goal

abbrev pub invariant-last : goal.invariant-last
invariant-last l = IsPopped l.low l.initial.keys.entries l.keys.entries l.dropped

abbrev pub decreases-last : goal.decreases-last
decreases-last l = length l.keys.entries
