use Rattle.lt_pending.proofs.Copies.{AreCopied}
use Rattle.lt_pending.proofs.keys.copy_from.Given as goal

abbrev pub invariant-loop-key : goal.invariant-loop-key
invariant-loop-key l = AreCopied l.low l.keys.entries l.copies.entries l.key-iterator
