use Rattle.std.specs.Prelude.{length}
use Rattle.lt_replica.proofs.KeyOfLaws.{Fit}
use Rattle.lt_replica.proofs.splitting.parts_in.Given as goal

abbrev pub invariant-loop-column : goal.invariant-loop-column
invariant-loop-column l = Fit l.columns l.literals (length l.yielded) l.parts
