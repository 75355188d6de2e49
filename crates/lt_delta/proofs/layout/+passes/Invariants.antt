use Rattle.std.proofs.Common.{length}
use Rattle.lt_delta.proofs.layout.+passes.Given as goal

abbrev pub decreases-passes : goal.decreases-passes
decreases-passes l = length l.before.now
