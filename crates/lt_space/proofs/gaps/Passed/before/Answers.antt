use Rattle.lt_space.proofs.Passing.{none_kept}
use Rattle.lt_space.proofs.gaps.Passed.before.Goals as goal

pub returns-else-self-len-clause-kept : goal.returns-else-self-len-clause-kept
returns-else-self-len-clause-kept c = λ limit taken kept. none_kept limit taken kept.order
