use Rattle.tests_base.proofs.Lawful.{no_bounds}
use Rattle.tests_base.proofs.frames.head.Goals as goal

pub returns : goal.returns
returns c = no_bounds c.new.result c.new.ensures
