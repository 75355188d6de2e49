use Rattle.std.proofs.Common.{ap, arith, length}
use Rattle.tests_base.proofs.Lawful.{bytes_lawful}
use Rattle.tests_base.proofs.frames.long_value.Goals as goal

pub returns : goal.returns
returns c = bytes_lawful c.from_vec.result (omega (arith, ap length c.from_vec.ensures, c.in_ok-resize.ensures.len, c.resize.new.self.ok.0))
