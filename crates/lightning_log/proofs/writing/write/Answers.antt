use Rattle.std.proofs.Common.{refl}
use Rattle.lightning_log.proofs.WriteLaws.{begins, cut_by, keeps_itself}
use Rattle.lightning_log.proofs.writing.write.Goals as goal

pub loop-init : goal.loop-init
loop-init g c = begins _ _ _ c.new-encoder.ensures.line c.new-encoder.ensures.frames

pub returns : goal.returns
returns g c = cut_by _ _ _ _ _ c.loop.encoder 3 refl c.loop.invariant (keeps_itself _)
