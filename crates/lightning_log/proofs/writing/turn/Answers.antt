use Rattle.std.proofs.Common.{refl, rules}
use Rattle.lightning_log.proofs.WriteLaws.{consumes_none, consumes_then, cut_by}
use Rattle.lightning_log.proofs.writing.turn.Goals as goal

pub returns-in-Err : goal.returns-in-Err
returns-in-Err g c i o w = cut_by i _ _ o _ c.args.encoder.now 3 refl w c.in-Err.ensures.bytes

pub returns-then-n-eq0 : goal.returns-then-n-eq0
returns-then-n-eq0 g c i o w =
    let b = c.in-Ok.ensures.bytes in
    c.finish.ensures i _ o w.taken (consumes_none i _ _ w.taken _ c.read.new.buf c.if-n-eq0.true w.consumes b.0) (b.1 c.if-n-eq0.true (search rules)) w.writing

pub returns : goal.returns
returns g c i o w =
    let b = c.in-Ok.ensures.bytes in
    c.digest.ensures i _ o w.taken (consumes_then i _ _ w.taken _ w.consumes b.0) w.writing
