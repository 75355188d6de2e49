use Rattle.std.proofs.Common.{refl}
use Rattle.lightning_log.proofs.WriteLaws.{end_stops, lost_end, whole_by}
use Rattle.lightning_log.proofs.writing.finish.Goals as goal

pub returns-in-Ok-flush : goal.returns-in-Ok-flush
returns-in-Ok-flush g c i i' o taken consumes over w =
    whole_by i i' o _ _ taken c.args.encoder.now c.end.new.self 0 refl consumes over w c.in-Ok.ensures.ok c.in-Ok-flush.ensures.all.0

pub returns-in-Err-flush : goal.returns-in-Err-flush
returns-in-Err-flush g c i i' o taken consumes over w =
    lost_end i i' o _ _ taken c.args.encoder.now c.end.new.self 4 refl consumes w c.in-Ok.ensures.ok c.in-Err-flush.ensures.front

pub returns-in-Err : goal.returns-in-Err
returns-in-Err g c i i' o taken consumes over w =
    c.refuse.ensures i i' o taken w.written consumes w.appends (end_stops taken w.written c.args.encoder.now _ c.in-Err.stop w.stands c.in-Err.ensures.err c.in-Err.ensures.unchanged)
