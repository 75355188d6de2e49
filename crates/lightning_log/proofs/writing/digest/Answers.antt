use Rattle.std.proofs.Common.{refl, ◌++◌}
use Rattle.lightning_log.proofs.WriteLaws.{lost_stands, written_more}
use Rattle.lightning_log.proofs.writing.digest.Goals as goal

pub returns-in-Ok-flush : goal.returns-in-Ok-flush
returns-in-Ok-flush g c i i' o taken consumes w =
    let piece = c.args.piece.now in
    let f = c.in-Ok-flush.ensures.all in
    record {
      taken = taken ++ piece;
      consumes = consumes;
      writing = written_more taken o _ _ c.args.encoder.now c.take.new.self c.flush.new.encoder piece w (c.in-Ok.ensures taken w.written w.stands) f.0 f.1 f.2;
    }

pub returns-in-Err-flush : goal.returns-in-Err-flush
returns-in-Err-flush g c i i' o taken consumes w =
    lost_stands i i' o _ _ (taken ++ c.args.piece.now) w.written c.take.new.self 4 refl consumes w.appends (c.in-Ok.ensures taken w.written w.stands) c.in-Err-flush.ensures.front

pub returns-in-Err : goal.returns-in-Err
returns-in-Err g c i i' o taken consumes w =
    c.refuse.ensures i i' o (taken ++ c.args.piece.now) w.written consumes w.appends (c.in-Err.ensures taken w.written w.stands)
