use Rattle.std.proofs.Common.{refl}
use Rattle.lightning_log.proofs.WriteLaws.{lost_stops, refused_by, some_status}
use Rattle.lightning_log.proofs.writing.refuse.Goals as goal

pub returns-in-Ok : goal.returns-in-Ok
returns-in-Ok g c i i' o taken written consumes appends stops =
    refused_by i i' o _ _ taken written c.args.encoder.now c.args.stop c.status.result c.status.ensures (some_status c.args.stop) consumes appends stops c.in-Ok.ensures.all.0

pub returns-in-Err : goal.returns-in-Err
returns-in-Err g c i i' o taken written consumes appends stops = lost_stops i i' o _ _ taken written c.args.encoder.now c.args.stop 4 refl consumes appends stops c.in-Err.ensures.front
