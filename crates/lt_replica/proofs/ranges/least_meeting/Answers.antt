use Rattle.std.proofs.Common.{ap, arith, length}
use Rattle.std.proofs.lemmas.List.{length-map}
use Rattle.lt_parts.specs.Parts.{interval}
use Rattle.lt_pump.specs.Positions.{low_of}
use Rattle.lt_pump.specs.Pumps.{streams_of}
use Rattle.lt_replica.proofs.RangeLaws.{least_next}
use Rattle.lt_replica.proofs.ranges.least_meeting.Goals as goal

pub loop-stream-preserved : goal.loop-stream-preserved
loop-stream-preserved c =
    let ss = streams_of c.args.pump.now in
    least_next ss (interval c.args.low.now c.args.high) c.loop-stream.stream c.loop-stream.least c.lesser-least.result c.checkpoint_meeting.result (omega (arith, c.loop-stream-test.true, c.len-count.ensures, ap length c.lows.ensures, length-map ss low_of)) c.checkpoint_meeting.ensures
    c.loop-stream.invariant c.lesser-least.ensures.none c.lesser-least.ensures.some
