use Rattle.std.proofs.Common.{ap, arith, length, ◌∙◌}
use Rattle.std.proofs.lemmas.List.{length-map}
use Rattle.lt_machine.specs.Machine.{streams_told}
use Rattle.lt_pump.specs.Positions.{low_of}
use Rattle.lt_pump.specs.Pumps.{streams_of}
use Rattle.lt_reply.specs.View.{view_stream, view_streams}
use Rattle.lt_replica.specs.State.{state_of}
use Rattle.lt_replica.proofs.StatusLaws.{one_more, stream_line, stream_line_is}
use Rattle.lt_replica.proofs.replica.Replica.stream_lines.Goals as goal

pub loop-stream-preserved : goal.loop-stream-preserved
loop-stream-preserved c =
    let s = c.args.self.now in
    let stream = c.loop-stream.stream in
    ap view_streams c.in_ok-push.ensures.ok
    ∙ one_more view_stream c.loop-stream.lines (stream_line stream c.offset.result c.checkpoint.result) (streams_told (state_of s)) stream c.loop-stream.invariant
    (stream_line_is s.pump.positions.items stream c.offset.result c.checkpoint.result s.pump.streams
    (omega (arith, c.loop-stream-test.true, c.len-stream-end.ensures, ap length c.lows.ensures, length-map (streams_of s.pump) low_of)) c.offset.ensures c.checkpoint.ensures)
