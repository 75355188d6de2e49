use Rattle.std.proofs.Common.{◌≡◌, string_bytes, take}
use Rattle.std.specs.Prelude.{flat_map}
use Rattle.lt_words.specs.Reply.{stream_line}
use Rattle.lt_reply.specs.View.{view_streams}
use Rattle.lt_reply.proofs.text.status.streams_text.Given as goal

abbrev pub invariant-loop-stream : goal.invariant-loop-stream
invariant-loop-stream l = string_bytes l.text ≡ flat_map stream_line (view_streams (take l.stream-index l.streams))
