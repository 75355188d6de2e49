use Rattle.std.proofs.Common.{List, ap, ◌∙◌}
use Rattle.std.specs.Prelude.{flat_map}
use Rattle.lt_words.specs.Reply.{part_lines, stream_line}
use Rattle.lt_reply.proofs.StatusLines.{status_lines}
use Rattle.lt_reply.specs.View.{view_parts, view_streams}
use Rattle.lt_reply.specs.declared.reply.PartLine.{PartLine}
use Rattle.lt_reply.specs.declared.reply.StreamLine.{StreamLine}
use Rattle.lt_reply.proofs.text.status.status_words.Goals as goal

pub returns : goal.returns
returns c =
    let parts = c.in_ok-parts.ensures ∙ ap (λ (ps : List PartLine). part_lines 0 (view_parts ps)) c.as_slice.ensures in
    let streams = c.in_ok-streams.ensures ∙ ap (λ (ss : List StreamLine). flat_map stream_line (view_streams ss)) c.as_slice-2.ensures in
    status_lines c.args.minimum (view_parts c.args.parts.now) (view_streams c.args.streams.now) c.args.job _ _ _ _ parts streams c.job_word-job.ensures c.in_ok-format.ensures.ok
