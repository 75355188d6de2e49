use Rattle.std.proofs.Common.{List, ap, ◌∙◌}
use Rattle.std.specs.Prelude.{flat_map}
use Rattle.lt_words.specs.Reply.{delta_line}
use Rattle.lt_reply.proofs.DeltaLines.{deltas_lines}
use Rattle.lt_reply.specs.View.{view_deltas}
use Rattle.lt_reply.specs.declared.reply.DeltaLine.{DeltaLine}
use Rattle.lt_reply.proofs.text.deltas.deltas_words.Goals as goal

pub returns : goal.returns
returns c =
    deltas_lines c.args.lines.now _ _ _ c.len-count.ensures (c.in_ok-text.ensures ∙ ap (λ (ds : List DeltaLine). flat_map delta_line (view_deltas ds)) c.as_slice.ensures) c.in_ok-format.ensures.ok
