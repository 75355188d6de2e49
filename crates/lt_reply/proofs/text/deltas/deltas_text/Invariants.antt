use Rattle.std.proofs.Common.{◌≡◌, string_bytes, take}
use Rattle.std.specs.Prelude.{flat_map}
use Rattle.lt_words.specs.Reply.{delta_line}
use Rattle.lt_reply.specs.View.{view_deltas}
use Rattle.lt_reply.proofs.text.deltas.deltas_text.Given as goal

abbrev pub invariant-loop-delta : goal.invariant-loop-delta
invariant-loop-delta l = string_bytes l.text ≡ flat_map delta_line (view_deltas (take l.delta-index l.deltas))
