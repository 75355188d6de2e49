use Rattle.std.proofs.Common.{◌≡◌, ◌++◌, drop, string_bytes}
use Rattle.lt_words.specs.Reply.{part_lines}
use Rattle.lt_reply.specs.View.{view_parts}
use Rattle.lt_reply.proofs.text.status.parts_text.Given as goal

abbrev pub invariant-loop-number : goal.invariant-loop-number
invariant-loop-number l = string_bytes l.text ++ part_lines l.number (view_parts (drop l.number l.parts)) ≡ part_lines 0 (view_parts l.parts)
