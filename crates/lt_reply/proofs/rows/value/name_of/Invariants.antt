use Rattle.std.proofs.Common.{◌≡◌, drop}
use Rattle.lt_words.specs.Reply.{name_of_number}
use Rattle.lt_reply.proofs.rows.value.name_of.Given as goal

abbrev pub invariant-loop-named : goal.invariant-loop-named
invariant-loop-named l = name_of_number (drop l.named-index l.named-items) l.number ≡ name_of_number l.names l.number
