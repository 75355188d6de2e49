use Rattle.std.proofs.Common.{◌≡◌, string_bytes, take}
use Rattle.lt_words.specs.SchemaText.{hex_text}
use Rattle.lt_reply.proofs.text.status.hex_text.Given as goal

abbrev pub invariant-loop-byte : goal.invariant-loop-byte
invariant-loop-byte l = string_bytes l.text ≡ hex_text (take l.byte-index l.bytes)
