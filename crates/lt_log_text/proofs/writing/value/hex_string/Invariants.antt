use Rattle.std.proofs.Common.{◌≡◌, string_bytes, take}
use Rattle.lt_words.specs.SchemaText.{hex_string}
use Rattle.lt_log_text.proofs.writing.value.hex_string.Given as goal

abbrev pub invariant-loop-byte : goal.invariant-loop-byte
invariant-loop-byte l = string_bytes l.text ≡ hex_string (take l.byte-index l.byte-items)
