-- What the refusals print.
use Rattle.std.specs.Prelude.{List, codes, ℕ, ◌++◌}
use Rattle.std.specs.Fmt.{decimal}
use Rattle.lt_core.specs.declared.key.decode.DecodeRefusal.{DecodeRefusal}
use Rattle.lt_core.specs.declared.key.decode.DecodeRefusal.TheVariants as decoding
use Rattle.lt_core.specs.declared.key.encode.KeyRefusal.{KeyRefusal}
use Rattle.lt_core.specs.declared.key.encode.KeyRefusal.TheVariants as encoding
use Rattle.lt_core.specs.declared.text.TextRefusal.{TextRefusal}
use Rattle.lt_core.specs.declared.text.TextRefusal.TheVariants as texts

abbrev pub out_of_memory : List ℕ
out_of_memory = codes "out of memory"

abbrev pub not_utf8 : List ℕ
not_utf8 = codes "not UTF-8"

abbrev pub text_message : TextRefusal → List ℕ
text_message texts.NotUtf8 = not_utf8
text_message texts.Memory = out_of_memory

abbrev pub key_message : KeyRefusal → List ℕ
key_message (encoding.TooLong len) = codes "a key of " ++ decimal len ++ codes " bytes"
key_message encoding.Memory = out_of_memory

abbrev pub decode_message : DecodeRefusal → List ℕ
decode_message decoding.NotAKey = codes "not a key of these kinds"
decode_message decoding.Memory = out_of_memory
