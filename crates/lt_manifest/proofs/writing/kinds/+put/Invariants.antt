use Rattle.std.proofs.Common.{flat_map, length, take, ◌++◌, ◌≡◌}
use Rattle.lt_codecs.specs.Codec.{u16}
use Rattle.lt_manifest.specs.Writing.{field_bytes}
use Rattle.lt_manifest.proofs.writing.kinds.+put.Given as goal

abbrev pub invariant-put_fields-loop-number : goal.invariant-put_fields-loop-number
invariant-put_fields-loop-number l = l.to ≡ l.fn.to ++ (u16.spell (length l.fields) ++ flat_map field_bytes (take l.number-index l.number-items))
