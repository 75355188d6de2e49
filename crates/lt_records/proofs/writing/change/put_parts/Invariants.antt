use Rattle.std.proofs.Common.{◌≡◌, ◌++◌, flat_map, length, take}
use Rattle.lt_core.specs.View.{view_parts}
use Rattle.lt_codecs.specs.Codec.{u8}
use Rattle.lt_codecs.specs.LogCodec.{part}
use Rattle.lt_records.proofs.writing.change.put_parts.Given as goal

abbrev pub invariant-loop-part : goal.invariant-loop-part
invariant-loop-part l = l.to ≡ l.fn.to ++ (u8.spell (length l.parts) ++ flat_map part.spell (view_parts (take l.part-index l.part-items)))
