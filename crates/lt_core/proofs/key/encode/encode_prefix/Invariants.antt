use Rattle.std.specs.Prelude.{◌≡◌, ◌++◌, take, flat_map}
use Rattle.std.specs.Int.{to_be_bytes, w32}
use Rattle.lt_terms.specs.Key.{part_bytes}
use Rattle.lt_core.specs.View.{view_parts}
use Rattle.lt_core.proofs.key.encode.encode_prefix.Given as goal

abbrev pub invariant-loop-part : goal.invariant-loop-part
invariant-loop-part l = l.out ≡ to_be_bytes w32 l.table ++ flat_map part_bytes (view_parts (take l.part-index l.part-items))
