use Rattle.std.specs.Prelude.{◌≡◌, ◌++◌, take, flat_map}
use Rattle.lt_core.specs.Keys.{escaped_byte}
use Rattle.lt_core.proofs.key.encode.write_text.Given as goal

abbrev pub invariant-loop-byte : goal.invariant-loop-byte
invariant-loop-byte l = l.out ≡ l.initial.out ++ flat_map escaped_byte (take l.byte-index l.text)
