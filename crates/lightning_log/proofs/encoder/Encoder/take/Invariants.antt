use Rattle.std.proofs.Common.{List, ℕ, take, ◌++◌}
use Rattle.lightning_log.specs.Writing.{Stands}
use Rattle.lightning_log.proofs.encoder.Encoder.take.Given as goal

abbrev pub invariant-loop-byte : goal.invariant-loop-byte
invariant-loop-byte l = (taken written : List ℕ) → Stands taken written l.fn.self → Stands (taken ++ take l.byte-index l.bytes) written l.self
