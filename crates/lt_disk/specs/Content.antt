-- The bytes of a disk in memory.
use Rattle.std.specs.Prelude.{List, ℕ}

-- what it held first, and what reads now
pub record Bytes : Type 0 where
  pub first : List ℕ
  pub now : List ℕ
