-- What the rows of the tests' deltas keep.
use Rattle.std.specs.Prelude.{IsTrue, [], ℕ, ◌≤◌}
use Rattle.lt_tables.specs.Version.{RowVersion, is_version}

-- lawful under a layout without leaves, and not later than this
abbrev pub StandsBy : ℕ → RowVersion → Type 0
StandsBy n w = (w.ts ≤ n) × IsTrue (is_version [] w)
