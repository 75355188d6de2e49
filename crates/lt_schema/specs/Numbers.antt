-- How the numbers of an enum rise.
use Rattle.std.specs.Prelude.{None, Option, Some, if◌then◌else◌, int_lt, ℤ}

-- the number, where it is not above the one before it
abbrev pub not_above : Option ℤ → ℤ → Option ℤ
not_above None z = None
not_above (Some before) z = if int_lt before z then None else Some z
