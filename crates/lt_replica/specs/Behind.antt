-- What is held stays behind the streams, as a truth value.
use Rattle.std.specs.Prelude.{Bool, List, nat_le, not, ◌||◌}
use Rattle.std.specs.List.{list_all}
use Rattle.lt_tables.specs.Fair.{window_ts}
use Rattle.lt_terms.specs.Key.{in_range}
use Rattle.lt_terms.specs.Log.{Change, change_key}
use Rattle.lt_tables.specs.Pump.{StreamAt}
use Rattle.lt_machine.specs.Sound.{Memory}

-- a change of the stream's keys is not above its checkpoint, or not above what its window keeps of the key
abbrev pub is_behind : StreamAt → Change → Bool
is_behind a c = not (in_range (change_key c) a.header.range) || (nat_le c.ts a.point.checkpoint || nat_le c.ts (window_ts (change_key c) a.point.window))

abbrev pub are_behind : List StreamAt → Memory → Bool
are_behind ss mem = list_all (λ a. list_all (λ cs. list_all (is_behind a) cs) mem) ss
