use Rattle.std.proofs.Common.{length, ◌≡◌}
use Rattle.lt_memdelta.specs.Groups.{rows_below}
use Rattle.lt_memdelta.specs.Stamps.{rows_of}
use Rattle.lt_memdelta.proofs.keys.drop_from.Given as goal

abbrev pub invariant-last : goal.invariant-last
invariant-last l = rows_below l.low (rows_of l.keys.entries) ≡ rows_below l.low (rows_of l.initial.keys.entries)

abbrev pub decreases-last : goal.decreases-last
decreases-last l = length l.keys.entries
