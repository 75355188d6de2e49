use Rattle.std.proofs.Common.{◌≡◌, ◌+◌, length}
use Rattle.lt_pending.specs.Stamps.{changes_in}
use Rattle.lt_pending.proofs.keys.count_in.Given as goal

abbrev pub invariant-loop-stamps : goal.invariant-loop-stamps
invariant-loop-stamps l = l.count + length (changes_in l.stamps-iterator) ≡ length (changes_in l.keys.entries)
