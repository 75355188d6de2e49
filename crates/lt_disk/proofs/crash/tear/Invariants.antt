use Rattle.std.proofs.Common.{reverse, take, ◌≡◌}
use Rattle.lt_disk.specs.Crash.{torn_by}
use Rattle.lt_disk.proofs.crash.tear.Given as goal

abbrev pub invariant-loop-number : goal.invariant-loop-number
invariant-loop-number l = l.image.items ≡ torn_by l.picks (reverse (take l.number l.events)) l.initial.image.items
