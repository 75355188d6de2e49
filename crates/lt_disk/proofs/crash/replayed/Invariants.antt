use Rattle.std.proofs.Common.{reverse, take, ◌≡◌}
use Rattle.lt_disk.specs.History.{replay}
use Rattle.lt_disk.proofs.crash.replayed.Given as goal

abbrev pub invariant-loop-event : goal.invariant-loop-event
invariant-loop-event l = l.image.items ≡ replay l.first (reverse (take l.event-index l.events))
