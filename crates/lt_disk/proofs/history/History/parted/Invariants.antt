use Rattle.std.proofs.Common.{List, drop, length, reverse, take, ℕ, ◌++◌, ◌≡◌, ◌≤◌}
use Rattle.lt_disk.specs.Crash.{since_sync, synced_bytes}
use Rattle.lt_disk.proofs.history.History.parted.Given as goal

abbrev pub invariant-loop-start : goal.invariant-loop-start
invariant-loop-start l = record {
  within : l.start ≤ length l.events;
  since : since_sync (reverse l.events) ≡ reverse (drop l.start l.events) ++ since_sync (reverse (take l.start l.events));
  synced : (first : List ℕ) → synced_bytes first (reverse l.events) ≡ synced_bytes first (reverse (take l.start l.events));
}

abbrev pub decreases-loop-start : goal.decreases-loop-start
decreases-loop-start l = l.start
