use Rattle.std.proofs.Common.{length, ◌≡◌}
use Rattle.lt_io.proofs.file_feed.open_further.Given as goal

abbrev pub invariant-loop-number : goal.invariant-loop-number
invariant-loop-number g l = length l.files.items ≡ l.number
