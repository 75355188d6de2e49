use Rattle.std.proofs.Common.{◌≡◌, ◌++◌}
use Rattle.lt_pending.proofs.stamps.copy_stamps.Given as goal

abbrev pub invariant-loop-ts : goal.invariant-loop-ts
invariant-loop-ts l = l.copies.entries ++ l.ts-iterator ≡ l.stamps.entries
