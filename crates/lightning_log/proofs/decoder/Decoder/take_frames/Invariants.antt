use Rattle.std.proofs.Common.{length, ◌≤◌}
use Rattle.lightning_log.proofs.decoder.Decoder.take_frames.Given as goal

abbrev pub invariant-loop : goal.invariant-loop
invariant-loop l = l.at ≤ length l.self.ahead
