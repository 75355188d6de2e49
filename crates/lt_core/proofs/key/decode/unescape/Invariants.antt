use Rattle.std.specs.Prelude.{◌≡◌, length}
use Rattle.lt_core.specs.KeyCodec.{unescaped, with_front}
use Rattle.lt_core.proofs.key.decode.unescape.Given as goal

abbrev pub invariant-loop-text : goal.invariant-loop-text
invariant-loop-text l = with_front l.text (unescaped l.from) ≡ unescaped l.initial.from

abbrev pub decreases-loop-text : goal.decreases-loop-text
decreases-loop-text l = length l.from
