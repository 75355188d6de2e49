use Rattle.std.specs.Prelude.{◌≡◌, drop}
use Rattle.lt_core.specs.View.{view_parts}
use Rattle.lt_core.specs.KeyCodec.{read_parts, with_front}
use Rattle.lt_core.proofs.key.decode.take_parts.Given as goal

abbrev pub invariant-loop-kind : goal.invariant-loop-kind
invariant-loop-kind l = with_front (view_parts l.parts) (read_parts (drop l.kind-index l.kind-items) l.from) ≡ read_parts l.kind-items l.initial.from
