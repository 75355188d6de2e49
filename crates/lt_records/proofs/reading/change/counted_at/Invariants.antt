use Rattle.std.proofs.Common.{◌≡◌, ◌-◌}
use Rattle.lt_core.specs.View.{view_parts}
use Rattle.lt_codecs.specs.Codec.{read_times}
use Rattle.lt_codecs.specs.LogCodec as log
use Rattle.lt_records.proofs.Loop.{with_front}
use Rattle.lt_records.proofs.reading.change.counted_at.Given as goal

abbrev pub invariant-loop : goal.invariant-loop
invariant-loop l = with_front (view_parts l.parts) (read_times log.part.read (l.count - l.counter) l.from) ≡ read_times log.part.read l.count l.initial.from
