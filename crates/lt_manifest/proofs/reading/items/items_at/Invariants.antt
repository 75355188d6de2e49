use Rattle.std.proofs.Common.{◌≡◌, map, ◌-◌}
use Rattle.lt_codecs.specs.Codec.{read_times}
use Rattle.lt_records.proofs.Loop.{with_front}
use Rattle.lt_manifest.proofs.reading.items.items_at.Given as goal

abbrev pub invariant-loop : goal.invariant-loop
invariant-loop g l = with_front (map g.T.Reads.view l.items) (read_times g.T.Reads.reading (l.count - l.counter) l.from) ≡ read_times g.T.Reads.reading l.count l.initial.from
