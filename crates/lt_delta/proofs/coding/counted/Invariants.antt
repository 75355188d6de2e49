use Rattle.std.proofs.Common.{◌≡◌, ◌-◌, map}
use Rattle.lt_codecs.specs.Codec.{read_times}
use Rattle.lt_delta.proofs.Items.{with_front}
use Rattle.lt_delta.proofs.coding.counted.Given as goal

abbrev pub invariant-loop : goal.invariant-loop
invariant-loop g l = with_front (map g.T.Coded.view l.items) (read_times g.T.Coded.codec.read (l.count - l.counter) l.from) ≡ read_times g.T.Coded.codec.read l.count l.initial.from
