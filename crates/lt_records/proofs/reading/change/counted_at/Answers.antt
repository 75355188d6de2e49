use Rattle.std.proofs.Common.{◌≡◌, ◌++◌, ◌∷◌, []}
use Rattle.std.proofs.lemmas.List.{map_push}
use Rattle.lt_core.specs.View.{view_part, view_parts}
use Rattle.lt_codecs.specs.Codec.{read_times}
use Rattle.lt_codecs.specs.LogCodec as log
use Rattle.lt_records.proofs.Loop.{goes_on}
use Rattle.lt_records.proofs.reading.change.counted_at.Goals as goal

pub loop-preserved : goal.loop-preserved
loop-preserved c =
    let pushed : view_parts c.push.new.self ≡ view_parts c.loop.parts ++ view_part c.in_ok-part.part ∷ [] = rw c.in_ok-push.ensures.ok (map_push view_part c.loop.parts c.in_ok-part.part) in
    rw pushed (goes_on log.part.read (view_parts c.loop.parts) c.args.count c.loop.counter c.loop.from (view_part c.in_ok-part.part) c.part_at.new.from (read_times log.part.read c.args.count c.args.from.now) c.loop-test.true c.in_ok-part.ensures c.loop.invariant)
