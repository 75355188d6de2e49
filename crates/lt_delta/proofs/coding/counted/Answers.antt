use Rattle.std.proofs.Common.{◌≡◌, ◌++◌, ◌∷◌, [], map}
use Rattle.std.proofs.lemmas.List.{map_push}
use Rattle.lt_codecs.specs.Codec.{read_times}
use Rattle.lt_delta.proofs.Items.{goes_on}
use Rattle.lt_delta.proofs.coding.counted.Goals as goal

pub loop-preserved : goal.loop-preserved
loop-preserved g c =
    let view = g.T.Coded.view in
    let read = g.T.Coded.codec.read in
    let pushed : map view c.push.new.self ≡ map view c.loop.items ++ view c.in_ok-item.item ∷ [] = rw c.in_ok-push.ensures.ok (map_push view c.loop.items c.in_ok-item.item) in
    rw pushed (goes_on read (map view c.loop.items) c.args.count c.loop.counter c.loop.from (view c.in_ok-item.item) c.read.new.from (read_times read c.args.count c.args.from.now) c.loop-test.true c.in_ok-item.ensures c.loop.invariant)
