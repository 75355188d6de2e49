use Rattle.std.proofs.Common.{arith}
use Rattle.std.proofs.lemmas.List.{length-map}
use Rattle.lt_pending.specs.Held.{held_in}
use Rattle.lt_replica.proofs.DeliveryLaws.{put_done, put_failed}
use Rattle.lt_replica.proofs.delivery.DeliveryDeliver.deliver.Goals as goal

pub returns-clause-ok : goal.returns-clause-ok
returns-clause-ok c =
    let parts = c.args.self.now.parts.items in
    put_done c.put.result parts c.args.sub c.index_mut.result.now c.put.new.self c.in_ok-copy.copy c.args.change.now (omega (arith, c.requires.known, length-map parts held_in)) c.index_mut.ensures.value c.in_ok-copy.ensures c.put.ensures.ok

pub returns-clause-err : goal.returns-clause-err
returns-clause-err c =
    let parts = c.args.self.now.parts.items in
    put_failed c.put.result parts c.args.sub c.index_mut.result.now c.put.new.self (omega (arith, c.requires.known, length-map parts held_in)) c.index_mut.ensures.value c.put.ensures.err
