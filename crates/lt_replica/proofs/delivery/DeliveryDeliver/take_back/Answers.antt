use Rattle.std.proofs.Common.{arith}
use Rattle.std.proofs.lemmas.List.{length-map}
use Rattle.lt_pending.specs.Held.{held_in}
use Rattle.lt_replica.proofs.DeliveryLaws.{taken_from}
use Rattle.lt_replica.proofs.delivery.DeliveryDeliver.take_back.Goals as goal

pub returns-clause-taken : goal.returns-clause-taken
returns-clause-taken c =
    let parts = c.args.self.now.parts.items in
    taken_from parts c.args.sub c.index_mut.result.now c.remove.new.self c.args.key.now c.args.ts (omega (arith, c.requires.known, length-map parts held_in)) c.index_mut.ensures.value c.remove.ensures
