use Rattle.std.proofs.Common.{arith}
use Rattle.std.proofs.lemmas.List.{length-map}
use Rattle.tests_stream.proofs.SlotLaws.{in_slot, slot_filled}
use Rattle.tests_stream.proofs.pump.slots.SlotsDeliver.deliver.Goals as goal

pub returns-in-None-clause-ok : goal.returns-in-None-clause-ok
returns-in-None-clause-ok c =
    let slots = c.args.self.now.slots.items in
    slot_filled slots c.args.sub c.index_mut-slot.result.now c.in_ok-copy.copy c.args.change.now (omega (arith, c.requires.known, length-map slots in_slot)) c.index_mut-slot.ensures.value c.in-None.is c.in_ok-copy.ensures
