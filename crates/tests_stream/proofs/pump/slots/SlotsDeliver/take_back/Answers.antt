use Rattle.std.proofs.Common.{arith}
use Rattle.std.proofs.lemmas.List.{length-map}
use Rattle.tests_stream.proofs.SlotLaws.{in_slot, slot_emptied}
use Rattle.tests_stream.proofs.pump.slots.SlotsDeliver.take_back.Goals as goal

pub returns-clause-taken : goal.returns-clause-taken
returns-clause-taken c =
    let slots = c.args.self.now.slots.items in
    slot_emptied slots c.args.sub c.index_mut.result.now c.args.key.now c.args.ts (omega (arith, c.requires.known, length-map slots in_slot)) c.index_mut.ensures.value c.requires.held
