use Rattle.std.proofs.Common.{ap, ◌*◌}
use Rattle.lt_root.specs.declared.refusal.RootRefusal.TheVariants as refusals
use Rattle.lt_root.proofs.SlotLaws.{none_there, open_there, slot_there}
use Rattle.lt_root.proofs.slot.read_slot.Goals as goal

pub returns-in-Some-clause-open : goal.returns-in-Some-clause-open
returns-in-Some-clause-open c =
    let found = c.in-Some.ensures.some in
    (slot_there c.args.slots.now c.from-at.result c.args.slot c.requires.slots c.requires.slot c.from-at.ensures c.in-Some.root c.if-slots-at.false found.0 found.1 found.2, found.2)

pub returns-in-None-clause-damaged : goal.returns-in-None-clause-damaged
returns-in-None-clause-damaged c =
    let slots = c.args.slots.now in (
      ap (λ at. refusals.Damaged (512 * at) 512) c.from-at.ensures,
      open_there slots c.from-at.result c.args.slot c.requires.slots c.requires.slot c.from-at.ensures c.if-slots-at.false,
      none_there slots c.from-at.result c.args.slot c.requires.slots c.requires.slot c.from-at.ensures c.in-None.ensures.none,
    )
