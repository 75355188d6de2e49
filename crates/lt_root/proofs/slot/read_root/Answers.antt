use Rattle.std.proofs.Common.{refl, ◌∙◌}
use Rattle.lt_root.proofs.SlotLaws.{generation_back, length_back, place_back, same_root}
use Rattle.lt_root.proofs.slot.read_root.Goals as goal

pub returns-clause-again : goal.returns-clause-again
returns-clause-again c r lawful is =
    let bytes = c.args.bytes.now in
    same_root _ _ (c.number_at.ensures ∙ generation_back r bytes lawful is) (c.number_at-2.ensures ∙ place_back r bytes lawful is) (c.number_at-3.ensures ∙ length_back r bytes lawful is) refl
