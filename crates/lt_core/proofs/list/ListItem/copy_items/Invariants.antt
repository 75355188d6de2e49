use Rattle.std.specs.Prelude.{◌≡◌, take}
use Rattle.lt_core.proofs.list.ListItem.copy_items.Given as goal

abbrev pub invariant-loop-item : goal.invariant-loop-item
invariant-loop-item g l = l.copies ≡ take l.item-index l.items
