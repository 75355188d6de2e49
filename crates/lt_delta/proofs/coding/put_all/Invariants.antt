use Rattle.std.proofs.Common.{◌≡◌, ◌++◌, flat_map, map, take}
use Rattle.lt_delta.proofs.coding.put_all.Given as goal

abbrev pub invariant-loop-item : goal.invariant-loop-item
invariant-loop-item g l = l.to ≡ l.fn.to ++ flat_map g.T.Coded.codec.spell (map g.T.Coded.view (take l.item-index l.items))
