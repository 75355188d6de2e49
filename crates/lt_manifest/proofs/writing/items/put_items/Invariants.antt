use Rattle.std.proofs.Common.{flat_map, map, take, ◌++◌, ◌≡◌}
use Rattle.lt_manifest.proofs.writing.items.put_items.Given as goal

abbrev pub invariant-loop-item : goal.invariant-loop-item
invariant-loop-item g l = l.to ≡ l.fn.to ++ flat_map g.T.Writes.spelling (map g.T.Writes.view (take l.item-index l.items))
