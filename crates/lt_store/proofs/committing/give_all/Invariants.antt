use Rattle.std.specs.Prelude.{List, drop, ◌++◌, ◌≡◌}
use Rattle.std.specs.List.Sorted.{IsPermutation}
use Rattle.lt_terms.specs.declared.Extent.{Extent}
use Rattle.lt_store.proofs.committing.give_all.Given as goal

abbrev pub invariant-loop-extent : goal.invariant-loop-extent
invariant-loop-extent l = (l.space.limit ≡ l.fn.space.limit) × ((rest : List Extent) → IsPermutation (l.extents ++ rest) l.fn.space.taken → IsPermutation (drop l.extent-index l.extents ++ rest) l.space.taken)
