use Rattle.std.specs.Prelude.{map, take, ◌++◌, ◌∷◌, ◌≡◌}
use Rattle.lt_storage.specs.Store.{bundle_extents, root_extent}
use Rattle.lt_delta.specs.View.{view_index}
use Rattle.lt_manifest.specs.View.{view_delta}
use Rattle.lt_store.proofs.extents.extents_of.Given as goal

abbrev pub invariant-loop-delta : goal.invariant-loop-delta
invariant-loop-delta l = l.all.items ≡ root_extent l.root ∷ map (λ d. d.1) (map view_delta (take l.delta-index l.delta-items))

abbrev pub invariant-loop-index : goal.invariant-loop-index
invariant-loop-index l = l.all.items ≡ root_extent l.root ∷ (map (λ d. d.1) (map view_delta l.manifest.deltas) ++ bundle_extents (map view_index (take l.index-index l.indexes)))
