-- Where a store stands: its root and limit, and what is taken of the file.
use Rattle.std.specs.Prelude.{List, ◌++◌, ◌≡◌}
use Rattle.std.specs.List.Sorted.{IsPermutation}
use Rattle.lt_terms.specs.declared.Extent.{Extent}
use Rattle.lt_storage.specs.Store.{Placing, extents_of}
use Rattle.lt_store.specs.declared.store.Store.{Store}

-- A store stands at a placing: its root and its limit are the placing's, and what is taken of the file is what the placing names, and what else
-- is live.
pub record StandsAt (s : Store) (l : Placing) (besides : List Extent) : Type 0 where
  pub root : l.root ≡ s.root
  pub limit : l.manifest.limit ≡ s.space.limit
  pub taken : IsPermutation (extents_of l ++ besides) s.space.taken
