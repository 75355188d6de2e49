-- What a commit prepares: the next session's part over the deltas that stay, with one new delta or none.
use Rattle.std.specs.Prelude.{Bool, IsTrue, List, [], filter, ℕ, ◌++◌, ◌∷◌, ◌≡◌}
use Rattle.lt_terms.specs.declared.Extent.{Extent}
use Rattle.lt_terms.specs.declared.Root.{Root}
use Rattle.lt_world.specs.Disk.{bytes_in}
use Rattle.lt_world.specs.Feed.{Feed}
use Rattle.lt_terms.specs.Log.{Header, Item}
use Rattle.lt_machine.specs.Machine.{State}
use Rattle.lt_machine.specs.Outside.{MadeStand}
use Rattle.lt_machine.specs.Sound.{IsGood}
use Rattle.lt_world.specs.Extents.{are_apart}
use Rattle.lt_storage.specs.Store.{Delta, Placing, are_within, extents_of, index_bytes, manifest_bytes, root_extent}
use Rattle.lt_image_laws.specs.Apart.{new_extents}
use Rattle.lt_image_laws.specs.Commit.{IsPrepared}
use Rattle.lt_image_laws.specs.Shelf.{FitsIndex, Shelved, TablesStand, manifest_for, placing_for, shelved_of}
use Rattle.lt_image_laws.specs.Standing.{IsRooted}

-- what every commit has: the session goes on to a good one of the same limit, whose job's bundles stand
pub record GoesOnTo (f : Feed) (s s' : State) (made' : List Extent) (seen : List ℕ) : Type 0 where
  pub fronts : List (Header × List Item)
  pub good : IsGood f s' fronts
  pub limit : s'.durable.limit ≡ s.durable.limit
  pub job : MadeStand s'.job s' made' seen

-- the deltas that stay, as they are kept
abbrev pub those : (ℕ → Bool) → Placing → List Shelved
those p l = filter (λ k. p k.id) (shelved_of l)

-- a manifest was written, over deltas that stay
pub record WritesManifest (s s' : State) (l : Placing) (r : Root) (p : ℕ → Bool) (made' : List Extent) (seen : List ℕ) : Type 0 where
  pub generation : r.generation ≡ s'.durable.generation
  pub shelf : s'.durable.shelf ≡ filter (λ x. p x.id) s.durable.shelf
  pub apart : IsTrue (are_apart s.durable.limit ((extents_of l ++ root_extent r ∷ []) ++ made'))
  pub within : IsTrue (are_within seen (root_extent r ∷ made'))
  pub bytes : bytes_in seen (root_extent r) ≡ manifest_bytes (manifest_for s'.durable (those p l))

-- a delta was written, and a manifest
pub record WritesDelta (s s' : State) (l : Placing) (r : Root) (p : ℕ → Bool) (k : Shelved) (x : Delta) (made' : List Extent) (seen : List ℕ) : Type 0 where
  pub generation : r.generation ≡ s'.durable.generation
  pub shelf : s'.durable.shelf ≡ filter (λ x. p x.id) s.durable.shelf ++ x ∷ []
  pub id : x.id ≡ k.id
  pub tables : TablesStand seen k.index x.tables
  pub fits : FitsIndex k.index
  pub index : bytes_in seen k.extent ≡ index_bytes k.index
  pub apart : IsTrue (are_apart s.durable.limit ((extents_of l ++ new_extents k r) ++ made'))
  pub within : IsTrue (are_within seen (new_extents k r ++ made'))
  pub bytes : bytes_in seen (root_extent r) ≡ manifest_bytes (manifest_for s'.durable (those p l ++ k ∷ []))

pub record NextIsPrepared : Type 0 where
  pub manifest : (f : Feed) (s s' : State) (l : Placing) (made made' : List Extent) (r : Root) (p : ℕ → Bool) (seen : List ℕ) → IsRooted f s l made seen → GoesOnTo f s s' made' seen → WritesManifest s s' l r p made' seen
      → IsPrepared f s' (placing_for r s'.durable (those p l)) made' seen
  pub delta : (f : Feed) (s s' : State) (l : Placing) (made made' : List Extent) (r : Root) (p : ℕ → Bool) (k : Shelved) (x : Delta) (seen : List ℕ) → IsRooted f s l made seen → GoesOnTo f s s' made' seen → WritesDelta s s' l r p k x made' seen
      → IsPrepared f s' (placing_for r s'.durable (those p l ++ k ∷ [])) made' seen
