-- What a session stands on while its durable part stays: a longer feed, records taken, a job's steps, and a fault.
use Rattle.std.specs.Prelude.{IsTrue, List, Some, [], length, slice_get, ℕ, ◌++◌, ◌∷◌, ◌≡◌, ◌≤◌}
use Rattle.lt_terms.specs.declared.Extent.{Extent}
use Rattle.lt_world.specs.Disk.{bytes_in}
use Rattle.lt_world.specs.Feed.{Feed, Grows}
use Rattle.lt_terms.specs.Layout.{Leaf}
use Rattle.lt_machine.specs.Machine.{Job, State}
use Rattle.lt_machine.specs.Outside.{IsHonest, MadeStand, bytes_of_bundle, job_bundles}
use Rattle.lt_world.specs.Extents.{end_of}
use Rattle.lt_storage.specs.Store.{Placing, are_within}
use Rattle.lt_tables.specs.Version.{RowVersion}
use Rattle.lt_image_laws.specs.Commit.{broken_by}
use Rattle.lt_image_laws.specs.Standing.{IsRooted, placed_at}

-- a state with the same durable part, broken or not as before
pub record SamePart (s s' : State) : Type 0 where
  pub durable : s'.durable ≡ s.durable
  pub broken : s'.broken ≡ s.broken

pub record MoveLaws : Type 0 where
  -- under a longer feed, and with the bundles that the job has made then
  pub honest : (f g : Feed) (s s' : State) (l : Placing) (made made' : List Extent) (image : List ℕ) → Grows f g → SamePart s s' → MadeStand s'.job s' made' image → IsTrue (are_within image made') → IsHonest f (placed_at s l made) image
      → IsHonest g (placed_at s' l made') image
  pub stands : (f g : Feed) (s s' : State) (l : Placing) (made made' : List Extent) (image : List ℕ) → Grows f g → SamePart s s' → MadeStand s'.job s' made' image → IsTrue (are_within image made') → IsRooted f s l made image
      → IsRooted g s' l made' image
  -- one more bundle of the job
  pub one_made : (f : Feed) (s : State) (j : Job) (l : Placing) (made : List Extent) (e : Extent) (b : List Leaf × List RowVersion) (image : List ℕ) → IsRooted f s l made image → s.job ≡ Some j → slice_get (job_bundles s j) (length made) ≡ Some b
      → bytes_in image e ≡ bytes_of_bundle b → end_of e ≤ length image → IsRooted f s l (made ++ e ∷ []) image
  -- a write that fails before the root's commit breaks the session, and each image is honest for it
  pub breaks : (f : Feed) (s s' : State) (l : Placing) (made : List Extent) (image : List ℕ) → IsRooted f s l made image → IsHonest f (placed_at (broken_by s' s) l made) image
