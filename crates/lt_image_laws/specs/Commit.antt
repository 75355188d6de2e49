-- A commit: what each image is before the root is written, at each moment of that, and after it.
use Rattle.std.specs.Prelude.{IsTrue, List, Some, ℕ, ◌++◌, ◌-◌, ◌⊎◌, ◌<◌, ◌≤◌, [], ◌≡◌}
use Rattle.lt_terms.specs.declared.Extent.{Extent}
use Rattle.lt_world.specs.Disk.{StaysOutside}
use Rattle.lt_world.specs.Feed.{Feed}
use Rattle.lt_terms.specs.Log.{Header, Item}
use Rattle.lt_machine.specs.Machine.{State}
use Rattle.lt_world.specs.Slots.{HasRoot}
use Rattle.lt_machine.specs.Outside.{IsHonest, LeavesSession, MadeStand}
use Rattle.lt_machine.specs.Sound.{IsGood, IsSound, Session}
use Rattle.lt_world.specs.Extents.{are_apart}
use Rattle.lt_world.specs.Slots.{slot_place}
use Rattle.lt_storage.specs.Store.{HasPlaced, HoldsAt, Placing, are_within, extents_of}
use Rattle.lt_root.specs.Steps.{HasCommitted}
use Rattle.lt_image_laws.specs.Standing.{IsRooted, placed_at}

-- a session as a failed commit leaves it
abbrev pub broken_by : State → State → State
broken_by s' s = record s { broken = Some s'.durable }

-- the same with the placing of what the commit would have left
abbrev pub broken_at : State → State → Placing → Placing → List Extent → Session
broken_at s' s l l' made = record { state = broken_by s' s; memory = []; placing = l; failed = Some l'; made = made; cached = [] }

-- a crash leaves the session before or the one after
abbrev pub LeavesEither : Feed → Session → Session → List ℕ → Type 0
LeavesEither f x y image = LeavesSession f x image ⊎ LeavesSession f y image

-- What a commit needs of the session that it goes on to, before the root is written: the session is good, and its durable part is placed
-- in what reads, with extents that are apart and within the file; so are the bundles that its job has made.
pub record IsPrepared (f : Feed) (s' : State) (l' : Placing) (made' : List Extent) (seen : List ℕ) : Type 0 where
  pub fronts : List (Header × List Item)
  pub good : IsGood f s' fronts
  pub placed : HasPlaced s'.durable l' seen
  pub apart : IsTrue (are_apart l'.manifest.limit (extents_of l'))
  pub within : IsTrue (are_within seen (extents_of l' ++ made'))
  pub job : MadeStand s'.job s' made' seen
  pub made_apart : IsTrue (are_apart s'.durable.limit made')

-- an image of the session before or of the one after
abbrev pub IsRootedOnEither : Feed → State → Placing → List Extent → State → Placing → List Extent → List ℕ → Type 0
IsRootedOnEither f s l made s' l' made' image = IsRooted f s l made image ⊎ IsRooted f s' l' made' image

-- Good is sound, and a commit goes from the one session to the other.
pub record CommitLaws : Type 0 where
  -- an image that holds a good session's part within the file is sound
  pub sound : (f : Feed) (s : State) (fs : List (Header × List Item)) (l : Placing) (image : List ℕ) → IsGood f s fs → HoldsAt image s.durable l → IsTrue (are_within image (extents_of l)) → IsSound image f
  -- a manifest may stand where the one that was prepared does
  pub may_stand : (f : Feed) (s : State) (l : Placing) (made : List Extent) (seen : List ℕ) → IsPrepared f s l made seen → (1024 ≤ l.root.place) × (0 < l.root.length)
  -- so once the root counts over what was prepared the session stands there
  pub stands : (f : Feed) (s : State) (l : Placing) (made : List Extent) (image : List ℕ) → IsPrepared f s l made image → HasRoot l.root image → IsRooted f s l made image
  -- also where the other slot was written since
  pub committed : (f : Feed) (s : State) (l : Placing) (made : List Extent) (seen image : List ℕ) → IsPrepared f s l made seen → StaysOutside (slot_place l.root.slot) 512 seen image → HasRoot l.root image
      → IsRooted f s l made image
  -- at a moment of the root's commit
  pub either : (f : Feed) (s s' : State) (l l' : Placing) (made made' : List Extent) (seen a image : List ℕ) → IsPrepared f s' l' made' seen → IsTrue (are_apart s.durable.limit made) → IsRooted f s l made a
      → StaysOutside (slot_place (1 - l.root.slot)) 512 a image → HasRoot l.root image ⊎ HasCommitted l'.root seen image → IsRootedOnEither f s l made s' l' made' image
  -- which is sound, and has the part of before or of after
  pub leaves_either : (f : Feed) (x y : Session) (l l' : Placing) (made made' : List Extent) (image : List ℕ) → IsRootedOnEither f x.state l made y.state l' made' image → LeavesEither f x y image
  -- For the session that a failed write breaks each image is honest. Where the root that counted counts in every image, no image has the part of
  -- after, and nothing of it is placed; where what was prepared stands in every image, all of that part stands there.
  pub broken_before : (f : Feed) (s s' : State) (l : Placing) (made : List Extent) (a image : List ℕ) → IsTrue (are_apart s.durable.limit made) → IsRooted f s l made a → StaysOutside (slot_place (1 - l.root.slot)) 512 a image → HasRoot l.root image
      → IsHonest f (placed_at (broken_by s' s) l made) image
  pub broken_after : (f : Feed) (s s' : State) (l l' : Placing) (made made' : List Extent) (seen a image : List ℕ) → IsPrepared f s' l' made' seen → IsTrue (are_apart s.durable.limit made) → IsRooted f s l made a → l'.root.slot ≡ 1 - l.root.slot
      → StaysOutside (slot_place (1 - l.root.slot)) 512 a image → StaysOutside (slot_place (1 - l.root.slot)) 512 seen image → HasRoot l.root image ⊎ HasRoot l'.root image → IsHonest f (broken_at s' s l l' made) image
