-- What a session stands on, and what a write beside it, or in the slot that does not count, leaves of that.
use Rattle.std.specs.Prelude.{Contains, IfSome, IsSome, IsTrue, List, None, [], false, length, ℕ, ◌++◌, ◌-◌, ◌≡◌, ◌≤◌}
use Rattle.lt_terms.specs.declared.Extent.{Extent}
use Rattle.lt_world.specs.Disk.{StaysOutside}
use Rattle.lt_world.specs.Feed.{Feed}
use Rattle.lt_machine.specs.Machine.{State, is_broken}
use Rattle.lt_world.specs.Slots.{HasRoot}
use Rattle.lt_machine.specs.Outside.{IsHonest, StandsOn}
use Rattle.lt_machine.specs.Sound.{Session}
use Rattle.lt_world.specs.Extents.{are_apart, is_gap}
use Rattle.lt_world.specs.Slots.{slot_place}
use Rattle.lt_storage.specs.Store.{HoldsAt, Placing, extents_of}
use Rattle.lt_image_laws.specs.Bytes.{AllRead, IsBeside}

-- a session that is placed so, with no part of a failed command
abbrev pub placed_at : State → Placing → List Extent → Session
placed_at s l made = record { state = s; memory = []; placing = l; failed = None; made = made; cached = [] }

-- An image on which a session stands that is not broken: its root counts there, and the image is honest.
pub record IsRooted (f : Feed) (s : State) (l : Placing) (made : List Extent) (image : List ℕ) : Type 0 where
  pub root : HasRoot l.root image
  pub honest : IsHonest f (placed_at s l made) image

-- all that is live for a session that is not broken
abbrev pub live_of : Placing → List Extent → List Extent
live_of l made = extents_of l ++ made

-- Honest stays.
pub record HonestStays : Type 0 where
  -- it is what a session that is not broken stands on
  pub rooted : (f : Feed) (x : Session) (image : List ℕ) → is_broken x.state ≡ false → IfSome x.failed (λ l. IsSome x.state.broken) → StandsOn f x image → IsRooted f x.state x.placing x.made image
  pub stands : (f : Feed) (x : Session) (image : List ℕ) → x.failed ≡ None → IsRooted f x.state x.placing x.made image → StandsOn f x image
  -- such an image holds the session's part at its placing, so no two extents of that meet
  pub held : (f : Feed) (s : State) (l : Placing) (made : List Extent) (image : List ℕ) → IsRooted f s l made image → HoldsAt image s.durable l
  pub generation : (f : Feed) (s : State) (l : Placing) (made : List Extent) (image : List ℕ) → IsRooted f s l made image → l.root.generation ≡ s.durable.generation
  pub limit : (f : Feed) (s : State) (l : Placing) (made : List Extent) (image : List ℕ) → IsRooted f s l made image → l.manifest.limit ≡ s.durable.limit
  -- where all that is live reads as before, and the root counts
  pub alike : (f : Feed) (s : State) (l : Placing) (made : List Extent) (a b : List ℕ) → IsRooted f s l made a → AllRead a b (live_of l made) → length a ≤ length b → HasRoot l.root b → IsRooted f s l made b
  -- a write that is apart from all that is live, and from the slots
  pub beside : (f : Feed) (s : State) (l : Placing) (made : List Extent) (a b : List ℕ) (place len : ℕ) → IsRooted f s l made a → StaysOutside place len a b → 1024 ≤ place → IsBeside place len (live_of l made)
      → IsRooted f s l made b
  -- a write to a gap beside extents of which all live ones are some
  pub in_gap : (f : Feed) (s : State) (l : Placing) (made live : List Extent) (most : ℕ) (e : Extent) (a b : List ℕ) → IsRooted f s l made a → IsTrue (is_gap most live e)
      → ((x : Extent) → Contains (live_of l made) x → Contains live x) → StaysOutside e.place e.length a b → IsRooted f s l made b
  -- a write to the slot that does not count, while the session's root counts
  pub in_slot : (f : Feed) (s : State) (l : Placing) (made : List Extent) (a b : List ℕ) → IsRooted f s l made a → IsTrue (are_apart s.durable.limit made) → StaysOutside (slot_place (1 - l.root.slot)) 512 a b
      → HasRoot l.root b → IsRooted f s l made b
