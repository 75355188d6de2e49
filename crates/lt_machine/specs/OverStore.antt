-- The program over a store file: what it stands on, and that it reads all words and lines.
use Rattle.std.specs.Prelude.{Bool, Contains, IfSome, IsSome, IsTrue, List, None, Option, Some, [], flat_map, map, nat_le, not, ℕ, ◌&&◌, ◌<◌, ◌==◌, ◌≡◌, ◌⊎◌}
use Rattle.std.specs.List.{AllByRecursion}
use Rattle.lt_terms.specs.Log.{Header}
use Rattle.lt_world.specs.Disk.{DiskState, LeavesNow, Rose, bytes_in}
use Rattle.lt_world.specs.Feed.{Feed}
use Rattle.lt_world.specs.Slots.{HasNoStore}
use Rattle.lt_tables.specs.Query.{Command}
use Rattle.lt_tables.specs.Pump.{Attaches, IsMismatch}
use Rattle.lt_words.specs.Script.{line_of}
use Rattle.lt_storage.specs.Store.{Durable, HasPlaced, HoldsAt, IsHurt, Placing, are_within, bundle_extents, durable_of, extents_of}
use Rattle.lt_machine.specs.Sound.{IsSound, Session}
use Rattle.lt_machine.specs.Run.{Counts, IsDamagedAgain, looks_at_bundles, words_of}
use Rattle.lt_machine.specs.Outside.{AreBesides, Causes, IsOutOfRoom, LacksRoom, LeavesSession, StandsOn, World, caused_by, live_extents, piece_lengths}
use Rattle.lt_machine.specs.Machine.{Answer, Does, State, is_reopen, opened}
use Rattle.lt_machine.specs.Program.{IsOpened, KeepsLows, OpenCaused, Program, device_causes}
use Rattle.lt_machine.specs.Step.{Base}

-- ---- what the disk has of a session

-- each bundle that is kept in memory is one of the session's, and reads so
abbrev pub KeepsBundles : Session → List ℕ → Type 0
KeepsBundles x image = AllByRecursion (λ k. Contains (bundle_extents x.placing.indexes) k.0 × (bytes_in image k.0 ≡ k.1)) x.cached

-- each image that a crash may leave has all bytes that the session's part names, within the file
abbrev pub HasAll : DiskState → Session → Type 0
HasAll disk x = IsSome disk.told × LeavesNow disk (λ image. HasPlaced x.state.durable x.placing image × IsTrue (are_within image (extents_of x.placing)) × KeepsBundles x image)

-- ---- causes of a command's faults

-- In a session that serves its feed: a count rose; a piece finds no room beside what is live. No damage shows, and the headers fit.
abbrev pub store_causes : Counts → Counts → Feed → Session → Command → Causes
store_causes n m f x c = record { feed = Rose n.feed m.feed; disk = Rose n.disk m.disk; out = Rose n.out m.out; full = LacksRoom f x c; hurt = λ e. ⊥; mismatch = λ k. ⊥ }

-- A piece of a command finds no room beside what is live, with the changes in memory as its source. Of a command that looks at bundles
-- this is said where the disk has them.
abbrev pub LacksRoomIn : World → Session → Command → ℕ → ℕ → Type 0
LacksRoomIn w x c need room = (IsTrue (looks_at_bundles c) → HasAll w.disk x)
    → (a : Answer) × (s' : State) × ((f : Feed) → Does f (flat_map (λ cs. cs) x.memory) x.state c a s') × IsOutOfRoom x.state.durable.limit (live_extents x) (piece_lengths c x.state s') need room

-- In any session: an extent that its durable part names, or at a reopening the image, may show damage, and the headers may not fit.
abbrev pub any_store_causes : World → World → Session → Command → Causes
any_store_causes w w' x c = record {
  feed = Rose w.feed.faults w'.feed.faults;
  disk = Rose w.disk.faults w'.disk.faults;
  out = Rose w.rows.faults w'.rows.faults;
  full = λ need room. (room < need) × LacksRoomIn w x c need room;
  hurt = λ e. IfSome w'.disk.told (λ image. IsHurt image x.state.durable.catalogue x.placing e ⊎ (IsTrue (is_reopen c) × IsDamagedAgain image e));
  mismatch = λ n. IfSome w'.feed.told (λ f. IfSome w'.disk.told (λ image. (lows : List (List ℕ)) × KeepsLows image lows × IsMismatch f (Some lows) n));
}

-- ---- what it stands on

-- A session begins as the image is read, without its bundles: where that holds a durable part, it is this one. Each stream stands at its
-- greatest usable restart point, and nothing is in memory.
pub record BeginsFrom (image : List ℕ) (told : Option Feed) (x : Session) : Type 0 where
  pub read : IsOpened image x.placing
  pub durable : x.state.durable ≡ durable_of x.placing x.state.durable.shelf
  pub whole : (d : Durable) (l : Placing) → HoldsAt image d l → (x.state.durable ≡ d) × (x.placing ≡ l)
  pub headers : List Header
  pub attaches : IfSome told (λ f. Attaches f (Some (map (λ s. s.low) x.state.durable.streams)) headers)
  pub state : x.state ≡ opened x.state.durable headers
  pub memory : x.memory ≡ map (λ p. []) x.state.durable.parts
  pub failed : x.failed ≡ None
  pub made : x.made ≡ []
  pub cached : x.cached ≡ []

-- What a disk is for a session that serves a feed.
pub record RestsOnDisk (disk : DiskState) (f : Feed) (x : Session) : Type 0 where
  -- it exposes its bytes
  pub told : IsSome disk.told
  -- what is live besides the session's own extents
  pub besides : AreBesides x
  -- the session stands on every image that a crash may leave
  pub stands : LeavesNow disk (StandsOn f x)
  -- and what it keeps of bundles reads so there
  pub cached : LeavesNow disk (KeepsBundles x)

abbrev pub on_store : Base
on_store = record {
  sound = λ disk f. IsSome disk.told × LeavesNow disk (λ image. HasNoStore image ⊎ IsSound image f);
  opens = λ image told x. IfSome image (λ i. BeginsFrom i told x);
  stops = λ image told n m e. OpenCaused (device_causes n m) image told e;
  cause = λ n m f x c r. caused_by (store_causes n m f x c) r;
  any_cause = λ w w' x c r. caused_by (any_store_causes w w' x c) r;
  rests = RestsOnDisk;
  has = HasAll;
  leaves = LeavesSession;
  seen = λ left f x. AreBesides x × ((image : List ℕ) × left image × StandsOn f x image);
}

-- the statuses that it ends with
abbrev pub is_store_status : ℕ → Bool
is_store_status n = nat_le n 11 && not (n == 1)

-- The program over a store.
abbrev pub over_store : Program
over_store = record { base = on_store; words = words_of; reads = line_of; ends_with = is_store_status }
