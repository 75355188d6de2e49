-- A fresh store: what is placed in it, and what an image is once its root was made.
use Rattle.std.specs.Prelude.{IsTrue, List, [], length, ℕ, ◌+◌, ◌≡◌, ◌≤◌}
use Rattle.lt_world.specs.Disk.{StaysOutside, bytes_in, with_bytes}
use Rattle.lt_world.specs.Feed.{Feed}
use Rattle.lt_terms.specs.Log.{Header}
use Rattle.lt_machine.specs.Machine.{fresh, opened}
use Rattle.lt_world.specs.Slots.{HasRoot}
use Rattle.lt_machine.specs.Outside.{BelongsTo}
use Rattle.lt_machine.specs.Sound.{Memory}
use Rattle.lt_machine.specs.Program.{IsOpened}
use Rattle.lt_storage.specs.Store.{HoldsAt, IsLawfulPart, Placing, are_within, bare_manifest, extents_of, manifest_bytes, manifest_length}
use Rattle.lt_root.specs.Roots.{first_root}
use Rattle.lt_image_laws.specs.Bytes.{extent_at}
use Rattle.lt_image_laws.specs.Standing.{IsRooted}

-- the manifest stands at place 1,024, behind the slots
abbrev pub fresh_length : ℕ → List Header → ℕ
fresh_length most hs = manifest_length (fresh most hs)

abbrev pub fresh_placing : ℕ → List Header → Placing
fresh_placing most hs = record { root = first_root 1024 (fresh_length most hs); manifest = bare_manifest (fresh most hs); indexes = [] }

-- its bytes stand there, within the file
pub record HasFresh (most : ℕ) (hs : List Header) (image : List ℕ) : Type 0 where
  pub bytes : bytes_in image (extent_at 1024 (fresh_length most hs)) ≡ manifest_bytes (bare_manifest (fresh most hs))
  pub within : 1024 + fresh_length most hs ≤ length image

-- A fresh store holds the fresh part, and a session that is opened over it stands there.
pub record FreshHolds : Type 0 where
  -- under each limit there is room for its manifest
  pub fits : (most : ℕ) (hs : List Header) → IsLawfulPart (fresh most hs) → 1024 + fresh_length most hs ≤ most
  -- once it is written it stands
  pub written : (most : ℕ) (hs : List Header) (image : List ℕ) → HasFresh most hs (with_bytes image 1024 (manifest_bytes (bare_manifest (fresh most hs))))
  -- what is written below place 1,024 does not change it
  pub stays : (most : ℕ) (hs : List Header) (a b : List ℕ) → HasFresh most hs a → StaysOutside 0 1024 a b → HasFresh most hs b
  pub held : (most : ℕ) (hs : List Header) (image : List ℕ) → IsLawfulPart (fresh most hs) → HasFresh most hs image → HasRoot (first_root 1024 (fresh_length most hs)) image
      → HoldsAt image (fresh most hs) (fresh_placing most hs) × IsTrue (are_within image (extents_of (fresh_placing most hs)))
  -- for each feed to which the opened session belongs the image is sound, and the session stands on it
  pub stands : (f : Feed) (most : ℕ) (hs : List Header) (mem : Memory) (image : List ℕ) → BelongsTo f (opened (fresh most hs) hs) mem → HasFresh most hs image → HasRoot (first_root 1024 (fresh_length most hs)) image
      → IsRooted f (opened (fresh most hs) hs) (fresh_placing most hs) [] image
  -- and an opening reads it
  pub reads : (most : ℕ) (hs : List Header) (image : List ℕ) → IsLawfulPart (fresh most hs) → HasFresh most hs image → HasRoot (first_root 1024 (fresh_length most hs)) image → IsOpened image (fresh_placing most hs)
