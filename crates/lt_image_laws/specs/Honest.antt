-- Why a session needs its root beside what is honest: an honest image may have its root elsewhere.
use Rattle.std.specs.Prelude.{List, [], length, ℕ, ◌+◌, ◌≡◌, ◌≤◌}
use Rattle.lt_world.specs.Disk.{StaysOutside, bytes_in}
use Rattle.lt_world.specs.Feed.{Feed}
use Rattle.lt_terms.specs.Log.{Header}
use Rattle.lt_machine.specs.Machine.{fresh, opened}
use Rattle.lt_world.specs.Slots.{HasRoot}
use Rattle.lt_machine.specs.Outside.{BelongsTo, IsHonest}
use Rattle.lt_machine.specs.Sound.{Memory}
use Rattle.lt_machine.specs.Sound.{IsSound}
use Rattle.lt_storage.specs.Store.{IsLawfulPart, IsManifest, Manifest, bare_manifest, manifest_bytes}
use Rattle.lt_root.specs.Roots.{first_root}
use Rattle.lt_image_laws.specs.Bytes.{IsBeside, extent_at}
use Rattle.lt_image_laws.specs.Fresh.{HasFresh, fresh_length, fresh_placing}
use Rattle.lt_image_laws.specs.Standing.{live_of, placed_at}

-- where a second manifest stands, right behind the first
abbrev pub second_place : ℕ → List Header → ℕ
second_place most hs = 1024 + fresh_length most hs

-- the fresh manifest stands twice, and the second one is that which counts
pub record CountsSecond (most : ℕ) (hs : List Header) (image : List ℕ) : Type 0 where
  pub first : HasFresh most hs image
  pub second : bytes_in image (extent_at (second_place most hs) (fresh_length most hs)) ≡ manifest_bytes (bare_manifest (fresh most hs))
  pub within : second_place most hs + fresh_length most hs ≤ length image
  pub root : HasRoot (first_root (second_place most hs) (fresh_length most hs)) image

pub record HonestAlone : Type 0 where
  -- there is such an image
  pub there_is : (most : ℕ) (hs : List Header) → IsLawfulPart (fresh most hs) → (image : List ℕ) × CountsSecond most hs image
  -- such an image is honest for a session that is placed by the first one
  pub honest : (f : Feed) (most : ℕ) (hs : List Header) (mem : Memory) (image : List ℕ) → BelongsTo f (opened (fresh most hs) hs) mem → CountsSecond most hs image → IsHonest f (placed_at (opened (fresh most hs) hs) (fresh_placing most hs) []) image
  -- a write over the second one is apart from all that is live
  pub beside : (most : ℕ) (hs : List Header) → IsBeside (second_place most hs) (fresh_length most hs) (live_of (fresh_placing most hs) [])
  -- and leaves no sound image, where it leaves no manifest
  pub lost : (f : Feed) (most : ℕ) (hs : List Header) (a b : List ℕ) → CountsSecond most hs a → StaysOutside (second_place most hs) (fresh_length most hs) a b
      → ((m : Manifest) → IsManifest m (bytes_in b (extent_at (second_place most hs) (fresh_length most hs))) → ⊥) → IsSound b f → ⊥
