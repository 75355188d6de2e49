-- What an opening reads of an image, when it finds damage, and that none shows on a sound image.
use Rattle.std.specs.Prelude.{Contains, IsTrue, List, Some, [], map, true, ℕ, ◌++◌, ◌<◌, ◌∷◌, ◌≡◌}
use Rattle.lt_terms.specs.declared.Extent.{Extent}
use Rattle.lt_terms.specs.declared.Root.{Root}
use Rattle.lt_world.specs.Disk.{bytes_in}
use Rattle.lt_world.specs.Feed.{AreShort, Feed}
use Rattle.lt_terms.specs.Log.{Header, Item}
use Rattle.lt_machine.specs.Machine.{opened}
use Rattle.lt_machine.specs.Program.{IsOpened, KeepsLows, ReadsAll}
use Rattle.lt_world.specs.Slots.{IsDamagedSlot}
use Rattle.lt_world.specs.Extents.{IsMisplaced, end_of}
use Rattle.lt_tables.specs.Pump.{Attaches, IsMismatch}
use Rattle.lt_machine.specs.Run.{IsBadBundle, IsDamaged, IsDamagedAgain, is_known_index}
use Rattle.lt_machine.specs.Sound.{Fronts, IsGood, IsSound, SoundPartOf}
use Rattle.lt_world.specs.Slots.{CountsAsRoot, HasNoStore}
use Rattle.lt_storage.specs.Store.{Durable, HasPlaced, HoldsAt, IsHurt, IsIndex, IsManifest, Manifest, Placing, TableIndex, are_within, bundle_extents, extents_of, root_extent}
use Rattle.lt_image_laws.specs.Standing.{IsRooted}

-- a sound image's durable part, at a placing
pub record SoundlyHolds (f : Feed) (image : List ℕ) (d : Durable) (l : Placing) (fs : List (Header × List Item)) : Type 0 where
  pub holds : HoldsAt image d l
  pub within : IsTrue (are_within image (extents_of l))
  pub fronts : Fronts f d.catalogue fs
  pub sound : SoundPartOf d fs

-- what an opened session is: good, and it stands on the image
pub record OpensOn (f : Feed) (image : List ℕ) (l : Placing) (hs : List Header) : Type 0 where
  pub durable : Durable
  pub fronts : List (Header × List Item)
  pub holds : HoldsAt image durable l
  pub good : IsGood f (opened durable hs) fronts
  pub stands : IsRooted f (opened durable hs) l [] image

-- Opened is held: what an opening reads is where the part stands that the image holds.
pub record OpenedIsHeld : Type 0 where
  pub one : (image : List ℕ) (l k : Placing) → IsOpened image l → IsOpened image k → l ≡ k
  pub reads : (image : List ℕ) (d : Durable) (l : Placing) → HoldsAt image d l → IsOpened image l
  pub held : (image : List ℕ) (d : Durable) (k l : Placing) → HoldsAt image d k → IsOpened image l → HoldsAt image d l
  pub sound : (f : Feed) (image : List ℕ) (l : Placing) → IsSound image f → IsOpened image l → (d : Durable) × (fs : List (Header × List Item)) × SoundlyHolds f image d l fs
  -- over a sound image the opened session is good, and stands there, where the headers fit the kept low bounds
  pub opens : (f : Feed) (image : List ℕ) (l : Placing) (hs : List Header) → AreShort f → IsSound image f → IsOpened image l → Attaches f (Some (map (λ s. s.low) l.manifest.streams)) hs → OpensOn f image l hs

-- the extents that a manifest behind a root and its indexes name
abbrev pub named_extents : Root → Manifest → List (List TableIndex) → List Extent
named_extents r m is = root_extent r ∷ (map (λ d. d.1) m.deltas ++ bundle_extents is)

abbrev pub HasManifest : List ℕ → Root → Manifest → Type 0
HasManifest image r m = CountsAsRoot image r × IsManifest m (bytes_in image (root_extent r))

-- Each way in which an opening's reading fails is damage, of the extent that it names.
pub record DamageShows : Type 0 where
  -- a slot's body, or two slots of one generation
  pub slot : (image : List ℕ) (e : Extent) → IsDamagedSlot image e → IsDamaged image e
  -- no manifest stands there that ends within its own limit
  pub manifest : (image : List ℕ) (r : Root) → CountsAsRoot image r → ((m : Manifest) → IsManifest m (bytes_in image (root_extent r)) → m.limit < end_of (root_extent r)) → IsDamaged image (root_extent r)
  -- an index is not of the grammar, or names a table or layout that the catalogue does not know
  pub index : (image : List ℕ) (r : Root) (m : Manifest) (d : ℕ × Extent) → HasManifest image r m → Contains m.deltas d → ((i : List TableIndex) → IsIndex i (bytes_in image d.1) → is_known_index m.catalogue i ≡ true → ⊥)
      → IsDamaged image d.1
  -- or it goes on past the limit
  pub beyond : (image : List ℕ) (r : Root) (m : Manifest) (d : ℕ × Extent) → HasManifest image r m → Contains m.deltas d → m.limit < end_of d.1 → IsDamaged image d.1
  -- an extent meets another one, the slots or the limit
  pub extent : (image : List ℕ) (r : Root) (m : Manifest) (is : List (List TableIndex)) (e : Extent) → HasManifest image r m → ReadsAll image m.catalogue m.deltas is → IsMisplaced m.limit (named_extents r m is) e → IsDamaged image e
  -- of what was read no extent is empty, so each that stands at the place of a misplaced one is misplaced
  pub at_place : (image : List ℕ) (r : Root) (m : Manifest) (is : List (List TableIndex)) (e x : Extent) → HasManifest image r m → ReadsAll image m.catalogue m.deltas is → IsMisplaced m.limit (named_extents r m is) e
      → Contains (named_extents r m is) x → x.place ≡ e.place → IsMisplaced m.limit (named_extents r m is) x
  -- a bundle that an index names, which a later read finds
  pub bundle : (image : List ℕ) (r : Root) (m : Manifest) (d : ℕ × Extent) (i : List TableIndex) (e : Extent) → HasManifest image r m → Contains m.deltas d → IsIndex i (bytes_in image d.1) → IsBadBundle image m.catalogue i e → IsDamaged image e

-- On a sound image an opening reads all, and neither damage nor a mismatch shows.
pub record SoundShowsNone : Type 0 where
  pub opens : (f : Feed) (image : List ℕ) → IsSound image f → (l : Placing) × IsOpened image l
  pub a_store : (f : Feed) (image : List ℕ) → IsSound image f → HasNoStore image → ⊥
  pub undamaged : (f : Feed) (image : List ℕ) (e : Extent) → IsSound image f → IsDamagedAgain image e → ⊥
  pub unhurt : (d : Durable) (l : Placing) (image : List ℕ) (e : Extent) → HasPlaced d l image → IsHurt image d.catalogue l e → ⊥
  -- the kept low bounds are those of the feed's streams
  pub fits : (f : Feed) (image : List ℕ) (lows : List (List ℕ)) (n : ℕ) → IsSound image f → KeepsLows image lows → IsMismatch f (Some lows) n → ⊥
