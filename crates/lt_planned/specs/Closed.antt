-- Closed streams: which streams of a feed have a part in its source.
use Rattle.std.specs.Prelude.{Contains, IsTrue, List, None, false, map, ℕ, ◌+◌, ◌<◌, ◌≡◌, ◌≤◌}
use Rattle.std.specs.List.{AllByRecursion}
use Rattle.lt_terms.specs.Log.{Header, Item, close_item}
use Rattle.lt_terms.specs.Value.{rises_strictly}
use Rattle.lt_world.specs.Feed.{Feed}
use Rattle.lt_tables.specs.Fair.{HasHeader, IsPrefix, is_closed}
use Rattle.lt_tables.specs.Query.{places_from}
use Rattle.lt_tables.specs.Schema.{Catalogue}
use Rattle.lt_machine.specs.Sound.{AreTiling, Fronts}

-- the streams from 0 up to the first whose header has no high bound
abbrev pub Initial : Feed → List Header → Type 0
Initial feed hs = AllByRecursion (λ h. HasHeader feed h.stream h × (h.predecessor ≡ None)) hs × AreTiling hs × (map (λ h. h.stream) hs ≡ places_from 0 hs)

-- a stream is joined where it is initial, or a successor of a close in the front of a joined stream
pub data IsJoined (feed : Feed) (cat : Catalogue) (hs : List Header) : Header → List Item → Type 0 where
  is_initial : (h : Header) (items : List Item) → Contains hs h → IsPrefix feed cat h items → IsJoined feed cat hs h items
  succeeds : (h g : Header) (items more : List Item) (first count : ℕ) → IsJoined feed cat hs h items → Contains items (close_item first count) → first ≤ g.stream → g.stream < first + count
      → HasHeader feed g.stream g → IsPrefix feed cat g more → IsJoined feed cat hs g more

-- the fronts of the joined streams, by rising number: the initial ones, and those that closes bring
pub record JoinedFronts (feed : Feed) (cat : Catalogue) (fs : List (Header × List Item)) : Type 0 where
  pub initial : List Header
  pub are_initial : Initial feed initial
  pub rising : IsTrue (rises_strictly (map (λ f. f.0.stream) fs))
  pub each : AllByRecursion (λ f. IsJoined feed cat initial f.0 f.1) fs
  pub all : (h : Header) (items : List Item) → IsJoined feed cat initial h items → Contains fs (h, items)

-- Where no stream is closed, the joined streams are the initial ones.
abbrev pub NoneClosed : Type 0
NoneClosed = (feed : Feed) (cat : Catalogue) (fs : List (Header × List Item)) → Fronts feed cat fs → AllByRecursion (λ f. (f.0.predecessor ≡ None) × (is_closed f.1 ≡ false)) fs → JoinedFronts feed cat fs
