-- What of a store file is taken, and why an extent is refused.
use Rattle.std.specs.Prelude.{IsTrue, List, ⊤, ℕ, ◌++◌, ◌∷◌, ◌≡◌, ◌≤◌}
use Rattle.lt_terms.specs.declared.Extent.{Extent}
use Rattle.lt_world.specs.Extents.{IsFull, are_apart}
use Rattle.lt_world.specs.Extents.{IsMisplaced}
use Rattle.lt_space.specs.declared.refusal.SpaceRefusal.{SpaceRefusal}
use Rattle.lt_space.specs.declared.refusal.SpaceRefusal.TheVariants as refusals

-- the limit of the file, and the extents that are taken, by rising place
pub record Extents : Type 0 where
  pub limit : ℕ
  pub taken : List Extent

-- no two of them meet, and none meets the slots or the limit
abbrev pub AreApart : Extents → Type 0
AreApart s = IsTrue (are_apart s.limit s.taken)

-- one more is taken
pub record Takes (e : Extent) (old new : Extents) : Type 0 where
  pub before : List Extent
  pub after : List Extent
  pub were : old.taken ≡ before ++ after
  pub are : new.taken ≡ before ++ e ∷ after
  pub limit : new.limit ≡ old.limit

-- the least place of an extent that meets the slots, the limit or another one
pub record IsOverlap (limit : ℕ) (live : List Extent) (place : ℕ) : Type 0 where
  pub extent : Extent
  pub misplaced : IsMisplaced limit live extent
  pub here : place ≡ extent.place
  pub least : (e : Extent) → IsMisplaced limit live e → place ≤ e.place

-- why extents cannot all be taken; out of memory is always allowed
abbrev pub RefusesAll : ℕ → List Extent → SpaceRefusal → Type 0
RefusesAll limit live (refusals.Overlap place) = IsOverlap limit live place
RefusesAll limit live (refusals.StoreFull need room) = ⊥
RefusesAll limit live refusals.Memory = ⊤

-- why no extent of a length is taken
abbrev pub RefusesOne : Extents → ℕ → SpaceRefusal → Type 0
RefusesOne s len (refusals.Overlap place) = ⊥
RefusesOne s len (refusals.StoreFull need room) = (need ≡ len) × IsFull s.limit s.taken need room
RefusesOne s len refusals.Memory = ⊤
