-- The gaps between extents that stand in order of their places.
use Rattle.std.specs.Prelude.{Contains, IsTrue, List, ℕ, ◌<◌, ◌≡◌, ◌≤◌, ◌⊎◌}
use Rattle.lt_terms.specs.declared.Extent.{Extent}
use Rattle.lt_world.specs.Extents.{end_of, is_gap}
use Rattle.lt_space.specs.Order.{AreInOrder}
use Rattle.lt_space.specs.declared.gaps.Passed.{Passed}

-- no extent stands on both sides of where the search came, and each gap that begins before has at most `longest`
pub record HasPassed (limit : ℕ) (taken : List Extent) (p : Passed) : Type 0 where
  pub behind_slots : 1024 ≤ p.end
  pub sides : (e : Extent) → Contains taken e → (end_of e ≤ p.end) ⊎ (p.end ≤ e.place)
  pub gaps : (e : Extent) → IsTrue (is_gap limit taken e) → e.place < p.end → e.length ≤ p.longest

-- a search came to the end of a taken extent that stands before a place and was passed, or only to the first one
pub record IsBackTo (taken : List Extent) (place : ℕ) (old new : Passed) : Type 0 where
  pub end : (new.end ≡ 1024) ⊎ ((e : Extent) × Contains taken e × (e.place < place) × (e.place < old.end) × (new.end ≡ end_of e))
  pub longest : new.longest ≡ old.longest

-- a gap of a length begins there, and none begins before
pub record IsFirstGap (limit : ℕ) (taken : List Extent) (len place : ℕ) : Type 0 where
  pub free : IsTrue (is_gap limit taken (record { place = place; length = len }))
  pub lowest : (p : ℕ) → IsTrue (is_gap limit taken (record { place = p; length = len })) → place ≤ p

-- each gap is shorter
abbrev pub HasNoGap : ℕ → List Extent → ℕ → Type 0
HasNoGap limit taken len = (e : Extent) → IsTrue (is_gap limit taken e) → e.length < len

-- where it is more than nothing some gap is as long
abbrev pub IsReached : ℕ → List Extent → ℕ → Type 0
IsReached limit taken room = (0 < room) → (e : Extent) × (e.length ≡ room) × IsTrue (is_gap limit taken e)

-- no gap is longer, and some gap is as long
pub record IsLongestGap (limit : ℕ) (taken : List Extent) (room : ℕ) : Type 0 where
  pub longest : (e : Extent) → IsTrue (is_gap limit taken e) → e.length ≤ room
  pub reached : IsReached limit taken room

-- the taken extents are in order, and what was passed of them is known
pub record IsKept (limit : ℕ) (taken : List Extent) (p : Passed) : Type 0 where
  pub order : AreInOrder 1024 limit taken
  pub passed : HasPassed limit taken p
