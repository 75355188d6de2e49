-- Extents: which are apart, and the lowest gap beside them.
use Rattle.std.specs.Prelude.{Bool, Contains, IsTrue, List, Some, [], false, length, nat_le, slice_get, true, ℕ, ◌&&◌, ◌+◌, ◌<◌, ◌||◌, ◌∷◌, ◌≡◌, ◌≢◌, ◌≤◌, ◌⊎◌}
use Rattle.std.specs.List.{list_all}
use Rattle.lt_terms.specs.declared.Extent.{Extent}

-- ---- extents

abbrev pub end_of : Extent → ℕ
end_of e = e.place + e.length

abbrev pub apart : Extent → Extent → Bool
apart a b = nat_le (end_of a) b.place || nat_le (end_of b) a.place

-- extents from place 1,024 on and within a limit, no two of which meet
abbrev pub are_apart : ℕ → List Extent → Bool
are_apart limit [] = true
are_apart limit (e ∷ es) = nat_le 1024 e.place && nat_le (end_of e) limit && list_all (apart e) es && are_apart limit es

-- an extent that is free: within the limit and apart from those that are live
abbrev pub is_gap : ℕ → List Extent → Extent → Bool
is_gap limit live e = nat_le 1024 e.place && nat_le (end_of e) limit && list_all (apart e) live

-- the lowest gap of a length
pub record IsLowestGap (limit : ℕ) (live : List Extent) (len : ℕ) (e : Extent) : Type 0 where
  pub size : e.length ≡ len
  pub free : IsTrue (is_gap limit live e)
  pub lowest : (place : ℕ) → IsTrue (is_gap limit live (record { place = place; length = len })) → e.place ≤ place

-- no gap of the length is left, and the longest has `room`
pub record IsFull (limit : ℕ) (live : List Extent) (need room : ℕ) : Type 0 where
  pub short : room < need
  pub longest : (e : Extent) → IsTrue (is_gap limit live e) → e.length ≤ room
  pub reached : (0 < room) → (e : Extent) × (e.length ≡ room) × IsTrue (is_gap limit live e)

-- ---- when an opening finds damage

-- an extent that a manifest or an index names: it stands below place 1,024 or beyond the limit, or meets another one
abbrev pub MeetsAnother : List Extent → Extent → Type 0
MeetsAnother all e = (n m : ℕ) × (f : Extent) × (n ≢ m) × (slice_get all n ≡ Some e) × (slice_get all m ≡ Some f) × (apart e f ≡ false)

abbrev pub IsMisplaced : ℕ → List Extent → Extent → Type 0
IsMisplaced most all e = Contains all e × ((are_apart most (e ∷ []) ≡ false) ⊎ MeetsAnother all e)
