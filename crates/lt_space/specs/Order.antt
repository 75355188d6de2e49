-- Extents in order of their places.
use Rattle.std.specs.Prelude.{Bool, List, [], false, length, nat_lt, slice_index_or, ⊤, ℕ, ◌&&◌, ◌<◌, ◌==◌, ◌||◌, ◌∷◌, ◌≡◌, ◌≤◌}
use Rattle.lt_terms.specs.declared.Extent.{Extent}
use Rattle.lt_world.specs.Extents.{end_of}

-- by place, and those at one place by length, so that one of no bytes stands before what begins there
abbrev pub stands_before : Extent → Extent → Bool
stands_before a b = nat_lt a.place b.place || (a.place == b.place && nat_lt a.length b.length)

abbrev pub AreSorted : List Extent → Type 0
AreSorted xs = (i j : ℕ) (d : Extent) → i ≤ j → j < length xs → stands_before (slice_index_or xs j d) (slice_index_or xs i d) ≡ false

-- each begins where the one before it ends, or behind; the first at a place or behind it, and none goes on past the limit
abbrev pub AreInOrder : ℕ → ℕ → List Extent → Type 0
AreInOrder from limit [] = ⊤
AreInOrder from limit (e ∷ es) = (from ≤ e.place) × (end_of e ≤ limit) × AreInOrder (end_of e) limit es

-- where the last of them ends
abbrev pub end_after : ℕ → List Extent → ℕ
end_after from [] = from
end_after from (e ∷ es) = end_after (end_of e) es
