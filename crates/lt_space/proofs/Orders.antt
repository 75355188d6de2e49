-- Extents in order of their places, apart, and what a gap beside them is.
use Rattle.std.proofs.Common.{Bool, List, [], arith, get_or, inl, inr, length, refl, true, zero, suc, ℕ, ◌++◌, ◌<◌, ◌∷◌, ◌≡◌, ◌≤◌, ◌⊎◌}
use Rattle.std.specs.Prelude.{IsTrue, nat_le, ◌&&◌}
use Rattle.std.specs.List.{list_all}
use Rattle.std.proofs.lemmas.Bool.{and_from, and_parts, le-leb, leb-true, or_cases, or_left}
use Rattle.lt_terms.specs.declared.Extent.{Extent}
use Rattle.lt_world.specs.Extents.{apart, are_apart, end_of, is_gap}
use Rattle.lt_space.specs.Order.{AreInOrder, end_after}

-- ---- parts of what is in order

pub order_parts : (from limit : ℕ) (xs ys : List Extent) → AreInOrder from limit (xs ++ ys) → AreInOrder from limit xs × AreInOrder (end_after from xs) limit ys
order_parts from limit [] ys o = (tt, o)
order_parts from limit (x ∷ xs) ys o = let rest = order_parts (end_of x) limit xs ys o.2 in ((o.0, o.1, rest.0), rest.1)

pub order_joined : (from limit : ℕ) (xs ys : List Extent) → AreInOrder from limit xs → AreInOrder (end_after from xs) limit ys → AreInOrder from limit (xs ++ ys)
order_joined from limit [] ys p q = q
order_joined from limit (x ∷ xs) ys p q = (p.0, p.1, order_joined (end_of x) limit xs ys p.2 q)

-- what begins behind a place begins behind an earlier one
pub order_behind : (from earlier limit : ℕ) (xs : List Extent) → earlier ≤ from → AreInOrder from limit xs → AreInOrder earlier limit xs
order_behind from earlier limit [] le o = tt
order_behind from earlier limit (x ∷ xs) le o = (omega (arith, o.0), o.1, o.2)

pub ends_rise : (from limit : ℕ) (xs : List Extent) → AreInOrder from limit xs → from ≤ end_after from xs
ends_rise from limit [] o = omega arith
ends_rise from limit (x ∷ xs) o = omega (arith, o.0, ends_rise (end_of x) limit xs o.2)

pub end-push : (from : ℕ) (xs : List Extent) (x : Extent) → end_after from (xs ++ x ∷ []) ≡ end_of x
end-push from [] x = refl
end-push from (y ∷ xs) x = end-push (end_of y) xs x

-- ---- what is in order, at places

pub record StandsAt (from limit end : ℕ) (x : Extent) : Type 0 where
  pub behind : from ≤ x.place
  pub within : end_of x ≤ limit
  pub before : end_of x ≤ end

pub order_at : (from limit : ℕ) (xs : List Extent) (i : ℕ) (d : Extent) → AreInOrder from limit xs → i < length xs → StandsAt from limit (end_after from xs) (get_or xs i d)
order_at from limit [] i d o within = absurd (omega (arith, within))
order_at from limit (x ∷ xs) zero d o within = record { behind = o.0; within = o.1; before = ends_rise (end_of x) limit xs o.2 }
order_at from limit (x ∷ xs) (suc i) d o within =
    let at = order_at (end_of x) limit xs i d o.2 (omega (arith, within)) in
    record { behind = omega (arith, o.0, at.behind); within = at.within; before = at.before }

pub order_pair : (from limit : ℕ) (xs : List Extent) (i j : ℕ) (d : Extent) → AreInOrder from limit xs → i < j → j < length xs → end_of (get_or xs i d) ≤ (get_or xs j d).place
order_pair from limit [] i j d o less within = absurd (omega (arith, within))
order_pair from limit (x ∷ xs) zero zero d o less within = absurd (omega (arith, less))
order_pair from limit (x ∷ xs) zero (suc j) d o less within = (order_at (end_of x) limit xs j d o.2 (omega (arith, within))).behind
order_pair from limit (x ∷ xs) (suc i) zero d o less within = absurd (omega (arith, less))
order_pair from limit (x ∷ xs) (suc i) (suc j) d o less within = order_pair (end_of x) limit xs i j d o.2 (omega (arith, less)) (omega (arith, within))

-- ---- apart from those before and from those behind

pub apart_before : (from limit : ℕ) (xs : List Extent) (g : Extent) → AreInOrder from limit xs → end_of g ≤ from → list_all (apart g) xs ≡ true
apart_before from limit [] g o le = refl
apart_before from limit (x ∷ xs) g o le =
    and_from (apart g x) (list_all (apart g) xs)
    (or_left (nat_le (end_of g) x.place) (nat_le (end_of x) g.place) (le-leb (end_of g) x.place (omega (arith, o.0, le))))
    (apart_before (end_of x) limit xs g o.2 (omega (arith, o.0, le)))

-- extents in order are apart
pub apart_in_order : (from limit : ℕ) (xs : List Extent) → 1024 ≤ from → AreInOrder from limit xs → IsTrue (are_apart limit xs)
apart_in_order from limit [] le o = refl
apart_in_order from limit (x ∷ xs) le o =
    and_from (nat_le 1024 x.place && nat_le (end_of x) limit && list_all (apart x) xs) (are_apart limit xs)
    (and_from (nat_le 1024 x.place && nat_le (end_of x) limit) (list_all (apart x) xs)
    (and_from (nat_le 1024 x.place) (nat_le (end_of x) limit) (le-leb 1024 x.place (omega (arith, o.0, le))) (le-leb (end_of x) limit o.1))
    (apart_before (end_of x) limit xs x o.2 (omega arith)))
    (apart_in_order (end_of x) limit xs (omega (arith, o.0, le)) o.2)

-- ---- a gap

pub record IsFree (limit : ℕ) (taken : List Extent) (g : Extent) : Type 0 where
  pub behind_slots : 1024 ≤ g.place
  pub below_limit : end_of g ≤ limit
  pub apart_from : list_all (apart g) taken ≡ true

pub free_gap : (limit : ℕ) (taken : List Extent) (g : Extent) → IsTrue (is_gap limit taken g) → IsFree limit taken g
free_gap limit taken g h =
    let a = and_parts _ (list_all (apart g) taken) h in
    let b = and_parts (nat_le 1024 g.place) (nat_le (end_of g) limit) a.0 in
    record { behind_slots = leb-true 1024 g.place b.0; below_limit = leb-true (end_of g) limit b.1; apart_from = a.1 }

pub gap_free : (limit : ℕ) (taken : List Extent) (g : Extent) → IsFree limit taken g → IsTrue (is_gap limit taken g)
gap_free limit taken g f =
    and_from (nat_le 1024 g.place && nat_le (end_of g) limit) (list_all (apart g) taken)
    (and_from (nat_le 1024 g.place) (nat_le (end_of g) limit) (le-leb 1024 g.place f.behind_slots) (le-leb (end_of g) limit f.below_limit)) f.apart_from

-- a gap ends before a taken extent begins, or begins behind its end
pub gap_sides : (limit : ℕ) (taken : List Extent) (g x : Extent) → IsFree limit taken g → apart g x ≡ true → (end_of g ≤ x.place) ⊎ (end_of x ≤ g.place)
gap_sides limit taken g x f e =
    elim (or_cases (nat_le (end_of g) x.place) (nat_le (end_of x) g.place) e) [
      | inl before ↦ inl (leb-true (end_of g) x.place before)
      | inr behind ↦ inr (leb-true (end_of x) g.place behind)
    ]

pub all_at_place : {A : Type 0} (p : A → Bool) (xs : List A) (i : ℕ) (d : A) → i < length xs → list_all p xs ≡ true → p (get_or xs i d) ≡ true
all_at_place p [] i d within all = absurd (omega (arith, within))
all_at_place p (x ∷ xs) zero d within all = (and_parts (p x) (list_all p xs) all).0
all_at_place p (x ∷ xs) (suc i) d within all = all_at_place p xs i d (omega (arith, within)) (and_parts (p x) (list_all p xs) all).1
