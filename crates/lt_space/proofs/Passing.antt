-- What a search for gaps has passed, and what it finds.
use Rattle.std.proofs.Common.{Bool, List, [], ap, arith, cond, false, filter, inl, inr, map, max, refl, subst, suc, sym, true, zero, ℕ, ◌+◌, ◌-◌, ◌<◌, ◌∙◌, ◌∷◌, ◌≡◌, ◌≤◌, ◌⊎◌}
use Rattle.std.specs.Prelude.{Contains, IsTrue, nat_le}
use Rattle.std.specs.List.{All, list_all}
use Rattle.std.proofs.lemmas.Bool.{and_from, both_ways, cases_lt, le-leb, leb-true}
use Rattle.std.proofs.lemmas.List.Elements.{All-contains, All-contains_itself, All-filter, All-head, filter_passes}
use Rattle.lt_terms.specs.declared.Extent.{Extent}
use Rattle.lt_world.specs.Extents.{apart, end_of, is_gap}
use Rattle.lt_space.specs.declared.gaps.Passed.{Passed}
use Rattle.lt_space.specs.Order.{AreInOrder, end_after}
use Rattle.lt_space.specs.Gaps.{HasNoGap, IsFirstGap, IsKept, IsLongestGap, IsReached}
use Rattle.lt_space.specs.Taken.{extent_at}
use Rattle.lt_space.proofs.Orders.{StandsAt, all_at_place, free_gap, gap_free, gap_sides, order_at, order_behind}
use Rattle.lt_space.proofs.Overlaps.{apart_by}
use Rattle.lt_space.proofs.Spots.{Spot}

-- ---- what a list has

pub has_first : (x : Extent) (xs : List Extent) → Contains (x ∷ xs) x
has_first x xs = (0, omega arith, refl)

pub has_later : (x : Extent) (xs : List Extent) (e : Extent) → Contains xs e → Contains (x ∷ xs) e
has_later x xs e (k, within, here) = (suc k, omega (arith, within), here)

pub has_cases : (x : Extent) (xs : List Extent) (e : Extent) → Contains (x ∷ xs) e → (x ≡ e) ⊎ Contains xs e
has_cases x xs e (zero, within, here) = inl here
has_cases x xs e (suc k, within, here) = inr (k, omega (arith, within), here)

pub all_by : (p : Extent → Bool) (xs : List Extent) → ((e : Extent) → Contains xs e → p e ≡ true) → list_all p xs ≡ true
all_by p [] each = refl
all_by p (x ∷ xs) each = and_from (p x) (list_all p xs) (each x (has_first x xs)) (all_by p xs (λ e has. each e (has_later x xs e has)))

pub of_all : (p : Extent → Bool) (xs : List Extent) (e : Extent) → list_all p xs ≡ true → Contains xs e → p e ≡ true
of_all p xs e all (k, within, here) = subst (λ x. p x ≡ true) here (all_at_place p xs k e within all)

pub stands : (from limit : ℕ) (xs : List Extent) (e : Extent) → AreInOrder from limit xs → Contains xs e → StandsAt from limit (end_after from xs) e
stands from limit xs e order (k, within, here) = subst (StandsAt from limit (end_after from xs)) here (order_at from limit xs k e order within)

-- ---- those from a place on

module _ (q : Extent → Bool) where
  kept_by : (x : Extent) (xs : List Extent) (e : Extent) (b : Bool) → q x ≡ b → q e ≡ true → (Contains xs e → Contains (filter q xs) e) → (x ≡ e) ⊎ Contains xs e → Contains (cond b (x ∷ filter q xs) (filter q xs)) e
  kept_by x xs e true is passes rest (inl same) = subst (Contains (x ∷ filter q xs)) same (has_first x (filter q xs))
  kept_by x xs e true is passes rest (inr later) = has_later x (filter q xs) e (rest later)
  kept_by x xs e false is passes rest (inl same) = absurd (both_ways (q x) is (subst (λ y. q y ≡ true) (sym same) passes))
  kept_by x xs e false is passes rest (inr later) = rest later

  pub filter_has : (xs : List Extent) (e : Extent) → q e ≡ true → Contains xs e → Contains (filter q xs) e
  filter_has [] e passes has = has
  filter_has (x ∷ xs) e passes has = kept_by x xs e (q x) refl passes (filter_has xs e passes) (has_cases x xs e has)

  order_by : (from limit : ℕ) (x : Extent) (xs : List Extent) (b : Bool) → AreInOrder from limit (x ∷ xs) → AreInOrder (end_of x) limit (filter q xs) → AreInOrder from limit (cond b (x ∷ filter q xs) (filter q xs))
  order_by from limit x xs true order rest = (order.0, order.1, rest)
  order_by from limit x xs false order rest = order_behind (end_of x) from limit (filter q xs) (omega (arith, order.0)) rest

  pub filter_order : (from limit : ℕ) (xs : List Extent) → AreInOrder from limit xs → AreInOrder from limit (filter q xs)
  filter_order from limit [] order = tt
  filter_order from limit (x ∷ xs) order = order_by from limit x xs (q x) order (filter_order (end_of x) limit xs order.2)

order_later : (from later limit : ℕ) (xs : List Extent) → AreInOrder from limit xs → All (λ e. nat_le later e.place ≡ true) xs → AreInOrder later limit xs
order_later from later limit [] order all = tt
order_later from later limit (x ∷ xs) order all = (leb-true later x.place (All-head (λ e. nat_le later e.place ≡ true) x xs all), order.1, order.2)

-- ---- where a search stands

-- what it has passed, and what of the taken extents is still to come
pub record IsAt (limit : ℕ) (taken rest : List Extent) (p : Passed) : Type 0 where
  pub behind_slots : 1024 ≤ p.end
  pub order : AreInOrder p.end limit rest
  pub sides : (e : Extent) → Contains taken e → (end_of e ≤ p.end) ⊎ Contains rest e
  pub among : (e : Extent) → Contains rest e → Contains taken e
  pub gaps : (e : Extent) → IsTrue (is_gap limit taken e) → e.place < p.end → e.length ≤ p.longest

pub none_kept : (limit : ℕ) (taken : List Extent) → AreInOrder 1024 limit taken → IsKept limit taken (record { end = 1024; longest = 0 })
none_kept limit taken order = record {
  order = order;
  passed = record {
    behind_slots = omega arith;
    sides = λ e has. inr (stands 1024 limit taken e order has).behind;
    gaps = λ e gap before. absurd (omega (arith, (free_gap limit taken e gap).behind_slots, before));
  };
}

pub begins : (limit : ℕ) (taken rest : List Extent) (p : Passed) → IsKept limit taken p → rest ≡ filter (λ (e : Extent). nat_le p.end e.place) taken → IsAt limit taken rest p
begins limit taken rest p kept is =
    let q : Extent → Bool = λ e. nat_le p.end e.place in
    subst (λ l. IsAt limit taken l p) (sym is) (record {
      behind_slots = kept.passed.behind_slots;
      order = order_later 1024 p.end limit (filter q taken) (filter_order q 1024 limit taken kept.order) (filter_passes q taken);
      sides = λ e has. elim (kept.passed.sides e has) [ inl ends ↦ inl ends | inr behind ↦ inr (filter_has q taken e (le-leb p.end e.place behind) has) ];
      among = λ e has. All-contains (Contains taken) (filter q taken) e (All-filter q (Contains taken) taken (All-contains_itself taken)) has;
      gaps = kept.passed.gaps;
    })

pub stops : (limit : ℕ) (taken rest : List Extent) (p : Passed) → AreInOrder 1024 limit taken → IsAt limit taken rest p → IsKept limit taken p
stops limit taken rest p order at = record {
  order = order;
  passed = record {
    behind_slots = at.behind_slots;
    sides = λ e has. elim (at.sides e has) [ inl ends ↦ inl ends | inr later ↦ inr (stands p.end limit rest e at.order later).behind ];
    gaps = at.gaps;
  };
}

pub passes : (limit : ℕ) (taken : List Extent) (x : Extent) (rest : List Extent) (p : Passed) → IsAt limit taken (x ∷ rest) p → IsAt limit taken rest (record { end = end_of x; longest = max p.longest (x.place - p.end) })
passes limit taken x rest p at = record {
  behind_slots = omega (arith, at.behind_slots, at.order.0);
  order = at.order.2;
  sides = λ e has. elim (at.sides e has) [
    | inl ends ↦ inl (omega (arith, ends, at.order.0))
    | inr later ↦ elim (has_cases x rest e later) [ inl same ↦ inl (omega (arith, ap end_of same)) | inr behind ↦ inr behind ]
  ];
  among = λ e has. at.among e (has_later x rest e has);
  gaps = λ e gap before.
      let free = free_gap limit taken e gap in
      elim (cases_lt e.place p.end) [
        | inl sooner ↦ omega (arith, at.gaps e gap sooner)
        | inr later ↦ elim (gap_sides limit taken e x free (of_all (apart e) taken x free.apart_from (at.among x (has_first x rest)))) [
          | inl ends ↦ omega (arith, ends, later)
          | inr begins ↦ absurd (omega (arith, begins, before))
        ]
      ];
}

-- as a loop over the spots that are to come reads it
pub next_at : (limit : ℕ) (taken : List Extent) (spots rest : List Spot) (k : Spot) (x : Extent) (p : Passed) → IsAt limit taken (map extent_at spots) p → spots ≡ k ∷ rest → x ≡ extent_at k → IsAt limit taken (x ∷ map extent_at rest) p
next_at limit taken spots rest k x p at is here = subst (λ l. IsAt limit taken l p) (ap (map extent_at) is ∙ ap (λ y. y ∷ map extent_at rest) (sym here)) at

pub last_at : (limit : ℕ) (taken : List Extent) (spots : List Spot) (p : Passed) → IsAt limit taken (map extent_at spots) p → spots ≡ [] → IsAt limit taken [] p
last_at limit taken spots p at is = subst (λ l. IsAt limit taken l p) (ap (map extent_at) is) at

-- ---- a gap right behind those that were passed

gap_at : (limit : ℕ) (taken rest : List Extent) (p : Passed) (len : ℕ) → IsAt limit taken rest p → p.end + len ≤ limit → ((e : Extent) → Contains rest e → p.end + len ≤ e.place) → IsTrue (is_gap limit taken (record { place = p.end; length = len }))
gap_at limit taken rest p len at below ahead =
    let g : Extent = record { place = p.end; length = len } in
    gap_free limit taken g (record {
      behind_slots = at.behind_slots;
      below_limit = below;
      apart_from = all_by (apart g) taken (λ e has. apart_by g e (elim (at.sides e has) [ inl ends ↦ inr ends | inr later ↦ inl (ahead e later) ]));
    })

gap_here : (limit : ℕ) (taken : List Extent) (x : Extent) (rest : List Extent) (p : Passed) (len : ℕ) → IsAt limit taken (x ∷ rest) p → len ≤ x.place - p.end → IsTrue (is_gap limit taken (record { place = p.end; length = len }))
gap_here limit taken x rest p len at fits =
    gap_at limit taken (x ∷ rest) p len at (omega (arith, fits, at.order.0, at.order.1)) (λ e has. elim (has_cases x rest e has) [
      | inl same ↦ omega (arith, fits, at.order.0, ap (λ (y : Extent). y.place) same)
      | inr later ↦ omega (arith, fits, at.order.0, (stands (end_of x) limit rest e at.order.2 later).behind)
    ])

gap_last : (limit : ℕ) (taken : List Extent) (p : Passed) (len : ℕ) → IsAt limit taken [] p → 0 < len → len ≤ limit - p.end → IsTrue (is_gap limit taken (record { place = p.end; length = len }))
gap_last limit taken p len at some fits = gap_at limit taken [] p len at (omega (arith, some, fits)) (λ e has. absurd (omega (arith, has.1)))

first_gap : (limit : ℕ) (taken rest : List Extent) (p : Passed) (len : ℕ) → IsAt limit taken rest p → p.longest < len → IsTrue (is_gap limit taken (record { place = p.end; length = len })) → IsFirstGap limit taken len p.end
first_gap limit taken rest p len at longer free = record {
  free = free;
  lowest = λ place gap. elim (cases_lt place p.end) [
    | inl sooner ↦ absurd (omega (arith, at.gaps (record { place = place; length = len }) gap sooner, longer))
    | inr later ↦ later
  ];
}

pub found_here : (limit : ℕ) (taken : List Extent) (x : Extent) (rest : List Extent) (p : Passed) (len : ℕ) → IsAt limit taken (x ∷ rest) p → p.longest < len → len ≤ x.place - p.end → IsFirstGap limit taken len p.end
found_here limit taken x rest p len at longer fits = first_gap limit taken (x ∷ rest) p len at longer (gap_here limit taken x rest p len at fits)

pub found_last : (limit : ℕ) (taken : List Extent) (p : Passed) (len : ℕ) → IsAt limit taken [] p → p.longest < len → len ≤ limit - p.end → IsFirstGap limit taken len p.end
found_last limit taken p len at longer fits = first_gap limit taken [] p len at longer (gap_last limit taken p len at (omega (arith, longer)) fits)

-- behind the last extent a gap has at most what is left below the limit
at_most_left : (limit : ℕ) (taken rest : List Extent) (p : Passed) (e : Extent) → IsAt limit taken rest p → IsTrue (is_gap limit taken e) → e.length ≤ max p.longest (limit - p.end)
at_most_left limit taken rest p e at gap = elim (cases_lt e.place p.end) [
  | inl sooner ↦ omega (arith, at.gaps e gap sooner)
  | inr later ↦ omega (arith, later, (free_gap limit taken e gap).below_limit)
]

pub none_fits : (limit : ℕ) (taken : List Extent) (p : Passed) (len : ℕ) → IsAt limit taken [] p → p.longest < len → limit - p.end < len → HasNoGap limit taken len
none_fits limit taken p len at longer short = λ e gap. omega (arith, at_most_left limit taken [] p e at gap, longer, short)

-- ---- the longest gap

pub reached_more : (limit : ℕ) (taken : List Extent) (x : Extent) (rest : List Extent) (p : Passed) → IsAt limit taken (x ∷ rest) p → IsReached limit taken p.longest → IsReached limit taken (max p.longest (x.place - p.end))
reached_more limit taken x rest p at reached some = elim (cases_lt p.longest (x.place - p.end)) [
  | inl longer ↦ (record { place = p.end; length = x.place - p.end }, omega (arith, longer), gap_here limit taken x rest p (x.place - p.end) at (omega arith))
  | inr shorter ↦ let e = reached (omega (arith, some, shorter)) in (e.0, omega (arith, e.1, shorter), e.2)
]

pub longest_is : (limit : ℕ) (taken : List Extent) (p : Passed) → IsAt limit taken [] p → IsReached limit taken p.longest → IsLongestGap limit taken (max p.longest (limit - p.end))
longest_is limit taken p at reached = record {
  longest = λ e gap. at_most_left limit taken [] p e at gap;
  reached = λ some. elim (cases_lt p.longest (limit - p.end)) [
    | inl longer ↦ (record { place = p.end; length = limit - p.end }, omega (arith, longer), gap_last limit taken p (limit - p.end) at (omega (arith, longer)) (omega arith))
    | inr shorter ↦ let e = reached (omega (arith, some, shorter)) in (e.0, omega (arith, e.1, shorter), e.2)
  ];
}
