-- Which extents meet the slots, the limit or another one, where they stand in order of place and length.
use Rattle.std.proofs.Common.{List, [], ap, arith, false, get_or, inl, inr, length, length-take, refl, subst, suc, sym, take, true, zero, ℕ, ◌+◌, ◌<◌, ◌∙◌, ◌∷◌, ◌≡◌, ◌≢◌, ◌≤◌, ◌⊎◌}
use Rattle.std.specs.Prelude.{Contains, nat_le, nat_lt, slice_get, Some, ◌&&◌, ◌||◌}
use Rattle.std.specs.List.{list_all}
use Rattle.std.proofs.lemmas.Bool.{and_cases, and_left, and_right, both_ways, cases_lt, cases_order, and_from, le-leb, lt-leb, ltb-false, ltb-true, or_cases, or_from, or_left, or_parts, or_right, true_from_ne_false, true≢false}
use Rattle.std.proofs.lemmas.List.{get_or-take, get_or_default, take_more}
use Rattle.std.proofs.lemmas.Option.{get_or_from_slice_get, slice_get-get_or, slice_get_within}
use Rattle.lt_terms.specs.declared.Extent.{Extent}
use Rattle.lt_world.specs.Extents.{apart, are_apart, end_of}
use Rattle.lt_world.specs.Extents.{IsMisplaced, MeetsAnother}
use Rattle.lt_space.specs.Extents.{IsOverlap}
use Rattle.lt_space.specs.Order.{AreInOrder, AreSorted, end_after}
use Rattle.lt_space.proofs.Orders.{StandsAt, end-push, order_at, order_joined, order_pair}
use Rattle.lt_space.proofs.Sorting.{not_before, places_rise}

-- ---- apart or not

pub apart_by : (a b : Extent) → (end_of a ≤ b.place) ⊎ (end_of b ≤ a.place) → apart a b ≡ true
apart_by a b (inl before) = or_left (nat_le (end_of a) b.place) (nat_le (end_of b) a.place) (le-leb (end_of a) b.place before)
apart_by a b (inr behind) = or_right (nat_le (end_of a) b.place) (nat_le (end_of b) a.place) (le-leb (end_of b) a.place behind)

pub meets_by : (a b : Extent) → b.place < end_of a → a.place < end_of b → apart a b ≡ false
meets_by a b less more = or_from (nat_le (end_of a) b.place) (nat_le (end_of b) a.place) (lt-leb (end_of a) b.place less) (lt-leb (end_of b) a.place more)

pub alone_by : (limit : ℕ) (x : Extent) → 1024 ≤ x.place → end_of x ≤ limit → are_apart limit (x ∷ []) ≡ true
alone_by limit x behind within =
    and_from (nat_le 1024 x.place && nat_le (end_of x) limit && true) true (and_from (nat_le 1024 x.place && nat_le (end_of x) limit) true
    (and_from (nat_le 1024 x.place) (nat_le (end_of x) limit) (le-leb 1024 x.place behind) (le-leb (end_of x) limit within)) refl) refl

pub not_alone_by : (limit : ℕ) (x : Extent) → (x.place < 1024) ⊎ (limit < end_of x) → are_apart limit (x ∷ []) ≡ false
not_alone_by limit x (inl low) =
    and_left (nat_le 1024 x.place && nat_le (end_of x) limit && true) true (and_left (nat_le 1024 x.place && nat_le (end_of x) limit) true (and_left (nat_le 1024 x.place) (nat_le (end_of x) limit) (lt-leb 1024 x.place low)))
not_alone_by limit x (inr high) =
    and_left (nat_le 1024 x.place && nat_le (end_of x) limit && true) true (and_left (nat_le 1024 x.place && nat_le (end_of x) limit) true (and_right (nat_le 1024 x.place) (nat_le (end_of x) limit) (lt-leb (end_of x) limit high)))

-- two that stand in order are apart
apart_at : (from limit : ℕ) (xs : List Extent) (n m : ℕ) (d : Extent) → AreInOrder from limit xs → n ≢ m → n < length xs → m < length xs → apart (get_or xs n d) (get_or xs m d) ≡ true
apart_at from limit xs n m d o other n_within m_within = elim (cases_order n m) [
  | inl same ↦ absurd (other same)
  | inr (inl less) ↦ apart_by (get_or xs n d) (get_or xs m d) (inl (order_pair from limit xs n m d o less m_within))
  | inr (inr more) ↦ apart_by (get_or xs n d) (get_or xs m d) (inr (order_pair from limit xs m n d o more n_within))
]

-- ---- the first that is misplaced

-- where the extent at a place has to end
pub record IsBound (most : ℕ) (xs : List Extent) (i bound : ℕ) : Type 0 where
  pub limit : bound ≤ most
  pub next : (d : Extent) → i + 1 < length xs → bound ≤ (get_or xs (i + 1) d).place
  pub reached : (bound ≡ most) ⊎ ((i + 1 < length xs) × ((d : Extent) → bound ≡ (get_or xs (i + 1) d).place))

-- the first ones are in order, and end where the next one begins or before
pub record AreFront (limit : ℕ) (xs : List Extent) (i : ℕ) : Type 0 where
  pub order : AreInOrder 1024 limit (take i xs)
  pub next : (d : Extent) → 0 < i → i < length xs → end_after 1024 (take i xs) ≤ (get_or xs i d).place

begins_behind : (limit : ℕ) (xs : List Extent) (i : ℕ) (d : Extent) → AreFront limit xs i → i < length xs → 1024 ≤ (get_or xs i d).place → end_after 1024 (take i xs) ≤ (get_or xs i d).place
begins_behind limit xs zero d front within low = low
begins_behind limit xs (suc i) d front within low = front.next d (omega arith) within

front_end : (limit : ℕ) (xs : List Extent) (i : ℕ) (d : Extent) → i < length xs → end_after 1024 (take (i + 1) xs) ≡ end_of (get_or xs i d)
front_end limit xs i d within = ap (end_after 1024) (take_more xs i d within) ∙ end-push 1024 (take i xs) (get_or xs i d)

pub front_more : (limit : ℕ) (xs : List Extent) (i bound : ℕ) (d : Extent) → AreFront limit xs i → i < length xs → IsBound limit xs i bound → (nat_lt (get_or xs i d).place 1024 || nat_lt bound (end_of (get_or xs i d))) ≡ false → AreFront limit xs (i + 1)
front_more limit xs i bound d front within is placed =
    let x = get_or xs i d in
    let tests = or_parts (nat_lt x.place 1024) (nat_lt bound (end_of x)) placed in
    let low : 1024 ≤ x.place = ltb-false x.place 1024 tests.0 in
    let high : end_of x ≤ bound = ltb-false bound (end_of x) tests.1 in
    record {
      order = subst (AreInOrder 1024 limit) (sym (take_more xs i d within)) (order_joined 1024 limit (take i xs) (x ∷ []) front.order (begins_behind limit xs i d front within low, omega (arith, high, is.limit), tt));
      next = λ e some more. omega (arith, front_end limit xs i d within, high, is.next e more);
    }

meets_here : (limit : ℕ) (xs : List Extent) (i bound : ℕ) (d : Extent) → AreSorted xs → i < length xs → IsBound limit xs i bound → (nat_lt (get_or xs i d).place 1024 || nat_lt bound (end_of (get_or xs i d))) ≡ true
    → (are_apart limit (get_or xs i d ∷ []) ≡ false) ⊎ MeetsAnother xs (get_or xs i d)
meets_here limit xs i bound d sorted within is placed =
    let x = get_or xs i d in
    elim (or_cases (nat_lt x.place 1024) (nat_lt bound (end_of x)) placed) [
      | inl low ↦ inl (not_alone_by limit x (inl (ltb-true x.place 1024 low)))
      | inr past ↦
          let long : bound < end_of x = ltb-true bound (end_of x) past in
          elim is.reached [
            | inl at_limit ↦ inl (not_alone_by limit x (inr (omega (arith, at_limit, long))))
            | inr at_next ↦
                let y = get_or xs (i + 1) d in
                let begins : bound ≡ y.place = at_next.1 d in
                let behind : x.place < end_of y = elim (not_before x y (sorted i (i + 1) d (omega arith) at_next.0)) [ inl less ↦ omega (arith, less) | inr same ↦ omega (arith, same.0, same.1, begins, long) ] in
                inr (i, i + 1, y, (λ e. omega (arith, e)), slice_get-get_or xs i d within, slice_get-get_or xs (i + 1) d at_next.0, meets_by x y (omega (arith, begins, long)) behind)
          ]
    ]

-- those before it are not
placed_before : (limit : ℕ) (xs : List Extent) (i : ℕ) (d : Extent) (e : Extent) → AreSorted xs → AreFront limit xs i → i < length xs → (n : ℕ) → n < i → get_or xs n d ≡ e → (m : ℕ) (f : Extent) → (n ≢ m) → slice_get xs m ≡ Some f → apart e f ≡ true
placed_before limit xs i d e sorted front within n before here m f other there =
    let m_within = slice_get_within xs m f there in
    let f_here : get_or xs m d ≡ f = get_or_from_slice_get xs m f d there in
    let e_front : get_or (take i xs) n d ≡ e = get_or-take i xs n d before ∙ here in
    let count = length-take i xs in
    elim (cases_lt m i) [
      | inl m_before ↦
          let f_front : get_or (take i xs) m d ≡ f = get_or-take i xs m d m_before ∙ f_here in
          subst (λ y. apart e y ≡ true) f_front (subst (λ x. apart x (get_or (take i xs) m d) ≡ true) e_front
          (apart_at 1024 limit (take i xs) n m d front.order other (omega (arith, count, before, within)) (omega (arith, count, m_before, within))))
      | inr m_behind ↦
          let ends : end_of e ≤ end_after 1024 (take i xs) = subst (λ x. end_of x ≤ end_after 1024 (take i xs)) e_front (order_at 1024 limit (take i xs) n d front.order (omega (arith, count, before, within))).before in
          let rises : (get_or xs i d).place ≤ f.place = subst (λ y. (get_or xs i d).place ≤ y.place) f_here (places_rise xs i m d sorted m_behind m_within) in
          apart_by e f (inl (omega (arith, ends, front.next d (omega (arith, before)) within, rises)))
    ]

behind_place : (xs : List Extent) (i n : ℕ) (d e : Extent) → AreSorted xs → i ≤ n → n < length xs → get_or xs n d ≡ e → (get_or xs i d).place ≤ e.place
behind_place xs i n d e sorted le within here = subst (λ x. (get_or xs i d).place ≤ x.place) here (places_rise xs i n d sorted le within)

least_here : (limit : ℕ) (xs : List Extent) (i : ℕ) (d : Extent) → AreSorted xs → AreFront limit xs i → i < length xs → (e : Extent) → IsMisplaced limit xs e → (get_or xs i d).place ≤ e.place
least_here limit xs i d sorted front within e (here, inl alone) =
    let at : get_or xs here.0 d ≡ e = get_or_default xs here.0 d e here.1 ∙ here.2 in
    elim (cases_lt here.0 i) [
      | inl before ↦
          let stands = subst (StandsAt 1024 limit (end_after 1024 (take i xs))) (get_or-take i xs here.0 d before ∙ at) (order_at 1024 limit (take i xs) here.0 d front.order (omega (arith, length-take i xs, before, within))) in
          absurd (both_ways (are_apart limit (e ∷ [])) alone (alone_by limit e stands.behind stands.within))
      | inr behind ↦ behind_place xs i here.0 d e sorted behind here.1 at
    ]
least_here limit xs i d sorted front within e (here, inr (n, m, f, other, at_n, at_m, meets)) =
    let at : get_or xs n d ≡ e = get_or_from_slice_get xs n e d at_n in
    elim (cases_lt n i) [
      | inl before ↦ absurd (both_ways (apart e f) meets (placed_before limit xs i d e sorted front within n before at m f other at_m))
      | inr behind ↦ behind_place xs i n d e sorted behind (slice_get_within xs n e at_n) at
    ]

pub overlap_here : (limit : ℕ) (xs : List Extent) (i bound : ℕ) (d : Extent) → AreSorted xs → AreFront limit xs i → i < length xs → IsBound limit xs i bound → (nat_lt (get_or xs i d).place 1024 || nat_lt bound (end_of (get_or xs i d))) ≡ true
    → IsOverlap limit xs (get_or xs i d).place
overlap_here limit xs i bound d sorted front within is placed = record {
  extent = get_or xs i d;
  misplaced = ((i, within, get_or_default xs i (get_or xs i d) d within), meets_here limit xs i bound d sorted within is placed);
  here = refl;
  least = least_here limit xs i d sorted front within;
}

-- ---- where none is misplaced

-- where all are in order
pub placed_in_order : (limit : ℕ) (xs : List Extent) (e : Extent) → AreInOrder 1024 limit xs → IsMisplaced limit xs e → ⊥
placed_in_order limit xs e o (here, inl alone) =
    let stands = subst (StandsAt 1024 limit (end_after 1024 xs)) here.2 (order_at 1024 limit xs here.0 e o here.1) in
    both_ways (are_apart limit (e ∷ [])) alone (alone_by limit e stands.behind stands.within)
placed_in_order limit xs e o (here, inr (n, m, f, other, at_n, at_m, meets)) =
    both_ways (apart e f) meets (subst (λ y. apart e y ≡ true) (get_or_from_slice_get xs m f e at_m) (subst (λ x. apart x (get_or xs m e) ≡ true) (get_or_from_slice_get xs n e e at_n)
    (apart_at 1024 limit xs n m e o other (slice_get_within xs n e at_n) (slice_get_within xs m f at_m))))

misplaced_cons : (limit : ℕ) (x : Extent) (xs : List Extent) (e : Extent) → IsMisplaced limit xs e → IsMisplaced limit (x ∷ xs) e
misplaced_cons limit x xs e ((k, within, here), inl alone) = ((suc k, omega (arith, within), here), inl alone)
misplaced_cons limit x xs e ((k, within, here), inr (n, m, f, other, at_n, at_m, meets)) =
    ((suc k, omega (arith, within), here), inr (suc n, suc m, f, (λ same. other (omega (arith, same))), at_n, at_m, meets))

-- one that is not apart from all others meets one of them
meets_some : (e : Extent) (xs : List Extent) → list_all (apart e) xs ≡ false → (m : ℕ) × (f : Extent) × (slice_get xs m ≡ Some f) × (apart e f ≡ false)
meets_some e [] is = absurd (true≢false is)
meets_some e (x ∷ xs) is = elim (and_cases (apart e x) (list_all (apart e) xs) is) [
  | inl meets ↦ (0, x, refl, meets)
  | inr later ↦ let some = meets_some e xs later in (suc some.0, some.1, some.2, some.3)
]

pub apart_from_placed : (limit : ℕ) (xs : List Extent) → ((e : Extent) → IsMisplaced limit xs e → ⊥) → are_apart limit xs ≡ true
apart_from_placed limit [] none = refl
apart_from_placed limit (x ∷ xs) none =
    let here : Contains (x ∷ xs) x = (0, omega arith, refl) in
    true_from_ne_false (are_apart limit (x ∷ xs)) (λ is. elim (and_cases (nat_le 1024 x.place && nat_le (end_of x) limit && list_all (apart x) xs) (are_apart limit xs) is) [
      | inl first ↦ elim (and_cases (nat_le 1024 x.place && nat_le (end_of x) limit) (list_all (apart x) xs) first) [
        | inl alone ↦ none x (here, inl (and_left (nat_le 1024 x.place && nat_le (end_of x) limit && true) true (and_left (nat_le 1024 x.place && nat_le (end_of x) limit) true alone)))
        | inr meets ↦ let some = meets_some x xs meets in none x (here, inr (0, suc some.0, some.1, (λ same. omega (arith, same)), refl, some.2, some.3))
      ]
      | inr later ↦ both_ways (are_apart limit xs) later (apart_from_placed limit xs (λ e is. none e (misplaced_cons limit x xs e is)))
    ])
