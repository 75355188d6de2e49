-- The spots of extents in order, with one more and with one less.
use Rattle.std.proofs.Common.{List, [], ap, ap₂, arith, cond, drop, false, filter, get_or, inl, inr, map, refl, subst, sym, take, true, ℕ, ◌+◌, ◌++◌, ◌<◌, ◌∙◌, ◌∷◌, ◌≡◌, ◌≤◌, ◌⊎◌, ◌&&◌, Bool, length}
use Rattle.std.specs.Prelude.{Contains, IfSome, nat_le, slice_get}
use Rattle.std.specs.declared.cmp.Ordering.{Ordering}
use Rattle.std.specs.declared.cmp.Ordering.TheVariants.{Equal, Greater, Less}
use Rattle.std.specs.declared.ops.Bound.TheVariants.{Included, Unbounded}
use Rattle.std.specs.Ordering.{is_eq, is_gt, is_le, match_ordering, nat_cmp, ordering_then}
use Rattle.std.specs.Cmp.{nat_cmp_is}
use Rattle.std.specs.List.{AllByRecursion, list_all, list_any}
use Rattle.std.specs.BTreeMap.{is_at}
use Rattle.std.specs.BTreeMap.Range.{range_contains}
use Rattle.std.specs.BTreeSet.{IsKeyInRange, insert_key}
use Rattle.std.specs.Set.{remove_key}
use Rattle.std.proofs.lemmas.Bool.{and_parts, both_ways, cases_lt, cases_order, le-leb, leb-true, lt-leb, or_cases}
use Rattle.std.proofs.lemmas.List.Elements.{Contains-append_right}
use Rattle.std.proofs.lemmas.List.Folds.{list_any_at}
use Rattle.std.proofs.lemmas.List.{drop_more, get_or-map, length-map, map-append, take-append-drop, take_more}
use Rattle.lt_terms.specs.declared.Extent.{Extent}
use Rattle.lt_world.specs.Extents.{apart, end_of}
use Rattle.lt_space.specs.Order.{AreInOrder}
use Rattle.lt_space.specs.Taken.{Adds, extent_at}
use Rattle.lt_space.proofs.Orders.{ends_rise, order_parts}
use Rattle.lt_space.proofs.Sorting.{Before, NotBehind, same_extent}

abbrev pub Spot : Type 0
Spot = ℕ × ℕ × ℕ

abbrev pub spot_cmp : Spot → Spot → Ordering
spot_cmp a b = ordering_then (ordering_then (nat_cmp a.0 b.0) (nat_cmp a.1 b.1)) (nat_cmp a.2 b.2)

-- ---- their order

-- as they stand by their places, by their lengths and by their numbers
ranked : (a b : Spot) (places lengths numbers : Ordering) → places ≡ nat_cmp a.0 b.0 → lengths ≡ nat_cmp a.1 b.1 → numbers ≡ nat_cmp a.2 b.2 → spot_cmp a b ≡ ordering_then (ordering_then places lengths) numbers
ranked a b places lengths numbers p l n = ap₂ (λ x y. ordering_then x y) (ap₂ (λ x y. ordering_then x y) (sym p) (sym l)) (sym n)

less : (a b : Spot) → Before (extent_at a) (extent_at b) → spot_cmp a b ≡ Less
less a b (inl before) = ranked a b Less (nat_cmp a.1 b.1) (nat_cmp a.2 b.2) (nat_cmp_is a.0 b.0 Less before) refl refl
less a b (inr same) = ranked a b Equal Less (nat_cmp a.2 b.2) (nat_cmp_is a.0 b.0 Equal same.0) (nat_cmp_is a.1 b.1 Less same.1) refl

greater : (a b : Spot) → Before (extent_at b) (extent_at a) → spot_cmp a b ≡ Greater
greater a b (inl before) = ranked a b Greater (nat_cmp a.1 b.1) (nat_cmp a.2 b.2) (nat_cmp_is a.0 b.0 Greater before) refl refl
greater a b (inr same) = ranked a b Equal Greater (nat_cmp a.2 b.2) (nat_cmp_is a.0 b.0 Equal (sym same.0)) (nat_cmp_is a.1 b.1 Greater same.1) refl

-- of one extent, by their numbers
greater_number : (a b : Spot) → a.0 ≡ b.0 → a.1 ≡ b.1 → b.2 < a.2 → spot_cmp a b ≡ Greater
greater_number a b places lengths numbers = ranked a b Equal Equal Greater (nat_cmp_is a.0 b.0 Equal places) (nat_cmp_is a.1 b.1 Equal lengths) (nat_cmp_is a.2 b.2 Greater numbers)

not_behind_or : (a b : Extent) → NotBehind a b ⊎ Before b a
not_behind_or a b = elim (cases_order a.place b.place) [
  | inl same ↦ elim (cases_lt b.length a.length) [ inl shorter ↦ inr (inr (sym same, shorter)) | inr longer ↦ inl (inr (same, longer)) ]
  | inr (inl before) ↦ inl (inl before)
  | inr (inr behind) ↦ inr (inl behind)
]

pub not_greater : (a b : Spot) → is_gt (spot_cmp a b) ≡ false → NotBehind (extent_at a) (extent_at b)
not_greater a b h = elim (not_behind_or (extent_at a) (extent_at b)) [
  | inl is ↦ is
  | inr before ↦ absurd (both_ways (is_gt (spot_cmp a b)) h (ap is_gt (greater a b before)))
]

same_spot : (a b : Spot) → is_eq (spot_cmp a b) ≡ true → extent_at b ≡ extent_at a
same_spot a b h = same_extent (extent_at b) (extent_at a) (elim (not_behind_or (extent_at b) (extent_at a)) [
  | inl is ↦ is
  | inr before ↦ absurd (both_ways (is_eq (spot_cmp a b)) (ap is_eq (less a b before)) h)
]) (elim (not_behind_or (extent_at a) (extent_at b)) [
  | inl is ↦ is
  | inr before ↦ absurd (both_ways (is_eq (spot_cmp a b)) (ap is_eq (greater a b before)) h)
])

-- ---- those from a place on

from_place : (place : ℕ) (k : Spot) → range_contains spot_cmp (Included (place, 0, 0)) Unbounded k ≡ nat_le place k.0
from_place place k = elim (cases_lt k.0 place) [
  | inl before ↦ ap (λ o. is_le o && true) (greater (place, 0, 0) k (inl before)) ∙ sym (lt-leb place k.0 before)
  | inr behind ↦ elim (not_behind_or (extent_at (place, 0, 0)) (extent_at k)) [
    | inl is ↦ reached is ∙ sym (le-leb place k.0 behind)
    | inr (inl less) ↦ absurd (omega (arith, less, behind))
    | inr (inr same) ↦ absurd (omega (arith, same.1))
  ]
]
  where
    reached : NotBehind (extent_at (place, 0, 0)) (extent_at k) → range_contains spot_cmp (Included (place, 0, 0)) Unbounded k ≡ true
    reached is = grind arith

filter_map_by : (p : Spot → Bool) (q : Extent → Bool) (k : Spot) (ks : List Spot) (b : Bool) → p k ≡ b → q (extent_at k) ≡ b → map extent_at (filter p ks) ≡ filter q (map extent_at ks)
    → map extent_at (filter p (k ∷ ks)) ≡ filter q (map extent_at (k ∷ ks))
filter_map_by p q k ks true is is' rest =
    ap (λ b. map extent_at (cond b (k ∷ filter p ks) (filter p ks))) is ∙ ap (λ r. extent_at k ∷ r) rest ∙ ap (λ b. cond b (extent_at k ∷ filter q (map extent_at ks)) (filter q (map extent_at ks))) (sym is')
filter_map_by p q k ks false is is' rest =
    ap (λ b. map extent_at (cond b (k ∷ filter p ks) (filter p ks))) is ∙ rest ∙ ap (λ b. cond b (extent_at k ∷ filter q (map extent_at ks)) (filter q (map extent_at ks))) (sym is')

pub spots_from : (place : ℕ) (ks : List Spot) → map extent_at (filter (range_contains spot_cmp (Included (place, 0, 0)) Unbounded) ks) ≡ filter (λ (e : Extent). nat_le place e.place) (map extent_at ks)
spots_from place [] = refl
spots_from place (k ∷ ks) = filter_map_by (range_contains spot_cmp (Included (place, 0, 0)) Unbounded) (λ e. nat_le place e.place) k ks (nat_le place k.0) (from_place place k) refl (spots_from place ks)

-- ---- one behind all others

number_behind : (e : Extent) (n : ℕ) (k : Spot) → end_of (extent_at k) ≤ e.place → k.2 < n → spot_cmp (e.place, e.length, n) k ≡ Greater
number_behind e n k ends number = elim (not_behind_or e (extent_at k)) [
  | inl (inl less) ↦ absurd (omega (arith, less, ends))
  | inl (inr same) ↦ greater_number (e.place, e.length, n) k same.0 (omega (arith, same.0, same.1, ends)) number
  | inr before ↦ greater (e.place, e.length, n) k before
]

insert_last : (from limit : ℕ) (ks : List Spot) (e : Extent) (rest : List Extent) (n : ℕ) → AreInOrder from limit (map extent_at ks ++ e ∷ rest) → AllByRecursion (λ k. k.2 < n) ks
    → insert_key spot_cmp ks (e.place, e.length, n) ≡ ks ++ (e.place, e.length, n) ∷ []
insert_last from limit [] e rest n o numbers = refl
insert_last from limit (k ∷ ks) e rest n o numbers =
    let x = extent_at k in
    let parts = order_parts (end_of x) limit (map extent_at ks) (e ∷ rest) o.2 in
    let ends : end_of x ≤ e.place = omega (arith, ends_rise (end_of x) limit (map extent_at ks) parts.0, parts.1.0) in
    let one : Spot = (e.place, e.length, n) in
    ap (λ o. match_ordering o (one ∷ k ∷ ks) (k ∷ ks) (k ∷ insert_key spot_cmp ks one)) (number_behind e n k ends numbers.0) ∙ ap (λ r. k ∷ r) (insert_last (end_of x) limit ks e rest n o.2 numbers.1)

-- the first ones of a list have their places in it as numbers
pub record AreFirst (sorted : List Extent) (i : ℕ) (ks : List Spot) : Type 0 where
  pub extents : map extent_at ks ≡ take i sorted
  pub numbers : AllByRecursion (λ k. k.2 < i) ks

numbers_more : (i : ℕ) (ks : List Spot) (k : Spot) → AllByRecursion (λ k. k.2 < i) ks → k.2 ≡ i → AllByRecursion (λ k. k.2 < i + 1) (ks ++ k ∷ [])
numbers_more i [] k numbers is = (omega (arith, is), tt)
numbers_more i (x ∷ ks) k numbers is = (omega (arith, numbers.0), numbers_more i ks k numbers.1 is)

pub first_more : (limit : ℕ) (sorted : List Extent) (i : ℕ) (d : Extent) (ks : List Spot) → AreInOrder 1024 limit sorted → i < length sorted → AreFirst sorted i ks
    → AreFirst sorted (i + 1) (insert_key spot_cmp ks ((get_or sorted i d).place, (get_or sorted i d).length, i))
first_more limit sorted i d ks order within first =
    let e = get_or sorted i d in
    let split : sorted ≡ take i sorted ++ e ∷ drop (i + 1) sorted = sym (take-append-drop i sorted) ∙ ap (λ l. take i sorted ++ l) (drop_more sorted i d within) in
    let last = insert_last 1024 limit ks e (drop (i + 1) sorted) i (subst (λ l. AreInOrder 1024 limit (l ++ e ∷ drop (i + 1) sorted)) (sym first.extents) (subst (AreInOrder 1024 limit) split order)) first.numbers in
    subst (AreFirst sorted (i + 1)) (sym last) (record {
      extents = map-append extent_at ks ((e.place, e.length, i) ∷ []) ∙ ap (λ l. l ++ e ∷ []) first.extents ∙ sym (take_more sorted i d within);
      numbers = numbers_more i ks (e.place, e.length, i) first.numbers refl;
    })

-- ---- one more

adds_cons : (e x : Extent) (old new : List Extent) → Adds e old new → Adds e (x ∷ old) (x ∷ new)
adds_cons e x old new a = record { before = x ∷ a.before; after = a.after; were = ap (λ l. x ∷ l) a.were; are = ap (λ l. x ∷ l) a.are }

pub record IsInserted (e : Extent) (old new : List Extent) : Type 0 where
  pub adds : Adds e old new
  pub order : (from limit : ℕ) → AreInOrder from limit old → from ≤ e.place → end_of e ≤ limit → AreInOrder from limit new

insert_here : (e : Extent) (k : Spot) (ks : List Spot) → 0 < e.length → end_of e ≤ k.0 → IsInserted e (map extent_at (k ∷ ks)) (map extent_at (insert_key spot_cmp (k ∷ ks) (e.place, e.length, 0)))
insert_here e k ks some ends =
    let one : Spot = (e.place, e.length, 0) in
    let is = ap (λ o. match_ordering o (one ∷ k ∷ ks) (k ∷ ks) (k ∷ insert_key spot_cmp ks one)) (less one k (inl (omega (arith, some, ends)))) in
    subst (λ l. IsInserted e (map extent_at (k ∷ ks)) (map extent_at l)) (sym is) (record {
      adds = record { before = []; after = map extent_at (k ∷ ks); were = refl; are = refl };
      order = λ from limit o behind within. (behind, within, (ends, o.1, o.2));
    })

insert_later : (e : Extent) (k : Spot) (ks : List Spot) → 0 < e.length → end_of (extent_at k) ≤ e.place → IsInserted e (map extent_at ks) (map extent_at (insert_key spot_cmp ks (e.place, e.length, 0)))
    → IsInserted e (map extent_at (k ∷ ks)) (map extent_at (insert_key spot_cmp (k ∷ ks) (e.place, e.length, 0)))
insert_later e k ks some ends later =
    let one : Spot = (e.place, e.length, 0) in
    let before : Before (extent_at k) e = elim (cases_lt k.0 e.place) [ inl less ↦ inl less | inr more ↦ inr (omega (arith, ends, more), omega (arith, ends, more, some)) ] in
    let is = ap (λ o. match_ordering o (one ∷ k ∷ ks) (k ∷ ks) (k ∷ insert_key spot_cmp ks one)) (greater one k before) in
    subst (λ l. IsInserted e (map extent_at (k ∷ ks)) (map extent_at l)) (sym is) (record {
      adds = adds_cons e (extent_at k) _ _ later.adds;
      order = λ from limit o behind within. (o.0, o.1, later.order (end_of (extent_at k)) limit o.2 ends within);
    })

pub inserted : (e : Extent) (ks : List Spot) → 0 < e.length → list_all (apart e) (map extent_at ks) ≡ true → IsInserted e (map extent_at ks) (map extent_at (insert_key spot_cmp ks (e.place, e.length, 0)))
inserted e [] some free = record { adds = record { before = []; after = []; were = refl; are = refl }; order = λ from limit o behind within. (behind, within, tt) }
inserted e (k ∷ ks) some free =
    let x = extent_at k in
    let parts = and_parts (apart e x) (list_all (apart e) (map extent_at ks)) free in
    elim (or_cases (nat_le (end_of e) x.place) (nat_le (end_of x) e.place) parts.0) [
      | inl before ↦ insert_here e k ks some (leb-true (end_of e) x.place before)
      | inr behind ↦ insert_later e k ks some (leb-true (end_of x) e.place behind) (inserted e ks some parts.1)
    ]

-- ---- one less

removed_by : (test : Spot → Bool) (e : Extent) (k : Spot) (ks : List Spot) (b : Bool) → test k ≡ b → (test k ≡ true → extent_at k ≡ e) → (list_any test ks ≡ true → Adds e (map extent_at (remove_key test ks)) (map extent_at ks))
    → list_any test (k ∷ ks) ≡ true → Adds e (map extent_at (remove_key test (k ∷ ks))) (map extent_at (k ∷ ks))
removed_by test e k ks true is here later any =
    subst (λ b. Adds e (map extent_at (cond b ks (k ∷ remove_key test ks))) (map extent_at (k ∷ ks))) (sym is)
    (record { before = []; after = map extent_at ks; were = refl; are = ap (λ x. x ∷ map extent_at ks) (here is) })
removed_by test e k ks false is here later any =
    subst (λ b. Adds e (map extent_at (cond b ks (k ∷ remove_key test ks))) (map extent_at (k ∷ ks))) (sym is)
    (adds_cons e (extent_at k) _ _ (later (elim (or_cases (test k) (list_any test ks) any) [ inl now ↦ absurd (both_ways (test k) is now) | inr after ↦ after ])))

removed_all : (test : Spot → Bool) (e : Extent) → ((k : Spot) → test k ≡ true → extent_at k ≡ e) → (ks : List Spot) → list_any test ks ≡ true → Adds e (map extent_at (remove_key test ks)) (map extent_at ks)
removed_all test e here [] any = cc
removed_all test e here (k ∷ ks) any = removed_by test e k ks (test k) refl (here k) (removed_all test e here ks) any

pub removed : (k : Spot) (ks : List Spot) → list_any (is_at (spot_cmp k)) ks ≡ true → Adds (extent_at k) (map extent_at (remove_key (is_at (spot_cmp k)) ks)) (map extent_at ks)
removed k ks any = removed_all (is_at (spot_cmp k)) (extent_at k) (λ x is. same_spot k x is) ks any

-- ---- where one is found

from_itself : (e : Extent) (q : Spot) (n : ℕ) → extent_at q ≡ e → n ≤ q.2 → is_gt (spot_cmp (e.place, e.length, n) q) ≡ false
from_itself e q n here le =
    let places : e.place ≡ q.0 = ap (λ (x : Extent). x.place) (sym here) in
    let lengths : e.length ≡ q.1 = ap (λ (x : Extent). x.length) (sym here) in
    elim (cases_order n q.2) [
      | inl same ↦ ap is_gt (ranked (e.place, e.length, n) q Equal Equal Equal (nat_cmp_is e.place q.0 Equal places) (nat_cmp_is e.length q.1 Equal lengths) (nat_cmp_is n q.2 Equal same))
      | inr (inl less) ↦ ap is_gt (ranked (e.place, e.length, n) q Equal Equal Less (nat_cmp_is e.place q.0 Equal places) (nat_cmp_is e.length q.1 Equal lengths) (nat_cmp_is n q.2 Less less))
      | inr (inr more) ↦ absurd (omega (arith, more, le))
    ]

at_itself : (q : Spot) → is_at (spot_cmp q) q ≡ true
at_itself q = ap is_eq (ranked q q Equal Equal Equal (nat_cmp_is q.0 q.0 Equal refl) (nat_cmp_is q.1 q.1 Equal refl) (nat_cmp_is q.2 q.2 Equal refl))

pub record IsSpotOf (ks : List Spot) (e : Extent) (q : Spot) : Type 0 where
  pub here : extent_at q ≡ e
  pub behind : is_gt (spot_cmp (e.place, e.length, 0) q) ≡ false
  pub among : list_any (is_at (spot_cmp q)) ks ≡ true

pub spot_in : (ks : List Spot) (e : Extent) → Contains (map extent_at ks) e → (q : Spot) × IsSpotOf ks e q
spot_in ks e (i, within, here) =
    let inside : i < length ks = omega (arith, within, length-map ks extent_at) in
    let q = get_or ks i (e.place, e.length, 0) in
    let is : extent_at q ≡ e = sym (get_or-map extent_at ks i (e.place, e.length, 0) e inside) ∙ here in (
      q,
      record {
        here = is;
        behind = from_itself e q 0 is (omega arith);
        among = list_any_at (is_at (spot_cmp q)) ks i (e.place, e.length, 0) inside (at_itself q);
      },
    )

-- the spots from there on, of which the first is the least
pub record AreFrom (ks : List Spot) (e : Extent) (r : List Spot) : Type 0 where
  pub first : IfSome (slice_get r 0) (IsKeyInRange spot_cmp (Included (e.place, e.length, 0)) Unbounded (record { keys = ks }))
  pub least : (q : Spot) → IsSpotOf ks e q → IfSome (slice_get r 0) (λ k. is_gt (spot_cmp k q) ≡ false)

pub removed_first : (ks new : List Spot) (e : Extent) (k : Spot) (r rest : List Spot) → Contains (map extent_at ks) e → AreFrom ks e r → r ≡ k ∷ rest → new ≡ remove_key (is_at (spot_cmp k)) ks
    → Adds e (map extent_at new) (map extent_at ks)
removed_first ks new e k r rest contains from is left =
    let spot = spot_in ks e contains in
    let q = spot.0 in
    let first = subst (λ l. IfSome (slice_get l 0) (IsKeyInRange spot_cmp (Included (e.place, e.length, 0)) Unbounded (record { keys = ks }))) is from.first in
    let least : is_gt (spot_cmp k q) ≡ false = subst (λ l. IfSome (slice_get l 0) (λ x. is_gt (spot_cmp x q) ≡ false)) is (from.least q spot.1) in
    let no_later : NotBehind (extent_at k) e = subst (NotBehind (extent_at k)) spot.1.here (not_greater k q least) in
    let same : extent_at k ≡ e = same_extent (extent_at k) e no_later (not_greater (e.place, e.length, 0) k first.0.0) in
    subst (λ l. Adds e (map extent_at l) (map extent_at ks)) (sym left) (subst (λ x. Adds x (map extent_at (remove_key (is_at (spot_cmp k)) ks)) (map extent_at ks)) same (removed k ks first.1))

pub adds_has : (e : Extent) (old new : List Extent) → Adds e old new → Contains new e
adds_has e old new a = subst (λ l. Contains l e) (sym a.are) (Contains-append_right a.before (e ∷ a.after) e (0, omega arith, refl))

pub has_spot : (ks : List Spot) (k : Spot) (e : Extent) → list_any (is_at (spot_cmp k)) ks ≡ true → e ≡ extent_at k → Contains (map extent_at ks) e
has_spot ks k e among is = subst (Contains (map extent_at ks)) (sym is) (adds_has (extent_at k) _ _ (removed k ks among))
