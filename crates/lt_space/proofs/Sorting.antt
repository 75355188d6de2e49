-- The order by place and length: what a sort leaves, and where an extent is found.
use Rattle.std.proofs.Common.{Bool, List, ap₂, arith, cond, false, get_or, inl, inr, length, refl, sym, true, ℕ, ◌<◌, ◌∙◌, ◌≡◌, ◌≤◌, ◌⊎◌}
use Rattle.std.specs.Prelude.{nat_lt, ◌&&◌, ◌==◌, ◌||◌}
use Rattle.std.specs.declared.cmp.Ordering.{Ordering}
use Rattle.std.specs.declared.cmp.Ordering.TheVariants.{Equal, Greater, Less}
use Rattle.std.specs.Ordering.{is_lt, nat_cmp, ordering_then}
use Rattle.std.specs.Cmp.{IsTotalOrder}
use Rattle.std.specs.List.Sorted.{IsSortedByKey}
use Rattle.std.proofs.lemmas.Bool.{and_from, both_ways, cases_lt, cases_order, eq-eqb, lt-ltb, or_left, or_right}
use Rattle.std.proofs.lemmas.Cmp.{nat_cmp_total, on_total, then_total}
use Rattle.std.proofs.lemmas.List.MinMax.{ranks_by}
use Rattle.std.proofs.lemmas.List.Sorted.{sorted_far}
use Rattle.lt_terms.specs.declared.Extent.{Extent}
use Rattle.lt_space.specs.Order.{AreSorted, stands_before}

-- ---- one before another

-- as a fact
abbrev pub Before : Extent → Extent → Type 0
Before a b = (a.place < b.place) ⊎ ((a.place ≡ b.place) × (a.length < b.length))

abbrev pub NotBehind : Extent → Extent → Type 0
NotBehind a b = (a.place < b.place) ⊎ ((a.place ≡ b.place) × (a.length ≤ b.length))

before_from : (a b : Extent) → Before a b → stands_before a b ≡ true
before_from a b (inl less) = or_left (nat_lt a.place b.place) (a.place == b.place && nat_lt a.length b.length) (lt-ltb a.place b.place less)
before_from a b (inr same) =
    or_right (nat_lt a.place b.place) (a.place == b.place && nat_lt a.length b.length) (and_from (a.place == b.place) (nat_lt a.length b.length) (eq-eqb a.place b.place same.0) (lt-ltb a.length b.length same.1))

pub not_before : (a b : Extent) → stands_before b a ≡ false → NotBehind a b
not_before a b e = elim (cases_order a.place b.place) [
  | inl same ↦ elim (cases_lt b.length a.length) [ inl shorter ↦ absurd (both_ways (stands_before b a) e (before_from b a (inr (sym same, shorter)))) | inr longer ↦ inr (same, longer) ]
  | inr (inl less) ↦ inl less
  | inr (inr more) ↦ absurd (both_ways (stands_before b a) e (before_from b a (inl more)))
]

-- ---- sorted lists

pub places_rise : (xs : List Extent) (i j : ℕ) (d : Extent) → AreSorted xs → i ≤ j → j < length xs → (get_or xs i d).place ≤ (get_or xs j d).place
places_rise xs i j d sorted le within = elim (not_before (get_or xs i d) (get_or xs j d) (sorted i j d le within)) [ inl less ↦ omega (arith, less) | inr same ↦ omega (arith, same.0) ]

-- ---- after a sort by both numbers

abbrev pub key_of : Extent → ℕ × ℕ
key_of e = (e.place, e.length)

abbrev pub pair_cmp : ℕ × ℕ → ℕ × ℕ → Ordering
pair_cmp x y = ordering_then (nat_cmp x.0 y.0) (nat_cmp x.1 y.1)

pair_total : IsTotalOrder pair_cmp
pair_total = then_total (on_total (λ p. p.0) nat_cmp_total) (on_total (λ p. p.1) nat_cmp_total)

by_tests : (less same shorter equal : Bool) → is_lt (ordering_then (cond less Less (cond same Equal Greater)) (cond shorter Less (cond equal Equal Greater))) ≡ (less || (same && shorter))
by_tests true same shorter equal = refl
by_tests false false shorter equal = refl
by_tests false true true equal = refl
by_tests false true false true = refl
by_tests false true false false = refl

same_test : (a b : Extent) → is_lt (pair_cmp (key_of a) (key_of b)) ≡ stands_before a b
same_test a b = by_tests (nat_lt a.place b.place) (a.place == b.place) (nat_lt a.length b.length) (a.length == b.length)

pub sorted_by_key : (xs : List Extent) → IsSortedByKey key_of pair_cmp xs → AreSorted xs
sorted_by_key xs sorted i j d le within =
    sym (same_test (get_or xs j d) (get_or xs i d)) ∙ sorted_far (λ a b. is_lt (pair_cmp (key_of a) (key_of b))) (ranks_by pair_total key_of) xs sorted i j d le within

-- ---- neither before the other

pub same_extent : (a b : Extent) → NotBehind a b → NotBehind b a → a ≡ b
same_extent a b p q = ap₂ (λ place len. record { place = place; length = len }) (places p q) (lengths p q)
  where
    places : NotBehind a b → NotBehind b a → a.place ≡ b.place
    places (inl p) (inl q) = omega (arith, p, q)
    places (inl p) (inr q) = omega (arith, p, q.0)
    places (inr p) q = p.0

    lengths : NotBehind a b → NotBehind b a → a.length ≡ b.length
    lengths (inl p) (inl q) = absurd (omega (arith, p, q))
    lengths (inl p) (inr q) = absurd (omega (arith, p, q.0))
    lengths (inr p) (inl q) = absurd (omega (arith, p.0, q))
    lengths (inr p) (inr q) = omega (arith, p.1, q.1)
