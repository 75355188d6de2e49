-- Two lists that hold each extent equally often are permutations, so one extent may be taken out of both.
use Rattle.std.proofs.Common.{List, [], ap, ap₂, arith, inl, inr, refl, subst, sym, ℕ, ◌++◌, ◌<◌, ◌∷◌, ◌≡◌, Bool, if◌then◌else◌}
use Rattle.std.specs.Prelude.{◌==◌, ◌&&◌}
use Rattle.std.specs.List.{sum_by}
use Rattle.std.specs.List.Sorted.{IsPermutation}
use Rattle.std.proofs.lemmas.Bool.Decides.{eqb_tells}
use Rattle.std.proofs.lemmas.List.Sorted.{IsPermutation-cons, IsPermutation-middle, IsPermutation-refl, IsPermutation-sym, IsPermutation-trans, sum_by-IsPermutation}
use Rattle.std.proofs.lemmas.List.Sums.{sum_by-append, sum_by-cons}
use Rattle.lt_terms.specs.declared.Extent.{Extent}

-- 1 where the extents are one
pub same : Extent → Extent → ℕ
same a b = if (a.place == b.place && a.length == b.length) then 1 else 0

-- how often a list holds an extent
abbrev pub count : Extent → List Extent → ℕ
count e xs = sum_by (same e) xs

data IsSame (a b : Extent) : Type 0 where
  one : a ≡ b → same a b ≡ 1 → IsSame a b
  two : same a b ≡ 0 → IsSame a b

decide : (a b : Extent) → IsSame a b
unfolding same
decide a b = elim (eqb_tells a.place b.place) [
  | inl (at, place) ↦ elim (eqb_tells a.length b.length) [
    | inl (long, size) ↦ one (ap₂ (λ (p n : ℕ). let e : Extent = record { place = p; length = n } in e) place size) (ap₂ (λ (x y : Bool). if (x && y) then 1 else 0) at long)
    | inr (other, _) ↦ two (ap₂ (λ (x y : Bool). if (x && y) then 1 else 0) at other)
  ]
  | inr (other, _) ↦ two (ap (λ (x : Bool). if (x && (a.length == b.length)) then 1 else 0) other)
]

itself : (e : Extent) → same e e ≡ 1
unfolding same
itself e = elim (eqb_tells e.place e.place) [
  | inl (at, _) ↦ elim (eqb_tells e.length e.length) [
    | inl (long, _) ↦ ap₂ (λ (x y : Bool). if (x && y) then 1 else 0) at long
    | inr (_, not) ↦ absurd (not refl)
  ]
  | inr (_, not) ↦ absurd (not refl)
]

found : (e : Extent) (ys : List Extent) → 0 < count e ys → (b a : List Extent) × (ys ≡ b ++ e ∷ a)
found e [] h = absurd (omega (arith, h))
found e (y ∷ ys) h = elim (decide e y) [
  | one is _ ↦ ([], ys, ap (λ x. x ∷ ys) (sym is))
  | two not ↦ let f = found e ys (omega (arith, h, sum_by-cons (same e) y ys, not)) in (y ∷ f.0, f.1, ap (λ l. y ∷ l) f.2)
]

pub from_counts : (xs ys : List Extent) → ((e : Extent) → count e xs ≡ count e ys) → IsPermutation xs ys
from_counts [] [] h = IsPermutation-refl []
from_counts [] (y ∷ ys) h = absurd (omega (arith, h y, sum_by-cons (same y) y ys, itself y))
from_counts (x ∷ xs) ys h =
    let f = found x ys (omega (arith, h x, sum_by-cons (same x) x xs, itself x)) in
    let less : IsPermutation xs (f.0 ++ f.1) = from_counts xs (f.0 ++ f.1) (λ e.
    omega (arith, h e, ap (sum_by (same e)) f.2, sum_by-cons (same e) x xs, sum_by-append (same e) f.0 (x ∷ f.1), sum_by-cons (same e) x f.1, sum_by-append (same e) f.0 f.1)) in
    subst (IsPermutation (x ∷ xs)) (sym f.2) (IsPermutation-trans (x ∷ xs) (x ∷ (f.0 ++ f.1)) (f.0 ++ x ∷ f.1) (IsPermutation-cons x xs (f.0 ++ f.1) less)
    (IsPermutation-sym (f.0 ++ x ∷ f.1) (x ∷ (f.0 ++ f.1)) (IsPermutation-middle f.0 x f.1)))

-- one extent is taken out of both
pub without : (xs b a : List Extent) (x : Extent) → IsPermutation (x ∷ xs) (b ++ x ∷ a) → IsPermutation xs (b ++ a)
without xs b a x p = from_counts xs (b ++ a) (λ e.
    omega (arith, sum_by-IsPermutation (same e) (x ∷ xs) (b ++ x ∷ a) p, sum_by-cons (same e) x xs, sum_by-append (same e) b (x ∷ a), sum_by-cons (same e) x a, sum_by-append (same e) b a))
