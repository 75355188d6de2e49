-- Which field a longer path goes on by.
use Rattle.std.proofs.Common.{List, None, Some, [], arith, cond, false, length, refl, slice_index_or, sym, true, ℕ, ◌++◌, ◌==◌, ◌≡◌, ◌∷◌, ◌<◌, ◌≤◌, Bool, eqb-true, eq-eqb}
use Rattle.std.specs.Prelude.{◌≢◌}
use Rattle.lt_terms.specs.Layout.{next_field}

pub next_at : (path : List ℕ) (n : ℕ) → next_field path (path ++ n ∷ []) ≡ Some n
next_at [] n = refl
next_at (a ∷ path) n = rw (eq-eqb a a refl) (next_at path n)

pub next_none : (path : List ℕ) → next_field path (path ++ []) ≡ None
next_none [] = refl
next_none (a ∷ path) = rw (eq-eqb a a refl) (next_none path)

pub next_two : (path rest : List ℕ) (n m : ℕ) → next_field path (path ++ n ∷ m ∷ rest) ≡ None
next_two [] rest n m = refl
next_two (a ∷ path) rest n m = rw (eq-eqb a a refl) (next_two path rest n m)

pub next_not : (path longer : List ℕ) → ((rest : List ℕ) → longer ≢ (path ++ rest)) → next_field path longer ≡ None
next_not [] longer h = absurd (h longer refl)
next_not (a ∷ path) [] h = refl
next_not (a ∷ path) (b ∷ longer) h = by (a == b) refl (λ e. next_not path longer (λ rest f. h rest (same e rest f)))
  where
    same : a ≡ b → (rest : List ℕ) → longer ≡ path ++ rest → (b ∷ longer) ≡ ((a ∷ path) ++ rest)
    same e rest f = let g : b ≡ a = sym e in cc

    by : (t : Bool) → (a == b) ≡ t → (a ≡ b → next_field path longer ≡ None) → cond t (next_field path longer) None ≡ None
    by true e k = k (eqb-true a b e)
    by false e k = refl

-- ---- by how much longer it is

pub by_one : (path rest : List ℕ) → 1 ≤ length rest → length rest < 2 → Some (slice_index_or rest 0 0) ≡ next_field path (path ++ rest)
by_one path [] up low = absurd (omega (arith, up))
by_one path (n ∷ []) up low = sym (next_at path n)
by_one path (n ∷ m ∷ rest) up low = absurd (omega (arith, low))

pub by_none : (path rest : List ℕ) → length rest < 1 → None ≡ next_field path (path ++ rest)
by_none path [] low = sym (next_none path)
by_none path (n ∷ rest) low = absurd (omega (arith, low))

pub by_more : (path rest : List ℕ) → 2 ≤ length rest → None ≡ next_field path (path ++ rest)
by_more path [] up = absurd (omega (arith, up))
by_more path (n ∷ []) up = absurd (omega (arith, up))
by_more path (n ∷ m ∷ rest) up = sym (next_two path rest n m)
