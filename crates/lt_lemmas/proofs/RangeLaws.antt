-- Ranges with rising bounds: a key lies in one of them at most.
use Rattle.std.proofs.Common.{Bool, List, [], ap, false, length, refl, true, ℕ, ◌∙◌, ◌∷◌, ◌≡◌}
use Rattle.std.specs.List.{AllByRecursion}
use Rattle.std.specs.Prelude.{IsTrue, Some, not, ⊤, ◌&&◌, ◌==◌}
use Rattle.std.proofs.lemmas.Bool.{and_parts, false≢true}
use Rattle.lt_terms.specs.Key.{Range, below, first_bound, in_range, is_below_high, ranges_from, rise, tile}
use Rattle.lt_lemmas.proofs.PointLaws.{below_trans}

-- the key lies in none of the ranges
abbrev pub IsOutOf : List ℕ → List Range → Type 0
IsOutOf key rs = AllByRecursion (λ r. in_range key r ≡ false) rs

-- behind a range with the key stands none with it
abbrev pub IsSole : List ℕ → List Range → Type 0
IsSole key [] = ⊤
IsSole key (r ∷ rs) = (in_range key r ≡ true → IsOutOf key rs) × IsSole key rs

below_out : (key low : List ℕ) (r : Range) → r.low ≡ low → below key low ≡ true → in_range key r ≡ false
below_out key low r e h = ap (λ (b : Bool). not b && is_below_high key r.high) (ap (below key) e ∙ h)

all_out : (key low : List ℕ) (lows : List (List ℕ)) → below key low ≡ true → IsTrue (rise (low ∷ lows)) → IsOutOf key (ranges_from (low ∷ lows))
all_out key low [] h r = (below_out key low (record { low = low; high = first_bound [] }) refl h, tt)
all_out key low (next ∷ lows) h r = let p = and_parts (below low next) (rise (next ∷ lows)) r in
    (below_out key low (record { low = low; high = Some next }) refl h, all_out key next lows (below_trans key low next h p.0) p.1)

pub ranges_sole : (key : List ℕ) (lows : List (List ℕ)) → IsTrue (rise lows) → IsSole key (ranges_from lows)
ranges_sole key [] r = tt
ranges_sole key (low ∷ []) r = ((λ h. tt), tt)
ranges_sole key (low ∷ next ∷ lows) r = let p = and_parts (below low next) (rise (next ∷ lows)) r in
    ((λ h. all_out key next lows (and_parts (not (below key low)) (below key next) h).1 p.1), ranges_sole key (next ∷ lows) p.1)

pub tile_rises : (lows : List (List ℕ)) → IsTrue (tile lows) → IsTrue (rise lows)
tile_rises [] t = refl
tile_rises (low ∷ lows) t = (and_parts (length low == 0) (rise (low ∷ lows)) t).1

pub tile_sole : (key : List ℕ) (lows : List (List ℕ)) → IsTrue (tile lows) → IsSole key (ranges_from lows)
tile_sole key [] t = absurd (false≢true t)
tile_sole key (low ∷ lows) t = ranges_sole key (low ∷ lows) (and_parts (length low == 0) (rise (low ∷ lows)) t).1
