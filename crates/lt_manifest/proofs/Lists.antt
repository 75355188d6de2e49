-- Lists whose items are seen as they are, and lists of partitions.
use Rattle.std.proofs.Common.{List, Option, Some, [], ap, map, refl, subst, sym, ℕ, ◌∙◌, ◌∷◌, ◌≡◌}
use Rattle.std.specs.declared.result.Result.{Result}
use Rattle.std.specs.declared.result.Result.TheVariants.{Err, Ok}
use Rattle.lt_codecs.specs.Codec.{◌>>=◌, read_times}
use Rattle.lt_manifest.specs.Reading.{Gives}
use Rattle.lt_manifest.specs.View.{view_part}
use Rattle.lt_manifest.specs.declared.reading.fault.Stop.{Stop}
use Rattle.lt_manifest.specs.declared.stored.PartStored.{PartStored}

pub map_same : {A : Type 0} (xs : List A) → map (λ x. x) xs ≡ xs
map_same [] = refl
map_same (x ∷ xs) = ap (λ ys. x ∷ ys) (map_same xs)

gives_same : {A : Type 0} (read : Option (List A × List ℕ)) (r : Result (List A) Stop) (left : List ℕ) → Gives (map (λ x. x)) read r left → Gives (λ xs. xs) read r left
gives_same read (Ok xs) left g = g ∙ ap (λ ys. Some (ys, left)) (map_same xs)
gives_same read (Err e) left g = g

-- items behind a count that was read
pub gives_counted : {A : Type 0} (one : List ℕ → Option (A × List ℕ)) (count : Option (ℕ × List ℕ)) (m n : ℕ) (behind : List ℕ) (r : Result (List A) Stop) (left : List ℕ) → count ≡ Some (n, behind) → m ≡ n → Gives (map (λ x. x)) (read_times one m behind) r left
    → Gives (λ xs. xs) (count >>= λ k. read_times one k.0 k.1) r left
gives_counted {A} one count m n behind r left e same g =
    let is : count ≡ Some (m, behind) = e ∙ ap (λ k. Some (k, behind)) (sym same) in
    subst (λ (c : Option (ℕ × List ℕ)). Gives (λ xs. xs) (c >>= λ k. read_times one k.0 k.1) r left) (sym is) (gives_same (read_times one m behind) r left g)

pub lows : (ps : List PartStored) → map (λ p. p.low) (map view_part ps) ≡ map (λ p. p.low) ps
lows [] = refl
lows (p ∷ ps) = ap (λ ls. p.low ∷ ls) (lows ps)
