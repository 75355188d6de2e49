-- The numbers of an enum, as a loop goes over them.
use Rattle.std.proofs.Common.{List, None, Option, Some, [], false, ap, arith, cond, get_or, length, refl, true, take, ◌+◌, ◌++◌, ◌<◌, ◌∙◌, ◌∷◌, ◌≡◌, ℕ, ℤ, drop, map, sym, Bool, w32}
use Rattle.std.specs.Prelude.{find, int_lt, not}
use Rattle.std.specs.Option.{option_or}
use Rattle.std.proofs.lemmas.Int.{ints}
use Rattle.std.specs.Prelude.{FitsSigned}
use Rattle.std.proofs.lemmas.List.{drop_more, map_push, take_more}
use Rattle.std.proofs.lemmas.List.Folds.{find-append}
use Rattle.lt_terms.specs.Value.{fits_32}
use Rattle.lt_tables.specs.Schema.{not_rising}
use Rattle.lt_schema.specs.Numbers.{not_above}

-- the one before, if there is one, and those that follow
abbrev pub from_before : Option ℤ → List (ℤ × List ℕ) → List ℤ
from_before None names = map (λ n. n.0) names
from_before (Some z) names = z ∷ map (λ n. n.0) names

-- none of the names passed is out of range, and what was found or is still to be found is what there is
pub record Passed (fault before : Option ℤ) (at : ℕ) (names : List (ℤ × List ℕ)) : Type 0 where
  pub fit : find (λ z. not (fits_32 z)) (map (λ n. n.0) (take at names)) ≡ None
  pub first : option_or fault (not_rising (from_before before (drop at names))) ≡ not_rising (map (λ n. n.0) names)

pub fits : (z : ℤ) → FitsSigned w32 z → fits_32 z ≡ true
fits z f = grind (arith, ints)

or_assoc : {A : Type 0} (a b c : Option A) → option_or (option_or a b) c ≡ option_or a (option_or b c)
or_assoc None b c = refl
or_assoc (Some x) b c = refl

one_by : (a z : ℤ) (rest : List ℤ) (b : Bool) → cond b (not_rising (z ∷ rest)) (Some z) ≡ option_or (cond b None (Some z)) (not_rising (z ∷ rest))
one_by a z rest true = refl
one_by a z rest false = refl

one_on : (before : Option ℤ) (n : ℤ × List ℕ) (rest : List (ℤ × List ℕ)) → not_rising (from_before before (n ∷ rest)) ≡ option_or (not_above before n.0) (not_rising (from_before (Some n.0) rest))
one_on None n rest = refl
one_on (Some a) n rest = one_by a n.0 (map (λ n. n.0) rest) (int_lt a n.0)

abbrev unfit : ℤ → Bool
unfit z = not (fits_32 z)

pub passed_more : (fault before : Option ℤ) (at : ℕ) (names : List (ℤ × List ℕ)) (n : ℤ × List ℕ) → Passed fault before at names → at < length names → n ≡ get_or names at n → FitsSigned w32 n.0
    → Passed (option_or fault (not_above before n.0)) (Some n.0) (at + 1) names
passed_more fault before at names n p lt is f =
    let front : take (at + 1) names ≡ take at names ++ n ∷ [] = take_more names at n lt ∙ ap (λ (m : ℤ × List ℕ). take at names ++ m ∷ []) (sym is) in
    let rest : drop at names ≡ n ∷ drop (at + 1) names = drop_more names at n lt ∙ ap (λ (m : ℤ × List ℕ). m ∷ drop (at + 1) names) (sym is) in
    record {
      fit = ap (λ ns. find unfit (map (λ n. n.0) ns)) front ∙ ap (find unfit) (map_push (λ n. n.0) (take at names) n) ∙ find-append unfit (map (λ n. n.0) (take at names)) (n.0 ∷ [])
          ∙ ap (λ o. option_or o (find unfit (n.0 ∷ []))) p.fit ∙ ap (λ b. cond (not b) (Some n.0) None) (fits n.0 f);
      first = or_assoc fault (not_above before n.0) (not_rising (from_before (Some n.0) (drop (at + 1) names)))
          ∙ ap (option_or fault) (sym (one_on before n (drop (at + 1) names)) ∙ ap (λ (ns : List (ℤ × List ℕ)). not_rising (from_before before ns)) (sym rest)) ∙ p.first;
    }
