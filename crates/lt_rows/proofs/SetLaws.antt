-- What is set of each column, once settings were laid over what was set before.
use Rattle.std.proofs.Common.{Bool, List, [], ap, ap₂, cond, refl, sym, ℕ, arith, ◌∙◌, ◌∷◌, ◌++◌, ◌≡◌, reverse}
use Rattle.std.specs.Prelude.{Option, Some, fold, ◌==◌}
use Rattle.std.specs.BTreeMap.{is_at}
use Rattle.std.specs.Map.{lookup}
use Rattle.std.specs.Ordering.{nat_cmp}
use Rattle.std.proofs.lemmas.Bool.Decides.{nat_tests}
use Rattle.std.proofs.lemmas.Cmp.{nat_cmp_total}
use Rattle.std.proofs.lemmas.List.{reverse-append}
use Rattle.std.proofs.lemmas.List.Sums.{fold-append}
use Rattle.std.proofs.lemmas.Map.Lookups.{exact_unsigned}
use Rattle.lt_terms.specs.Value.{Value}
use Rattle.lt_terms.specs.Layout.{setting}
use Rattle.lt_rows.specs.Present.{Set, laid_over, put_setting}
use Rattle.lt_rows.proofs.Entries.{IsOrder, lookup_insert}

pub numbers : IsOrder nat_cmp
numbers = record { total = nat_cmp_total; exact = exact_unsigned }

at_number : (n m : ℕ) → is_at (nat_cmp n) m ≡ (n == m)
at_number n m = grind (arith, nat_tests)

-- a look-up by number is the setting
pub found_setting : (n : ℕ) (set : Set) → lookup (is_at (nat_cmp n)) set ≡ setting n set
found_setting n [] = refl
found_setting n (s ∷ ss) = ap₂ (λ (b : Bool) (o : Option Value). cond b (Some s.1) o) (at_number n s.0) (found_setting n ss)

put_found : (n : ℕ) (was : Set) (s : ℕ × Value) → setting n (put_setting was s) ≡ cond (n == s.0) (Some s.1) (setting n was)
put_found n was s = sym (found_setting n (put_setting was s)) ∙ lookup_insert nat_cmp numbers n s.0 s.1 was
    ∙ ap₂ (λ (b : Bool) (o : Option Value). cond b (Some s.1) o) (at_number n s.0) (found_setting n was)

laid_first : (s : ℕ × Value) (ss : List (ℕ × Value)) (was : Set) → laid_over (s ∷ ss) was ≡ put_setting (laid_over ss was) s
laid_first s ss was = ap (fold put_setting was) (reverse-append (s ∷ []) ss) ∙ fold-append put_setting was (reverse ss) (s ∷ [])

-- Of settings over what was set before, each column has the first.
pub laid_setting : (n : ℕ) (set : List (ℕ × Value)) (was : Set) → setting n (laid_over set was) ≡ setting n (set ++ was)
laid_setting n [] was = refl
laid_setting n (s ∷ ss) was = ap (setting n) (laid_first s ss was) ∙ put_found n (laid_over ss was) s ∙ ap (cond (n == s.0) (Some s.1)) (laid_setting n ss was)

-- so it goes by the settings alone
pub over_same : (n : ℕ) (set was other : List (ℕ × Value)) → setting n was ≡ setting n other → setting n (set ++ was) ≡ setting n (set ++ other)
over_same n [] was other h = h
over_same n (s ∷ ss) was other h = ap (cond (n == s.0) (Some s.1)) (over_same n ss was other h)
