-- The value of a field, by what is set of it.
use Rattle.std.proofs.Common.{Bool, List, None, Option, Some, ap, cond, refl, sym, ℕ, ◌==◌, ◌∙◌, ◌∷◌, ◌≡◌, [], true, false}
use Rattle.std.specs.Prelude.{option_map, unwrap_or}
use Rattle.std.specs.Borrow.{Bor}
use Rattle.std.specs.Option.{option_copied}
use Rattle.lt_terms.specs.Layout.{setting}
use Rattle.lt_terms.specs.Value.{Value, fields_of, null_value, value_at}
use Rattle.lt_core.specs.declared.value.Value.{Value as CodeValue}
use Rattle.lt_core.specs.View.{view_value}
use Rattle.lt_physical.specs.Cells.{value_found}

found_or_null : (o : Option (Bor CodeValue)) → value_found o ≡ unwrap_or (option_map view_value (option_copied o)) null_value
found_or_null None = refl
found_or_null (Some v) = refl

set_or_null : (n : ℕ) (ss : List (ℕ × Value)) → value_at n (fields_of ss) ≡ unwrap_or (setting n ss) null_value
set_or_null n [] = refl
set_or_null n (s ∷ ss) = by (n == s.0) (set_or_null n ss)
  where
    by : (b : Bool) → value_at n (fields_of ss) ≡ unwrap_or (setting n ss) null_value → cond b s.1 (value_at n (fields_of ss)) ≡ unwrap_or (cond b (Some s.1) (setting n ss)) null_value
    by true h = refl
    by false h = h

pub found_at : (o : Option (Bor CodeValue)) (n : ℕ) (ss : List (ℕ × Value)) → option_map view_value (option_copied o) ≡ setting n ss → value_found o ≡ value_at n (fields_of ss)
found_at o n ss e = found_or_null o ∙ ap (λ x. unwrap_or x null_value) e ∙ sym (set_or_null n ss)
