-- What the calls on the code's maps make of the rows and settings that these stand for.
use Rattle.std.proofs.Common.{List, [], ap, sym, ℕ, ◌∙◌, ◌∷◌, ◌++◌, ◌≡◌}
use Rattle.std.specs.Borrow.{Bor}
use Rattle.std.specs.Prelude.{Err, IfOk, None, Ok, OnOk, Option, Result, Some, fold, option_map}
use Rattle.std.specs.BTreeMap.{insert_entry, is_at}
use Rattle.std.specs.Map.{lookup, remove_entry, set_value}
use Rattle.std.specs.Option.{option_map_or}
use Rattle.std.specs.Ordering.{nat_cmp}
use Rattle.lt_core.specs.declared.value.Value.{Value as CodeValue}
use Rattle.std.proofs.lemmas.List.{map-append, reverse-append}
use Rattle.lt_core.specs.View.{view_setting, view_settings, view_value}
use Rattle.lt_terms.specs.Value.{Value}
use Rattle.lt_terms.specs.Key.{bytes_cmp}
use Rattle.lt_terms.specs.Layout.{setting}
use Rattle.lt_rows.specs.declared.present.Present.{Present as CodePresent}
use Rattle.lt_rows.specs.Present.{Present, Rows, Set, laid_over, put_setting, updated}
use Rattle.lt_rows.specs.View.{view_present, view_rows, view_set}
use Rattle.lt_rows.proofs.SetLaws.{found_setting}
use Rattle.lt_rows.proofs.Views.{changed, found, inserted, removed}

pub on_ok : {T E P Q : Type 0} (r : Result T E) → (P → Q) → OnOk r P → OnOk r Q
on_ok (Ok x) f h = f h
on_ok (Err e) f h = h

pub if_ok : {T E : Type 0} {P Q : T → Type 0} (r : Result T E) → ((x : T) → P x → Q x) → IfOk r P → IfOk r Q
if_ok (Ok x) f h = f x h
if_ok (Err e) f h = h

pub put_view : (key : List ℕ) (row : CodePresent) (es : List (List ℕ × CodePresent)) → view_rows (insert_entry bytes_cmp es key row) ≡ insert_entry bytes_cmp (view_rows es) key (view_present row)
put_view key row es = inserted bytes_cmp view_present es key row

pub removed_view : (key : List ℕ) (es : List (List ℕ × CodePresent)) → view_rows (remove_entry (is_at (bytes_cmp key)) es) ≡ remove_entry (is_at (bytes_cmp key)) (view_rows es)
removed_view key es = removed view_present (is_at (bytes_cmp key)) es

abbrev updated_by : List ℕ → List (ℕ × Value) → Rows → Option Present → Rows
updated_by key set rows o = option_map_or (λ was. set_value (is_at (bytes_cmp key)) rows (was.0, laid_over set was.1)) o rows

pub updated_none : (key : List ℕ) (set : List (ℕ × Value)) (es : List (List ℕ × CodePresent)) → lookup (is_at (bytes_cmp key)) es ≡ None → view_rows es ≡ updated key set (view_rows es)
updated_none key set es h = sym (ap (updated_by key set (view_rows es)) (found view_present (is_at (bytes_cmp key)) es ∙ ap (option_map view_present) h))

pub updated_some : (key : List ℕ) (set : List (ℕ × Value)) (es : List (List ℕ × CodePresent)) (was now : CodePresent) → lookup (is_at (bytes_cmp key)) es ≡ Some was → view_present now ≡ ((view_present was).0, laid_over set (view_present was).1)
    → view_rows (set_value (is_at (bytes_cmp key)) es now) ≡ updated key set (view_rows es)
updated_some key set es was now h e = changed view_present (is_at (bytes_cmp key)) es now ∙ ap (set_value (is_at (bytes_cmp key)) (view_rows es)) e
    ∙ sym (ap (updated_by key set (view_rows es)) (found view_present (is_at (bytes_cmp key)) es ∙ ap (option_map view_present) h))

-- what was set of a column, by a look-up
pub set_found : (n : ℕ) (es : List (ℕ × Bor CodeValue)) (o : Option (Bor CodeValue)) → lookup (is_at (nat_cmp n)) es ≡ o → setting n (view_set es) ≡ option_map (λ v. view_value v.now) o
set_found n es o h = sym (found_setting n (view_set es)) ∙ found (λ v. view_value v.now) (is_at (nat_cmp n)) es ∙ ap (option_map (λ (v : Bor CodeValue). view_value v.now)) h

-- a setting is laid over before those that stand in front of it
laid_last : (ss : List (ℕ × Value)) (s : ℕ × Value) (was : Set) → laid_over (ss ++ s ∷ []) was ≡ laid_over ss (put_setting was s)
laid_last ss s was = ap (fold put_setting was) (reverse-append ss (s ∷ []))

pub laid_next : (left left' : List (ℕ × CodeValue)) (x : ℕ × CodeValue) (was new : List (ℕ × Bor CodeValue)) (v : Bor CodeValue) → left ≡ left' ++ x ∷ [] → v.now ≡ x.1 → new ≡ insert_entry nat_cmp was x.0 v
    → laid_over (view_settings left') (view_set new) ≡ laid_over (view_settings left) (view_set was)
laid_next left left' x was new v e d n =
    ap (λ es. laid_over (view_settings left') (view_set es)) n
    ∙ ap (laid_over (view_settings left')) (inserted nat_cmp (λ (b : Bor CodeValue). view_value b.now) was x.0 v ∙ ap (λ (w : CodeValue). insert_entry nat_cmp (view_set was) x.0 (view_value w)) d)
    ∙ sym (ap (λ (ss : List (ℕ × Value)). laid_over ss (view_set was)) (ap view_settings e ∙ map-append view_setting left' (x ∷ [])) ∙ laid_last (view_settings left') (view_setting x) (view_set was))
