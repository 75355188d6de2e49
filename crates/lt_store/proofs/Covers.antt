-- A layout against the carriers, leaf by leaf.
use Rattle.std.proofs.Common.{Bool, List, Option, Some, ap, get_or, is_some, subst, sym, ℕ, ◌&&◌, ◌+◌, ◌<◌, ◌∙◌, ◌≡◌}
use Rattle.std.specs.Prelude.{drop, length}
use Rattle.std.proofs.lemmas.List.{at_drop_more}
use Rattle.lt_terms.specs.Layout as layouts
use Rattle.lt_tables.specs.Schema as schema
use Rattle.lt_tables.specs.Schema.{Catalogue, Table, table_numbered}
use Rattle.lt_storage.specs.Store.{is_covered, leaf_covered}
use Rattle.lt_core.specs.View.{view_layout, view_leaf}
use Rattle.lt_core.specs.declared.leaf.Leaf.{Leaf}
use Rattle.lt_lemmas.proofs.VersionGrowth.{its_number}

-- one leaf of a layout more
pub covered_more : (cat : Catalogue) (n : ℕ) (xs : List Leaf) (i : ℕ) (x : Leaf) (found : Bool) → i < length xs → x ≡ get_or xs i x → found ≡ leaf_covered cat n (view_leaf x)
    → is_covered cat n (view_layout (drop i xs)) ≡ (found && is_covered cat n (view_layout (drop (i + 1) xs)))
covered_more cat n xs i x found there is at =
    at_drop_more (λ ys. is_covered cat n (view_layout ys)) xs i x there
    ∙ ap (λ y. leaf_covered cat n (view_leaf y) && is_covered cat n (view_layout (drop (i + 1) xs))) (sym is)
    ∙ ap (λ b. b && is_covered cat n (view_layout (drop (i + 1) xs))) (sym at)

-- the table that was found has the number
pub found_so : (cat : Catalogue) (n : ℕ) (t : Table) → table_numbered cat n ≡ Some t → table_numbered cat t.number ≡ Some t
found_so cat n t is = subst (λ k. table_numbered cat k ≡ Some t) (sym (its_number cat n t is)) is

pub found_in : (cat tables : Catalogue) (n : ℕ) (t : Table) → tables ≡ cat → Some t ≡ table_numbered tables n → table_numbered cat n ≡ Some t
found_in cat tables n t same found = ap (λ ts. table_numbered ts n) (sym same) ∙ sym found

pub its_carriers : (cat : Catalogue) (n : ℕ) (t : Table) (layout : List layouts.Leaf) → table_numbered cat n ≡ Some t → layout ≡ schema.carriers cat n → layout ≡ schema.carriers cat t.number
its_carriers cat n t layout found is = is ∙ ap (schema.carriers cat) (sym (its_number cat n t found))

pub known_where : (cat : Catalogue) (n : ℕ) (t : Table) (layout : List layouts.Leaf) (covered : Bool) → table_numbered cat n ≡ Some t → covered ≡ is_covered cat t.number layout
    → covered ≡ (is_some (table_numbered cat n) && is_covered cat n layout)
known_where cat n t layout covered found is =
    is ∙ ap (λ k. is_covered cat k layout) (its_number cat n t found) ∙ ap (λ (o : Option Table). is_some o && is_covered cat n layout) (sym found)
