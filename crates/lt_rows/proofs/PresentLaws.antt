-- The fold of a table's changes follows each key's row.
use Rattle.std.proofs.Common.{Bool, List, [], ap, append-nil, cond, eq-eqb, false, refl, subst, sym, true, ℕ, ◌∙◌, ◌∷◌, ◌++◌, ◌≡◌}
use Rattle.std.specs.Prelude.{None, Option, Some, filter, fold, nat_le, option_map, ⊤, ◌&&◌, ◌==◌}
use Rattle.std.specs.BTreeMap.{insert_entry, is_at}
use Rattle.std.specs.List.{AllByRecursion}
use Rattle.std.specs.Map.{lookup, set_value}
use Rattle.std.specs.Option.{option_map_or}
use Rattle.std.proofs.lemmas.Bool.{and_parts}
use Rattle.std.proofs.lemmas.Cmp.{nat_list_cmp_total}
use Rattle.std.proofs.lemmas.Map.Lookups.{exact_bytes}
use Rattle.lt_terms.specs.declared.Op.{Op}
use Rattle.lt_terms.specs.declared.Op.TheVariants as ops
use Rattle.lt_terms.specs.Value.{Value}
use Rattle.lt_tables.specs.Fair.{changes_to}
use Rattle.lt_terms.specs.Key.{KeyPart, bytes_cmp, same_key}
use Rattle.lt_tables.specs.Row.{AreKeyed, IsKeyed}
use Rattle.lt_terms.specs.Layout.{setting}
use Rattle.lt_terms.specs.Log.{Change, change_key}
use Rattle.lt_tables.specs.Row.{Row, after_change, changes_up_to, row_by}
use Rattle.lt_tables.specs.Schema.{Catalogue}
use Rattle.lt_lemmas.proofs.PointLaws.{same, swapped}
use Rattle.lt_lemmas.proofs.SnapshotLaws.{IsNamed, Named, all_named, table_of_key}
use Rattle.lt_rows.specs.Present.{Present, Rows, counts, laid_over, present_by, rows_by, with_change, with_counted}
use Rattle.lt_rows.proofs.Entries.{IsOrder, Rises, at_itself, found_all, insert_all, insert_rises, lookup_insert, lookup_remove, lookup_set, remove_all, remove_rises, set_all, set_apart, set_rises}
use Rattle.lt_rows.proofs.SetLaws.{laid_setting, over_same}

pub bytes : IsOrder bytes_cmp
bytes = record { total = nat_list_cmp_total; exact = exact_bytes }

abbrev pub found : List ℕ → Rows → Option Present
found key rows = lookup (is_at (bytes_cmp key)) rows

-- what is present tells a row: each column has what the row set
abbrev pub Tells : Option Present → Row → Type 0
Tells None None = ⊤
Tells None (Some set) = ⊥
Tells (Some p) None = ⊥
Tells (Some p) (Some set) = (n : ℕ) → setting n p.1 ≡ setting n set

-- ---- a change of this key

put_found : (key : List ℕ) (p : Present) (rows : Rows) → found key (insert_entry bytes_cmp rows key p) ≡ Some p
put_found key p rows = lookup_insert bytes_cmp bytes key key p rows ∙ ap (λ (b : Bool). cond b (Some p) (found key rows)) (at_itself bytes_cmp bytes key)

put_tells : (key : List ℕ) (parts : List KeyPart) (set : List (ℕ × Value)) (rows : Rows) → Tells (found key (insert_entry bytes_cmp rows key (parts, laid_over set []))) (Some set)
put_tells key parts set rows = subst (λ (o : Option Present). Tells o (Some set)) (sym (put_found key (parts, laid_over set []) rows)) (λ n. laid_setting n set [] ∙ ap (setting n) (append-nil set))

updated_tells : (key : List ℕ) (set : List (ℕ × Value)) (rows : Rows) (o : Option Present) (r : Row) → found key rows ≡ o → Tells o r
    → Tells (found key (option_map_or (λ was. set_value (is_at (bytes_cmp key)) rows (was.0, laid_over set was.1)) o rows)) (option_map (λ was. set ++ was) r)
updated_tells key set rows None None e h = subst (λ (o : Option Present). Tells o None) (sym e) tt
updated_tells key set rows None (Some was) e h = absurd h
updated_tells key set rows (Some p) None e h = absurd h
updated_tells key set rows (Some p) (Some was) e h = subst (λ (o : Option Present). Tells o (Some (set ++ was))) (sym (lookup_set (is_at (bytes_cmp key)) (p.0, laid_over set p.1) p rows e))
    (λ n. laid_setting n set p.1 ∙ over_same n set p.1 was (h n))

step_here : (op : Op) (key : List ℕ) (parts : List KeyPart) (set : List (ℕ × Value)) (rows : Rows) (r : Row) → Rises bytes_cmp rows → Tells (found key rows) r → Tells (found key (rows_by op key parts set rows)) (row_by op set r)
step_here ops.Insert key parts set rows r g h = put_tells key parts set rows
step_here ops.Update key parts set rows r g h = updated_tells key set rows (found key rows) r refl h
step_here ops.Delete key parts set rows r g h = subst (λ (o : Option Present). Tells o None)
    (sym (lookup_remove bytes_cmp bytes key key rows g ∙ ap (λ (b : Bool). cond b None (found key rows)) (at_itself bytes_cmp bytes key))) tt

-- ---- a change of another key

updated_apart : (key other : List ℕ) (set : List (ℕ × Value)) (rows : Rows) (o : Option Present) → is_at (bytes_cmp key) other ≡ false
    → found key (option_map_or (λ was. set_value (is_at (bytes_cmp other)) rows (was.0, laid_over set was.1)) o rows) ≡ found key rows
updated_apart key other set rows None h = refl
updated_apart key other set rows (Some p) h = set_apart bytes_cmp bytes key other (p.0, laid_over set p.1) rows h

step_apart : (op : Op) (key other : List ℕ) (parts : List KeyPart) (set : List (ℕ × Value)) (rows : Rows) → Rises bytes_cmp rows → is_at (bytes_cmp key) other ≡ false → found key (rows_by op other parts set rows) ≡ found key rows
step_apart ops.Insert key other parts set rows g h = lookup_insert bytes_cmp bytes key other (parts, laid_over set []) rows ∙ ap (λ (b : Bool). cond b (Some (parts, laid_over set [])) (found key rows)) h
step_apart ops.Update key other parts set rows g h = updated_apart key other set rows (found other rows) h
step_apart ops.Delete key other parts set rows g h = lookup_remove bytes_cmp bytes key other rows g ∙ ap (λ (b : Bool). cond b None (found key rows)) h

-- ---- good rows: by rising key, each with the parts that its key's bytes spell

abbrev pub IsNamedRow : Catalogue → ℕ → List ℕ × Present → Type 0
IsNamedRow cat table e = IsNamed cat table (e.0, e.1.0)

pub record Good (cat : Catalogue) (table : ℕ) (rows : Rows) : Type 0 where
  pub rises : Rises bytes_cmp rows
  pub named : AllByRecursion (IsNamedRow cat table) rows

updated_good : (cat : Catalogue) (table : ℕ) (key : List ℕ) (set : List (ℕ × Value)) (rows : Rows) (o : Option Present) → found key rows ≡ o → Good cat table rows
    → Good cat table (option_map_or (λ was. set_value (is_at (bytes_cmp key)) rows (was.0, laid_over set was.1)) o rows)
updated_good cat table key set rows None e g = g
updated_good cat table key set rows (Some p) e g =
    let n : IsNamedRow cat table (key, p) = found_all bytes_cmp bytes (IsNamedRow cat table) key p rows e g.named in record {
      rises = set_rises bytes_cmp (is_at (bytes_cmp key)) (p.0, laid_over set p.1) rows g.rises;
      named = set_all bytes_cmp bytes (IsNamedRow cat table) key (p.0, laid_over set p.1) n rows g.named;
    }

step_good : (cat : Catalogue) (table : ℕ) (op : Op) (key : List ℕ) (parts : List KeyPart) (set : List (ℕ × Value)) (rows : Rows) → IsNamed cat table (key, parts) → Good cat table rows → Good cat table (rows_by op key parts set rows)
step_good cat table ops.Insert key parts set rows n g = record {
  rises = insert_rises bytes_cmp bytes key (parts, laid_over set []) rows g.rises;
  named = insert_all bytes_cmp bytes (IsNamedRow cat table) key (parts, laid_over set []) n rows g.named;
}
step_good cat table ops.Update key parts set rows n g = updated_good cat table key set rows (found key rows) refl g
step_good cat table ops.Delete key parts set rows n g = record {
  rises = remove_rises bytes_cmp (is_at (bytes_cmp key)) rows g.rises;
  named = remove_all (IsNamedRow cat table) (is_at (bytes_cmp key)) rows g.named;
}

counted_by : (cat : Catalogue) (table : ℕ) (rows : Rows) (c : Change) (b : Bool) → (b ≡ true → (c.table == table) ≡ true) → IsKeyed cat c → Good cat table rows → Good cat table (cond b (with_change rows c) rows)
counted_by cat table rows c true h k g = step_good cat table c.op (change_key c) c.key c.set rows ((all_named cat table (c ∷ []) (k, tt)).0 (h refl)) g
counted_by cat table rows c false h k g = g

of_table : (table at : ℕ) (c : Change) → counts table at c ≡ true → (c.table == table) ≡ true
of_table table at c h = (and_parts (c.table == table) (nat_le c.ts at) h).0

counted_good : (cat : Catalogue) (table at : ℕ) (rows : Rows) (c : Change) → IsKeyed cat c → Good cat table rows → Good cat table (with_counted table at rows c)
counted_good cat table at rows c k g = counted_by cat table rows c (counts table at c) (of_table table at c) k g

pub all_good : (cat : Catalogue) (table at : ℕ) (rows : Rows) (cs : List Change) → AreKeyed cat cs → Good cat table rows → Good cat table (present_by table at rows cs)
all_good cat table at rows [] k g = g
all_good cat table at rows (c ∷ cs) k g = all_good cat table at (with_counted table at rows c) cs k.1 (counted_good cat table at rows c k.0 g)

-- ---- the fold follows each key's row

changed_here : (rows : Rows) (c : Change) (key : List ℕ) (r : Row) → Rises bytes_cmp rows → same_key (change_key c) key ≡ true → Tells (found key rows) r → Tells (found key (with_change rows c)) (after_change r c)
changed_here rows c key r g s h = let e : change_key c ≡ key = same (change_key c) key s in
    subst (λ (k : List ℕ). Tells (found key (rows_by c.op k c.key c.set rows)) (after_change r c)) (sym e) (step_here c.op key c.key c.set rows r g h)

changed_apart : (rows : Rows) (c : Change) (key : List ℕ) → Rises bytes_cmp rows → same_key (change_key c) key ≡ false → found key (with_change rows c) ≡ found key rows
changed_apart rows c key g s = step_apart c.op key (change_key c) c.key c.set rows g (swapped key (change_key c) ∙ s)

abbrev up_to : ℕ → List Change → List Change
up_to at cs = filter (λ c. nat_le c.ts at) cs

abbrev Follows : Catalogue → ℕ → ℕ → Named → List Change → Type 0
Follows cat table at x cs = (rows : Rows) (r : Row) → Good cat table rows → Tells (found x.0 rows) r → Tells (found x.0 (present_by table at rows cs)) (fold after_change r (changes_up_to x.0 at cs))

follows_by : (cat : Catalogue) (table at : ℕ) (x : Named) (c : Change) (cs : List Change) (s w : Bool) → same_key (change_key c) x.0 ≡ s → counts table at c ≡ w → (s ≡ true → nat_le c.ts at ≡ w) → IsKeyed cat c
    → Follows cat table at x cs → (rows : Rows) (r : Row) → Good cat table rows → Tells (found x.0 rows) r
    → Tells (found x.0 (present_by table at (cond w (with_change rows c) rows) cs)) (fold after_change r (up_to at (cond s (c ∷ changes_to x.0 cs) (changes_to x.0 cs))))
follows_by cat table at x c cs true true e d t k ih rows r g h =
    subst (λ (b : Bool). Tells (found x.0 (present_by table at (with_change rows c) cs)) (fold after_change r (cond b (c ∷ changes_up_to x.0 at cs) (changes_up_to x.0 at cs)))) (sym (t refl))
    (ih (with_change rows c) (after_change r c) (counted_by cat table rows c true (λ i. of_table table at c d) k g) (changed_here rows c x.0 r g.rises e h))
follows_by cat table at x c cs true false e d t k ih rows r g h =
    subst (λ (b : Bool). Tells (found x.0 (present_by table at rows cs)) (fold after_change r (cond b (c ∷ changes_up_to x.0 at cs) (changes_up_to x.0 at cs)))) (sym (t refl)) (ih rows r g h)
follows_by cat table at x c cs false true e d t k ih rows r g h =
    ih (with_change rows c) r (counted_by cat table rows c true (λ i. of_table table at c d) k g) (subst (λ (o : Option Present). Tells o r) (sym (changed_apart rows c x.0 g.rises e)) h)
follows_by cat table at x c cs false false e d t k ih rows r g h = ih rows r g h

-- a change of the key is one of the table
of_key : (cat : Catalogue) (table at : ℕ) (x : Named) (c : Change) → IsNamed cat table x → IsKeyed cat c → same_key (change_key c) x.0 ≡ true → nat_le c.ts at ≡ counts table at c
of_key cat table at x c n k s = sym (ap (λ (b : Bool). b && nat_le c.ts at) (eq-eqb c.table table (table_of_key cat table x c n k s)))

pub follows : (cat : Catalogue) (table at : ℕ) (x : Named) (cs : List Change) → IsNamed cat table x → AreKeyed cat cs → Follows cat table at x cs
follows cat table at x [] n k rows r g h = h
follows cat table at x (c ∷ cs) n k rows r g h =
    follows_by cat table at x c cs (same_key (change_key c) x.0) (counts table at c) refl refl (of_key cat table at x c n k.0) k.0 (follows cat table at x cs n k.1) rows r g h
