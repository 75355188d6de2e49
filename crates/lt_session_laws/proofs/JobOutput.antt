-- What a compaction's output holds: its inputs merged, and collapsed where it is major, under each catalogue that its own became.
use Rattle.std.proofs.Common.{Bool, List, [], ap, arith, cond, eqb-true, false, length, refl, subst, sym, true, ℕ, ◌∙◌, ◌∷◌, ◌≡◌}
use Rattle.std.specs.Prelude.{Contains, IsTrue, None, Option, Some, map, ◌==◌}
use Rattle.std.specs.List.{AllByRecursion}
use Rattle.std.specs.Option.{option_map_or}
use Rattle.lt_terms.specs.Key.{Range, in_range}
use Rattle.lt_terms.specs.Kind.{Kind}
use Rattle.lt_terms.specs.Layout.{Leaf, layout_of, with_cells}
use Rattle.lt_tables.specs.Version.{RowVersion, clip, coerce_all, coerced, collapse, compose, is_ordered, is_version, merge}
use Rattle.lt_tables.specs.Schema.{Became, Catalogue, IsCatalogue, Table, as_it_was, carrier_layout, carriers, table_numbered, then_added, then_retired, with_version, without_version}
use Rattle.lt_storage.specs.Store.{AreLawfulTables, Delta, IsKeyBytes, IsLawfulTable, TableDelta, carried_versions, is_covered, table_of, versions_in}
use Rattle.lt_machine.specs.Machine.{delta_of, table_delta}
use Rattle.lt_codecs.proofs.ListFacts.{all_map}
use Rattle.lt_lemmas.proofs.TableLaws.{fine_table}
use Rattle.lt_lemmas.proofs.ListFacts.{all_from, find_held}
use Rattle.lt_lemmas.proofs.MergeLaws.{clip-ordered}
use Rattle.lt_laws.proofs.LeafLaws.{AreColumns, IsMarked}
use Rattle.lt_laws.proofs.TableGrowth.{are_columns, cols, layout_columns}
use Rattle.lt_laws.proofs.CollapseLaws.{IsMade, PassesOver, collapse_all, collapse_goes, composed_made, goes_made, made_own, made_version}
use Rattle.lt_laws.proofs.CoerceLaws.{AreLong, IsServed, map_same}
use Rattle.lt_laws.proofs.ListFacts.{all_at, from_map}
use Rattle.lt_laws.proofs.VersionGrowth.{Grew, grew_added, grew_retired, widens_itself}
use Rattle.lt_laws.proofs.WidenedStore.{delta_goes, delta_stays, deltas_go, known_carriers, served}
use Rattle.lt_laws.proofs.ScanLemmas.{from-filter}
use Rattle.lt_laws.proofs.MomentLaws.{collapse-ordered}
use Rattle.lt_laws.proofs.MergeLaws.{merge-ordered, merged_member}
use Rattle.lt_laws.proofs.NewDelta.{number_known, part_made, tables_rise}
use Rattle.lt_laws.proofs.ShelfGrowth.{known_number, lists_of, made_carried, made_part}
use Rattle.lt_laws.proofs.ClipLaws.{coerce-clip, coerce-merge}
use Rattle.lt_session_laws.proofs.CatalogueSteps.{carried_long}
use Rattle.lt_laws.proofs.CatalogueLaws.{became_lawful}

abbrev pub settled : Bool → ℕ → List RowVersion → List RowVersion
settled is_major m vs = cond is_major (collapse m vs) vs

abbrev pub merged_of : Catalogue → List Delta → Range → ℕ → List RowVersion
merged_of cat xs r n = clip r (merge (map (carried_versions cat n) xs))

-- ---- layouts

carriers_by : (o : Option Table) → ((t : Table) → o ≡ Some t → AreColumns (cols t)) → (cs : List (ℕ × Kind)) × (option_map_or carrier_layout o [] ≡ layout_of cs) × AreColumns cs
unfolding carrier_layout
carriers_by None f = ([], refl, record { rise = refl; kinds = tt })
carriers_by (Some t) f = (cols t, refl, f t refl)

carriers_columns : (cat : Catalogue) (n : ℕ) → IsCatalogue cat → (cs : List (ℕ × Kind)) × (carriers cat n ≡ layout_of cs) × AreColumns cs
carriers_columns cat n is = carriers_by (table_numbered cat n) (λ t e. are_columns t (fine_table cat n t is e))

-- ---- a lawful delta's versions, under the carriers

record IsOf (cat : Catalogue) (n : ℕ) (v : RowVersion) : Type 0 where
  table : Table
  known : table_numbered cat n ≡ Some table
  made : IsMade (carriers cat n) v
  key : IsKeyBytes table v.key

part_is : (cat : Catalogue) (n : ℕ) (d : TableDelta) (v : RowVersion) → IsCatalogue cat → IsLawfulTable cat d → d.table ≡ n → Contains (versions_in d) v → IsOf cat n (coerced d.layout (carriers cat n) v)
part_is cat n d v is l e h =
    let t = l.table in
    let known : table_numbered cat n ≡ Some t = ap (table_numbered cat) (sym e) ∙ l.known in
    let fine = fine_table cat n t is known in
    let covered : IsTrue (is_covered cat n d.layout) = subst (λ (i : ℕ). IsTrue (is_covered cat i d.layout)) e l.covered in
    let columns = layout_columns d.layout l.layout in
    let serve : (b : Leaf) → IsMarked (cols t) b → IsServed (with_cells (layout_of l.layout.0) v.cells) (cols t) b
    = λ b m. subst (λ (ls : List Leaf). IsServed (with_cells ls v.cells) (cols t) b) l.layout.1 (served cat n t t d.layout v.cells b fine known (widens_itself t) covered m) in
    let lawful : IsTrue (is_version (layout_of l.layout.0) v) = subst (λ (ls : List Leaf). IsTrue (is_version ls v)) l.layout.1 (all_at (λ v. IsTrue (is_version d.layout v)) (versions_in d) v l.versions.each h) in
    let goes = goes_made l.layout.0 (cols t) v columns (are_columns t fine) serve lawful in record {
      table = t;
      known = known;
      made = subst (λ (to : List Leaf). IsMade to (coerced d.layout to v)) (sym (known_carriers cat n t known)) (subst (λ (ls : List Leaf). IsMade (layout_of (cols t)) (coerced ls (layout_of (cols t)) v)) (sym l.layout.1) goes);
      key = all_at (λ v. IsKeyBytes t v.key) (versions_in d) v l.keys h;
    }

carried_is : (cat : Catalogue) (n : ℕ) (x : Delta) (v : RowVersion) → IsCatalogue cat → AreLawfulTables cat x → Contains (carried_versions cat n x) v → IsOf cat n v
carried_is cat n x v is a h = by_table (table_of x n) refl h
  where
    by_table : (o : Option TableDelta) → table_of x n ≡ o → Contains (option_map_or (λ t. coerce_all t.layout (carriers cat n) (versions_in t)) o []) v → IsOf cat n v
    by_table None e i = absurd (omega (arith, i.1))
    by_table (Some d) e i =
        let f = find_held (λ (t : TableDelta). t.table == n) x.tables d e in
        let m = from_map (coerced d.layout (carriers cat n)) (versions_in d) v i in
        subst (IsOf cat n) m.2 (part_is cat n d m.0 is (all_at (IsLawfulTable cat) x.tables d a.1 f.0) (eqb-true d.table n f.1) m.1)

pub merged_from_delta : (cat : Catalogue) (xs : List Delta) (r : Range) (n : ℕ) (v : RowVersion) → Contains (merged_of cat xs r n) v → (x : Delta) × Contains xs x × Contains (carried_versions cat n x) v × (in_range v.key r ≡ true)
merged_from_delta cat xs r n v h =
    let f = from-filter (λ v. in_range v.key r) (merge (map (carried_versions cat n) xs)) v h in
    let m = merged_member (map (carried_versions cat n) xs) v f.0 in
    let y = from_map (carried_versions cat n) xs m.0 m.1 in
    (y.0, y.1, subst (λ (l : List RowVersion). Contains l v) (sym y.2) m.2, f.1)

merged_is : (cat : Catalogue) (xs : List Delta) (r : Range) (n : ℕ) → IsCatalogue cat → AllByRecursion (AreLawfulTables cat) xs → AllByRecursion (IsOf cat n) (merged_of cat xs r n)
merged_is cat xs r n is a = all_from (IsOf cat n) (merged_of cat xs r n) (λ v h. let m = merged_from_delta cat xs r n v h in carried_is cat n m.0 v is (all_at (AreLawfulTables cat) xs m.0 a m.1) m.2)

-- ---- the output

settled_all : (P : RowVersion → Type 0) (b : Bool) (m : ℕ) (vs : List RowVersion) → PassesOver P → AllByRecursion P vs → AllByRecursion P (settled b m vs)
settled_all P true m vs f a = collapse_all P m vs f a
settled_all P false m vs f a = a

pub settled_ordered : (b : Bool) (m : ℕ) (vs : List RowVersion) → IsTrue (is_ordered vs) → IsTrue (is_ordered (settled b m vs))
settled_ordered true m vs h = collapse-ordered m vs h
settled_ordered false m vs h = h

settled_goes : (from to : List Leaf) (b : Bool) (m : ℕ) (vs : List RowVersion) → AreLong (length from) vs → coerce_all from to (settled b m vs) ≡ settled b m (coerce_all from to vs)
settled_goes from to true m vs a = collapse_goes from to m vs a
settled_goes from to false m vs a = refl

pub composed_key : (w v : RowVersion) → (compose w v).key ≡ v.key
unfolding compose
composed_key w v = refl

is_over : (cat : Catalogue) (n : ℕ) → PassesOver (IsOf cat n)
is_over cat n w v h i = record { table = i.table; known = i.known; made = composed_made (carriers cat n) w v h.made i.made; key = subst (IsKeyBytes i.table) (sym (composed_key w v)) i.key }

abbrev output_in : Catalogue → List Delta → Range → Bool → ℕ → ℕ → List RowVersion
output_in cat xs r b m n = settled b m (merged_of cat xs r n)

output_is : (cat : Catalogue) (xs : List Delta) (r : Range) (b : Bool) (m n : ℕ) → IsCatalogue cat → AllByRecursion (AreLawfulTables cat) xs → AllByRecursion (IsOf cat n) (output_in cat xs r b m n)
output_is cat xs r b m n is a = settled_all (IsOf cat n) b m (merged_of cat xs r n) (is_over cat n) (merged_is cat xs r n is a)

output_ordered : (cat : Catalogue) (xs : List Delta) (r : Range) (b : Bool) (m n : ℕ) → IsTrue (is_ordered (output_in cat xs r b m n))
output_ordered cat xs r b m n = settled_ordered b m (merged_of cat xs r n) (clip-ordered r (merge (map (carried_versions cat n) xs)) (merge-ordered (map (carried_versions cat n) xs)))

same_map : (vs : List RowVersion) → map (λ v. v) vs ≡ vs
same_map [] = refl
same_map (v ∷ vs) = ap (λ (l : List RowVersion). v ∷ l) (same_map vs)

all_own : (cat : Catalogue) (n : ℕ) (vs : List RowVersion) → IsCatalogue cat → AllByRecursion (IsOf cat n) vs → coerce_all (carriers cat n) (carriers cat n) vs ≡ vs
all_own cat n vs is a =
    let c = carriers_columns cat n is in
    map_same (coerced (carriers cat n) (carriers cat n)) (λ v. v) (IsOf cat n) vs
    (λ v h. subst (λ (ls : List Leaf). coerced ls ls v ≡ v) (sym c.1) (made_own c.0 v c.2 (subst (λ (ls : List Leaf). IsMade ls v) c.1 h.made))) a ∙ same_map vs

pub record OutputIn (cat : Catalogue) (xs : List Delta) (x : Delta) (r : Range) (b : Bool) (m : ℕ) : Type 0 where
  pub lawful : AreLawfulTables cat x
  pub inputs : AllByRecursion (AreLawfulTables cat) xs
  pub is : (n : ℕ) → carried_versions cat n x ≡ settled b m (merged_of cat xs r n)

-- under the job's catalogue
output_made : (cat : Catalogue) (xs : List Delta) (r : Range) (b : Bool) (m id : ℕ) → IsCatalogue cat → AllByRecursion (AreLawfulTables cat) xs → OutputIn cat xs (delta_of id cat (lists_of cat (output_in cat xs r b m))) r b m
output_made cat xs r b m id is a =
    let g = output_in cat xs r b m in record {
      lawful = (
        tables_rise cat g is,
        all_from (IsLawfulTable cat) (map (table_delta cat) (lists_of cat g)) (λ d h.
            let p = made_part cat g d h in
            let t = number_known cat p.0 p.1 in
            let each = output_is cat xs r b m p.0 is a in
            subst (IsLawfulTable cat) p.2 (part_made cat p.0 t.0 (g p.0) is t.1 (output_ordered cat xs r b m p.0) p.3 (all_map (IsOf cat p.0) (λ v. IsTrue (is_version (carriers cat p.0) v)) (g p.0) (λ v i. made_version (carriers cat p.0) v i.made) each)
            (all_map (IsOf cat p.0) (λ v. IsKeyBytes t.0 v.key) (g p.0) (λ v i. same_table p.0 t.0 i.table v t.1 i.known i.key) each))),
      );
      inputs = a;
      is = λ n. made_carried cat id g n (λ k. all_own cat k (g k) is (output_is cat xs r b m k is a)) (λ v h. let i = all_at (IsOf cat n) (g n) v (output_is cat xs r b m n is a) h in known_number cat n i.table i.known);
    }
  where
    same_table : (n : ℕ) (t u : Table) (v : RowVersion) → table_numbered cat n ≡ Some t → table_numbered cat n ≡ Some u → IsKeyBytes u v.key → IsKeyBytes t v.key
    same_table n t u v e f k = let d : u ≡ t = cc in subst (λ (y : Table). IsKeyBytes y v.key) d k

-- and under each that it became
merged_over : (cat wide : Catalogue) (xs : List Delta) (r : Range) (n : ℕ) → Grew cat wide → AllByRecursion (AreLawfulTables cat) xs → merged_of wide xs r n ≡ coerce_all (carriers cat n) (carriers wide n) (merged_of cat xs r n)
merged_over cat wide xs r n g a =
    ap (λ (lists : List (List RowVersion)). clip r (merge lists)) (deltas_go cat wide n xs g a) ∙ ap (clip r) (sym (coerce-merge (carriers cat n) (carriers wide n) (map (carried_versions cat n) xs)))
    ∙ sym (coerce-clip (carriers cat n) (carriers wide n) r (merge (map (carried_versions cat n) xs)))

merged_long : (cat : Catalogue) (xs : List Delta) (r : Range) (n : ℕ) → AreLong (length (carriers cat n)) (merged_of cat xs r n)
merged_long cat xs r n = all_from (λ v. length v.cells ≡ length (carriers cat n)) (merged_of cat xs r n) (λ v h. let m = merged_from_delta cat xs r n v h in carried_long cat n m.0 v m.2)

output_grows : (cat wide : Catalogue) (xs : List Delta) (x : Delta) (r : Range) (b : Bool) (m : ℕ) → Grew cat wide → OutputIn cat xs x r b m → OutputIn wide xs x r b m
output_grows cat wide xs x r b m g o = record {
  lawful = delta_stays cat wide x g o.lawful;
  inputs = all_map (AreLawfulTables cat) (AreLawfulTables wide) xs (λ y h. delta_stays cat wide y g h) o.inputs;
  is = λ n. delta_goes cat wide n x g o.lawful ∙ ap (coerce_all (carriers cat n) (carriers wide n)) (o.is n) ∙ settled_goes (carriers cat n) (carriers wide n) b m (merged_of cat xs r n) (merged_long cat xs r n)
      ∙ ap (settled b m) (sym (merged_over cat wide xs r n g o.inputs));
}

output_became : (cat wide : Catalogue) (xs : List Delta) (x : Delta) (r : Range) (b : Bool) (m : ℕ) → IsCatalogue cat → Became cat wide → OutputIn cat xs x r b m → OutputIn wide xs x r b m
output_became cat _ xs x r b m is as_it_was o = o
output_became cat _ xs x r b m is (then_added c v y e) o = output_grows c (with_version c v) xs x r b m (grew_added c v (became_lawful cat c is y) e) (output_became cat c xs x r b m is y o)
output_became cat _ xs x r b m is (then_retired c k v y e) o = output_grows c (without_version c k v) xs x r b m (grew_retired c k v (became_lawful cat c is y) e) (output_became cat c xs x r b m is y o)

-- What the output holds under the catalogue that the job's own became.
pub output_holds : (cat wide : Catalogue) (xs : List Delta) (r : Range) (b : Bool) (m id : ℕ) → IsCatalogue cat → Became cat wide → AllByRecursion (AreLawfulTables cat) xs → OutputIn wide xs (delta_of id cat (lists_of cat (λ n. settled b m (merged_of cat xs r n)))) r b m
output_holds cat wide xs r b m id is y a = output_became cat wide xs (delta_of id cat (lists_of cat (λ n. settled b m (merged_of cat xs r n)))) r b m is y (output_made cat xs r b m id is a)
