-- Under a catalogue that grew by one step the changes and rows of a source are, in cells, what they were, at the new carriers.
use Rattle.std.proofs.Common.{List, [], ap, ap₂, false, refl, subst, sym, true, ℕ, ◌∙◌, ◌∷◌, ◌≡◌}
use Rattle.std.specs.Prelude.{IsTrue, None, Option, Some, fold, map, nat_le, option_and_then, option_map, ⊤}
use Rattle.std.specs.Option.{option_map_or}
use Rattle.std.proofs.lemmas.Bool.{and_parts, false≢true}
use Rattle.std.specs.List.{AllByRecursion}
use Rattle.lt_terms.specs.Log.{Change, Header, Item, change_key}
use Rattle.lt_terms.specs.Value.{Value}
use Rattle.lt_terms.specs.Kind.{Kind, has_shape}
use Rattle.lt_terms.specs.Key.{is_key_of, same_key}
use Rattle.lt_terms.specs.Conversion.{conv}
use Rattle.lt_terms.specs.Layout.{Cell, Leaf, coerce, flatten}
use Rattle.lt_terms.specs.declared.Op.{Op}
use Rattle.lt_world.specs.Feed.{Feed}
use Rattle.lt_tables.specs.Schema.{Catalogue, Column, IsCatalogue, Registered, Table, carrier, carriers, column_numbered, key_kinds, registered, sets_shape, table_numbered}
use Rattle.lt_tables.specs.Fair.{changes_to, has_change_shape}
use Rattle.lt_tables.specs.Version.{RowVersion, carried, coerced, seen}
use Rattle.lt_tables.specs.Row.{Row, after_change, changes_up_to, row_at, row_by}
use Rattle.lt_machine.specs.Sound.{Fronts, row_cells, source_of}
use Rattle.lt_codecs.proofs.ListFacts.{all_append, all_both}
use Rattle.lt_lemmas.proofs.TableLaws.{fine_table}
use Rattle.lt_lemmas.proofs.ListFacts.{all_filter}
use Rattle.lt_lemmas.proofs.RowLemmas.{reads_in_order}
use Rattle.lt_laws.proofs.AnswerLaws.{IsSound, sound_from}
use Rattle.lt_laws.proofs.TakenLaws.{change_shaped}
use Rattle.lt_laws.proofs.TableLaws.{carrier_stands}
use Rattle.lt_laws.proofs.ReadLaws.{all_tests, change_within, set_shapes, shape_at}
use Rattle.lt_laws.proofs.ScanLemmas.{AreOf, IsWithin, at_carrier}
use Rattle.lt_laws.proofs.TableGrowth.{IsSetIn, set_widens}
use Rattle.lt_laws.proofs.VersionGrowth.{Grew}
use Rattle.lt_laws.proofs.WidenedStore.{known_carriers}
use Rattle.lt_laws.proofs.RangeLaws.{source_in_time}
use Rattle.lt_terms.specs.declared.Op.TheVariants as ops

-- ---- the table and version of a fair change

pub record ShapedBy (cat : Catalogue) (c : Change) : Type 0 where
  pub table : Table
  pub known : table_numbered cat c.table ≡ Some table
  pub version : Registered
  pub registered : registered table c.version ≡ Some version
  pub shape : IsTrue (has_change_shape table version c)

shaped_by : (cat : Catalogue) (c : Change) (o : Option Table) → table_numbered cat c.table ≡ o → option_map_or (λ t. option_map_or (λ r. has_change_shape t r c) (option_and_then (λ t. registered t c.version) o) false) o false ≡ true → ShapedBy cat c
shaped_by cat c None e h = absurd (false≢true h)
shaped_by cat c (Some t) e h = by_version (registered t c.version) refl h
  where
    by_version : (q : Option Registered) → registered t c.version ≡ q → option_map_or (λ r. has_change_shape t r c) q false ≡ true → ShapedBy cat c
    by_version None d f = absurd (false≢true f)
    by_version (Some r) d f = record { table = t; known = e; version = r; registered = d; shape = f }

pub sound_shape : (cat : Catalogue) (c : Change) → IsSound cat c → ShapedBy cat c
sound_shape cat c s = shaped_by cat c (table_numbered cat c.table) refl (change_shaped s.0 cat s.1.0 c s.1.1)

carrier_of_setting : (t : Table) (v : ℕ) (r : Registered) (s : ℕ × Value) (o : Option Column) → registered t v ≡ Some r → column_numbered r.columns s.0 ≡ o → option_map_or (λ c. has_shape s.1 c.kind) o false ≡ true → (k : Kind) × (carrier t s.0 ≡ Some k)
carrier_of_setting t v r s None e d h = absurd (false≢true h)
carrier_of_setting t v r s (Some c) e d h = carrier_stands t v s.0 r c e d

-- what a fair change sets is within its columns' carriers, which there are
pub sound_sets : (cat : Catalogue) (t : Table) (c : Change) → IsCatalogue cat → table_numbered cat c.table ≡ Some t → IsSound cat c → AllByRecursion (IsSetIn t) c.set
sound_sets cat t c is e s =
    let x = sound_shape cat c s in
    let d : Some x.table ≡ Some t = sym x.known ∙ e in
    let same_table : x.table ≡ t = cc in
    let shapes = all_tests (shape_at x.version.columns) c.set (set_shapes c.op x.version.columns c.set (and_parts (is_key_of (key_kinds x.table.key) c.key) (sets_shape c.op x.version.columns c.set) x.shape).1) in
    all_both (IsWithin t) (λ s. IsTrue (shape_at x.version.columns s)) (IsSetIn t) c.set
    (λ s w h. (w, subst (λ (y : Table). (k : Kind) × (carrier y s.0 ≡ Some k)) same_table (carrier_of_setting x.table c.version x.version s (column_numbered x.version.columns s.0) x.registered refl h)))
    (change_within s.0 cat t c is e s.1 s.2) shapes

-- ---- settings and changes go over

pub carried_as : (cat : Catalogue) (n : ℕ) (t : Table) (set : List (ℕ × Value)) → table_numbered cat n ≡ Some t → map (carried cat n) set ≡ map (λ s. (s.0, at_carrier t s.0 s.1)) set
carried_as cat n t set e = ap (λ (o : Option Table). map (λ (s : ℕ × Value). let x : ℕ × Value = (s.0, option_map_or (conv s.1) (option_and_then (λ t. carrier t s.0) o) s.1) in x) set) e

pub settings_go : (cat wide : Catalogue) (n : ℕ) (t : Table) (set : List (ℕ × Value)) → Grew cat wide → table_numbered cat n ≡ Some t → AllByRecursion (IsSetIn t) set
    → flatten (carriers wide n) (map (carried wide n) set) ≡ coerce (carriers cat n) (carriers wide n) (flatten (carriers cat n) (map (carried cat n) set))
settings_go cat wide n t set g e a =
    let u = g.tables n t e in
    let old = known_carriers cat n t e in
    let new = known_carriers wide n u.0 u.1 in
    ap₂ flatten new (carried_as wide n u.0 set u.1)
    ∙ sym (set_widens t u.0 set (fine_table cat n t g.lawful e) (fine_table wide n u.0 g.after u.1) u.2 a)
    ∙ ap₂ (λ (x y : List Leaf). coerce x y (flatten x (map (λ s. (s.0, at_carrier t s.0 s.1)) set))) (sym old) (sym new)
    ∙ ap (λ (s : List (ℕ × Value)). coerce (carriers cat n) (carriers wide n) (flatten (carriers cat n) s)) (sym (carried_as cat n t set e))

-- a fair change is seen as it was, at the new carriers
pub seen_goes : (cat wide : Catalogue) (c : Change) → Grew cat wide → IsSound cat c → seen wide c ≡ coerced (carriers cat c.table) (carriers wide c.table) (seen cat c)
unfolding seen
seen_goes cat wide c g s = let x = sound_shape cat c s in
    ap (λ (cells : List Cell). let v : RowVersion = record { key = change_key c; ts = c.ts; op = c.op; cells = cells } in v) (settings_go cat wide c.table x.table c.set g x.known (sound_sets cat x.table c g.lawful x.known s))

-- ---- rows go over

abbrev RowIn : Table → Row → Type 0
RowIn t None = ⊤
RowIn t (Some set) = AllByRecursion (IsSetIn t) set

row_by_in : (t : Table) (o : Op) (set : List (ℕ × Value)) (row : Row) → AllByRecursion (IsSetIn t) set → RowIn t row → RowIn t (row_by o set row)
row_by_in t ops.Insert set row a r = a
row_by_in t ops.Delete set row a r = tt
row_by_in t ops.Update set None a r = tt
row_by_in t ops.Update set (Some was) a r = all_append (IsSetIn t) set was a r

row_in : (t : Table) (cs : List Change) (row : Row) → AllByRecursion (λ c. AllByRecursion (IsSetIn t) c.set) cs → RowIn t row → RowIn t (fold after_change row cs)
row_in t [] row a r = r
row_in t (c ∷ cs) row a r = row_in t cs (after_change row c) a.1 (row_by_in t c.op c.set row a.0 r)

row_goes_by : (cat wide : Catalogue) (n : ℕ) (t : Table) (row : Row) → Grew cat wide → table_numbered cat n ≡ Some t → RowIn t row → row_cells wide n row ≡ option_map (coerce (carriers cat n) (carriers wide n)) (row_cells cat n row)
row_goes_by cat wide n t None g e r = refl
row_goes_by cat wide n t (Some set) g e r = ap Some (settings_go cat wide n t set g e r)

-- a key's row at a moment is, in cells, what it was, at the new carriers
pub row_goes : (feed : Feed) (cat wide : Catalogue) (fs : List (Header × List Item)) (n : ℕ) (t : Table) (key : List ℕ) (at : ℕ) → Fronts feed cat fs → Grew cat wide → table_numbered cat n ≡ Some t → AreOf n (changes_to key (source_of fs))
    → row_cells wide n (row_at (source_of fs) key at) ≡ option_map (coerce (carriers cat n) (carriers wide n)) (row_cells cat n (row_at (source_of fs) key at))
row_goes feed cat wide fs n t key at p g e of =
    let source = source_of fs in
    let sound = all_filter (IsSound cat) (λ c. same_key (change_key c) key) source (sound_from feed cat 0 fs p.each) in
    let sets = all_both (IsSound cat) (λ c. c.table ≡ n) (λ c. AllByRecursion (IsSetIn t) c.set) (changes_to key source) (λ c s k. sound_sets cat t c g.lawful (ap (table_numbered cat) k ∙ e) s) sound of in
    let r : RowIn t (row_at source key at) = subst (RowIn t) (sym (reads_in_order source key at (source_in_time feed cat fs key p)))
    (row_in t (changes_up_to key at source) None (all_filter (λ c. AllByRecursion (IsSetIn t) c.set) (λ c. nat_le c.ts at) (changes_to key source) sets) tt) in
    row_goes_by cat wide n t (row_at source key at) g e r
