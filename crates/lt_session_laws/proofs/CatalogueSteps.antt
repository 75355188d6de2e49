-- A version that is added or retired keeps a good session: all that is stored and pending goes over to the new carriers.
use Rattle.std.proofs.Common.{Bool, List, [], ap, ap₂, arith, cond, eqb-true, false, inl, inr, length, refl, subst, sym, take, true, zero, ℕ, ◌+◌, ◌<◌, ◌∙◌, ◌∷◌, ◌≡◌}
use Rattle.std.specs.List.{AllByRecursion, list_any}
use Rattle.std.specs.Prelude.{Contains, Err, IsTrue, None, Ok, Option, Result, Some, filter, if◌then◌else◌, is_none, map, nat_le, not, option_and_then, option_map, zip, ◌&&◌, ◌==◌, ◌^◌, ◌⊎◌}
use Rattle.std.specs.Option.{option_map_or}
use Rattle.std.proofs.lemmas.Bool.{false≢true, not-false}
use Rattle.lt_terms.specs.Key.{Range, common, in_range, meets, same_key}
use Rattle.lt_terms.specs.Log.{Change, Header, Item, change_key, changes_of}
use Rattle.lt_terms.specs.Layout.{Leaf, coerce}
use Rattle.lt_terms.specs.Value.{is_number}
use Rattle.lt_world.specs.Feed.{Feed}
use Rattle.lt_tables.specs.Schema.{Became, Catalogue, IsCatalogue, Registered, SchemaFault, SchemaVersion, Table, already_retired, as_it_was, carriers, err_or, last_version, registered, retire_fault, schema_fault, table_named, table_numbered, then_added, then_retired, unknown_table, unknown_version, when, with_version, without_version}
use Rattle.lt_tables.specs.Version.{RowVersion, clip, coerce_all, coerced, effect_of, merge, same_name, seen}
use Rattle.lt_tables.specs.Pump.{Part, StreamAt}
use Rattle.lt_tables.specs.Row.{IsKeyed, in_time, row_after, row_at}
use Rattle.lt_tables.specs.Fair.{changes_to, header_length}
use Rattle.lt_tables.specs.Query.{do_retire, do_schema}
use Rattle.lt_words.specs.Reply.{is_last_version, no_such_version, version_retired, worn}
use Rattle.lt_words.specs.SchemaText.{JsonFault, version_of_text}
use Rattle.lt_storage.specs.Store.{AreLawfulTables, Delta, Durable, IsLawfulTable, TableDelta, carried_versions, deltas_of, merged_in, stored, table_of, versions_in}
use Rattle.lt_storage.specs.Bundle.{has_table}
use Rattle.lt_machine.specs.Sound.{AreAtPlaces, Fronts, FrontsFrom, IsGood, JobBegan, JobStands, ListsAll, PendingOf, PendingOfAll, SoundPart, SoundParts, items_before, passed, row_cells, source_of, up_to_ts}
use Rattle.lt_machine.specs.Machine.{Job, State, added_read, cat_of, is_worn, ranges_of, registered_named, with_catalogue, with_cause}
use Rattle.lt_codecs.proofs.LogLaws.{frames_prefix_free}
use Rattle.lt_codecs.proofs.ListFacts.{all_append, all_front, all_map}
use Rattle.lt_lemmas.proofs.ListFacts.{all_filter, all_from, find_held, when_none}
use Rattle.lt_lemmas.proofs.FrontLaws.{grows_itself}
use Rattle.lt_lemmas.proofs.TableLaws.{fine_table}
use Rattle.lt_lemmas.proofs.TakenLaws.{number_fits}
use Rattle.lt_lemmas.proofs.VersionGrowth.{its_number}
use Rattle.lt_lemmas.proofs.PointLaws.{same}
use Rattle.lt_laws.proofs.MergeLaws.{merged_member}
use Rattle.lt_laws.proofs.VersionGrowth.{Grew, grew_added, grew_retired}
use Rattle.lt_laws.proofs.WidenedStore.{delta_goes, delta_stays, merged_goes, named_lawful}
use Rattle.lt_laws.proofs.ListFacts.{all_at, from_map, in_map}
use Rattle.lt_laws.proofs.AnswerLaws.{IsSound, named_is_numbered, sound_from}
use Rattle.lt_laws.proofs.WidenedRows.{row_goes, seen_goes, sound_shape}
use Rattle.lt_laws.proofs.CoerceLaws.{AreLong, coerce_length, effect_coerced}
use Rattle.lt_laws.proofs.ScanLemmas.{from-filter, in-filter}
use Rattle.lt_laws.proofs.FrontLaws.{fronts_stay}
use Rattle.lt_laws.proofs.SoundLaws.{Back, IsLonger, before-take, behind-more, changes-take, longer-by, past-key, places-more, points-more, source-back, source-more}
use Rattle.lt_laws.proofs.FairLaws.{row_stays}
use Rattle.lt_laws.proofs.TakenLaws.{source_keyed}
use Rattle.lt_session_laws.proofs.RetainLaws.{all_of, table_of_has}
use Rattle.lt_laws.proofs.FrontStands.{fronts_grow}
use Rattle.lt_session_laws.proofs.StepLaws.{KeepsDoing, if_some, next_generation, unrefused}

-- ---- the durable part under another catalogue

abbrev pub with_cat : Durable → Catalogue → Durable
with_cat d wide = record d { catalogue = wide; generation = d.generation + 1 }

-- the catalogue grew by one step, and the shelf is lawful under the older one
pub record StoreGrew (d : Durable) (wide : Catalogue) : Type 0 where
  pub grew : Grew d.catalogue wide
  pub shelf : AllByRecursion (AreLawfulTables d.catalogue) d.shelf

abbrev over_to : Durable → Catalogue → ℕ → RowVersion → RowVersion
over_to d wide n v = coerced (carriers d.catalogue n) (carriers wide n) v

stored_goes : (d : Durable) (wide : Catalogue) (p : Part) (r : Range) (n : ℕ) → StoreGrew d wide → stored (with_cat d wide) p r n ≡ coerce_all (carriers d.catalogue n) (carriers wide n) (stored d p r n)
stored_goes d wide p r n g = merged_goes d.catalogue wide d.shelf p.ids r n g.grew g.shelf

-- what is stored now was stored, and went over
stored_from : (d : Durable) (wide : Catalogue) (p : Part) (r : Range) (n : ℕ) (v : RowVersion) → StoreGrew d wide → Contains (stored (with_cat d wide) p r n) v → (w : RowVersion) × Contains (stored d p r n) w × (over_to d wide n w ≡ v)
stored_from d wide p r n v g h = from_map (over_to d wide n) (stored d p r n) v (subst (λ (vs : List RowVersion). Contains vs v) (stored_goes d wide p r n g) h)

stored_in : (d : Durable) (wide : Catalogue) (p : Part) (r : Range) (n : ℕ) (w : RowVersion) → StoreGrew d wide → Contains (stored d p r n) w → Contains (stored (with_cat d wide) p r n) (over_to d wide n w)
stored_in d wide p r n w g h = subst (λ (vs : List RowVersion). Contains vs (over_to d wide n w)) (sym (stored_goes d wide p r n g)) (in_map (over_to d wide n) (stored d p r n) w h)

seen_over : (d : Durable) (wide : Catalogue) (n : ℕ) (c : Change) → StoreGrew d wide → IsSound d.catalogue c → c.table ≡ n → over_to d wide n (seen d.catalogue c) ≡ seen wide c
seen_over d wide n c g s e = ap (λ (i : ℕ). over_to d wide i (seen d.catalogue c)) (sym e) ∙ sym (seen_goes d.catalogue wide c g.grew s)

-- ---- the cells of what is stored are as many as the carriers' leaves

pub carried_long : (cat : Catalogue) (n : ℕ) (x : Delta) (v : RowVersion) → Contains (carried_versions cat n x) v → length v.cells ≡ length (carriers cat n)
carried_long cat n x v h = by_table (table_of x n) h
  where
    by_table : (o : Option TableDelta) → Contains (option_map_or (λ t. coerce_all t.layout (carriers cat n) (versions_in t)) o []) v → length v.cells ≡ length (carriers cat n)
    by_table None i = absurd (omega (arith, i.1))
    by_table (Some t) i = let m = from_map (coerced t.layout (carriers cat n)) (versions_in t) v i in ap (λ (w : RowVersion). length w.cells) (sym m.2) ∙ coerce_length t.layout (carriers cat n) m.0.cells

stored_long : (d : Durable) (p : Part) (r : Range) (n : ℕ) → AreLong (length (carriers d.catalogue n)) (stored d p r n)
stored_long d p r n = all_from (λ v. length v.cells ≡ length (carriers d.catalogue n)) (stored d p r n) (λ v h.
    let f = from-filter (λ v. in_range v.key r) (merge (map (carried_versions d.catalogue n) (deltas_of d.shelf p.ids))) v h in
    let m = merged_member (map (carried_versions d.catalogue n) (deltas_of d.shelf p.ids)) v f.0 in
    let x = from_map (carried_versions d.catalogue n) (deltas_of d.shelf p.ids) m.0 m.1 in
    carried_long d.catalogue n x.0 v (subst (λ (vs : List RowVersion). Contains vs v) (sym x.2) m.2))

up_to_goes : (from to : List Leaf) (key : List ℕ) (t : ℕ) (vs : List RowVersion) → up_to_ts key t (coerce_all from to vs) ≡ coerce_all from to (up_to_ts key t vs)
up_to_goes from to key t [] = refl
up_to_goes from to key t (v ∷ vs) = ap (λ (l : List RowVersion). cond (same_key v.key key && nat_le v.ts t) (coerced from to v ∷ l) l) (up_to_goes from to key t vs) ∙ by_test (same_key v.key key && nat_le v.ts t)
  where
    by_test : (b : Bool) → cond b (coerced from to v ∷ coerce_all from to (up_to_ts key t vs)) (coerce_all from to (up_to_ts key t vs)) ≡ coerce_all from to (cond b (v ∷ up_to_ts key t vs) (up_to_ts key t vs))
    by_test true = refl
    by_test false = refl

-- ---- a table that the older catalogue does not know

empty_of : {A : Type 0} (xs : List A) → ((x : A) → Contains xs x → ⊥) → xs ≡ []
empty_of [] f = refl
empty_of (x ∷ xs) f = absurd (f x (zero, omega arith, refl))

none_carried : (cat : Catalogue) (n : ℕ) (x : Delta) (v : RowVersion) → table_numbered cat n ≡ None → AreLawfulTables cat x → Contains (carried_versions cat n x) v → ⊥
none_carried cat n x v e a h = by_table (table_of x n) refl h
  where
    by_table : (o : Option TableDelta) → table_of x n ≡ o → Contains (option_map_or (λ t. coerce_all t.layout (carriers cat n) (versions_in t)) o []) v → ⊥
    by_table None d i = absurd (omega (arith, i.1))
    by_table (Some t) d i =
        let f = find_held (λ t. t.table == n) x.tables t d in
        let l = all_at (IsLawfulTable cat) x.tables t a.1 f.0 in
        let k : Some l.table ≡ None = sym l.known ∙ ap (table_numbered cat) (eqb-true t.table n f.1) ∙ e in cc

none_stored : (d : Durable) (wide : Catalogue) (p : Part) (r : Range) (n : ℕ) → StoreGrew d wide → table_numbered d.catalogue n ≡ None → stored d p r n ≡ []
none_stored d wide p r n g e = empty_of (stored d p r n) (λ v h.
    let f = from-filter (λ v. in_range v.key r) (merge (map (carried_versions d.catalogue n) (deltas_of d.shelf p.ids))) v h in
    let m = merged_member (map (carried_versions d.catalogue n) (deltas_of d.shelf p.ids)) v f.0 in
    let x = from_map (carried_versions d.catalogue n) (deltas_of d.shelf p.ids) m.0 m.1 in
    none_carried d.catalogue n x.0 v e (all_at (AreLawfulTables d.catalogue) (deltas_of d.shelf p.ids) x.0 (named_lawful d.catalogue d.shelf p.ids g.shelf) x.1) (subst (λ (vs : List RowVersion). Contains vs v) (sym x.2) m.2))

-- ---- what belongs together before and after

pub record Grown (feed : Feed) (d : Durable) (wide : Catalogue) (fs gs : List (Header × List Item)) : Type 0 where
  pub store : StoreGrew d wide
  pub fronts : Fronts feed d.catalogue fs
  pub after : Fronts feed wide gs

longer_fronts : (feed : Feed) (d : Durable) (wide : Catalogue) (fs gs : List (Header × List Item)) → Grown feed d wide fs gs → IsLonger wide fs gs
longer_fronts feed d wide fs gs g = longer-by feed wide 0 fs gs (g.fronts.all ∙ sym g.after.all)
    (fronts_stay frames_prefix_free feed feed d.catalogue wide fs gs (grows_itself feed) g.store.grew.lawful g.store.grew.became g.fronts g.after) g.after.each

row_same : (feed : Feed) (d : Durable) (wide : Catalogue) (fs gs : List (Header × List Item)) (p : Part) (r : Range) (key : List ℕ) → Grown feed d wide fs gs → SoundPart d fs p r → in_range key r ≡ true → row_at (source_of gs) key d.minimum ≡ row_at (source_of fs) key d.minimum
row_same feed d wide fs gs p r key g s w = row_stays frames_prefix_free feed feed d.catalogue wide fs gs (grows_itself feed) refl g.store.grew.lawful g.store.grew.became g.fronts g.after key d.minimum (past-key key r p.resume d.minimum fs w s.minimum s.resume)

small_tables : (feed : Feed) (cat : Catalogue) (fs : List (Header × List Item)) → Fronts feed cat fs → AllByRecursion (λ c. c.table < 2 ^ 32) (source_of fs)
small_tables feed cat fs p = all_map (IsKeyed cat) (λ c. c.table < 2 ^ 32) (source_of fs) (λ c k. k.0) (source_keyed feed cat fs p)

rows_known : (feed : Feed) (d : Durable) (wide : Catalogue) (fs gs : List (Header × List Item)) (p : Part) (r : Range) (n : ℕ) (t : Table) (key : List ℕ) → Grown feed d wide fs gs → SoundPart d fs p r → table_numbered d.catalogue n ≡ Some t → in_range key r ≡ true → IsTrue (has_table n key)
    → effect_of (up_to_ts key d.minimum (stored (with_cat d wide) p r n)) ≡ row_cells wide n (row_at (source_of gs) key d.minimum)
rows_known feed d wide fs gs p r n t key g s e w h =
    let cat = d.catalogue in
    let m = d.minimum in
    let old = carriers cat n in
    let new = carriers wide n in
    let k : t.number ≡ n = its_number cat n t e in
    let small = number_fits n (subst (λ (i : ℕ). IsTrue (is_number i)) k (fine_table cat n t g.store.grew.lawful e).number) in
    let was : effect_of (up_to_ts key m (stored d p r n)) ≡ row_cells cat n (row_at (source_of fs) key m)
    = subst (λ (i : ℕ). effect_of (up_to_ts key m (stored d p r i)) ≡ row_cells cat i (row_at (source_of fs) key m)) k (s.rows t key (ap (table_numbered cat) k ∙ e) w (subst (λ (i : ℕ). IsTrue (has_table i key)) (sym k) h)) in
    let long = all_filter (λ v. length v.cells ≡ length old) (λ v. same_key v.key key && nat_le v.ts m) (stored d p r n) (stored_long d p r n) in
    ap (λ (vs : List RowVersion). effect_of (up_to_ts key m vs)) (stored_goes d wide p r n g.store)
    ∙ ap effect_of (up_to_goes old new key m (stored d p r n))
    ∙ effect_coerced old new (up_to_ts key m (stored d p r n)) long
    ∙ ap (option_map (coerce old new)) was
    ∙ sym (row_goes feed cat wide fs n t key m g.fronts g.store.grew e (all_of n key (source_of fs) small h (small_tables feed cat fs g.fronts)))
    ∙ ap (row_cells wide n) (sym (row_same feed d wide fs gs p r key g s w))

rows_unknown : (feed : Feed) (d : Durable) (wide : Catalogue) (fs gs : List (Header × List Item)) (p : Part) (r : Range) (n : ℕ) (key : List ℕ) → Grown feed d wide fs gs → SoundPart d fs p r → n < 2 ^ 32 → table_numbered d.catalogue n ≡ None → in_range key r ≡ true → IsTrue (has_table n key)
    → effect_of (up_to_ts key d.minimum (stored (with_cat d wide) p r n)) ≡ row_cells wide n (row_at (source_of gs) key d.minimum)
rows_unknown feed d wide fs gs p r n key g s small e w h =
    let source = source_of fs in
    let none : changes_to key source ≡ [] = empty_of (changes_to key source) (λ c i.
    let f = from-filter (λ c. same_key (change_key c) key) source c i in
    let t : c.table ≡ n = table_of_has n key c small (all_at (λ c. c.table < 2 ^ 32) source c (small_tables feed d.catalogue fs g.fronts) f.0) h (same (change_key c) key f.1) in
    let x = sound_shape d.catalogue c (all_at (IsSound d.catalogue) source c (sound_from feed d.catalogue 0 fs g.fronts.each) f.0) in
    let k : Some x.table ≡ None = sym x.known ∙ ap (table_numbered d.catalogue) t ∙ e in cc) in
    ap (λ (vs : List RowVersion). effect_of (up_to_ts key d.minimum vs)) (stored_goes d wide p r n g.store ∙ ap (coerce_all (carriers d.catalogue n) (carriers wide n)) (none_stored d wide p r n g.store e))
    ∙ ap (row_cells wide n) (sym (row_same feed d wide fs gs p r key g s w ∙ ap (λ (cs : List Change). row_after (in_time (filter (λ c. nat_le c.ts d.minimum) cs))) none))

-- ---- a partition stays sound

delta_from : (d : Durable) (wide : Catalogue) (p : Part) (r : Range) (n : ℕ) (x : Delta) (v : RowVersion) → StoreGrew d wide → Contains (deltas_of d.shelf p.ids) x → Contains (clip r (carried_versions wide n x)) v
    → (w : RowVersion) × Contains (clip r (carried_versions d.catalogue n x)) w × (over_to d wide n w ≡ v)
delta_from d wide p r n x v g i h =
    let l = all_at (AreLawfulTables d.catalogue) (deltas_of d.shelf p.ids) x (named_lawful d.catalogue d.shelf p.ids g.shelf) i in
    let f = from-filter (λ v. in_range v.key r) (carried_versions wide n x) v h in
    let m = from_map (over_to d wide n) (carried_versions d.catalogue n x) v (subst (λ (vs : List RowVersion). Contains vs v) (delta_goes d.catalogue wide n x g.grew l) f.0) in
    (m.0, in-filter (λ v. in_range v.key r) (carried_versions d.catalogue n x) m.0 m.1 (ap (λ (w : RowVersion). in_range w.key r) m.2 ∙ f.1), m.2)

part_grows : (feed : Feed) (d : Durable) (wide : Catalogue) (fs gs : List (Header × List Item)) (p : Part) (r : Range) → Grown feed d wide fs gs → SoundPart d fs p r → SoundPart (with_cat d wide) gs p r
part_grows feed d wide fs gs p r g s =
    let st = longer_fronts feed d wide fs gs g in
    let sound = sound_from feed d.catalogue 0 fs g.fronts.each in record {
      only_changes = λ n v h l.
          let w = stored_from d wide p r n v g.store h in
          let c = s.only_changes n w.0 w.1 (subst (λ (x : RowVersion). d.minimum < x.ts) (sym w.2) l) in
          (c.0, all_at (Contains (source_of gs)) (source_of fs) c.0 (source-more wide fs gs st) c.1, c.2, sym w.2 ∙ ap (over_to d wide n) c.3 ∙ seen_over d wide n c.0 g.store (all_at (IsSound d.catalogue) (source_of fs) c.0 sound c.1) c.2);
      all_changes = λ c k w l m.
          let i = all_at (Back r p.resume (source_of fs)) (source_of gs) c (source-back wide r p.resume fs gs st s.resume) k w m in
          subst (λ (v : RowVersion). Contains (stored (with_cat d wide) p r c.table) v) (seen_over d wide c.table c g.store (all_at (IsSound d.catalogue) (source_of fs) c sound i) refl)
          (stored_in d wide p r c.table (seen d.catalogue c) g.store (s.all_changes c i w l m));
      rows = λ u key k w h. by_table u key k w h (table_numbered d.catalogue u.number) refl;
      agree = λ x y n v w a b c e q.
          let v0 = delta_from d wide p r n x v g.store a c in
          let w0 = delta_from d wide p r n y w g.store b e in
          let named : IsTrue (same_name v0.0 w0.0) = ap₂ same_name v0.2 w0.2 ∙ q in
          sym v0.2 ∙ ap (over_to d wide n) (s.agree x y n v0.0 w0.0 a b v0.1 w0.1 named) ∙ w0.2;
      minimum = s.minimum;
      resume = behind-more wide r p.resume fs gs st s.resume;
    }
  where
    by_table : (u : Table) (key : List ℕ) → table_numbered wide u.number ≡ Some u → IsTrue (in_range key r) → IsTrue (has_table u.number key) → (o : Option Table) → table_numbered d.catalogue u.number ≡ o
        → effect_of (up_to_ts key d.minimum (stored (with_cat d wide) p r u.number)) ≡ row_cells wide u.number (row_at (source_of gs) key d.minimum)
    by_table u key k w h (Some t) e = rows_known feed d wide fs gs p r u.number t key g s e w h
    by_table u key k w h None e = rows_unknown feed d wide fs gs p r u.number key g s (number_fits u.number (fine_table wide u.number u g.store.grew.after k).number) e w h

parts_grow : (feed : Feed) (d : Durable) (wide : Catalogue) (fs gs : List (Header × List Item)) (ps : List Part) (rs : List Range) → Grown feed d wide fs gs → SoundParts d fs ps rs → SoundParts (with_cat d wide) gs ps rs
parts_grow feed d wide fs gs [] rs g s = tt
parts_grow feed d wide fs gs (p ∷ ps) [] g s = absurd s
parts_grow feed d wide fs gs (p ∷ ps) (r ∷ rs) g s = (part_grows feed d wide fs gs p r g s.0, parts_grow feed d wide fs gs ps rs g s.1)

-- ---- what is pending

passed_sound : (feed : Feed) (cat : Catalogue) (n : ℕ) (fs : List (Header × List Item)) (ss : List StreamAt) → FrontsFrom feed cat n fs → AreAtPlaces fs ss → AllByRecursion (IsSound cat) (passed fs ss)
passed_sound feed cat n [] [] a b = tt
passed_sound feed cat n [] (s ∷ ss) a b = absurd b
passed_sound feed cat n (f ∷ fs) [] a b = absurd b
passed_sound feed cat n (f ∷ fs) (s ∷ ss) a b =
    let i = b.1.0 in
    let own = all_front (IsSound cat) (changes_of f.1) (source_of fs) (sound_from feed cat n (f ∷ fs) a) in
    let before : items_before s.offset (header_length f.0) f.1 ≡ take i f.1 = before-take s.offset (header_length f.0) i f.1 b.1.2 in
    all_append (IsSound cat) (changes_of (items_before s.offset (header_length f.0) f.1)) (passed fs ss) (subst (λ (x : List Item). AllByRecursion (IsSound cat) (changes_of x)) (sym before) (changes-take (IsSound cat) f.1 i own)) (passed_sound feed cat (n + 1) fs ss a.3 b.2)

pending_grows : (d : Durable) (wide : Catalogue) (cs : List Change) (p : Part) (r : Range) (names : List (List ℕ × ℕ)) → StoreGrew d wide → AllByRecursion (IsSound d.catalogue) cs → PendingOf d.catalogue d cs p r names → PendingOf wide (with_cat d wide) cs p r names
pending_grows d wide cs p r names g a h = record {
  are_changes = h.are_changes;
  none_lost = λ c k w l. elim (h.none_lost c k w l) [
    | inl n ↦ inl n
    | inr x ↦ inr (subst (λ (v : RowVersion). Contains (stored (with_cat d wide) p r c.table) v) (seen_over d wide c.table c g (all_at (IsSound d.catalogue) cs c a k) refl) (stored_in d wide p r c.table (seen d.catalogue c) g x))
  ];
  ordered = h.ordered;
}

all_pending_grow : (d : Durable) (wide : Catalogue) (cs : List Change) (ps : List Part) (rs : List Range) (rest : List (List (List ℕ × ℕ))) → StoreGrew d wide → AllByRecursion (IsSound d.catalogue) cs → PendingOfAll d.catalogue d cs ps rs rest → PendingOfAll wide (with_cat d wide) cs ps rs rest
all_pending_grow d wide cs [] rs [] g a h = tt
all_pending_grow d wide cs [] rs (ns ∷ rest) g a h = absurd h
all_pending_grow d wide cs (p ∷ ps) [] rest g a h = absurd h
all_pending_grow d wide cs (p ∷ ps) (r ∷ rs) [] g a h = absurd h
all_pending_grow d wide cs (p ∷ ps) (r ∷ rs) (ns ∷ rest) g a h = (pending_grows d wide cs p r ns g a h.0, all_pending_grow d wide cs ps rs rest g a h.1)

-- ---- an open job

late_over : (from to : List Leaf) (m : ℕ) (vs : List RowVersion) → AllByRecursion (λ v. m < v.ts) vs → AllByRecursion (λ v. m < v.ts) (coerce_all from to vs)
late_over from to m [] a = tt
late_over from to m (v ∷ vs) a = (a.0, late_over from to m vs a.1)

late_grows : (d : Durable) (wide : Catalogue) (m id : ℕ) (r : Range) (table : ℕ) → StoreGrew d wide → AllByRecursion (λ v. m < v.ts) (merged_in d.catalogue d.shelf (id ∷ []) r table) → AllByRecursion (λ v. m < v.ts) (merged_in wide d.shelf (id ∷ []) r table)
late_grows d wide m id r table g a = subst (AllByRecursion (λ v. m < v.ts)) (sym (merged_goes d.catalogue wide d.shelf (id ∷ []) r table g.grew g.shelf))
    (late_over (carriers d.catalogue table) (carriers wide table) m (merged_in d.catalogue d.shelf (id ∷ []) r table) a)

abbrev RestAt : Catalogue → Durable → Job → Range → ℕ → Type 0
RestAt cat d j r id = IsTrue (list_any (λ i. i == id) j.inputs) ⊎ ((table : ℕ) → AllByRecursion (λ v. j.minimum < v.ts) (merged_in cat d.shelf (id ∷ []) r table))

abbrev StandsIn : Catalogue → Durable → Job → Part × Range → Type 0
StandsIn cat d j x = IsTrue (meets x.1 j.range) → ListsAll x.0.ids j.inputs × (IsTrue j.is_major → AllByRecursion (RestAt cat d j (common x.1 j.range)) x.0.ids)

became_trans : (a b c : Catalogue) → Became a b → Became b c → Became a c
became_trans a b _ x as_it_was = x
became_trans a b _ x (then_added c v y e) = then_added c v (became_trans a b c x y) e
became_trans a b _ x (then_retired c n v y e) = then_retired c n v (became_trans a b c x y) e

job_grows : (d : Durable) (wide : Catalogue) (j : Job) → StoreGrew d wide → JobStands d j × JobBegan d j → JobStands (with_cat d wide) j × JobBegan (with_cat d wide) j
job_grows d wide j g h = (
  all_map (StandsIn d.catalogue d j) (StandsIn wide d j) (zip d.parts (ranges_of d)) (λ x s l. let k = s l in
      (k.0, (λ m. all_map (RestAt d.catalogue d j (common x.1 j.range)) (RestAt wide d j (common x.1 j.range)) x.0.ids (λ id y. elim y [ inl i ↦ inl i | inr f ↦ inr (λ table. late_grows d wide j.minimum id (common x.1 j.range) table g (f table)) ]) (k.1 m)))) h.0,
  record { shelved = h.1.shelved; catalogue = became_trans j.catalogue d.catalogue wide h.1.catalogue g.grew.became; lawful = h.1.lawful; inputs = h.1.inputs; minimum = h.1.minimum; taken = h.1.taken },
)

-- ---- a session under another catalogue

pub catalogue_grows : (feed : Feed) (fs : List (Header × List Item)) (s : State) (wide : Catalogue) → IsGood feed s fs → Grew (cat_of s) wide → when (is_worn s.durable && true) worn ≡ None → (gs : List (Header × List Item)) × IsGood feed (with_catalogue s wide) gs
catalogue_grows feed fs s wide good grew unworn =
    let d = s.durable in
    let n = fronts_grow feed feed (cat_of s) wide fs (grows_itself feed) good.fronts in
    let gs = n.0 in
    let g : Grown feed d wide fs gs = record { store = record { grew = grew; shelf = good.lawful.shelf }; fronts = good.fronts; after = n.2 } in
    let st = longer_fronts feed d wide fs gs g in
    let places = places-more wide fs gs s.streams st good.ready.places in
    let l = good.lawful.manifest in (
      gs,
      record {
        short = good.short;
        lawful = record {
          generation = next_generation d good.lawful unworn;
          manifest = record { limit = l.limit; numbers = l.numbers; catalogue = grew.after; streams = l.streams; parts = l.parts; deltas = l.deltas };
          shelf = all_map (AreLawfulTables (cat_of s)) (AreLawfulTables wide) d.shelf (λ x h. delta_stays (cat_of s) wide x grew h) good.lawful.shelf;
        };
        fronts = n.2;
        sound = record { parts = parts_grow feed d wide fs gs d.parts (ranges_of d) g good.sound.parts; points = points-more wide fs gs d.streams st good.sound.points };
        ready = record {
          places = places.0;
          pending = subst (λ (cs : List Change). PendingOfAll wide (with_cat d wide) cs d.parts (ranges_of d) s.pending) places.1
              (all_pending_grow d wide (passed fs s.streams) d.parts (ranges_of d) s.pending g.store (passed_sound feed (cat_of s) 0 fs s.streams good.fronts.each good.ready.places) good.ready.pending);
          job = if_some (λ j. JobStands d j × JobBegan d j) (λ j. JobStands (with_cat d wide) j × JobBegan (with_cat d wide) j) s.job (λ j h. job_grows d wide j g.store h) good.ready.job;
        };
      },
    )

-- ---- the commands

added_is : (cat : Catalogue) (v : SchemaVersion) (wide : Catalogue) (o : Option SchemaFault) → schema_fault cat v ≡ o → with_cause (err_or o (with_version cat v)) ≡ Ok wide → (schema_fault cat v ≡ None) × (with_version cat v ≡ wide)
added_is cat v wide None e h = (e, cc)
added_is cat v wide (Some f) e h = cc

read_is : (cat wide : Catalogue) (r : Result SchemaVersion JsonFault) → added_read cat r ≡ Ok wide → IsCatalogue cat → Grew cat wide
read_is cat wide (Ok v) h is = let a = added_is cat v wide (schema_fault cat v) refl h in subst (Grew cat) a.1 (grew_added cat v is a.0)
read_is cat wide (Err e) h is = cc

pub schema_keeps : (t : List ℕ) → KeepsDoing (do_schema t)
schema_keeps t feed fs s s' a good e d =
    let u = unrefused s (do_schema t) e in
    let r = catalogue_grows feed fs s d.0 good (read_is (cat_of s) d.0 (version_of_text t) d.1 good.lawful.manifest.catalogue) u.unworn in
    (r.0, subst (λ (x : State). IsGood feed x r.0) (sym d.3) r.1)

pub none_refuses : (c d l : Bool) → c ≡ false → d ≡ true → l ≡ false → (if c then Some unknown_version else (if not d then Some already_retired else when l last_version)) ≡ None
none_refuses true d l e f g = absurd (false≢true (sym e))
none_refuses false false l e f g = absurd (false≢true f)
none_refuses false true true e f g = absurd (false≢true (sym g))
none_refuses false true false e f g = refl

retires : (cat : Catalogue) (name : List ℕ) (v : ℕ) (x : Table) → IsCatalogue cat → table_named cat name ≡ Some x → when (is_none (registered_named cat name v)) (no_such_version v) ≡ None
    → when (option_map_or (λ r. not r.live) (registered_named cat name v) false) (version_retired v) ≡ None → when (v == length x.versions) (is_last_version v) ≡ None → retire_fault cat x.number v ≡ None
retires cat name v x is e f g h =
    let known = named_is_numbered cat name x is e in
    let some : is_none (registered x v) ≡ false = ap (λ (o : Option Table). is_none (option_and_then (λ y. registered y v) o)) (sym e) ∙ when_none (is_none (registered_named cat name v)) (no_such_version v) f in
    let live : option_map_or (λ r. not r.live) (registered x v) false ≡ false
    = ap (λ (o : Option Table). option_map_or (λ r. not r.live) (option_and_then (λ y. registered y v) o) false) (sym e) ∙ when_none (option_map_or (λ r. not r.live) (registered_named cat name v) false) (version_retired v) g in
    let last : (v == length x.versions) ≡ false = when_none (v == length x.versions) (is_last_version v) h in
    fault_at (table_numbered cat x.number) known some live last
  where
    live_version_at : (q : Option Registered) → is_none q ≡ false → option_map_or (λ r. not r.live) q false ≡ false → option_map_or (λ r. r.live) q false ≡ true
    live_version_at None i j = absurd (false≢true (sym i))
    live_version_at (Some r) i j = not-false r.live j

    fault_at : (o : Option Table) → o ≡ Some x → is_none (registered x v) ≡ false → option_map_or (λ r. not r.live) (registered x v) false ≡ false → (v == length x.versions) ≡ false
        → (if is_none o then Some unknown_table else (if is_none (option_and_then (λ t. registered t v) o) then Some unknown_version
        else (if not (option_map_or (λ r. r.live) (option_and_then (λ t. registered t v) o) false) then Some already_retired else when (v == length (option_map_or (λ t. t.versions) o [])) last_version))) ≡ None
    fault_at None k i j l = cc
    fault_at (Some y) k i j l =
        let d : y ≡ x = cc in
        none_refuses (is_none (registered y v)) (option_map_or (λ r. r.live) (registered y v) false) (v == length y.versions) (ap (λ (z : Table). is_none (registered z v)) d ∙ i)
        (ap (λ (z : Table). option_map_or (λ r. r.live) (registered z v) false) d ∙ live_version_at (registered x v) i j) (ap (λ (z : Table). v == length z.versions) d ∙ l)

pub retire_keeps : (t : List ℕ) (v : ℕ) → KeepsDoing (do_retire t v)
retire_keeps t v feed fs s s' a good e d =
    let u = unrefused s (do_retire t v) e in
    let is = good.lawful.manifest.catalogue in
    let last : when (v == length d.0.versions) (is_last_version v) ≡ None = ap (λ (o : Option Table). option_and_then (λ x. when (v == length x.versions) (is_last_version v)) o) (sym d.1) ∙ u.latest in
    let r = catalogue_grows feed fs s (without_version (cat_of s) d.0.number v) good (grew_retired (cat_of s) d.0.number v is (retires (cat_of s) t v d.0 is d.1 u.version u.live last)) u.unworn in
    (r.0, subst (λ (x : State). IsGood feed x r.0) (sym d.3) r.1)
