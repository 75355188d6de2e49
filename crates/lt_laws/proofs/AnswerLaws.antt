-- A scan at a safe moment: what is held and read by a live version answers as the source's snapshot does.
use Rattle.std.proofs.Common.{Bool, List, [], ap, ap₂, arith, cond, eq-eqb, false, leb-true, ne_eqb, refl, subst, suc, sym, take, true, zero, ℕ, ◌++◌, ◌+◌, ◌<◌, ◌∙◌, ◌∷◌, ◌≡◌, ◌≤◌}
use Rattle.std.specs.Prelude.{Contains, IsTrue, None, Option, Some, filter, find, flat_map, map, nat_le, nat_lt, option_map, ⊤, ◌&&◌}
use Rattle.std.specs.List.{AllByRecursion}
use Rattle.std.proofs.lemmas.Bool.{and_parts}
use Rattle.std.specs.Int.{to_be_bytes, w32}
use Rattle.std.proofs.lemmas.List.{take_at}
use Rattle.std.specs.Option.{option_map_or}
use Rattle.lt_terms.specs.Key.{KeyPart, Range, below, bytes_cmp, in_range, is_key_of, key_bytes, part_bytes, part_value, same_key}
use Rattle.lt_terms.specs.Layout.{Leaf, flatten}
use Rattle.lt_terms.specs.Conversion.{same_bytes}
use Rattle.lt_terms.specs.Log.{Change, Header, Item, change_key, changes_of, is_change, u32}
use Rattle.lt_terms.specs.Value.{Value}
use Rattle.lt_world.specs.Feed.{Feed}
use Rattle.lt_tables.specs.Version.{RowVersion, asof, carried, is_insert, is_ordered, read_cells, rolled_up}
use Rattle.lt_tables.specs.Schema.{Catalogue, Column, IsCatalogue, Registered, Table, carriers, key_kinds, registered, table_named, table_numbered}
use Rattle.lt_tables.specs.Row.{AreKeyed, Entry, changes_up_to, entry_of, read_row, row_after, row_at, snapshot}
use Rattle.lt_tables.specs.Fair.{changes_to}
use Rattle.lt_storage.specs.Bundle.{has_table}
use Rattle.lt_machine.specs.Sound.{Fronts, FrontsFrom, IsGood, ReadAll, ReadsAs, ScanIsSnapshot, held_versions, row_cells, source_of}
use Rattle.lt_machine.specs.Machine.{State, cat_of, first_below, query_interval}
use Rattle.lt_codecs.proofs.ListFacts.{all_append, all_both}
use Rattle.lt_lemmas.proofs.MergeLaws.{Above, ordered-above, ordered-tail}
use Rattle.lt_lemmas.proofs.ListFacts.{all_filter, find_held, mapped_some}
use Rattle.lt_lemmas.proofs.CatalogueLaws.{AllPast, NumbersRise, numbers_rise}
use Rattle.lt_lemmas.proofs.SnapshotLaws.{IsNamed, Named, table_of_key}
use Rattle.lt_lemmas.proofs.ConversionLemmas.{same_bytes-self}
use Rattle.lt_lemmas.proofs.RowLemmas.{reads_in_order}
use Rattle.lt_lemmas.proofs.TableLaws.{fine_table}
use Rattle.lt_lemmas.proofs.TakenLaws.{number_fits}
use Rattle.lt_lemmas.proofs.PointLaws.{same}
use Rattle.lt_laws.proofs.MomentLaws.{Lone, NoKey, lower-by, rolled-lone, rolled-ordered}
use Rattle.lt_laws.proofs.EntryLaws.{AreEntriesOver, EntriesRise, entry_for, same_entries, snapshot_found, snapshot_from, snapshot_rises}
use Rattle.lt_laws.proofs.TakenLaws.{Passes, fair_passes, lawful_changes, source_keyed}
use Rattle.lt_laws.proofs.ReadLaws.{RowWithin, change_within, row_reads, row_within}
use Rattle.lt_laws.proofs.ScanLemmas.{AreOf, IsWithin}
use Rattle.lt_laws.proofs.RangeLaws.{source_in_time}
use Rattle.lt_laws.proofs.ScanLaws.{key_reads}
use Rattle.lt_laws.proofs.MergeLaws.{merge-ordered}
use Rattle.lt_laws.proofs.SnapshotLaws.{answer_within}

-- ---- a reading at a moment has each key once, by rising key

abbrev KeysRise : List RowVersion → Type 0
KeysRise [] = ⊤
KeysRise (v ∷ vs) = AllByRecursion (λ w. below v.key w.key ≡ true) vs × KeysRise vs

higher_keys : (v : RowVersion) (ws : List RowVersion) → NoKey v.key ws → Above v ws → AllByRecursion (λ w. below v.key w.key ≡ true) ws
higher_keys v [] n a = tt
higher_keys v (w ∷ ws) n a = (lower-by (bytes_cmp v.key w.key) (nat_lt w.ts v.ts) a.0 n.0, higher_keys v ws n.1 a.1)

abbrev is_read_at : ℕ → RowVersion → Bool
is_read_at t v = nat_le v.ts t && is_insert v.op

lone_by : (t : ℕ) (w : RowVersion) (ws : List RowVersion) (b : Bool) → is_read_at t w ≡ b → (w.ts ≤ t → NoKey w.key ws) → Above w ws → KeysRise (filter (is_read_at t) ws) → KeysRise (cond b (w ∷ filter (is_read_at t) ws) (filter (is_read_at t) ws))
lone_by t w ws true e n a r = (
  all_filter (λ x. below w.key x.key ≡ true) (is_read_at t) ws (higher_keys w ws (n (leb-true w.ts t (and_parts (nat_le w.ts t) (is_insert w.op) e).0)) a),
  r,
)
lone_by t w ws false e n a r = r

lone_rise : (t : ℕ) (ws : List RowVersion) → Lone t ws → IsTrue (is_ordered ws) → KeysRise (filter (is_read_at t) ws)
lone_rise t [] l o = tt
lone_rise t (w ∷ ws) l o = lone_by t w ws (is_read_at t w) refl l.0 (ordered-above w ws o) (lone_rise t ws l.1 (ordered-tail w ws o))

asof_rises : (t : ℕ) (vs : List RowVersion) → IsTrue (is_ordered vs) → KeysRise (asof t vs)
unfolding asof
asof_rises t vs o = lone_rise t (rolled_up t vs) (rolled-lone t vs o) (rolled-ordered t vs o)

-- ---- entries that read as versions

over_read : (t : Table) (columns : List Column) (layout : List Leaf) (key : List ℕ) (vs : List RowVersion) (es : List Entry) → ReadAll t columns layout vs es → AllByRecursion (λ v. below key v.key ≡ true) vs → AreEntriesOver key es
over_read t columns layout key [] [] r a = tt
over_read t columns layout key [] (e ∷ es) r a = absurd r
over_read t columns layout key (v ∷ vs) [] r a = absurd r
over_read t columns layout key (v ∷ vs) (e ∷ es) r a = (ap (below key) r.0.0 ∙ a.0, over_read t columns layout key vs es r.1 a.1)

read_rises : (t : Table) (columns : List Column) (layout : List Leaf) (vs : List RowVersion) (es : List Entry) → ReadAll t columns layout vs es → KeysRise vs → EntriesRise es
read_rises t columns layout [] [] r k = tt
read_rises t columns layout [] (e ∷ es) r k = absurd r
read_rises t columns layout (v ∷ vs) [] r k = absurd r
read_rises t columns layout (v ∷ vs) (e ∷ es) r k = (subst (λ (a : List ℕ). AreEntriesOver a es) (sym r.0.0) (over_read t columns layout v.key vs es r.1 k.0), read_rises t columns layout vs es r.1 k.1)

abbrev version_for : List ℕ → List RowVersion → Option RowVersion
version_for key vs = find (λ v. same_key v.key key) vs

-- a key is found among the versions where it is found among the entries, and the one reads as the other
abbrev IsReadOf : Table → List Column → List Leaf → Option RowVersion → Option Entry → Type 0
IsReadOf t columns layout None None = ⊤
IsReadOf t columns layout None (Some e) = ⊥
IsReadOf t columns layout (Some v) None = ⊥
IsReadOf t columns layout (Some v) (Some e) = ReadsAs t columns layout v e

read_by : (t : Table) (columns : List Column) (layout : List Leaf) (key : List ℕ) (v : RowVersion) (e : Entry) (o : Option RowVersion) (p : Option Entry) (b : Bool) → same_key v.key key ≡ b → ReadsAs t columns layout v e → IsReadOf t columns layout o p
    → IsReadOf t columns layout (cond b (Some v) o) (cond (same_key e.key key) (Some e) p)
read_by t columns layout key v e o p true s r i = subst (λ (b : Bool). IsReadOf t columns layout (Some v) (cond b (Some e) p)) (sym (ap (λ (a : List ℕ). same_key a key) r.0 ∙ s)) r
read_by t columns layout key v e o p false s r i = subst (λ (b : Bool). IsReadOf t columns layout o (cond b (Some e) p)) (sym (ap (λ (a : List ℕ). same_key a key) r.0 ∙ s)) i

read_found : (t : Table) (columns : List Column) (layout : List Leaf) (key : List ℕ) (vs : List RowVersion) (es : List Entry) → ReadAll t columns layout vs es → IsReadOf t columns layout (version_for key vs) (entry_for key es)
read_found t columns layout key [] [] r = tt
read_found t columns layout key [] (e ∷ es) r = absurd r
read_found t columns layout key (v ∷ vs) [] r = absurd r
read_found t columns layout key (v ∷ vs) (e ∷ es) r = read_by t columns layout key v e (version_for key vs) (entry_for key es) (same_key v.key key) refl r.0 (read_found t columns layout key vs es r.1)

-- ---- the tables of a lawful catalogue are found by their numbers

past_held : (n : ℕ) (ts : Catalogue) (t : Table) → AllPast n ts → Contains ts t → n < t.number
past_held n [] t a h = absurd (omega (arith, h.1))
past_held n (u ∷ ts) t a (zero, l, e) = subst (λ (x : Table). n < x.number) e a.0
past_held n (u ∷ ts) t a (suc k, l, e) = past_held n ts t a.1 (k, omega (arith, l), e)

pub numbered_held : (cat : Catalogue) (t : Table) → NumbersRise cat → Contains cat t → table_numbered cat t.number ≡ Some t
numbered_held [] t r h = absurd (omega (arith, h.1))
numbered_held (u ∷ ts) t r (zero, l, e) = ap (λ (b : Bool). cond b (Some u) (table_numbered ts t.number)) (eq-eqb u.number t.number (ap (λ (x : Table). x.number) e)) ∙ ap (λ (x : Table). Some x) e
numbered_held (u ∷ ts) t r (suc k, l, e) =
    let h : Contains ts t = (k, omega (arith, l), e) in
    let p : u.number < t.number = past_held u.number ts t r.0 h in
    ap (λ (b : Bool). cond b (Some u) (table_numbered ts t.number)) (ne_eqb u.number t.number (λ x. absurd (omega (arith, x, p)))) ∙ numbered_held ts t r.1 h

pub named_is_numbered : (cat : Catalogue) (name : List ℕ) (t : Table) → IsCatalogue cat → table_named cat name ≡ Some t → table_numbered cat t.number ≡ Some t
named_is_numbered cat name t is e = numbered_held cat t (numbers_rise cat is) (find_held (λ t. same_bytes t.name name) cat t e).0

-- ---- the changes of the table

-- a lawful change that breaks no rule in some stream
abbrev pub IsSound : Catalogue → Change → Type 0
IsSound cat c = (h : Header) × Passes h cat c × IsTrue (is_change c)

pub sound_from : (feed : Feed) (cat : Catalogue) (n : ℕ) (fs : List (Header × List Item)) → FrontsFrom feed cat n fs → AllByRecursion (IsSound cat) (source_of fs)
sound_from feed cat n [] a = tt
sound_from feed cat n (f ∷ fs) a = all_append (IsSound cat) (changes_of f.1) (source_of fs)
    (all_both (Passes f.0 cat) (λ c. IsTrue (is_change c)) (IsSound cat) (changes_of f.1) (λ c p l. (f.0, p, l)) (fair_passes f.0 cat f.1 a.2.fair) (lawful_changes f.0.format f.1 a.2.lawful))
    (sound_from feed cat (n + 1) fs a.3)

change_sets : (cat : Catalogue) (t : Table) (c : Change) → IsCatalogue cat → table_numbered cat t.number ≡ Some t → IsSound cat c → c.table ≡ t.number → AllByRecursion (IsWithin t) c.set
change_sets cat t c is e s k = change_within s.0 cat t c is (ap (table_numbered cat) k ∙ e) s.1 s.2

of_table : (cat : Catalogue) (t : Table) (x : Named) (cs : List Change) → IsNamed cat t.number x → AreKeyed cat cs → AreOf t.number (changes_to x.0 cs)
of_table cat t x [] p a = tt
of_table cat t x (c ∷ cs) p a = of_by (same_key (change_key c) x.0) (λ e. table_of_key cat t.number x c p a.0 e) (of_table cat t x cs p a.1)
  where
    of_by : (b : Bool) → (b ≡ true → c.table ≡ t.number) → AreOf t.number (changes_to x.0 cs) → AreOf t.number (cond b (c ∷ changes_to x.0 cs) (changes_to x.0 cs))
    of_by true f r = (f refl, r)
    of_by false f r = r

key_has_table : (table : ℕ) (key : List ℕ) (parts : List KeyPart) → key ≡ key_bytes table parts → IsTrue (has_table table key)
key_has_table table key parts e = ap (λ (k : List ℕ). same_bytes (take 4 k) (u32 table)) e ∙ ap (λ (b : List ℕ). same_bytes b (u32 table)) (take_at (to_be_bytes w32 table) (flat_map part_bytes parts) 4 refl) ∙ same_bytes-self (u32 table)

-- ---- a key at a safe moment

-- a good session, a live version of a table, and a safe moment of an interval
record Scanned (feed : Feed) (fs : List (Header × List Item)) (s : State) (t : Table) (v : ℕ) (r : Registered) (i : Range) (at : ℕ) (es : List Entry) : Type 0 where
  good : IsGood feed s fs
  lawful : IsCatalogue (cat_of s)
  known : table_numbered (cat_of s) t.number ≡ Some t
  version : registered t v ≡ Some r
  live : IsTrue r.live
  low : s.durable.minimum ≤ at
  safe : first_below s i at ≡ None
  reads : ReadAll t r.columns (carriers (cat_of s) t.number) (asof at (held_versions (source_of fs) s t.number)) es

abbrev read_versions : State → List (Header × List Item) → Table → ℕ → List RowVersion
read_versions s fs t at = asof at (held_versions (source_of fs) s t.number)

set_within : (feed : Feed) (fs : List (Header × List Item)) (s : State) (t : Table) (x : Named) (at : ℕ) (set : List (ℕ × Value)) → Fronts feed (cat_of s) fs → IsCatalogue (cat_of s) → table_numbered (cat_of s) t.number ≡ Some t → IsNamed (cat_of s) t.number x
    → row_at (source_of fs) x.0 at ≡ Some set → AllByRecursion (IsWithin t) set
set_within feed fs s t x at set fronts is e p d =
    let cat = cat_of s in
    let source = source_of fs in
    let sound = all_filter (IsSound cat) (λ c. same_key (change_key c) x.0) source (sound_from feed cat 0 fs fronts.each) in
    let sets = all_both (IsSound cat) (λ c. c.table ≡ t.number) (λ c. AllByRecursion (IsWithin t) c.set) (changes_to x.0 source) (λ c a b. change_sets cat t c is e a b) sound (of_table cat t x source p (source_keyed feed cat fs fronts)) in
    let row : row_after (changes_up_to x.0 at source) ≡ Some set = sym (reads_in_order source x.0 at (source_in_time feed cat fs x.0 fronts)) ∙ d in
    subst (RowWithin t) row (row_within t (changes_up_to x.0 at source) None (all_filter (λ c. AllByRecursion (IsWithin t) c.set) (λ c. nat_le c.ts at) (changes_to x.0 source) sets) tt)

read_key : (feed : Feed) (fs : List (Header × List Item)) (s : State) (t : Table) (v : ℕ) (r : Registered) (i : Range) (at : ℕ) (es : List Entry) → Scanned feed fs s t v r i at es → (x : Named) → IsNamed (cat_of s) t.number x → in_range x.0 i ≡ true
    → option_map (λ (v : RowVersion). v.cells) (version_for x.0 (read_versions s fs t at)) ≡ row_cells (cat_of s) t.number (row_at (source_of fs) x.0 at)
read_key feed fs s t v r i at es c x p inside = key_reads feed fs s t x.0 i at c.good c.known c.low c.safe (of_table (cat_of s) t x (source_of fs) p (source_keyed feed (cat_of s) fs c.good.fronts)) (key_has_table t.number x.0 x.1 p.1) inside

same_entry : (d e : Entry) → d.key ≡ e.key → d.row ≡ e.row → d ≡ e
same_entry d e k r = ap₂ (λ (a : List ℕ) (b : List Value). let x : Entry = record { key = a; row = b } in x) k r

-- the name that a version's key spells
name_of : (feed : Feed) (fs : List (Header × List Item)) (s : State) (t : Table) (v : ℕ) (r : Registered) (i : Range) (at : ℕ) (es : List Entry) → Scanned feed fs s t v r i at es → (key : List ℕ) (parts : List KeyPart) → key ≡ key_bytes t.number parts
    → IsTrue (is_key_of (key_kinds t.key) parts) → IsNamed (cat_of s) t.number (key, parts)
name_of feed fs s t v r i at es c key parts e k = (
  number_fits t.number (fine_table (cat_of s) t.number t c.lawful c.known).number,
  e,
  subst (λ (o : Option Table). IsTrue (is_key_of (option_map_or (λ t. key_kinds t.key) o []) parts)) (sym c.known) k,
)

found_alike : (feed : Feed) (fs : List (Header × List Item)) (s : State) (t : Table) (v : ℕ) (r : Registered) (i : Range) (at : ℕ) (es : List Entry) → Scanned feed fs s t v r i at es → (key : List ℕ) → in_range key i ≡ true
    → (w : RowVersion) (e : Entry) → version_for key (read_versions s fs t at) ≡ Some w → ReadsAs t r.columns (carriers (cat_of s) t.number) w e → entry_for key (snapshot (source_of fs) t r.columns at) ≡ Some e
found_alike feed fs s t v r i at es c key inside w e f reads =
    let cat = cat_of s in
    let source = source_of fs in
    let layout = carriers cat t.number in
    let k : w.key ≡ key = same w.key key (find_held (λ (v : RowVersion). same_key v.key key) (read_versions s fs t at) w f).1 in
    let parts = reads.1.0 in
    let x : Named = (key, parts) in
    let p : IsNamed cat t.number x = name_of feed fs s t v r i at es c key parts (sym k ∙ reads.1.2) reads.1.1 in
    let cells : Some w.cells ≡ row_cells cat t.number (row_at source key at) = ap (option_map (λ (v : RowVersion). v.cells)) (sym f) ∙ read_key feed fs s t v r i at es c x p inside in
    let m = mapped_some (λ set. flatten layout (map (carried cat t.number) set)) (row_at source key at) w.cells (sym cells) in
    let set = m.0 in
    let row : read_cells t r.columns layout w.cells ≡ read_row t r.columns set = ap (read_cells t r.columns layout) (sym m.2)
    ∙ row_reads cat t v r set c.lawful c.known c.version c.live (set_within feed fs s t x at set c.good.fronts c.lawful c.known p m.1) in
    snapshot_found cat source t r.columns at x set (source_keyed feed cat fs c.good.fronts) p m.1
    ∙ ap (λ (d : Entry). Some d) (same_entry (entry_of t r.columns x set) e (sym (reads.0 ∙ k)) (ap (λ (vs : List Value). map part_value parts ++ vs) (sym row) ∙ sym reads.1.3))

none_alike : (feed : Feed) (fs : List (Header × List Item)) (s : State) (t : Table) (v : ℕ) (r : Registered) (i : Range) (at : ℕ) (es : List Entry) → Scanned feed fs s t v r i at es → (key : List ℕ) → in_range key i ≡ true
    → version_for key (read_versions s fs t at) ≡ None → (d : Entry) → entry_for key (snapshot (source_of fs) t r.columns at) ≡ Some d → ⊥
none_alike feed fs s t v r i at es c key inside f d e =
    let cat = cat_of s in
    let source = source_of fs in
    let a = snapshot_from cat source t r.columns at key d (source_keyed feed cat fs c.good.fronts) e in
    let within : in_range a.name.0 i ≡ true = ap (λ (x : List ℕ). in_range x i) a.is_key ∙ inside in
    let none : version_for a.name.0 (read_versions s fs t at) ≡ None = ap (λ (x : List ℕ). version_for x (read_versions s fs t at)) a.is_key ∙ f in
    let row : row_at source a.name.0 at ≡ Some a.set = ap (λ (x : List ℕ). row_at source x at) a.is_key ∙ a.row in
    let g : None ≡ row_cells cat t.number (Some a.set) = ap (option_map (λ (v : RowVersion). v.cells)) (sym none) ∙ read_key feed fs s t v r i at es c a.name a.known within ∙ ap (row_cells cat t.number) row in
    cc

alike_by : (feed : Feed) (fs : List (Header × List Item)) (s : State) (t : Table) (v : ℕ) (r : Registered) (i : Range) (at : ℕ) (es : List Entry) → Scanned feed fs s t v r i at es → (key : List ℕ) → in_range key i ≡ true
    → (o : Option RowVersion) (p d : Option Entry) → version_for key (read_versions s fs t at) ≡ o → entry_for key (snapshot (source_of fs) t r.columns at) ≡ d → IsReadOf t r.columns (carriers (cat_of s) t.number) o p → p ≡ d
alike_by feed fs s t v r i at es c key inside None None None f g h = refl
alike_by feed fs s t v r i at es c key inside None None (Some d) f g h = absurd (none_alike feed fs s t v r i at es c key inside f d g)
alike_by feed fs s t v r i at es c key inside None (Some e) d f g h = absurd h
alike_by feed fs s t v r i at es c key inside (Some w) None d f g h = absurd h
alike_by feed fs s t v r i at es c key inside (Some w) (Some e) d f g h = sym (found_alike feed fs s t v r i at es c key inside w e f h) ∙ g

entries_alike : (feed : Feed) (fs : List (Header × List Item)) (s : State) (t : Table) (v : ℕ) (r : Registered) (i : Range) (at : ℕ) (es : List Entry) → Scanned feed fs s t v r i at es
    → filter (λ e. in_range e.key i) es ≡ filter (λ e. in_range e.key i) (snapshot (source_of fs) t r.columns at)
entries_alike feed fs s t v r i at es c =
    let vs = read_versions s fs t at in
    let snap = snapshot (source_of fs) t r.columns at in
    let layout = carriers (cat_of s) t.number in
    same_entries (λ key. in_range key i) es snap (read_rises t r.columns layout vs es c.reads (asof_rises at (held_versions (source_of fs) s t.number) (merge-ordered _))) (snapshot_rises (source_of fs) t r.columns at)
    (λ key inside. alike_by feed fs s t v r i at es c key inside (version_for key vs) (entry_for key es) (entry_for key snap) refl refl (read_found t r.columns layout key vs es c.reads))

-- a scan in the window is the source's snapshot
pub scan_is_snapshot : ScanIsSnapshot
scan_is_snapshot feed fs s t v r q es good named version live low safe reads =
    let lawful = good.lawful.manifest.catalogue in
    answer_within t r.columns q es (snapshot (source_of fs) t r.columns q.at) (entries_alike feed fs s t v r (query_interval t q) q.at es (record {
      good = good;
      lawful = lawful;
      known = named_is_numbered (cat_of s) q.table t lawful named;
      version = version;
      live = live;
      low = low;
      safe = safe;
      reads = reads;
    }))
