-- The delta of a flush is made of the partition's memory.
use Rattle.std.proofs.Common.{Bool, List, [], ap, ap₂, arith, eq-eqb, eqb-true, false, length, lt-ltb, ltb-true, refl, subst, suc, sym, true, zero, ℕ, ◌<◌, ◌∙◌, ◌∷◌, ◌≡◌}
use Rattle.std.specs.Prelude.{Contains, IsTrue, Option, Some, filter, map, nat_lt, slice_get, unwrap_or, ◌&&◌, ◌==◌}
use Rattle.std.specs.List.{AllByRecursion}
use Rattle.std.specs.Option.{option_map_or}
use Rattle.std.proofs.lemmas.Bool.{and_from}
use Rattle.lt_storage.specs.Bundle.{cut}
use Rattle.lt_world.specs.Feed.{Feed}
use Rattle.lt_tables.specs.Fair.{has_change_shape}
use Rattle.lt_terms.specs.Key.{Range}
use Rattle.lt_terms.specs.Log.{Change}
use Rattle.lt_machine.specs.Machine as machine
use Rattle.lt_machine.specs.Machine.{State, cat_of, delta_of, flush_id, flushed_lists, not_empty, pending_of, ranges_of, seen_pending, table_delta, table_numbers}
use Rattle.lt_tables.specs.Pump.{is_deliverable, name_of}
use Rattle.lt_machine.specs.Outside.{BelongsTo, memory_versions}
use Rattle.lt_machine.specs.Sound.{Memory}
use Rattle.lt_tables.specs.Row.{is_in_time}
use Rattle.lt_tables.specs.Schema.{Catalogue, IsCatalogue, Registered, Table, carriers, registered, table_numbered, when}
use Rattle.lt_tables.specs.Pump.{names_rise}
use Rattle.lt_machine.specs.Sound.{PendingOfAll, passed, source_of}
use Rattle.lt_tables.specs.Pump.{Part}
use Rattle.lt_storage.specs.Store.{AreLawfulTables, Durable, IsKeyBytes, IsLawfulTable, TableDelta}
use Rattle.lt_tables.specs.Version.{RowVersion, merge, seen}
use Rattle.lt_laws.proofs.MemorySeen.{memory_seen}
use Rattle.lt_laws.proofs.AnswerLaws.{IsSound, sound_from}
use Rattle.lt_codecs.proofs.ListFacts.{all_map}
use Rattle.lt_lemmas.proofs.ListFacts.{all_from, find_held}
use Rattle.lt_laws.proofs.ListFacts.{all_at, from_map, in_map}
use Rattle.lt_laws.proofs.NewDelta.{number_known, part_made, tables_rise}
use Rattle.lt_laws.proofs.RangeLaws.{source_in_time}
use Rattle.lt_laws.proofs.ScanLemmas.{from-filter, in-filter}
use Rattle.lt_lemmas.proofs.VersionGrowth.{its_number}
use Rattle.lt_laws.proofs.WidenedRows.{sound_shape}
use Rattle.lt_version_laws.specs.Flushes.{FlushLaws, flushed_delta, memory_tables}
use Rattle.lt_version_laws.specs.MemoryLists.{AreLogged, HaveVersions, carried_rows}
use Rattle.lt_version_laws.proofs.LoggedVersions.{of_version}
use Rattle.lt_version_laws.proofs.MemoryGroups.{memory_lawful, memory_merged}
use Rattle.lt_version_laws.proofs.ReadSteps.{memory_keys}

-- ---- a session's memory is logged

deliverable : (cat : Catalogue) (c : Change) → IsSound cat c → IsTrue (is_deliverable cat c)
deliverable cat c s =
    let x = sound_shape cat c s in
    let shape : option_map_or (λ t. option_map_or (λ r. has_change_shape t r c) (registered t c.version) false) (table_numbered cat c.table) false ≡ true
    = ap (λ (o : Option Table). option_map_or (λ t. option_map_or (λ r. has_change_shape t r c) (registered t c.version) false) o false) x.known
    ∙ ap (λ (o : Option Registered). option_map_or (λ r. has_change_shape x.table r c) o false) x.registered ∙ x.shape in
    and_from _ _ s.2 shape

pending_ordered : (cat : Catalogue) (d : Durable) (cs : List Change) (ps : List Part) (rs : List Range) (names : List (List (List ℕ × ℕ))) → PendingOfAll cat d cs ps rs names → AllByRecursion (λ ns. IsTrue (names_rise ns)) names
pending_ordered cat d cs [] rs [] h = tt
pending_ordered cat d cs [] rs (ns ∷ names) h = absurd h
pending_ordered cat d cs (p ∷ ps) [] [] h = absurd h
pending_ordered cat d cs (p ∷ ps) [] (ns ∷ names) h = absurd h
pending_ordered cat d cs (p ∷ ps) (r ∷ rs) [] h = absurd h
pending_ordered cat d cs (p ∷ ps) (r ∷ rs) (ns ∷ names) h = (h.0.ordered, pending_ordered cat d cs ps rs names h.1)

logged_each : (cat : Catalogue) (source : List Change) (mem : Memory) (names : List (List (List ℕ × ℕ))) → AllByRecursion (IsSound cat) source → map (λ cs. map name_of cs) mem ≡ names → AllByRecursion (λ ns. IsTrue (names_rise ns)) names
    → AllByRecursion (λ cs. AllByRecursion (Contains source) cs) mem → AllByRecursion (AreLogged cat) mem
logged_each cat source [] names s e o h = tt
logged_each cat source (cs ∷ mem) [] s e o h = cc
logged_each cat source (cs ∷ mem) (ns ∷ names) s e o h =
    let first : map name_of cs ≡ ns = cc in
    let others : map (λ cs. map name_of cs) mem ≡ names = cc in (
      record { each = all_map (Contains source) (λ c. IsTrue (is_deliverable cat c)) cs (λ c i. deliverable cat c (all_at (IsSound cat) source c s i)) h.0; ordered = ap names_rise first ∙ o.0 },
      logged_each cat source mem names s others o.1 h.1,
    )

pub memory_logged : (f : Feed) (s : State) (mem : Memory) → BelongsTo f s mem → AllByRecursion (AreLogged (cat_of s)) mem
memory_logged f s mem b = logged_each (cat_of s) (source_of b.0) mem s.pending (sound_from f (cat_of s) 0 b.0 b.1.fronts.each) b.2
    (pending_ordered (cat_of s) s.durable (passed b.0 s.streams) s.durable.parts (ranges_of s.durable) s.pending b.1.ready.pending) b.3

-- ---- the pending names are those of the memory's changes

abbrev AreInTime : List Change → Type 0
AreInTime source = (key : List ℕ) → IsTrue (is_in_time key source)

abbrev is_named : ℕ → List ℕ × ℕ → Change → Bool
is_named table n c = c.table == table && machine.named n c

lists_same : (cat : Catalogue) (source : List Change) (cs : List Change) (ns : List ℕ) → AreInTime source → AllByRecursion (Contains source) cs
    → map (λ n. let x : ℕ × List RowVersion = (n, seen_pending source cat (map name_of cs) n) in x) ns ≡ map (λ n. let x : ℕ × List RowVersion = (n, memory_versions cat cs n) in x) ns
lists_same cat source cs [] time a = refl
lists_same cat source cs (n ∷ ns) time a = ap₂ (λ (vs : List RowVersion) (l : List (ℕ × List RowVersion)). let x : ℕ × List RowVersion = (n, vs) in x ∷ l) (memory_seen cat source n cs time a) (lists_same cat source cs ns time a)

pending_is : (mem : Memory) (p : ℕ) (cs : List Change) → slice_get mem p ≡ Some cs → unwrap_or (slice_get (map (λ cs. map name_of cs) mem) p) [] ≡ map name_of cs
pending_is [] p cs e = cc
pending_is (m ∷ mem) zero cs e = let d : m ≡ cs = cc in ap (map name_of) d
pending_is (m ∷ mem) (suc p) cs e = pending_is mem p cs e

got_all : (P : List Change → Type 0) (mem : Memory) (p : ℕ) (cs : List Change) → slice_get mem p ≡ Some cs → AllByRecursion P mem → P cs
got_all P [] p cs e a = cc
got_all P (m ∷ mem) zero cs e a = let d : m ≡ cs = cc in subst P d a.0
got_all P (m ∷ mem) (suc p) cs e a = got_all P mem p cs e a.1

pub session_flushed : (f : Feed) (s : State) (mem : Memory) (p : ℕ) (cs : List Change) (id : ℕ) (b : BelongsTo f s mem) → slice_get mem p ≡ Some cs
    → delta_of id (cat_of s) (flushed_lists (source_of b.0) (cat_of s) (pending_of s p)) ≡ flushed_delta id (cat_of s) cs
session_flushed f s mem p cs id b e =
    let cat = cat_of s in
    let source = source_of b.0 in
    let names : pending_of s p ≡ map name_of cs = ap (λ (l : List (List (List ℕ × ℕ))). unwrap_or (slice_get l p) []) (sym b.2) ∙ pending_is mem p cs e in
    ap (λ (ns : List (List ℕ × ℕ)). delta_of id cat (flushed_lists source cat ns)) names
    ∙ ap (λ (l : List (ℕ × List RowVersion)). delta_of id cat (filter not_empty l)) (lists_same cat source cs (table_numbers cat) (λ key. source_in_time f cat b.0 key b.1.fronts) (got_all (λ cs. AllByRecursion (Contains source) cs) mem p cs e b.3))

names_long : (cs : List Change) → length (map name_of cs) ≡ length cs
names_long [] = refl
names_long (c ∷ cs) = ap suc (names_long cs)

pub session_number : (f : Feed) (s : State) (mem : Memory) (p : ℕ) (cs : List Change) → BelongsTo f s mem → slice_get mem p ≡ Some cs → flush_id s p ≡ when (nat_lt 0 (length cs)) s.durable.next_id
session_number f s mem p cs b e =
    ap (λ (l : List (List (List ℕ × ℕ))). when (nat_lt 0 (length (unwrap_or (slice_get l p) []))) s.durable.next_id) (sym b.2)
    ∙ ap (λ (l : List (List ℕ × ℕ)). when (nat_lt 0 (length l)) s.durable.next_id) (pending_is mem p cs e)
    ∙ ap (λ (n : ℕ). when (nat_lt 0 n) s.durable.next_id) (names_long cs)

-- ---- the delta of a memory

pub cut_by_groups : (cat : Catalogue) (cs : List Change) (table : ℕ) (versions : List ℕ) → IsCatalogue cat → AreLogged cat cs → HaveVersions cs table versions
    → cut (carriers cat table) (memory_versions cat cs table) ≡ cut (carriers cat table) (merge (map (carried_rows cat cs table) versions))
cut_by_groups cat cs table versions is a h = ap (cut (carriers cat table)) (sym (memory_merged cat cs table versions is a h))

one_table_lawful : (cat : Catalogue) (cs : List Change) (n : ℕ) → IsCatalogue cat → AreLogged cat cs → Contains (table_numbers cat) n → 0 < length (memory_versions cat cs n) → IsLawfulTable cat (table_delta cat (n, memory_versions cat cs n))
one_table_lawful cat cs n is a h some =
    let t = number_known cat n h in
    let l = memory_lawful cat cs n is a in
    let own : t.0.number ≡ n = its_number cat n t.0 t.1 in
    part_made cat n t.0 (memory_versions cat cs n) is t.1 l.ordered some l.each
    (subst (λ (m : ℕ). AllByRecursion (λ v. IsKeyBytes t.0 v.key) (memory_versions cat cs m)) own (memory_keys cat t.0 cs (ap (table_numbered cat) own ∙ t.1) a))

pub memory_delta_lawful : (cat : Catalogue) (cs : List Change) (id : ℕ) → IsCatalogue cat → AreLogged cat cs → AreLawfulTables cat (flushed_delta id cat cs)
memory_delta_lawful cat cs id is a = (
  tables_rise cat (memory_versions cat cs) is,
  all_from (IsLawfulTable cat) (map (table_delta cat) (memory_tables cat cs)) one_of,
)
  where
    one_of : (d : TableDelta) → Contains (map (table_delta cat) (memory_tables cat cs)) d → IsLawfulTable cat d
    one_of d h =
        let m = from_map (table_delta cat) (memory_tables cat cs) d h in
        let g = from-filter not_empty (map (λ n. let x : ℕ × List RowVersion = (n, memory_versions cat cs n) in x) (table_numbers cat)) m.0 m.1 in
        let n = from_map (λ n. let x : ℕ × List RowVersion = (n, memory_versions cat cs n) in x) (table_numbers cat) m.0 g.0 in
        let some : nat_lt 0 (length (memory_versions cat cs n.0)) ≡ true = ap (λ (x : ℕ × List RowVersion). nat_lt 0 (length x.1)) n.2 ∙ g.1 in
        subst (IsLawfulTable cat) (ap (table_delta cat) n.2 ∙ m.2) (one_table_lawful cat cs n.0 is a n.1 (ltb-true 0 (length (memory_versions cat cs n.0)) some))

pub memory_delta_some : (cat : Catalogue) (cs : List Change) (id : ℕ) → IsCatalogue cat → AreLogged cat cs → 0 < length cs → 0 < length (flushed_delta id cat cs).tables
memory_delta_some cat [] id is a l = absurd (omega (arith, l))
memory_delta_some cat (c ∷ cs) id is a l =
    let all = c ∷ cs in
    let x = of_version cat c a.each.0 in
    let f = find_held (λ (t : Table). t.number == c.table) cat x.table x.known in
    let k : x.table.number ≡ c.table = eqb-true x.table.number c.table f.1 in
    let known : Contains (table_numbers cat) c.table = subst (Contains (table_numbers cat)) k (in_map (λ (t : Table). t.number) cat x.table f.0) in
    let pair : ℕ × List RowVersion = (c.table, memory_versions cat all c.table) in
    let one : Contains (memory_versions cat all c.table) (seen cat c) = in_map (seen cat) (filter (λ d. d.table == c.table) all) c (in-filter (λ d. d.table == c.table) all c (zero, omega arith, refl) (eq-eqb c.table c.table refl)) in
    let some : 0 < length (memory_versions cat all c.table) = omega (arith, one.1) in
    let i = in-filter not_empty (map (λ n. let y : ℕ × List RowVersion = (n, memory_versions cat all n) in y) (table_numbers cat)) pair
    (in_map (λ n. let y : ℕ × List RowVersion = (n, memory_versions cat all n) in y) (table_numbers cat) c.table known) (lt-ltb 0 (length (memory_versions cat all c.table)) some) in
    let d = in_map (table_delta cat) (memory_tables cat all) pair i in
    omega (arith, d.1)

pub flush_laws : FlushLaws
flush_laws = record { logged = memory_logged; flushed = session_flushed; number = session_number; by_groups = cut_by_groups; lawful = memory_delta_lawful; some = memory_delta_some }
