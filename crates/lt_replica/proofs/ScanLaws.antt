-- A scan is refused for what it names, or where a partition is not safe; else what is held answers as the source does.
use Rattle.lt_replica.specs.Numbers.{Numbers, numbers_of}
use Rattle.std.proofs.Common.{Bool, List, [], ap, ap₂, arith, cond, length, refl, subst, sym, true, false, ℕ, ◌+◌, ◌<◌, ◌∙◌, ◌∷◌, ◌≡◌}
use Rattle.std.proofs.lemmas.List.{length-map}
use Rattle.std.proofs.lemmas.Slice.Zip.{length-zip}
use Rattle.std.specs.Prelude.{None, Option, Some, find, map, nat_lt, option_map, zip, ◌&&◌, ◌^◌}
use Rattle.lt_lemmas.proofs.ConversionLemmas.{same_bytes-same}
use Rattle.lt_lemmas.proofs.ListFacts.{find_held}
use Rattle.lt_session_laws.proofs.MemoryLaws.{unrefused_asks}
use Rattle.lt_lemmas.proofs.TableLaws.{fine_table}
use Rattle.lt_terms.specs.Conversion.{same_bytes}
use Rattle.lt_terms.specs.Key.{Range, key_bytes, meets, ranges_from}
use Rattle.lt_terms.specs.Log.{Change}
use Rattle.lt_tables.specs.Pump.{StreamAt, numbered_from}
use Rattle.lt_machine.specs.Machine.{checkpoint_at, checkpoints, first_below, query_interval, ranges_of, refused}
use Rattle.lt_machine.specs.Sound.{Memory}
use Rattle.lt_tables.specs.Query.{answer, interval}
use Rattle.lt_words.specs.Reply as model
use Rattle.lt_tables.specs.Row.{snapshot}
use Rattle.lt_tables.specs.Schema.{Catalogue, SchemaVersion, Table, table_named, table_numbered}
use Rattle.lt_tables.specs.Query.{do_scan}
use Rattle.lt_words.specs.Script.{plain_query}
use Rattle.lt_tables.specs.Pump.{Part}
use Rattle.lt_terms.specs.Value.{Value}
use Rattle.lt_parts.specs.Parts.{checkpoints_of, first_below_in, ranges}
use Rattle.lt_parts.specs.declared.entry.PartEntry.{PartEntry}
use Rattle.lt_pump.specs.Pumps.{streams_of}
use Rattle.lt_reply.specs.declared.refusal.Refusal.{Refusal}
use Rattle.lt_rows.proofs.WholeAnswers.{below_last, low_is}
use Rattle.lt_rows.specs.Scans.{AreShaped, RiseByKey, scan_rows}
use Rattle.lt_steps.proofs.ReadsLaws.{memory_reads}
use Rattle.lt_steps.specs.Memory.{gone_over}
use Rattle.lt_replica.specs.Answers.{IsLive, named_fault}
use Rattle.lt_replica.specs.Scans.{ReadsHeld, table_keys, unsafe_at}
use Rattle.lt_replica.specs.State.{AreSettled, memory_of, part_of_entry, state_of, state_with}
use Rattle.lt_replica.specs.Steps.{AreRows, Refuses}
use Rattle.lt_replica.specs.declared.replica.Replica.{Replica}
use Rattle.lt_replica.proofs.RangeLaws.{lows_parts}
use Rattle.lt_replica.proofs.Refusals.{asked, scan_refused, scan_unnamed}
use Rattle.lt_replica.proofs.Results.{refuses_to}

-- ---- the checkpoints that are kept are the machine's

pub ranges_same : (cat : Catalogue) (n : Numbers) (es : List PartEntry) (ss : List StreamAt) (mem : Memory) → ranges_of (state_with cat n es ss mem).durable ≡ ranges es
ranges_same cat n es ss mem = ap ranges_from (sym (lows_parts es))

at_each : (ss : List StreamAt) (es : List PartEntry) (rs : List Range)
    → map (λ (x : Part × Range). checkpoint_at ss x.0 x.1) (zip (map part_of_entry es) rs) ≡ map (λ (x : PartEntry × Range). checkpoint_at ss (part_of_entry x.0) x.1) (zip es rs)
at_each ss [] rs = refl
at_each ss (e ∷ es) [] = refl
at_each ss (e ∷ es) (r ∷ rs) = ap (λ (cs : List ℕ). checkpoint_at ss (part_of_entry e) r ∷ cs) (at_each ss es rs)

pub settled_checkpoints : (cat : Catalogue) (n : Numbers) (es : List PartEntry) (ss : List StreamAt) (mem : Memory) → AreSettled es ss → checkpoints (state_with cat n es ss mem) ≡ checkpoints_of es
settled_checkpoints cat n es ss mem h =
    ap (λ (rs : List Range). map (λ (x : Part × Range). checkpoint_at ss x.0 x.1) (zip (map part_of_entry es) rs)) (ranges_same cat n es ss mem) ∙ at_each ss es (ranges es) ∙ sym h

pub first_below_kept : (cat : Catalogue) (n : Numbers) (es : List PartEntry) (ss : List StreamAt) (mem : Memory) (r : Range) (at : ℕ) → AreSettled es ss
    → first_below (state_with cat n es ss mem) r at ≡ first_below_in (ranges es) (checkpoints_of es) r at
first_below_kept cat n es ss mem r at h = ap₂ (λ (rs : List Range) (cs : List ℕ). first_below_in rs cs r at) (ranges_same cat n es ss mem) (settled_checkpoints cat n es ss mem h)

-- ---- the number of a partition that is not safe

found_within : {A : Type 0} (p : ℕ × A → Bool) (m : ℕ) (xs : List A) (x : ℕ × A) → find p (numbered_from m xs) ≡ Some x → x.0 < m + length xs
found_within p m [] x e = absurd cc
found_within {A} p m (y ∷ ys) x e = by (p (m, y)) (found_within p (m + 1) ys x) e
  where
    by : (b : Bool) → (find p (numbered_from (m + 1) ys) ≡ Some x → x.0 < (m + 1) + length ys) → cond b (Some (m, y)) (find p (numbered_from (m + 1) ys)) ≡ Some x → x.0 < m + length (y ∷ ys)
    by true h e = let s : m ≡ x.0 = cc in omega (arith, s)
    by false h e = let l = h e in omega (arith, l)

pub unsafe_within : (es : List PartEntry) (r : Range) (at : ℕ) (x : ℕ × ℕ) → first_below_in (ranges es) (checkpoints_of es) r at ≡ Some x → x.0 < length es
unsafe_within es r at x e = by (find test (numbered_from 0 (zip (ranges es) (checkpoints_of es)))) refl e
  where
    test : ℕ × (Range × ℕ) → Bool
    test y = meets y.1.0 r && nat_lt y.1.1 at

    by : (o : Option (ℕ × (Range × ℕ))) → find test (numbered_from 0 (zip (ranges es) (checkpoints_of es))) ≡ o → option_map (λ (y : ℕ × (Range × ℕ)). (y.0, y.1.1)) o ≡ Some x → x.0 < length es
    by None d e = absurd cc
    by (Some y) d e =
        let l = found_within test 0 (zip (ranges es) (checkpoints_of es)) y d in
        let k = length-zip (ranges es) (checkpoints_of es) in
        let m = length-map es (λ (e : PartEntry). e.checkpoint) in
        let s : y.0 ≡ x.0 = cc in
        omega (arith, l, k, m, s)

-- ---- what a scan of all of a table is refused for

interval_whole : (t : Table) (name : List ℕ) (v at : ℕ) → query_interval t (asked name v at) ≡ table_keys t.number
unfolding interval
interval_whole t name v at = ap (λ (low : List ℕ). record { low = low; high = Some (key_bytes (t.number + 1) []) }) (low_is (key_bytes t.number []))

number_is : (cat : Catalogue) (name : List ℕ) (v : ℕ) (version : SchemaVersion) (l : IsLive cat name v version) → l.table.number ≡ version.number
number_is cat name v version l = ap (λ (x : SchemaVersion). x.number) (sym l.is)

pub small_number : (cat : Catalogue) (name : List ℕ) (v : ℕ) (version : SchemaVersion) → IsLive cat name v version → version.number + 1 < 2 ^ 32
small_number cat name v version l = subst (λ (n : ℕ). n + 1 < 2 ^ 32) (number_is cat name v version l) (below_last l.table.number (fine_table cat l.table.number l.table l.lawful l.numbered).number)

pub refused_unsafe : (cat : Catalogue) (n : Numbers) (es : List PartEntry) (ss : List StreamAt) (mem : Memory) (name : List ℕ) (v at : ℕ) (version : SchemaVersion) → IsLive cat name v version
    → refused (state_with cat n es ss mem) (do_scan (asked name v at)) ≡ unsafe_at (state_with cat n es ss mem) (table_keys version.number) at
refused_unsafe cat n es ss mem name v at version l =
    let s = state_with cat n es ss mem in
    scan_refused cat n es ss mem name v at version l
    ∙ ap (λ (r : Range). unsafe_at s r at) (interval_whole l.table name v at)
    ∙ ap (λ (k : ℕ). unsafe_at s (table_keys k) at) (number_is cat name v version l)

-- ---- rows

-- the table that a name names has it
its_name : (cat : Catalogue) (name : List ℕ) (t : Table) → table_named cat name ≡ Some t → t.name ≡ name
its_name cat name t e = same_bytes-same t.name name (find_held (λ (t : Table). same_bytes t.name name) cat t e).1

rows_are : (cat : Catalogue) (name : List ℕ) (v at : ℕ) (version : SchemaVersion) (l : IsLive cat name v version) (cs : List Change)
    → scan_rows l.table version cs at ≡ answer l.table l.entry.columns (asked name v at) (snapshot cs l.table l.entry.columns at)
rows_are cat name v at version l cs =
    ap (λ (x : SchemaVersion). scan_rows l.table x cs at) l.is
    ∙ ap (λ (x : List ℕ). answer l.table l.entry.columns (plain_query x v at None) (snapshot cs l.table l.entry.columns at)) (its_name cat name l.table l.named)

-- where the scan is not refused, what is held answers as the source does
pub held_rows : (r : Replica) (name : List ℕ) (v at : ℕ) (version : SchemaVersion) (rows : List (List Value)) → IsLive r.catalogue name v version → refused (state_of r) (do_scan (asked name v at)) ≡ None → ReadsHeld r version at rows
    → AreRows r (asked name v at) rows
held_rows r name v at version rows l free reads f b =
    let q = asked name v at in
    let h = memory_reads f (state_of r) (memory_of r) q l.table l.entry b refl l.named l.found (unrefused_asks (state_of r) (do_scan q) q refl free) in
    let numbered : table_numbered r.catalogue version.number ≡ Some l.table = ap (λ (x : SchemaVersion). table_numbered r.catalogue x.number) l.is ∙ l.numbered in
    (l.table, l.entry, l.named, l.found, reads l.table h.shaped h.in_time numbered ∙ rows_are r.catalogue name v at version l _ ∙ h.answers)

-- ---- a scan, by what its parts answer

pub safe_free : (r : Replica) (name : List ℕ) (v at : ℕ) (version : SchemaVersion) → IsLive r.catalogue name v version → unsafe_at (state_of r) (table_keys version.number) at ≡ None → refused (state_of r) (do_scan (asked name v at)) ≡ None
safe_free r name v at version l e = refused_unsafe r.catalogue (numbers_of r.store r.next_id) r.map (streams_of r.pump) (memory_of r) name v at version l ∙ e

pub unsafe_refuses : (r : Replica) (name : List ℕ) (v at : ℕ) (version : SchemaVersion) (e : Refusal) → IsLive r.catalogue name v version → Refuses (unsafe_at (state_of r) (table_keys version.number) at) e → Refuses (refused (state_of r) (do_scan (asked name v at))) e
unsafe_refuses r name v at version e l h = subst (λ (o : Option model.Refusal). Refuses o e) (sym (refused_unsafe r.catalogue (numbers_of r.store r.next_id) r.map (streams_of r.pump) (memory_of r) name v at version l)) h

pub unnamed_refuses : (r : Replica) (name : List ℕ) (v at : ℕ) (e : Refusal) → Refuses (named_fault r.catalogue name v) e → Refuses (refused (state_of r) (do_scan (asked name v at))) e
unnamed_refuses r name v at e h =
    refuses_to (named_fault r.catalogue name v) (refused (state_of r) (do_scan (asked name v at))) (scan_unnamed r.catalogue (numbers_of r.store r.next_id) r.map (streams_of r.pump) (memory_of r) name v at) e h

-- what the partitions tell of a table's keys
pub unsafe_told : (r : Replica) (table at : ℕ) (low high : List ℕ) (told : Option (ℕ × ℕ)) → low ≡ key_bytes table [] → high ≡ key_bytes (table + 1) [] → told ≡ first_below_in (ranges r.map) (checkpoints_of r.map) (record { low = low; high = Some high }) at
    → unsafe_at (state_of r) (table_keys table) at ≡ option_map (λ (x : ℕ × ℕ). model.not_safe x.0 x.1) told
unsafe_told r table at low high told l h e =
    ap (option_map (λ (x : ℕ × ℕ). model.not_safe x.0 x.1))
    (first_below_kept r.catalogue (numbers_of r.store r.next_id) r.map (streams_of r.pump) (memory_of r) (table_keys table) at r.settled
    ∙ ap₂ (λ (a b : List ℕ). first_below_in (ranges r.map) (checkpoints_of r.map) (record { low = a; high = Some b }) at) (sym l) (sym h) ∙ sym e)

-- what was read of all that is held
pub reads_held : (r : Replica) (version : SchemaVersion) (at : ℕ) (cs : List Change) (rows : List (List Value)) → cs ≡ gone_over (memory_of r)
    → ((t : Table) → AreShaped r.catalogue cs → RiseByKey cs → table_numbered r.catalogue version.number ≡ Some t → rows ≡ scan_rows t version cs at) → ReadsHeld r version at rows
reads_held r version at cs rows e h = subst (λ (xs : List Change). (t : Table) → AreShaped r.catalogue xs → RiseByKey xs → table_numbered r.catalogue version.number ≡ Some t → rows ≡ scan_rows t version xs at) e h
