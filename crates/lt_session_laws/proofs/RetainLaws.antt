-- A retention keeps a good session: from a later minimum on the stored versions of a key make its row all the same.
use Rattle.std.proofs.Common.{Bool, List, [], ap, append-nil, arith, cond, drop, false, le-leb, length, lt-ltb, ltb-false, ltb-true, refl, subst, sym, take, true, ℕ, ◌++◌, ◌+◌, ◌<◌, ◌∙◌, ◌∷◌, ◌≡◌, ◌≤◌}
use Rattle.std.specs.Prelude.{Contains, IsTrue, Some, map, nat_le, nat_lt, ◌&&◌, ◌==◌, ◌^◌}
use Rattle.std.proofs.lemmas.List.{take-append-drop}
use Rattle.std.specs.List.{AllByRecursion, list_all, list_any}
use Rattle.std.proofs.lemmas.Bool.{and_from, and_parts, false≢true}
use Rattle.lt_terms.specs.Log.{Change, Header, Item, change_key, u32}
use Rattle.lt_terms.specs.Key.{Range, in_range, max_key, same_key, tile}
use Rattle.lt_terms.specs.Value.{rises_strictly}
use Rattle.lt_world.specs.Feed.{Feed}
use Rattle.lt_tables.specs.Fair.{changes_to}
use Rattle.lt_tables.specs.Schema.{IsCatalogue, Table, table_numbered, when}
use Rattle.lt_tables.specs.Pump.{Part}
use Rattle.lt_tables.specs.Version.{effect_of, merge, seen}
use Rattle.lt_tables.specs.Row.{IsKeyed, row_at}
use Rattle.lt_tables.specs.Query.{do_retain}
use Rattle.lt_words.specs.Reply.{above_durable, below_minimum}
use Rattle.lt_storage.specs.Store.{Durable, IsLawfulManifest, Manifest, bare_manifest, carried_versions, deltas_of, fits_63, is_part_entry, stored}
use Rattle.lt_storage.specs.Bundle.{has_table}
use Rattle.lt_machine.specs.Sound.{Fronts, IsGood, JobBegan, JobStands, SoundPart, SoundParts, passed, row_cells, source_of, up_to_ts}
use Rattle.lt_machine.specs.Machine.{Job, State, cat_of, least, ranges_of, resumes}
use Rattle.lt_codecs.proofs.KeyLaws.{one_table}
use Rattle.lt_codecs.proofs.ListFacts.{all_map, or_left, or_right}
use Rattle.lt_lemmas.proofs.ConversionLemmas.{same_bytes-same}
use Rattle.lt_lemmas.proofs.PointLaws.{same}
use Rattle.lt_lemmas.proofs.TakenLaws.{number_fits}
use Rattle.lt_lemmas.proofs.TableLaws.{fine_table}
use Rattle.lt_lemmas.proofs.MergeLaws.{clip-ordered}
use Rattle.lt_lemmas.proofs.ListFacts.{when_none}
use Rattle.lt_laws.proofs.ScanLemmas.{AreOf, between-seen, row-held}
use Rattle.lt_laws.proofs.RangeLaws.{source_in_time}
use Rattle.lt_laws.proofs.ScanLaws.{of_at}
use Rattle.lt_laws.proofs.TakenLaws.{source_keyed}
use Rattle.lt_laws.proofs.MergeLaws.{merge-ordered}
use Rattle.lt_laws.proofs.SoundLaws.{least-all}
use Rattle.lt_session_laws.proofs.StepLaws.{KeepsDoing, all_pending_as, if_some, next_generation, unrefused}

-- ---- the rows at a later minimum

-- The durable part with a minimum, up to which each partition is durable, and which is not below the one before.
abbrev pub with_minimum : Durable → ℕ → Durable
with_minimum d t = record d { minimum = t; generation = d.generation + 1 }

-- a change of a key that begins with a table's number is of the table
pub table_of_has : (table : ℕ) (key : List ℕ) (c : Change) → table < 2 ^ 32 → c.table < 2 ^ 32 → IsTrue (has_table table key) → change_key c ≡ key → c.table ≡ table
table_of_has table key c l m h e =
    let front : take 4 key ≡ u32 table = same_bytes-same (take 4 key) (u32 table) h in
    let parted : key ≡ u32 table ++ drop 4 key = sym (take-append-drop 4 key) ∙ ap (λ (x : List ℕ). x ++ drop 4 key) front in
    one_table c.table table c.key [] [] (drop 4 key) m l (append-nil (change_key c) ∙ e ∙ parted ∙ ap (λ (x : List ℕ). x ++ drop 4 key) (sym (append-nil (u32 table))))

pub all_of : (table : ℕ) (key : List ℕ) (cs : List Change) → table < 2 ^ 32 → IsTrue (has_table table key) → AllByRecursion (λ c. c.table < 2 ^ 32) cs → AreOf table (changes_to key cs)
all_of table key [] l h a = tt
all_of table key (c ∷ cs) l h a = of_by (same_key (change_key c) key) refl (all_of table key cs l h a.1)
  where
    of_by : (b : Bool) → same_key (change_key c) key ≡ b → AreOf table (changes_to key cs) → AreOf table (cond b (c ∷ changes_to key cs) (changes_to key cs))
    of_by true e r = (table_of_has table key c l a.0 h (same (change_key c) key e), r)
    of_by false e r = r

-- a key's stored versions up to a moment that the partition is durable to make its row then
pub stored_row : (feed : Feed) (d : Durable) (fs : List (Header × List Item)) (p : Part) (r : Range) (t : ℕ) (x : Table) (key : List ℕ) → IsCatalogue d.catalogue → Fronts feed d.catalogue fs → SoundPart d fs p r → d.minimum ≤ t → t ≤ p.resume
    → table_numbered d.catalogue x.number ≡ Some x → IsTrue (in_range key r) → IsTrue (has_table x.number key) → effect_of (up_to_ts key t (stored d p r x.number)) ≡ row_cells d.catalogue x.number (row_at (source_of fs) key t)
stored_row feed d fs p r t x key is fronts s low high known within has =
    let cat = d.catalogue in
    let source = source_of fs in
    let vs = stored d p r x.number in
    let ordered = clip-ordered r (merge (map (carried_versions cat x.number) (deltas_of d.shelf p.ids))) (merge-ordered (map (carried_versions cat x.number) (deltas_of d.shelf p.ids))) in
    let time = source_in_time feed cat fs key fronts in
    let small = number_fits x.number (fine_table cat x.number x is known).number in
    let of = all_of x.number key source small has (all_map (IsKeyed cat) (λ c. c.table < 2 ^ 32) source (λ c k. k.0) (source_keyed feed cat fs fronts)) in
    row-held cat x.number source key d.minimum t vs low ordered time of (s.rows x key known within has) (between-seen cat source key d.minimum t vs ordered time
    (λ v h e a b. let c = s.only_changes x.number v h a in (c.0, c.1, c.3))
    (λ c h e a b. subst (λ (n : ℕ). Contains (stored d p r n) (seen cat c)) (of_at x.number key source c of h e)
    (s.all_changes c h (ap (λ (k : List ℕ). in_range k r) e ∙ within) a (omega (arith, b, high)))))

part_retained : (feed : Feed) (d : Durable) (fs : List (Header × List Item)) (p : Part) (r : Range) (t : ℕ) → IsCatalogue d.catalogue → Fronts feed d.catalogue fs → SoundPart d fs p r → d.minimum ≤ t → t ≤ p.resume → SoundPart (with_minimum d t) fs p r
part_retained feed d fs p r t is fronts s low high = record {
  only_changes = λ table v h l. s.only_changes table v h (omega (arith, low, l));
  all_changes = λ c h w l m. s.all_changes c h w (omega (arith, low, l)) m;
  rows = λ x key k w h. stored_row feed d fs p r t x key is fronts s low high k w h;
  agree = s.agree;
  minimum = high;
  resume = s.resume;
}

parts_retained : (feed : Feed) (d : Durable) (fs : List (Header × List Item)) (t : ℕ) (ps : List Part) (rs : List Range) → IsCatalogue d.catalogue → Fronts feed d.catalogue fs → d.minimum ≤ t → AllByRecursion (λ p. t ≤ p.resume) ps → SoundParts d fs ps rs → SoundParts (with_minimum d t) fs ps rs
parts_retained feed d fs t [] rs is fronts low high s = tt
parts_retained feed d fs t (p ∷ ps) [] is fronts low high s = absurd s
parts_retained feed d fs t (p ∷ ps) (r ∷ rs) is fronts low high s = (part_retained feed d fs p r t is fronts s.0 low high.0, parts_retained feed d fs t ps rs is fronts low high.1 s.1)

-- ---- the manifest

entry_retained : (m : Manifest) (t : ℕ) (p : Part) → t ≤ p.resume → IsTrue (is_part_entry m p) → IsTrue (is_part_entry (record m { minimum = t }) p)
entry_retained m t p h e =
    let listed = list_all (λ id. list_any (λ d. d.0 == id) m.deltas && nat_lt id m.next_id) p.ids in
    let a = and_parts (nat_le (length p.low) max_key && fits_63 p.resume && nat_le m.minimum p.resume && rises_strictly p.ids) listed e in
    let b = and_parts (nat_le (length p.low) max_key && fits_63 p.resume && nat_le m.minimum p.resume) (rises_strictly p.ids) a.0 in
    let c = and_parts (nat_le (length p.low) max_key && fits_63 p.resume) (nat_le m.minimum p.resume) b.0 in
    and_from _ _ (and_from _ _ (and_from _ _ c.0 (le-leb t p.resume h)) b.1) a.1

entries_retained : (m : Manifest) (t : ℕ) (ps : List Part) → AllByRecursion (λ p. t ≤ p.resume) ps → IsTrue (list_all (is_part_entry m) ps) → IsTrue (list_all (is_part_entry (record m { minimum = t })) ps)
entries_retained m t [] h e = refl
entries_retained m t (p ∷ ps) h e = let q = and_parts (is_part_entry m p) (list_all (is_part_entry m) ps) e in and_from _ _ (entry_retained m t p h.0 q.0) (entries_retained m t ps h.1 q.1)

entry_fits : (m : Manifest) (p : Part) → IsTrue (is_part_entry m p) → p.resume < 2 ^ 63
entry_fits m p e =
    let listed = list_all (λ id. list_any (λ d. d.0 == id) m.deltas && nat_lt id m.next_id) p.ids in
    let a = and_parts (nat_le (length p.low) max_key && fits_63 p.resume && nat_le m.minimum p.resume && rises_strictly p.ids) listed e in
    let b = and_parts (nat_le (length p.low) max_key && fits_63 p.resume && nat_le m.minimum p.resume) (rises_strictly p.ids) a.0 in
    let c = and_parts (nat_le (length p.low) max_key && fits_63 p.resume) (nat_le m.minimum p.resume) b.0 in
    ltb-true p.resume (2 ^ 63) (and_parts (nat_le (length p.low) max_key) (fits_63 p.resume) c.0).1

small_minimum : (m : Manifest) (t : ℕ) (ps : List Part) → IsTrue (tile (map (λ p. p.low) ps)) → AllByRecursion (λ p. t ≤ p.resume) ps → IsTrue (list_all (is_part_entry m) ps) → t < 2 ^ 64
small_minimum m t [] h a e = absurd (false≢true h)
small_minimum m t (p ∷ ps) h a e = let f : p.resume < 2 ^ 63 = entry_fits m p (and_parts (is_part_entry m p) (list_all (is_part_entry m) ps) e).0 in let l : t ≤ p.resume = a.0 in omega (arith, f, l)

manifest_retained : (m : Manifest) (t : ℕ) → AllByRecursion (λ p. t ≤ p.resume) m.parts → IsLawfulManifest m → IsLawfulManifest (record m { minimum = t })
manifest_retained m t h l =
    let a = and_parts (tile (map (λ p. p.low) m.parts) && nat_le (length m.parts) 1024) (list_all (is_part_entry m) m.parts) l.parts in
    let small = small_minimum m t m.parts (and_parts (tile (map (λ p. p.low) m.parts)) (nat_le (length m.parts) 1024) a.0).0 h a.1 in record {
      limit = l.limit;
      numbers = and_from _ _ (lt-ltb t (2 ^ 64) small) (and_parts (nat_lt m.minimum (2 ^ 64)) (nat_lt m.next_id (2 ^ 64)) l.numbers).1;
      catalogue = l.catalogue;
      streams = l.streams;
      parts = and_from _ _ a.0 (entries_retained m t m.parts h a.1);
      deltas = l.deltas;
    }

-- ---- the command

resumes_all : (t : ℕ) (ps : List Part) → AllByRecursion (λ n. t ≤ n) (map (λ p. p.resume) ps) → AllByRecursion (λ p. t ≤ p.resume) ps
resumes_all t [] a = tt
resumes_all t (p ∷ ps) a = (a.0, resumes_all t ps a.1)

job_retained : (d : Durable) (t : ℕ) (j : Job) → d.minimum ≤ t → JobBegan d j → JobBegan (with_minimum d t) j
job_retained d t j low h = record { shelved = h.shelved; catalogue = h.catalogue; lawful = h.lawful; inputs = h.inputs; minimum = (let l : j.minimum ≤ d.minimum = h.minimum in omega (arith, l, low)); taken = h.taken }

pub retain_keeps : (t : ℕ) → KeepsDoing (do_retain t)
retain_keeps t feed fs s s' a good e d =
    let u = unrefused s (do_retain t) e in
    let high : t ≤ least (resumes s.durable) = ltb-false (least (resumes s.durable)) t (when_none (nat_lt (least (resumes s.durable)) t) (above_durable (least (resumes s.durable))) (or_left _ _ u.retain)) in
    let low : s.durable.minimum ≤ t = ltb-false t s.durable.minimum (when_none (nat_lt t s.durable.minimum) (below_minimum s.durable.minimum) (or_right (when (nat_lt (least (resumes s.durable)) t) (above_durable (least (resumes s.durable)))) _ u.retain)) in
    let each = resumes_all t s.durable.parts (least-all t (resumes s.durable) high) in
    let is = good.lawful.manifest.catalogue in (
      fs,
      subst (λ (x : State). IsGood feed x fs) (sym d.1) (record {
        short = good.short;
        lawful = record { generation = next_generation s.durable good.lawful u.unworn; manifest = manifest_retained (bare_manifest s.durable) t each good.lawful.manifest; shelf = good.lawful.shelf };
        fronts = good.fronts;
        sound = record { parts = parts_retained feed s.durable fs t s.durable.parts (ranges_of s.durable) is good.fronts low each good.sound.parts; points = good.sound.points };
        ready = record {
          places = good.ready.places;
          pending = all_pending_as (cat_of s) s.durable (with_minimum s.durable t) (passed fs s.streams) s.durable.parts (ranges_of s.durable) s.pending (λ p r table. refl) good.ready.pending;
          job = if_some (λ j. JobStands s.durable j × JobBegan s.durable j) (λ j. JobStands (with_minimum s.durable t) j × JobBegan (with_minimum s.durable t) j) s.job
              (λ j h. (h.0, job_retained s.durable t j low h.1)) good.ready.job;
        };
      }),
    )
