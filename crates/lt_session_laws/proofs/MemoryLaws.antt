-- What a scan reads: what is stored, and over it what is in memory, are what the source says of the stored and pending names.
use Rattle.std.proofs.Common.{List, [], ap, ap₂, arith, eqb-true, false, ltb-false, refl, subst, sym, ℕ, ◌<◌, ◌∙◌, ◌∷◌, ◌≡◌, ◌≤◌}
use Rattle.std.specs.Prelude.{Contains, IsTrue, None, Option, Some, find, map, nat_lt, not, option_and_then, option_map, zip, ◌==◌}
use Rattle.std.proofs.lemmas.Bool.{and_parts, not-false}
use Rattle.std.specs.List.{AllByRecursion}
use Rattle.std.specs.Option.{option_map_or}
use Rattle.lt_terms.specs.Log.{Change, Header, Item, change_key}
use Rattle.lt_terms.specs.Key.{Range, in_range, same_key}
use Rattle.lt_world.specs.Feed.{Feed}
use Rattle.lt_tables.specs.Pump.{Part, name_of}
use Rattle.lt_tables.specs.Schema.{Column, Registered, Table, carriers, registered, table_named, when}
use Rattle.lt_tables.specs.Version.{RowVersion, asof, clip, is_ordered, merge, put_versions, seen}
use Rattle.lt_tables.specs.Query.{Command, Query, do_compact, do_deltas, do_flush, do_job_begin, do_job_drop, do_job_finish, do_job_step, do_page, do_pump, do_reopen, do_retain, do_retire, do_scan, do_schema, do_split, do_status}
use Rattle.lt_words.specs.Reply.{not_safe, too_old, version_retired}
use Rattle.lt_storage.specs.Store.{Durable, carried_versions, deltas_of, stored}
use Rattle.lt_machine.specs.Machine.{State, cat_of, first_below, of_query, query_interval, query_of, ranges_of, registered_named, seen_pending, version_asked}
use Rattle.lt_machine.specs.Outside.{BelongsTo, HeldScans, UnrefusedAsks, held_with, memory_versions}
use Rattle.lt_machine.specs.Sound.{Memory, PendingOf, PendingOfAll, ReadAll, SoundPart, SoundParts, held_versions, passed, source_of}
use Rattle.lt_codecs.proofs.ListFacts.{none_mapped}
use Rattle.lt_lemmas.proofs.ListFacts.{when_none}
use Rattle.lt_lemmas.proofs.MergeLaws.{clip-ordered, named, named-key, named-ts}
use Rattle.lt_laws.proofs.MemorySeen.{AreInTime, memory_seen}
use Rattle.lt_laws.proofs.HeldLaws.{once}
use Rattle.lt_laws.proofs.ScanLaws.{held_parts, part_held, parts_held, seen_from}
use Rattle.lt_laws.proofs.ScanLemmas.{found-held, from-filter, seen-key, seen-ts}
use Rattle.lt_laws.proofs.MergeLaws.{merge-alone, merge-ordered, merge-swap}
use Rattle.lt_laws.proofs.RangeLaws.{source_in_time}
use Rattle.lt_laws.proofs.AnswerLaws.{scan_is_snapshot}
use Rattle.lt_session_laws.proofs.StepLaws.{unrefused}

-- ---- in a partition the pending versions may be laid over the stored ones, or these over them

-- a pending and a stored version of one name are what one change is seen as
agree_on : (d : Durable) (fs : List (Header × List Item)) (cs : List Change) (p : Part) (r : Range) (names : List (List ℕ × ℕ)) (table : ℕ) → AreInTime (source_of fs) → SoundPart d fs p r → PendingOf d.catalogue d cs p r names
    → (key : List ℕ) (t : ℕ) (v w : RowVersion) → find (named key t) (stored d p r table) ≡ Some v → find (named key t) (clip r (seen_pending (source_of fs) d.catalogue names table)) ≡ Some w → v ≡ w
agree_on d fs cs p r names table time sound pending key t v w e f =
    let cat = d.catalogue in
    let source = source_of fs in
    let pend = seen_pending source cat names table in
    let a = found-held (named key t) (stored d p r table) v e in
    let b = found-held (named key t) (clip r pend) w f in
    let s = seen_from cat source names table w (from-filter (λ (v : RowVersion). in_range v.key r) pend w b.0).0 in
    let g = pending.are_changes s.name s.known in
    let late : p.resume < g.0.ts = g.4 in
    let x = eqb-true s.change.ts s.name.1 (and_parts (same_key (change_key s.change) s.name.0) (s.change.ts == s.name.1) s.fits).1 in
    let y = eqb-true g.0.ts s.name.1 (and_parts (same_key (change_key g.0) s.name.0) (g.0.ts == s.name.1) g.2).1 in
    let wt : w.ts ≡ s.change.ts = ap (λ (u : RowVersion). u.ts) s.is ∙ seen-ts cat s.change in
    let vt : v.ts ≡ t = named-ts key t v a.1 in
    let ut : w.ts ≡ t = named-ts key t w b.1 in
    let least : d.minimum ≤ p.resume = sound.minimum in
    let c = sound.only_changes table v a.0 (omega (arith, least, late, x, y, wt, vt, ut)) in
    let ck : change_key c.0 ≡ key = sym (seen-key cat c.0) ∙ ap (λ (u : RowVersion). u.key) (sym c.3) ∙ sym (named-key key t v a.1) in
    let sk : change_key s.change ≡ key = sym (seen-key cat s.change) ∙ ap (λ (u : RowVersion). u.key) (sym s.is) ∙ sym (named-key key t w b.1) in
    let ct : v.ts ≡ c.0.ts = ap (λ (u : RowVersion). u.ts) c.3 ∙ seen-ts cat c.0 in
    let one : c.0 ≡ s.change = once key source (time key) c.0 s.change c.1 s.held ck sk (sym ct ∙ vt ∙ sym ut ∙ wt) in
    c.3 ∙ ap (seen cat) one ∙ sym s.is

laid_over : (pend store : List RowVersion) → IsTrue (is_ordered store) → merge (pend ∷ store ∷ []) ≡ put_versions pend store
unfolding merge
laid_over pend store o = ap (put_versions pend) (merge-alone store o)

part_same : (d : Durable) (fs : List (Header × List Item)) (cs : List Change) (p : Part) (r : Range) (names : List (List ℕ × ℕ)) (m : List Change) (table : ℕ) → AreInTime (source_of fs) → SoundPart d fs p r → PendingOf d.catalogue d cs p r names
    → map name_of m ≡ names → AllByRecursion (Contains (source_of fs)) m
    → merge (stored d p r table ∷ clip r (memory_versions d.catalogue m table) ∷ []) ≡ part_held d.catalogue (source_of fs) d table p r names
part_same d fs cs p r names m table time sound pending e held =
    let cat = d.catalogue in
    let source = source_of fs in
    let store = stored d p r table in
    let seen_names : memory_versions cat m table ≡ seen_pending source cat names table = sym (memory_seen cat source table m time held) ∙ ap (λ (ns : List (List ℕ × ℕ)). seen_pending source cat ns table) e in
    ap (λ (vs : List RowVersion). merge (store ∷ clip r vs ∷ [])) seen_names
    ∙ merge-swap store (clip r (seen_pending source cat names table)) [] (agree_on d fs cs p r names table time sound pending)
    ∙ laid_over (clip r (seen_pending source cat names table)) store (clip-ordered r (merge (map (carried_versions cat table) (deltas_of d.shelf p.ids))) (merge-ordered (map (carried_versions cat table) (deltas_of d.shelf p.ids))))

-- ---- all partitions

abbrev AreHeld : List Change → Memory → Type 0
AreHeld source mem = AllByRecursion (λ cs. AllByRecursion (Contains source) cs) mem

abbrev parts_with : Durable → ℕ → List (Part × Range) → Memory → List (List RowVersion)
parts_with d table ps mem = map (λ x. merge (stored d x.0.0 x.0.1 table ∷ clip x.0.1 (memory_versions d.catalogue x.1 table) ∷ [])) (zip ps mem)

parts_same : (d : Durable) (fs : List (Header × List Item)) (cs : List Change) (table : ℕ) (ps : List Part) (rs : List Range) (mem : Memory) (rest : List (List (List ℕ × ℕ))) → AreInTime (source_of fs) → SoundParts d fs ps rs
    → PendingOfAll d.catalogue d cs ps rs rest → map (λ cs. map name_of cs) mem ≡ rest → AreHeld (source_of fs) mem → parts_with d table (zip ps rs) mem ≡ parts_held d.catalogue (source_of fs) d table ps rs rest
parts_same d fs cs table [] rs mem rest time a b e h = refl
parts_same d fs cs table (p ∷ ps) [] mem rest time a b e h = absurd a
parts_same d fs cs table (p ∷ ps) (r ∷ rs) mem [] time a b e h = absurd b
parts_same d fs cs table (p ∷ ps) (r ∷ rs) [] (ns ∷ rest) time a b e h = cc
parts_same d fs cs table (p ∷ ps) (r ∷ rs) (m ∷ mem) (ns ∷ rest) time a b e h =
    let first : map name_of m ≡ ns = cc in
    let others : map (λ cs. map name_of cs) mem ≡ rest = cc in
    ap₂ (λ (x : List RowVersion) (xs : List (List RowVersion)). x ∷ xs) (part_same d fs cs p r ns m table time a.0 b.0 first h.0) (parts_same d fs cs table ps rs mem rest time a.1 b.1 others h.1)

-- what is stored and in memory is what the source says
pub held_same : (f : Feed) (s : State) (mem : Memory) (table : ℕ) (b : BelongsTo f s mem) → held_with s mem table ≡ held_versions (source_of b.0) s table
held_same f s mem table b = let good = b.1 in
    ap merge (parts_same s.durable b.0 (passed b.0 s.streams) table s.durable.parts (ranges_of s.durable) mem s.pending (λ key. source_in_time f (cat_of s) b.0 key good.fronts) good.sound.parts good.ready.pending b.2 b.3)
    ∙ sym (held_parts f b.0 s table good)

-- so a scan of it in the window answers as the source's snapshot
pub held_scans : HeldScans
held_scans f s mem q rows b asks h =
    let fs = b.0 in
    let t = h.0 in
    let r = h.1 in
    let es = h.2 in
    let w = asks t r h.3 h.4 in
    let reads = subst (λ (vs : List RowVersion). ReadAll t r.columns (carriers (cat_of s) t.number) (asof q.at vs) es) (held_same f s mem t.number b) h.5 in
    (t, r, h.3, h.4, h.6 ∙ scan_is_snapshot f fs s t q.version r q es b.1 h.3 h.4 w.0 w.1 w.2 reads)

-- ---- what is not refused asks in the window

asked : {A : Type 0} (s : State) (c : Command) (q : Query) (t : Table) (r : Registered) (f : Table → List Column → Query → Option A) → query_of c ≡ Some q → table_named (cat_of s) q.table ≡ Some t → registered t q.version ≡ Some r
    → of_query s c f ≡ f t r.columns q
asked s c q t r f is named version = ap (option_and_then (λ q. option_and_then (λ t. option_and_then (λ r. f t r.columns q) (registered t q.version)) (table_named (cat_of s) q.table))) is
    ∙ ap (option_and_then (λ t. option_and_then (λ r. f t r.columns q) (registered t q.version))) named ∙ ap (option_and_then (λ r. f t r.columns q)) version

-- a scan or page names its query's version
version_of : (c : Command) (q : Query) → query_of c ≡ Some q → version_asked c ≡ Some (q.table, q.version)
version_of (do_scan p) q e = ap (option_map (λ (q : Query). (q.table, q.version))) e
version_of (do_page p) q e = ap (option_map (λ (q : Query). (q.table, q.version))) e
version_of (do_schema t) q e = cc
version_of (do_retire t v) q e = cc
version_of (do_pump n k) q e = cc
version_of (do_flush p) q e = cc
version_of (do_compact p m) q e = cc
version_of (do_job_begin p m) q e = cc
version_of (do_job_step n) q e = cc
version_of do_job_finish q e = cc
version_of do_job_drop q e = cc
version_of (do_split t k) q e = cc
version_of (do_retain t) q e = cc
version_of do_status q e = cc
version_of (do_deltas p) q e = cc
version_of do_reopen q e = cc

pub unrefused_asks : UnrefusedAsks
unrefused_asks s c q is e t r named version =
    let u = unrefused s c e in
    let known : registered_named (cat_of s) q.table q.version ≡ Some r = ap (option_and_then (λ x. registered x q.version)) named ∙ version in
    let dead : when (not r.live) (version_retired q.version) ≡ None = ap (λ (o : Option Registered). when (option_map_or (λ r. not r.live) o false) (version_retired q.version)) (sym known)
    ∙ ap (option_and_then (λ a. when (option_map_or (λ r. not r.live) (registered_named (cat_of s) a.0 a.1) false) (version_retired a.1))) (sym (version_of c q is)) ∙ u.live in
    let old : when (nat_lt q.at s.durable.minimum) (too_old s.durable.minimum) ≡ None = sym (asked s c q t r (λ t columns q. when (nat_lt q.at s.durable.minimum) (too_old s.durable.minimum)) is named version) ∙ u.recent in
    let late : option_map (λ x. not_safe x.0 x.1) (first_below s (query_interval t q) q.at) ≡ None = sym (asked s c q t r (λ t columns q. option_map (λ x. not_safe x.0 x.1) (first_below s (query_interval t q) q.at)) is named version) ∙ u.safe in (
      not-false r.live (when_none (not r.live) (version_retired q.version) dead),
      ltb-false q.at s.durable.minimum (when_none (nat_lt q.at s.durable.minimum) (too_old s.durable.minimum) old),
      none_mapped (λ x. not_safe x.0 x.1) (first_below s (query_interval t q) q.at) late,
    )
