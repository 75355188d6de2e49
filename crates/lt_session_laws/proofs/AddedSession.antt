-- A session in which a partition lists a new delta of what was pending there is good; the names stay pending until the partition is durable.
use Rattle.std.proofs.Common.{Bool, List, [], ap, arith, cond, eq-eqb, false, le-leb, length, lt-ltb, refl, subst, suc, sym, true, ℕ, ◌++◌, ◌+◌, ◌<◌, ◌∙◌, ◌∷◌, ◌≡◌, ◌≤◌}
use Rattle.std.specs.Prelude.{Contains, IsTrue, Option, Some, find, is_some, map, nat_le, nat_lt, slice_get, sum, zip, ◌&&◌, ◌==◌, ◌^◌, ◌||◌}
use Rattle.std.specs.List.{AllByRecursion, list_all, list_any}
use Rattle.std.proofs.lemmas.Bool.{and_from, and_parts}
use Rattle.std.proofs.lemmas.List.{length-append, map-append}
use Rattle.lt_terms.specs.Value.{rises_above, rises_strictly}
use Rattle.lt_terms.specs.Key.{Range, max_key, tile}
use Rattle.lt_terms.specs.Log.{Header, Item}
use Rattle.lt_world.specs.Feed.{Feed}
use Rattle.lt_tables.specs.Pump.{Part}
use Rattle.lt_tables.specs.Schema.{change_at}
use Rattle.lt_tables.specs.Version.{RowVersion, clip, merge}
use Rattle.lt_storage.specs.Store.{AreLawfulTables, Delta, Durable, IsLawfulPart, Manifest, bare_manifest, carried_versions, delta_with, deltas_of, fits_63, is_delta_entry, is_part_entry, part_ranges}
use Rattle.lt_storage.specs.Bundle.{grouped}
use Rattle.lt_machine.specs.Machine.{Job, State, cat_of, delta_of, flushed_lists, pending_of, ranges_of, table_numbers}
use Rattle.lt_machine.specs.Sound.{IsGood, JobBegan, JobStands, PendingOfAll, SoundPart, SoundParts, passed, source_of}
use Rattle.lt_codecs.proofs.ListFacts.{all_append, all_map}
use Rattle.lt_lemmas.proofs.TakenLaws.{any_append}
use Rattle.lt_lemmas.proofs.ListFacts.{all_from}
use Rattle.lt_lemmas.proofs.PartsChanged.{changed_there, length_changed}
use Rattle.lt_session_laws.proofs.DeltaAdded.{Adds, IsSource, lists_too, part_added, part_other, pending_grown, stands_added, stands_other, store_grown, stored_as, with_one}
use Rattle.lt_laws.proofs.DurableFacts.{IsKnown, listed_known, map_tests, mapped_any, named_at, part_entries, shelf_below}
use Rattle.lt_laws.proofs.NewDelta.{flushed_lawful, tests_hold}
use Rattle.lt_laws.proofs.ListFacts.{all_at}
use Rattle.lt_session_laws.proofs.PartsChanged.{all_changed, any_changed, any_there, change_none, each_changed, lows_changed, pending_at, pending_changed, ranges_changed}
use Rattle.lt_session_laws.proofs.SplitLaws.{Each, StandsAt, each_pair, each_sound, each_zipped, lows_of, sound_each, zipped_each}
use Rattle.lt_laws.proofs.AnswerLaws.{sound_from}
use Rattle.lt_laws.proofs.RangeLaws.{source_in_time}
use Rattle.lt_laws.proofs.ShelfGrowth.{flushed_carried, known_stays, named_stay}
use Rattle.lt_session_laws.proofs.StepLaws.{if_some}
use Rattle.lt_lemmas.proofs.SnapshotLaws.{or_left, or_right}

-- ---- entries of a manifest, in parts

pub record PartEntry (m : Manifest) (p : Part) : Type 0 where
  pub low : IsTrue (nat_le (length p.low) max_key)
  pub fits : IsTrue (fits_63 p.resume)
  pub above : IsTrue (nat_le m.minimum p.resume)
  pub rise : IsTrue (rises_strictly p.ids)
  pub listed : IsTrue (list_all (λ id. list_any (λ d. d.0 == id) m.deltas && nat_lt id m.next_id) p.ids)

pub entry_parts : (m : Manifest) (p : Part) → IsTrue (is_part_entry m p) → PartEntry m p
entry_parts m p e =
    let listed = list_all (λ id. list_any (λ d. d.0 == id) m.deltas && nat_lt id m.next_id) p.ids in
    let a = and_parts (nat_le (length p.low) max_key && fits_63 p.resume && nat_le m.minimum p.resume && rises_strictly p.ids) listed e in
    let b = and_parts (nat_le (length p.low) max_key && fits_63 p.resume && nat_le m.minimum p.resume) (rises_strictly p.ids) a.0 in
    let c = and_parts (nat_le (length p.low) max_key && fits_63 p.resume) (nat_le m.minimum p.resume) b.0 in
    let d = and_parts (nat_le (length p.low) max_key) (fits_63 p.resume) c.0 in
    record { low = d.0; fits = d.1; above = c.1; rise = b.1; listed = a.1 }

pub entry_made : (m : Manifest) (p : Part) → PartEntry m p → IsTrue (is_part_entry m p)
entry_made m p h = and_from _ _ (and_from _ _ (and_from _ _ (and_from _ _ h.low h.fits) h.above) h.rise) h.listed

above_push : (low : ℕ) (ns : List ℕ) (n : ℕ) → low < n → IsTrue (rises_above low ns) → AllByRecursion (λ m. m < n) ns → IsTrue (rises_above low (ns ++ n ∷ []))
above_push low [] n l r a = and_from _ _ (lt-ltb low n l) refl
above_push low (m ∷ ns) n l r a = let p = and_parts (nat_lt low m) (rises_above m ns) r in and_from _ _ p.0 (above_push m ns n a.0 p.1 a.1)

pub rises_push : (ns : List ℕ) (n : ℕ) → IsTrue (rises_strictly ns) → AllByRecursion (λ m. m < n) ns → IsTrue (rises_strictly (ns ++ n ∷ []))
rises_push [] n r a = refl
rises_push (m ∷ ns) n r a = above_push m ns n a.0 r a.1

-- ---- a durable part with one delta more

some_any : {A : Type 0} (x : A) (o : Option A) (b c : Bool) → (is_some o ≡ true → c ≡ true) → is_some (cond b (Some x) o) ≡ true → (b || c) ≡ true
some_any x o true c f h = refl
some_any x o false c f h = f h

pub found_any : {A : Type 0} (test : A → Bool) (xs : List A) → is_some (find test xs) ≡ true → list_any test xs ≡ true
found_any test [] h = h
found_any test (x ∷ xs) h = some_any x (find test xs) (test x) (list_any test xs) (found_any test xs) h

abbrev is_listed_in : Manifest → ℕ → Bool
is_listed_in m id = list_any (λ d. d.0 == id) m.deltas && nat_lt id m.next_id

known_listed : (d : Durable) (n : ℕ) (x : Delta) (id : ℕ) → IsKnown d id → IsTrue (is_listed_in (bare_manifest (with_one d n x)) id)
known_listed d n x id k = and_from _ _ (mapped_any id (d.shelf ++ x ∷ []) ∙ any_append (λ (y : Delta). y.id == id) d.shelf (x ∷ []) ∙ or_left (list_any (λ (y : Delta). y.id == id) d.shelf) (list_any (λ (y : Delta). y.id == id) (x ∷ [])) (found_any (λ (y : Delta). y.id == id) d.shelf k.0))
    (let h = k.1 in lt-ltb id (d.next_id + 1) (omega (arith, h)))

new_listed : (d : Durable) (n : ℕ) (x : Delta) → x.id ≡ d.next_id → IsTrue (is_listed_in (bare_manifest (with_one d n x)) x.id)
new_listed d n x e = and_from _ _ (mapped_any x.id (d.shelf ++ x ∷ []) ∙ any_append (λ (y : Delta). y.id == x.id) d.shelf (x ∷ [])
    ∙ or_right (list_any (λ (y : Delta). y.id == x.id) d.shelf) (list_any (λ (y : Delta). y.id == x.id) (x ∷ [])) (or_left (x.id == x.id) false (eq-eqb x.id x.id refl))) (lt-ltb x.id (d.next_id + 1) (omega (arith, e)))

abbrev IsEntry : Durable → Part → Type 0
IsEntry d p = IsTrue (is_part_entry (bare_manifest d) p) × AllByRecursion (IsKnown d) p.ids

entry_other : (d : Durable) (n : ℕ) (x : Delta) (p : Part) → IsEntry d p → IsTrue (is_part_entry (bare_manifest (with_one d n x)) p)
entry_other d n x p h =
    let m = bare_manifest (with_one d n x) in
    let e = entry_parts (bare_manifest d) p h.0 in
    entry_made m p (record { low = e.low; fits = e.fits; above = e.above; rise = e.rise; listed = tests_hold (is_listed_in m) p.ids (all_map (IsKnown d) (λ id. IsTrue (is_listed_in m id)) p.ids (λ id k. known_listed d n x id k) h.1) })

entry_added : (d : Durable) (n : ℕ) (x : Delta) (p : Part) → x.id ≡ d.next_id → IsEntry d p → IsTrue (is_part_entry (bare_manifest (with_one d n x)) (lists_too x p))
entry_added d n x p i h =
    let m = bare_manifest (with_one d n x) in
    let e = entry_parts (bare_manifest d) p h.0 in
    entry_made m (lists_too x p) (record {
      low = e.low;
      fits = e.fits;
      above = e.above;
      rise = rises_push p.ids x.id e.rise (all_map (IsKnown d) (λ k. k < x.id) p.ids (λ k a. (let l = a.1 in omega (arith, l, i))) h.1);
      listed = tests_hold (is_listed_in m) (p.ids ++ x.id ∷ []) (all_append (λ id. IsTrue (is_listed_in m id)) p.ids (x.id ∷ []) (all_map (IsKnown d) (λ id. IsTrue (is_listed_in m id)) p.ids (λ id k. known_listed d n x id k) h.1) (new_listed d n x i, tt));
    })

all_entries : (d : Durable) → IsLawfulPart d → AllByRecursion (IsEntry d) d.parts
all_entries d l = all_from (IsEntry d) d.parts (λ p h. (all_at (λ p. IsTrue (is_part_entry (bare_manifest d) p)) d.parts p (part_entries d l) h, listed_known d p l h))

pub ids_of : (xs : List Delta) → map (λ (e : _). e.0) (map named_at xs) ≡ map (λ (x : Delta). x.id) xs
ids_of [] = refl
ids_of (x ∷ xs) = ap (λ (l : List ℕ). x.id ∷ l) (ids_of xs)

abbrev lists_it : ℕ → Part → Bool
lists_it id p = list_any (λ i. i == id) p.ids

delta_other : (d : Durable) (n : ℕ) (x y : Delta) → IsTrue (is_delta_entry (bare_manifest d) (named_at y)) → IsTrue (is_delta_entry (bare_manifest (with_one d n x)) (named_at y))
delta_other d n x y h =
    let e = named_at y in
    let a = and_parts (nat_lt e.0 (2 ^ 64) && nat_lt e.1.place (2 ^ 64) && nat_lt e.1.length (2 ^ 64)) (list_any (lists_it e.0) d.parts) h in
    and_from _ _ a.0 (any_changed (lists_it e.0) (lists_too x) n d.parts (λ p k. any_append (λ i. i == e.0) p.ids (x.id ∷ []) ∙ or_left (lists_it e.0 p) (list_any (λ i. i == e.0) (x.id ∷ [])) k) a.1)

delta_new : (d : Durable) (n : ℕ) (x : Delta) (p : Part) → slice_get d.parts n ≡ Some p → x.id < 2 ^ 64 → IsTrue (is_delta_entry (bare_manifest (with_one d n x)) (named_at x))
delta_new d n x p e l = and_from _ _ (and_from _ _ (and_from _ _ (lt-ltb x.id (2 ^ 64) l) refl) refl)
    (any_there (lists_it x.id) n (change_at (lists_too x) n d.parts) (lists_too x p) (changed_there (lists_too x) n d.parts p e)
    (any_append (λ i. i == x.id) p.ids (x.id ∷ []) ∙ or_right (lists_it x.id p) (list_any (λ i. i == x.id) (x.id ∷ [])) (or_left (x.id == x.id) false (eq-eqb x.id x.id refl))))

pub mapped_tests : (test : _ → Bool) (xs : List Delta) → AllByRecursion (λ x. IsTrue (test (named_at x))) xs → IsTrue (list_all test (map named_at xs))
mapped_tests test [] a = refl
mapped_tests test (x ∷ xs) a = and_from _ _ a.0 (mapped_tests test xs a.1)

pub named_length : (xs : List Delta) → length (map named_at xs) ≡ length xs
named_length [] = refl
named_length (x ∷ xs) = ap suc (named_length xs)

-- the durable part stays lawful
pub lawful_added : (d : Durable) (n : ℕ) (x : Delta) (p : Part) → IsLawfulPart d → slice_get d.parts n ≡ Some p → x.id ≡ d.next_id → d.next_id + 1 < 2 ^ 64 → length d.shelf < 4096 → AreLawfulTables d.catalogue x → IsLawfulPart (with_one d n x)
lawful_added d n x p l e i room few made =
    let m = bare_manifest d in
    let k = bare_manifest (with_one d n x) in
    let parts = and_parts (tile (lows_of d.parts) && nat_le (length d.parts) 1024) (list_all (is_part_entry m) d.parts) l.manifest.parts in
    let tiled = and_parts (tile (lows_of d.parts)) (nat_le (length d.parts) 1024) parts.0 in
    let deltas = and_parts (rises_strictly (map (λ d. d.0) m.deltas) && nat_le (length m.deltas) 4096) (list_all (is_delta_entry m) m.deltas) l.manifest.deltas in
    let rise = (and_parts (rises_strictly (map (λ d. d.0) m.deltas)) (nat_le (length m.deltas) 4096) deltas.0).0 in
    let below : AllByRecursion (λ y. y.id < x.id) d.shelf = all_map (λ y. y.id < d.next_id) (λ y. y.id < x.id) d.shelf (λ y h. omega (arith, h, i)) (shelf_below d l) in
    let longer : length (d.shelf ++ x ∷ []) ≡ length d.shelf + 1 = length-append d.shelf (x ∷ []) in record {
      generation = l.generation;
      manifest = record {
        limit = l.manifest.limit;
        numbers = and_from _ _ (and_parts (nat_lt d.minimum (2 ^ 64)) (nat_lt d.next_id (2 ^ 64)) l.manifest.numbers).0 (lt-ltb (d.next_id + 1) (2 ^ 64) room);
        catalogue = l.manifest.catalogue;
        streams = l.manifest.streams;
        parts = and_from _ _ (and_from _ _ (ap tile (lows_changed (lists_too x) n d.parts (λ p. refl)) ∙ tiled.0) (ap (λ (j : ℕ). nat_le j 1024) (length_changed (lists_too x) n d.parts) ∙ tiled.1))
            (tests_hold (is_part_entry k) (change_at (lists_too x) n d.parts) (all_changed (IsEntry d) (λ p. IsTrue (is_part_entry k p)) (lists_too x) n d.parts (λ p h. entry_other d n x p h) (λ p f h. entry_added d n x p i h) (all_entries d l)));
        deltas = and_from _ _ (and_from _ _
            (ap rises_strictly (ids_of (d.shelf ++ x ∷ []) ∙ map-append (λ (y : Delta). y.id) d.shelf (x ∷ [])) ∙ rises_push (map (λ (y : Delta). y.id) d.shelf) x.id (ap rises_strictly (sym (ids_of d.shelf)) ∙ rise) (ids_below d.shelf below))
            (le-leb (length (map named_at (d.shelf ++ x ∷ []))) 4096 (let c = named_length (d.shelf ++ x ∷ []) in omega (arith, c, longer, few))))
            (mapped_tests (is_delta_entry k) (d.shelf ++ x ∷ []) (all_append (λ y. IsTrue (is_delta_entry k (named_at y))) d.shelf (x ∷ [])
            (all_map (λ y. IsTrue (is_delta_entry m (named_at y))) (λ y. IsTrue (is_delta_entry k (named_at y))) d.shelf (λ y h. delta_other d n x y h) (map_tests (is_delta_entry m) d.shelf deltas.1))
            (delta_new d n x p e (omega (arith, i, room)), tt)));
      };
      shelf = all_append (AreLawfulTables d.catalogue) d.shelf (x ∷ []) l.shelf (made, tt);
    }
  where
    ids_below : (xs : List Delta) → AllByRecursion (λ y. y.id < x.id) xs → AllByRecursion (λ k. k < x.id) (map (λ (y : Delta). y.id) xs)
    ids_below [] a = tt
    ids_below (y ∷ xs) a = (a.0, ids_below xs a.1)

-- ---- the session

abbrev pub flush_delta : State → List (Header × List Item) → ℕ → Delta
flush_delta s fs n = delta_of s.durable.next_id (cat_of s) (flushed_lists (source_of fs) (cat_of s) (pending_of s n))

abbrev pub with_added : State → List (Header × List Item) → ℕ → State
with_added s fs n = record s { durable = with_one s.durable n (flush_delta s fs n) }

pub good_source : (feed : Feed) (fs : List (Header × List Item)) (s : State) → IsGood feed s fs → IsSource (cat_of s) (source_of fs)
good_source feed fs s good = record { catalogue = good.lawful.manifest.catalogue; sound = sound_from feed (cat_of s) 0 fs good.fronts.each; time = λ key. source_in_time feed (cat_of s) fs key good.fronts }

abbrev pub IsSoundAt : Durable → List (Header × List Item) → Part → Range → Type 0
IsSoundAt d fs p r = SoundPart d fs p r × AllByRecursion (IsKnown d) p.ids

pub known_each : (d : Durable) (ps : List Part) (rs : List Range) (P : Part → Range → Type 0) → Each P ps rs → AllByRecursion (λ p. AllByRecursion (IsKnown d) p.ids) ps → Each (λ p r. P p r × AllByRecursion (IsKnown d) p.ids) ps rs
known_each d [] rs P a k = tt
known_each d (p ∷ ps) [] P a k = a
known_each d (p ∷ ps) (r ∷ rs) P a k = ((a.0, k.0), known_each d ps rs P a.1 k.1)

pub ids_known : (d : Durable) → IsLawfulPart d → AllByRecursion (λ p. AllByRecursion (IsKnown d) p.ids) d.parts
ids_known d l = all_from (λ p. AllByRecursion (IsKnown d) p.ids) d.parts (λ p h. listed_known d p l h)

pub adds_at : (feed : Feed) (fs : List (Header × List Item)) (s : State) (n : ℕ) (p : Part) (r : Range) → IsGood feed s fs → slice_get s.durable.parts n ≡ Some p → slice_get (ranges_of s.durable) n ≡ Some r → IsSoundAt s.durable fs p r
    → Adds s.durable fs (passed fs s.streams) p r (pending_of s n) (flush_delta s fs n)
adds_at feed fs s n p r good e f a =
    let source = good_source feed fs s good in record {
      source = source;
      sound = a.0;
      pending = pending_at (cat_of s) s.durable (passed fs s.streams) n s.durable.parts (ranges_of s.durable) s.pending p r e f good.ready.pending;
      known = a.1;
      below = shelf_below s.durable good.lawful;
      carries = λ table. flushed_carried (source_of fs) (cat_of s) s.durable.next_id (pending_of s n) table source.catalogue source.sound;
    }

added_parts : (feed : Feed) (fs : List (Header × List Item)) (s : State) (n : ℕ) → IsGood feed s fs → SoundParts (with_added s fs n).durable fs (with_added s fs n).durable.parts (ranges_of s.durable)
added_parts feed fs s n good =
    let d = s.durable in
    let x = flush_delta s fs n in
    let e = with_one d n x in
    let rs = ranges_of d in
    each_sound e fs e.parts rs (each_changed (IsSoundAt d fs) (SoundPart e fs) (lists_too x) n d.parts rs (λ p r a. part_other d fs n x p r a.1 a.0)
    (λ p r i j a. part_added d fs (passed fs s.streams) p r (pending_of s n) n x (adds_at feed fs s n p r good i j a)) (known_each d d.parts rs (SoundPart d fs) (sound_each d fs d.parts rs good.sound.parts) (ids_known d good.lawful)))

added_pending : (feed : Feed) (fs : List (Header × List Item)) (s : State) (n : ℕ) → IsGood feed s fs → PendingOfAll (cat_of s) (with_added s fs n).durable (passed fs s.streams) (with_added s fs n).durable.parts (ranges_of s.durable) s.pending
added_pending feed fs s n good =
    let d = s.durable in
    let cs = passed fs s.streams in
    let x = flush_delta s fs n in
    let e = with_one d n x in
    let rs = ranges_of d in
    subst (PendingOfAll (cat_of s) e cs e.parts rs) (change_none n s.pending) (pending_changed (cat_of s) d e cs (IsSoundAt d fs) (lists_too x) (λ ns. ns) n d.parts rs s.pending
    (known_each d d.parts rs (SoundPart d fs) (sound_each d fs d.parts rs good.sound.parts) (ids_known d good.lawful))
    (λ p r ns a h. pending_grown d e cs p p r ns refl (λ table v i. subst (λ (vs : List RowVersion). Contains vs v) (sym (stored_as d n x p r table a.1)) i) h)
    (λ p r ns i j k a h. pending_grown d e cs p (lists_too x p) r ns refl (λ table v g. (store_grown d fs cs p r (pending_of s n) n x table (adds_at feed fs s n p r good i j a)).kept v g) h) good.ready.pending)

added_job : (feed : Feed) (fs : List (Header × List Item)) (s : State) (n : ℕ) (j : Job) → IsGood feed s fs → JobStands s.durable j × JobBegan s.durable j → JobStands (with_added s fs n).durable j × JobBegan (with_added s fs n).durable j
added_job feed fs s n j good h =
    let d = s.durable in
    let x = flush_delta s fs n in
    let e = with_one d n x in
    let rs = ranges_of d in
    let same_ranges : part_ranges e.parts ≡ rs = ranges_changed (lists_too x) n d.parts (λ p. refl) in
    let stands = known_each d d.parts rs (λ p r. StandsAt d j p r × SoundPart d fs p r) (each_pair (StandsAt d j) (SoundPart d fs) d.parts rs (zipped_each (StandsAt d j) d.parts h.0) (sound_each d fs d.parts rs good.sound.parts)) (ids_known d good.lawful) in
    let same_inputs : deltas_of e.shelf j.inputs ≡ deltas_of d.shelf j.inputs = named_stay d.shelf (x ∷ []) j.inputs h.1.shelved in (
      subst (λ (ts : List Range). AllByRecursion (λ y. StandsAt e j y.0 y.1) (zip e.parts ts)) (sym same_ranges) (each_zipped (StandsAt e j) e.parts rs
          (each_changed (λ p r. (StandsAt d j p r × SoundPart d fs p r) × AllByRecursion (IsKnown d) p.ids) (StandsAt e j) (lists_too x) n d.parts rs (λ p r a. stands_other d n x j p r a.1 a.0.0)
          (λ p r i k a. stands_added d fs (passed fs s.streams) p r (pending_of s n) n x j (adds_at feed fs s n p r good i k (a.0.1, a.1)) h.1.minimum a.0.0) stands)),
      record {
        shelved = all_map (λ i. IsTrue (is_some (delta_with d.shelf i))) (λ i. IsTrue (is_some (delta_with e.shelf i))) j.inputs (λ i k. ap is_some (known_stays d.shelf (x ∷ []) i k) ∙ k) h.1.shelved;
        catalogue = h.1.catalogue;
        lawful = h.1.lawful;
        inputs = subst (AllByRecursion (AreLawfulTables j.catalogue)) (sym same_inputs) h.1.inputs;
        minimum = h.1.minimum;
        taken = subst (λ (ds : List Delta). j.taken ≤ sum (map (λ n. length (grouped (clip j.range (merge (map (carried_versions j.catalogue n) ds))))) (table_numbers j.catalogue))) (sym same_inputs) h.1.taken;
      },
    )

-- The session with the delta is good.
pub session_added : (feed : Feed) (fs : List (Header × List Item)) (s : State) (n : ℕ) (p : Part) (r : Range) → IsGood feed s fs → slice_get s.durable.parts n ≡ Some p → slice_get (ranges_of s.durable) n ≡ Some r → s.durable.next_id + 1 < 2 ^ 64 → length s.durable.shelf < 4096
    → IsGood feed (with_added s fs n) fs
session_added feed fs s n p r good e f room few =
    let d = s.durable in
    let x = flush_delta s fs n in
    let source = good_source feed fs s good in
    let same_ranges : part_ranges (with_one d n x).parts ≡ ranges_of d = ranges_changed (lists_too x) n d.parts (λ p. refl) in
    let pend = pending_at (cat_of s) d (passed fs s.streams) n d.parts (ranges_of d) s.pending p r e f good.ready.pending in record {
      short = good.short;
      lawful = lawful_added d n x p good.lawful e refl room few (flushed_lawful (source_of fs) (cat_of s) d.next_id (pending_of s n) source.catalogue source.sound pend.ordered);
      fronts = good.fronts;
      sound = record { parts = subst (SoundParts (with_one d n x) fs (with_one d n x).parts) (sym same_ranges) (added_parts feed fs s n good); points = good.sound.points };
      ready = record {
        places = good.ready.places;
        pending = subst (λ (ts : List Range). PendingOfAll (cat_of s) (with_one d n x) (passed fs s.streams) (with_one d n x).parts ts s.pending) (sym same_ranges) (added_pending feed fs s n good);
        job = if_some (λ j. JobStands d j × JobBegan d j) (λ j. JobStands (with_one d n x) j × JobBegan (with_one d n x) j) s.job (λ j h. added_job feed fs s n j good h) good.ready.job;
      };
    }
