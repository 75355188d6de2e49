-- A flush keeps a good session: what was pending in the partition is stored, and the partition is durable up to its checkpoint.
use Rattle.std.proofs.Common.{Bool, List, [], ap, ap₂, arith, drop, false, inl, inr, le-leb, leb-false, leb-true, length, lt-ltb, ltb-false, ltb-true, refl, subst, suc, sym, take, true, zero, ℕ, ◌++◌, ◌+◌, ◌-◌, ◌<◌, ◌∙◌, ◌∷◌, ◌≡◌, ◌≤◌}
use Rattle.std.specs.Prelude.{Contains, IsTrue, Option, Some, fold, map, max, min, nat_le, nat_lt, not, slice_get, unwrap_or, zip, ◌&&◌, ◌==◌, ◌^◌}
use Rattle.std.specs.List.{AllByRecursion, cons_option, list_all, list_any}
use Rattle.std.proofs.lemmas.Bool.{and_from, and_parts, eqb-false, or_parts}
use Rattle.std.proofs.lemmas.List.{take-append-drop}
use Rattle.lt_terms.specs.Key.{Range, in_range, meets, tile}
use Rattle.lt_terms.specs.Log.{Change, Header, Item, change_key, changes_of}
use Rattle.lt_world.specs.Feed.{Feed}
use Rattle.lt_tables.specs.Schema.{Catalogue, change_at, when}
use Rattle.lt_tables.specs.Fair.{checkpoint_of, header_length, is_fair}
use Rattle.lt_tables.specs.Pump.{Part, StreamAt}
use Rattle.lt_tables.specs.Version.{seen}
use Rattle.lt_tables.specs.Query.{do_flush}
use Rattle.lt_words.specs.Reply.{no_partition, too_many_deltas, worn}
use Rattle.lt_storage.specs.Store.{Delta, IsLawfulPart, bare_manifest, is_delta_entry, is_part_entry, is_stream_entry, part_ranges, stored}
use Rattle.lt_machine.specs.Machine.{Job, State, cat_of, checkpoint_at, checkpoints_meeting, flush_id, flushed_lists, is_worn, least, pending_of, ranges_of, resume_after, streams_after, with_delta, with_id, with_resume}
use Rattle.lt_machine.specs.Sound.{AreAtPlaces, FrontsFrom, IsGood, JobBegan, JobStands, PendingOf, PendingOfAll, SoundPart, SoundParts, items_before, passed, source_of}
use Rattle.lt_codecs.proofs.ListFacts.{all_append, all_both, all_map}
use Rattle.lt_lemmas.proofs.SoundLaws.{pick}
use Rattle.lt_lemmas.proofs.PartsChanged.{change_twice, changed_there, length_changed}
use Rattle.lt_lemmas.proofs.ListFacts.{all_contained, when_none}
use Rattle.lt_laws.proofs.FrontLaws.{checkpoint_rises}
use Rattle.lt_laws.proofs.SoundLaws.{before-take, changes-take, checkpoint-is, kept-by, least-all, open-items}
use Rattle.lt_session_laws.proofs.PlaceLaws.{place_checkpoint}
use Rattle.lt_laws.proofs.ListFacts.{all_at, contains_front, contains_rest}
use Rattle.lt_laws.proofs.ScanLaws.{IsPassed, passed_all, seen_in}
use Rattle.lt_session_laws.proofs.AddedSession.{IsSoundAt, adds_at, entry_made, entry_parts, flush_delta, good_source, mapped_tests, session_added, with_added}
use Rattle.lt_laws.proofs.DurableFacts.{got_is_held, listed_known, map_tests, named_at, part_entries}
use Rattle.lt_session_laws.proofs.PartsChanged.{all_changed, any_changed, each_changed, lows_changed, pending_at, pending_changed, ranges_changed}
use Rattle.lt_laws.proofs.NewDelta.{tests_hold}
use Rattle.lt_session_laws.proofs.PointsAfter.{entries_after, points_sound, streams_length}
use Rattle.lt_session_laws.proofs.SplitLaws.{Each, StandsAt, each_sound, each_zipped, lows_of, sound_each, zipped_each}
use Rattle.lt_session_laws.proofs.JobLaws.{as_many}
use Rattle.lt_session_laws.proofs.StepLaws.{KeepsDoing, if_some, next_generation, unrefused}
use Rattle.lt_session_laws.proofs.DeltaAdded.{lists_too, pending_stored, same_change, store_grown}

-- ---- the checkpoint of a partition

-- it is at most the checkpoint of each front that meets the range
meeting_low : (feed : Feed) (cat : Catalogue) (r : Range) (m n : ℕ) (fs : List (Header × List Item)) (ss : List StreamAt) → FrontsFrom feed cat n fs → AreAtPlaces fs ss → AllByRecursion (λ x. m ≤ x) (checkpoints_meeting ss r)
    → AllByRecursion (λ f. IsTrue (meets f.0.range r) → m ≤ checkpoint_of f.0 f.1) fs
meeting_low feed cat r m n [] ss a b l = tt
meeting_low feed cat r m n (f ∷ fs) [] a b l = absurd b
meeting_low feed cat r m n (f ∷ fs) (s ∷ ss) a b l =
    let k = kept-by (λ x. m ≤ x) (meets s.header.range r && not s.closed) s.point.checkpoint (checkpoints_meeting ss r) l in
    let i = b.1.0 in
    let shut : s.closed ≡ false = b.1.4 ∙ open-items f.0.format f.1 i a.1 a.2.lawful in
    let fair : is_fair f.0 cat (take i f.1 ++ drop i f.1) ≡ true = ap (is_fair f.0 cat) (take-append-drop i f.1) ∙ a.2.fair in
    let at : s.point.checkpoint ≡ checkpoint_of f.0 (take i f.1) = ap (λ p. p.checkpoint) b.1.3 ∙ checkpoint-is f.0 (take i f.1) in
    let up : checkpoint_of f.0 (take i f.1) ≤ checkpoint_of f.0 (take i f.1 ++ drop i f.1) = checkpoint_rises f.0 cat (take i f.1) (drop i f.1) fair in
    let whole : checkpoint_of f.0 (take i f.1 ++ drop i f.1) ≡ checkpoint_of f.0 f.1 = ap (checkpoint_of f.0) (take-append-drop i f.1) in
    ((λ w. let q : m ≤ s.point.checkpoint = k.0 (and_from _ _ (ap (λ x. meets x.range r) b.0 ∙ w) (ap not shut)) in omega (arith, q, at, up, whole)), meeting_low feed cat r m (n + 1) fs ss a.3 b.2 k.1)

kept_option : (P : ℕ → Type 0) (b : Bool) (m : ℕ) (ns : List ℕ) → P m → AllByRecursion P ns → AllByRecursion P (cons_option (when b m) ns)
kept_option P true m ns h a = (h, a)
kept_option P false m ns h a = a

meeting_fits : (feed : Feed) (cat : Catalogue) (r : Range) (n : ℕ) (fs : List (Header × List Item)) (ss : List StreamAt) → FrontsFrom feed cat n fs → AreAtPlaces fs ss → AllByRecursion (λ x. x < 2 ^ 63) (checkpoints_meeting ss r)
meeting_fits feed cat r n fs [] a b = tt
meeting_fits feed cat r n [] (s ∷ ss) a b = absurd b
meeting_fits feed cat r n (f ∷ fs) (s ∷ ss) a b =
    let i = b.1.0 in
    let at : s.point.checkpoint ≡ checkpoint_of f.0 (take i f.1) = ap (λ p. p.checkpoint) b.1.3 ∙ checkpoint-is f.0 (take i f.1) in
    let l : checkpoint_of f.0 (take i f.1) < 2 ^ 63 = place_checkpoint feed cat n i f a.0 a.2 in
    kept_option (λ x. x < 2 ^ 63) (meets s.header.range r && not s.closed) s.point.checkpoint (checkpoints_meeting ss r) (omega (arith, at, l)) (meeting_fits feed cat r (n + 1) fs ss a.3 b.2)

least_under : (m : ℕ) (ns : List ℕ) → fold min m ns ≤ m
least_under m [] = omega arith
least_under m (n ∷ ns) = let h : fold min (min m n) ns ≤ min m n = least_under (min m n) ns in omega (arith, h)

least_fits : (b : ℕ) (ns : List ℕ) → 0 < b → AllByRecursion (λ n. n < b) ns → least ns < b
least_fits b [] z a = z
least_fits b (n ∷ ns) z a = let h : fold min n ns ≤ n = least_under n ns in let l : n < b = a.0 in omega (arith, h, l)

-- ---- a partition durable up to its checkpoint

-- every change that the streams have passed of the partition's keys, above where it is durable, is stored
abbrev pub AllStored : State → List (Header × List Item) → Part → Range → Type 0
AllStored s fs p r = (c : Change) → Contains (passed fs s.streams) c → IsTrue (in_range (change_key c) r) → p.resume < c.ts → Contains (stored s.durable p r c.table) (seen (cat_of s) c)

-- the partition at the place is raised, none of its names is pending, and the restart points are set anew
abbrev pub raised : State → ℕ → ℕ → State
raised s n t = let parts = change_at (with_resume t) n s.durable.parts in
    record s { durable = record s.durable { parts = parts; streams = streams_after parts s.streams s.durable.streams; generation = s.durable.generation + 1 }; pending = change_at (λ x. []) n s.pending }

part_raised : (feed : Feed) (fs : List (Header × List Item)) (s : State) (n : ℕ) (p : Part) (r : Range) → IsGood feed s fs → AllStored s fs p r → SoundPart s.durable fs p r → SoundPart (raised s n (checkpoint_at s.streams p r)).durable fs (with_resume (checkpoint_at s.streams p r) p) r
part_raised feed fs s n p r good all h =
    let t = checkpoint_at s.streams p r in
    let m = least (checkpoints_meeting s.streams r) in
    let low = meeting_low feed (cat_of s) r m 0 fs s.streams good.fronts.each good.ready.places (least-all m (checkpoints_meeting s.streams r) (omega arith)) in record {
      only_changes = h.only_changes;
      all_changes = λ c i w l u. pick (nat_le c.ts p.resume)
          (λ e. h.all_changes c i w l (leb-true c.ts p.resume e))
          (λ e.
          let late : p.resume < c.ts = leb-false c.ts p.resume e in
          let up : c.ts ≤ m = (let x : c.ts ≤ max p.resume m = u in omega (arith, x, late)) in
          all c (all_at (IsPassed r c.ts (passed fs s.streams)) (source_of fs) c (passed_all feed (cat_of s) r c.ts 0 fs s.streams good.fronts.each good.ready.places (least-all c.ts (checkpoints_meeting s.streams r) up)) i w (omega arith)) w late);
      rows = h.rows;
      agree = h.agree;
      minimum = (let l : s.durable.minimum ≤ p.resume = h.minimum in omega (arith, l));
      resume = all_both (λ f. IsTrue (meets f.0.range r) → m ≤ checkpoint_of f.0 f.1) (λ f. IsTrue (meets f.0.range r) → p.resume ≤ checkpoint_of f.0 f.1) (λ f. IsTrue (meets f.0.range r) → t ≤ checkpoint_of f.0 f.1) fs
          (λ f a b w. let x = a w in let y = b w in omega (arith, x, y)) low h.resume;
    }

part_kept : (feed : Feed) (fs : List (Header × List Item)) (s : State) (n t : ℕ) (p : Part) (r : Range) → SoundPart s.durable fs p r → SoundPart (raised s n t).durable fs p r
part_kept feed fs s n t p r h = record { only_changes = h.only_changes; all_changes = h.all_changes; rows = h.rows; agree = h.agree; minimum = h.minimum; resume = h.resume }

-- ---- the manifest

entry_raised : (s : State) (n t : ℕ) (p : Part) → t < 2 ^ 63 → s.durable.minimum ≤ t → IsTrue (is_part_entry (bare_manifest s.durable) p) → IsTrue (is_part_entry (bare_manifest (raised s n t).durable) (with_resume t p))
entry_raised s n t p l low h = let e = entry_parts (bare_manifest s.durable) p h in
    entry_made (bare_manifest (raised s n t).durable) (with_resume t p) (record { low = e.low; fits = lt-ltb t (2 ^ 63) l; above = le-leb s.durable.minimum t low; rise = e.rise; listed = e.listed })

delta_raised : (s : State) (n t : ℕ) (y : Delta) → IsTrue (is_delta_entry (bare_manifest s.durable) (named_at y)) → IsTrue (is_delta_entry (bare_manifest (raised s n t).durable) (named_at y))
delta_raised s n t y h =
    let e = named_at y in
    let lists = λ (p : Part). list_any (λ id. id == e.0) p.ids in
    let a = and_parts (nat_lt e.0 (2 ^ 64) && nat_lt e.1.place (2 ^ 64) && nat_lt e.1.length (2 ^ 64)) (list_any lists s.durable.parts) h in
    and_from _ _ a.0 (any_changed lists (with_resume t) n s.durable.parts (λ p k. k) a.1)

lawful_raised : (feed : Feed) (fs : List (Header × List Item)) (s : State) (n t : ℕ) → IsGood feed s fs → t < 2 ^ 63 → s.durable.minimum ≤ t → IsTrue (nat_lt 0 (s.durable.generation + 1) && nat_lt (s.durable.generation + 1) (2 ^ 64)) → IsLawfulPart (raised s n t).durable
lawful_raised feed fs s n t good small low next =
    let d = s.durable in
    let e = (raised s n t).durable in
    let m = bare_manifest d in
    let l = good.lawful in
    let parts = and_parts (tile (lows_of d.parts) && nat_le (length d.parts) 1024) (list_all (is_part_entry m) d.parts) l.manifest.parts in
    let tiled = and_parts (tile (lows_of d.parts)) (nat_le (length d.parts) 1024) parts.0 in
    let streams = and_parts (nat_lt 0 (length d.streams) && nat_le (length d.streams) 64) (list_all is_stream_entry d.streams) l.manifest.streams in
    let deltas = and_parts (_) (list_all (is_delta_entry m) m.deltas) l.manifest.deltas in record {
      generation = next;
      manifest = record {
        limit = l.manifest.limit;
        numbers = l.manifest.numbers;
        catalogue = l.manifest.catalogue;
        streams = and_from _ _ (ap (λ (k : ℕ). nat_lt 0 k && nat_le k 64) (streams_length e.parts s.streams d.streams) ∙ streams.0) (entries_after feed (cat_of s) 0 e.parts fs s.streams d.streams good.short good.fronts.each good.ready.places streams.1);
        parts = and_from _ _ (and_from _ _ (ap tile (lows_changed (with_resume t) n d.parts (λ p. refl)) ∙ tiled.0) (ap (λ (j : ℕ). nat_le j 1024) (length_changed (with_resume t) n d.parts) ∙ tiled.1))
            (tests_hold (is_part_entry (bare_manifest e)) e.parts (all_changed (λ p. IsTrue (is_part_entry m p)) (λ p. IsTrue (is_part_entry (bare_manifest e) p)) (with_resume t) n d.parts (λ p h. h) (λ p f h. entry_raised s n t p small low h) (part_entries d l)));
        deltas = and_from _ _ deltas.0 (mapped_tests (is_delta_entry (bare_manifest e)) d.shelf
            (all_map (λ y. IsTrue (is_delta_entry m (named_at y))) (λ y. IsTrue (is_delta_entry (bare_manifest e) (named_at y))) d.shelf (λ y h. delta_raised s n t y h) (map_tests (is_delta_entry m) d.shelf deltas.1)));
      };
      shelf = l.shelf;
    }

-- ---- the session

same_got : {A : Type 0} (x y : A) (o : Option A) → o ≡ Some x → o ≡ Some y → x ≡ y
same_got x y o e f = cc

none_pending : (s : State) (fs : List (Header × List Item)) (n t : ℕ) (p : Part) (r : Range) → AllStored s fs p r → p.resume ≤ t → PendingOf (cat_of s) (raised s n t).durable (passed fs s.streams) (with_resume t p) r []
none_pending s fs n t p r all up = record {
  are_changes = λ k h. absurd (omega (arith, h.1));
  none_lost = λ c h w l. inr (all c h w (omega (arith, l, up)));
  ordered = refl;
}

still_pending : (s : State) (fs : List (Header × List Item)) (n t : ℕ) (p : Part) (r : Range) (ns : List (List ℕ × ℕ)) → PendingOf (cat_of s) s.durable (passed fs s.streams) p r ns → PendingOf (cat_of s) (raised s n t).durable (passed fs s.streams) p r ns
still_pending s fs n t p r ns h = record { are_changes = h.are_changes; none_lost = h.none_lost; ordered = h.ordered }

job_raised : (s : State) (n t : ℕ) (j : Job) → JobStands s.durable j × JobBegan s.durable j → JobStands (raised s n t).durable j × JobBegan (raised s n t).durable j
job_raised s n t j h =
    let d = s.durable in
    let e = (raised s n t).durable in
    let rs = ranges_of d in
    let same_ranges : part_ranges e.parts ≡ rs = ranges_changed (with_resume t) n d.parts (λ p. refl) in (
      subst (λ (ts : List Range). AllByRecursion (λ y. StandsAt e j y.0 y.1) (zip e.parts ts)) (sym same_ranges)
          (each_zipped (StandsAt e j) e.parts rs (each_changed (StandsAt d j) (StandsAt e j) (with_resume t) n d.parts rs (λ p r a. a) (λ p r i k a. a) (zipped_each (StandsAt d j) d.parts h.0))),
      record {
        shelved = h.1.shelved;
        catalogue = h.1.catalogue;
        lawful = h.1.lawful;
        inputs = h.1.inputs;
        minimum = h.1.minimum;
        taken = h.1.taken;
      },
    )

any_part : (ps : List Part) (rs : List Range) → length ps ≡ length rs → Each (λ p r. ℕ) ps rs
any_part [] rs l = tt
any_part (p ∷ ps) [] l = absurd (omega (arith, l))
any_part (p ∷ ps) (r ∷ rs) l = (0, any_part ps rs (omega (arith, l)))

session_raised : (feed : Feed) (fs : List (Header × List Item)) (s : State) (n : ℕ) (p : Part) (r : Range) → IsGood feed s fs → slice_get s.durable.parts n ≡ Some p → slice_get (ranges_of s.durable) n ≡ Some r → AllStored s fs p r
    → IsTrue (nat_lt 0 (s.durable.generation + 1) && nat_lt (s.durable.generation + 1) (2 ^ 64)) → IsGood feed (raised s n (checkpoint_at s.streams p r)) fs
session_raised feed fs s n p r good i k all next =
    let d = s.durable in
    let t = checkpoint_at s.streams p r in
    let m = least (checkpoints_meeting s.streams r) in
    let e = (raised s n t).durable in
    let rs = ranges_of d in
    let same_ranges : part_ranges e.parts ≡ rs = ranges_changed (with_resume t) n d.parts (λ p. refl) in
    let entry = entry_parts (bare_manifest d) p (all_at (λ p. IsTrue (is_part_entry (bare_manifest d) p)) d.parts p (part_entries d good.lawful) (got_is_held d.parts n p i)) in
    let small : t < 2 ^ 63 = (let a : m < 2 ^ 63 = least_fits (2 ^ 63) (checkpoints_meeting s.streams r) (omega arith) (meeting_fits feed (cat_of s) r 0 fs s.streams good.fronts.each good.ready.places) in
    let b : p.resume < 2 ^ 63 = ltb-true p.resume (2 ^ 63) entry.fits in omega (arith, a, b)) in
    let low : d.minimum ≤ t = (let a : d.minimum ≤ p.resume = leb-true d.minimum p.resume entry.above in omega (arith, a)) in record {
      short = good.short;
      lawful = lawful_raised feed fs s n t good small low next;
      fronts = good.fronts;
      sound = record {
        parts = subst (SoundParts e fs e.parts) (sym same_ranges) (each_sound e fs e.parts rs (each_changed (SoundPart d fs) (SoundPart e fs) (with_resume t) n d.parts rs (λ q u a. part_kept feed fs s n t q u a)
            (λ q u f g a. let x = same_got p q (slice_get d.parts n) i f in let y = same_got r u (slice_get rs n) k g in
            subst (λ (z : Part). SoundPart e fs (with_resume t z) u) x (subst (λ (z : Range). SoundPart e fs (with_resume t p) z) y
            (part_raised feed fs s n p r good all (subst (λ (z : Part). SoundPart d fs z r) (sym x) (subst (λ (z : Range). SoundPart d fs q z) (sym y) a))))) (sound_each d fs d.parts rs good.sound.parts)));
        points = points_sound feed (cat_of s) 0 e.parts fs s.streams d.streams good.ready.places good.sound.points;
      };
      ready = record {
        places = good.ready.places;
        pending = subst (λ (ts : List Range). PendingOfAll (cat_of s) e (passed fs s.streams) e.parts ts (change_at (λ x. []) n s.pending)) (sym same_ranges)
            (pending_changed (cat_of s) d e (passed fs s.streams) (λ p r. ℕ) (with_resume t) (λ x. []) n d.parts rs s.pending (any_part d.parts rs (as_many d.parts)) (λ q u ns a h. still_pending s fs n t q u ns h)
            (λ q u ns f g o a h. let x = same_got p q (slice_get d.parts n) i f in let y = same_got r u (slice_get rs n) k g in
            subst (λ (z : Part). PendingOf (cat_of s) e (passed fs s.streams) (with_resume t z) u []) x (subst (λ (z : Range). PendingOf (cat_of s) e (passed fs s.streams) (with_resume t p) z []) y (none_pending s fs n t p r all (omega arith)))) good.ready.pending);
        job = if_some (λ j. JobStands d j × JobBegan d j) (λ j. JobStands e j × JobBegan e j) s.job (λ j h. job_raised s n t j h) good.ready.job;
      };
    }

-- ---- the command

got : {A : Type 0} (xs : List A) (n : ℕ) → n < length xs → (x : A) × (slice_get xs n ≡ Some x)
got [] n h = absurd (omega (arith, h))
got (x ∷ xs) zero h = (x, refl)
got (x ∷ xs) (suc n) h = got xs n (omega (arith, h))

checkpoint_got : (ss : List StreamAt) (ps : List Part) (rs : List Range) (n : ℕ) (p : Part) (r : Range) → slice_get ps n ≡ Some p → slice_get rs n ≡ Some r → unwrap_or (slice_get (map (λ x. checkpoint_at ss x.0 x.1) (zip ps rs)) n) 0 ≡ checkpoint_at ss p r
checkpoint_got ss [] rs n p r e f = cc
checkpoint_got ss (q ∷ ps) [] n p r e f = cc
checkpoint_got ss (q ∷ ps) (t ∷ rs) zero p r e f = let x : q ≡ p = cc in let y : t ≡ r = cc in ap₂ (checkpoint_at ss) x y
checkpoint_got ss (q ∷ ps) (t ∷ rs) (suc n) p r e f = checkpoint_got ss ps rs n p r e f

abbrev flushed_by : Option ℕ → ℕ → List Change → State → ℕ → State
flushed_by id t source s n =
    let parts = change_at (λ x. with_resume t (with_id id x)) n s.durable.parts in
    let d = with_delta id (cat_of s) (flushed_lists source (cat_of s) (pending_of s n)) s.durable in
    record s { durable = record d { parts = parts; streams = streams_after parts s.streams s.durable.streams; generation = d.generation + 1 }; pending = change_at (λ x. []) n s.pending }

-- where nothing is pending, all that was passed is stored
all_stored_none : (s : State) (fs : List (Header × List Item)) (p : Part) (r : Range) (names : List (List ℕ × ℕ)) → names ≡ [] → PendingOf (cat_of s) s.durable (passed fs s.streams) p r names → AllStored s fs p r
all_stored_none s fs p r names e h c i w l = elim (h.none_lost c i w l) [
  | inl k ↦ (let x : Contains [] (change_key c, c.ts) = subst (λ (ns : List (List ℕ × ℕ)). Contains ns (change_key c, c.ts)) e k in absurd (omega (arith, x.1)))
  | inr k ↦ k
]

-- what the streams have passed is the source's
pub passed_from : (fs : List (Header × List Item)) (ss : List StreamAt) → AreAtPlaces fs ss → AllByRecursion (Contains (source_of fs)) (passed fs ss)
passed_from [] [] a = tt
passed_from [] (s ∷ ss) a = absurd a
passed_from (f ∷ fs) [] a = absurd a
passed_from (f ∷ fs) (s ∷ ss) a =
    let all = changes_of f.1 ++ source_of fs in
    let i = a.1.0 in
    let mine : AllByRecursion (Contains all) (changes_of (take i f.1)) = changes-take (Contains all) f.1 i (all_map (Contains (changes_of f.1)) (Contains all) (changes_of f.1) (λ c h. contains_front (changes_of f.1) (source_of fs) c h) (all_contained (changes_of f.1))) in
    all_append (Contains all) (changes_of (items_before s.offset (header_length f.0) f.1)) (passed fs ss) (subst (λ (x : List Item). AllByRecursion (Contains all) (changes_of x)) (sym (before-take s.offset (header_length f.0) i f.1 a.1.2)) mine)
    (all_map (Contains (source_of fs)) (Contains all) (passed fs ss) (λ c h. contains_rest (changes_of f.1) (source_of fs) c h) (passed_from fs ss a.2))

-- and with the new delta what was pending is stored too
all_stored_added : (feed : Feed) (fs : List (Header × List Item)) (s : State) (n : ℕ) (p : Part) (r : Range) → IsGood feed s fs → slice_get s.durable.parts n ≡ Some p → slice_get (ranges_of s.durable) n ≡ Some r → IsSoundAt s.durable fs p r
    → AllStored (with_added s fs n) fs (lists_too (flush_delta s fs n) p) r
all_stored_added feed fs s n p r good i k a c h w l =
    let d = s.durable in
    let x = flush_delta s fs n in
    let cs = passed fs s.streams in
    let adds = adds_at feed fs s n p r good i k a in
    let source = good_source feed fs s good in
    let held : Contains (source_of fs) c = all_at (Contains (source_of fs)) (passed fs s.streams) c (passed_from fs s.streams good.ready.places) h in
    elim (adds.pending.none_lost c h w l) [
      | inl m ↦ pending_stored d fs cs p r (pending_of s n) n x c adds
          (seen_in (cat_of s) (source_of fs) (pending_of s n) c.table c m held refl (λ y g u t. same_change (cat_of s) (source_of fs) y c source g held u t)) w
      | inr m ↦ (store_grown d fs cs p r (pending_of s n) n x c.table adds).kept (seen (cat_of s) c) m
    ]

flush_by : (feed : Feed) (fs : List (Header × List Item)) (s : State) (n : ℕ) (p : Part) (r : Range) (b : Bool) → nat_lt 0 (length (pending_of s n)) ≡ b → IsGood feed s fs → slice_get s.durable.parts n ≡ Some p → slice_get (ranges_of s.durable) n ≡ Some r
    → IsTrue (nat_lt 0 (s.durable.generation + 1) && nat_lt (s.durable.generation + 1) (2 ^ 64)) → s.durable.next_id + 1 < 2 ^ 64 → (b ≡ true → length s.durable.shelf < 4096)
    → IsGood feed (flushed_by (when b s.durable.next_id) (checkpoint_at s.streams p r) (source_of fs) s n) fs
flush_by feed fs s n p r false e good i k next room few =
    let pend = pending_at (cat_of s) s.durable (passed fs s.streams) n s.durable.parts (ranges_of s.durable) s.pending p r i k good.ready.pending in
    session_raised feed fs s n p r good i k (all_stored_none s fs p r (pending_of s n) (no_names (pending_of s n) e) pend) next
  where
    no_names : {A : Type 0} (xs : List A) → nat_lt 0 (length xs) ≡ false → xs ≡ []
    no_names [] h = refl
    no_names (x ∷ xs) h = let l : length (x ∷ xs) ≤ 0 = ltb-false 0 (length (x ∷ xs)) h in absurd (omega (arith, l))
flush_by feed fs s n p r true e good i k next room few =
    let d = s.durable in
    let x = flush_delta s fs n in
    let t = checkpoint_at s.streams p r in
    let s1 = with_added s fs n in
    let sound : SoundPart d fs p r = each_got (SoundPart d fs) n d.parts (ranges_of d) p r i k (sound_each d fs d.parts (ranges_of d) good.sound.parts) in
    let known = listed_known d p good.lawful (got_is_held d.parts n p i) in
    let there = changed_there (lists_too x) n d.parts p i in
    let ranged : slice_get (ranges_of s1.durable) n ≡ Some r = ap (λ (ts : List Range). slice_get ts n) (ranges_changed (lists_too x) n d.parts (λ p. refl)) ∙ k in
    let good1 = session_added feed fs s n p r good i k room (few refl) in
    let done = session_raised feed fs s1 n (lists_too x p) r good1 there ranged (all_stored_added feed fs s n p r good i k (sound, known)) next in
    subst (λ (ps : List Part). IsGood feed (record s1 { durable = record s1.durable { parts = ps; streams = streams_after ps s.streams d.streams; generation = d.generation + 1 }; pending = change_at (λ x. []) n s.pending }) fs)
    (change_twice (with_resume t) (lists_too x) n d.parts) done
  where
    each_got : (P : Part → Range → Type 0) (n : ℕ) (ps : List Part) (rs : List Range) (p : Part) (r : Range) → slice_get ps n ≡ Some p → slice_get rs n ≡ Some r → Each P ps rs → P p r
    each_got P n [] rs p r e f a = cc
    each_got P n (q ∷ ps) [] p r e f a = cc
    each_got P zero (q ∷ ps) (t ∷ rs) p r e f a = let x : q ≡ p = cc in let y : t ≡ r = cc in subst (λ z. P z r) x (subst (λ z. P q z) y a.0)
    each_got P (suc n) (q ∷ ps) (t ∷ rs) p r e f a = each_got P n ps rs p r e f a.1

pub flush_keeps : (n : ℕ) → KeepsDoing (do_flush n)
flush_keeps n feed fs s s' a good e d =
    let u = unrefused s (do_flush n) e in
    let v = s.durable in
    let there : n < length v.parts = leb-false (length v.parts) n (when_none (nat_le (length v.parts) n) (no_partition n) u.part) in
    let p = got v.parts n there in
    let r = got (ranges_of v) n (let l = as_many v.parts in omega (arith, there, l)) in
    let worn_not : is_worn v && true ≡ false = when_none (is_worn v && true) worn u.unworn in
    let ids : (v.next_id == 2 ^ 64 - 1) ≡ false = (or_parts (v.generation == 2 ^ 64 - 1) (v.next_id == 2 ^ 64 - 1) (and_true (is_worn v) worn_not)).1 in
    let below : v.next_id < 2 ^ 64 = ltb-true v.next_id (2 ^ 64) (and_parts (nat_lt v.minimum (2 ^ 64)) (nat_lt v.next_id (2 ^ 64)) good.lawful.manifest.numbers).1 in
    let room : v.next_id + 1 < 2 ^ 64 = (let z = eqb-false v.next_id (2 ^ 64 - 1) ids in omega (arith, below, z)) in
    let few : nat_lt 0 (length (pending_of s n)) ≡ true → length v.shelf < 4096 = λ h. leb-false 4096 (length v.shelf) (and_false (nat_le 4096 (length v.shelf)) (nat_lt 0 (length (pending_of s n))) h (when_none (nat_le 4096 (length v.shelf) && nat_lt 0 (length (pending_of s n))) too_many_deltas u.limit)) in
    let done = flush_by feed fs s n p.0 r.0 (nat_lt 0 (length (pending_of s n))) refl good p.1 r.1 (next_generation v good.lawful u.unworn) room few in
    let t : checkpoint_at s.streams p.0 r.0 ≡ resume_after s n = sym (checkpoint_got s.streams v.parts (ranges_of v) n p.0 r.0 p.1 r.1) in
    (fs, subst (λ (x : State). IsGood feed x fs) (sym d.1) (subst (λ (m : ℕ). IsGood feed (flushed_by (flush_id s n) m (source_of fs) s n) fs) t done))
  where
    and_true : (b : Bool) → b && true ≡ false → b ≡ false
    and_true true h = h
    and_true false h = h

    and_false : (a b : Bool) → b ≡ true → a && b ≡ false → a ≡ false
    and_false true true h e = e
    and_false true false h e = cc
    and_false false b h e = refl
