-- A compaction keeps a good session, at once or as a job.
use Rattle.std.specs.Prelude.{Contains, IfSome, IsTrue, None, Option, Some, is_some, nat_le, nat_lt, option_and_then, option_map, slice_get, ◌&&◌, ◌==◌, ◌^◌, ◌⊎◌}
use Rattle.std.specs.List.{AllByRecursion}
use Rattle.std.proofs.Common.{Bool, List, [], ap, arith, cond, eqb-true, false, inl, inr, leb-false, length, ltb-false, ltb-true, refl, subst, suc, sym, true, zero, ℕ, ◌+◌, ◌-◌, ◌<◌, ◌∙◌, ◌∷◌, ◌≡◌, ◌≤◌}
use Rattle.std.proofs.lemmas.Bool.{and_from, and_parts, eqb-false, false≢true, or_parts}
use Rattle.std.specs.Option.{option_map_or}
use Rattle.lt_terms.specs.Key.{Range, common, lies_in, ranges_from}
use Rattle.lt_terms.specs.Log.{Change, Header, Item}
use Rattle.lt_world.specs.Feed.{Feed}
use Rattle.lt_tables.specs.Pump.{Part}
use Rattle.lt_tables.specs.Schema.{Catalogue, when}
use Rattle.lt_tables.specs.Query.{Mode, do_compact, do_job_finish}
use Rattle.lt_words.specs.Reply.{job_open, no_such_delta, too_many_deltas, worn}
use Rattle.lt_storage.specs.Store.{Delta, Durable, IsLawfulPart, delta_with, part_ranges}
use Rattle.lt_machine.specs.Machine.{Job, State, cat_of, committed, compacted, frees_nothing, is_worn, job_output, output_id, parts_replaced, ranges_of, replaced, unknown_in}
use Rattle.lt_machine.specs.Sound.{IsGood, JobBegan, JobStands, ListsAll, PendingOf, PendingOfAll, SoundPart, SoundParts, passed}
use Rattle.lt_codecs.proofs.ListFacts.{all_map, none_mapped}
use Rattle.lt_lemmas.proofs.ClipLaws.{in-common}
use Rattle.lt_lemmas.proofs.SoundLaws.{meets-by}
use Rattle.lt_lemmas.proofs.RangeLaws.{tile_rises}
use Rattle.lt_lemmas.proofs.ListFacts.{find_held, when_none}
use Rattle.lt_session_laws.proofs.SplitLaws.{Each, RestsIn, StandsAt, each_pair, each_sound, in_lies, lows_of, rests_within, sound_each, zipped_each}
use Rattle.lt_session_laws.proofs.JobLaws.{HasLow, all_have_low, both_each, job_begun_stands, part_job_is}
use Rattle.lt_laws.proofs.DurableFacts.{IsKnown, shelf_below}
use Rattle.lt_session_laws.proofs.CompactedShelf.{HasRoom, IsId, lawful_compacted, lows_replaced}
use Rattle.lt_session_laws.proofs.CompactedParts.{InJob, changed_is, compact_of, compacted_by, compacted_is, inputs_of_job, output_delta, part_beside, part_compacted, pending_beside, pending_compacted}
use Rattle.lt_session_laws.proofs.JobOutput.{OutputIn, output_holds}
use Rattle.lt_session_laws.proofs.AddedSession.{ids_known, known_each}
use Rattle.lt_laws.proofs.ScanLaws.{tiles_of}
use Rattle.lt_laws.proofs.ListFacts.{all_at}
use Rattle.lt_session_laws.proofs.StepLaws.{KeepsDoing, all_pending_as, next_generation, unrefused}

-- ---- each partition, replaced or not

-- what stands of a job in a partition that lies in its range
abbrev StandsWhole : Durable → Job → Part → Range → Type 0
StandsWhole d j p r = IsTrue (lies_in r j.range) → ListsAll p.ids j.inputs × (IsTrue j.is_major → AllByRecursion (RestsIn d j r) p.ids)

stands_whole : (d : Durable) (j : Job) (p : Part) (r : Range) → StandsAt d j p r → HasLow r → StandsWhole d j p r
stands_whole d j p r h low l =
    let a = h (meets-by r.low r j.range low (in_lies r.low r j.range l low)) in
    (a.0, (λ w. rests_within d j r (common r j.range) p.ids (λ key i. in-common key r j.range ∙ and_from _ _ i (in_lies key r j.range l i)) (a.1 w)))

abbrev Given : Durable → List (Header × List Item) → Job → Part → Range → Type 0
Given d fs j p r = (StandsWhole d j p r × SoundPart d fs p r) × AllByRecursion (IsKnown d) p.ids

abbrev next_part : Job → Option ℕ → Part → Range → Part
next_part j o p r = cond (lies_in r j.range) (replaced j o p) p

replaced_each : (j : Job) (o : Option ℕ) (P Q : Part → Range → Type 0) (all : List Part) (ps : List Part) (rs : List Range) → ((q : Part) → Contains (parts_replaced j o rs ps) q → Contains all q)
    → ((p : Part) (r : Range) → lies_in r j.range ≡ true → Contains all (replaced j o p) → P p r → Q (replaced j o p) r) → ((p : Part) (r : Range) → Contains all p → P p r → Q p r) → Each P ps rs → Each Q (parts_replaced j o rs ps) rs
replaced_each j o P Q all [] [] sub f g a = tt
replaced_each j o P Q all [] (r ∷ rs) sub f g a = tt
replaced_each j o P Q all (p ∷ ps) [] sub f g a = absurd a
replaced_each j o P Q all (p ∷ ps) (r ∷ rs) sub f g a = (
  by_lies (lies_in r j.range) refl (sub (next_part j o p r) (zero, omega arith, refl)),
  replaced_each j o P Q all ps rs (λ q h. sub q (suc h.0, omega (arith, h.1), h.2)) f g a.1,
)
  where
    by_lies : (b : Bool) → lies_in r j.range ≡ b → Contains all (cond b (replaced j o p) p) → Q (cond b (replaced j o p) p) r
    by_lies true e h = f p r e h a.0
    by_lies false e h = g p r h a.0

replaced_pending : (cat : Catalogue) (d e : Durable) (cs : List Change) (j : Job) (o : Option ℕ) (K : Part → Range → Type 0) (all : List Part) (ps : List Part) (rs : List Range) (rest : List (List (List ℕ × ℕ))) → ((q : Part) → Contains (parts_replaced j o rs ps) q → Contains all q)
    → ((p : Part) (r : Range) (ns : List (List ℕ × ℕ)) → lies_in r j.range ≡ true → Contains all (replaced j o p) → K p r → PendingOf cat d cs p r ns → PendingOf cat e cs (replaced j o p) r ns)
    → ((p : Part) (r : Range) (ns : List (List ℕ × ℕ)) → Contains all p → K p r → PendingOf cat d cs p r ns → PendingOf cat e cs p r ns) → Each K ps rs → PendingOfAll cat d cs ps rs rest → PendingOfAll cat e cs (parts_replaced j o rs ps) rs rest
replaced_pending cat d e cs j o K all [] [] [] sub f g k a = tt
replaced_pending cat d e cs j o K all [] (r ∷ rs) [] sub f g k a = tt
replaced_pending cat d e cs j o K all [] rs (ns ∷ rest) sub f g k a = absurd a
replaced_pending cat d e cs j o K all (p ∷ ps) [] rest sub f g k a = absurd a
replaced_pending cat d e cs j o K all (p ∷ ps) (r ∷ rs) [] sub f g k a = absurd a
replaced_pending cat d e cs j o K all (p ∷ ps) (r ∷ rs) (ns ∷ rest) sub f g k a = (
  by_lies (lies_in r j.range) refl (sub (next_part j o p r) (zero, omega arith, refl)),
  replaced_pending cat d e cs j o K all ps rs rest (λ q h. sub q (suc h.0, omega (arith, h.1), h.2)) f g k.1 a.1,
)
  where
    by_lies : (b : Bool) → lies_in r j.range ≡ b → Contains all (cond b (replaced j o p) p) → PendingOf cat e cs (cond b (replaced j o p) p) r ns
    by_lies true u h = f p r ns u h k.0 a.0
    by_lies false u h = g p r ns h k.0 a.0

-- ---- the session

-- what is given of a job that is finished
record Finishes (d : Durable) (j : Job) (o : Option ℕ) : Type 0 where
  stands : JobStands d j
  began : JobBegan d j
  id : IsId d j o
  full : o ≡ Some d.next_id → 0 < length (job_output d.shelf j)
  room : HasRoom d j
  next : d.next_id + 1 < 2 ^ 64

job_output_holds : (d : Durable) (j : Job) → JobBegan d j → OutputIn d.catalogue (inputs_of_job d j) (output_delta d j) j.range j.is_major j.minimum
job_output_holds d j h = output_holds j.catalogue d.catalogue (inputs_of_job d j) j.range j.is_major j.minimum d.next_id h.lawful h.catalogue h.inputs

in_job : (feed : Feed) (fs : List (Header × List Item)) (s : State) (j : Job) (o : Option ℕ) (p : Part) (r : Range) → IsGood feed s fs → Finishes s.durable j o → lies_in r j.range ≡ true → Contains (compacted_by o s.durable j).parts (replaced j o p) → Given s.durable fs j p r → InJob s.durable fs j o p r
in_job feed fs s j o p r good f l h a = let k = a.0.0 l in record {
  sound = a.0.1;
  within = l;
  listed = k.0;
  rest = k.1;
  known = a.1;
  below = shelf_below s.durable good.lawful;
  output = job_output_holds s.durable j f.began;
  id = f.id;
  minimum = f.began.minimum;
  kept = h;
}

given_each : (feed : Feed) (fs : List (Header × List Item)) (s : State) (j : Job) → IsGood feed s fs → JobStands s.durable j → Each (Given s.durable fs j) s.durable.parts (ranges_of s.durable)
given_each feed fs s j good h = let d = s.durable in
    known_each d d.parts (ranges_of d) (λ p r. StandsWhole d j p r × SoundPart d fs p r) (each_pair (StandsWhole d j) (SoundPart d fs) d.parts (ranges_of d)
    (both_each (StandsAt d j) (λ p r. HasLow r) (StandsWhole d j) d.parts (ranges_of d) (stands_whole d j) (zipped_each (StandsAt d j) d.parts h) (all_have_low d.parts (tile_rises (lows_of d.parts) (tiles_of d good.lawful)))) (sound_each d fs d.parts (ranges_of d) good.sound.parts)) (ids_known d good.lawful)

same_ranges : (d : Durable) (j : Job) (o : Option ℕ) → part_ranges (compact_of o d j).parts ≡ ranges_of d
same_ranges d j o = ap ranges_from (lows_replaced j o (ranges_of d) d.parts)

compacted_parts : (feed : Feed) (fs : List (Header × List Item)) (s : State) (j : Job) (o : Option ℕ) → IsGood feed s fs → Finishes s.durable j o → SoundParts (compact_of o s.durable j) fs (compact_of o s.durable j).parts (ranges_of (compact_of o s.durable j))
compacted_parts feed fs s j o good f =
    let d = s.durable in
    let e = compact_of o d j in
    let rs = ranges_of d in
    subst (SoundParts e fs e.parts) (sym (same_ranges d j o)) (each_sound e fs e.parts rs (replaced_each j o (Given d fs j) (SoundPart e fs) e.parts d.parts rs (λ q h. h)
    (λ p r l h a. subst (λ (q : Part). SoundPart e fs q r) (sym (changed_is j o p)) (part_compacted d fs j o p r (in_job feed fs s j o p r good f l h a)))
    (λ p r h a. part_beside d fs j o p r a.1 h a.0.1) (given_each feed fs s j good f.stands)))

compacted_pending : (feed : Feed) (fs : List (Header × List Item)) (s : State) (j : Job) (o : Option ℕ) → IsGood feed s fs → Finishes s.durable j o
    → PendingOfAll (cat_of s) (compact_of o s.durable j) (passed fs s.streams) (compact_of o s.durable j).parts (ranges_of (compact_of o s.durable j)) s.pending
compacted_pending feed fs s j o good f =
    let d = s.durable in
    let e = compact_of o d j in
    let rs = ranges_of d in
    let cs = passed fs s.streams in
    subst (λ (ts : List Range). PendingOfAll (cat_of s) e cs e.parts ts s.pending) (sym (same_ranges d j o)) (replaced_pending (cat_of s) d e cs j o (Given d fs j) e.parts d.parts rs s.pending (λ q h. h)
    (λ p r ns l h a k. subst (λ (q : Part). PendingOf (cat_of s) e cs q r ns) (sym (changed_is j o p)) (pending_compacted d fs cs j o p r ns (in_job feed fs s j o p r good f l h a) k))
    (λ p r ns h a k. pending_beside d cs j o p r ns a.1 h k) (given_each feed fs s j good f.stands) good.ready.pending)

-- the same with another generation
part_numbered : (e : Durable) (g : ℕ) (fs : List (Header × List Item)) (p : Part) (r : Range) → SoundPart e fs p r → SoundPart (record e { generation = g }) fs p r
part_numbered e g fs p r h = record { only_changes = h.only_changes; all_changes = h.all_changes; rows = h.rows; agree = h.agree; minimum = h.minimum; resume = h.resume }

parts_numbered : (e : Durable) (g : ℕ) (fs : List (Header × List Item)) (ps : List Part) (rs : List Range) → SoundParts e fs ps rs → SoundParts (record e { generation = g }) fs ps rs
parts_numbered e g fs [] rs a = tt
parts_numbered e g fs (p ∷ ps) [] a = absurd a
parts_numbered e g fs (p ∷ ps) (r ∷ rs) a = (part_numbered e g fs p r a.0, parts_numbered e g fs ps rs a.1)

session_compacted : (feed : Feed) (fs : List (Header × List Item)) (s : State) (j : Job) (o : Option ℕ) → IsGood feed s fs → Finishes s.durable j o → IsTrue (nat_lt 0 (s.durable.generation + 1) && nat_lt (s.durable.generation + 1) (2 ^ 64))
    → IsGood feed (record s { durable = committed (compacted_by o s.durable j); job = None }) fs
session_compacted feed fs s j o good f next =
    let d = s.durable in
    let e = compact_of o d j in
    let c : Durable = record e { generation = d.generation + 1 } in
    let is : compacted_by o d j ≡ e = compacted_is d j o (only f.id) in
    let known : AllByRecursion (IsKnown d) j.inputs = all_map (λ i. IsTrue (is_some (delta_with d.shelf i))) (IsKnown d) j.inputs (λ i k. (k, shelved_below i k)) f.began.shelved in
    let l = lawful_compacted d j o good.lawful f.id f.full known f.room (job_output_holds d j f.began).lawful f.next in
    subst (λ (z : Durable). IsGood feed (record s { durable = committed z; job = None }) fs) (sym is) (record {
      short = good.short;
      lawful = record { generation = next; manifest = record { limit = l.manifest.limit; numbers = l.manifest.numbers; catalogue = l.manifest.catalogue; streams = l.manifest.streams; parts = l.manifest.parts; deltas = l.manifest.deltas }; shelf = l.shelf };
      fronts = good.fronts;
      sound = record { parts = parts_numbered e (d.generation + 1) fs e.parts (ranges_of e) (compacted_parts feed fs s j o good f); points = good.sound.points };
      ready = record {
        places = good.ready.places;
        pending = all_pending_as (cat_of s) e c (passed fs s.streams) e.parts (ranges_of e) s.pending (λ p r table. refl) (compacted_pending feed fs s j o good f);
        job = tt;
      };
    })
  where
    only : IsId s.durable j o → (o ≡ None) ⊎ (o ≡ Some s.durable.next_id)
    only (inl h) = inl h.0
    only (inr h) = inr h

    shelved_below : (i : ℕ) → IsTrue (is_some (delta_with s.durable.shelf i)) → i < s.durable.next_id
    shelved_below i k = by_found (delta_with s.durable.shelf i) refl k
      where
        by_found : (q : Option Delta) → delta_with s.durable.shelf i ≡ q → is_some q ≡ true → i < s.durable.next_id
        by_found None e z = absurd (false≢true z)
        by_found (Some y) e z =
            let g = find_held (λ (x : Delta). x.id == i) s.durable.shelf y e in
            let l : y.id < s.durable.next_id = all_at (λ y. y.id < s.durable.next_id) s.durable.shelf y (shelf_below s.durable good.lawful) g.0 in
            let k = eqb-true y.id i g.1 in omega (arith, l, k)

-- ---- the commands

-- the id of an output
id_is : (d : Durable) (j : Job) (b : Bool) → nat_lt 0 (length (job_output d.shelf j)) ≡ b → IsId d j (when b d.next_id) × ((when b d.next_id) ≡ Some d.next_id → 0 < length (job_output d.shelf j))
id_is d j true e = (inr refl, (λ h. ltb-true 0 (length (job_output d.shelf j)) e))
id_is d j false e = (inl (refl, none_of (job_output d.shelf j) e), (λ h. no_id h))
  where
    none_of : {A : Type 0} (xs : List A) → nat_lt 0 (length xs) ≡ false → xs ≡ []
    none_of [] h = refl
    none_of (x ∷ xs) h = let w : length (x ∷ xs) ≤ 0 = ltb-false 0 (length (x ∷ xs)) h in absurd (omega (arith, w))

    no_id : when false d.next_id ≡ Some d.next_id → 0 < length (job_output d.shelf j)
    no_id h = cc

room_is : (d : Durable) (j : Job) → when (nat_le 4096 (length d.shelf) && frees_nothing d j) too_many_deltas ≡ None → HasRoom d j
room_is d j e = by_length (nat_le 4096 (length d.shelf)) refl (when_none (nat_le 4096 (length d.shelf) && frees_nothing d j) too_many_deltas e)
  where
    by_length : (b : Bool) → nat_le 4096 (length d.shelf) ≡ b → b && frees_nothing d j ≡ false → HasRoom d j
    by_length true f h = inr h
    by_length false f h = inl (leb-false 4096 (length d.shelf) f)

next_room : (d : Durable) → IsLawfulPart d → when (is_worn d && true) worn ≡ None → d.next_id + 1 < 2 ^ 64
next_room d l e =
    let ids : (d.next_id == 2 ^ 64 - 1) ≡ false = (or_parts (d.generation == 2 ^ 64 - 1) (d.next_id == 2 ^ 64 - 1) (and_true (is_worn d) (when_none (is_worn d && true) worn e))).1 in
    let below : d.next_id < 2 ^ 64 = ltb-true d.next_id (2 ^ 64) (and_parts (nat_lt d.minimum (2 ^ 64)) (nat_lt d.next_id (2 ^ 64)) l.manifest.numbers).1 in
    let z = eqb-false d.next_id (2 ^ 64 - 1) ids in omega (arith, below, z)
  where
    and_true : (b : Bool) → b && true ≡ false → b ≡ false
    and_true true h = h
    and_true false h = h

-- a job that stands and began, finished
finished : (feed : Feed) (fs : List (Header × List Item)) (s : State) (j : Job) → IsGood feed s fs → JobStands s.durable j × JobBegan s.durable j → when (nat_le 4096 (length s.durable.shelf) && frees_nothing s.durable j) too_many_deltas ≡ None → when (is_worn s.durable && true) worn ≡ None
    → IsGood feed (record s { durable = committed (compacted s.durable j); job = None }) fs
finished feed fs s j good h room unworn =
    let d = s.durable in
    let i = id_is d j (nat_lt 0 (length (job_output d.shelf j))) refl in
    session_compacted feed fs s j (output_id d j) good (record { stands = h.0; began = h.1; id = i.0; full = i.1; room = room_is d j room; next = next_room d good.lawful unworn }) (next_generation d good.lawful unworn)

pub job_finish_keeps : KeepsDoing do_job_finish
job_finish_keeps feed fs s s' a good e d =
    let u = unrefused s do_job_finish e in
    let h = subst (λ (o : Option Job). IfSome o (λ j. JobStands s.durable j × JobBegan s.durable j)) d.1 good.ready.job in
    let room : when (nat_le 4096 (length s.durable.shelf) && frees_nothing s.durable d.0) too_many_deltas ≡ None = ap (λ (o : Option Job). when (nat_le 4096 (length s.durable.shelf) && option_map_or (frees_nothing s.durable) o false) too_many_deltas) (sym d.1) ∙ u.limit in
    (fs, subst (λ (x : State). IsGood feed x fs) (sym d.3) (finished feed fs s d.0 good h room u.unworn))

pub no_job : (s : State) (o : Option Job) → s.job ≡ o → when (true && is_some o) job_open ≡ None → o ≡ None
no_job s None e h = refl
no_job s (Some j) e h = cc

pub compact_keeps : (n : ℕ) (mode : Mode) → KeepsDoing (do_compact n mode)
compact_keeps n mode feed fs s s' a good e d =
    let u = unrefused s (do_compact n mode) e in
    let v = s.durable in
    let k = part_job_is v n mode (slice_get v.parts n) (slice_get (ranges_of v) n) d.0 refl refl d.1 in
    let known : unknown_in k.0.ids mode ≡ None = none_mapped no_such_delta (unknown_in k.0.ids mode) (ap (λ (o : Option Part). option_map no_such_delta (option_and_then (λ p. unknown_in p.ids mode) o)) (sym k.2) ∙ u.delta) in
    let h = subst (λ (j : Job). JobStands v j × JobBegan v j) k.4 (job_begun_stands s n k.0 k.1 mode k.2 k.3 known good.lawful) in
    let room : when (nat_le 4096 (length v.shelf) && frees_nothing v d.0) too_many_deltas ≡ None = ap (λ (o : Option Job). when (nat_le 4096 (length v.shelf) && option_map_or (frees_nothing v) o false) too_many_deltas) (sym d.1) ∙ u.limit in
    let none : s.job ≡ None = no_job s s.job refl u.alone in
    (fs, subst (λ (x : State). IsGood feed x fs) (sym d.3) (subst (λ (o : Option Job). IsGood feed (record s { durable = committed (compacted v d.0); job = o }) fs) (sym none) (finished feed fs s d.0 good h room u.unworn)))
