-- No command but a reopening lowers the checkpoint of a key's partition, and none lowers the minimum.
use Rattle.std.proofs.Common.{Bool, List, [], ap, arith, cond, false, inl, inr, le-ltb, length, refl, subst, suc, sym, true, zero, ℕ, ◌+◌, ◌∙◌, ◌∷◌, ◌≡◌, ◌≤◌}
use Rattle.std.specs.Prelude.{None, Option, Some, find, is_some, map, nat_lt, not, option_map, slice_get, unwrap_or, zip, ◌&&◌, ◌||◌}
use Rattle.std.specs.List.{AllByRecursion, list_any}
use Rattle.std.proofs.lemmas.Bool.{and_from, and_parts, false≢true}
use Rattle.lt_world.specs.Feed.{Feed}
use Rattle.lt_terms.specs.Key.{Range, below, in_range, is_below_high, lies_in, meets, ranges_from}
use Rattle.lt_terms.specs.Log.{Header, Item}
use Rattle.lt_tables.specs.Pump.{StreamAt, numbered_from, part_of}
use Rattle.lt_machine.specs.Machine.{Answer, CheckpointsStay, Does, Job, State, checkpoint_for, is_reopen, StepBy, cat_of, checkpoint_at, compacted, first_below, flush_id, is_write, output_id, parts_replaced, ranges_of, refused, replaced, resume_after, split_key, with_id, with_resume}
use Rattle.lt_words.specs.Reply.{Refusal, needs_reopen}
use Rattle.lt_machine.specs.Run.{AfterFault}
use Rattle.lt_tables.specs.Schema.{change_at}
use Rattle.lt_tables.specs.Query.{Command, do_compact, do_deltas, do_flush, do_job_begin, do_job_drop, do_job_finish, do_job_step, do_page, do_pump, do_reopen, do_retain, do_retire, do_scan, do_schema, do_split, do_status}
use Rattle.lt_machine.specs.Sound.{IsGood, source_of}
use Rattle.lt_tables.specs.Pump.{Part}
use Rattle.lt_storage.specs.Store.{Durable, IsLawfulPart, part_ranges}
use Rattle.lt_session_laws.proofs.CompactedShelf.{lows_replaced}
use Rattle.lt_session_laws.proofs.FaultLaws.{fault_keeps}
use Rattle.lt_session_laws.proofs.NeverFalls.{minimum_never_falls}
use Rattle.lt_session_laws.proofs.PartsChanged.{ranges_changed}
use Rattle.lt_lemmas.proofs.ListFacts.{when_none}
use Rattle.lt_session_laws.proofs.PumpLaws.{pump_keeps}
use Rattle.lt_session_laws.proofs.JobLaws.{as_many}
use Rattle.lt_lemmas.proofs.RangeLaws.{IsOutOf, IsSole, tile_sole}
use Rattle.lt_laws.proofs.ScanLaws.{tiles_of}
use Rattle.lt_lemmas.proofs.SoundLaws.{meets-by, pick}
use Rattle.lt_laws.proofs.SoundLaws.{at-least, not-found}
use Rattle.lt_lemmas.proofs.SplitLaws.{meets_some}
use Rattle.lt_session_laws.proofs.SplitLaws.{Each, first_stays, lows_of}
use Rattle.lt_session_laws.proofs.StepLaws.{headers_are, refusals}
use Rattle.lt_lemmas.proofs.ListFacts.{all_none}
use Rattle.lt_steps.proofs.BelongsLaws.{same_fronts}
use Rattle.lt_steps.proofs.PumpedOn.{took}
use Rattle.lt_steps.proofs.SplitParts.{id_low, in_lower, in_upper, lower, range_before, replaced_resume, split_at, upper}
use Rattle.lt_steps.proofs.TookLaws.{took_some}
use Rattle.lt_steps.proofs.StreamsRise.{OffsetsRise, StreamsRise, all_open, any_of_ranges, checkpoint_up, checkpoint_within, has_key, moved_on, streams_rise, tiles_have}
use Rattle.lt_steps.specs.Rising.{NothingFalls}
use Rattle.lt_lemmas.proofs.SnapshotLaws.{or_left, or_right}
use Rattle.lt_codecs.proofs.ListFacts.{none_mapped}

-- ---- the checkpoint of a key's partition

checkpoint_in : List StreamAt → List Part → List Range → List ℕ → ℕ
checkpoint_in ss [] rs key = 0
checkpoint_in ss (p ∷ ps) [] key = 0
checkpoint_in ss (p ∷ ps) (r ∷ rs) key = cond (in_range key r) (checkpoint_at ss p r) (checkpoint_in ss ps rs key)

abbrev checkpoints_of : List StreamAt → List Part → List Range → List ℕ
checkpoints_of ss ps rs = map (λ x. checkpoint_at ss x.0 x.1) (zip ps rs)

abbrev nth : List ℕ → ℕ → ℕ
nth ns n = unwrap_or (slice_get ns n) 0

nth_none : (n : ℕ) → nth [] n ≡ 0
nth_none n = refl

there_by : (b : Bool) (n m : ℕ) (ns : List ℕ) → nth (n ∷ ns) (cond b 0 (1 + m)) ≡ cond b n (nth ns m)
there_by true n m ns = refl
there_by false n m ns = let e : 1 + m ≡ suc m = omega arith in ap (nth (n ∷ ns)) e

checkpoint_is : (ss : List StreamAt) (ps : List Part) (rs : List Range) (key : List ℕ) → nth (checkpoints_of ss ps rs) (part_of rs key) ≡ checkpoint_in ss ps rs key
unfolding checkpoint_in
checkpoint_is ss [] rs key = nth_none (part_of rs key)
checkpoint_is ss (p ∷ ps) [] key = refl
checkpoint_is ss (p ∷ ps) (r ∷ rs) key = there_by (in_range key r) (checkpoint_at ss p r) (part_of rs key) (checkpoints_of ss ps rs) ∙ ap (λ (n : ℕ). cond (in_range key r) (checkpoint_at ss p r) n) (checkpoint_is ss ps rs key)

abbrev RisesTo : List StreamAt → List Part → List Range → List StreamAt → List Part → List Range → Type 0
RisesTo ss ps rs ts qs us = (key : List ℕ) → checkpoint_in ss ps rs key ≤ checkpoint_in ts qs us key

keys_rise : (s s' : State) → RisesTo s.streams s.durable.parts (ranges_of s.durable) s'.streams s'.durable.parts (ranges_of s'.durable) → CheckpointsStay s s'
keys_rise s s' h key =
    let a : checkpoint_for s key ≡ checkpoint_in s.streams s.durable.parts (ranges_of s.durable) key = checkpoint_is s.streams s.durable.parts (ranges_of s.durable) key in
    let b : checkpoint_for s' key ≡ checkpoint_in s'.streams s'.durable.parts (ranges_of s'.durable) key = checkpoint_is s'.streams s'.durable.parts (ranges_of s'.durable) key in
    let l = h key in omega (arith, a, b, l)

-- a state with other partitions or streams
rises_with : (s s' : State) (ts : List StreamAt) (ps : List Part) → s'.streams ≡ ts → s'.durable.parts ≡ ps → RisesTo s.streams s.durable.parts (ranges_of s.durable) ts ps (part_ranges ps) → CheckpointsStay s s'
rises_with s s' ts ps e f h = keys_rise s s' (λ key. subst (λ (xs : List StreamAt). checkpoint_in s.streams s.durable.parts (ranges_of s.durable) key ≤ checkpoint_in xs s'.durable.parts (ranges_of s'.durable) key) (sym e)
    (subst (λ (qs : List Part). checkpoint_in s.streams s.durable.parts (ranges_of s.durable) key ≤ checkpoint_in ts qs (part_ranges qs) key) (sym f) (h key)))

case_rises : (b : Bool) (x y u v : ℕ) → x ≤ u → y ≤ v → cond b x y ≤ cond b u v
case_rises true x y u v h i = h
case_rises false x y u v h i = i

-- ---- the same partitions and streams, or streams that went on

same_up : (ss ts : List StreamAt) (ps : List Part) (rs : List Range) → ((p : Part) (r : Range) → checkpoint_at ss p r ≤ checkpoint_at ts p r) → RisesTo ss ps rs ts ps rs
unfolding checkpoint_in
same_up ss ts [] rs f key = omega arith
same_up ss ts (p ∷ ps) [] f key = omega arith
same_up ss ts (p ∷ ps) (r ∷ rs) f key = case_rises (in_range key r) (checkpoint_at ss p r) (checkpoint_in ss ps rs key) (checkpoint_at ts p r) (checkpoint_in ts ps rs key) (f p r) (same_up ss ts ps rs f key)

rises_same : (s s' : State) → s'.streams ≡ s.streams → s'.durable.parts ≡ s.durable.parts → CheckpointsStay s s'
rises_same s s' e f = rises_with s s' s.streams s.durable.parts e f (same_up s.streams s.streams s.durable.parts (ranges_of s.durable) (λ p r. omega arith))

rises_on : (s s' : State) (ts : List StreamAt) → s'.streams ≡ ts → s'.durable.parts ≡ s.durable.parts → StreamsRise s.streams ts → CheckpointsStay s s'
rises_on s s' ts e f a = rises_with s s' ts s.durable.parts e f (same_up s.streams ts s.durable.parts (ranges_of s.durable) (λ p r. checkpoint_up s.streams ts p r a))

-- ---- one partition is durable up to its checkpoint

at_up : (ss : List StreamAt) (p q : Part) (r : Range) → p.resume ≤ q.resume → checkpoint_at ss p r ≤ checkpoint_at ss q r
at_up ss p q r h = omega (arith, h)

changed_up : (ss : List StreamAt) (f : Part → Part) (n : ℕ) (ps : List Part) (rs : List Range) → ((p : Part) → slice_get ps n ≡ Some p → p.resume ≤ (f p).resume) → RisesTo ss ps rs ss (change_at f n ps) rs
unfolding checkpoint_in
changed_up ss f n [] rs h key = omega arith
changed_up ss f zero (p ∷ ps) [] h key = omega arith
changed_up ss f (suc n) (p ∷ ps) [] h key = omega arith
changed_up ss f zero (p ∷ ps) (r ∷ rs) h key = case_rises (in_range key r) (checkpoint_at ss p r) (checkpoint_in ss ps rs key) (checkpoint_at ss (f p) r) (checkpoint_in ss ps rs key) (at_up ss p (f p) r (h p refl)) (omega arith)
changed_up ss f (suc n) (p ∷ ps) (r ∷ rs) h key = case_rises (in_range key r) (checkpoint_at ss p r) (checkpoint_in ss ps rs key) (checkpoint_at ss p r) (checkpoint_in ss (change_at f n ps) rs key) (omega arith) (changed_up ss f n ps rs h key)

resume_up : (ss : List StreamAt) (n : ℕ) (ps : List Part) (p : Part) → slice_get ps n ≡ Some p → p.resume ≤ nth (checkpoints_of ss ps (part_ranges ps)) n
resume_up ss n [] p e = cc
resume_up ss zero (q ∷ ps) p e = let d : q ≡ p = cc in let f : q.resume ≡ p.resume = ap (λ (x : Part). x.resume) d in omega (arith, f)
resume_up ss (suc n) (q ∷ ps) p e = resume_up ss n ps p e

flush_rises : (s s' : State) (n : ℕ) → s'.streams ≡ s.streams → s'.durable.parts ≡ change_at (λ x. with_resume (resume_after s n) (with_id (flush_id s n) x)) n s.durable.parts → CheckpointsStay s s'
flush_rises s s' n e f =
    let g = λ (x : Part). with_resume (resume_after s n) (with_id (flush_id s n) x) in
    let ps = change_at g n s.durable.parts in
    let same : part_ranges ps ≡ ranges_of s.durable = ranges_changed g n s.durable.parts (λ x. id_low (flush_id s n) (resume_after s n) x) in
    rises_with s s' s.streams ps e f (subst (λ (us : List Range). RisesTo s.streams s.durable.parts (ranges_of s.durable) s.streams ps us) (sym same)
    (changed_up s.streams g n s.durable.parts (ranges_of s.durable) (λ p h. resume_up s.streams n s.durable.parts p h)))

-- ---- other deltas

at_same : (ss : List StreamAt) (p q : Part) (r : Range) → q.resume ≡ p.resume → checkpoint_at ss p r ≤ checkpoint_at ss q r
at_same ss p q r h = at_up ss p q r (omega (arith, h))

replaced_up : (ss : List StreamAt) (j : Job) (o : Option ℕ) (us : List Range) (ps : List Part) (rs : List Range) → RisesTo ss ps rs ss (parts_replaced j o us ps) rs
unfolding checkpoint_in
replaced_up ss j o [] ps rs key = omega arith
replaced_up ss j o (u ∷ us) [] rs key = omega arith
replaced_up ss j o (u ∷ us) (p ∷ ps) [] key = omega arith
replaced_up ss j o (u ∷ us) (p ∷ ps) (r ∷ rs) key = let q = cond (lies_in u j.range) (replaced j o p) p in
    case_rises (in_range key r) (checkpoint_at ss p r) (checkpoint_in ss ps rs key) (checkpoint_at ss q r) (checkpoint_in ss (parts_replaced j o us ps) rs key) (at_same ss p q r (replaced_resume j o p (lies_in u j.range))) (replaced_up ss j o us ps rs key)

compact_rises : (s s' : State) (j : Job) → s'.streams ≡ s.streams → s'.durable.parts ≡ (compacted s.durable j).parts → CheckpointsStay s s'
compact_rises s s' j e f =
    let o = output_id s.durable j in
    let rs = ranges_of s.durable in
    let ps = parts_replaced j o rs s.durable.parts in
    let same : part_ranges ps ≡ rs = ap ranges_from (lows_replaced j o rs s.durable.parts) in
    rises_with s s' s.streams ps e f (subst (λ (us : List Range). RisesTo s.streams s.durable.parts rs s.streams ps us) (sym same) (replaced_up s.streams j o rs s.durable.parts rs))

-- ---- a split

in_neither : (r : Range) (key k : List ℕ) → in_range k (lower r key) ≡ false → in_range k (upper r key) ≡ false → in_range k r ≡ true → ⊥
in_neither r key k l u h = let p = and_parts (not (below k r.low)) (is_below_high k r.high) h in pick (below k key)
    (λ e. false≢true (sym l ∙ and_from _ _ p.0 e))
    (λ e. false≢true (sym u ∙ and_from _ _ (ap not e) p.1))

parted_up : (b l u : Bool) (x y x' y' : ℕ) → (l ≡ true → b ≡ true) → (u ≡ true → b ≡ true) → (l ≡ false → u ≡ false → b ≡ true → ⊥) → (l ≡ true → x ≤ x') → (u ≡ true → x ≤ y') → cond b x y ≤ cond l x' (cond u y' y)
parted_up true true u x y x' y' f g n h i = h refl
parted_up true false true x y x' y' f g n h i = i refl
parted_up true false false x y x' y' f g n h i = absurd (n refl refl refl)
parted_up false true u x y x' y' f g n h i = absurd (false≢true (f refl))
parted_up false false true x y x' y' f g n h i = absurd (false≢true (g refl))
parted_up false false false x y x' y' f g n h i = omega arith

record Streams (ss : List StreamAt) : Type 0 where
  open_all : AllByRecursion (λ a. a.closed ≡ false) ss
  have : (key : List ℕ) → has_key key ss ≡ true

split_by : (ss : List StreamAt) (key : List ℕ) (p : Part) (ps : List Part) (k : List ℕ) (b : Bool) → Streams ss → in_range key (range_before p ps) ≡ b → RisesTo ss ps (part_ranges ps) ss (split_at key ps) (part_ranges (split_at key ps))
    → checkpoint_in ss (p ∷ ps) (part_ranges (p ∷ ps)) k ≤ checkpoint_in ss (cond b (p ∷ record p { low = key } ∷ ps) (p ∷ split_at key ps)) (part_ranges (cond b (p ∷ record p { low = key } ∷ ps) (p ∷ split_at key ps))) k
unfolding checkpoint_in
split_by ss key p ps k true o e ih =
    let r = range_before p ps in
    let q : Part = record p { low = key } in
    parted_up (in_range k r) (in_range k (lower r key)) (in_range k (upper r key)) (checkpoint_at ss p r) (checkpoint_in ss ps (part_ranges ps) k) (checkpoint_at ss p (lower r key)) (checkpoint_at ss q (upper r key))
    (in_lower r key e k) (in_upper r key e k) (in_neither r key k)
    (λ h. checkpoint_within ss p p k (lower r key) r o.open_all (o.have k) h (in_lower r key e) refl)
    (λ h. checkpoint_within ss p q k (upper r key) r o.open_all (o.have k) h (in_upper r key e) refl)
split_by ss key p ps k false o e ih =
    subst (λ (h : Option (List ℕ)). cond (in_range k (range_before p ps)) (checkpoint_at ss p (range_before p ps)) (checkpoint_in ss ps (part_ranges ps) k)
    ≤ cond (in_range k (record { low = p.low; high = h })) (checkpoint_at ss p (record { low = p.low; high = h })) (checkpoint_in ss (split_at key ps) (part_ranges (split_at key ps)) k)) (sym (first_stays key ps))
    (case_rises (in_range k (range_before p ps)) (checkpoint_at ss p (range_before p ps)) (checkpoint_in ss ps (part_ranges ps) k) (checkpoint_at ss p (range_before p ps)) (checkpoint_in ss (split_at key ps) (part_ranges (split_at key ps)) k) (omega arith) (ih k))

split_up : (ss : List StreamAt) (key : List ℕ) (ps : List Part) → Streams ss → RisesTo ss ps (part_ranges ps) ss (split_at key ps) (part_ranges (split_at key ps))
split_up ss key [] o k = omega arith
split_up ss key (p ∷ ps) o k = split_by ss key p ps k (in_range key (range_before p ps)) o refl (split_up ss key ps o)

good_streams : (f : Feed) (fs : List (Header × List Item)) (s : State) → IsGood f s fs → Streams s.streams
good_streams f fs s good = record {
  open_all = all_open f (cat_of s) 0 fs s.streams good.fronts.each good.ready.places;
  have = λ key. any_of_ranges key s.streams ∙ ap (λ (hs : List Header). list_any (in_range key) (map (λ h. h.range) hs)) (headers_are fs s.streams good.ready.places)
      ∙ ap (list_any (in_range key)) good.fronts.tiling.1 ∙ tiles_have key (map (λ (h : Header). h.range.low) (map (λ (f : Header × List Item). f.0) fs)) good.fronts.tiling.0;
}

-- ---- the commands

pump_rises : (f : Feed) (fs : List (Header × List Item)) (s s' : State) (n k : ℕ) (a : Answer) → IsGood f s fs → refused s (do_pump n k) ≡ None → Does f (source_of fs) s (do_pump n k) a s' → CheckpointsStay s s'
pump_rises f fs s s' n k a good free d =
    let t = took f fs s s' n k a good d in
    let after = pump_keeps n k f fs s s' a good free d in
    let same : cat_of s' ≡ cat_of s = ap cat_of t.left in
    let now : IsGood f s' fs = same_fronts f s s' fs good same after in
    let moved = ap (λ (x : State). x.streams) t.left in
    let up = moved_on n t.items s.streams in
    rises_on s s' s'.streams refl (ap (λ (x : State). x.durable.parts) t.left) (streams_rise f (cat_of s) 0 fs s.streams s'.streams good.fronts.each good.ready.places now.ready.places (subst (OffsetsRise s.streams) (sym moved) up))

rises_by : (f : Feed) (fs : List (Header × List Item)) (s s' : State) (c : Command) (a : Answer) → IsGood f s fs → is_reopen c ≡ false → refused s c ≡ None → Does f (source_of fs) s c a s' → CheckpointsStay s s'
rises_by f fs s s' (do_schema t) a good n e d = rises_same s s' (ap (λ (x : State). x.streams) d.3) (ap (λ (x : State). x.durable.parts) d.3)
rises_by f fs s s' (do_retire t v) a good n e d = rises_same s s' (ap (λ (x : State). x.streams) d.3) (ap (λ (x : State). x.durable.parts) d.3)
rises_by f fs s s' (do_pump m k) a good n e d = pump_rises f fs s s' m k a good e d
rises_by f fs s s' (do_flush p) a good n e d = flush_rises s s' p (ap (λ (x : State). x.streams) d.1) (ap (λ (x : State). x.durable.parts) d.1)
rises_by f fs s s' (do_compact p m) a good n e d = compact_rises s s' d.0 (ap (λ (x : State). x.streams) d.3) (ap (λ (x : State). x.durable.parts) d.3)
rises_by f fs s s' (do_job_begin p m) a good n e d = rises_same s s' (ap (λ (x : State). x.streams) d.3) (ap (λ (x : State). x.durable.parts) d.3)
rises_by f fs s s' (do_job_step k) a good n e d = rises_same s s' (ap (λ (x : State). x.streams) d.3) (ap (λ (x : State). x.durable.parts) d.3)
rises_by f fs s s' do_job_finish a good n e d = compact_rises s s' d.0 (ap (λ (x : State). x.streams) d.3) (ap (λ (x : State). x.durable.parts) d.3)
rises_by f fs s s' do_job_drop a good n e d = rises_same s s' (ap (λ (x : State). x.streams) d.1) (ap (λ (x : State). x.durable.parts) d.1)
rises_by f fs s s' (do_split t k) a good n e d = rises_with s s' s.streams (split_at (split_key d.0 k) s.durable.parts) (ap (λ (x : State). x.streams) d.3) (ap (λ (x : State). x.durable.parts) d.3) (split_up s.streams (split_key d.0 k) s.durable.parts (good_streams f fs s good))
rises_by f fs s s' (do_retain t) a good n e d = rises_same s s' (ap (λ (x : State). x.streams) d.1) (ap (λ (x : State). x.durable.parts) d.1)
rises_by f fs s s' (do_scan q) a good n e d = rises_same s s' (ap (λ (x : State). x.streams) d.2) (ap (λ (x : State). x.durable.parts) d.2)
rises_by f fs s s' (do_page q) a good n e d = rises_same s s' (ap (λ (x : State). x.streams) d.2) (ap (λ (x : State). x.durable.parts) d.2)
rises_by f fs s s' do_status a good n e d = rises_same s s' (ap (λ (x : State). x.streams) d.1) (ap (λ (x : State). x.durable.parts) d.1)
rises_by f fs s s' (do_deltas p) a good n e d = rises_same s s' (ap (λ (x : State). x.streams) d.1) (ap (λ (x : State). x.durable.parts) d.1)
rises_by f fs s s' do_reopen a good n e d = absurd (false≢true (sym n))

rises_step : (f : Feed) (fs : List (Header × List Item)) (s s' : State) (c : Command) (a : Answer) (o : Option Refusal) → IsGood f s fs → is_reopen c ≡ false → refused s c ≡ o → StepBy o f (source_of fs) s c a s' → CheckpointsStay s s'
rises_step f fs s s' c a (Some r) good n e step = rises_same s s' (ap (λ (x : State). x.streams) step.1) (ap (λ (x : State). x.durable.parts) step.1)
rises_step f fs s s' c a None good n e step = rises_by f fs s s' c a good n e step

-- ---- faults

-- a write that the state does not refuse finds the session unbroken
pub unbroken : (s : State) (c : Command) → is_write c ≡ true → refused s c ≡ None → s.broken ≡ None
unfolding refused
unbroken s c w e = by_write (is_write c) s.broken w (when_none (is_some s.broken && is_write c) needs_reopen (all_none (refusals s c) e).0)
  where
    by_write : (b : Bool) (o : Option Durable) → b ≡ true → is_some o && b ≡ false → o ≡ None
    by_write true None w h = refl
    by_write true (Some d) w h = absurd (false≢true (sym h))
    by_write false o w h = absurd (false≢true w)

fault_rises : (f : Feed) (fs : List (Header × List Item)) (s s' : State) (c : Command) (r : Refusal) → IsGood f s fs → IsGood f s' fs → AfterFault f (source_of fs) s c r s' → CheckpointsStay s s'
fault_rises f fs s s' c r good now (inl e) = rises_same s s' (ap (λ (x : State). x.streams) e) (ap (λ (x : State). x.durable.parts) e)
fault_rises f fs s s' c r good now (inr (inl t)) =
    let k = took_some f s s' c t.1 in
    rises_on s s' s'.streams refl (ap (λ (d : Durable). d.parts) k.durable) (streams_rise f (cat_of s) 0 fs s.streams s'.streams good.fronts.each good.ready.places now.ready.places k.streams)
fault_rises f fs s s' c r good now (inr (inr w)) = rises_same s s' (ap (λ (x : State). x.streams) w.1.2) (ap (λ (x : State). x.durable.parts) w.1.2)

-- ---- what is safe stays so

-- each partition that meets an interval has a checkpoint not below the moment
abbrev AreSafe : List StreamAt → Range → ℕ → List Part → List Range → Type 0
AreSafe ss q t ps rs = Each (λ p r. meets r q ≡ true → t ≤ checkpoint_at ss p r) ps rs

abbrev below_in : List StreamAt → Range → ℕ → ℕ → List Part → List Range → Option (ℕ × (Range × ℕ))
below_in ss q t n ps rs = find (λ x. meets x.1.0 q && nat_lt x.1.1 t) (numbered_from n (zip rs (checkpoints_of ss ps rs)))

safe_parts : (ss : List StreamAt) (q : Range) (t n : ℕ) (ps : List Part) (rs : List Range) → length ps ≡ length rs → below_in ss q t n ps rs ≡ None → AreSafe ss q t ps rs
safe_parts ss q t n [] rs l e = tt
safe_parts ss q t n (p ∷ ps) [] l e = absurd (omega (arith, l))
safe_parts ss q t n (p ∷ ps) (r ∷ rs) l e =
    let k = not-found (meets r q && nat_lt (checkpoint_at ss p r) t) (n, (r, checkpoint_at ss p r)) _ e in
    ((λ m. at-least (meets r q) (checkpoint_at ss p r) t k.0 m), safe_parts ss q t (n + 1) ps rs (omega (arith, l)) k.1)

none_below : (b : Bool) (c t : ℕ) → (b ≡ true → t ≤ c) → (b && nat_lt c t) ≡ false
none_below true c t h = le-ltb c t (h refl)
none_below false c t h = refl

found_none : (x : ℕ × (Range × ℕ)) (b : Bool) (o : Option (ℕ × (Range × ℕ))) → b ≡ false → o ≡ None → cond b (Some x) o ≡ None
found_none x true o e f = absurd (false≢true (sym e))
found_none x false o e f = f

parts_safe : (ss : List StreamAt) (q : Range) (t n : ℕ) (ps : List Part) (rs : List Range) → AreSafe ss q t ps rs → below_in ss q t n ps rs ≡ None
parts_safe ss q t n [] [] a = refl
parts_safe ss q t n [] (r ∷ rs) a = refl
parts_safe ss q t n (p ∷ ps) [] a = absurd a
parts_safe ss q t n (p ∷ ps) (r ∷ rs) a = found_none (n, (r, checkpoint_at ss p r)) (meets r q && nat_lt (checkpoint_at ss p r) t) (below_in ss q t (n + 1) ps rs) (none_below (meets r q) (checkpoint_at ss p r) t a.0) (parts_safe ss q t (n + 1) ps rs a.1)

-- the partition of a key of the interval is safe, where there is one
key_safe : (ss : List StreamAt) (q : Range) (t : ℕ) (key : List ℕ) (ps : List Part) (rs : List Range) → in_range key q ≡ true → AreSafe ss q t ps rs → list_any (in_range key) rs ≡ true → length ps ≡ length rs → t ≤ checkpoint_in ss ps rs key
unfolding checkpoint_in
key_safe ss q t key [] [] w a h l = absurd (false≢true h)
key_safe ss q t key [] (r ∷ rs) w a h l = absurd (omega (arith, l))
key_safe ss q t key (p ∷ ps) [] w a h l = absurd a
key_safe ss q t key (p ∷ ps) (r ∷ rs) w a h l = pick (in_range key r)
    (λ e. subst (λ (b : Bool). t ≤ cond b (checkpoint_at ss p r) (checkpoint_in ss ps rs key)) (sym e) (a.0 (meets-by key r q e w)))
    (λ e. subst (λ (b : Bool). t ≤ cond b (checkpoint_at ss p r) (checkpoint_in ss ps rs key)) (sym e) (key_safe ss q t key ps rs w a.1 (ap (λ (b : Bool). b || list_any (in_range key) rs) (sym e) ∙ h) (omega (arith, l))))

-- where each key of the interval is safe, so is each partition
out_checkpoint : (ss : List StreamAt) (key : List ℕ) (p : Part) (r : Range) (ps : List Part) (rs : List Range) → in_range key r ≡ true → checkpoint_in ss (p ∷ ps) (r ∷ rs) key ≡ checkpoint_at ss p r
unfolding checkpoint_in
out_checkpoint ss key p r ps rs e = ap (λ (b : Bool). cond b (checkpoint_at ss p r) (checkpoint_in ss ps rs key)) e

next_checkpoint : (ss : List StreamAt) (key : List ℕ) (p : Part) (r : Range) (ps : List Part) (rs : List Range) → in_range key r ≡ false → checkpoint_in ss (p ∷ ps) (r ∷ rs) key ≡ checkpoint_in ss ps rs key
unfolding checkpoint_in
next_checkpoint ss key p r ps rs e = ap (λ (b : Bool). cond b (checkpoint_at ss p r) (checkpoint_in ss ps rs key)) e

keys_safe : (ss : List StreamAt) (q : Range) (t : ℕ) (ps : List Part) (rs : List Range) → length ps ≡ length rs → ((key : List ℕ) → IsSole key rs) → ((key : List ℕ) → in_range key q ≡ true → list_any (in_range key) rs ≡ true → t ≤ checkpoint_in ss ps rs key) → AreSafe ss q t ps rs
keys_safe ss q t [] rs l sole h = tt
keys_safe ss q t (p ∷ ps) [] l sole h = absurd (omega (arith, l))
keys_safe ss q t (p ∷ ps) (r ∷ rs) l sole h = (
  (λ m.
      let k = meets_some r q m in
      let e = out_checkpoint ss k.0 p r ps rs k.1 in
      let g = h k.0 k.2 (or_left (in_range k.0 r) (list_any (in_range k.0) rs) k.1) in omega (arith, e, g)),
  keys_safe ss q t ps rs (omega (arith, l)) (λ key. (sole key).1) (λ key w i. pick (in_range key r)
      (λ e. absurd (false≢true (sym (none_any key rs ((sole key).0 e)) ∙ i)))
      (λ e. let f = next_checkpoint ss key p r ps rs e in let g = h key w (or_right (in_range key r) (list_any (in_range key) rs) i) in omega (arith, f, g))),
)
  where
    none_any : (key : List ℕ) (rs : List Range) → IsOutOf key rs → list_any (in_range key) rs ≡ false
    none_any key [] o = refl
    none_any key (r ∷ rs) o = ap (λ (b : Bool). b || list_any (in_range key) rs) o.0 ∙ none_any key rs o.1

stays_safe : (s s' : State) (r : Range) (t : ℕ) → IsLawfulPart s.durable → IsLawfulPart s'.durable → CheckpointsStay s s' → first_below s r t ≡ None → first_below s' r t ≡ None
stays_safe s s' q t lawful now rise e =
    let ps = s.durable.parts in
    let qs = s'.durable.parts in
    let tiles = tiles_of s.durable lawful in
    let tiled = tiles_of s'.durable now in
    let none = none_mapped (λ (x : ℕ × (Range × ℕ)). (x.0, x.1.1)) (below_in s.streams q t 0 ps (part_ranges ps)) e in
    let was = safe_parts s.streams q t 0 ps (part_ranges ps) (as_many ps) none in
    ap (option_map (λ (x : ℕ × (Range × ℕ)). (x.0, x.1.1))) (parts_safe s'.streams q t 0 qs (part_ranges qs) (keys_safe s'.streams q t qs (part_ranges qs) (as_many qs) (λ key. tile_sole key (lows_of qs) tiled)
    (λ key w i.
    let a = key_safe s.streams q t key ps (part_ranges ps) w was (tiles_have key (lows_of ps) tiles) (as_many ps) in
    let b : checkpoint_for s key ≡ checkpoint_in s.streams ps (part_ranges ps) key = checkpoint_is s.streams ps (part_ranges ps) key in
    let c : checkpoint_for s' key ≡ checkpoint_in s'.streams qs (part_ranges qs) key = checkpoint_is s'.streams qs (part_ranges qs) key in
    let g = rise key in omega (arith, a, b, c, g))))

pub nothing_falls : NothingFalls
nothing_falls = record {
  checkpoints = record {
    step = λ f fs s s' c a good n step. rises_step f fs s s' c a (refused s c) good n refl step;
    fault = λ f fs s s' c r good failed why e. fault_rises f fs s s' c r good (fault_keeps f fs s s' c r good failed why e).0 e;
  };
  minimum = minimum_never_falls;
  opens = λ d hs. tt;
  safe = stays_safe;
}
