-- While a job is open other commands leave its inputs on the shelf, and so what it will make and what it has made.
use Rattle.std.proofs.Common.{List, [], ap, ap₂, drop, false, inl, inr, length, refl, subst, sym, take, take-add, ℕ, ◌+◌, ◌++◌, ◌∙◌, ◌∷◌, ◌≡◌}
use Rattle.std.specs.Prelude.{IfSome, IfSome, IsSome, IsTrue, None, Option, Some, filter, flat_map, is_some, map, sum, ◌&&◌, ◌-◌}
use Rattle.std.specs.List.{AllByRecursion, list_all}
use Rattle.std.proofs.lemmas.Bool.{and_from, and_parts, false≢true}
use Rattle.std.proofs.lemmas.List.{length-append, map-append}
use Rattle.lt_terms.specs.declared.Extent.{Extent}
use Rattle.lt_storage.specs.Bundle.{grouped}
use Rattle.lt_world.specs.Feed.{Feed}
use Rattle.lt_terms.specs.Layout.{Leaf}
use Rattle.lt_terms.specs.Log.{Change, Header, Item}
use Rattle.lt_machine.specs.Machine.{Answer, Does, Job, State, Step, StepBy, cat_of, flush_id, flushed_lists, job_after, not_empty, output_id, pending_of, refused, table_numbers, with_delta}
use Rattle.lt_machine.specs.Outside.{AreBesides, AreMade, MadeStand, bundles_after, bundles_made, bundles_under, bytes_of_bundle, input_keys, job_bundles, made_of, tables_after}
use Rattle.lt_words.specs.Reply.{Refusal}
use Rattle.lt_machine.specs.Run.{AfterFault}
use Rattle.lt_tables.specs.Schema.{Catalogue, carriers}
use Rattle.lt_tables.specs.Query.{Command, do_compact, do_deltas, do_flush, do_job_begin, do_job_drop, do_job_finish, do_job_step, do_page, do_pump, do_reopen, do_retain, do_retire, do_scan, do_schema, do_split, do_status}
use Rattle.lt_machine.specs.Sound.{IsGood, Session, JobBegan, JobStands, source_of}
use Rattle.lt_world.specs.Extents.{apart, are_apart}
use Rattle.lt_storage.specs.Store.{Delta, Durable, Placing, carried_versions, delta_with, deltas_of, extents_of}
use Rattle.lt_tables.specs.Version.{RowVersion, clip, merge}
use Rattle.lt_session_laws.proofs.CompactLaws.{no_job}
use Rattle.lt_laws.proofs.ShelfGrowth.{named_stay}
use Rattle.lt_session_laws.proofs.StepLaws.{unrefused}
use Rattle.lt_steps.proofs.TookLaws.{took_some}
use Rattle.lt_steps.specs.Jobs.{JobStays, MadeExtents, StaysOpen, keeps_job}

-- ---- what a job makes goes by its inputs alone

abbrev merged_with : Job → List Delta → ℕ → List RowVersion
merged_with j ds n = clip j.range (merge (map (carried_versions j.catalogue n) ds))

abbrev bundles_with : Job → List Delta → List (List Leaf × List RowVersion)
bundles_with j ds = flat_map (λ t. bundles_under (carriers j.catalogue t.0) t.1) (filter not_empty (map (λ n. let x : ℕ × List RowVersion = (n, made_of j (merged_with j ds n)) in x) (table_numbers j.catalogue)))

bundles_are : (s : State) (j : Job) → job_bundles s j ≡ bundles_with j (deltas_of s.durable.shelf j.inputs)
bundles_are s j = refl

abbrev keys_with : Job → List Delta → ℕ
keys_with j ds = sum (map (λ n. length (grouped (merged_with j ds n))) (table_numbers j.catalogue))

made_with : Job → List Delta → List ℕ → ℕ → List (List Leaf × List RowVersion)
made_with j ds [] n = []
made_with j ds (t ∷ ts) n = map (λ b. (carriers j.catalogue t, b)) (bundles_after (carriers j.catalogue t) j (grouped (merged_with j ds t)) n) ++ made_with j ds ts (n - length (grouped (merged_with j ds t)))

made_are : (shelf : List Delta) (j : Job) (ts : List ℕ) (n : ℕ) → tables_after shelf j ts n ≡ made_with j (deltas_of shelf j.inputs) ts n
unfolding made_with
made_are shelf j [] n = refl
made_are shelf j (t ∷ ts) n = ap (λ (xs : List (List Leaf × List RowVersion)). map (λ b. let x : List Leaf × List RowVersion = (carriers j.catalogue t, b) in x) (bundles_after (carriers j.catalogue t) j (input_keys shelf j t) n) ++ xs) (made_are shelf j ts (n - length (input_keys shelf j t)))

-- ---- the inputs stay on the shelf

-- what another command leaves of an open job
record Stayed (s s' : State) (j : Job) : Type 0 where
  taken : ℕ
  still : s'.job ≡ Some (record j { taken = taken })
  inputs : deltas_of s'.durable.shelf j.inputs ≡ deltas_of s.durable.shelf j.inputs

unchanged : (s s' : State) (j : Job) → s.job ≡ Some j → s'.job ≡ s.job → s'.durable.shelf ≡ s.durable.shelf → Stayed s s' j
unchanged s s' j e job shelf = record { taken = j.taken; still = job ∙ e; inputs = ap (λ (ds : List Delta). deltas_of ds j.inputs) shelf }

added_by : (o : Option ℕ) (cat : Catalogue) (lists : List (ℕ × List RowVersion)) (d : Durable) (ids : List ℕ) → AllByRecursion (λ i. IsTrue (is_some (delta_with d.shelf i))) ids → deltas_of (with_delta o cat lists d).shelf ids ≡ deltas_of d.shelf ids
added_by None cat lists d ids a = refl
added_by (Some id) cat lists d ids a = named_stay d.shelf _ ids a

began : (f : Feed) (fs : List (Header × List Item)) (s : State) (j : Job) → IsGood f s fs → s.job ≡ Some j → JobStands s.durable j × JobBegan s.durable j
began f fs s j good e = subst (λ (o : Option Job). IfSome o (λ j. JobStands s.durable j × JobBegan s.durable j)) e good.ready.job

stayed_by : (f : Feed) (fs : List (Header × List Item)) (s s' : State) (j : Job) (c : Command) (a : Answer) → IsGood f s fs → s.job ≡ Some j → IsTrue (keeps_job c) → refused s c ≡ None → Does f (source_of fs) s c a s' → Stayed s s' j
stayed_by f fs s s' j (do_schema t) a good e k free d = unchanged s s' j e (ap (λ (x : State). x.job) d.3) (ap (λ (x : State). x.durable.shelf) d.3)
stayed_by f fs s s' j (do_retire t v) a good e k free d = unchanged s s' j e (ap (λ (x : State). x.job) d.3) (ap (λ (x : State). x.durable.shelf) d.3)
stayed_by f fs s s' j (do_pump n m) a good e k free d = unchanged s s' j e (ap (λ (x : State). x.job) d.6) (ap (λ (x : State). x.durable.shelf) d.6)
stayed_by f fs s s' j (do_flush p) a good e k free d = record {
  taken = j.taken;
  still = ap (λ (x : State). x.job) d.1 ∙ e;
  inputs = ap (λ (x : State). deltas_of x.durable.shelf j.inputs) d.1 ∙ added_by (flush_id s p) (cat_of s) (flushed_lists (source_of fs) (cat_of s) (pending_of s p)) s.durable j.inputs (began f fs s j good e).1.shelved;
}
stayed_by f fs s s' j (do_compact p m) a good e k free d = let n : None ≡ Some j = sym (no_job s s.job refl (unrefused s (do_compact p m) free).alone) ∙ e in absurd cc
stayed_by f fs s s' j (do_job_begin p m) a good e k free d = absurd (false≢true k)
stayed_by f fs s s' j (do_job_step n) a good e k free d =
    let same : Some d.0 ≡ Some j = sym d.1 ∙ e in
    let is : d.0 ≡ j = cc in record {
      taken = (job_after s n j).taken;
      still = ap (λ (x : State). x.job) d.3 ∙ ap (λ (x : Job). Some (job_after s n x)) is;
      inputs = ap (λ (x : State). deltas_of x.durable.shelf j.inputs) d.3;
    }
stayed_by f fs s s' j do_job_finish a good e k free d = absurd (false≢true k)
stayed_by f fs s s' j do_job_drop a good e k free d = absurd (false≢true k)
stayed_by f fs s s' j (do_split t ls) a good e k free d = unchanged s s' j e (ap (λ (x : State). x.job) d.3) (ap (λ (x : State). x.durable.shelf) d.3)
stayed_by f fs s s' j (do_retain t) a good e k free d = unchanged s s' j e (ap (λ (x : State). x.job) d.1) (ap (λ (x : State). x.durable.shelf) d.1)
stayed_by f fs s s' j (do_scan q) a good e k free d = unchanged s s' j e (ap (λ (x : State). x.job) d.2) (ap (λ (x : State). x.durable.shelf) d.2)
stayed_by f fs s s' j (do_page q) a good e k free d = unchanged s s' j e (ap (λ (x : State). x.job) d.2) (ap (λ (x : State). x.durable.shelf) d.2)
stayed_by f fs s s' j do_status a good e k free d = unchanged s s' j e (ap (λ (x : State). x.job) d.1) (ap (λ (x : State). x.durable.shelf) d.1)
stayed_by f fs s s' j (do_deltas p) a good e k free d = unchanged s s' j e (ap (λ (x : State). x.job) d.1) (ap (λ (x : State). x.durable.shelf) d.1)
stayed_by f fs s s' j do_reopen a good e k free d = absurd (false≢true k)

stayed : (f : Feed) (fs : List (Header × List Item)) (s s' : State) (j : Job) (c : Command) (a : Answer) (o : Option Refusal) → IsGood f s fs → s.job ≡ Some j → IsTrue (keeps_job c) → refused s c ≡ o → StepBy o f (source_of fs) s c a s' → Stayed s s' j
stayed f fs s s' j c a (Some r) good e k free step = unchanged s s' j e (ap (λ (x : State). x.job) step.1) (ap (λ (x : State). x.durable.shelf) step.1)
stayed f fs s s' j c a None good e k free d = stayed_by f fs s s' j c a good e k free d

bundles_same : (s s' : State) (j : Job) (n : ℕ) → deltas_of s'.durable.shelf j.inputs ≡ deltas_of s.durable.shelf j.inputs → job_bundles s' (record j { taken = n }) ≡ job_bundles s j
bundles_same s s' j n e = ap (bundles_with j) e

stays_open : (s s' : State) (j : Job) → Stayed s s' j → StaysOpen s s' j
stays_open s s' j h = record {
  taken = h.taken;
  open_still = h.still;
  keys = ap (keys_with j) h.inputs;
  output = bundles_same s s' j h.taken h.inputs;
  made = λ n. made_are s'.durable.shelf (record j { taken = n }) (table_numbers j.catalogue) n ∙ ap (λ (ds : List Delta). made_with (record j { taken = n }) ds (table_numbers j.catalogue) n) h.inputs ∙ sym (made_are s.durable.shelf (record j { taken = n }) (table_numbers j.catalogue) n);
}

-- ---- what stands for it

-- where there is no job there is none after
none_by : (f : Feed) (source : List Change) (s s' : State) (c : Command) (a : Answer) → s.job ≡ None → IsTrue (keeps_job c) → refused s c ≡ None → Does f source s c a s' → s'.job ≡ None
none_by f source s s' (do_schema t) a e k free d = ap (λ (x : State). x.job) d.3 ∙ e
none_by f source s s' (do_retire t v) a e k free d = ap (λ (x : State). x.job) d.3 ∙ e
none_by f source s s' (do_pump n m) a e k free d = ap (λ (x : State). x.job) d.6 ∙ e
none_by f source s s' (do_flush p) a e k free d = ap (λ (x : State). x.job) d.1 ∙ e
none_by f source s s' (do_compact p m) a e k free d = ap (λ (x : State). x.job) d.3 ∙ e
none_by f source s s' (do_job_begin p m) a e k free d = absurd (false≢true k)
none_by f source s s' (do_job_step n) a e k free d = let x : Some d.0 ≡ None = sym d.1 ∙ e in absurd cc
none_by f source s s' do_job_finish a e k free d = absurd (false≢true k)
none_by f source s s' do_job_drop a e k free d = absurd (false≢true k)
none_by f source s s' (do_split t ls) a e k free d = ap (λ (x : State). x.job) d.3 ∙ e
none_by f source s s' (do_retain t) a e k free d = ap (λ (x : State). x.job) d.1 ∙ e
none_by f source s s' (do_scan q) a e k free d = ap (λ (x : State). x.job) d.2 ∙ e
none_by f source s s' (do_page q) a e k free d = ap (λ (x : State). x.job) d.2 ∙ e
none_by f source s s' do_status a e k free d = ap (λ (x : State). x.job) d.1 ∙ e
none_by f source s s' (do_deltas p) a e k free d = ap (λ (x : State). x.job) d.1 ∙ e
none_by f source s s' do_reopen a e k free d = absurd (false≢true k)

none_after : (f : Feed) (source : List Change) (s s' : State) (c : Command) (a : Answer) (o : Option Refusal) → s.job ≡ None → IsTrue (keeps_job c) → refused s c ≡ o → StepBy o f source s c a s' → s'.job ≡ None
none_after f source s s' c a (Some r) e k free step = ap (λ (x : State). x.job) step.1 ∙ e
none_after f source s s' c a None e k free d = none_by f source s s' c a e k free d

-- what is said of a job's bundles, of none where there is none
abbrev GoesByBundles : (Option Job → State → Type 0) → Type 0
GoesByBundles P = ((s s' : State) → P None s → P None s') × ((s s' : State) (j k : Job) → job_bundles s' k ≡ job_bundles s j → P (Some j) s → P (Some k) s')

passes_by : (P : Option Job → State → Type 0) (f : Feed) (fs : List (Header × List Item)) (s s' : State) (c : Command) (a : Answer) (o : Option Job) → GoesByBundles P → s.job ≡ o → IsGood f s fs → IsTrue (keeps_job c) → Step f (source_of fs) s c a s' → P o s → P s'.job s'
passes_by P f fs s s' c a None g e good k step h = subst (λ (o : Option Job). P o s') (sym (none_after f (source_of fs) s s' c a (refused s c) e k refl step)) (g.0 s s' h)
passes_by P f fs s s' c a (Some j) g e good k step h =
    let t = stays_open s s' j (stayed f fs s s' j c a (refused s c) good e k refl step) in
    subst (λ (o : Option Job). P o s') (sym t.open_still) (g.1 s s' j (record j { taken = t.taken }) t.output h)

extents_go : (made : List Extent) → GoesByBundles (λ o s. MadeExtents o s made)
extents_go made = ((λ s s' h. h), (λ s s' j k e h. h ∙ ap (λ (bs : List (List Leaf × List RowVersion)). map (λ b. length (bytes_of_bundle b)) (take (length made) bs)) (sym e)))

stand_go : (made : List Extent) (image : List ℕ) → GoesByBundles (λ o s. MadeStand o s made image)
stand_go made image = ((λ s s' h. h), (λ s s' j k e h. h ∙ ap (λ (bs : List (List Leaf × List RowVersion)). map bytes_of_bundle (take (length made) bs)) (sym e)))

-- ---- what is live besides

-- none of these commands changes what a failed one would have left, or the limit
record Besides (s s' : State) : Type 0 where
  broken : s'.broken ≡ s.broken
  limit : s'.durable.limit ≡ s.durable.limit

limit_with : (o : Option ℕ) (cat : Catalogue) (lists : List (ℕ × List RowVersion)) (d : Durable) → (with_delta o cat lists d).limit ≡ d.limit
limit_with None cat lists d = refl
limit_with (Some id) cat lists d = refl

besides_by : (f : Feed) (source : List Change) (s s' : State) (c : Command) (a : Answer) → IsTrue (keeps_job c) → Does f source s c a s' → Besides s s'
besides_by f source s s' (do_schema t) a k d = record { broken = ap (λ (x : State). x.broken) d.3; limit = ap (λ (x : State). x.durable.limit) d.3 }
besides_by f source s s' (do_retire t v) a k d = record { broken = ap (λ (x : State). x.broken) d.3; limit = ap (λ (x : State). x.durable.limit) d.3 }
besides_by f source s s' (do_pump n m) a k d = record { broken = ap (λ (x : State). x.broken) d.6; limit = ap (λ (x : State). x.durable.limit) d.6 }
besides_by f source s s' (do_flush p) a k d = record { broken = ap (λ (x : State). x.broken) d.1; limit = ap (λ (x : State). x.durable.limit) d.1 ∙ limit_with (flush_id s p) (cat_of s) (flushed_lists source (cat_of s) (pending_of s p)) s.durable }
besides_by f source s s' (do_compact p m) a k d = record { broken = ap (λ (x : State). x.broken) d.3; limit = ap (λ (x : State). x.durable.limit) d.3 ∙ limit_with (output_id s.durable d.0) d.0.catalogue _ s.durable }
besides_by f source s s' (do_job_begin p m) a k d = absurd (false≢true k)
besides_by f source s s' (do_job_step n) a k d = record { broken = ap (λ (x : State). x.broken) d.3; limit = ap (λ (x : State). x.durable.limit) d.3 }
besides_by f source s s' do_job_finish a k d = absurd (false≢true k)
besides_by f source s s' do_job_drop a k d = absurd (false≢true k)
besides_by f source s s' (do_split t ls) a k d = record { broken = ap (λ (x : State). x.broken) d.3; limit = ap (λ (x : State). x.durable.limit) d.3 }
besides_by f source s s' (do_retain t) a k d = record { broken = ap (λ (x : State). x.broken) d.1; limit = ap (λ (x : State). x.durable.limit) d.1 }
besides_by f source s s' (do_scan q) a k d = record { broken = ap (λ (x : State). x.broken) d.2; limit = ap (λ (x : State). x.durable.limit) d.2 }
besides_by f source s s' (do_page q) a k d = record { broken = ap (λ (x : State). x.broken) d.2; limit = ap (λ (x : State). x.durable.limit) d.2 }
besides_by f source s s' do_status a k d = record { broken = ap (λ (x : State). x.broken) d.1; limit = ap (λ (x : State). x.durable.limit) d.1 }
besides_by f source s s' (do_deltas p) a k d = record { broken = ap (λ (x : State). x.broken) d.1; limit = ap (λ (x : State). x.durable.limit) d.1 }
besides_by f source s s' do_reopen a k d = absurd (false≢true k)

besides_step : (f : Feed) (source : List Change) (s s' : State) (c : Command) (a : Answer) (o : Option Refusal) → IsTrue (keeps_job c) → StepBy o f source s c a s' → Besides s s'
besides_step f source s s' c a (Some r) k step = record { broken = ap (λ (x : State). x.broken) step.1; limit = ap (λ (x : State). x.durable.limit) step.1 }
besides_step f source s s' c a None k d = besides_by f source s s' c a k d

-- what is made of the same job stays as many as its keys complete
pub made_stays : (f : Feed) (fs : List (Header × List Item)) (s s' : State) (c : Command) (a : Answer) (made : List Extent) (o : Option Job) → s.job ≡ o → IsGood f s fs → IsTrue (keeps_job c) → s'.job ≡ s.job → Step f (source_of fs) s c a s' → AreMade o s made → AreMade s'.job s' made
made_stays f fs s s' c a made None e good k same step h = subst (λ (o : Option Job). AreMade o s' made) (sym (same ∙ e)) h
made_stays f fs s s' c a made (Some j) e good k same step h =
    let t = stays_open s s' j (stayed f fs s s' j c a (refused s c) good e k refl step) in
    subst (λ (o : Option Job). AreMade o s' made) (sym (same ∙ e)) (h ∙ ap (map (λ (b : List Leaf × List RowVersion). length (bytes_of_bundle b))) (sym (t.made j.taken)))

failed_stays : (x y : Session) → y.failed ≡ x.failed → y.state.broken ≡ x.state.broken → IfSome x.failed (λ l. IsSome x.state.broken) → IfSome y.failed (λ l. IsSome y.state.broken)
failed_stays x y e b h = subst (λ (o : Option Placing). IfSome o (λ l. IsSome y.state.broken)) (sym e) (subst (λ (o : Option Durable). IfSome x.failed (λ l. IsSome o)) (sym b) h)

still_besides : (f : Feed) (fs : List (Header × List Item)) (x y : Session) (c : Command) (a : Answer) → IsGood f x.state fs → IsTrue (keeps_job c) → y.state.job ≡ x.state.job → Step f (source_of fs) x.state c a y.state
    → y.failed ≡ x.failed → y.made ≡ x.made → AreBesides x → IsTrue (list_all (λ e. list_all (apart e) (extents_of y.placing)) y.made) → AreBesides y
still_besides f fs x y c a good k same step failed made b free =
    let k' = besides_step f (source_of fs) x.state y.state c a (refused x.state c) k step in record {
      of_failed = failed_stays x y failed k'.broken b.of_failed;
      of_job = subst (AreMade y.state.job y.state) (sym made) (made_stays f fs x.state y.state c a x.made x.state.job refl good k same step b.of_job);
      apart = and_from _ _ (ap₂ (λ (n : ℕ) (es : List Extent). are_apart n es) k'.limit made ∙ (and_parts (are_apart x.state.durable.limit x.made) _ b.apart).0) free;
    }

-- ---- beginnings and ends

no_job_left : (s : State) → s.job ≡ None → MadeExtents s.job s [] × ((image : List ℕ) → MadeStand s.job s [] image)
no_job_left s e = (subst (λ (o : Option Job). MadeExtents o s []) (sym e) refl, (λ image. subst (λ (o : Option Job). MadeStand o s [] image) (sym e) refl))

new_job : (s : State) (j : Job) → s.job ≡ Some j → MadeExtents s.job s [] × ((image : List ℕ) → MadeStand s.job s [] image)
new_job s j e = (subst (λ (o : Option Job). MadeExtents o s []) (sym e) refl, (λ image. subst (λ (o : Option Job). MadeStand o s [] image) (sym e) refl))

begins_by : (f : Feed) (source : List Change) (s s' : State) (c : Command) (a : Answer) → keeps_job c ≡ false → Does f source s c a s' → MadeExtents s'.job s' [] × ((image : List ℕ) → MadeStand s'.job s' [] image)
begins_by f source s s' (do_schema t) a k d = absurd (false≢true (sym k))
begins_by f source s s' (do_retire t v) a k d = absurd (false≢true (sym k))
begins_by f source s s' (do_pump n m) a k d = absurd (false≢true (sym k))
begins_by f source s s' (do_flush p) a k d = absurd (false≢true (sym k))
begins_by f source s s' (do_compact p m) a k d = absurd (false≢true (sym k))
begins_by f source s s' (do_job_begin p m) a k d = new_job s' d.0 (ap (λ (x : State). x.job) d.3)
begins_by f source s s' (do_job_step n) a k d = absurd (false≢true (sym k))
begins_by f source s s' do_job_finish a k d = no_job_left s' (ap (λ (x : State). x.job) d.3)
begins_by f source s s' do_job_drop a k d = no_job_left s' (ap (λ (x : State). x.job) d.1)
begins_by f source s s' (do_split t ls) a k d = absurd (false≢true (sym k))
begins_by f source s s' (do_retain t) a k d = absurd (false≢true (sym k))
begins_by f source s s' (do_scan q) a k d = absurd (false≢true (sym k))
begins_by f source s s' (do_page q) a k d = absurd (false≢true (sym k))
begins_by f source s s' do_status a k d = absurd (false≢true (sym k))
begins_by f source s s' (do_deltas p) a k d = absurd (false≢true (sym k))
begins_by f source s s' do_reopen a k d = no_job_left s' (ap (λ (x : State). x.job) d.3)

-- ---- a step's further bundles

take_more : {A : Type 0} (n m : ℕ) (xs : List A) → take (n + m) xs ≡ take n xs ++ take m (drop n xs)
take_more n m xs = take-add n m xs

made_more : (s : State) (j : Job) (made es : List Extent) → MadeExtents (Some j) s made → map (λ e. e.length) es ≡ map (λ b. length (bytes_of_bundle b)) (take (length es) (drop (length made) (job_bundles s j))) → MadeExtents (Some j) s (made ++ es)
made_more s j made es a b =
    let bs = job_bundles s j in
    let len = λ (x : List Leaf × List RowVersion). length (bytes_of_bundle x) in
    map-append (λ (e : Extent). e.length) made es ∙ ap (λ (ns : List ℕ). ns ++ map (λ (e : Extent). e.length) es) a ∙ ap (λ (ns : List ℕ). map len (take (length made) bs) ++ ns) b
    ∙ sym (map-append len (take (length made) bs) (take (length es) (drop (length made) bs))) ∙ ap (map len) (sym (take_more (length made) (length es) bs) ∙ ap (λ (n : ℕ). take n bs) (sym (length-append made es)))

-- ---- faults

-- a fault leaves the job and the shelf as they were
pub record SameJob (s s' : State) : Type 0 where
  pub job : s'.job ≡ s.job
  pub durable : s'.durable ≡ s.durable

pub same_job : (f : Feed) (source : List Change) (s s' : State) (c : Command) (r : Refusal) → AfterFault f source s c r s' → SameJob s s'
same_job f source s s' c r (inl e) = record { job = ap (λ (x : State). x.job) e; durable = ap (λ (x : State). x.durable) e }
same_job f source s s' c r (inr (inl t)) = let k = took_some f s s' c t.1 in record { job = k.job; durable = k.durable }
same_job f source s s' c r (inr (inr w)) = record { job = ap (λ (x : State). x.job) w.1.2; durable = ap (λ (x : State). x.durable) w.1.2 }

fault_goes : (P : Option Job → State → Type 0) (s s' : State) (o : Option Job) → GoesByBundles P → s.job ≡ o → SameJob s s' → P o s → P s'.job s'
fault_goes P s s' None g e k h = subst (λ (o : Option Job). P o s') (sym (k.job ∙ e)) (g.0 s s' h)
fault_goes P s s' (Some j) g e k h = subst (λ (o : Option Job). P o s') (sym (k.job ∙ e)) (g.1 s s' j j (ap (λ (d : Durable). bundles_with j (deltas_of d.shelf j.inputs)) k.durable) h)

-- a fault leaves what is made
pub made_faults : (s s' : State) (made : List Extent) (o : Option Job) → s.job ≡ o → SameJob s s' → AreMade o s made → AreMade s'.job s' made
made_faults s s' made None e k h = subst (λ (o : Option Job). AreMade o s' made) (sym (k.job ∙ e)) h
made_faults s s' made (Some j) e k h =
    subst (λ (o : Option Job). AreMade o s' made) (sym (k.job ∙ e)) (h ∙ ap (λ (d : Durable). map (λ (b : List Leaf × List RowVersion). length (bytes_of_bundle b)) (bundles_made d.shelf j)) (sym k.durable))

fault_besides : (x y : Session) → SameJob x.state y.state → y.placing ≡ x.placing → y.made ≡ x.made → AreBesides x → IfSome y.failed (λ l. IsSome y.state.broken) → AreBesides y
fault_besides x y k place made b live = record {
  of_failed = live;
  of_job = subst (AreMade y.state.job y.state) (sym made) (made_faults x.state y.state x.made x.state.job refl k b.of_job);
  apart = subst (λ (es : List Extent). IsTrue (are_apart y.state.durable.limit es && list_all (λ e. list_all (apart e) (extents_of y.placing)) es)) (sym made)
      (subst (λ (l : Placing). IsTrue (are_apart y.state.durable.limit x.made && list_all (λ e. list_all (apart e) (extents_of l)) x.made)) (sym place)
      (subst (λ (d : Durable). IsTrue (are_apart d.limit x.made && list_all (λ e. list_all (apart e) (extents_of x.placing)) x.made)) (sym k.durable) b.apart));
}

pub job_stays : JobStays
job_stays = record {
  stays = λ f fs s s' j c a good e k step. stays_open s s' j (stayed f fs s s' j c a (refused s c) good e k refl step);
  extents = λ f fs s s' c a made good k step h. passes_by (λ o s. MadeExtents o s made) f fs s s' c a s.job (extents_go made) refl good k step h;
  stand = λ f fs s s' c a made image good k step h. passes_by (λ o s. MadeStand o s made image) f fs s s' c a s.job (stand_go made image) refl good k step h;
  besides = still_besides;
  faults = λ f source x y c r e place made b live. fault_besides x y (same_job f source x.state y.state c r e) place made b live;
  fault_stand = λ f source s s' c r made image e h. fault_goes (λ o s. MadeStand o s made image) s s' s.job (stand_go made image) refl (same_job f source s s' c r e) h;
  begins = begins_by;
  more = made_more;
}
