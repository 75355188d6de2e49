-- The extents of a job's bundles: as many as the keys that it has taken complete.
use Rattle.std.proofs.Common.{List, [], ap, ap₂, false, length, refl, subst, sym, ℕ, ◌++◌, ◌∙◌, ◌≡◌}
use Rattle.std.specs.Prelude.{None, Option, Some, map, take}
use Rattle.std.proofs.lemmas.Bool.{false≢true}
use Rattle.std.proofs.lemmas.List.{length-map, map-append}
use Rattle.lt_terms.specs.declared.Extent.{Extent}
use Rattle.lt_world.specs.Feed.{Feed}
use Rattle.lt_terms.specs.Layout.{Leaf}
use Rattle.lt_terms.specs.Log.{Change}
use Rattle.lt_machine.specs.Machine.{Answer, Does, Job, State, job_after}
use Rattle.lt_machine.specs.Outside.{AreMade, bundles_made, bytes_of_bundle, job_bundles, next_bundles}
use Rattle.lt_tables.specs.Query.{Command, do_compact, do_deltas, do_flush, do_job_begin, do_job_drop, do_job_finish, do_job_step, do_page, do_pump, do_reopen, do_retain, do_retire, do_scan, do_schema, do_split, do_status}
use Rattle.lt_storage.specs.Store.{Delta}
use Rattle.lt_tables.specs.Version.{RowVersion}
use Rattle.lt_session_laws.proofs.JobLaws.{part_job_is}
use Rattle.lt_steps.proofs.JobKept.{made_faults, made_stays, same_job}
use Rattle.lt_steps.proofs.JobMade.{job_makes}
use Rattle.lt_steps.specs.Jobs.{JobMadeExactly, MadeExtents, keeps_job}

abbrev bundle_length : List Leaf × List RowVersion → ℕ
bundle_length b = length (bytes_of_bundle b)

as_many_made : (s : State) (j : Job) (made : List Extent) → AreMade (Some j) s made → length made ≡ length (bundles_made s.durable.shelf j)
as_many_made s j made h = sym (length-map made (λ e. e.length)) ∙ ap length h ∙ length-map (bundles_made s.durable.shelf j) bundle_length

made_extents : (s : State) (o : Option Job) (made : List Extent) → AreMade o s made → MadeExtents o s made
made_extents s None made h = h
made_extents s (Some j) made h = h ∙ ap (map bundle_length) (job_makes.front s j ∙ ap (λ (n : ℕ). take n (job_bundles s j)) (sym (as_many_made s j made h)))

-- the job that stays is the same one
same_taken : (j k : Job) → Some k ≡ Some j → k ≡ j
same_taken j k e = cc

step_by : (f : Feed) (source : List Change) (s s' : State) (k : ℕ) (j : Job) (a : Answer) (made es : List Extent) → s.job ≡ Some j → Does f source s (do_job_step k) a s' → AreMade s.job s made → map (λ e. e.length) es ≡ map bundle_length (next_bundles s k j) → AreMade s'.job s' (made ++ es)
step_by f source s s' k j a made es e d h g =
    let is : d.0 ≡ j = same_taken j d.0 (sym d.1 ∙ e) in
    let now : s'.job ≡ Some (job_after s k j) = ap (λ (x : State). x.job) d.3 ∙ ap (λ (x : Job). Some (job_after s k x)) is in
    let shelf : s'.durable.shelf ≡ s.durable.shelf = ap (λ (x : State). x.durable.shelf) d.3 in
    let was : AreMade (Some j) s made = subst (λ (o : Option Job). AreMade o s made) e h in
    let whole : map (λ (e : Extent). e.length) (made ++ es) ≡ map bundle_length (bundles_made s.durable.shelf (job_after s k j))
    = map-append (λ (e : Extent). e.length) made es ∙ ap₂ (λ (xs ys : List ℕ). xs ++ ys) was g ∙ sym (map-append bundle_length (bundles_made s.durable.shelf j) (next_bundles s k j)) ∙ ap (map bundle_length) (sym (job_makes.steps s k j)) in
    subst (λ (o : Option Job). AreMade o s' (made ++ es)) (sym now) (whole ∙ ap (λ (xs : List Delta). map bundle_length (bundles_made xs (job_after s k j))) (sym shelf))

none_left : (s : State) → s.job ≡ None → AreMade s.job s []
none_left s e = subst (λ (o : Option Job). AreMade o s []) (sym e) refl

begun : (s s' : State) (j : Job) → s'.job ≡ Some j → j.taken ≡ 0 → AreMade s'.job s' []
begun s s' j e t = subst (λ (o : Option Job). AreMade o s' []) (sym e) (ap (map bundle_length) (sym (job_makes.begins s' j t)))

begins_by : (f : Feed) (source : List Change) (s s' : State) (c : Command) (a : Answer) → keeps_job c ≡ false → Does f source s c a s' → AreMade s'.job s' []
begins_by f source s s' (do_schema t) a k d = absurd (false≢true (sym k))
begins_by f source s s' (do_retire t v) a k d = absurd (false≢true (sym k))
begins_by f source s s' (do_pump n m) a k d = absurd (false≢true (sym k))
begins_by f source s s' (do_flush p) a k d = absurd (false≢true (sym k))
begins_by f source s s' (do_compact p m) a k d = absurd (false≢true (sym k))
begins_by f source s s' (do_job_begin p m) a k d =
    let g = part_job_is s.durable p m _ _ d.0 refl refl d.1 in
    begun s s' d.0 (ap (λ (x : State). x.job) d.3) (ap (λ (x : Job). x.taken) (sym g.4))
begins_by f source s s' (do_job_step n) a k d = absurd (false≢true (sym k))
begins_by f source s s' do_job_finish a k d = none_left s' (ap (λ (x : State). x.job) d.3)
begins_by f source s s' do_job_drop a k d = none_left s' (ap (λ (x : State). x.job) d.1)
begins_by f source s s' (do_split t ls) a k d = absurd (false≢true (sym k))
begins_by f source s s' (do_retain t) a k d = absurd (false≢true (sym k))
begins_by f source s s' (do_scan q) a k d = absurd (false≢true (sym k))
begins_by f source s s' (do_page q) a k d = absurd (false≢true (sym k))
begins_by f source s s' do_status a k d = absurd (false≢true (sym k))
begins_by f source s s' (do_deltas p) a k d = absurd (false≢true (sym k))
begins_by f source s s' do_reopen a k d = none_left s' (ap (λ (x : State). x.job) d.3)

pub job_made_exactly : JobMadeExactly
job_made_exactly = record {
  extents = λ s made h. made_extents s s.job made h;
  many = as_many_made;
  stays = λ f fs s s' c a made good k same step h. made_stays f fs s s' c a made s.job refl good k same step h;
  steps = step_by;
  faults = λ f source s s' c r made e h. made_faults s s' made s.job refl (same_job f source s s' c r e) h;
  begins = begins_by;
  done = λ s j made h e. h ∙ ap (map bundle_length) (job_makes.done s j e);
}
