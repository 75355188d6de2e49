-- Images beside a session stay sound and honest.
use Rattle.std.proofs.Common.{List, [], ap, append-nil, append_assoc, false, inl, inr, refl, subst, sym, true, ℕ, ◌++◌, ◌∷◌, ◌∙◌, ◌≡◌}
use Rattle.std.specs.Prelude.{IfSome, IsSome, IsTrue, None, Option, Some, is_some, length, nat_le, unwrap_or, ◌⊎◌}
use Rattle.std.specs.Option.{option_map_or}
use Rattle.std.proofs.lemmas.Bool.{and_from, and_parts, false≢true, or_cases}
use Rattle.lt_terms.specs.declared.Extent.{Extent}
use Rattle.lt_world.specs.Feed.{Feed}
use Rattle.lt_terms.specs.Log.{Change, Header, Item}
use Rattle.lt_machine.specs.Machine.{Answer, Does, Job, State, Step, StepBy, is_broken, is_reopen, is_write, refused}
use Rattle.lt_world.specs.Slots.{HasRoot}
use Rattle.lt_machine.specs.Outside.{BelongsTo, HoldsEither, LeavesSession, MadeStand, StandsOn, is_commit, live_extents}
use Rattle.lt_words.specs.Reply.{Refusal, out_of_memory}
use Rattle.lt_machine.specs.Run.{AfterFault, WouldLeave}
use Rattle.lt_tables.specs.Query.{Command, do_compact, do_deltas, do_flush, do_job_begin, do_job_drop, do_job_finish, do_job_step, do_page, do_pump, do_reopen, do_retain, do_retire, do_scan, do_schema, do_split, do_status}
use Rattle.lt_machine.specs.Sound.{FailedIsSound, IsGood, IsSound, IsSoundFor, LeavesPart, Session, source_of}
use Rattle.lt_world.specs.Extents.{end_of}
use Rattle.lt_storage.specs.Store.{Durable, HasPlaced, Holds, Placing, are_within, extents_of}
use Rattle.lt_session_laws.proofs.AllSteps.{step_keeps}
use Rattle.lt_laws.proofs.FrontStands.{sound_grows}
use Rattle.lt_steps.proofs.JobKept.{job_stays}
use Rattle.lt_session_laws.proofs.FaultLaws.{disk_unrefused}
use Rattle.lt_steps.proofs.RisingLaws.{unbroken}
use Rattle.lt_steps.proofs.TookLaws.{took_some}
use Rattle.lt_steps.specs.Images.{HasEither, ImagesStay, StandsWhole}
use Rattle.lt_steps.specs.Jobs.{keeps_job}

-- ---- sound images

whole_sound : (f : Feed) (d : Durable) (image : List ℕ) → IsSoundFor f d → StandsWhole image d → IsSound image f
whole_sound f d image sound h = record { durable = d; placing = h.0; holds = h.1; within = h.2; fronts = sound.1.0; are_fronts = sound.1.1; sound = sound.1.2 }

either_sound : (f : Feed) (fs : List (Header × List Item)) (s : State) (image : List ℕ) → IsGood f s fs → FailedIsSound f s → HasEither s image → IsSound image f
either_sound f fs s image good failed (inl h) = whole_sound f s.durable image (good.lawful, (fs, good.fronts, good.sound)) h
either_sound f fs s image good failed (inr h) = whole_sound f h.0 image (subst (λ (o : Option Durable). IfSome o (IsSoundFor f)) h.1 failed) h.2

either_part : (s : State) (image : List ℕ) → HasEither s image → LeavesPart s image
either_part s image (inl h) = inl (h.0, h.1)
either_part s image (inr h) = inr (h.0, h.1, (h.2.0, h.2.1))

crash_by : (f : Feed) (x y : Session) (c : Command) (a : Answer) (image : List ℕ) (b : BelongsTo f x.state x.memory) → FailedIsSound f x.state → Step f (source_of b.0) x.state c a y.state
    → HasEither x.state image ⊎ HasEither y.state image → LeavesSession f x image ⊎ LeavesSession f y image
crash_by f x y c a image b failed step (inl h) = inl (either_sound f b.0 x.state image b.1 failed h, either_part x.state image h)
crash_by f x y c a image b failed step (inr h) =
    let k = step_keeps c f b.0 x.state y.state a b.1 failed step in
    inr (either_sound f k.0.0 y.state image k.0.1 k.1 h, either_part y.state image h)

-- ---- a session on an image

-- a state with the same durable part and the same failed one
record SameStored (s s' : State) : Type 0 where
  durable : s'.durable ≡ s.durable
  broken : s'.broken ≡ s.broken

stored_as : (s s' : State) → s'.durable ≡ s.durable → s'.broken ≡ s.broken → SameStored s s'
stored_as s s' d b = record { durable = d; broken = b }

-- What an image may have stays: the parts and where they are placed, and if the session broke then nothing of a failed command is placed.
record SameStore (x y : Session) : Type 0 where
  durable : y.state.durable ≡ x.state.durable
  placing : y.placing ≡ x.placing
  failed : y.failed ≡ x.failed
  broken : (y.state.broken ≡ x.state.broken) ⊎ (x.failed ≡ None)
  whole : is_broken y.state ≡ false → is_broken x.state ≡ false

store_as : (x y : Session) → SameStored x.state y.state → y.placing ≡ x.placing → y.failed ≡ x.failed → SameStore x y
store_as x y k p f = record { durable = k.durable; placing = p; failed = f; broken = inl k.broken; whole = λ w. ap (λ (o : Option Durable). is_some o) (sym k.broken) ∙ w }

part_stays : (x y : Session) (image : List ℕ) → SameStore x y → HoldsEither x image → HoldsEither y image
part_stays x y image k (inl h) = inl (subst (Holds image) (sym k.durable) h)
part_stays x y image k (inr h) = by_reason k.broken
  where
    by_reason : (y.state.broken ≡ x.state.broken) ⊎ (x.failed ≡ None) → HoldsEither y image
    by_reason (inl e) = inr (h.0, h.1, e ∙ h.2, k.failed ∙ h.3, h.4)
    by_reason (inr n) = let z : None ≡ Some h.1 = sym n ∙ h.3 in absurd cc

abbrev FailedStands : Option Placing → Option Durable → List ℕ → Type 0
FailedStands o b image = IfSome o (λ l. IfSome b (λ d. HasPlaced d l image))

failed_stays : (x y : Session) (image : List ℕ) → SameStore x y → FailedStands x.failed x.state.broken image → FailedStands y.failed y.state.broken image
failed_stays x y image k h = subst (λ (o : Option Placing). FailedStands o y.state.broken image) (sym k.failed) (by_reason k.broken)
  where
    by_reason : (y.state.broken ≡ x.state.broken) ⊎ (x.failed ≡ None) → FailedStands x.failed y.state.broken image
    by_reason (inl e) = subst (λ (b : Option Durable). FailedStands x.failed b image) (sym e) h
    by_reason (inr n) = subst (λ (o : Option Placing). FailedStands o y.state.broken image) (sym n) tt

stands_as : (f : Feed) (x y : Session) (image : List ℕ) → SameStore x y → MadeStand y.state.job y.state y.made image → IsTrue (are_within image (live_extents y)) → StandsOn f x image → StandsOn f y image
stands_as f x y image k stand within h = record {
  root = λ w. subst (λ (l : Placing). HasRoot l.root image) (sym k.placing) (h.root (k.whole w));
  honest = record {
    part = part_stays x y image k h.honest.part;
    sound = h.honest.sound;
    placed = subst (λ (l : Placing). HasPlaced y.state.durable l image) (sym k.placing) (subst (λ (d : Durable). HasPlaced d x.placing image) (sym k.durable) h.honest.placed);
    failed = failed_stays x y image k h.honest.failed;
    job = stand;
    within = within;
  };
}

front_within : (image : List ℕ) (xs ys : List Extent) → IsTrue (are_within image (xs ++ ys)) → IsTrue (are_within image xs)
front_within image [] ys h = refl
front_within image (x ∷ xs) ys h = let p = and_parts (nat_le (end_of x) (length image)) (are_within image (xs ++ ys)) h in and_from _ _ p.0 (front_within image xs ys p.1)

abbrev places_of : Placing → Option Placing → List Extent → List Extent
places_of l o made = extents_of l ++ (option_map_or extents_of o [] ++ made)

within_as : (x y : Session) (made : List Extent) (image : List ℕ) → y.placing ≡ x.placing → y.failed ≡ x.failed → y.made ≡ made → IsTrue (are_within image (places_of x.placing x.failed made)) → IsTrue (are_within image (live_extents y))
within_as x y made image p e m h =
    subst (λ (es : List Extent). IsTrue (are_within image (places_of y.placing y.failed es))) (sym m)
    (subst (λ (o : Option Placing). IsTrue (are_within image (places_of y.placing o made))) (sym e) (subst (λ (l : Placing). IsTrue (are_within image (places_of l x.failed made))) (sym p) h))

unmade : (l : Placing) (o : Option Placing) (made : List Extent) (image : List ℕ) → IsTrue (are_within image (places_of l o made)) → IsTrue (are_within image (places_of l o []))
unmade l o made image h =
    let xs = extents_of l in
    let ys = option_map_or extents_of o [] in
    subst (λ (es : List Extent). IsTrue (are_within image (xs ++ es))) (sym (append-nil ys)) (front_within image (xs ++ ys) made (subst (λ (es : List Extent). IsTrue (are_within image es)) (sym (append_assoc xs ys made)) h))

-- the same job's bundles
stands_same : (f : Feed) (x y : Session) (image : List ℕ) → SameStore x y → y.made ≡ x.made → MadeStand y.state.job y.state x.made image → StandsOn f x image → StandsOn f y image
stands_same f x y image k made stand h = stands_as f x y image k (subst (λ (es : List Extent). MadeStand y.state.job y.state es image) (sym made) stand) (within_as x y x.made image k.placing k.failed made h.honest.within) h

-- nothing is made
stands_none : (f : Feed) (x y : Session) (image : List ℕ) → SameStore x y → y.made ≡ [] → MadeStand y.state.job y.state [] image → StandsOn f x image → StandsOn f y image
stands_none f x y image k made stand h =
    stands_as f x y image k (subst (λ (es : List Extent). MadeStand y.state.job y.state es image) (sym made) stand) (within_as x y [] image k.placing k.failed made (unmade x.placing x.failed x.made image h.honest.within)) h

-- the commands that commit nothing
kept_by : (f : Feed) (source : List Change) (s s' : State) (c : Command) (a : Answer) → IsTrue (keeps_job c) → is_commit c ≡ false → Does f source s c a s' → SameStored s s'
kept_by f source s s' (do_schema t) a k n d = absurd (false≢true (sym n))
kept_by f source s s' (do_retire t v) a k n d = absurd (false≢true (sym n))
kept_by f source s s' (do_pump p m) a k n d = stored_as s s' (ap (λ (x : State). x.durable) d.6) (ap (λ (x : State). x.broken) d.6)
kept_by f source s s' (do_flush p) a k n d = absurd (false≢true (sym n))
kept_by f source s s' (do_compact p m) a k n d = absurd (false≢true (sym n))
kept_by f source s s' (do_job_begin p m) a k n d = absurd (false≢true k)
kept_by f source s s' (do_job_step m) a k n d = stored_as s s' (ap (λ (x : State). x.durable) d.3) (ap (λ (x : State). x.broken) d.3)
kept_by f source s s' do_job_finish a k n d = absurd (false≢true k)
kept_by f source s s' do_job_drop a k n d = absurd (false≢true k)
kept_by f source s s' (do_split t ls) a k n d = absurd (false≢true (sym n))
kept_by f source s s' (do_retain t) a k n d = absurd (false≢true (sym n))
kept_by f source s s' (do_scan q) a k n d = stored_as s s' (ap (λ (x : State). x.durable) d.2) (ap (λ (x : State). x.broken) d.2)
kept_by f source s s' (do_page q) a k n d = stored_as s s' (ap (λ (x : State). x.durable) d.2) (ap (λ (x : State). x.broken) d.2)
kept_by f source s s' do_status a k n d = stored_as s s' (ap (λ (x : State). x.durable) d.1) (ap (λ (x : State). x.broken) d.1)
kept_by f source s s' (do_deltas p) a k n d = stored_as s s' (ap (λ (x : State). x.durable) d.1) (ap (λ (x : State). x.broken) d.1)
kept_by f source s s' do_reopen a k n d = absurd (false≢true k)

kept_step : (f : Feed) (source : List Change) (s s' : State) (c : Command) (a : Answer) (o : Option Refusal) → IsTrue (keeps_job c) → is_commit c ≡ false → StepBy o f source s c a s' → SameStored s s'
kept_step f source s s' c a (Some r) k n step = stored_as s s' (ap (λ (x : State). x.durable) step.1) (ap (λ (x : State). x.broken) step.1)
kept_step f source s s' c a None k n d = kept_by f source s s' c a k n d

-- ---- faults

reopen_leaves : (f : Feed) (source : List Change) (s : State) (c : Command) (d : Durable) → is_reopen c ≡ true → WouldLeave f source s c d → d ≡ unwrap_or s.broken s.durable
reopen_leaves f source s (do_schema t) d r w = absurd (false≢true r)
reopen_leaves f source s (do_retire t v) d r w = absurd (false≢true r)
reopen_leaves f source s (do_pump p m) d r w = absurd (false≢true r)
reopen_leaves f source s (do_flush p) d r w = absurd (false≢true r)
reopen_leaves f source s (do_compact p m) d r w = absurd (false≢true r)
reopen_leaves f source s (do_job_begin p m) d r w = absurd (false≢true r)
reopen_leaves f source s (do_job_step m) d r w = absurd (false≢true r)
reopen_leaves f source s do_job_finish d r w = absurd (false≢true r)
reopen_leaves f source s do_job_drop d r w = absurd (false≢true r)
reopen_leaves f source s (do_split t ls) d r w = absurd (false≢true r)
reopen_leaves f source s (do_retain t) d r w = absurd (false≢true r)
reopen_leaves f source s (do_scan q) d r w = absurd (false≢true r)
reopen_leaves f source s (do_page q) d r w = absurd (false≢true r)
reopen_leaves f source s do_status d r w = absurd (false≢true r)
reopen_leaves f source s (do_deltas p) d r w = absurd (false≢true r)
reopen_leaves f source s do_reopen d r w = w

pub none_placed : (o : Option Placing) (b : Option Durable) → b ≡ None → IfSome o (λ l. IsSome b) → o ≡ None
none_placed None b e h = refl
none_placed (Some l) b e h = absurd (false≢true (subst (λ (c : Option Durable). is_some c ≡ true) e h))

by_reopen : (o : Option Durable) (p : Option Placing) (d s : Durable) → d ≡ unwrap_or o s → IfSome p (λ l. IsSome o) → (Some d ≡ o) ⊎ (p ≡ None)
by_reopen None p d s e h = inr (none_placed p None refl h)
by_reopen (Some x) p d s e h = inl (ap Some e)

fault_store : (f : Feed) (source : List Change) (x y : Session) (c : Command) (r : Refusal) → (r ≡ out_of_memory) ⊎ (refused x.state c ≡ None) → AfterFault f source x.state c r y.state → y.placing ≡ x.placing → y.failed ≡ x.failed
    → IfSome x.failed (λ l. IsSome x.state.broken) → SameStore x y
fault_store f source x y c r why (inl e) p g h = store_as x y (stored_as x.state y.state (ap (λ (s : State). s.durable) e) (ap (λ (s : State). s.broken) e)) p g
fault_store f source x y c r why (inr (inl t)) p g h = let k = took_some f x.state y.state c t.1 in store_as x y (stored_as x.state y.state k.durable k.broken) p g
fault_store f source x y c r why (inr (inr b)) p g h =
    let now : y.state.broken ≡ Some b.1.0 = ap (λ (s : State). s.broken) b.1.2 in record {
      durable = ap (λ (s : State). s.durable) b.1.2;
      placing = p;
      failed = g;
      broken = elim (or_cases (is_write c) (is_reopen c) b.1.3) [
        | inl w ↦ inr (none_placed x.failed x.state.broken (unbroken x.state c w (disk_unrefused x.state c r b.0 why)) h)
        | inr o ↦ elim (by_reopen x.state.broken x.failed b.1.0 x.state.durable (reopen_leaves f source x.state c b.1.0 o b.1.1) h) [ inl e ↦ inl (now ∙ e) | inr n ↦ inr n ]
      ];
      whole = λ w. absurd (false≢true (sym w ∙ ap (λ (o : Option Durable). is_some o) now));
    }

begun : (s : State) (o : Option Job) (image : List ℕ) → MadeStand o s [] image
begun s None image = refl
begun s (Some j) image = refl

pub images_stay : ImagesStay
images_stay = record {
  sound = either_sound;
  either = crash_by;
  grows = λ f g x image grows h. record {
    root = h.root;
    honest = record { part = h.honest.part; sound = sound_grows image f g grows h.honest.sound; placed = h.honest.placed; failed = h.honest.failed; job = h.honest.job; within = h.honest.within };
  };
  stays = λ f fs x y c a image good k n step p h. stands_same f x y image (store_as x y (kept_step f (source_of fs) x.state y.state c a (refused x.state c) k n step) p.placing p.failed) p.made
      (job_stays.stand f fs x.state y.state c a x.made image good k step h.honest.job) h;
  begins = λ f source x y p m a image d u h. stands_none f x y image (store_as x y (stored_as x.state y.state (ap (λ (s : State). s.durable) d.3) (ap (λ (s : State). s.broken) d.3)) u.placing u.failed) u.made (begun y.state y.state.job image) h;
  drops = λ f source x y a image d u h. stands_none f x y image (store_as x y (stored_as x.state y.state (ap (λ (s : State). s.durable) d.1) (ap (λ (s : State). s.broken) d.1)) u.placing u.failed) u.made (begun y.state y.state.job image) h;
  faults = λ f source x y c r image why e p b h. stands_same f x y image (fault_store f source x y c r why e p.placing p.failed b) p.made (job_stays.fault_stand f source x.state y.state c r x.made image e h.honest.job) h;
}
