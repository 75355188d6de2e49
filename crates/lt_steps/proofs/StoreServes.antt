-- A session over a store serves its feed where it belongs to it, is kept, and stands on every image that a crash may leave.
use Rattle.std.proofs.Common.{List, [], ap, false, inl, inr, refl, subst, sym, ◌≡◌}
use Rattle.std.specs.Prelude.{IfSome, IsSome, IsTrue, None, Option, Some, is_some, ℕ, ◌⊎◌}
use Rattle.std.specs.List.{list_all}
use Rattle.std.proofs.lemmas.Bool.{and_parts}
use Rattle.lt_terms.specs.declared.Extent.{Extent}
use Rattle.lt_world.specs.Disk.{DiskState}
use Rattle.lt_world.specs.Feed.{AreShort, Feed}
use Rattle.lt_terms.specs.Log.{Change, Header}
use Rattle.lt_machine.specs.Machine.{Answer, State, Step, opened, refused}
use Rattle.lt_world.specs.Disk.{LeavesNow}
use Rattle.lt_machine.specs.Outside.{AreBesides, BelongsTo, HoldsEither, IsKept, LeavesSession, StandsOn, is_commit}
use Rattle.lt_machine.specs.OverStore.{KeepsBundles, on_store}
use Rattle.lt_words.specs.Reply.{Refusal, out_of_memory}
use Rattle.lt_tables.specs.Pump.{Attaches}
use Rattle.lt_machine.specs.Run.{AfterFault}
use Rattle.lt_tables.specs.Query.{Command}
use Rattle.lt_machine.specs.Sound.{FailedIsLater, FailedIsSound, IsSound, LeavesPart, Memory, Session, source_of}
use Rattle.lt_machine.specs.Step.{Serves}
use Rattle.lt_world.specs.Extents.{apart, are_apart}
use Rattle.lt_storage.specs.Store.{Durable, Holds, Placing, extents_of}
use Rattle.lt_session_laws.proofs.NeverFalls.{minimum_never_falls}
use Rattle.lt_steps.proofs.AboveLaws.{memory_is_above}
use Rattle.lt_steps.proofs.AllMemory.{memory_faults, memory_steps}
use Rattle.lt_steps.proofs.CoverLaws.{cover_laws}
use Rattle.lt_steps.proofs.ImageLaws.{images_stay}
use Rattle.lt_steps.proofs.JobKept.{job_stays}
use Rattle.lt_steps.proofs.ReopenedMemory.{memory_reopens}
use Rattle.lt_steps.proofs.TookLaws.{took_some}
use Rattle.lt_steps.specs.Covers.{PartOfJob}
use Rattle.lt_steps.specs.Images.{SamePlace}
use Rattle.lt_steps.specs.Jobs.{keeps_job}
use Rattle.lt_steps.specs.Kept.{FaultLeaves, MemoryBecomes, kept_lows, nothing_held}

part_left : (x : Session) (image : List ℕ) → HoldsEither x image → LeavesPart x.state image
part_left x image (inl h) = inl h
part_left x image (inr h) = inr (h.0, h.2, (h.1, h.4))

-- an image on which a session stands is one that a crash may leave of it
pub leaves_session : (f : Feed) (x : Session) (image : List ℕ) → StandsOn f x image → LeavesSession f x image
leaves_session f x image h = (h.honest.sound, part_left x image h.honest.part)

-- who belongs to a feed, with a partition in an open job's range, is kept
pub kept_by : (f : Feed) (x : Session) → BelongsTo f x.state x.memory → PartOfJob x.state → IsKept x
kept_by f x b part = record { names = b.2; above = memory_is_above.belongs f x.state x.memory b; job = part }

pub serves_by : (disk : DiskState) (f : Feed) (x : Session) → BelongsTo f x.state x.memory → PartOfJob x.state → FailedIsSound f x.state → FailedIsLater x.state → AreBesides x → IsSome disk.told → LeavesNow disk (StandsOn f x)
    → LeavesNow disk (KeepsBundles x) → Serves on_store disk f x
serves_by disk f x b part sound later besides tells on cached = record {
  belongs = b;
  kept = kept_by f x b part;
  failed = (sound, later);
  rests = record { told = tells; besides = besides; stands = on; cached = cached };
  stands = λ image left. leaves_session f x image (on image left);
}

-- a session that is opened
abbrev pub opened_at : Durable → List Header → Memory → Placing → Session
opened_at d hs mem l = record { state = opened d hs; memory = mem; placing = l; failed = None; made = []; cached = [] }

-- It serves its feed, and is kept, where it stands on every image.
pub opened_serves : (disk : DiskState) (f : Feed) (d : Durable) (hs : List Header) (mem : Memory) (l : Placing) → BelongsTo f (opened d hs) mem → IsSome disk.told → LeavesNow disk (StandsOn f (opened_at d hs mem l)) → Serves on_store disk f (opened_at d hs mem l)
opened_serves disk f d hs mem l b tells on = serves_by disk f (opened_at d hs mem l) b tt tt tt (record { of_failed = tt; of_job = refl; apart = refl }) tells on (λ image left. tt)

-- So does one that is opened on the part that a sound image has.
pub start_serves : (disk : DiskState) (f : Feed) (image : List ℕ) (d : Durable) (hs : List Header) (l : Placing) → AreShort f → IsSound image f → Holds image d → Attaches f (Some (kept_lows d)) hs → IsSome disk.told
    → LeavesNow disk (StandsOn f (opened_at d hs (nothing_held d) l)) → Serves on_store disk f (opened_at d hs (nothing_held d) l)
start_serves disk f image d hs l short sound holds attaches tells on = opened_serves disk f d hs (nothing_held d) l (memory_reopens.finds f image d hs short sound holds attaches) tells on

-- ---- where nothing is committed

made_apart : (x y : Session) → SamePlace x y → AreBesides x → IsTrue (list_all (λ e. list_all (apart e) (extents_of y.placing)) y.made)
made_apart x y p b =
    subst (λ (es : List Extent). IsTrue (list_all (λ e. list_all (apart e) (extents_of y.placing)) es)) (sym p.made)
    (subst (λ (l : Placing). IsTrue (list_all (λ e. list_all (apart e) (extents_of l)) x.made)) (sym p.placing) (and_parts (are_apart x.state.durable.limit x.made) _ b.apart).1)

-- what is kept of bundles reads so still, where no image is new
pub bundles_stay : (disk disk' : DiskState) (x y : Session) → y.placing ≡ x.placing → y.cached ≡ x.cached → LeavesNow disk' disk.leaves → LeavesNow disk (KeepsBundles x) → LeavesNow disk' (KeepsBundles y)
bundles_stay disk disk' x y p e fewer kept image left =
    subst (λ (l : Placing). KeepsBundles (record y { placing = l }) image) (sym p) (subst (λ (ks : List (Extent × List ℕ)). KeepsBundles (record y { placing = x.placing; cached = ks }) image) (sym e) (kept image (fewer image left)))

-- After a command that commits nothing, and leaves an open job as it is, a session serves its feed still.
pub still_serves : (disk disk' : DiskState) (f : Feed) (x y : Session) (c : Command) (a : Answer) → (v : Serves on_store disk f x) → IsTrue (keeps_job c) → is_commit c ≡ false → y.state.job ≡ x.state.job → refused x.state c ≡ None
    → Step f (source_of v.belongs.0) x.state c a y.state → MemoryBecomes f x.state c y.state x.memory y.memory → SamePlace x y → IsSome disk'.told → LeavesNow disk' disk.leaves → LeavesNow disk' (KeepsBundles y) → Serves on_store disk' f y
still_serves disk disk' f x y c a v keeps none same free step becomes p tells fewer cached =
    let fs = v.belongs.0 in
    serves_by disk' f y (memory_steps.belongs f x.state y.state x.memory y.memory c a v.belongs v.failed.0 free step becomes) (cover_laws.steps f (source_of fs) x.state y.state c a v.kept.job step)
    (memory_steps.failed f x.state y.state x.memory c a v.belongs v.failed.0 step) (minimum_never_falls.step f (source_of fs) x.state y.state c a v.failed.1 step).1
    (job_stays.besides f fs x y c a v.belongs.1 keeps same step p.failed p.made v.rests.besides (made_apart x y p v.rests.besides)) tells
    (λ image left. images_stay.stays f fs x y c a image v.belongs.1 keeps none step p (v.rests.stands image (fewer image left))) cached

-- After a command that commits a session serves its feed where it stands on every image that a crash may leave now: the laws of images say that
-- it does.
pub commit_serves : (disk disk' : DiskState) (f : Feed) (x y : Session) (c : Command) (a : Answer) → (v : Serves on_store disk f x) → refused x.state c ≡ None → Step f (source_of v.belongs.0) x.state c a y.state
    → MemoryBecomes f x.state c y.state x.memory y.memory → AreBesides y → IsSome disk'.told → LeavesNow disk' (StandsOn f y) → LeavesNow disk' (KeepsBundles y) → Serves on_store disk' f y
commit_serves disk disk' f x y c a v free step becomes besides tells on cached =
    serves_by disk' f y (memory_steps.belongs f x.state y.state x.memory y.memory c a v.belongs v.failed.0 free step becomes) (cover_laws.steps f (source_of v.belongs.0) x.state y.state c a v.kept.job step)
    (memory_steps.failed f x.state y.state x.memory c a v.belongs v.failed.0 step) (minimum_never_falls.step f (source_of v.belongs.0) x.state y.state c a v.failed.1 step).1 besides tells on cached

broken_stays : (f : Feed) (source : List Change) (x y : Session) (c : Command) (r : Refusal) → AfterFault f source x.state c r y.state → (y.state.broken ≡ x.state.broken) ⊎ IsSome y.state.broken
broken_stays f source x y c r (inl e) = inl (ap (λ (s : State). s.broken) e)
broken_stays f source x y c r (inr (inl t)) = inl (took_some f x.state y.state c t.1).broken
broken_stays f source x y c r (inr (inr b)) = inr (ap (λ (s : State). is_some s.broken) b.1.2)

any_failed : (o : Option Placing) (P : Type 0) → P → IfSome o (λ l. P)
any_failed None P p = tt
any_failed (Some l) P p = p

failed_broken : (x y : Session) → (y.state.broken ≡ x.state.broken) ⊎ IsSome y.state.broken → y.failed ≡ x.failed → IfSome x.failed (λ l. IsSome x.state.broken) → IfSome y.failed (λ l. IsSome y.state.broken)
failed_broken x y (inl e) p h = subst (λ (o : Option Placing). IfSome o (λ l. IsSome y.state.broken)) (sym p) (subst (λ (b : Option Durable). IfSome x.failed (λ l. IsSome b)) (sym e) h)
failed_broken x y (inr is) p h = any_failed y.failed (IsSome y.state.broken) is

-- So it does after a fault that left no image but those of before: it is broken, perhaps, and nothing of what the command would have left is placed.
pub fault_serves : (disk disk' : DiskState) (f : Feed) (x y : Session) (c : Command) (r : Refusal) → (v : Serves on_store disk f x) → (r ≡ out_of_memory) ⊎ (refused x.state c ≡ None) → AfterFault f (source_of v.belongs.0) x.state c r y.state
    → FaultLeaves f x.state c y.state x.memory y.memory → SamePlace x y → IsSome disk'.told → LeavesNow disk' disk.leaves → LeavesNow disk' (KeepsBundles y) → Serves on_store disk' f y
fault_serves disk disk' f x y c r v why e leaves p tells fewer cached =
    let source = source_of v.belongs.0 in
    let of_failed = v.rests.besides.of_failed in
    serves_by disk' f y (memory_faults.belongs f x.state y.state x.memory y.memory c r v.belongs v.failed.0 why e leaves) (cover_laws.faults f source x.state y.state c r v.kept.job e)
    (memory_faults.failed f x.state y.state x.memory c r v.belongs v.failed.0 why e) (minimum_never_falls.fault f source x.state y.state c r v.failed.1 why e).1
    (job_stays.faults f source x y c r e p.placing p.made v.rests.besides (failed_broken x y (broken_stays f source x y c r e) p.failed of_failed)) tells
    (λ image left. images_stay.faults f source x y c r image why e p of_failed (v.rests.stands image (fewer image left))) cached
