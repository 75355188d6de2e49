-- What a commit leads to: the session after it stands on every image, or the one before does, or the session is broken.
use Rattle.std.proofs.Common.{Bool, List, [], ap, append-nil, arith, false, inl, inr, refl, subst, sym, true, ℕ, ◌++◌, ◌<◌, ◌∙◌, ◌∷◌, ◌≡◌}
use Rattle.std.proofs.lemmas.Bool.{false≢true}
use Rattle.std.proofs.lemmas.List.Sorted.{IsPermutation-refl}
use Rattle.std.specs.List.{AllByRecursion}
use Rattle.std.specs.List.Sorted.{IsPermutation}
use Rattle.std.specs.Prelude.{Err, IfSome, IsSome, IsTrue, None, Ok, Option, Result, Some, is_some, map, slice_get, ◌⊎◌}
use Rattle.lt_terms.specs.declared.Extent.{Extent}
use Rattle.lt_terms.specs.declared.Root.{Root}
use Rattle.lt_terms.specs.Log.{Header, Item}
use Rattle.lt_world.specs.Disk.{DiskGoes, DiskState, HasCause, LeavesNow, Rose}
use Rattle.lt_world.specs.Feed.{Feed, FeedState}
use Rattle.lt_world.specs.RowSink.{RowSinkState}
use Rattle.lt_tables.specs.Query.{Command}
use Rattle.lt_words.specs.Reply as model
use Rattle.lt_storage.specs.Store.{Durable, Manifest, Placing, bare_manifest, extents_of}
use Rattle.lt_image_laws.proofs.Commit.{commit_laws}
use Rattle.lt_image_laws.proofs.Room.{room_laws}
use Rattle.lt_image_laws.proofs.Standing.{honest_stays}
use Rattle.lt_image_laws.specs.Commit.{IsRootedOnEither}
use Rattle.lt_image_laws.specs.Shelf.{placing_for}
use Rattle.lt_image_laws.specs.Standing.{IsRooted}
use Rattle.lt_machine.specs.Machine.{State, is_broken, cat_of, refuses, replies}
use Rattle.lt_machine.specs.Outside.{IsHonest, IsOutOfRoom, LeavesSession, StandsOn, counts_at, live_extents, piece_lengths, world_of}
use Rattle.lt_machine.specs.Run.{AfterFault, Answers, Shows, is_fault, may_end_in}
use Rattle.lt_machine.specs.Sound.{Fronts, LeavesPart, Memory, Session, source_of}
use Rattle.lt_machine.specs.Step.{MayRefuse, RefusesAs, Served, Serves, Stepped, held_changes}
use Rattle.lt_reply.specs.View.{view_refusal, view_reply}
use Rattle.lt_reply.specs.declared.refusal.Refusal.{Refusal}
use Rattle.lt_reply.specs.declared.reply.Reply.{Reply}
use Rattle.lt_steps.proofs.PathLaws.{answers_keep}
use Rattle.lt_steps.proofs.StoreServes.{leaves_session, serves_by}
use Rattle.lt_store.specs.Commits.{Going, HasKept, HasPieces, IsBroken, IsReady, RefusesCommit, fault_if, of_disk}
use Rattle.lt_store.proofs.Keeping.{broken_stands, moves_bare, refused_stands}
use Rattle.lt_store.specs.Standing.{StandsAt}
use Rattle.lt_store.specs.declared.committing.CommitRefusal.{CommitRefusal}
use Rattle.lt_store.specs.declared.committing.CommitRefusal.TheVariants as commits
use Rattle.lt_store.specs.declared.store.Store.{Store}
use Rattle.lt_replica.specs.BareStore.{IsBare, on_bare_store}
use Rattle.lt_replica.specs.Committing.{Attempt, CommitCall, IsLeft, Tried, after, refusal_for, refuses as refuses_it, tries}
use Rattle.lt_store.specs.Commits.{HasCommitted, LeadsTo}
use Rattle.lt_replica.specs.Stepped.{LeadsOn}
use Rattle.lt_replica.specs.State.{StandsFor, memory_of, state_in, state_of}
use Rattle.lt_replica.specs.Steps.{Stays, answer_of}
use Rattle.lt_replica.specs.declared.replica.Replica.{Replica}
use Rattle.lt_replica.proofs.CommitSteps.{Commits, IsCommitting, Knows, commits_of, each_weaker, now_all, refused_leads}
use Rattle.lt_replica.proofs.BrokenLaws.{belongs_in}
use Rattle.lt_replica.proofs.StartLaws.{low_entry}
use Rattle.lt_pump.specs.Pumps.{streams_of}
use Rattle.lt_tables.specs.Pump.{StreamAt}
use Rattle.lt_storage.specs.Store.{Stream}
use Rattle.lt_replica.proofs.StepLaws.{free_step, given_nothing, serves_bare}

-- ---- the session before, whose store is whole

none_broken : (b : Option Durable) (broken : Bool) → is_some b ≡ broken → broken ≡ false → b ≡ None
none_broken None broken is whole = refl
none_broken (Some d) broken is whole = absurd (false≢true (sym whole ∙ sym is))

-- a session with nothing but its durable part placed
abbrev pub placed : Root → State → Memory → Session
placed root s mem = record { state = s; memory = mem; placing = placing_for root s.durable []; failed = None; made = []; cached = [] }

rebuilt : State → Memory → Placing → Option Placing → List Extent → List (Extent × List ℕ) → Session
rebuilt s mem l failed made cached = record { state = s; memory = mem; placing = l; failed = failed; made = made; cached = cached }

pub is_placed : (x : Session) (r : Replica) → (h : StandsFor r x) → r.store.broken ≡ false → x ≡ placed x.placing.root (state_of r) (memory_of r)
unfolding rebuilt
is_placed x r h whole =
    let none = none_broken h.broken r.store.broken h.is_in whole in
    let root = x.placing.root in
    ap (λ (s : State). rebuilt s x.memory x.placing x.failed x.made x.cached) (h.state ∙ ap (state_in r) none)
    ∙ ap (λ (m : Memory). rebuilt (state_of r) m x.placing x.failed x.made x.cached) h.memory
    ∙ ap (λ (l : Placing). rebuilt (state_of r) (memory_of r) l x.failed x.made x.cached) h.placing
    ∙ ap (λ (o : Option Placing). rebuilt (state_of r) (memory_of r) (placing_for root (state_of r).durable []) o x.made x.cached) (h.whole whole).1
    ∙ ap (λ (m : List Extent). rebuilt (state_of r) (memory_of r) (placing_for root (state_of r).durable []) None m x.cached) h.made
    ∙ ap (λ (k : List (Extent × List ℕ)). rebuilt (state_of r) (memory_of r) (placing_for root (state_of r).durable []) None [] k) h.cached

pub stands_whole : (x : Session) (r : Replica) → (h : StandsFor r x) → r.store.broken ≡ false → StandsAt r.store (placing_for x.placing.root (state_of r).durable []) []
stands_whole x r h whole = subst (λ (l : Placing). StandsAt r.store l []) h.placing (subst (StandsAt r.store x.placing) (h.whole whole).0 h.at)

-- ---- the way to the session after

abbrev way : Root → (old : Replica) → {c : Command} → Attempt old c → Feed → Going
way root old t f = record {
  feed = f;
  before = state_of old;
  after = after t;
  placing = placing_for root (state_of old).durable [];
  stays = λ n. true;
  added = None;
  made = [];
  made_after = [];
  fresh = [];
}

some_all : {A : Type 0} (o : Option A) (P : A → Type 0) → ((a : A) → P a) → IfSome o P
some_all None P h = tt
some_all (Some a) P h = h a

is_ready : (disk : DiskState) (old : Replica) (c : Command) (t : Attempt old c) (root : Root) (f : Feed) → StandsAt old.store (placing_for root (state_of old).durable []) [] → (v : Serves on_bare_store disk f (placed root (state_of old) (memory_of old)))
    → IsReady disk old.store (bare_manifest (after t).durable) [] (way root old t f)
is_ready disk old c t root f at v =
    let step = free_step f (source_of v.belongs.0) (state_of old) (after t) c (replies t.reply) t.free (t.does f (source_of v.belongs.0)) in
    let belongs = t.belongs f v.belongs step in
    record {
      tells = v.rests.told;
      stands = λ image i. honest_stays.rooted f (placed root (state_of old) (memory_of old)) image refl tt (v.rests.stands image i);
      at = at;
      on = record { fronts = belongs.0; good = belongs.1; limit = refl; shelf = refl; generation = refl; job = λ image h. refl };
      pieces = IsPermutation-refl [];
      written = some_all disk.told (HasPieces (way root old t f)) (λ image. record { sealed = tt; within = refl });
      leaves = IsPermutation-refl [];
      manifest = refl;
    }

-- ---- after Ok

-- the session after stands on every image
placed_stands : (f : Feed) (root : Root) (s : State) (mem : Memory) (image : List ℕ) → IsRooted f s (placing_for root s.durable []) [] image → StandsOn f (placed root s mem) image
placed_stands f root s mem image h = honest_stays.stands f (placed root s mem) image refl h

done_serves : (disk disk' : DiskState) (old : Replica) (c : Command) (t : Attempt old c) (root next : Root) (f : Feed) → IsSome disk'.told → (v : Serves on_bare_store disk f (placed root (state_of old) (memory_of old)))
    → LeavesNow disk' (IsRooted f (after t) (placing_for next (after t).durable []) []) → Serves on_bare_store disk' f (placed next (after t) t.memory)
done_serves disk disk' old c t root next f told v stands =
    let step = free_step f (source_of v.belongs.0) (state_of old) (after t) c (replies t.reply) t.free (t.does f (source_of v.belongs.0)) in
    let y = placed next (after t) t.memory in
    serves_bare disk' f y (serves_by disk' f y (t.belongs f v.belongs step) tt tt tt (record { of_failed = tt; of_job = refl; apart = refl }) told (λ image i. placed_stands f next (after t) t.memory image (stands image i)) (λ image i. tt))

leaves_either : (f : Feed) (root next : Root) (old : Replica) (c : Command) (t : Attempt old c) (image : List ℕ) → IsRootedOnEither f (state_of old) (placing_for root (state_of old).durable []) [] (after t) (placing_for next (after t).durable []) [] image
    → LeavesSession f (placed root (state_of old) (memory_of old)) image ⊎ LeavesSession f (placed next (after t) t.memory) image
leaves_either f root next old c t image h =
    commit_laws.leaves_either f (placed root (state_of old) (memory_of old)) (placed next (after t) t.memory) (placing_for root (state_of old).durable []) (placing_for next (after t).durable []) [] [] image h

done_served : (disk disk' : DiskState) (feed : FeedState) (rows : RowSinkState) (old : Replica) (c : Command) (t : Attempt old c) (root next : Root) (at_once : Bool) (f : Feed) → Commits c → IsSome disk'.told
    → (v : Serves on_bare_store disk f (placed root (state_of old) (memory_of old))) → (store : Store) → HasCommitted disk disk' store next at_once (way root old t f) (Ok tt)
    → Served on_bare_store f (world_of disk feed rows) (world_of disk' feed rows) (placed root (state_of old) (memory_of old)) (placed next (after t) t.memory) c (Ok t.reply)
done_served disk disk' feed rows old c t root next at_once f k told v store h =
    let w = world_of disk feed rows in
    let w' = world_of disk' feed rows in
    let x = placed root (state_of old) (memory_of old) in
    let step = free_step f (source_of v.belongs.0) (state_of old) (after t) c (replies t.reply) t.free (t.does f (source_of v.belongs.0)) in
    let answers : Answers (on_bare_store.cause (counts_at w) (counts_at w') f x c) f (state_of old) c (replies t.reply) (after t) = (v.belongs.0, v.belongs.1.fronts, inl step) in
    let up = answers_keep (on_bare_store.cause (counts_at w) (counts_at w') f x c) f (state_of old) (after t) c (replies t.reply) ((v.belongs.0, v.belongs.1), v.failed.0, v.failed.1) answers in
    record {
      given = [];
      rows = given_nothing rows (Ok t.reply);
      answers = answers;
      serves = done_serves disk disk' old c t root next f told v h.acknowledged.0;
      next = inl refl;
      any_moment = each_weaker disk disk' (IsRootedOnEither f (state_of old) (placing_for root (state_of old).durable []) [] (after t) (placing_for next (after t).durable []) [])
          (λ image. LeavesSession f x image ⊎ LeavesSession f (placed next (after t) t.memory) image) h.any_moment (leaves_either f root next old c t);
      minimum = up.1;
      checkpoints = up.2;
    }

done_served_told : (disk disk' : DiskState) (feed : FeedState) (rows : RowSinkState) (old new : Replica) (c : Command) (t : Attempt old c) (root : Root) (told : Option Feed) → Commits c → DiskGoes disk disk' → StandsAt old.store (placing_for root (state_of old).durable []) []
    → (leads : LeadsTo disk disk' old.store new.store (bare_manifest (after t).durable) [] (Ok tt))
    → IfSome told (λ f. Serves on_bare_store disk f (placed root (state_of old) (memory_of old))
    → Served on_bare_store f (world_of disk feed rows) (world_of disk' feed rows) (placed root (state_of old) (memory_of old)) (placed leads.root (after t) t.memory) c (Ok t.reply))
done_served_told disk disk' feed rows old new c t root None k goes at leads = tt
done_served_told disk disk' feed rows old new c t root (Some f) k goes at leads = λ v.
    done_served disk disk' feed rows old c t root leads.root leads.placed f k (goes.stays.0 v.rests.told) v new.store (leads.each (way root old t f) (is_ready disk old c t root f at v))

done_shows : (disk disk' : DiskState) (feed : FeedState) (rows : RowSinkState) (s s' : State) (c : Command) (reply : model.Reply) → Commits c → DiskGoes disk disk' → disk'.faults ≡ disk.faults → disk'.write_faults ≡ disk.write_faults → s'.broken ≡ None
    → Shows (counts_at (world_of disk feed rows)) (counts_at (world_of disk' feed rows)) s s' c (Ok reply)
done_shows disk disk' feed rows s s' c reply k goes faults writes whole = record {
  later = record { feed = omega arith; calls = omega arith; script = omega arith; disk = goes.faults; write_faults = goes.write_faults; out = omega arith; clock = goes.clock };
  succeeded = (refl, faults, writes, refl);
  feed_failed = λ less. absurd (omega (arith, less));
  write_failed = λ less. absurd (omega (arith, writes, less));
  disk_failed = λ free less. absurd (omega (arith, faults, less));
  out_failed = λ less. absurd (omega (arith, less));
  called = λ yes tells. absurd (false≢true (sym k.quiet ∙ yes));
  not_called = λ no. refl;
  not_used = λ no. absurd (false≢true (sym no ∙ k.uses));
  breaks = λ no yes. absurd (false≢true (sym (ap is_some whole) ∙ yes));
}

done_stepped : (disk disk' : DiskState) (feed : FeedState) (rows : RowSinkState) (old new : Replica) (c : Command) (t : Attempt old c) (root : Root) → Commits c → StandsAt old.store (placing_for root (state_of old).durable []) []
    → (call : CommitCall disk disk' old.store new.store (bare_manifest (after t).durable) (Ok tt))
    → Stepped on_bare_store (world_of disk feed rows) (world_of disk' feed rows) (placed root (state_of old) (memory_of old)) (placed call.leads.root (after t) t.memory) c (Ok t.reply)
done_stepped disk disk' feed rows old new c t root k at call = record {
  served = done_served_told disk disk' feed rows old new c t root feed.told k call.goes at call.leads;
  shows = done_shows disk disk' feed rows (state_of old) (after t) c t.reply k call.goes call.cause.kept (unbroken call.kept.broken call.breaks) refl;
  causes = λ known. tt;
  refused = λ known. subst (λ (o : Option model.Refusal). IfSome o (λ e. RefusesAs e (Ok t.reply) × (after t ≡ state_of old))) (sym t.free) tt;
  stays = tt;
  keeps = λ kept. record { names = refl; above = t.above kept.above; job = tt };
  done = λ kept known q. k.over feed.told (held_changes (memory_of old)) (state_of old) (replies t.reply) (after t) (λ f. t.does f (held_changes (memory_of old)));
  reopened = λ again. absurd (false≢true (sym k.reopen ∙ again));
}
  where
    unbroken : new.store.broken ≡ false → HasCause disk.write_faults disk'.write_faults (fault_if new.store.broken) → disk'.write_faults ≡ disk.write_faults
    unbroken whole breaks = let h : HasCause disk.write_faults disk'.write_faults (fault_if false) = subst (λ (b : Bool). HasCause disk.write_faults disk'.write_faults (fault_if b)) whole breaks in h.kept

-- what the replica stands for then
done_stands : (disk disk' : DiskState) (old new : Replica) (c : Command) (t : Attempt old c) (root : Root) → StandsAt old.store (placing_for root (state_of old).durable []) [] → (call : CommitCall disk disk' old.store new.store (bare_manifest (after t).durable) (Ok tt))
    → state_of new ≡ after t → memory_of new ≡ t.memory → StandsFor new (placed call.leads.root (after t) t.memory)
done_stands disk disk' old new c t root at call state memory =
    let l = placing_for call.leads.root (after t).durable [] in
    let moved : StandsAt new.store (record { root = new.store.root; manifest = bare_manifest (after t).durable; indexes = [] }) [] =
    moves_bare old.store new.store (placing_for root (state_of old).durable []) [] (bare_manifest (after t).durable) at call.kept refl refl refl refl in
    record {
      memory = sym memory;
      broken = None;
      is_in = sym call.kept.broken;
      bare = tt;
      state = sym state;
      placing = ap (λ (d : Durable). placing_for call.leads.root d []) (ap (λ (s : State). s.durable) (sym state));
      besides = [];
      at = subst (λ (r : Root). StandsAt new.store (record { root = r; manifest = bare_manifest (after t).durable; indexes = [] }) []) call.leads.counts moved;
      whole = λ whole. (refl, refl);
      made = refl;
      cached = refl;
    }

pub done_leads : (disk disk' : DiskState) (feed : FeedState) (rows : RowSinkState) (old new : Replica) (c : Command) (r : Result Reply Refusal) (t : Attempt old c) (reply : Reply) → Commits c → old.store.broken ≡ false
    → CommitCall disk disk' old.store new.store (bare_manifest (after t).durable) (Ok tt) → r ≡ Ok reply → view_reply reply ≡ t.reply → state_of new ≡ after t → memory_of new ≡ t.memory → LeadsOn (world_of disk feed rows) (world_of disk' feed rows) old new c r
done_leads disk disk' feed rows old new c r t reply k whole call is says state memory x h =
    let at = stands_whole x old h whole in
    let y = placed call.leads.root (after t) t.memory in (
      y,
      done_stands disk disk' old new c t x.placing.root at call state memory,
      subst (λ (z : Result model.Reply model.Refusal). Stepped on_bare_store (world_of disk feed rows) (world_of disk' feed rows) x y c z) (ap Ok (sym says) ∙ ap answer_of (sym is))
          (subst (λ (z : Session). Stepped on_bare_store (world_of disk feed rows) (world_of disk' feed rows) z y c (Ok t.reply)) (sym (is_placed x old h whole)) (done_stepped disk disk' feed rows old new c t x.placing.root k at call)),
    )

-- ---- after a refusal of the commit

-- what a refusal of the commit says of the state's limit and of what is live
full_beside : (old : Replica) (c : Command) (t : Attempt old c) (root : Root) (need room : ℕ) → Commits c → StandsAt old.store (placing_for root (state_of old).durable []) [] → RefusesCommit old.store (bare_manifest (after t).durable) (commits.StoreFull need room)
    → IsOutOfRoom (state_of old).durable.limit (live_extents (placed root (state_of old) (memory_of old))) (piece_lengths c (state_of old) (after t)) need room
full_beside old c t root need room k at h =
    let x = placed root (state_of old) (memory_of old) in
    let lengths = piece_lengths c (state_of old) (after t) in
    let one = k.piece (state_of old) (after t) refl in
    room_laws.none_left (state_of old).durable.limit (live_extents x) [] old.store.space.taken lengths need room tt (subst (λ (es : List Extent). IsPermutation es old.store.space.taken) (sym (append-nil (extents_of x.placing ++ []))) at.taken) refl
    (ap (λ (ns : List ℕ). slice_get ns 0) one ∙ ap Some (sym h.0)) h.1

-- the commit's refusal is a fault that the command may end in
ends_so : (c : Command) (s : Store) (m : Manifest) (e : CommitRefusal) → Commits c → RefusesCommit s m e → IsTrue (is_fault (view_refusal (refusal_for e))) × IsTrue (may_end_in c (view_refusal (refusal_for e)))
ends_so c s m commits.Disk k h = (refl, k.disk)
ends_so c s m (commits.StoreFull need room) k h = (refl, k.full need room h.1.short)
ends_so c s m commits.Memory k h = (refl, k.memory)

-- in a session that serves its feed its cause is one
caused_so : (disk disk' : DiskState) (feed : FeedState) (rows : RowSinkState) (f : Feed) (old : Replica) (c : Command) (t : Attempt old c) (root : Root) (e : CommitRefusal) → Commits c → StandsAt old.store (placing_for root (state_of old).durable []) []
    → (fs : List (Header × List Item)) → Fronts f (cat_of (state_of old)) fs → RefusesCommit old.store (bare_manifest (after t).durable) e → HasCause disk.faults disk'.faults (of_disk (Err e))
    → on_bare_store.cause (counts_at (world_of disk feed rows)) (counts_at (world_of disk' feed rows)) f (placed root (state_of old) (memory_of old)) c (view_refusal (refusal_for e))
caused_so disk disk' feed rows f old c t root commits.Disk k at fs fronts h cause = cause.failed
caused_so disk disk' feed rows f old c t root (commits.StoreFull need room) k at fs fronts h cause = (fs, replies t.reply, after t, fronts, t.does f (source_of fs), full_beside old c t root need room k at h)
caused_so disk disk' feed rows f old c t root commits.Memory k at fs fronts h cause = tt

-- and in any session
caused_anyhow : (disk disk' : DiskState) (feed : FeedState) (rows : RowSinkState) (old : Replica) (c : Command) (t : Attempt old c) (root : Root) (e : CommitRefusal) → Commits c → StandsAt old.store (placing_for root (state_of old).durable []) []
    → RefusesCommit old.store (bare_manifest (after t).durable) e → HasCause disk.faults disk'.faults (of_disk (Err e)) → on_bare_store.any_cause (world_of disk feed rows) (world_of disk' feed rows) (placed root (state_of old) (memory_of old)) c (view_refusal (refusal_for e))
caused_anyhow disk disk' feed rows old c t root commits.Disk k at h cause = inl cause.failed
caused_anyhow disk disk' feed rows old c t root (commits.StoreFull need room) k at h cause = inl (h.1.short, λ known. (replies t.reply, after t, λ f. t.does f (held_changes (memory_of old)), full_beside old c t root need room k at h))
caused_anyhow disk disk' feed rows old c t root commits.Memory k at h cause = inl tt

-- the session stays, or breaks
fault_answers : (disk disk' : DiskState) (feed : FeedState) (rows : RowSinkState) (f : Feed) (old : Replica) (c : Command) (t : Attempt old c) (root : Root) (e : CommitRefusal) (s' : State) → Commits c → StandsAt old.store (placing_for root (state_of old).durable []) []
    → (fs : List (Header × List Item)) → Fronts f (cat_of (state_of old)) fs → RefusesCommit old.store (bare_manifest (after t).durable) e → HasCause disk.faults disk'.faults (of_disk (Err e)) → AfterFault f (source_of fs) (state_of old) c (view_refusal (refusal_for e)) s'
    → Answers (on_bare_store.cause (counts_at (world_of disk feed rows)) (counts_at (world_of disk' feed rows)) f (placed root (state_of old) (memory_of old)) c) f (state_of old) c (refuses (view_refusal (refusal_for e))) s'
fault_answers disk disk' feed rows f old c t root e s' k at fs fronts h cause leaves =
    let ends = ends_so c old.store (bare_manifest (after t).durable) e k h in
    (fs, fronts, inr (view_refusal (refusal_for e), refl, ends.0, ends.1, caused_so disk disk' feed rows f old c t root e k at fs fronts h cause, inl refl, leaves, inr t.free))

-- only the disk's fault counts
fault_counts : (disk disk' : DiskState) (e : CommitRefusal) → HasCause disk.faults disk'.faults (of_disk (Err e)) → disk.faults < disk'.faults → answer_of (Err (refusal_for e)) ≡ Err model.disk_fault
fault_counts disk disk' commits.Disk h less = refl
fault_counts disk disk' (commits.StoreFull need room) h less = let kept = h.kept in absurd (omega (arith, kept, less))
fault_counts disk disk' commits.Memory h less = let kept = h.kept in absurd (omega (arith, kept, less))

-- a write that failed breaks the store, and is answered so
write_counts : (disk disk' : DiskState) (old new : Store) (e : CommitRefusal) (s' : State) → HasKept old new [] (Err e) → old.broken ≡ false → HasCause disk.write_faults disk'.write_faults (fault_if new.broken) → (new.broken ≡ true → is_broken s' ≡ true) → disk.write_faults < disk'.write_faults
    → (answer_of (Err (refusal_for e)) ≡ Err model.disk_fault) × (is_broken s' ≡ true)
write_counts disk disk' old new e s' kept whole breaks broken less = by new.broken refl
  where
    names : HasKept old new [] (Err e) → new.broken ≡ true → answer_of (Err (refusal_for e)) ≡ Err model.disk_fault
    names (inl same) is = absurd (false≢true (sym whole ∙ sym same.broken ∙ is))
    names (inr off) is = ap (λ (x : CommitRefusal). answer_of (Err (refusal_for x))) off.0

    by : (b : Bool) → new.broken ≡ b → (answer_of (Err (refusal_for e)) ≡ Err model.disk_fault) × (is_broken s' ≡ true)
    by true is = (names kept is, broken is)
    by false is =
        let h : HasCause disk.write_faults disk'.write_faults (fault_if false) = subst (λ (b : Bool). HasCause disk.write_faults disk'.write_faults (fault_if b)) is breaks in
        let same = h.kept in
        absurd (omega (arith, same, less))

failed_shows : (disk disk' : DiskState) (feed : FeedState) (rows : RowSinkState) (old new : Replica) (c : Command) (t : Attempt old c) (e : CommitRefusal) (s' : State) → Commits c → (call : CommitCall disk disk' old.store new.store (bare_manifest (after t).durable) (Err e))
    → old.store.broken ≡ false → (new.store.broken ≡ true → is_broken s' ≡ true) → (is_broken s' ≡ true → Rose disk.write_faults disk'.write_faults)
    → Shows (counts_at (world_of disk feed rows)) (counts_at (world_of disk' feed rows)) (state_of old) s' c (answer_of (Err (refusal_for e)))
failed_shows disk disk' feed rows old new c t e s' k call whole broken rose = record {
  later = record { feed = omega arith; calls = omega arith; script = omega arith; disk = call.goes.faults; write_faults = call.goes.write_faults; out = omega arith; clock = call.goes.clock };
  succeeded = tt;
  feed_failed = λ less. absurd (omega (arith, less));
  write_failed = λ less. write_counts disk disk' old.store new.store e s' call.kept whole call.breaks broken less;
  disk_failed = λ free less. fault_counts disk disk' e call.cause less;
  out_failed = λ less. absurd (omega (arith, less));
  called = λ yes tells. absurd (false≢true (sym k.quiet ∙ yes));
  not_called = λ no. refl;
  not_used = λ no. absurd (false≢true (sym no ∙ k.uses));
  breaks = λ no yes. rose yes;
}

-- ---- where the store is whole still

still_serves : (disk disk' : DiskState) (f : Feed) (root : Root) (s : State) (mem : Memory) → IsSome disk'.told → LeavesNow disk' (IsRooted f s (placing_for root s.durable []) []) → Serves on_bare_store disk f (placed root s mem) → Serves on_bare_store disk' f (placed root s mem)
still_serves disk disk' f root s mem told on v = record {
  belongs = v.belongs;
  kept = v.kept;
  failed = v.failed;
  rests = record { told = told; besides = v.rests.besides; stands = λ image i. placed_stands f root s mem image (on image i); cached = λ image i. tt };
  stands = λ image i. leaves_session f (placed root s mem) image (placed_stands f root s mem image (on image i));
}

still_served : (disk disk' : DiskState) (feed : FeedState) (rows : RowSinkState) (old new : Replica) (c : Command) (t : Attempt old c) (root : Root) (e : CommitRefusal) (f : Feed) → Commits c → Knows disk disk' → StandsAt old.store (placing_for root (state_of old).durable []) []
    → (call : CommitCall disk disk' old.store new.store (bare_manifest (after t).durable) (Err e)) → new.store.broken ≡ false → (v : Serves on_bare_store disk f (placed root (state_of old) (memory_of old)))
    → Served on_bare_store f (world_of disk feed rows) (world_of disk' feed rows) (placed root (state_of old) (memory_of old)) (placed root (state_of old) (memory_of old)) c (answer_of (Err (refusal_for e)))
still_served disk disk' feed rows old new c t root e f k knows at call whole v =
    let x = placed root (state_of old) (memory_of old) in
    let rooted = ((call.leads.each (way root old t f) (is_ready disk old c t root f at v)).refused whole).0 in
    let told = call.goes.stays.0 v.rests.told in
    let answers = fault_answers disk disk' feed rows f old c t root e (state_of old) k at v.belongs.0 v.belongs.1.fronts call.refused call.cause (inl refl) in
    let up = answers_keep (on_bare_store.cause (counts_at (world_of disk feed rows)) (counts_at (world_of disk' feed rows)) f x c) f (state_of old) (state_of old) c (refuses (view_refusal (refusal_for e))) ((v.belongs.0, v.belongs.1), v.failed.0, v.failed.1) answers in
    record {
      given = [];
      rows = given_nothing rows (answer_of (Err (refusal_for e)));
      answers = answers;
      serves = still_serves disk disk' f root (state_of old) (memory_of old) told (now_all disk disk' (IsRooted f (state_of old) (placing_for root (state_of old).durable []) []) knows rooted) v;
      next = inl refl;
      any_moment = each_weaker disk disk' (IsRooted f (state_of old) (placing_for root (state_of old).durable []) []) (λ image. LeavesSession f x image ⊎ LeavesSession f x image) rooted
          (λ image i. inl (leaves_session f x image (placed_stands f root (state_of old) (memory_of old) image i)));
      minimum = up.1;
      checkpoints = up.2;
    }

still_served_told : (disk disk' : DiskState) (feed : FeedState) (rows : RowSinkState) (old new : Replica) (c : Command) (t : Attempt old c) (root : Root) (e : CommitRefusal) (told : Option Feed) → Commits c → Knows disk disk' → StandsAt old.store (placing_for root (state_of old).durable []) []
    → CommitCall disk disk' old.store new.store (bare_manifest (after t).durable) (Err e) → new.store.broken ≡ false → IfSome told (λ f. Serves on_bare_store disk f (placed root (state_of old) (memory_of old))
    → Served on_bare_store f (world_of disk feed rows) (world_of disk' feed rows) (placed root (state_of old) (memory_of old)) (placed root (state_of old) (memory_of old)) c (answer_of (Err (refusal_for e))))
still_served_told disk disk' feed rows old new c t root e None k knows at call whole = tt
still_served_told disk disk' feed rows old new c t root e (Some f) k knows at call whole = λ v. still_served disk disk' feed rows old new c t root e f k knows at call whole v

-- a fault's cause in any session, and what the state refuses
failed_cause : (disk disk' : DiskState) (feed : FeedState) (rows : RowSinkState) (old new : Replica) (c : Command) (t : Attempt old c) (root : Root) (e : CommitRefusal) → Commits c → StandsAt old.store (placing_for root (state_of old).durable []) []
    → CommitCall disk disk' old.store new.store (bare_manifest (after t).durable) (Err e) → MayRefuse on_bare_store (world_of disk feed rows) (world_of disk' feed rows) (placed root (state_of old) (memory_of old)) c (view_refusal (refusal_for e))
failed_cause disk disk' feed rows old new c t root e k at call =
    let ends = ends_so c old.store (bare_manifest (after t).durable) e k call.refused in
    inr (ends.0, ends.1, caused_anyhow disk disk' feed rows old c t root e k at call.refused call.cause)

still_stepped : (disk disk' : DiskState) (feed : FeedState) (rows : RowSinkState) (old new : Replica) (c : Command) (t : Attempt old c) (root : Root) (e : CommitRefusal) → Commits c → Knows disk disk' → old.store.broken ≡ false → StandsAt old.store (placing_for root (state_of old).durable []) []
    → CommitCall disk disk' old.store new.store (bare_manifest (after t).durable) (Err e) → new.store.broken ≡ false
    → Stepped on_bare_store (world_of disk feed rows) (world_of disk' feed rows) (placed root (state_of old) (memory_of old)) (placed root (state_of old) (memory_of old)) c (answer_of (Err (refusal_for e)))
still_stepped disk disk' feed rows old new c t root e k knows was at call whole = record {
  served = still_served_told disk disk' feed rows old new c t root e feed.told k knows at call whole;
  shows = failed_shows disk disk' feed rows old new c t e (state_of old) k call was (λ is. absurd (false≢true (sym whole ∙ is))) (λ is. absurd (false≢true is));
  causes = λ known. failed_cause disk disk' feed rows old new c t root e k at call;
  refused = λ known. subst (λ (o : Option model.Refusal). IfSome o (λ r. RefusesAs r (answer_of (Err (refusal_for e))) × (state_of old ≡ state_of old))) (sym t.free) tt;
  stays = inl refl;
  keeps = λ kept. kept;
  done = λ kept known q. tt;
  reopened = λ again. absurd (false≢true (sym k.reopen ∙ again));
}

still_stands : (disk disk' : DiskState) (old new : Replica) (c : Command) (t : Attempt old c) (root : Root) (e : CommitRefusal) → StandsAt old.store (placing_for root (state_of old).durable []) [] → CommitCall disk disk' old.store new.store (bare_manifest (after t).durable) (Err e)
    → new.store.broken ≡ false → Stays old new → StandsFor new (placed root (state_of old) (memory_of old))
still_stands disk disk' old new c t root e at call whole stays = record {
  memory = sym stays.memory;
  broken = None;
  is_in = sym whole;
  bare = tt;
  state = sym stays.state;
  placing = ap (λ (s : State). placing_for root s.durable []) (sym stays.state);
  besides = [];
  at = refused_stands old.store new.store (placing_for root (state_of old).durable []) [] [] e at call.kept whole;
  whole = λ is. (refl, refl);
  made = refl;
  cached = refl;
}

still_leads : (disk disk' : DiskState) (feed : FeedState) (rows : RowSinkState) (old new : Replica) (c : Command) (r : Result Reply Refusal) (t : Attempt old c) (e : CommitRefusal) → Commits c → Knows disk disk' → old.store.broken ≡ false
    → CommitCall disk disk' old.store new.store (bare_manifest (after t).durable) (Err e) → r ≡ Err (refusal_for e) → Stays old new → new.store.broken ≡ false → LeadsOn (world_of disk feed rows) (world_of disk' feed rows) old new c r
still_leads disk disk' feed rows old new c r t e k knows was call is stays whole x h =
    let at = stands_whole x old h was in
    let y = placed x.placing.root (state_of old) (memory_of old) in (
      y,
      still_stands disk disk' old new c t x.placing.root e at call whole stays,
      subst (λ (z : Result Reply Refusal). Stepped on_bare_store (world_of disk feed rows) (world_of disk' feed rows) x y c (answer_of z)) (sym is)
          (subst (λ (z : Session). Stepped on_bare_store (world_of disk feed rows) (world_of disk' feed rows) z y c (answer_of (Err (refusal_for e)))) (sym (is_placed x old h was))
          (still_stepped disk disk' feed rows old new c t x.placing.root e k knows was at call whole)),
    )

-- ---- where the store is broken

-- where all of the part after is placed, if it is in each image
abbrev failed_at : Bool → Root → Durable → Option Placing
failed_at false root d = None
failed_at true root d = Some (placing_for root d [])

abbrev broken_session : Root → Bool → Root → State → Durable → Memory → Session
broken_session root at_once next s d mem = record { state = record s { broken = Some d }; memory = mem; placing = placing_for root s.durable []; failed = failed_at at_once next d; made = []; cached = [] }

no_points : (ss : List StreamAt) → AllByRecursion (λ (x : Stream). x.points ≡ []) (map low_entry ss)
no_points [] = tt
no_points (a ∷ ss) = (refl, no_points ss)

is_bare : (old : Replica) (c : Command) (t : Attempt old c) → IsBare (bare_manifest (after t).durable)
is_bare old c t = record { minimum = refl; points = no_points (streams_of old.pump); deltas = refl }

names_broken : (at_once : Bool) (next : Root) (d : Durable) → IfSome (failed_at at_once next d) (λ l. IsSome (Some d))
names_broken false next d = tt
names_broken true next d = refl

-- the images are honest for it
broken_honest : (f : Feed) (root : Root) (at_once : Bool) (next : Root) (old : Replica) (c : Command) (t : Attempt old c) (disk : DiskState) → IsBroken disk next at_once (way root old t f)
    → LeavesNow disk (IsHonest f (broken_session root at_once next (state_of old) (after t).durable (memory_of old)))
broken_honest f root false next old c t disk on image i =
    let h = on image i in
    record { part = h.part; sound = h.sound; placed = h.placed; failed = h.failed; job = h.job; within = h.within }
broken_honest f root true next old c t disk on image i =
    let h = on image i in
    record { part = h.part; sound = h.sound; placed = h.placed; failed = h.failed; job = h.job; within = h.within }

broken_serves : (disk disk' : DiskState) (f : Feed) (root : Root) (at_once : Bool) (next : Root) (old : Replica) (c : Command) (t : Attempt old c) → IsSome disk'.told → IsBroken disk' next at_once (way root old t f)
    → Serves on_bare_store disk f (placed root (state_of old) (memory_of old)) → Serves on_bare_store disk' f (broken_session root at_once next (state_of old) (after t).durable (memory_of old))
broken_serves disk disk' f root at_once next old c t told on v =
    let step = free_step f (source_of v.belongs.0) (state_of old) (after t) c (replies t.reply) t.free (t.does f (source_of v.belongs.0)) in
    let b = t.belongs f v.belongs step in
    let y = broken_session root at_once next (state_of old) (after t).durable (memory_of old) in
    serves_bare disk' f y (serves_by disk' f y (belongs_in f (state_of old) (memory_of old) (Some (after t).durable) v.belongs) tt (b.1.lawful, (b.0, b.1.fronts, b.1.sound)) (omega arith)
    (record { of_failed = names_broken at_once next (after t).durable; of_job = refl; apart = refl }) told
    (λ image i. record { root = λ whole. absurd (false≢true (sym whole)); honest = broken_honest f root at_once next old c t disk' on image i }) (λ image i. tt))

-- an image of the session after has what the broken one would have left
broken_leaves : (f : Feed) (root : Root) (at_once : Bool) (next : Root) (old : Replica) (c : Command) (t : Attempt old c) (image : List ℕ) → LeavesSession f (placed root (state_of old) (memory_of old)) image ⊎ LeavesSession f (placed next (after t) t.memory) image
    → LeavesSession f (placed root (state_of old) (memory_of old)) image ⊎ LeavesSession f (broken_session root at_once next (state_of old) (after t).durable (memory_of old)) image
broken_leaves f root at_once next old c t image (inl h) = inl h
broken_leaves f root at_once next old c t image (inr h) = inr (h.0, by h.1)
  where
    by : LeavesPart (after t) image → LeavesPart (record (state_of old) { broken = Some (after t).durable }) image
    by (inl holds) = inr ((after t).durable, refl, holds)
    by (inr other) = absurd (let none : None ≡ Some other.0 = other.1 in cc)

broken_served : (disk disk' : DiskState) (feed : FeedState) (rows : RowSinkState) (old new : Replica) (c : Command) (t : Attempt old c) (root : Root) (f : Feed) → Commits c → StandsAt old.store (placing_for root (state_of old).durable []) []
    → (call : CommitCall disk disk' old.store new.store (bare_manifest (after t).durable) (Err commits.Disk)) → new.store.broken ≡ true → (v : Serves on_bare_store disk f (placed root (state_of old) (memory_of old)))
    → Served on_bare_store f (world_of disk feed rows) (world_of disk' feed rows) (placed root (state_of old) (memory_of old)) (broken_session root call.leads.placed call.leads.root (state_of old) (after t).durable (memory_of old)) c (Err model.disk_fault)
broken_served disk disk' feed rows old new c t root f k at call broken v =
    let x = placed root (state_of old) (memory_of old) in
    let d = (after t).durable in
    let y = broken_session root call.leads.placed call.leads.root (state_of old) d (memory_of old) in
    let h = call.leads.each (way root old t f) (is_ready disk old c t root f at v) in
    let told = call.goes.stays.0 v.rests.told in
    let leaves : AfterFault f (source_of v.belongs.0) (state_of old) c model.disk_fault y.state = inr (inr (refl, (d, k.leaves f (source_of v.belongs.0) (state_of old) d (replies t.reply) (after t) (t.does f (source_of v.belongs.0)) refl, refl, k.breaks))) in
    let answers = fault_answers disk disk' feed rows f old c t root commits.Disk y.state k at v.belongs.0 v.belongs.1.fronts call.refused call.cause leaves in
    let up = answers_keep (on_bare_store.cause (counts_at (world_of disk feed rows)) (counts_at (world_of disk' feed rows)) f x c) f (state_of old) y.state c (refuses model.disk_fault) ((v.belongs.0, v.belongs.1), v.failed.0, v.failed.1) answers in
    record {
      given = [];
      rows = given_nothing rows (Err model.disk_fault);
      answers = answers;
      serves = broken_serves disk disk' f root call.leads.placed call.leads.root old c t told (h.broken broken) v;
      next = inl refl;
      any_moment = each_weaker disk disk' (IsRootedOnEither f (state_of old) (placing_for root (state_of old).durable []) [] (after t) (placing_for call.leads.root d []) []) (λ image. LeavesSession f x image ⊎ LeavesSession f y image) h.any_moment
          (λ image i. broken_leaves f root call.leads.placed call.leads.root old c t image (leaves_either f root call.leads.root old c t image i));
      minimum = up.1;
      checkpoints = up.2;
    }

broken_served_told : (disk disk' : DiskState) (feed : FeedState) (rows : RowSinkState) (old new : Replica) (c : Command) (t : Attempt old c) (root : Root) (told : Option Feed) → Commits c → StandsAt old.store (placing_for root (state_of old).durable []) []
    → (call : CommitCall disk disk' old.store new.store (bare_manifest (after t).durable) (Err commits.Disk)) → new.store.broken ≡ true → IfSome told (λ f. Serves on_bare_store disk f (placed root (state_of old) (memory_of old))
    → Served on_bare_store f (world_of disk feed rows) (world_of disk' feed rows) (placed root (state_of old) (memory_of old)) (broken_session root call.leads.placed call.leads.root (state_of old) (after t).durable (memory_of old)) c (Err model.disk_fault))
broken_served_told disk disk' feed rows old new c t root None k at call broken = tt
broken_served_told disk disk' feed rows old new c t root (Some f) k at call broken = λ v. broken_served disk disk' feed rows old new c t root f k at call broken v

broken_stepped : (disk disk' : DiskState) (feed : FeedState) (rows : RowSinkState) (old new : Replica) (c : Command) (t : Attempt old c) (root : Root) → Commits c → old.store.broken ≡ false → StandsAt old.store (placing_for root (state_of old).durable []) []
    → (call : CommitCall disk disk' old.store new.store (bare_manifest (after t).durable) (Err commits.Disk)) → new.store.broken ≡ true
    → Stepped on_bare_store (world_of disk feed rows) (world_of disk' feed rows) (placed root (state_of old) (memory_of old)) (broken_session root call.leads.placed call.leads.root (state_of old) (after t).durable (memory_of old)) c (Err model.disk_fault)
broken_stepped disk disk' feed rows old new c t root k was at call broken =
    let y = broken_session root call.leads.placed call.leads.root (state_of old) (after t).durable (memory_of old) in
    record {
      served = broken_served_told disk disk' feed rows old new c t root feed.told k at call broken;
      shows = failed_shows disk disk' feed rows old new c t commits.Disk y.state k call was (λ is. refl) (λ is. rose);
      causes = λ known. failed_cause disk disk' feed rows old new c t root commits.Disk k at call;
      refused = λ known. subst (λ (o : Option model.Refusal). IfSome o (λ r. RefusesAs r (Err model.disk_fault) × (y.state ≡ state_of old))) (sym t.free) tt;
      stays = inr (inr (refl, k.breaks, ((after t).durable, refl)));
      keeps = λ kept. record { names = kept.names; above = kept.above; job = tt };
      done = λ kept known q. tt;
      reopened = λ again. absurd (false≢true (sym k.reopen ∙ again));
    }
  where
    rose : Rose disk.write_faults disk'.write_faults
    rose = let h : HasCause disk.write_faults disk'.write_faults (fault_if true) = subst (λ (b : Bool). HasCause disk.write_faults disk'.write_faults (fault_if b)) broken call.breaks in h.failed

broken_stands_for : (disk disk' : DiskState) (old new : Replica) (c : Command) (t : Attempt old c) (root : Root) → StandsAt old.store (placing_for root (state_of old).durable []) [] → (call : CommitCall disk disk' old.store new.store (bare_manifest (after t).durable) (Err commits.Disk))
    → new.store.broken ≡ true → Stays old new → StandsFor new (broken_session root call.leads.placed call.leads.root (state_of old) (after t).durable (memory_of old))
broken_stands_for disk disk' old new c t root at call broken stays =
    let stands = broken_stands old.store new.store (placing_for root (state_of old).durable []) [] [] commits.Disk at call.kept in
    record {
      memory = sym stays.memory;
      broken = Some (after t).durable;
      is_in = sym broken;
      bare = is_bare old c t;
      state = ap (λ (s : State). record s { broken = Some (after t).durable }) (sym stays.state);
      placing = ap (λ (s : State). placing_for root s.durable []) (sym stays.state);
      besides = stands.0;
      at = stands.1;
      whole = λ whole. absurd (false≢true (sym whole ∙ broken));
      made = refl;
      cached = refl;
    }

broken_leads : (disk disk' : DiskState) (feed : FeedState) (rows : RowSinkState) (old new : Replica) (c : Command) (r : Result Reply Refusal) (t : Attempt old c) → Commits c → old.store.broken ≡ false
    → CommitCall disk disk' old.store new.store (bare_manifest (after t).durable) (Err commits.Disk) → r ≡ Err (refusal_for commits.Disk) → Stays old new → new.store.broken ≡ true → LeadsOn (world_of disk feed rows) (world_of disk' feed rows) old new c r
broken_leads disk disk' feed rows old new c r t k was call is stays broken x h =
    let root = x.placing.root in
    let at = stands_whole x old h was in
    let y = broken_session root call.leads.placed call.leads.root (state_of old) (after t).durable (memory_of old) in (
      y,
      broken_stands_for disk disk' old new c t root at call broken stays,
      subst (λ (z : Result Reply Refusal). Stepped on_bare_store (world_of disk feed rows) (world_of disk' feed rows) x y c (answer_of z)) (sym is)
          (subst (λ (z : Session). Stepped on_bare_store (world_of disk feed rows) (world_of disk' feed rows) z y c (Err model.disk_fault)) (sym (is_placed x old h was))
          (broken_stepped disk disk' feed rows old new c t root k was at call broken)),
    )

-- only the disk breaks a store
broken_by_disk : (old new : Store) (e : CommitRefusal) → HasKept old new [] (Err e) → old.broken ≡ false → new.broken ≡ true → e ≡ commits.Disk
broken_by_disk old new e (inl same) was is = absurd (false≢true (sym was ∙ sym same.broken ∙ is))
broken_by_disk old new e (inr off) was is = off.0

failed_leads : (disk disk' : DiskState) (feed : FeedState) (rows : RowSinkState) (old new : Replica) (c : Command) (r : Result Reply Refusal) (t : Attempt old c) (e : CommitRefusal) → Commits c → Knows disk disk' → old.store.broken ≡ false
    → CommitCall disk disk' old.store new.store (bare_manifest (after t).durable) (Err e) → r ≡ Err (refusal_for e) → Stays old new → LeadsOn (world_of disk feed rows) (world_of disk' feed rows) old new c r
failed_leads disk disk' feed rows old new c r t e k knows was call is stays = by new.store.broken refl
  where
    by : (b : Bool) → new.store.broken ≡ b → LeadsOn (world_of disk feed rows) (world_of disk' feed rows) old new c r
    by false whole = still_leads disk disk' feed rows old new c r t e k knows was call is stays whole
    by true broken =
        let the_disk = broken_by_disk old.store new.store e call.kept was broken in
        broken_leads disk disk' feed rows old new c r t k was (subst (λ (z : CommitRefusal). CommitCall disk disk' old.store new.store (bare_manifest (after t).durable) (Err z)) the_disk call) (is ∙ ap (λ (z : CommitRefusal). Err (refusal_for z)) the_disk) stays broken

tried_leads : (disk disk' : DiskState) (feed : FeedState) (rows : RowSinkState) (old new : Replica) (c : Command) (r : Result Reply Refusal) (t : Attempt old c) (result : Result (Unit {0}) CommitRefusal) → Commits c → Knows disk disk' → old.store.broken ≡ false
    → CommitCall disk disk' old.store new.store (bare_manifest (after t).durable) result → IsLeft old new t result r → LeadsOn (world_of disk feed rows) (world_of disk' feed rows) old new c r
tried_leads disk disk' feed rows old new c r t (Ok x) k knows was call left = done_leads disk disk' feed rows old new c r t left.0 k was call left.1 left.2 left.3 left.4
tried_leads disk disk' feed rows old new c r t (Err e) k knows was call left = failed_leads disk disk' feed rows old new c r t e k knows was call left.0 left.1

-- A command that commits leads from each session that the replica stood for to one that it stands for.
pub commit_leads : (disk disk' : DiskState) (feed : FeedState) (rows : RowSinkState) (old new : Replica) (c : Command) (r : Result Reply Refusal) → IsCommitting c → Knows disk disk' → Tried disk disk' old new c r → LeadsOn (world_of disk feed rows) (world_of disk' feed rows) old new c r
commit_leads disk disk' feed rows old new c r is knows (refuses_it e answer why stays store quiet goes) = refused_leads disk disk' feed rows old new c r e (commits_of c is) knows answer why stays store quiet goes
commit_leads disk disk' feed rows old new c r is knows (tries t result whole call left) = tried_leads disk disk' feed rows old new c r t result (commits_of c is) knows whole call left
