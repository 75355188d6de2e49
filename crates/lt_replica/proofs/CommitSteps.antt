-- What a command that commits leads to: refused, or done, or failed, on the images that a crash may leave.
use Rattle.std.proofs.Common.{List, [], ap, arith, false, inl, inr, length, lt-ltb, refl, subst, sym, true, ℕ, ◌++◌, ◌<◌, ◌∙◌, ◌∷◌, ◌≡◌}
use Rattle.std.proofs.lemmas.Bool.{false≢true}
use Rattle.std.specs.Prelude.{Err, IfSome, IsSome, IsTrue, None, Option, Result, Some, is_some, filter, flat_map, if◌then◌else◌, nat_le, ◌⊎◌}
use Rattle.lt_terms.specs.Log.{Change, Header, Item}
use Rattle.lt_world.specs.Disk.{DiskGoes, DiskState, LeavesNow, LeftOnly}
use Rattle.lt_world.specs.Feed.{Feed, FeedState}
use Rattle.lt_world.specs.RowSink.{RowSinkState}
use Rattle.lt_tables.specs.Query.{Command, Literal, do_retire, do_schema, do_split}
use Rattle.lt_words.specs.Reply as model
use Rattle.lt_storage.specs.Store.{Delta, Durable, bundle_lengths, index_length, manifest_length, bare_manifest, manifest_bytes}
use Rattle.lt_machine.specs.Machine.{Answer, Does, DoesOver, State, cat_of, is_reopen, is_write, refused, refuses}
use Rattle.lt_machine.specs.OverStore.{store_causes}
use Rattle.lt_machine.specs.Outside.{BelongsTo, IsKept, LeavesSession, MemoryAbove, World, commit_lengths, counts_at, piece_lengths, world_of, writes_bundles}
use Rattle.lt_machine.specs.Run.{Answers, Shows, calls_feed, looks_at_bundles, may_break, may_end_in, uses_disk, WouldLeave}
use Rattle.lt_machine.specs.Sound.{Fronts, Session}
use Rattle.lt_machine.specs.Step.{MayRefuse, RefusesAs, Served, Serves, Stepped}
use Rattle.lt_reply.specs.View.{view_refusal}
use Rattle.lt_reply.specs.declared.refusal.Refusal.{Refusal}
use Rattle.lt_reply.specs.declared.reply.Reply.{Reply}
use Rattle.lt_steps.proofs.PathLaws.{answers_keep}
use Rattle.lt_replica.specs.BareStore.{on_bare_store}
use Rattle.lt_replica.specs.Committing.{IsQuiet}
use Rattle.lt_replica.specs.State.{IsIn, memory_of, state_in, state_of}
use Rattle.lt_replica.specs.Stepped.{LeadsOn}
use Rattle.lt_replica.specs.Steps.{Refuses, Stays, answer_of}
use Rattle.lt_replica.specs.declared.replica.Replica.{Replica}
use Rattle.lt_replica.proofs.BrokenLaws.{belongs_of, with_broken}
use Rattle.lt_replica.proofs.Results.{refused_or_lacks}
use Rattle.lt_replica.specs.Pumping.{KeepsStore}
use Rattle.lt_replica.proofs.StepLaws.{at_replica, given_nothing, is_replica, refusal_answers, serves_still, stands_still, and_stays, is_refused}

-- the commands that commit, of those that are built
pub data IsCommitting : Command → Type 0 where
  commits_schema : (text : List ℕ) → IsCommitting (do_schema text)
  commits_retire : (name : List ℕ) (v : ℕ) → IsCommitting (do_retire name v)
  commits_split : (name : List ℕ) (ls : List Literal) → IsCommitting (do_split name ls)

-- what is the same for each of them
pub record Commits (c : Command) : Type 0 where
  pub write : is_write c ≡ true
  pub quiet : calls_feed c ≡ false
  pub reopen : is_reopen c ≡ false
  pub uses : uses_disk c ≡ true
  pub looks : looks_at_bundles c ≡ false
  pub breaks : IsTrue (may_break c)
  pub memory : IsTrue (may_end_in c model.out_of_memory)
  pub disk : IsTrue (may_end_in c model.disk_fault)
  pub full : (need room : ℕ) → room < need → IsTrue (may_end_in c (model.store_full need room))
  pub piece : (s s' : State) → s'.durable.shelf ≡ [] → piece_lengths c s s' ≡ length (manifest_bytes (bare_manifest s'.durable)) ∷ []
  pub leaves : (f : Feed) (source : List Change) (s : State) (d : Durable) (a : Answer) (s' : State) → Does f source s c a s' → d ≡ s'.durable → WouldLeave f source s c d
  pub over : (told : Option Feed) (source : List Change) (s : State) (a : Answer) (s' : State) → ((f : Feed) → Does f source s c a s') → DoesOver told source s c a s'

one_piece : (s s' : State) (c : Command) → s'.durable.shelf ≡ [] → commit_lengths c s s' ≡ length (manifest_bytes (bare_manifest s'.durable)) ∷ []
one_piece s s' c none =
    ap (λ (ds : List Delta). flat_map (λ d. (if writes_bundles c then bundle_lengths d else []) ++ index_length d ∷ []) (filter (λ d. nat_le s.durable.next_id d.id) ds) ++ manifest_length s'.durable ∷ []) none

pub commits_of : (c : Command) → IsCommitting c → Commits c
commits_of c (commits_schema text) = record {
  write = refl;
  quiet = refl;
  reopen = refl;
  uses = refl;
  looks = refl;
  breaks = refl;
  memory = refl;
  disk = refl;
  full = λ need room less. lt-ltb room need less;
  piece = λ s s' none. one_piece s s' (do_schema text) none;
  leaves = λ f source s d a s' does is. (a, s', does, is);
  over = λ told source s a s' does. does;
}
commits_of c (commits_retire name v) = record {
  write = refl;
  quiet = refl;
  reopen = refl;
  uses = refl;
  looks = refl;
  breaks = refl;
  memory = refl;
  disk = refl;
  full = λ need room less. lt-ltb room need less;
  piece = λ s s' none. one_piece s s' (do_retire name v) none;
  leaves = λ f source s d a s' does is. (a, s', does, is);
  over = λ told source s a s' does. does;
}
commits_of c (commits_split name ls) = record {
  write = refl;
  quiet = refl;
  reopen = refl;
  uses = refl;
  looks = refl;
  breaks = refl;
  memory = refl;
  disk = refl;
  full = λ need room less. lt-ltb room need less;
  piece = λ s s' none. one_piece s s' (do_split name ls) none;
  leaves = λ f source s d a s' does is. (a, s', does, is);
  over = λ told source s a s' does. does;
}

-- ---- refused before anything was written

-- what the traits' laws say of the disk before and after
pub record Knows (disk disk' : DiskState) : Type 0 where
  -- what a crash may leave now it may have left since any moment
  pub counts : (image : List ℕ) → disk'.leaves image → disk'.left_since disk.clock image

-- what holds of each image that was left holds of each that is
pub now_all : (disk disk' : DiskState) (P : List ℕ → Type 0) → Knows disk disk' → LeftOnly disk disk' P → LeavesNow disk' P
now_all disk disk' P knows left image i = left.each image (knows.counts image i)

pub each_weaker : (disk disk' : DiskState) (P Q : List ℕ → Type 0) → LeftOnly disk disk' P → ((image : List ℕ) → P image → Q image) → LeftOnly disk disk' Q
each_weaker disk disk' P Q left more = record {
  later = left.later;
  each = λ image i. more image (left.each image i);
  before = λ t image l i. by image (left.before t image l i);
}
  where
    by : {A : Type 0} (image : List ℕ) → A ⊎ P image → A ⊎ Q image
    by image (inl a) = inl a
    by image (inr p) = inr (more image p)

-- on a disk that exposes its bytes still, with no image that was not one of those before, a session serves its feed
pub serves_on : (disk disk' : DiskState) (f : Feed) (x : Session) → IsSome disk'.told → LeavesNow disk' disk.leaves → Serves on_bare_store disk f x → Serves on_bare_store disk' f x
serves_on disk disk' f x told fewer v = record {
  belongs = v.belongs;
  kept = v.kept;
  failed = v.failed;
  rests = record { told = told; besides = v.rests.besides; stands = λ image i. v.rests.stands image (fewer image i); cached = λ image i. v.rests.cached image (fewer image i) };
  stands = λ image i. v.stands image (fewer image i);
}

refused_answers : (f : Feed) (x : Session) (w w' : World) (old new : Replica) (b : Option Durable) (c : Command) (e : Refusal) → Commits c → IsIn old b → Refuses (refused (state_in old b) c) e → Stays old new → (fs : List (Header × List Item)) → Fronts f (cat_of (state_of old)) fs
    → Answers (on_bare_store.cause (counts_at w) (counts_at w') f (at_replica x b old) c) f (state_in old b) c (refuses (view_refusal e)) (state_in new b)
refused_answers f x w w' old new b c e k is_in ref stays fs fronts =
    subst (λ (s : State). Answers (on_bare_store.cause (counts_at w) (counts_at w') f (at_replica x b old) c) f (state_in old b) c (refuses (view_refusal e)) (with_broken b s)) (sym stays.state)
    (refusal_answers (store_causes (counts_at w) (counts_at w') f (at_replica x b old) c) f fs (state_in old b) c e k.memory fronts ref)

same_store : (old new : Replica) → Stays old new → new.store ≡ old.store → KeepsStore old new
same_store old new stays store = record { store = store; durable = ap (λ (s : State). s.durable) stays.state }

stays_belongs_in : (f : Feed) (old new : Replica) → Stays old new → BelongsTo f (state_of old) (memory_of old) → BelongsTo f (state_of new) (memory_of new)
stays_belongs_in f old new stays b = subst (λ (s : State). BelongsTo f s (memory_of new)) (sym stays.state) (subst (BelongsTo f (state_of old)) (sym stays.memory) b)

stays_above_in : (old new : Replica) (b : Option Durable) → Stays old new → MemoryAbove (state_in old b) (memory_of old) → MemoryAbove (state_in new b) (memory_of new)
stays_above_in old new b stays a = subst (λ (s : State). MemoryAbove (with_broken b s) (memory_of new)) (sym stays.state) (subst (MemoryAbove (state_in old b)) (sym stays.memory) a)

kept_in : (x : Session) (old new : Replica) (b : Option Durable) → Stays old new → IsKept (at_replica x b old) → IsKept (at_replica x b new)
kept_in x old new b stays k = record { names = refl; above = stays_above_in old new b stays k.above; job = tt }

tells_still : (disk disk' : DiskState) → disk'.told ≡ disk.told → IsSome disk.told → IsSome disk'.told
tells_still disk disk' same told = subst IsSome (sym same) told

refused_serves : (disk disk' : DiskState) (f : Feed) (x : Session) (old new : Replica) (b : Option Durable) → Knows disk disk' → KeepsStore old new → Stays old new → IsQuiet disk disk' → Serves on_bare_store disk f (at_replica x b old) → Serves on_bare_store disk' f (at_replica x b new)
refused_serves disk disk' f x old new b knows k stays quiet v =
    serves_on disk disk' f (at_replica x b new) (tells_still disk disk' quiet.told v.rests.told) (now_all disk disk' disk.leaves knows quiet.images)
    (serves_still disk f x old new b k (stays_belongs_in f old new stays (belongs_of f (state_of old) (memory_of old) b v.belongs)) v)

refused_served : (disk disk' : DiskState) (feed : FeedState) (rows : RowSinkState) (x : Session) (old new : Replica) (b : Option Durable) (c : Command) (e : Refusal) (f : Feed) → Commits c → Knows disk disk' → IsIn old b → Refuses (refused (state_in old b) c) e
    → KeepsStore old new → Stays old new → IsQuiet disk disk' → DiskGoes disk disk' → Serves on_bare_store disk f (at_replica x b old)
    → Served on_bare_store f (world_of disk feed rows) (world_of disk' feed rows) (at_replica x b old) (at_replica x b new) c (Err (view_refusal e))
refused_served disk disk' feed rows x old new b c e f k knows is_in ref store stays quiet goes v =
    let w = world_of disk feed rows in
    let w' = world_of disk' feed rows in
    let answers = refused_answers f x w w' old new b c e k is_in ref stays v.belongs.0 v.belongs.1.fronts in
    let up = answers_keep (on_bare_store.cause (counts_at w) (counts_at w') f (at_replica x b old) c) f (state_in old b) (state_in new b) c (refuses (view_refusal e)) ((v.belongs.0, v.belongs.1), v.failed.0, v.failed.1) answers in
    record {
      given = [];
      rows = given_nothing rows (Err (view_refusal e));
      answers = answers;
      serves = refused_serves disk disk' f x old new b knows store stays quiet v;
      next = inl refl;
      any_moment = each_weaker disk disk' disk.leaves (λ image. LeavesSession f (at_replica x b old) image ⊎ LeavesSession f (at_replica x b new) image) quiet.images (λ image i. inl (v.stands image i));
      minimum = up.1;
      checkpoints = up.2;
    }

refused_served_told : (disk disk' : DiskState) (feed : FeedState) (rows : RowSinkState) (x : Session) (old new : Replica) (b : Option Durable) (c : Command) (e : Refusal) (told : Option Feed) → Commits c → Knows disk disk' → IsIn old b → Refuses (refused (state_in old b) c) e
    → KeepsStore old new → Stays old new → IsQuiet disk disk' → DiskGoes disk disk'
    → IfSome told (λ f. Serves on_bare_store disk f (at_replica x b old) → Served on_bare_store f (world_of disk feed rows) (world_of disk' feed rows) (at_replica x b old) (at_replica x b new) c (Err (view_refusal e)))
refused_served_told disk disk' feed rows x old new b c e None k knows is_in ref store stays quiet goes = tt
refused_served_told disk disk' feed rows x old new b c e (Some f) k knows is_in ref store stays quiet goes = λ v. refused_served disk disk' feed rows x old new b c e f k knows is_in ref store stays quiet goes v

refused_shows : (disk disk' : DiskState) (feed : FeedState) (rows : RowSinkState) (s s' : State) (c : Command) (e : Refusal) → Commits c → IsQuiet disk disk' → DiskGoes disk disk' → s'.broken ≡ s.broken
    → Shows (counts_at (world_of disk feed rows)) (counts_at (world_of disk' feed rows)) s s' c (Err (view_refusal e))
refused_shows disk disk' feed rows s s' c e k quiet goes same = record {
  later = record { feed = omega arith; calls = omega arith; script = omega arith; disk = goes.faults; write_faults = goes.write_faults; out = omega arith; clock = goes.clock };
  succeeded = tt;
  feed_failed = λ less. absurd (omega (arith, less));
  write_failed = λ less. let kept = quiet.write_faults in absurd (omega (arith, kept, less));
  disk_failed = λ free less. let kept = quiet.faults in absurd (omega (arith, kept, less));
  out_failed = λ less. absurd (omega (arith, less));
  called = λ yes tells. absurd (false≢true (sym k.quiet ∙ yes));
  not_called = λ no. refl;
  not_used = λ no. absurd (false≢true (sym no ∙ k.uses));
  breaks = λ whole broken. absurd (false≢true (sym whole ∙ ap is_some (sym same) ∙ broken));
}

-- why it is refused: by the state, or out of memory
refused_cause : (w w' : World) (x : Session) (s : State) (c : Command) (e : Refusal) → Commits c → Refuses (refused s c) e → x.state ≡ s → MayRefuse on_bare_store w w' x c (view_refusal e)
refused_cause w w' x s c e k ref same =
    refused_or_lacks (MayRefuse on_bare_store w w' x c) (refused s c) (λ y is. inl (subst (λ (t : State). refused t c ≡ Some (view_refusal y)) (sym same) is)) (inr (refl, k.memory, inl tt)) e ref

refused_stepped : (disk disk' : DiskState) (feed : FeedState) (rows : RowSinkState) (x : Session) (old new : Replica) (b : Option Durable) (c : Command) (e : Refusal) → Commits c → Knows disk disk' → IsIn old b → Refuses (refused (state_in old b) c) e
    → KeepsStore old new → Stays old new → IsQuiet disk disk' → DiskGoes disk disk' → Stepped on_bare_store (world_of disk feed rows) (world_of disk' feed rows) (at_replica x b old) (at_replica x b new) c (Err (view_refusal e))
refused_stepped disk disk' feed rows x old new b c e k knows is_in ref store stays quiet goes =
    let same : state_in new b ≡ state_in old b = ap (with_broken b) stays.state in
    record {
      served = refused_served_told disk disk' feed rows x old new b c e feed.told k knows is_in ref store stays quiet goes;
      shows = refused_shows disk disk' feed rows (state_in old b) (state_in new b) c e k quiet goes refl;
      causes = λ known. refused_cause (world_of disk feed rows) (world_of disk' feed rows) (at_replica x b old) (state_in old b) c e k ref refl;
      refused = λ known. and_stays (refused (state_in old b) c) (λ r. RefusesAs r (Err (view_refusal e))) same (is_refused (refused (state_in old b) c) e ref);
      stays = inl same;
      keeps = kept_in x old new b stays;
      done = λ kept known q. tt;
      reopened = λ again. absurd (false≢true (sym k.reopen ∙ again));
    }

pub refused_leads : (disk disk' : DiskState) (feed : FeedState) (rows : RowSinkState) (old new : Replica) (c : Command) (r : Result Reply Refusal) (e : Refusal) → Commits c → Knows disk disk' → r ≡ Err e → ((b : Option Durable) → IsIn old b → Refuses (refused (state_in old b) c) e)
    → Stays old new → new.store ≡ old.store → IsQuiet disk disk' → DiskGoes disk disk' → LeadsOn (world_of disk feed rows) (world_of disk' feed rows) old new c r
refused_leads disk disk' feed rows old new c r e k knows is ref stays store quiet goes x h =
    let b = h.broken in
    let same = same_store old new stays store in (
      at_replica x b new,
      stands_still x old new h same,
      subst (λ (z : Result Reply Refusal). Stepped on_bare_store (world_of disk feed rows) (world_of disk' feed rows) x (at_replica x b new) c (answer_of z)) (sym is)
          (subst (λ (z : Session). Stepped on_bare_store (world_of disk feed rows) (world_of disk' feed rows) z (at_replica x b new) c (Err (view_refusal e))) (sym (is_replica x old h))
          (refused_stepped disk disk' feed rows x old new b c e k knows h.is_in (ref b h.is_in) same stays quiet goes)),
    )
