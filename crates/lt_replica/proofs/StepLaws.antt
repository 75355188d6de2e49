-- What a step promises of a command that does not use the disk, and calls no feed: what it answers is the machine's.
use Rattle.std.proofs.Common.{List, [], ap, ap₂, append-nil, arith, false, inl, inr, refl, subst, sym, ℕ, ◌++◌, ◌∙◌, ◌≡◌, ◌⊎◌}
use Rattle.std.proofs.KnownBytes.{Appends-nil}
use Rattle.std.proofs.lemmas.Bool.{false≢true}
use Rattle.std.specs.Prelude.{Err, IfErr, IfOk, IfSome, IsTrue, None, Ok, OnOk, Option, Result, Some, is_some, ◌&&◌}
use Rattle.lt_world.specs.Disk.{DiskState}
use Rattle.lt_world.specs.Feed.{Feed}
use Rattle.lt_machine.specs.OverStore.{any_store_causes, on_store, store_causes}
use Rattle.lt_terms.specs.Log.{Change, Header, Item}
use Rattle.lt_machine.specs.Machine.{Answer, Does, DoesOver, State, Step, StepBy, cat_of, is_reopen, ranges_of, refused, refuses, replies, split_key}
use Rattle.lt_world.specs.Feed.{FeedGoes, FeedState}
use Rattle.lt_world.specs.RowSink.{RowSinkGoes, RowSinkState}
use Rattle.lt_machine.specs.Outside.{AreBesides, BelongsTo, Causes, GivenUpTo, HoldsEither, IsHonest, IsKept, MemoryAbove, StandsOn, StaysBut, World, WorldGoes, caused_by, counts_at, world_of}
use Rattle.lt_world.specs.Extents.{apart, are_apart}
use Rattle.lt_storage.specs.Store.{Durable, HasPlaced, Holds, extents_of}
use Rattle.lt_image_laws.specs.Shelf.{placing_for}
use Rattle.lt_store.specs.Standing.{StandsAt}
use Rattle.lt_store.specs.declared.store.Store.{Store}
use Rattle.lt_steps.proofs.StoreServes.{serves_by}
use Rattle.lt_replica.specs.BareStore.{on_bare_store}
use Rattle.lt_replica.proofs.BrokenLaws.{IsReading, answers_in, belongs_in, belongs_of, never_breaks, over_in, reads_status, refused_in, with_broken}
use Rattle.lt_replica.proofs.CauseLaws.{caused_more}
use Rattle.std.specs.List.{list_all}
use Rattle.lt_machine.specs.Sound.{Memory}
use Rattle.lt_tables.specs.Query.{Literal}
use Rattle.lt_words.specs.Reply as model
use Rattle.lt_machine.specs.Run.{Answers, Counts, FaultsIn, Shows, calls_feed, is_fault, may_end_in}
use Rattle.lt_tables.specs.Query.{Command, do_retire, do_schema, do_split, do_status}
use Rattle.lt_machine.specs.Sound.{Fronts, Session, source_of}
use Rattle.lt_machine.specs.Step.{MayRefuse, RefusesAs, Served, Serves, Stepped, held_changes}
use Rattle.lt_terms.specs.Value.{Value}
use Rattle.lt_reply.specs.View.{IsSpoken, view_refusal, view_reply}
use Rattle.lt_reply.specs.declared.refusal.Refusal.{Refusal}
use Rattle.lt_reply.specs.declared.reply.Reply.{Reply}
use Rattle.lt_pump.proofs.FeedLaws.{goes_itself}
use Rattle.lt_rows.proofs.MapViews.{if_ok}
use Rattle.lt_steps.proofs.AboveLaws.{memory_is_above}
use Rattle.lt_steps.proofs.PathLaws.{answers_keep}
use Rattle.lt_steps.proofs.SplitMemory.{memory_splits}
use Rattle.lt_steps.proofs.StayedMemory.{memory_stays}
use Rattle.lt_steps.specs.Memory.{split_memory}
use Rattle.lt_replica.specs.Pumping.{KeepsStore}
use Rattle.lt_replica.specs.State.{StandsFor, memory_of, state_in, state_of}
use Rattle.lt_replica.specs.Steps.{Done, Refuses, Splits, Stays, answer_of, with_rows}
use Rattle.lt_replica.specs.Stepped.{IsAnswered, LeadsOn, Moves, memory_causes}
use Rattle.lt_replica.specs.declared.replica.Replica.{Replica}
use Rattle.lt_replica.proofs.Results.{refused_or_lacks, refuses_spoken}

-- ---- from a replica to the session that it stands for

-- the session as it was placed, with the replica's state and memory
abbrev pub at_replica : Session → Option Durable → Replica → Session
at_replica x b r = record x { state = state_in r b; memory = memory_of r }

with_state : Session → State → Memory → Session
with_state x s mem = record x { state = s; memory = mem }

pub is_replica : (x : Session) (r : Replica) → (h : StandsFor r x) → x ≡ at_replica x h.broken r
unfolding with_state
is_replica x r h = ap₂ (with_state x) h.state h.memory

pub stands_still : (x : Session) (old new : Replica) → (h : StandsFor old x) → KeepsStore old new → StandsFor new (at_replica x h.broken new)
stands_still x old new h k = record {
  memory = refl;
  broken = h.broken;
  is_in = subst (λ (s : Store). is_some h.broken ≡ s.broken) (sym k.store) h.is_in;
  bare = h.bare;
  state = refl;
  placing = subst (λ (d : Durable). x.placing ≡ placing_for x.placing.root d []) (sym k.durable) h.placing;
  besides = h.besides;
  at = subst (λ (s : Store). StandsAt s x.placing h.besides) (sym k.store) h.at;
  whole = λ whole. h.whole (subst (λ (s : Store). s.broken ≡ false) k.store whole);
  made = h.made;
  cached = h.cached;
}

-- what a session serves on a store, and on a bare one
pub serves_bare : (disk : DiskState) (f : Feed) (x : Session) → Serves on_store disk f x → Serves on_bare_store disk f x
serves_bare disk f x v = record { belongs = v.belongs; kept = v.kept; failed = v.failed; rests = v.rests; stands = v.stands }

either_same : (x : Session) (old new : Replica) (b : Option Durable) (image : List ℕ) → KeepsStore old new → HoldsEither (at_replica x b old) image → HoldsEither (at_replica x b new) image
either_same x old new b image k (inl h) = inl (subst (Holds image) (sym k.durable) h)
either_same x old new b image k (inr h) = inr h

honest_same : (f : Feed) (x : Session) (old new : Replica) (b : Option Durable) (image : List ℕ) → KeepsStore old new → IsHonest f (at_replica x b old) image → IsHonest f (at_replica x b new) image
honest_same f x old new b image k h = record {
  part = either_same x old new b image k h.part;
  sound = h.sound;
  placed = subst (λ (d : Durable). HasPlaced d x.placing image) (sym k.durable) h.placed;
  failed = h.failed;
  job = h.job;
  within = h.within;
}

stands_same : (f : Feed) (x : Session) (old new : Replica) (b : Option Durable) (image : List ℕ) → KeepsStore old new → StandsOn f (at_replica x b old) image → StandsOn f (at_replica x b new) image
stands_same f x old new b image k h = record { root = h.root; honest = honest_same f x old new b image k h.honest }

besides_same : (x : Session) (old new : Replica) (b : Option Durable) → KeepsStore old new → AreBesides (at_replica x b old) → AreBesides (at_replica x b new)
besides_same x old new b k h = record {
  of_failed = h.of_failed;
  of_job = h.of_job;
  apart = subst (λ (d : Durable). IsTrue (are_apart d.limit x.made && list_all (λ e. list_all (apart e) (extents_of x.placing)) x.made)) (sym k.durable) h.apart;
}

-- it serves the feed still
pub serves_still : (disk : DiskState) (f : Feed) (x : Session) (old new : Replica) (b : Option Durable) → KeepsStore old new → BelongsTo f (state_of new) (memory_of new) → Serves on_bare_store disk f (at_replica x b old) → Serves on_bare_store disk f (at_replica x b new)
serves_still disk f x old new b k belongs v = serves_bare disk f (at_replica x b new)
    (serves_by disk f (at_replica x b new) (belongs_in f (state_of new) (memory_of new) b belongs) tt v.failed.0 v.failed.1 (besides_same x old new b k v.rests.besides) v.rests.told (λ image left. stands_same f x old new b image k (v.rests.stands image left)) v.rests.cached)

keeps : (x : Session) (old new : Replica) (b : Option Durable) → (MemoryAbove (state_of old) (memory_of old) → MemoryAbove (state_of new) (memory_of new)) → IsKept (at_replica x b old) → IsKept (at_replica x b new)
keeps x old new b above k = record { names = refl; above = above k.above; job = tt }

-- a cause without the disk is one with it
more_causes : (n m : Counts) (f : Feed) (x : Session) (c : Command) (r : model.Refusal) → caused_by (memory_causes n m) r → caused_by (store_causes n m f x c) r
more_causes n m f x c r h = caused_more (memory_causes n m) (store_causes n m f x c) (λ h. h) (λ h. absurd h) (λ h. h) (λ need room h. absurd h) (λ e h. absurd h) (λ k h. absurd h) r h

pub any_causes : (w w' : World) (x : Session) (c : Command) (r : model.Refusal) → caused_by (memory_causes (counts_at w) (counts_at w')) r → on_bare_store.any_cause w w' x c r
any_causes w w' x c r h = inl (caused_more (memory_causes (counts_at w) (counts_at w')) (any_store_causes w w' x c) (λ h. h) (λ h. absurd h) (λ h. h) (λ need room h. absurd h) (λ e h. absurd h) (λ k h. absurd h) r h)

served_by : (disk : DiskState) (feed feed' : FeedState) (rows rows' : RowSinkState) (x : Session) (old new : Replica) (b : Option Durable) (c : Command) (r : Result Reply Refusal) (f : Feed) → IsReading c → KeepsStore old new
    → ((image : List ℕ) → disk.left_since disk.clock image → disk.leaves image)
    → (BelongsTo f (state_of old) (memory_of old) → IsAnswered f (world_of disk feed rows) (world_of disk feed' rows') old new c r) → (BelongsTo f (state_of old) (memory_of old) → BelongsTo f (state_of new) (memory_of new))
    → Serves on_bare_store disk f (at_replica x b old) → Served on_bare_store f (world_of disk feed rows) (world_of disk feed' rows') (at_replica x b old) (at_replica x b new) c (answer_of r)
served_by disk feed feed' rows rows' x old new b c r f reading k now machine belongs v =
    let mine = belongs_of f (state_of old) (memory_of old) b v.belongs in
    let a = machine mine in
    let w = world_of disk feed rows in
    let w' = world_of disk feed' rows' in
    let causes = caused_by (store_causes (counts_at w) (counts_at w') f (at_replica x b old) c) in
    let answers = answers_in (caused_by (memory_causes (counts_at w) (counts_at w'))) causes f (state_of old) (state_of new) c (with_rows a.0 r) b reading (more_causes (counts_at w) (counts_at w') f (at_replica x b old) c) a.3 in
    let up = answers_keep causes f (state_in old b) (state_in new b) c (with_rows a.0 r) ((v.belongs.0, v.belongs.1), v.failed.0, v.failed.1) answers in
    record {
      given = a.0;
      rows = a.1;
      answers = answers;
      serves = serves_still disk f x old new b k (belongs mine) v;
      next = a.2;
      any_moment = record { later = omega arith; each = λ image i. inl (v.stands image (now image i)); before = λ t image l i. inl i };
      minimum = up.1;
      checkpoints = up.2;
    }

served : (disk : DiskState) (feed feed' : FeedState) (rows rows' : RowSinkState) (x : Session) (old new : Replica) (b : Option Durable) (c : Command) (r : Result Reply Refusal) (told : Option Feed) → IsReading c → KeepsStore old new
    → ((image : List ℕ) → disk.left_since disk.clock image → disk.leaves image)
    → IfSome told (λ f. BelongsTo f (state_of old) (memory_of old) → IsAnswered f (world_of disk feed rows) (world_of disk feed' rows') old new c r) → IfSome told (λ f. BelongsTo f (state_of old) (memory_of old) → BelongsTo f (state_of new) (memory_of new))
    → IfSome told (λ f. Serves on_bare_store disk f (at_replica x b old) → Served on_bare_store f (world_of disk feed rows) (world_of disk feed' rows') (at_replica x b old) (at_replica x b new) c (answer_of r))
served disk feed feed' rows rows' x old new b c r None reading k now machine belongs = tt
served disk feed feed' rows rows' x old new b c r (Some f) reading k now machine belongs = λ v. served_by disk feed feed' rows rows' x old new b c r f reading k now machine belongs v

shows_in : (n m : Counts) (s s' : State) (c : Command) (reply : Result model.Reply model.Refusal) (b : Option Durable) → IsReading c → m.write_faults ≡ n.write_faults → Shows n m s s' c reply → Shows n m (with_broken b s) (with_broken b s') c reply
shows_in n m s s' c reply b reading same h = record {
  later = h.later;
  succeeded = h.succeeded;
  feed_failed = h.feed_failed;
  write_failed = λ less. absurd (omega (arith, same, less));
  disk_failed = λ free. h.disk_failed (sym (refused_in s c b reading) ∙ free);
  out_failed = h.out_failed;
  called = h.called;
  not_called = h.not_called;
  not_used = h.not_used;
  breaks = λ no yes. absurd (false≢true (sym no ∙ yes));
}

causes_in : (w w' : World) (x : Session) (old : Replica) (b : Option Durable) (c : Command) (r : Result model.Reply model.Refusal) → IsReading c
    → IfErr r (λ e. (refused (state_of old) c ≡ Some e) ⊎ (IsTrue (is_fault e) × IsTrue (may_end_in c e) × caused_by (memory_causes (counts_at w) (counts_at w')) e)) → IfErr r (MayRefuse on_bare_store w w' (at_replica x b old) c)
causes_in w w' x old b c (Ok reply) reading h = tt
causes_in w w' x old b c (Err e) reading (inl is) = inl (refused_in (state_of old) c b reading ∙ is)
causes_in w w' x old b c (Err e) reading (inr h) = inr (h.0, h.1, any_causes w w' (at_replica x b old) c e h.2)

refused_as_in : (old new : Replica) (b : Option Durable) (c : Command) (r : Result model.Reply model.Refusal) → IsReading c → IfSome (refused (state_of old) c) (λ e. RefusesAs e r × (state_of new ≡ state_of old))
    → IfSome (refused (state_in old b) c) (λ e. RefusesAs e r × (state_in new b ≡ state_in old b))
refused_as_in old new b c r reading h = subst (λ (o : Option model.Refusal). IfSome o (λ e. RefusesAs e r × (state_in new b ≡ state_in old b))) (sym (refused_in (state_of old) c b reading)) (by (refused (state_of old) c) h)
  where
    by : (o : Option model.Refusal) → IfSome o (λ e. RefusesAs e r × (state_of new ≡ state_of old)) → IfSome o (λ e. RefusesAs e r × (state_in new b ≡ state_in old b))
    by None h = tt
    by (Some e) h = (h.0, ap (with_broken b) h.1)

stays_in : (c : Command) (r : Result model.Reply model.Refusal) (s s' : State) (b : Option Durable) → IsReading c → IfErr r (λ e. StaysBut c e s s') → IfErr r (λ e. StaysBut c e (with_broken b s) (with_broken b s'))
stays_in c (Ok reply) s s' b reading h = tt
stays_in c (Err e) s s' b reading (inl same) = inl (ap (with_broken b) same)
stays_in c (Err e) s s' b reading (inr (inl h)) = inr (inl (h.0, ap (with_broken b) h.1))
stays_in c (Err e) s s' b reading (inr (inr h)) = absurd (never_breaks c reading h.1)

done_in : (told : Option Feed) (source : List Change) (s s' : State) (c : Command) (r : Result model.Reply model.Refusal) (b : Option Durable) → IsReading c → IfOk r (λ reply. DoesOver told source s c (replies reply) s')
    → IfOk r (λ reply. DoesOver told source (with_broken b s) c (replies reply) (with_broken b s'))
done_in told source s s' c (Ok reply) b reading d = over_in told source s s' c (replies reply) b reading d
done_in told source s s' c (Err e) b reading d = tt

stepped : (disk : DiskState) (feed feed' : FeedState) (rows rows' : RowSinkState) (x : Session) (old new : Replica) (b : Option Durable) (c : Command) (r : Result Reply Refusal) → IsReading c → KeepsStore old new
    → ((image : List ℕ) → disk.left_since disk.clock image → disk.leaves image) → Moves (world_of disk feed rows) (world_of disk feed' rows') old new c r
    → Stepped on_bare_store (world_of disk feed rows) (world_of disk feed' rows') (at_replica x b old) (at_replica x b new) c (answer_of r)
stepped disk feed feed' rows rows' x old new b c r reading k now m =
    let w = world_of disk feed rows in
    let w' = world_of disk feed' rows' in
    record {
      served = served disk feed feed' rows rows' x old new b c r feed'.told reading k now m.machine m.belongs;
      shows = shows_in (counts_at w) (counts_at w') (state_of old) (state_of new) c (answer_of r) b reading refl m.shows;
      causes = λ knows. causes_in w w' x old b c (answer_of r) reading m.causes;
      refused = λ knows. refused_as_in old new b c (answer_of r) reading m.refused;
      stays = stays_in c (answer_of r) (state_of old) (state_of new) b reading m.stays;
      keeps = keeps x old new b m.above;
      done = λ kept knows q. done_in feed'.told (held_changes (memory_of old)) (state_of old) (state_of new) c (answer_of r) b reading (m.done q);
      reopened = λ again. absurd (false≢true (sym m.again ∙ again));
    }

pub leads_on : (disk : DiskState) (feed feed' : FeedState) (rows rows' : RowSinkState) (old new : Replica) (c : Command) (r : Result Reply Refusal) → IsReading c → KeepsStore old new
    → ((image : List ℕ) → disk.left_since disk.clock image → disk.leaves image) → Moves (world_of disk feed rows) (world_of disk feed' rows') old new c r
    → LeadsOn (world_of disk feed rows) (world_of disk feed' rows') old new c r
leads_on disk feed feed' rows rows' old new c r reading k now m x h = (
  at_replica x h.broken new,
  stands_still x old new h k,
  subst (λ (z : Session). Stepped on_bare_store (world_of disk feed rows) (world_of disk feed' rows') z (at_replica x h.broken new) c (answer_of r)) (sym (is_replica x old h)) (stepped disk feed feed' rows rows' x old new h.broken c r reading k now m),
)

-- ---- no rows

pub no_list : (rows : Option (List (List Value))) → IfSome rows (λ a. rows ≡ Some (a ++ []))
no_list None = tt
no_list (Some a) = ap Some (sym (append-nil a))

abbrev pub given_nothing : (rows : RowSinkState) (answer : Result model.Reply model.Refusal) → GivenUpTo rows rows [] answer
given_nothing rows answer = record { next = []; broken_off = []; text = Appends-nil rows.told; list = no_list rows.rows; only_so = inl refl }

-- ---- the machine

done_step : (f : Feed) (source : List Change) (s s' : State) (c : Command) (a : Answer) → refused s c ≡ None → ((g : Feed) (cs : List Change) → StepBy None g cs s c a s') → Step f source s c a s'
done_step f source s s' c a e d = subst (λ (o : Option model.Refusal). StepBy o f source s c a s') (sym e) (d f source)

pub free_step : (f : Feed) (source : List Change) (s s' : State) (c : Command) (a : Answer) → refused s c ≡ None → Does f source s c a s' → Step f source s c a s'
free_step f source s s' c a e d = subst (λ (o : Option model.Refusal). StepBy o f source s c a s') (sym e) d

refused_step : (f : Feed) (source : List Change) (s : State) (c : Command) (r : model.Refusal) → refused s c ≡ Some r → Step f source s c (refuses r) s
refused_step f source s c r e = subst (λ (o : Option model.Refusal). StepBy o f source s c (refuses r) s) (sym e) (refl, refl)

-- memory ran out before anything was done
lacks : (causes : Causes) (f : Feed) (fs : List (Header × List Item)) (s : State) (c : Command) → IsTrue (may_end_in c model.out_of_memory) → FaultsIn (caused_by causes) f (source_of fs) s c (refuses model.out_of_memory) s
lacks causes f fs s c ends = (model.out_of_memory, refl, refl, ends, tt, inl refl, inl refl, inl (refl, refl))

pub refusal_answers : (causes : Causes) (f : Feed) (fs : List (Header × List Item)) (s : State) (c : Command) (e : Refusal) → IsTrue (may_end_in c model.out_of_memory) → Fronts f (cat_of s) fs → Refuses (refused s c) e
    → Answers (caused_by causes) f s c (refuses (view_refusal e)) s
refusal_answers causes f fs s c e ends fronts h = refused_or_lacks (λ r. Answers (caused_by causes) f s c (refuses r) s) (refused s c) (λ x d. (fs, fronts, inl (refused_step f (source_of fs) s c (view_refusal x) d))) (fs, fronts, inr (lacks causes f fs s c ends)) e h

-- ---- whatever the feed exposes

pub is_refused : (o : Option model.Refusal) (e : Refusal) → Refuses o e → IfSome o (λ r. RefusesAs r (Err (view_refusal e)))
is_refused None e h = tt
is_refused (Some r) e h = refused_or_lacks (λ x. RefusesAs r (Err x)) (Some r) (λ x d. inl (ap Err (sym (the_same r x d)))) (inr refl) e h
  where
    the_same : (r : model.Refusal) (x : Refusal) → Some r ≡ Some (view_refusal x) → r ≡ view_refusal x
    the_same r x d = cc

pub and_stays : (o : Option model.Refusal) (P : model.Refusal → Type 0) {A : Type 0} → A → IfSome o P → IfSome o (λ r. P r × A)
and_stays None P {A} a h = tt
and_stays (Some r) P {A} a h = (h, a)

-- the state decides it, or memory ran out
abbrev pub IsCaused : Causes → Option model.Refusal → Command → model.Refusal → Type 0
IsCaused causes o c e = (o ≡ Some e) ⊎ (IsTrue (is_fault e) × IsTrue (may_end_in c e) × caused_by causes e)

pub is_caused : (causes : Causes) (o : Option model.Refusal) (c : Command) (e : Refusal) → IsTrue (may_end_in c model.out_of_memory) → Refuses o e → IsCaused causes o c (view_refusal e)
is_caused causes o c e ends h = refused_or_lacks (IsCaused causes o c) o (λ x d. inl d) (inr (refl, ends, tt)) e h

-- ---- a command that calls no feed

-- it was done, and what it leaves is held as the session's feed has it
pub record DoneKeeping (old new : Replica) (c : Command) (reply : Reply) : Type 0 where
  pub mem : Memory
  pub done : Done old new c reply mem
  pub keeps : (f : Feed) → (b : BelongsTo f (state_of old) (memory_of old)) → Step f (source_of b.0) (state_of old) c (replies (view_reply reply)) (state_of new) → BelongsTo f (state_of new) mem
  pub above : MemoryAbove (state_of old) (memory_of old) → MemoryAbove (state_of new) mem
  pub over : (told : Option Feed) → DoesOver told (held_changes (memory_of old)) (state_of old) c (replies (view_reply reply)) (state_of new)

-- or it was refused, and left all as it was
abbrev pub IsRefused : Replica → Replica → Command → Refusal → Type 0
IsRefused old new c e = Refuses (refused (state_of old) c) e × Stays old new

answers : (causes : Causes) (f : Feed) (old new : Replica) (c : Command) (r : Result Reply Refusal) → IsTrue (may_end_in c model.out_of_memory) → IfOk r (DoneKeeping old new c)
    → IfErr r (IsRefused old new c) → BelongsTo f (state_of old) (memory_of old) → Answers (caused_by causes) f (state_of old) c (with_rows [] r) (state_of new)
answers causes f old new c (Ok reply) ends d h b = (b.0, b.1.fronts, inl (done_step f (source_of b.0) (state_of old) (state_of new) c (replies (view_reply reply)) d.done.free d.done.does))
answers causes f old new c (Err e) ends d h b = subst (λ (t : State). Answers (caused_by causes) f (state_of old) c (refuses (view_refusal e)) t) (sym h.1.state) (refusal_answers causes f b.0 (state_of old) c e ends b.1.fronts h.0)

machine : (told : Option Feed) (w : World) (old new : Replica) (c : Command) (r : Result Reply Refusal) → IsTrue (may_end_in c model.out_of_memory)
    → IfOk r (DoneKeeping old new c) → IfErr r (IsRefused old new c) → IfSome told (λ f. BelongsTo f (state_of old) (memory_of old) → IsAnswered f w w old new c r)
machine None w old new c r ends d h = tt
machine (Some f) w old new c r ends d h = λ b. ([], given_nothing w.rows (answer_of r), inl refl, answers (memory_causes (counts_at w) (counts_at w)) f old new c r ends d h b)

pub stays_belongs : (f : Feed) (old new : Replica) → Stays old new → BelongsTo f (state_of old) (memory_of old) → BelongsTo f (state_of new) (memory_of new)
stays_belongs f old new h b = subst (λ (s : State). BelongsTo f s (memory_of new)) (sym h.state) (subst (BelongsTo f (state_of old)) (sym h.memory) b)

pub stays_above : (old new : Replica) → Stays old new → MemoryAbove (state_of old) (memory_of old) → MemoryAbove (state_of new) (memory_of new)
stays_above old new h a = subst (λ (s : State). MemoryAbove s (memory_of new)) (sym h.state) (subst (MemoryAbove (state_of old)) (sym h.memory) a)

belongs : (told : Option Feed) (old new : Replica) (c : Command) (r : Result Reply Refusal) → IfOk r (DoneKeeping old new c) → IfErr r (IsRefused old new c)
    → IfSome told (λ f. BelongsTo f (state_of old) (memory_of old) → BelongsTo f (state_of new) (memory_of new))
belongs None old new c r d h = tt
belongs (Some f) old new c (Ok reply) d h = λ b. subst (BelongsTo f (state_of new)) (sym d.done.memory) (d.keeps f b (done_step f (source_of b.0) (state_of old) (state_of new) c (replies (view_reply reply)) d.done.free d.done.does))
belongs (Some f) old new c (Err e) d h = λ b. stays_belongs f old new h.1 b

above : (old new : Replica) (c : Command) (r : Result Reply Refusal) → IfOk r (DoneKeeping old new c) → IfErr r (IsRefused old new c) → MemoryAbove (state_of old) (memory_of old) → MemoryAbove (state_of new) (memory_of new)
above old new c (Ok reply) d h a = subst (MemoryAbove (state_of new)) (sym d.done.memory) (d.above a)
above old new c (Err e) d h a = stays_above old new h.1 a

unfailed : {A : Type 0} (r : Result Reply Refusal) → A → OnOk (answer_of r) A
unfailed {A} (Ok reply) a = a
unfailed {A} (Err e) a = tt

-- nothing is counted
shows : (w : World) (old new : Replica) (c : Command) (r : Result Reply Refusal) → calls_feed c ≡ false → Shows (counts_at w) (counts_at w) (state_of old) (state_of new) c (answer_of r)
shows w old new c r quiet = record {
  later = record { feed = omega arith; calls = omega arith; script = omega arith; disk = omega arith; write_faults = omega arith; out = omega arith; clock = omega arith };
  succeeded = unfailed r (refl, refl, refl, refl);
  feed_failed = λ less. absurd (omega (arith, less));
  write_failed = λ less. absurd (omega (arith, less));
  disk_failed = λ free less. absurd (omega (arith, less));
  out_failed = λ less. absurd (omega (arith, less));
  called = λ yes tells. absurd (false≢true (sym quiet ∙ yes));
  not_called = λ no. refl;
  not_used = λ no. record { disk = refl; write_faults = refl; clock = refl };
  breaks = λ whole broken. absurd (false≢true broken);
}

causes : (w : World) (old new : Replica) (c : Command) (r : Result Reply Refusal) → IsTrue (may_end_in c model.out_of_memory) → IfErr r (IsRefused old new c)
    → IfErr (answer_of r) (IsCaused (memory_causes (counts_at w) (counts_at w)) (refused (state_of old) c) c)
causes w old new c (Ok reply) ends h = tt
causes w old new c (Err e) ends h = is_caused (memory_causes (counts_at w) (counts_at w)) (refused (state_of old) c) c e ends h.0

refused_as : (old new : Replica) (c : Command) (r : Result Reply Refusal) → IfOk r (DoneKeeping old new c) → IfErr r (IsRefused old new c)
    → IfSome (refused (state_of old) c) (λ x. RefusesAs x (answer_of r) × (state_of new ≡ state_of old))
refused_as old new c (Ok reply) d h = subst (λ (o : Option model.Refusal). IfSome o (λ x. RefusesAs x (Ok (view_reply reply)) × (state_of new ≡ state_of old))) (sym d.done.free) tt
refused_as old new c (Err e) d h = and_stays (refused (state_of old) c) (λ x. RefusesAs x (Err (view_refusal e))) h.1.state (is_refused (refused (state_of old) c) e h.0)

stays_but : (old new : Replica) (c : Command) (r : Result Reply Refusal) → IfErr r (IsRefused old new c) → IfErr (answer_of r) (λ e. StaysBut c e (state_of old) (state_of new))
stays_but old new c (Ok reply) h = tt
stays_but old new c (Err e) h = inl h.1.state

does_so : (told : Option Feed) (old new : Replica) (c : Command) (r : Result Reply Refusal) → IfOk r (DoneKeeping old new c)
    → IfOk (answer_of r) (λ reply. DoesOver told (held_changes (memory_of old)) (state_of old) c (replies reply) (state_of new))
does_so told old new c (Ok reply) d = d.over told
does_so told old new c (Err e) d = tt

quiet_step : (disk : DiskState) (feed : FeedState) (rows : RowSinkState) (old new : Replica) (c : Command) (r : Result Reply Refusal) → IsReading c → KeepsStore old new → ((image : List ℕ) → disk.left_since disk.clock image → disk.leaves image) → calls_feed c ≡ false
    → is_reopen c ≡ false → IsTrue (may_end_in c model.out_of_memory) → IfOk r (DoneKeeping old new c) → IfErr r (IsRefused old new c) → LeadsOn (world_of disk feed rows) (world_of disk feed rows) old new c r
quiet_step disk feed rows old new c r reading k now quiet again ends d h =
    let w = world_of disk feed rows in
    leads_on disk feed feed rows rows old new c r reading k now (record {
      machine = machine feed.told w old new c r ends d h;
      belongs = belongs feed.told old new c r d h;
      above = above old new c r d h;
      shows = shows w old new c r quiet;
      causes = causes w old new c r ends h;
      refused = refused_as old new c r d h;
      stays = stays_but old new c r h;
      again = again;
      done = λ q. does_so feed.told old new c r d;
    })

pub spoken_by : (o : Option model.Refusal) (A : Refusal → Type 0) (r : Result Reply Refusal) → IfErr r (λ e. Refuses o e × A e) → IfErr r IsSpoken
spoken_by o A (Ok reply) h = tt
spoken_by o A (Err e) h = refuses_spoken o e h.0

-- ---- the four commands

pub schema_keeps : (old new : Replica) (t : List ℕ) (reply : Reply) → Done old new (do_schema t) reply (memory_of old) → DoneKeeping old new (do_schema t) reply
schema_keeps old new t reply d = record {
  mem = memory_of old;
  done = d;
  keeps = λ f b step. memory_stays.added f (state_of old) (state_of new) (memory_of old) t (replies (view_reply reply)) b step;
  above = λ a. memory_is_above.stays [] [] (state_of old) (state_of new) (memory_of old) (memory_of old) (do_schema t) (replies (view_reply reply)) a (d.does [] []) refl;
  over = λ told f. d.does f (held_changes (memory_of old));
}

pub retire_keeps : (old new : Replica) (name : List ℕ) (v : ℕ) (reply : Reply) → Done old new (do_retire name v) reply (memory_of old) → DoneKeeping old new (do_retire name v) reply
retire_keeps old new name v reply d = record {
  mem = memory_of old;
  done = d;
  keeps = λ f b step. memory_stays.retired f (state_of old) (state_of new) (memory_of old) name v (replies (view_reply reply)) b step;
  above = λ a. memory_is_above.stays [] [] (state_of old) (state_of new) (memory_of old) (memory_of old) (do_retire name v) (replies (view_reply reply)) a (d.does [] []) refl;
  over = λ told f. d.does f (held_changes (memory_of old));
}

pub split_keeps : (old new : Replica) (name : List ℕ) (ls : List Literal) (reply : Reply) → Splits old new name ls reply → DoneKeeping old new (do_split name ls) reply
split_keeps old new name ls reply d =
    let mem = split_memory (split_key d.table ls) (memory_of old) (ranges_of (state_of old).durable) in
    record {
      mem = mem;
      done = d.done;
      keeps = λ f b step. memory_splits f (state_of old) (state_of new) (memory_of old) name ls d.table (replies (view_reply reply)) b d.named d.done.free step;
      above = λ a. memory_is_above.stays [] [] (state_of old) (state_of new) (memory_of old) mem (do_split name ls) (replies (view_reply reply)) a (d.done.does [] []) (d.table, d.named, refl);
      over = λ told f. d.done.does f (held_changes (memory_of old));
    }

status_keeps : (old : Replica) (reply : Reply) → Done old old do_status reply (memory_of old) → DoneKeeping old old do_status reply
status_keeps old reply d = record { mem = memory_of old; done = d; keeps = λ f b step. b; above = λ a. a; over = λ told f. d.does f (held_changes (memory_of old)) }

pub status_step : (disk : DiskState) (feed : FeedState) (rows : RowSinkState) (old : Replica) (r : Result Reply Refusal) → ((image : List ℕ) → disk.left_since disk.clock image → disk.leaves image) → IfOk r (λ reply. Done old old do_status reply (memory_of old))
    → IfErr r (IsRefused old old do_status) → LeadsOn (world_of disk feed rows) (world_of disk feed rows) old old do_status r
status_step disk feed rows old r now d h = quiet_step disk feed rows old old do_status r reads_status (record { store = refl; durable = refl }) now refl refl refl (if_ok r (status_keeps old) d) h

-- what holds of a command holds of what is that command
pub at_command : {c d : Command} (w w' : World) (old new : Replica) (r : Result Reply Refusal) → c ≡ d → LeadsOn w w' old new c r → LeadsOn w w' old new d r
at_command {c} {d} w w' old new r e h = subst (λ (x : Command). LeadsOn w w' old new x r) e h

-- ---- where nothing is called

pub rows_stay : (rows : RowSinkState) → RowSinkGoes rows rows
rows_stay rows = record { spell = refl; told = (λ h. h, λ h. h); rows = (λ h. h, λ h. h); faults = omega arith }

-- no step uses the disk
pub world_goes : (disk : DiskState) (feed feed' : FeedState) (rows rows' : RowSinkState) → FeedGoes feed feed' → RowSinkGoes rows rows' → WorldGoes (world_of disk feed rows) (world_of disk feed' rows')
world_goes disk feed feed' rows rows' f r = record {
  disk = record { stays = (λ h. h, λ h. h); faults = omega arith; write_faults = omega arith; reads = omega arith; clock = omega arith; past = λ t image l h. h };
  feed = f;
  rows = r;
}

pub world_stays : (disk : DiskState) (feed : FeedState) (rows : RowSinkState) → WorldGoes (world_of disk feed rows) (world_of disk feed rows)
world_stays disk feed rows = world_goes disk feed feed rows rows (goes_itself feed) (rows_stay rows)
