-- What a step promises of a command that calls no feed: what it answers is the machine's.
use Rattle.std.proofs.Common.{List, [], ap, ap₂, append-nil, arith, false, inl, inr, refl, subst, sym, ℕ, ◌++◌, ◌∙◌, ◌≡◌, ◌⊎◌}
use Rattle.std.proofs.KnownBytes.{Appends-nil}
use Rattle.std.proofs.lemmas.Bool.{false≢true}
use Rattle.std.specs.Prelude.{Err, IfErr, IfOk, IfSome, IsTrue, None, Ok, OnOk, Option, Result, Some}
use Rattle.lt_world.specs.Disk.{DiskState}
use Rattle.lt_world.specs.Feed.{Feed}
use Rattle.lt_machine.specs.InMemory.{memory_causes, on_memory}
use Rattle.lt_terms.specs.Log.{Change, Header, Item}
use Rattle.lt_machine.specs.Machine.{Answer, Does, DoesOver, State, Step, StepBy, cat_of, is_reopen, ranges_of, refused, refuses, replies, split_key}
use Rattle.lt_world.specs.Feed.{FeedGoes, FeedState}
use Rattle.lt_world.specs.RowSink.{RowSinkGoes, RowSinkState}
use Rattle.lt_machine.specs.Outside.{BelongsTo, Causes, GivenUpTo, IsKept, MemoryAbove, StaysBut, World, WorldGoes, caused_by, counts_at, world_of}
use Rattle.lt_machine.specs.Sound.{Memory}
use Rattle.lt_tables.specs.Query.{Literal}
use Rattle.lt_words.specs.Reply as model
use Rattle.lt_machine.specs.Run.{Answers, FaultsIn, Shows, calls_feed, is_fault, may_end_in}
use Rattle.lt_tables.specs.Query.{Command, do_retire, do_schema, do_split, do_status}
use Rattle.lt_machine.specs.Sound.{Fronts, Session, source_of}
use Rattle.lt_machine.specs.Step.{RefusesAs, Served, Serves, Stepped, held_changes}
use Rattle.lt_terms.specs.Value.{Value}
use Rattle.lt_reply.specs.View.{IsSpoken, view_refusal, view_reply}
use Rattle.lt_reply.specs.declared.refusal.Refusal.{Refusal}
use Rattle.lt_reply.specs.declared.reply.Reply.{Reply}
use Rattle.lt_pump.proofs.FeedLaws.{goes_itself}
use Rattle.lt_rows.proofs.MapViews.{if_ok}
use Rattle.lt_steps.proofs.AboveLaws.{memory_is_above}
use Rattle.lt_steps.proofs.PathLaws.{answers_keep}
use Rattle.lt_steps.proofs.SplitMemory.{memory_splits}
use Rattle.lt_steps.proofs.StayedMemory.{memory_stays}
use Rattle.lt_steps.specs.Memory.{split_memory}
use Rattle.lt_engine.specs.State.{StandsFor, memory_of, state_of}
use Rattle.lt_engine.specs.Steps.{Done, Refuses, Splits, Stays, answer_of, with_rows}
use Rattle.lt_engine.specs.Stepped.{IsAnswered, LeadsOn, Moves}
use Rattle.lt_engine.specs.declared.replica.Replica.{Replica}
use Rattle.lt_engine.proofs.Results.{refused_or_lacks, refuses_spoken}

-- ---- from a replica to the session that it stands for

abbrev with_state : Session → State → Memory → Session
with_state x s mem = record x { state = s; memory = mem }

abbrev at_replica : Session → Replica → Session
at_replica x r = with_state x (state_of r) (memory_of r)

pub is_replica : (x : Session) (r : Replica) → StandsFor r x → x ≡ at_replica x r
is_replica x r h = ap₂ (with_state x) h.state h.memory

-- a session of a replica that belongs to a feed serves it
pub serves_it : (disk : DiskState) (f : Feed) (x : Session) (r : Replica) → BelongsTo f (state_of r) (memory_of r) → IsKept (at_replica x r) → Serves on_memory disk f (at_replica x r)
serves_it disk f x r b k = record { belongs = b; kept = k; failed = (tt, tt); rests = tt; stands = λ image h. tt }

keeps : (x : Session) (old new : Replica) → (MemoryAbove (state_of old) (memory_of old) → MemoryAbove (state_of new) (memory_of new)) → IsKept (at_replica x old) → IsKept (at_replica x new)
keeps x old new above k = record { names = refl; above = above k.above; job = tt }

served_by : (disk : DiskState) (feed feed' : FeedState) (rows rows' : RowSinkState) (x : Session) (old new : Replica) (c : Command) (r : Result Reply Refusal) (f : Feed)
    → (BelongsTo f (state_of old) (memory_of old) → IsAnswered f (world_of disk feed rows) (world_of disk feed' rows') old new c r) → (BelongsTo f (state_of old) (memory_of old) → BelongsTo f (state_of new) (memory_of new))
    → (MemoryAbove (state_of old) (memory_of old) → MemoryAbove (state_of new) (memory_of new)) → Serves on_memory disk f (at_replica x old)
    → Served on_memory f (world_of disk feed rows) (world_of disk feed' rows') (at_replica x old) (at_replica x new) c (answer_of r)
served_by disk feed feed' rows rows' x old new c r f machine belongs above h =
    let a = machine h.belongs in
    let causes = memory_causes (counts_at (world_of disk feed rows)) (counts_at (world_of disk feed' rows')) in
    let up = answers_keep (caused_by causes) f (state_of old) (state_of new) c (with_rows a.0 r) ((h.belongs.0, h.belongs.1), tt, tt) a.3 in
    record {
      given = a.0;
      rows = a.1;
      answers = a.3;
      serves = serves_it disk f x new (belongs h.belongs) (keeps x old new above h.kept);
      next = a.2;
      any_moment = record { later = omega arith; each = λ image i. inl tt; before = λ t image l i. inl i };
      minimum = up.1;
      checkpoints = up.2;
    }

served : (disk : DiskState) (feed feed' : FeedState) (rows rows' : RowSinkState) (x : Session) (old new : Replica) (c : Command) (r : Result Reply Refusal) (told : Option Feed)
    → IfSome told (λ f. BelongsTo f (state_of old) (memory_of old) → IsAnswered f (world_of disk feed rows) (world_of disk feed' rows') old new c r) → IfSome told (λ f. BelongsTo f (state_of old) (memory_of old) → BelongsTo f (state_of new) (memory_of new))
    → (MemoryAbove (state_of old) (memory_of old) → MemoryAbove (state_of new) (memory_of new))
    → IfSome told (λ f. Serves on_memory disk f (at_replica x old) → Served on_memory f (world_of disk feed rows) (world_of disk feed' rows') (at_replica x old) (at_replica x new) c (answer_of r))
served disk feed feed' rows rows' x old new c r None machine belongs above = tt
served disk feed feed' rows rows' x old new c r (Some f) machine belongs above = λ h. served_by disk feed feed' rows rows' x old new c r f machine belongs above h

stepped : (disk : DiskState) (feed feed' : FeedState) (rows rows' : RowSinkState) (x : Session) (old new : Replica) (c : Command) (r : Result Reply Refusal) → Moves (world_of disk feed rows) (world_of disk feed' rows') old new c r
    → Stepped on_memory (world_of disk feed rows) (world_of disk feed' rows') (at_replica x old) (at_replica x new) c (answer_of r)
stepped disk feed feed' rows rows' x old new c r m = record {
  served = served disk feed feed' rows rows' x old new c r feed'.told m.machine m.belongs m.above;
  shows = m.shows;
  causes = λ knows. m.causes;
  refused = λ knows. m.refused;
  stays = m.stays;
  keeps = keeps x old new m.above;
  done = λ kept knows q. m.done q;
  reopened = λ again. absurd (false≢true (sym m.again ∙ again));
}

pub leads_on : (disk : DiskState) (feed feed' : FeedState) (rows rows' : RowSinkState) (old new : Replica) (c : Command) (r : Result Reply Refusal) → Moves (world_of disk feed rows) (world_of disk feed' rows') old new c r
    → LeadsOn (world_of disk feed rows) (world_of disk feed' rows') old new c r
leads_on disk feed feed' rows rows' old new c r m x h = (
  at_replica x new,
  record { memory = refl; state = refl },
  subst (λ (z : Session). Stepped on_memory (world_of disk feed rows) (world_of disk feed' rows') z (at_replica x new) c (answer_of r)) (sym (is_replica x old h)) (stepped disk feed feed' rows rows' x old new c r m),
)

-- ---- no rows

pub no_list : (rows : Option (List (List Value))) → IfSome rows (λ a. rows ≡ Some (a ++ []))
no_list None = tt
no_list (Some a) = ap Some (sym (append-nil a))

abbrev pub given_nothing : (rows : RowSinkState) (answer : Result model.Reply model.Refusal) → GivenUpTo rows rows [] answer
given_nothing rows answer = record { next = []; broken_off = []; text = Appends-nil rows.told; list = no_list rows.rows; only_so = inl refl }

-- ---- the machine

done_step : (f : Feed) (source : List Change) (s s' : State) (c : Command) (a : Answer) → refused s c ≡ None → ((g : Feed) (cs : List Change) → StepBy None g cs s c a s') → Step f source s c a s'
done_step f source s s' c a e d = subst (λ (o : Option model.Refusal). StepBy o f source s c a s') (sym e) (d f source)

pub free_step : (f : Feed) (source : List Change) (s s' : State) (c : Command) (a : Answer) → refused s c ≡ None → Does f source s c a s' → Step f source s c a s'
free_step f source s s' c a e d = subst (λ (o : Option model.Refusal). StepBy o f source s c a s') (sym e) d

refused_step : (f : Feed) (source : List Change) (s : State) (c : Command) (r : model.Refusal) → refused s c ≡ Some r → Step f source s c (refuses r) s
refused_step f source s c r e = subst (λ (o : Option model.Refusal). StepBy o f source s c (refuses r) s) (sym e) (refl, refl)

-- memory ran out before anything was done
lacks : (causes : Causes) (f : Feed) (fs : List (Header × List Item)) (s : State) (c : Command) → IsTrue (may_end_in c model.out_of_memory) → FaultsIn (caused_by causes) f (source_of fs) s c (refuses model.out_of_memory) s
lacks causes f fs s c ends = (model.out_of_memory, refl, refl, ends, tt, inl refl, inl refl, inl (refl, refl))

pub refusal_answers : (causes : Causes) (f : Feed) (fs : List (Header × List Item)) (s : State) (c : Command) (e : Refusal) → IsTrue (may_end_in c model.out_of_memory) → Fronts f (cat_of s) fs → Refuses (refused s c) e
    → Answers (caused_by causes) f s c (refuses (view_refusal e)) s
refusal_answers causes f fs s c e ends fronts h = refused_or_lacks (λ r. Answers (caused_by causes) f s c (refuses r) s) (refused s c) (λ x d. (fs, fronts, inl (refused_step f (source_of fs) s c (view_refusal x) d))) (fs, fronts, inr (lacks causes f fs s c ends)) e h

-- ---- whatever the feed exposes

pub is_refused : (o : Option model.Refusal) (e : Refusal) → Refuses o e → IfSome o (λ r. RefusesAs r (Err (view_refusal e)))
is_refused None e h = tt
is_refused (Some r) e h = refused_or_lacks (λ x. RefusesAs r (Err x)) (Some r) (λ x d. inl (ap Err (sym (the_same r x d)))) (inr refl) e h
  where
    the_same : (r : model.Refusal) (x : Refusal) → Some r ≡ Some (view_refusal x) → r ≡ view_refusal x
    the_same r x d = cc

pub and_stays : (o : Option model.Refusal) (P : model.Refusal → Type 0) {A : Type 0} → A → IfSome o P → IfSome o (λ r. P r × A)
and_stays None P {A} a h = tt
and_stays (Some r) P {A} a h = (h, a)

-- the state decides it, or memory ran out
abbrev pub IsCaused : Causes → Option model.Refusal → Command → model.Refusal → Type 0
IsCaused causes o c e = (o ≡ Some e) ⊎ (IsTrue (is_fault e) × IsTrue (may_end_in c e) × caused_by causes e)

pub is_caused : (causes : Causes) (o : Option model.Refusal) (c : Command) (e : Refusal) → IsTrue (may_end_in c model.out_of_memory) → Refuses o e → IsCaused causes o c (view_refusal e)
is_caused causes o c e ends h = refused_or_lacks (IsCaused causes o c) o (λ x d. inl d) (inr (refl, ends, tt)) e h

-- ---- a command that calls no feed

-- it was done, and what it leaves is held as the session's feed has it
pub record DoneKeeping (old new : Replica) (c : Command) (reply : Reply) : Type 0 where
  pub mem : Memory
  pub done : Done old new c reply mem
  pub keeps : (f : Feed) → (b : BelongsTo f (state_of old) (memory_of old)) → Step f (source_of b.0) (state_of old) c (replies (view_reply reply)) (state_of new) → BelongsTo f (state_of new) mem
  pub above : MemoryAbove (state_of old) (memory_of old) → MemoryAbove (state_of new) mem
  pub over : (told : Option Feed) → DoesOver told (held_changes (memory_of old)) (state_of old) c (replies (view_reply reply)) (state_of new)

-- or it was refused, and left all as it was
abbrev pub IsRefused : Replica → Replica → Command → Refusal → Type 0
IsRefused old new c e = Refuses (refused (state_of old) c) e × Stays old new

answers : (causes : Causes) (f : Feed) (old new : Replica) (c : Command) (r : Result Reply Refusal) → IsTrue (may_end_in c model.out_of_memory) → IfOk r (DoneKeeping old new c)
    → IfErr r (IsRefused old new c) → BelongsTo f (state_of old) (memory_of old) → Answers (caused_by causes) f (state_of old) c (with_rows [] r) (state_of new)
answers causes f old new c (Ok reply) ends d h b = (b.0, b.1.fronts, inl (done_step f (source_of b.0) (state_of old) (state_of new) c (replies (view_reply reply)) d.done.free d.done.does))
answers causes f old new c (Err e) ends d h b = subst (λ (t : State). Answers (caused_by causes) f (state_of old) c (refuses (view_refusal e)) t) (sym h.1.state) (refusal_answers causes f b.0 (state_of old) c e ends b.1.fronts h.0)

machine : (told : Option Feed) (w : World) (old new : Replica) (c : Command) (r : Result Reply Refusal) → IsTrue (may_end_in c model.out_of_memory)
    → IfOk r (DoneKeeping old new c) → IfErr r (IsRefused old new c) → IfSome told (λ f. BelongsTo f (state_of old) (memory_of old) → IsAnswered f w w old new c r)
machine None w old new c r ends d h = tt
machine (Some f) w old new c r ends d h = λ b. ([], given_nothing w.rows (answer_of r), inl refl, answers (memory_causes (counts_at w) (counts_at w)) f old new c r ends d h b)

pub stays_belongs : (f : Feed) (old new : Replica) → Stays old new → BelongsTo f (state_of old) (memory_of old) → BelongsTo f (state_of new) (memory_of new)
stays_belongs f old new h b = subst (λ (s : State). BelongsTo f s (memory_of new)) (sym h.state) (subst (BelongsTo f (state_of old)) (sym h.memory) b)

pub stays_above : (old new : Replica) → Stays old new → MemoryAbove (state_of old) (memory_of old) → MemoryAbove (state_of new) (memory_of new)
stays_above old new h a = subst (λ (s : State). MemoryAbove s (memory_of new)) (sym h.state) (subst (MemoryAbove (state_of old)) (sym h.memory) a)

belongs : (told : Option Feed) (old new : Replica) (c : Command) (r : Result Reply Refusal) → IfOk r (DoneKeeping old new c) → IfErr r (IsRefused old new c)
    → IfSome told (λ f. BelongsTo f (state_of old) (memory_of old) → BelongsTo f (state_of new) (memory_of new))
belongs None old new c r d h = tt
belongs (Some f) old new c (Ok reply) d h = λ b. subst (BelongsTo f (state_of new)) (sym d.done.memory) (d.keeps f b (done_step f (source_of b.0) (state_of old) (state_of new) c (replies (view_reply reply)) d.done.free d.done.does))
belongs (Some f) old new c (Err e) d h = λ b. stays_belongs f old new h.1 b

above : (old new : Replica) (c : Command) (r : Result Reply Refusal) → IfOk r (DoneKeeping old new c) → IfErr r (IsRefused old new c) → MemoryAbove (state_of old) (memory_of old) → MemoryAbove (state_of new) (memory_of new)
above old new c (Ok reply) d h a = subst (MemoryAbove (state_of new)) (sym d.done.memory) (d.above a)
above old new c (Err e) d h a = stays_above old new h.1 a

unfailed : {A : Type 0} (r : Result Reply Refusal) → A → OnOk (answer_of r) A
unfailed {A} (Ok reply) a = a
unfailed {A} (Err e) a = tt

-- nothing is counted
shows : (w : World) (old new : Replica) (c : Command) (r : Result Reply Refusal) → calls_feed c ≡ false → Shows (counts_at w) (counts_at w) (state_of old) (state_of new) c (answer_of r)
shows w old new c r quiet = record {
  later = record { feed = omega arith; calls = omega arith; script = omega arith; disk = omega arith; write_faults = omega arith; out = omega arith; clock = omega arith };
  succeeded = unfailed r (refl, refl, refl, refl);
  feed_failed = λ less. absurd (omega (arith, less));
  write_failed = λ less. absurd (omega (arith, less));
  disk_failed = λ free less. absurd (omega (arith, less));
  out_failed = λ less. absurd (omega (arith, less));
  called = λ yes tells. absurd (false≢true (sym quiet ∙ yes));
  not_called = λ no. refl;
  not_used = λ no. record { disk = refl; write_faults = refl; clock = refl };
  breaks = λ whole broken. absurd (false≢true broken);
}

causes : (w : World) (old new : Replica) (c : Command) (r : Result Reply Refusal) → IsTrue (may_end_in c model.out_of_memory) → IfErr r (IsRefused old new c)
    → IfErr (answer_of r) (IsCaused (memory_causes (counts_at w) (counts_at w)) (refused (state_of old) c) c)
causes w old new c (Ok reply) ends h = tt
causes w old new c (Err e) ends h = is_caused (memory_causes (counts_at w) (counts_at w)) (refused (state_of old) c) c e ends h.0

refused_as : (old new : Replica) (c : Command) (r : Result Reply Refusal) → IfOk r (DoneKeeping old new c) → IfErr r (IsRefused old new c)
    → IfSome (refused (state_of old) c) (λ x. RefusesAs x (answer_of r) × (state_of new ≡ state_of old))
refused_as old new c (Ok reply) d h = subst (λ (o : Option model.Refusal). IfSome o (λ x. RefusesAs x (Ok (view_reply reply)) × (state_of new ≡ state_of old))) (sym d.done.free) tt
refused_as old new c (Err e) d h = and_stays (refused (state_of old) c) (λ x. RefusesAs x (Err (view_refusal e))) h.1.state (is_refused (refused (state_of old) c) e h.0)

stays_but : (old new : Replica) (c : Command) (r : Result Reply Refusal) → IfErr r (IsRefused old new c) → IfErr (answer_of r) (λ e. StaysBut c e (state_of old) (state_of new))
stays_but old new c (Ok reply) h = tt
stays_but old new c (Err e) h = inl h.1.state

does_so : (told : Option Feed) (old new : Replica) (c : Command) (r : Result Reply Refusal) → IfOk r (DoneKeeping old new c)
    → IfOk (answer_of r) (λ reply. DoesOver told (held_changes (memory_of old)) (state_of old) c (replies reply) (state_of new))
does_so told old new c (Ok reply) d = d.over told
does_so told old new c (Err e) d = tt

quiet_step : (disk : DiskState) (feed : FeedState) (rows : RowSinkState) (old new : Replica) (c : Command) (r : Result Reply Refusal) → calls_feed c ≡ false → is_reopen c ≡ false → IsTrue (may_end_in c model.out_of_memory) → IfOk r (DoneKeeping old new c)
    → IfErr r (IsRefused old new c) → LeadsOn (world_of disk feed rows) (world_of disk feed rows) old new c r
quiet_step disk feed rows old new c r quiet again ends d h =
    let w = world_of disk feed rows in
    leads_on disk feed feed rows rows old new c r (record {
      machine = machine feed.told w old new c r ends d h;
      belongs = belongs feed.told old new c r d h;
      above = above old new c r d h;
      shows = shows w old new c r quiet;
      causes = causes w old new c r ends h;
      refused = refused_as old new c r d h;
      stays = stays_but old new c r h;
      again = again;
      done = λ q. does_so feed.told old new c r d;
    })

pub spoken_by : (o : Option model.Refusal) (A : Refusal → Type 0) (r : Result Reply Refusal) → IfErr r (λ e. Refuses o e × A e) → IfErr r IsSpoken
spoken_by o A (Ok reply) h = tt
spoken_by o A (Err e) h = refuses_spoken o e h.0

-- ---- the four commands

schema_keeps : (old new : Replica) (t : List ℕ) (reply : Reply) → Done old new (do_schema t) reply (memory_of old) → DoneKeeping old new (do_schema t) reply
schema_keeps old new t reply d = record {
  mem = memory_of old;
  done = d;
  keeps = λ f b step. memory_stays.added f (state_of old) (state_of new) (memory_of old) t (replies (view_reply reply)) b step;
  above = λ a. memory_is_above.stays [] [] (state_of old) (state_of new) (memory_of old) (memory_of old) (do_schema t) (replies (view_reply reply)) a (d.does [] []) refl;
  over = λ told f. d.does f (held_changes (memory_of old));
}

pub schema_step : (disk : DiskState) (feed : FeedState) (rows : RowSinkState) (old new : Replica) (t : List ℕ) (r : Result Reply Refusal) → IfOk r (λ reply. Done old new (do_schema t) reply (memory_of old))
    → IfErr r (IsRefused old new (do_schema t)) → LeadsOn (world_of disk feed rows) (world_of disk feed rows) old new (do_schema t) r
schema_step disk feed rows old new t r d h = quiet_step disk feed rows old new (do_schema t) r refl refl refl (if_ok r (schema_keeps old new t) d) h

retire_keeps : (old new : Replica) (name : List ℕ) (v : ℕ) (reply : Reply) → Done old new (do_retire name v) reply (memory_of old) → DoneKeeping old new (do_retire name v) reply
retire_keeps old new name v reply d = record {
  mem = memory_of old;
  done = d;
  keeps = λ f b step. memory_stays.retired f (state_of old) (state_of new) (memory_of old) name v (replies (view_reply reply)) b step;
  above = λ a. memory_is_above.stays [] [] (state_of old) (state_of new) (memory_of old) (memory_of old) (do_retire name v) (replies (view_reply reply)) a (d.does [] []) refl;
  over = λ told f. d.does f (held_changes (memory_of old));
}

pub retire_step : (disk : DiskState) (feed : FeedState) (rows : RowSinkState) (old new : Replica) (name : List ℕ) (v : ℕ) (r : Result Reply Refusal) → IfOk r (λ reply. Done old new (do_retire name v) reply (memory_of old))
    → IfErr r (IsRefused old new (do_retire name v)) → LeadsOn (world_of disk feed rows) (world_of disk feed rows) old new (do_retire name v) r
retire_step disk feed rows old new name v r d h = quiet_step disk feed rows old new (do_retire name v) r refl refl refl (if_ok r (retire_keeps old new name v) d) h

split_keeps : (old new : Replica) (name : List ℕ) (ls : List Literal) (reply : Reply) → Splits old new name ls reply → DoneKeeping old new (do_split name ls) reply
split_keeps old new name ls reply d =
    let mem = split_memory (split_key d.table ls) (memory_of old) (ranges_of (state_of old).durable) in
    record {
      mem = mem;
      done = d.done;
      keeps = λ f b step. memory_splits f (state_of old) (state_of new) (memory_of old) name ls d.table (replies (view_reply reply)) b d.named d.done.free step;
      above = λ a. memory_is_above.stays [] [] (state_of old) (state_of new) (memory_of old) mem (do_split name ls) (replies (view_reply reply)) a (d.done.does [] []) (d.table, d.named, refl);
      over = λ told f. d.done.does f (held_changes (memory_of old));
    }

pub split_step : (disk : DiskState) (feed : FeedState) (rows : RowSinkState) (old new : Replica) (name : List ℕ) (ls : List Literal) (r : Result Reply Refusal) → IfOk r (Splits old new name ls)
    → IfErr r (IsRefused old new (do_split name ls)) → LeadsOn (world_of disk feed rows) (world_of disk feed rows) old new (do_split name ls) r
split_step disk feed rows old new name ls r d h = quiet_step disk feed rows old new (do_split name ls) r refl refl refl (if_ok r (split_keeps old new name ls) d) h

status_keeps : (old : Replica) (reply : Reply) → Done old old do_status reply (memory_of old) → DoneKeeping old old do_status reply
status_keeps old reply d = record { mem = memory_of old; done = d; keeps = λ f b step. b; above = λ a. a; over = λ told f. d.does f (held_changes (memory_of old)) }

pub status_step : (disk : DiskState) (feed : FeedState) (rows : RowSinkState) (old : Replica) (r : Result Reply Refusal) → IfOk r (λ reply. Done old old do_status reply (memory_of old))
    → IfErr r (IsRefused old old do_status) → LeadsOn (world_of disk feed rows) (world_of disk feed rows) old old do_status r
status_step disk feed rows old r d h = quiet_step disk feed rows old old do_status r refl refl refl (if_ok r (status_keeps old) d) h

-- what holds of a command holds of what is that command
pub at_command : {c d : Command} (w w' : World) (old new : Replica) (r : Result Reply Refusal) → c ≡ d → LeadsOn w w' old new c r → LeadsOn w w' old new d r
at_command {c} {d} w w' old new r e h = subst (λ (x : Command). LeadsOn w w' old new x r) e h

-- ---- where nothing is called

pub rows_stay : (rows : RowSinkState) → RowSinkGoes rows rows
rows_stay rows = record { spell = refl; told = (λ h. h, λ h. h); rows = (λ h. h, λ h. h); faults = omega arith }

-- no step uses the disk
pub world_goes : (disk : DiskState) (feed feed' : FeedState) (rows rows' : RowSinkState) → FeedGoes feed feed' → RowSinkGoes rows rows' → WorldGoes (world_of disk feed rows) (world_of disk feed' rows')
world_goes disk feed feed' rows rows' f r = record {
  disk = record { stays = (λ h. h, λ h. h); faults = omega arith; write_faults = omega arith; reads = omega arith; clock = omega arith; past = λ t image l h. h };
  feed = f;
  rows = r;
}

pub world_stays : (disk : DiskState) (feed : FeedState) (rows : RowSinkState) → WorldGoes (world_of disk feed rows) (world_of disk feed rows)
world_stays disk feed rows = world_goes disk feed feed rows rows (goes_itself feed) (rows_stay rows)

-- ---- where the streams stand

stays_streams : (old new : Replica) → Stays old new → (state_of new).streams ≡ (state_of old).streams
stays_streams old new h = ap (λ (s : State). s.streams) h.state

pub schema_streams : (old new : Replica) (t : List ℕ) (mem : Reply → Memory) (r : Result Reply Refusal) → IfOk r (λ reply. Done old new (do_schema t) reply (mem reply)) → IfErr r (IsRefused old new (do_schema t)) → (state_of new).streams ≡ (state_of old).streams
schema_streams old new t mem (Ok reply) d h = ap (λ (s : State). s.streams) (d.does [] []).3
schema_streams old new t mem (Err e) d h = stays_streams old new h.1

pub retire_streams : (old new : Replica) (name : List ℕ) (v : ℕ) (mem : Reply → Memory) (r : Result Reply Refusal) → IfOk r (λ reply. Done old new (do_retire name v) reply (mem reply)) → IfErr r (IsRefused old new (do_retire name v)) → (state_of new).streams ≡ (state_of old).streams
retire_streams old new name v mem (Ok reply) d h = ap (λ (s : State). s.streams) (d.does [] []).3
retire_streams old new name v mem (Err e) d h = stays_streams old new h.1

pub split_streams : (old new : Replica) (name : List ℕ) (ls : List Literal) (r : Result Reply Refusal) → IfOk r (Splits old new name ls) → IfErr r (IsRefused old new (do_split name ls)) → (state_of new).streams ≡ (state_of old).streams
split_streams old new name ls (Ok reply) d h = ap (λ (s : State). s.streams) (d.done.does [] []).3
split_streams old new name ls (Err e) d h = stays_streams old new h.1
