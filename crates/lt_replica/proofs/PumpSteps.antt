-- The command that pumps: what it answers is the machine's, whatever it took before a fault.
use Rattle.lt_replica.specs.Numbers.{numbers_of}
use Rattle.std.proofs.Common.{Bool, List, [], ap, arith, false, inl, inr, ltb-true, refl, subst, sym, true, ℕ, ◌<◌, ◌∙◌, ◌≡◌}
use Rattle.std.proofs.lemmas.Bool.{and_parts, false≢true}
use Rattle.std.specs.Prelude.{Err, IfErr, IfOk, IfSome, IsTrue, None, Ok, OnOk, Option, Result, Some, nat_lt, not, ◌&&◌, ◌==◌}
use Rattle.std.specs.List.{list_any}
use Rattle.lt_world.specs.Disk.{DiskState, Rose}
use Rattle.lt_world.specs.Feed.{Feed}
use Rattle.lt_command.specs.View.{view_command}
use Rattle.lt_command.specs.declared.command.Command as commands
use Rattle.lt_command.specs.declared.command.Command.TheVariants as pumps
use Rattle.lt_words.specs.Lines.{is_built}
use Rattle.lt_replica.specs.Stepped.{memory_causes}
use Rattle.lt_terms.specs.Log.{Change, changes_of}
use Rattle.lt_machine.specs.Machine.{DoesOver, State, refused, refuses, replies, with_items}
use Rattle.lt_world.specs.Feed.{FeedGoes, FeedState}
use Rattle.lt_world.specs.RowSink.{RowSinkState}
use Rattle.lt_machine.specs.Outside.{BelongsTo, MemoryAbove, StaysBut, caused_by, counts_at, is_command, world_of}
use Rattle.lt_words.specs.Reply as model
use Rattle.lt_machine.specs.Run.{AfterFault, Answers, Shows, is_pump_fault, tells_of_feed}
use Rattle.lt_tables.specs.Schema.{when}
use Rattle.lt_tables.specs.Query.{do_pump}
use Rattle.lt_machine.specs.Sound.{source_of}
use Rattle.lt_machine.specs.Step.{RefusesAs, held_changes}
use Rattle.lt_reply.specs.View.{IsSpoken, view_refusal, view_reply}
use Rattle.lt_reply.specs.declared.refusal.Refusal.{Refusal}
use Rattle.lt_reply.specs.declared.reply.Reply.{Reply}
use Rattle.lt_steps.proofs.AboveLaws.{given_above}
use Rattle.lt_steps.proofs.PumpedMemory.{memory_pumps}
use Rattle.lt_replica.specs.State.{memory_of, state_of}
use Rattle.lt_replica.specs.Steps.{HasTaken, PumpFails, TakesLess, Took, answer_of, feed_fails, no_memory, refuses_pump}
use Rattle.lt_replica.specs.Stepped.{IsAnswered, LeadsOn}
use Rattle.lt_replica.specs.declared.replica.Replica.{Replica}
use Rattle.lt_pump.specs.Pumps.{streams_of}
use Rattle.lt_replica.proofs.BrokenLaws.{reads_pump}
use Rattle.lt_replica.proofs.Refusals.{pump_refused}
use Rattle.lt_replica.proofs.Results.{refused_or_lacks, refuses_spoken}
use Rattle.lt_replica.specs.Pumping.{KeepsStore}
use Rattle.lt_replica.proofs.StepLaws.{IsCaused, and_stays, free_step, given_nothing, is_caused, is_refused, leads_on, refusal_answers, stays_above, stays_belongs}

-- a pump that a step takes asks for some record
pub some_asked : (n asked : ℕ) {c : commands.Command} → c ≡ pumps.Pump n asked → IsTrue (is_command (view_command c) && is_built (view_command c)) → 0 < asked
some_asked n asked {c} is h = ltb-true 0 asked (and_parts (nat_lt 0 asked) (is_built (do_pump n asked)) (subst (λ (c : commands.Command). IsTrue (is_command (view_command c) && is_built (view_command c))) is h)).0

-- ---- the machine

after : (f : Feed) (source : List Change) (old new : Replica) (n asked : ℕ) (r : model.Refusal) → IsTrue (is_pump_fault r) → TakesLess (Some f) old new n asked → AfterFault f source (state_of old) (do_pump n asked) r (state_of new)
after f source old new n asked r fault (inl s) = inl s.state
after f source old new n asked r fault (inr h) = let t = h.1.0 in inr (inl (fault, (t.stood, t.items, t.takes.0, t.known, h.1.1, t.takes.1, t.state)))

module _ (disk : DiskState) (feed feed' : FeedState) (rows : RowSinkState) (old new : Replica) (n asked : ℕ) where
  abbrev caused : model.Refusal → Type 0
  caused = caused_by (memory_causes (counts_at (world_of disk feed rows)) (counts_at (world_of disk feed' rows)))

  fails_at : (f : Feed) → feed'.told ≡ Some f → (e : Refusal) → PumpFails feed feed' old new n asked e → BelongsTo f (state_of old) (memory_of old) → Answers caused f (state_of old) (do_pump n asked) (refuses (view_refusal e)) (state_of new)
  fails_at f told e (feed_fails is rose free less) b = subst (λ (e : Refusal). Answers caused f (state_of old) (do_pump n asked) (refuses (view_refusal e)) (state_of new)) (sym is)
      (b.0, b.1.fronts, inr (model.feed_fault, refl, refl, refl, rose, inl refl, after f (source_of b.0) old new n asked model.feed_fault refl (subst (λ (o : Option Feed). TakesLess o old new n asked) told less), inr free))
  fails_at f told e (no_memory is same less) b = subst (λ (e : Refusal). Answers caused f (state_of old) (do_pump n asked) (refuses (view_refusal e)) (state_of new)) (sym is)
      (b.0, b.1.fronts, inr (model.out_of_memory, refl, refl, refl, tt, inl refl, after f (source_of b.0) old new n asked model.out_of_memory refl (subst (λ (o : Option Feed). TakesLess o old new n asked) told less), inl (refl, refl)))
  fails_at f told e (refuses_pump same r stays) b = subst (λ (t : State). Answers caused f (state_of old) (do_pump n asked) (refuses (view_refusal e)) t) (sym stays.state)
      (refusal_answers (memory_causes (counts_at (world_of disk feed rows)) (counts_at (world_of disk feed' rows))) f b.0 (state_of old) (do_pump n asked) e refl b.1.fronts r)

  machine : (told : Option Feed) → feed'.told ≡ told → (r : Result Reply Refusal) → IfOk r (HasTaken told old new n asked) → IfErr r (PumpFails feed feed' old new n asked)
      → IfSome told (λ f. BelongsTo f (state_of old) (memory_of old) → IsAnswered f (world_of disk feed rows) (world_of disk feed' rows) old new (do_pump n asked) r)
  machine None is r d h = tt
  machine (Some f) is (Ok reply) d h = λ b.
      ([], given_nothing rows (Ok (view_reply reply)), inl refl, (b.0, b.1.fronts, inl (free_step f (source_of b.0) (state_of old) (state_of new) (do_pump n asked) (replies (view_reply reply)) d.free (d.does (source_of b.0)).1)))
  machine (Some f) is (Err e) d h = λ b. ([], given_nothing rows (Err (view_refusal e)), inl refl, fails_at f is e h b)

-- ---- what is held

took_belongs : (f : Feed) (old new : Replica) (n : ℕ) → Took (Some f) old new n → BelongsTo f (state_of old) (memory_of old) → BelongsTo f (state_of new) (memory_of new)
took_belongs f old new n t b =
    subst (λ (s : State). BelongsTo f s (memory_of new)) (sym t.state) (subst (BelongsTo f (with_items n t.items (state_of old))) (sym t.memory) (memory_pumps f (state_of old) (memory_of old) n t.stood t.items t.takes.0 b t.known t.takes.1).0)

less_belongs : (f : Feed) (old new : Replica) (n asked : ℕ) → TakesLess (Some f) old new n asked → BelongsTo f (state_of old) (memory_of old) → BelongsTo f (state_of new) (memory_of new)
less_belongs f old new n asked (inl s) b = stays_belongs f old new s b
less_belongs f old new n asked (inr h) b = took_belongs f old new n h.1.0 b

fails_belong : (f : Feed) (feed feed' : FeedState) → feed'.told ≡ Some f → (old new : Replica) (n asked : ℕ) (e : Refusal) → PumpFails feed feed' old new n asked e → BelongsTo f (state_of old) (memory_of old) → BelongsTo f (state_of new) (memory_of new)
fails_belong f feed feed' told old new n asked e (feed_fails is rose free less) b = less_belongs f old new n asked (subst (λ (o : Option Feed). TakesLess o old new n asked) told less) b
fails_belong f feed feed' told old new n asked e (no_memory is same less) b = less_belongs f old new n asked (subst (λ (o : Option Feed). TakesLess o old new n asked) told less) b
fails_belong f feed feed' told old new n asked e (refuses_pump same r stays) b = stays_belongs f old new stays b

belongs : (told : Option Feed) (feed feed' : FeedState) → feed'.told ≡ told → (old new : Replica) (n asked : ℕ) (r : Result Reply Refusal) → IfOk r (HasTaken told old new n asked) → IfErr r (PumpFails feed feed' old new n asked)
    → IfSome told (λ f. BelongsTo f (state_of old) (memory_of old) → BelongsTo f (state_of new) (memory_of new))
belongs None feed feed' is old new n asked r t h = tt
belongs (Some f) feed feed' is old new n asked (Ok reply) t h = λ b. took_belongs f old new n t.took b
belongs (Some f) feed feed' is old new n asked (Err e) t h = λ b. fails_belong f feed feed' is old new n asked e h b

took_above : (told : Option Feed) (old new : Replica) (n : ℕ) → Took told old new n → MemoryAbove (state_of old) (memory_of old) → MemoryAbove (state_of new) (memory_of new)
took_above told old new n t a =
    let s = state_of old in
    subst (λ (x : State). MemoryAbove x (memory_of new)) (sym t.state) (subst (MemoryAbove s) (sym t.memory) (given_above (changes_of t.items) s.durable.parts _ (memory_of old) a))

less_above : (told : Option Feed) (old new : Replica) (n asked : ℕ) → TakesLess told old new n asked → MemoryAbove (state_of old) (memory_of old) → MemoryAbove (state_of new) (memory_of new)
less_above told old new n asked (inl s) a = stays_above old new s a
less_above told old new n asked (inr h) a = took_above told old new n h.1.0 a

above : (feed feed' : FeedState) (old new : Replica) (n asked : ℕ) (r : Result Reply Refusal) → IfOk r (HasTaken feed'.told old new n asked) → IfErr r (PumpFails feed feed' old new n asked)
    → MemoryAbove (state_of old) (memory_of old) → MemoryAbove (state_of new) (memory_of new)
above feed feed' old new n asked (Ok reply) t h a = took_above feed'.told old new n t.took a
above feed feed' old new n asked (Err e) t h a = by e h
  where
    by : (e : Refusal) → PumpFails feed feed' old new n asked e → MemoryAbove (state_of new) (memory_of new)
    by e (feed_fails is rose free less) = less_above feed'.told old new n asked less a
    by e (no_memory is same less) = less_above feed'.told old new n asked less a
    by e (refuses_pump same r stays) = stays_above old new stays a

-- ---- whatever the feed exposes

-- the state refuses it so, or not at all
abbrev AsRefused : Replica → Replica → ℕ → ℕ → Result model.Reply model.Refusal → Option model.Refusal → Type 0
AsRefused old new n asked a o = IfSome o (λ x. RefusesAs x a × (state_of new ≡ state_of old))

lacks_as : (told : Option Feed) (old new : Replica) (n asked : ℕ) → TakesLess told old new n asked → AsRefused old new n asked (Err model.out_of_memory) (refused (state_of old) (do_pump n asked))
lacks_as told old new n asked (inl s) = some (refused (state_of old) (do_pump n asked))
  where
    some : (o : Option model.Refusal) → AsRefused old new n asked (Err model.out_of_memory) o
    some None = tt
    some (Some x) = (inr refl, s.state)
lacks_as told old new n asked (inr h) = subst (AsRefused old new n asked (Err model.out_of_memory)) (sym h.0) tt

refused_as : (feed feed' : FeedState) (old new : Replica) (n asked : ℕ) (r : Result Reply Refusal) → IfOk r (HasTaken feed'.told old new n asked) → IfErr r (PumpFails feed feed' old new n asked)
    → AsRefused old new n asked (answer_of r) (refused (state_of old) (do_pump n asked))
refused_as feed feed' old new n asked (Ok reply) d h = subst (AsRefused old new n asked (Ok (view_reply reply))) (sym d.free) tt
refused_as feed feed' old new n asked (Err e) d h = by e h
  where
    by : (e : Refusal) → PumpFails feed feed' old new n asked e → AsRefused old new n asked (Err (view_refusal e)) (refused (state_of old) (do_pump n asked))
    by e (feed_fails is rose free less) = subst (AsRefused old new n asked (Err (view_refusal e))) (sym free) tt
    by e (no_memory is same less) = subst (λ (e : Refusal). AsRefused old new n asked (Err (view_refusal e)) (refused (state_of old) (do_pump n asked))) (sym is) (lacks_as feed'.told old new n asked less)
    by e (refuses_pump same r stays) = let o = refused (state_of old) (do_pump n asked) in and_stays o (λ x. RefusesAs x (Err (view_refusal e))) stays.state (is_refused o e r)

pub pump_spoken : (feed feed' : FeedState) (old new : Replica) (n asked : ℕ) (r : Result Reply Refusal) → IfErr r (PumpFails feed feed' old new n asked) → IfErr r IsSpoken
pump_spoken feed feed' old new n asked (Ok reply) h = tt
pump_spoken feed feed' old new n asked (Err e) (feed_fails is rose free less) = subst IsSpoken (sym is) tt
pump_spoken feed feed' old new n asked (Err e) (no_memory is same less) = subst IsSpoken (sym is) tt
pump_spoken feed feed' old new n asked (Err e) (refuses_pump same r stays) = refuses_spoken (refused (state_of old) (do_pump n asked)) e r

causes : (disk : DiskState) (feed feed' : FeedState) (rows : RowSinkState) (old new : Replica) (n asked : ℕ) (r : Result Reply Refusal) → IfErr r (PumpFails feed feed' old new n asked)
    → IfErr (answer_of r) (IsCaused (memory_causes (counts_at (world_of disk feed rows)) (counts_at (world_of disk feed' rows))) (refused (state_of old) (do_pump n asked)) (do_pump n asked))
causes disk feed feed' rows old new n asked (Ok reply) h = tt
causes disk feed feed' rows old new n asked (Err e) h = by e h
  where
    caused : Refusal → Type 0
    caused e = IsCaused (memory_causes (counts_at (world_of disk feed rows)) (counts_at (world_of disk feed' rows))) (refused (state_of old) (do_pump n asked)) (do_pump n asked) (view_refusal e)

    by : (e : Refusal) → PumpFails feed feed' old new n asked e → caused e
    by e (feed_fails is rose free less) = subst caused (sym is) (inr (refl, refl, rose))
    by e (no_memory is same less) = subst caused (sym is) (inr (refl, refl, tt))
    by e (refuses_pump same r stays) = is_caused (memory_causes (counts_at (world_of disk feed rows)) (counts_at (world_of disk feed' rows))) (refused (state_of old) (do_pump n asked)) (do_pump n asked) e refl r

feed_failed : (feed feed' : FeedState) (old new : Replica) (n asked : ℕ) (r : Result Reply Refusal) → OnOk r (feed'.faults ≡ feed.faults) → IfErr r (PumpFails feed feed' old new n asked) → feed.faults < feed'.faults → answer_of r ≡ Err model.feed_fault
feed_failed feed feed' old new n asked (Ok reply) d h less = absurd (omega (arith, d, less))
feed_failed feed feed' old new n asked (Err e) d (feed_fails is rose free took) less = ap (λ (e : Refusal). Err (view_refusal e)) is
feed_failed feed feed' old new n asked (Err e) d (no_memory is same took) less = absurd (omega (arith, same, less))
feed_failed feed feed' old new n asked (Err e) d (refuses_pump same r stays) less = absurd (omega (arith, same, less))

less_stays : (told : Option Feed) (old new : Replica) (n asked : ℕ) (r : model.Refusal) → IsTrue (is_pump_fault r) → TakesLess told old new n asked → StaysBut (do_pump n asked) r (state_of old) (state_of new)
less_stays told old new n asked r fault (inl s) = inl s.state
less_stays told old new n asked r fault (inr h) =
    inr (inl (and_true fault, subst (λ (x : State). x ≡ record (state_of old) { streams = x.streams; pending = x.pending }) (sym h.1.0.state) refl))
  where
    and_true : IsTrue (is_pump_fault r) → IsTrue (is_pump_fault r && true)
    and_true h = subst (λ b. IsTrue (b && true)) (sym h) refl

stays_but : (feed feed' : FeedState) (old new : Replica) (n asked : ℕ) (r : Result Reply Refusal) → IfErr r (PumpFails feed feed' old new n asked) → IfErr (answer_of r) (λ e. StaysBut (do_pump n asked) e (state_of old) (state_of new))
stays_but feed feed' old new n asked (Ok reply) h = tt
stays_but feed feed' old new n asked (Err e) h = by e h
  where
    by : (e : Refusal) → PumpFails feed feed' old new n asked e → StaysBut (do_pump n asked) (view_refusal e) (state_of old) (state_of new)
    by e (feed_fails is rose free less) = subst (λ (e : Refusal). StaysBut (do_pump n asked) (view_refusal e) (state_of old) (state_of new)) (sym is) (less_stays feed'.told old new n asked model.feed_fault refl less)
    by e (no_memory is same less) = subst (λ (e : Refusal). StaysBut (do_pump n asked) (view_refusal e) (state_of old) (state_of new)) (sym is) (less_stays feed'.told old new n asked model.out_of_memory refl less)
    by e (refuses_pump same r stays) = inl stays.state

unfailed : (feed feed' : FeedState) (r : Result Reply Refusal) {A : Type 0} → OnOk r (feed'.faults ≡ feed.faults) → (feed'.faults ≡ feed.faults → A) → OnOk (answer_of r) A
unfailed feed feed' (Ok reply) {A} d a = a d
unfailed feed feed' (Err e) {A} d a = tt

-- a pump is refused for its stream alone
no_mismatch : (old : Replica) (n asked : ℕ) (r : model.Refusal) → refused (state_of old) (do_pump n asked) ≡ Some r → tells_of_feed (Err r) ≡ true → ⊥
no_mismatch old n asked r d t = by (list_any (λ a. a.header.stream == n) (streams_of old.pump)) (sym (pump_refused old.catalogue (numbers_of old.store old.next_id) old.map (streams_of old.pump) (memory_of old) n asked) ∙ d)
  where
    by : (b : Bool) → when (not b) (model.no_stream n) ≡ Some r → ⊥
    by true e = absurd cc
    by false e = let same : model.no_stream n ≡ r = cc in false≢true (subst (λ (x : model.Refusal). tells_of_feed (Err x) ≡ true) (sym same) t)

-- a pump that replies has called the feed; a mismatch is none of its answers
has_called : (feed feed' : FeedState) (old new : Replica) (n asked : ℕ) (r : Result Reply Refusal) → 0 < asked → OnOk r (0 < asked → Rose feed.calls feed'.calls) → IfErr r (PumpFails feed feed' old new n asked)
    → tells_of_feed (answer_of r) ≡ true → Rose feed.calls feed'.calls
has_called feed feed' old new n asked (Ok reply) some d h tells = d some
has_called feed feed' old new n asked (Err e) some d h tells = absurd (none e h tells)
  where
    mismatched : Refusal → Type 0
    mismatched e = tells_of_feed (Err (view_refusal e)) ≡ true

    none : (e : Refusal) → PumpFails feed feed' old new n asked e → mismatched e → ⊥
    none e (feed_fails is rose free less) t = false≢true (subst mismatched is t)
    none e (no_memory is same less) t = false≢true (subst mismatched is t)
    none e (refuses_pump same r stays) t = refused_or_lacks (λ x. tells_of_feed (Err x) ≡ true → ⊥) (refused (state_of old) (do_pump n asked)) (λ x d t. no_mismatch old n asked (view_refusal x) d t) (λ t. false≢true t) e r t

shows : (disk : DiskState) (feed feed' : FeedState) (rows : RowSinkState) (old new : Replica) (n asked : ℕ) (r : Result Reply Refusal) → 0 < asked → FeedGoes feed feed' → OnOk r (feed'.faults ≡ feed.faults)
    → OnOk r (0 < asked → Rose feed.calls feed'.calls) → IfErr r (PumpFails feed feed' old new n asked) → Shows (counts_at (world_of disk feed rows)) (counts_at (world_of disk feed' rows)) (state_of old) (state_of new) (do_pump n asked) (answer_of r)
shows disk feed feed' rows old new n asked r some goes kept called h = record {
  later = record { feed = goes.faults; calls = goes.calls; script = omega arith; disk = omega arith; write_faults = omega arith; out = omega arith; clock = omega arith };
  succeeded = unfailed feed feed' r kept (λ e. (e, refl, refl, refl));
  feed_failed = feed_failed feed feed' old new n asked r kept h;
  write_failed = λ less. absurd (omega (arith, less));
  disk_failed = λ free less. absurd (omega (arith, less));
  out_failed = λ less. absurd (omega (arith, less));
  called = λ yes tells. has_called feed feed' old new n asked r some called h tells;
  not_called = λ no. absurd (false≢true (sym no));
  not_used = λ no. record { disk = refl; write_faults = refl; clock = refl };
  breaks = λ whole broken. absurd (false≢true broken);
}

done : (feed' : FeedState) (old new : Replica) (n asked : ℕ) (r : Result Reply Refusal) → IfOk r (HasTaken feed'.told old new n asked)
    → IfOk (answer_of r) (λ reply. DoesOver feed'.told (held_changes (memory_of old)) (state_of old) (do_pump n asked) (replies reply) (state_of new))
done feed' old new n asked (Ok reply) d = d.does (held_changes (memory_of old))
done feed' old new n asked (Err e) d = tt

pub pump_step : (disk : DiskState) (feed feed' : FeedState) (rows : RowSinkState) (old new : Replica) (n asked : ℕ) (r : Result Reply Refusal) → 0 < asked → FeedGoes feed feed' → OnOk r (feed'.faults ≡ feed.faults) → OnOk r (0 < asked → Rose feed.calls feed'.calls)
    → IfOk r (HasTaken feed'.told old new n asked) → IfErr r (PumpFails feed feed' old new n asked) → KeepsStore old new → ((image : List ℕ) → disk.left_since disk.clock image → disk.leaves image) → LeadsOn (world_of disk feed rows) (world_of disk feed' rows) old new (do_pump n asked) r
pump_step disk feed feed' rows old new n asked r some goes kept called d h k now = leads_on disk feed feed' rows rows old new (do_pump n asked) r (reads_pump n asked) k now (record {
  machine = machine disk feed feed' rows old new n asked feed'.told refl r d h;
  belongs = belongs feed'.told feed feed' refl old new n asked r d h;
  above = above feed feed' old new n asked r d h;
  shows = shows disk feed feed' rows old new n asked r some goes kept called h;
  causes = causes disk feed feed' rows old new n asked r h;
  refused = refused_as feed feed' old new n asked r d h;
  stays = stays_but feed feed' old new n asked r h;
  done = λ q. done feed' old new n asked r d;
  again = refl;
})
