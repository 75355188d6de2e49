-- Each command, and each fault in place of an answer: what it makes of memory, and that the session belongs to its feed.
use Rattle.std.proofs.Common.{List, ap, inl, inr, refl, subst, sym, ℕ, ◌∙◌, ◌≡◌}
use Rattle.std.specs.Prelude.{IsTrue, None, Option, ◌⊎◌}
use Rattle.std.proofs.lemmas.Bool.{and_from}
use Rattle.lt_world.specs.Feed.{Feed}
use Rattle.lt_terms.specs.Log.{Change, changes_of}
use Rattle.lt_machine.specs.Machine.{Answer, Does, State, Step, StepBy, refused, ranges_of, split_key}
use Rattle.lt_machine.specs.Outside.{BelongsTo, StaysBut}
use Rattle.lt_machine.specs.Sound.{Memory}
use Rattle.lt_words.specs.Reply.{Refusal}
use Rattle.lt_machine.specs.Run.{AfterFault, TakesSome}
use Rattle.lt_tables.specs.Query.{Command, do_compact, do_deltas, do_flush, do_job_begin, do_job_drop, do_job_finish, do_job_step, do_page, do_pump, do_reopen, do_retain, do_retire, do_scan, do_schema, do_split, do_status}
use Rattle.lt_machine.specs.Sound.{FailedIsSound, IsGood, source_of}
use Rattle.lt_session_laws.proofs.AllSteps.{step_keeps}
use Rattle.lt_session_laws.proofs.FaultLaws.{fault_keeps}
use Rattle.lt_pump.specs.Given.{all_given}
use Rattle.lt_steps.proofs.SplitMemory.{memory_splits}
use Rattle.lt_steps.specs.Memory.{partitions, split_memory}
use Rattle.lt_steps.proofs.BelongsLaws.{belongs_by}
use Rattle.lt_steps.proofs.FlushedMemory.{memory_flushes}
use Rattle.lt_steps.proofs.KeptMemory.{memory_left}
use Rattle.lt_steps.proofs.PumpedOn.{given_still, took}
use Rattle.lt_steps.proofs.ReopenedMemory.{memory_reopens}
use Rattle.lt_steps.proofs.TookLaws.{took_some}
use Rattle.lt_steps.specs.Kept.{FaultLeaves, MemoryBecomes, MemoryFaults, MemoryGiven, MemorySteps, emptied, leaves_memory, nothing_held}

doing : (c : Command) (f : Feed) (source : List Change) (s s' : State) (a : Answer) → refused s c ≡ None → Step f source s c a s' → Does f source s c a s'
doing c f source s s' a free step = subst (λ (o : Option Refusal). StepBy o f source s c a s') free step

-- ---- there is what a command makes of memory

becomes_by : (f : Feed) (s s' : State) (mem : Memory) (c : Command) (a : Answer) (b : BelongsTo f s mem) → Does f (source_of b.0) s c a s' → (mem' : Memory) × MemoryBecomes f s c s' mem mem'
becomes_by f s s' mem (do_schema t) a b d = (mem, refl)
becomes_by f s s' mem (do_retire t v) a b d = (mem, refl)
becomes_by f s s' mem (do_pump n k) a b d = let t = took f b.0 s s' n k a b.1 d in (all_given (changes_of t.items) (partitions s) mem, (t.at, t.items, t.rest, t.known, t.takes, t.left, refl))
becomes_by f s s' mem (do_flush p) a b d = (emptied p mem, refl)
becomes_by f s s' mem (do_compact p m) a b d = (mem, refl)
becomes_by f s s' mem (do_job_begin p m) a b d = (mem, refl)
becomes_by f s s' mem (do_job_step n) a b d = (mem, refl)
becomes_by f s s' mem do_job_finish a b d = (mem, refl)
becomes_by f s s' mem do_job_drop a b d = (mem, refl)
becomes_by f s s' mem (do_split t k) a b d = (split_memory (split_key d.0 k) mem (ranges_of s.durable), (d.0, d.1, refl))
becomes_by f s s' mem (do_retain t) a b d = (mem, refl)
becomes_by f s s' mem (do_scan q) a b d = (mem, refl)
becomes_by f s s' mem (do_page q) a b d = (mem, refl)
becomes_by f s s' mem do_status a b d = (mem, refl)
becomes_by f s s' mem (do_deltas p) a b d = (mem, refl)
becomes_by f s s' mem do_reopen a b d = (nothing_held s'.durable, refl)

-- ---- and a session that holds it belongs to the feed

left_on : (f : Feed) (s s' : State) (mem mem' : Memory) (c : Command) (a : Answer) (b : BelongsTo f s mem) → IsTrue (leaves_memory c) → Step f (source_of b.0) s c a s' → mem' ≡ mem → BelongsTo f s' mem'
left_on f s s' mem mem' c a b l step m = subst (BelongsTo f s') (sym m) (memory_left.belongs f s s' mem c a b l step)

belongs_after : (f : Feed) (s s' : State) (mem mem' : Memory) (c : Command) (a : Answer) (b : BelongsTo f s mem) → FailedIsSound f s → refused s c ≡ None → Step f (source_of b.0) s c a s' → MemoryBecomes f s c s' mem mem' → BelongsTo f s' mem'
belongs_after f s s' mem mem' (do_schema t) a b failed free step m = left_on f s s' mem mem' (do_schema t) a b refl step m
belongs_after f s s' mem mem' (do_retire t v) a b failed free step m = left_on f s s' mem mem' (do_retire t v) a b refl step m
belongs_after f s s' mem mem' (do_pump n k) a b failed free step m = (given_still f s s' mem mem' n b m).0
belongs_after f s s' mem mem' (do_flush p) a b failed free step m = subst (BelongsTo f s') (sym m) (memory_flushes.empties f s s' mem p a b free step).0
belongs_after f s s' mem mem' (do_compact p k) a b failed free step m = left_on f s s' mem mem' (do_compact p k) a b refl step m
belongs_after f s s' mem mem' (do_job_begin p k) a b failed free step m = left_on f s s' mem mem' (do_job_begin p k) a b refl step m
belongs_after f s s' mem mem' (do_job_step n) a b failed free step m = left_on f s s' mem mem' (do_job_step n) a b refl step m
belongs_after f s s' mem mem' do_job_finish a b failed free step m = left_on f s s' mem mem' do_job_finish a b refl step m
belongs_after f s s' mem mem' do_job_drop a b failed free step m = left_on f s s' mem mem' do_job_drop a b refl step m
belongs_after f s s' mem mem' (do_split t k) a b failed free step m = subst (BelongsTo f s') (sym m.2) (memory_splits f s s' mem t k m.0 a b m.1 free step)
belongs_after f s s' mem mem' (do_retain t) a b failed free step m = left_on f s s' mem mem' (do_retain t) a b refl step m
belongs_after f s s' mem mem' (do_scan q) a b failed free step m = left_on f s s' mem mem' (do_scan q) a b refl step m
belongs_after f s s' mem mem' (do_page q) a b failed free step m = left_on f s s' mem mem' (do_page q) a b refl step m
belongs_after f s s' mem mem' do_status a b failed free step m = left_on f s s' mem mem' do_status a b refl step m
belongs_after f s s' mem mem' (do_deltas p) a b failed free step m = left_on f s s' mem mem' (do_deltas p) a b refl step m
belongs_after f s s' mem mem' do_reopen a b failed free step m = subst (BelongsTo f s') (sym m) (memory_reopens.reopens f s s' mem a b failed free step)

pub memory_steps : MemorySteps
memory_steps = record {
  becomes = λ f s s' mem c a b free step. becomes_by f s s' mem c a b (doing c f (source_of b.0) s s' a free step);
  belongs = belongs_after;
  failed = λ f s s' mem c a b failed step. (step_keeps c f b.0 s s' a b.1 failed step).1;
  drops = λ f source s s' a d. ap (λ (x : State). x.broken) d.3;
}

-- ---- faults

-- what was pending stays, but where a pump took some
pending_by : (f : Feed) (source : List Change) (s s' : State) (c : Command) (r : Refusal) → (TakesSome f s c s' → ⊥) → AfterFault f source s c r s' → s'.pending ≡ s.pending
pending_by f source s s' c r none (inl e) = ap (λ (x : State). x.pending) e
pending_by f source s s' c r none (inr (inl t)) = absurd (none t.1)
pending_by f source s s' c r none (inr (inr w)) = ap (λ (x : State). x.pending) w.1.2

fault_by : (f : Feed) (s s' : State) (mem mem' : Memory) (b : BelongsTo f s mem) → IsGood f s' b.0 → s'.pending ≡ s.pending → mem' ≡ mem → BelongsTo f s' mem'
fault_by f s s' mem mem' b good pending m = subst (BelongsTo f s') (sym m) (belongs_by f s mem b s' mem good (b.2 ∙ sym pending) b.3).0

pump_leaves : (f : Feed) (s s' : State) (mem : Memory) (n k : ℕ) (r : Refusal) (b : BelongsTo f s mem) → AfterFault f (source_of b.0) s (do_pump n k) r s' → (mem' : Memory) × FaultLeaves f s (do_pump n k) s' mem mem'
pump_leaves f s s' mem n k r b (inl e) = (mem, inl (ap (λ (x : State). x.pending) e, refl))
pump_leaves f s s' mem n k r b (inr (inl t)) = let u = t.1 in (all_given (changes_of u.1) (partitions s) mem, inr (u.0, u.1, u.2, u.3, u.5, u.6, refl))
pump_leaves f s s' mem n k r b (inr (inr w)) = (mem, inl (ap (λ (x : State). x.pending) w.1.2, refl))

leaves_by : (f : Feed) (s s' : State) (mem : Memory) (c : Command) (r : Refusal) (b : BelongsTo f s mem) → AfterFault f (source_of b.0) s c r s' → (mem' : Memory) × FaultLeaves f s c s' mem mem'
leaves_by f s s' mem (do_pump n k) r b e = pump_leaves f s s' mem n k r b e
leaves_by f s s' mem (do_schema t) r b e = (mem, refl)
leaves_by f s s' mem (do_retire t v) r b e = (mem, refl)
leaves_by f s s' mem (do_flush p) r b e = (mem, refl)
leaves_by f s s' mem (do_compact p m) r b e = (mem, refl)
leaves_by f s s' mem (do_job_begin p m) r b e = (mem, refl)
leaves_by f s s' mem (do_job_step n) r b e = (mem, refl)
leaves_by f s s' mem do_job_finish r b e = (mem, refl)
leaves_by f s s' mem do_job_drop r b e = (mem, refl)
leaves_by f s s' mem (do_split t k) r b e = (mem, refl)
leaves_by f s s' mem (do_retain t) r b e = (mem, refl)
leaves_by f s s' mem (do_scan q) r b e = (mem, refl)
leaves_by f s s' mem (do_page q) r b e = (mem, refl)
leaves_by f s s' mem do_status r b e = (mem, refl)
leaves_by f s s' mem (do_deltas p) r b e = (mem, refl)
leaves_by f s s' mem do_reopen r b e = (mem, refl)

pump_fault : (f : Feed) (s s' : State) (mem mem' : Memory) (n : ℕ) (b : BelongsTo f s mem) → IsGood f s' b.0 → ((s'.pending ≡ s.pending) × (mem' ≡ mem)) ⊎ MemoryGiven f s n s' mem mem' → BelongsTo f s' mem'
pump_fault f s s' mem mem' n b good (inl m) = fault_by f s s' mem mem' b good m.0 m.1
pump_fault f s s' mem mem' n b good (inr g) = (given_still f s s' mem mem' n b g).0

belongs_fault : (f : Feed) (s s' : State) (mem mem' : Memory) (c : Command) (r : Refusal) (b : BelongsTo f s mem) → IsGood f s' b.0 → AfterFault f (source_of b.0) s c r s' → FaultLeaves f s c s' mem mem' → BelongsTo f s' mem'
belongs_fault f s s' mem mem' (do_pump n k) r b good e m = pump_fault f s s' mem mem' n b good m
belongs_fault f s s' mem mem' (do_schema t) r b good e m = fault_by f s s' mem mem' b good (pending_by f (source_of b.0) s s' (do_schema t) r (λ x. x) e) m
belongs_fault f s s' mem mem' (do_retire t v) r b good e m = fault_by f s s' mem mem' b good (pending_by f (source_of b.0) s s' (do_retire t v) r (λ x. x) e) m
belongs_fault f s s' mem mem' (do_flush p) r b good e m = fault_by f s s' mem mem' b good (pending_by f (source_of b.0) s s' (do_flush p) r (λ x. x) e) m
belongs_fault f s s' mem mem' (do_compact p k) r b good e m = fault_by f s s' mem mem' b good (pending_by f (source_of b.0) s s' (do_compact p k) r (λ x. x) e) m
belongs_fault f s s' mem mem' (do_job_begin p k) r b good e m = fault_by f s s' mem mem' b good (pending_by f (source_of b.0) s s' (do_job_begin p k) r (λ x. x) e) m
belongs_fault f s s' mem mem' (do_job_step n) r b good e m = fault_by f s s' mem mem' b good (pending_by f (source_of b.0) s s' (do_job_step n) r (λ x. x) e) m
belongs_fault f s s' mem mem' do_job_finish r b good e m = fault_by f s s' mem mem' b good (pending_by f (source_of b.0) s s' do_job_finish r (λ x. x) e) m
belongs_fault f s s' mem mem' do_job_drop r b good e m = fault_by f s s' mem mem' b good (pending_by f (source_of b.0) s s' do_job_drop r (λ x. x) e) m
belongs_fault f s s' mem mem' (do_split t k) r b good e m = fault_by f s s' mem mem' b good (pending_by f (source_of b.0) s s' (do_split t k) r (λ x. x) e) m
belongs_fault f s s' mem mem' (do_retain t) r b good e m = fault_by f s s' mem mem' b good (pending_by f (source_of b.0) s s' (do_retain t) r (λ x. x) e) m
belongs_fault f s s' mem mem' (do_scan q) r b good e m = fault_by f s s' mem mem' b good (pending_by f (source_of b.0) s s' (do_scan q) r (λ x. x) e) m
belongs_fault f s s' mem mem' (do_page q) r b good e m = fault_by f s s' mem mem' b good (pending_by f (source_of b.0) s s' (do_page q) r (λ x. x) e) m
belongs_fault f s s' mem mem' do_status r b good e m = fault_by f s s' mem mem' b good (pending_by f (source_of b.0) s s' do_status r (λ x. x) e) m
belongs_fault f s s' mem mem' (do_deltas p) r b good e m = fault_by f s s' mem mem' b good (pending_by f (source_of b.0) s s' (do_deltas p) r (λ x. x) e) m
belongs_fault f s s' mem mem' do_reopen r b good e m = fault_by f s s' mem mem' b good (pending_by f (source_of b.0) s s' do_reopen r (λ x. x) e) m

-- on any store
stays_but : (f : Feed) (source : List Change) (s s' : State) (c : Command) (r : Refusal) → AfterFault f source s c r s' → StaysBut c r s s'
stays_but f source s s' c r (inl e) = inl e
stays_but f source s s' c r (inr (inl t)) = let k = took_some f s s' c t.1 in inr (inl (and_from _ _ t.0 k.pump, k.moved))
stays_but f source s s' c r (inr (inr w)) = inr (inr (w.0, w.1.3, (w.1.0, w.1.2)))

pub memory_faults : MemoryFaults
memory_faults = record {
  leaves = leaves_by;
  belongs = λ f s s' mem mem' c r b failed why e m. belongs_fault f s s' mem mem' c r b (fault_keeps f b.0 s s' c r b.1 failed why e).0 e m;
  stays = stays_but;
  failed = λ f s s' mem c r b failed why e. (fault_keeps f b.0 s s' c r b.1 failed why e).1;
}
