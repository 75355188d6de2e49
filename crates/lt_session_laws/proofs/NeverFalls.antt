-- The minimum never falls: a retention raises it, a reopening reads what has no lesser one, and no other command changes it.
use Rattle.std.proofs.Common.{Bool, List, ap, arith, false, inl, inr, ltb-false, refl, subst, sym, true, ℕ, ◌∙◌, ◌≡◌, ◌≤◌}
use Rattle.std.specs.Prelude.{IfSome, None, Option, Some, is_some, nat_lt, unwrap_or, ◌&&◌, ◌⊎◌}
use Rattle.std.proofs.lemmas.Bool.{false≢true}
use Rattle.lt_terms.specs.Log.{Change}
use Rattle.lt_world.specs.Feed.{Feed}
use Rattle.lt_tables.specs.Schema.{Catalogue, when}
use Rattle.lt_tables.specs.Version.{RowVersion}
use Rattle.lt_tables.specs.Query.{Command, do_compact, do_deltas, do_flush, do_job_begin, do_job_drop, do_job_finish, do_job_step, do_page, do_pump, do_reopen, do_retain, do_retire, do_scan, do_schema, do_split, do_status}
use Rattle.lt_words.specs.Reply.{Refusal, above_durable, below_minimum, needs_reopen, out_of_memory}
use Rattle.lt_storage.specs.Store.{Durable}
use Rattle.lt_machine.specs.Machine.{Answer, Does, Job, State, StepBy, cat_of, compacted, flush_id, flushed_lists, is_broken, is_write, job_output, least, output_id, pending_of, refused, resumes, with_delta}
use Rattle.lt_machine.specs.Sound.{FailedIsLater}
use Rattle.lt_machine.specs.Run.{AfterFault, TakesSome}
use Rattle.lt_machine.specs.Laws.{MinimumNeverFalls}
use Rattle.lt_codecs.proofs.ListFacts.{or_right}
use Rattle.lt_lemmas.proofs.ListFacts.{when_none}
use Rattle.lt_session_laws.proofs.StepLaws.{unrefused}
use Rattle.lt_session_laws.proofs.FaultLaws.{disk_unrefused, would_do}

-- the minimum did not fall, and what a failed command would have left has no lesser one
abbrev Stays : State → State → Type 0
Stays s s' = (s.durable.minimum ≤ s'.durable.minimum) × FailedIsLater s'

-- a state with the same minimum, that is broken as the old one was
stays_as : (s s' : State) → s'.durable.minimum ≡ s.durable.minimum → s'.broken ≡ s.broken → FailedIsLater s → Stays s s'
stays_as s s' e b h = (omega (arith, e), subst (λ (o : Option Durable). IfSome o (λ d. s'.durable.minimum ≤ d.minimum)) (sym b) (subst (λ (n : ℕ). IfSome s.broken (λ d. n ≤ d.minimum)) (sym e) h))

delta_keeps : (id : Option ℕ) (cat : Catalogue) (lists : List (ℕ × List RowVersion)) (d : Durable) → (with_delta id cat lists d).minimum ≡ d.minimum
delta_keeps None cat lists d = refl
delta_keeps (Some id) cat lists d = refl

compaction_keeps : (d : Durable) (j : Job) → (compacted d j).minimum ≡ d.minimum
compaction_keeps d j = delta_keeps (output_id d j) j.catalogue (job_output d.shelf j) d

-- a session that may write is not broken
not_broken : (b w : Bool) → w ≡ true → when (b && w) needs_reopen ≡ None → b ≡ false
not_broken false w t h = refl
not_broken true true t h = absurd (let e : true ≡ false = when_none true needs_reopen h in false≢true (sym e))
not_broken true false t h = absurd (false≢true t)

unbroken : (o : Option Durable) (n : ℕ) → is_some o ≡ false → IfSome o (λ d. n ≤ d.minimum)
unbroken None n h = tt
unbroken (Some d) n h = absurd (false≢true (sym h))

read_later : (s : State) (d : Durable) → FailedIsLater s → (d ≡ s.durable) ⊎ (s.broken ≡ Some d) → s.durable.minimum ≤ d.minimum
read_later s d h (inl e) = omega (arith, ap (λ (x : Durable). x.minimum) e)
read_later s d h (inr e) = subst (λ (o : Option Durable). IfSome o (λ x. s.durable.minimum ≤ x.minimum)) e h

does_later : (c : Command) (feed : Feed) (source : List Change) (s s' : State) (a : Answer) → FailedIsLater s → refused s c ≡ None → Does feed source s c a s' → Stays s s'
does_later (do_schema t) feed source s s' a h e d = stays_as s s' (ap (λ (x : State). x.durable.minimum) d.3) (ap (λ (x : State). x.broken) d.3) h
does_later (do_retire t v) feed source s s' a h e d = stays_as s s' (ap (λ (x : State). x.durable.minimum) d.3) (ap (λ (x : State). x.broken) d.3) h
does_later (do_pump n k) feed source s s' a h e d = stays_as s s' (ap (λ (x : State). x.durable.minimum) d.6) (ap (λ (x : State). x.broken) d.6) h
does_later (do_flush p) feed source s s' a h e d = stays_as s s' (ap (λ (x : State). x.durable.minimum) d.1 ∙ delta_keeps (flush_id s p) (cat_of s) (flushed_lists source (cat_of s) (pending_of s p)) s.durable) (ap (λ (x : State). x.broken) d.1) h
does_later (do_compact p m) feed source s s' a h e d = stays_as s s' (ap (λ (x : State). x.durable.minimum) d.3 ∙ compaction_keeps s.durable d.0) (ap (λ (x : State). x.broken) d.3) h
does_later (do_job_begin p m) feed source s s' a h e d = stays_as s s' (ap (λ (x : State). x.durable.minimum) d.3) (ap (λ (x : State). x.broken) d.3) h
does_later (do_job_step n) feed source s s' a h e d = stays_as s s' (ap (λ (x : State). x.durable.minimum) d.3) (ap (λ (x : State). x.broken) d.3) h
does_later do_job_finish feed source s s' a h e d = stays_as s s' (ap (λ (x : State). x.durable.minimum) d.3 ∙ compaction_keeps s.durable d.0) (ap (λ (x : State). x.broken) d.3) h
does_later do_job_drop feed source s s' a h e d = stays_as s s' (ap (λ (x : State). x.durable.minimum) d.1) (ap (λ (x : State). x.broken) d.1) h
does_later (do_split t ls) feed source s s' a h e d = stays_as s s' (ap (λ (x : State). x.durable.minimum) d.3) (ap (λ (x : State). x.broken) d.3) h
does_later (do_retain t) feed source s s' a h e d =
    let u = unrefused s (do_retain t) e in
    let low : s.durable.minimum ≤ t = ltb-false t s.durable.minimum (when_none (nat_lt t s.durable.minimum) (below_minimum s.durable.minimum) (or_right (when (nat_lt (least (resumes s.durable)) t) (above_durable (least (resumes s.durable)))) _ u.retain)) in
    subst (Stays s) (sym d.1) (low, unbroken s.broken t (not_broken (is_broken s) (is_write (do_retain t)) refl u.whole))
does_later (do_scan q) feed source s s' a h e d = stays_as s s' (ap (λ (x : State). x.durable.minimum) d.2) (ap (λ (x : State). x.broken) d.2) h
does_later (do_page q) feed source s s' a h e d = stays_as s s' (ap (λ (x : State). x.durable.minimum) d.2) (ap (λ (x : State). x.broken) d.2) h
does_later do_status feed source s s' a h e d = stays_as s s' (ap (λ (x : State). x.durable.minimum) d.1) (ap (λ (x : State). x.broken) d.1) h
does_later (do_deltas p) feed source s s' a h e d = stays_as s s' (ap (λ (x : State). x.durable.minimum) d.1) (ap (λ (x : State). x.broken) d.1) h
does_later do_reopen feed source s s' a h e d = subst (Stays s) (sym d.3) (read_later s d.0 h d.1, tt)

step_later : (o : Option Refusal) (c : Command) (feed : Feed) (source : List Change) (s s' : State) (a : Answer) → FailedIsLater s → refused s c ≡ o → StepBy o feed source s c a s' → Stays s s'
step_later (Some r) c feed source s s' a h e d = stays_as s s' (ap (λ (x : State). x.durable.minimum) d.1) (ap (λ (x : State). x.broken) d.1) h
step_later None c feed source s s' a h e d = does_later c feed source s s' a h e d

-- ---- faults

took_later : (c : Command) (feed : Feed) (s s' : State) → FailedIsLater s → TakesSome feed s c s' → Stays s s'
took_later (do_pump n k) feed s s' h t = stays_as s s' (ap (λ (x : State). x.durable.minimum) t.6) (ap (λ (x : State). x.broken) t.6) h
took_later (do_schema t) feed s s' h w = absurd w
took_later (do_retire t v) feed s s' h w = absurd w
took_later (do_flush p) feed s s' h w = absurd w
took_later (do_compact p m) feed s s' h w = absurd w
took_later (do_job_begin p m) feed s s' h w = absurd w
took_later (do_job_step n) feed s s' h w = absurd w
took_later do_job_finish feed s s' h w = absurd w
took_later do_job_drop feed s s' h w = absurd w
took_later (do_split t k) feed s s' h w = absurd w
took_later (do_retain t) feed s s' h w = absurd w
took_later (do_scan q) feed s s' h w = absurd w
took_later (do_page q) feed s s' h w = absurd w
took_later do_status feed s s' h w = absurd w
took_later (do_deltas p) feed s s' h w = absurd w
took_later do_reopen feed s s' h w = absurd w

stood_later : (n : ℕ) (d : Durable) (o : Option Durable) → n ≤ d.minimum → IfSome o (λ x. n ≤ x.minimum) → n ≤ (unwrap_or o d).minimum
stood_later n d None l h = l
stood_later n d (Some x) l h = h

-- what a failed command would have left has no lesser minimum
would_later : (c : Command) (feed : Feed) (source : List Change) (s : State) (d : Durable) → FailedIsLater s → refused s c ≡ None → (d ≡ unwrap_or s.broken s.durable) ⊎ ((a : Answer) × (s' : State) × Does feed source s c a s' × (d ≡ s'.durable)) → s.durable.minimum ≤ d.minimum
would_later c feed source s d h e (inl w) = subst (λ (x : Durable). s.durable.minimum ≤ x.minimum) (sym w) (stood_later s.durable.minimum s.durable s.broken (omega arith) h)
would_later c feed source s d h e (inr w) = subst (λ (x : Durable). s.durable.minimum ≤ x.minimum) (sym w.3) (does_later c feed source s w.1 w.0 h e w.2).0

fault_later : (feed : Feed) (source : List Change) (s s' : State) (c : Command) (r : Refusal) → FailedIsLater s → (r ≡ out_of_memory) ⊎ (refused s c ≡ None) → AfterFault feed source s c r s' → Stays s s'
fault_later feed source s s' c r h why (inl e) = stays_as s s' (ap (λ (x : State). x.durable.minimum) e) (ap (λ (x : State). x.broken) e) h
fault_later feed source s s' c r h why (inr (inl t)) = took_later c feed s s' h t.1
fault_later feed source s s' c r h why (inr (inr w)) = subst (Stays s) (sym w.1.2) (omega arith, would_later c feed source s w.1.0 h (disk_unrefused s c r w.0 why) (would_do c feed source s w.1.0 w.1.1))

pub minimum_never_falls : MinimumNeverFalls
minimum_never_falls = record {
  step = λ feed source s s' c a h d. step_later (refused s c) c feed source s s' a h refl d;
  fault = fault_later;
}
