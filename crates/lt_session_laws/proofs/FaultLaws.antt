-- A fault in place of an answer leaves a good session: what a pump took is pending, and what a failed command would have left is sound.
use Rattle.std.proofs.Common.{List, ap, false, inl, inr, subst, sym, true, ◌∙◌, ◌≡◌}
use Rattle.std.specs.Prelude.{IfSome, IsTrue, None, Option, Some, unwrap_or, ◌⊎◌}
use Rattle.lt_terms.specs.Log.{Change, Header, Item}
use Rattle.lt_world.specs.Feed.{Feed}
use Rattle.lt_tables.specs.Query.{Command, do_compact, do_deltas, do_flush, do_job_begin, do_job_drop, do_job_finish, do_job_step, do_page, do_pump, do_reopen, do_retain, do_retire, do_scan, do_schema, do_split, do_status}
use Rattle.lt_words.specs.Reply.{Refusal, out_of_memory}
use Rattle.lt_storage.specs.Store.{Durable}
use Rattle.lt_machine.specs.Machine.{Answer, Does, State, Step, StepBy, refused}
use Rattle.lt_machine.specs.Run.{TakesSome, WouldLeave, is_disk_fault}
use Rattle.lt_machine.specs.Sound.{FailedIsSound, IsGood, IsSoundFor, source_of}
use Rattle.lt_machine.specs.Laws.{FaultKeeps}
use Rattle.lt_session_laws.proofs.AllSteps.{step_keeps}
use Rattle.lt_session_laws.proofs.StepLaws.{good_sound}
use Rattle.lt_session_laws.proofs.PumpLaws.{pumped}

-- ---- what a command that fails would have left

-- a reopening reads what stood; any other command would have left what the machine does
pub would_do : (c : Command) (feed : Feed) (source : List Change) (s : State) (d : Durable) → WouldLeave feed source s c d → (d ≡ unwrap_or s.broken s.durable) ⊎ ((a : Answer) × (s' : State) × Does feed source s c a s' × (d ≡ s'.durable))
would_do (do_schema t) feed source s d w = inr w
would_do (do_retire t v) feed source s d w = inr w
would_do (do_pump n k) feed source s d w = inr w
would_do (do_flush p) feed source s d w = inr w
would_do (do_compact p m) feed source s d w = inr w
would_do (do_job_begin p m) feed source s d w = inr w
would_do (do_job_step n) feed source s d w = inr w
would_do do_job_finish feed source s d w = inr w
would_do do_job_drop feed source s d w = inr w
would_do (do_split t k) feed source s d w = inr w
would_do (do_retain t) feed source s d w = inr w
would_do (do_scan q) feed source s d w = inr w
would_do (do_page q) feed source s d w = inr w
would_do do_status feed source s d w = inr w
would_do (do_deltas p) feed source s d w = inr w
would_do do_reopen feed source s d w = inl w

stood_sound : (feed : Feed) (d : Durable) (o : Option Durable) → IsSoundFor feed d → IfSome o (IsSoundFor feed) → IsSoundFor feed (unwrap_or o d)
stood_sound feed d None h failed = h
stood_sound feed d (Some e) h failed = failed

would_sound : (feed : Feed) (fs : List (Header × List Item)) (s : State) (c : Command) (d : Durable) → IsGood feed s fs → FailedIsSound feed s → refused s c ≡ None
    → (d ≡ unwrap_or s.broken s.durable) ⊎ ((a : Answer) × (s' : State) × Does feed (source_of fs) s c a s' × (d ≡ s'.durable)) → IsSoundFor feed d
would_sound feed fs s c d good failed e (inl w) = subst (IsSoundFor feed) (sym w) (stood_sound feed s.durable s.broken (good_sound feed fs s good) failed)
would_sound feed fs s c d good failed e (inr w) =
    let step : Step feed (source_of fs) s c w.0 w.1 = subst (λ (o : Option Refusal). StepBy o feed (source_of fs) s c w.0 w.1) (sym e) w.2 in
    let after = (step_keeps c feed fs s w.1 w.0 good failed step).0 in
    subst (IsSoundFor feed) (sym w.3) (good_sound feed after.0 w.1 after.1)

breaks_good : (feed : Feed) (fs : List (Header × List Item)) (s : State) (d : Durable) → IsGood feed s fs → IsGood feed (record s { broken = Some d }) fs
breaks_good feed fs s d good = record {
  short = good.short;
  lawful = good.lawful;
  fronts = good.fronts;
  sound = good.sound;
  ready = record { places = good.ready.places; pending = good.ready.pending; job = good.ready.job };
}

-- ---- a pump that ends early

abbrev StaysGood : Feed → List (Header × List Item) → State → Type 0
StaysGood feed fs s = IsGood feed s fs × FailedIsSound feed s

took_some : (c : Command) (feed : Feed) (fs : List (Header × List Item)) (s s' : State) → IsGood feed s fs → FailedIsSound feed s → TakesSome feed s c s' → StaysGood feed fs s'
took_some (do_schema t) feed fs s s' good failed t' = absurd t'
took_some (do_retire t v) feed fs s s' good failed t' = absurd t'
took_some (do_pump n k) feed fs s s' good failed t =
    subst (StaysGood feed fs) (sym t.6) (pumped feed fs s n t.1 t.2 t.0 good t.3 t.5, failed)
took_some (do_flush p) feed fs s s' good failed t = absurd t
took_some (do_compact p m) feed fs s s' good failed t = absurd t
took_some (do_job_begin p m) feed fs s s' good failed t = absurd t
took_some (do_job_step n) feed fs s s' good failed t = absurd t
took_some do_job_finish feed fs s s' good failed t = absurd t
took_some do_job_drop feed fs s s' good failed t = absurd t
took_some (do_split t k) feed fs s s' good failed t' = absurd t'
took_some (do_retain t) feed fs s s' good failed t' = absurd t'
took_some (do_scan q) feed fs s s' good failed t = absurd t
took_some (do_page q) feed fs s s' good failed t = absurd t
took_some do_status feed fs s s' good failed t = absurd t
took_some (do_deltas p) feed fs s s' good failed t = absurd t
took_some do_reopen feed fs s s' good failed t = absurd t

-- ---- all faults

pub disk_unrefused : (s : State) (c : Command) (r : Refusal) → IsTrue (is_disk_fault r) → (r ≡ out_of_memory) ⊎ (refused s c ≡ None) → refused s c ≡ None
disk_unrefused s c r disk (inl e) = let f : false ≡ true = sym (ap is_disk_fault e) ∙ disk in absurd cc
disk_unrefused s c r disk (inr e) = e

pub fault_keeps : FaultKeeps
fault_keeps feed fs s s' c r good failed why (inl e) = subst (StaysGood feed fs) (sym e) (good, failed)
fault_keeps feed fs s s' c r good failed why (inr (inl t)) = took_some c feed fs s s' good failed t.1
fault_keeps feed fs s s' c r good failed why (inr (inr w)) =
    let d = w.1.0 in
    let sound = would_sound feed fs s c d good failed (disk_unrefused s c r w.0 why) (would_do c feed (source_of fs) s d w.1.1) in
    subst (StaysGood feed fs) (sym w.1.2) (breaks_good feed fs s d good, sound)
