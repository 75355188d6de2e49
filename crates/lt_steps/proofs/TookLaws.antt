-- What a pump leaves that ended early: it took some items of a stream, and nothing else changed.
use Rattle.std.proofs.Common.{ap, refl, subst, sym, true, ◌≡◌}
use Rattle.lt_world.specs.Feed.{Feed}
use Rattle.lt_machine.specs.Machine.{State}
use Rattle.lt_machine.specs.Outside.{is_pump}
use Rattle.lt_machine.specs.Run.{TakesSome}
use Rattle.lt_tables.specs.Query.{Command, do_compact, do_deltas, do_flush, do_job_begin, do_job_drop, do_job_finish, do_job_step, do_page, do_pump, do_reopen, do_retain, do_retire, do_scan, do_schema, do_split, do_status}
use Rattle.lt_steps.proofs.StreamsRise.{OffsetsRise, moved_on}

pub record TookSome (s s' : State) (c : Command) : Type 0 where
  pub pump : is_pump c ≡ true
  pub broken : s'.broken ≡ s.broken
  pub job : s'.job ≡ s.job
  pub durable : s'.durable ≡ s.durable
  pub moved : s' ≡ record s { streams = s'.streams; pending = s'.pending }
  pub streams : OffsetsRise s.streams s'.streams

pub took_some : (f : Feed) (s s' : State) (c : Command) → TakesSome f s c s' → TookSome s s' c
took_some f s s' (do_pump n k) t = record {
  pump = refl;
  broken = ap (λ (x : State). x.broken) t.6;
  job = ap (λ (x : State). x.job) t.6;
  durable = ap (λ (x : State). x.durable) t.6;
  moved = subst (λ (x : State). x ≡ record s { streams = x.streams; pending = x.pending }) (sym t.6) refl;
  streams = subst (OffsetsRise s.streams) (sym (ap (λ (x : State). x.streams) t.6)) (moved_on n t.1 s.streams);
}
took_some f s s' (do_schema t) h = absurd h
took_some f s s' (do_retire t v) h = absurd h
took_some f s s' (do_flush p) h = absurd h
took_some f s s' (do_compact p m) h = absurd h
took_some f s s' (do_job_begin p m) h = absurd h
took_some f s s' (do_job_step k) h = absurd h
took_some f s s' do_job_finish h = absurd h
took_some f s s' do_job_drop h = absurd h
took_some f s s' (do_split t k) h = absurd h
took_some f s s' (do_retain t) h = absurd h
took_some f s s' (do_scan q) h = absurd h
took_some f s s' (do_page q) h = absurd h
took_some f s s' do_status h = absurd h
took_some f s s' (do_deltas p) h = absurd h
took_some f s s' do_reopen h = absurd h
