use Rattle.std.proofs.Common.{sym, ap, refl, subst, [], ◌∙◌, ◌++◌, ◌+◌, take, append-nil, append_assoc, take-suc, take_all, add-one}
use Rattle.lt_engine.specs.State.{IsFed}
use Rattle.lt_world.specs.Object.{IsFront}
use Rattle.lt_pump.proofs.FeedLaws.{goes_itself, goes_then}
use Rattle.lightning_cli.proofs.EndLaws.{over_by}
use Rattle.lightning_cli.proofs.OutLaws.{appends_nothing, appends_then, bytes_stay, bytes_then, err_as, err_match, failed_then, out_failed, out_then, unfailed_itself, unfailed_then}
use Rattle.lightning_cli.proofs.RunLaws.{flushed, front_of_bytes, run_front, some_more, some_written, stands_at, thrice, to_some}
use Rattle.lightning_cli.specs.Serving.{OutOver}
use Rattle.lightning_cli.specs.Turns.{take_status}
use Rattle.lightning_cli.specs.declared.server.TakeFault.TheVariants as faults
use Rattle.lightning_cli.proofs.server.Server.take.Goals as goal

pub loop-byte-init : goal.loop-byte-init
loop-byte-init g c = record {
  fed = c.requires.fed;
  disk = refl;
  feed = goes_itself _;
  out = bytes_stay _;
  unfailed = unfailed_itself _;
  stands = λ m before written told s. ([], appends_nothing _, stands_at before _ (sym (append-nil before)) (sym (append-nil written)) s);
}

pub loop-byte-preserved : goal.loop-byte-preserved
loop-byte-preserved g c =
    let i = c.loop-byte.invariant in
    let b = c.in_ok-take_byte.ensures in
    let w = c.in_ok-flush_ended.ensures in
    record {
      fed = subst (λ r. IsFed r (g.F.Feed.state c.take_byte.new.feed)) (sym w.rest.0) b.fed;
      disk = b.goes.0 ∙ i.disk;
      feed = goes_then _ _ _ i.feed b.goes.1;
      out = bytes_then _ _ _ i.out (bytes_then _ _ _ b.goes.2 w.goes);
      unfailed = unfailed_then _ _ _ i.unfailed (unfailed_then _ _ _ b.unfailed w.unfailed);
      stands = λ m before written told s.
          let p = i.stands m before written told s in
          let t = b.taken m _ (written ++ p.0) (i.out.stays.0 told) p.2 in
          let q = w.some in
          let one = append_assoc before (take c.loop-byte.byte-index c.args.bytes.now) _ ∙ ap (λ x. before ++ x) (sym (take-suc c.args.bytes.now c.loop-byte.byte-index 0 c.loop-byte-test.true) ∙ ap (λ n. take n c.args.bytes.now) (sym (add-one c.loop-byte.byte-index))) in
          (p.0 ++ (t.0 ++ q.0), appends_then _ _ _ p.0 (t.0 ++ q.0) p.1 (appends_then _ _ _ t.0 q.0 t.1 q.1), stands_at _ _ one (thrice written p.0 t.0 q.0) (flushed _ _ q.0 w.rest.0 w.rest.1 q.2 t.2));
    }

pub returns-in_err-take_byte-clause-goes : goal.returns-in_err-take_byte-clause-goes
returns-in_err-take_byte-clause-goes g c =
    let i = c.loop-byte.invariant in
    let e = c.in_err-take_byte.ensures.goes in
    (e.0 ∙ i.disk, goes_then _ _ _ i.feed e.1, bytes_then _ _ _ i.out e.2)

pub returns-in_err-flush_ended-clause-goes : goal.returns-in_err-flush_ended-clause-goes
returns-in_err-flush_ended-clause-goes g c =
    let i = c.loop-byte.invariant in
    let e = c.in_ok-take_byte.ensures.goes in
    (e.0 ∙ i.disk, goes_then _ _ _ i.feed e.1, bytes_then _ _ _ i.out (bytes_then _ _ _ e.2 c.in_err-flush_ended.ensures.goes))

pub returns-in_err-flush-clause-goes : goal.returns-in_err-flush-clause-goes
returns-in_err-flush-clause-goes g c = let i = c.loop-byte.invariant in (i.disk, i.feed, bytes_then _ _ _ i.out c.in_err-flush.ensures.goes)

pub returns-clause-goes : goal.returns-clause-goes
returns-clause-goes g c = let i = c.loop-byte.invariant in (i.disk, i.feed, bytes_then _ _ _ i.out c.in_ok-flush.ensures.goes)

pub returns-in_err-take_byte-clause-taken : goal.returns-in_err-take_byte-clause-taken
returns-in_err-take_byte-clause-taken g c m before written told s =
    let i = c.loop-byte.invariant in
    let p = i.stands m before written told s in
    let t = c.in_err-take_byte.ensures.taken m _ (written ++ p.0) (i.out.stays.0 told) p.2 in
    let one = append_assoc before (take c.loop-byte.byte-index c.args.bytes.now) _ ∙ ap (λ x. before ++ x) (sym (take-suc c.args.bytes.now c.loop-byte.byte-index 0 c.loop-byte-test.true) ∙ ap (λ n. take n c.args.bytes.now) (sym (add-one c.loop-byte.byte-index))) in (
      p.0 ++ t.0,
      appends_then _ _ _ p.0 t.0 p.1 t.1,
      err_match _ c.from_residual.result _ c.from_residual.ensures.1
          (some_written (append_assoc written p.0 t.0) (some_more (before ++ c.args.bytes.now) (subst (λ x. IsFront x (before ++ c.args.bytes.now)) (sym one) (front_of_bytes before c.args.bytes.now (c.loop-byte.byte-index + 1))) t.2)),
    )

pub returns-in_err-flush_ended-clause-taken : goal.returns-in_err-flush_ended-clause-taken
returns-in_err-flush_ended-clause-taken g c m before written told s =
    let i = c.loop-byte.invariant in
    let p = i.stands m before written told s in
    let t = c.in_ok-take_byte.ensures.taken m _ (written ++ p.0) (i.out.stays.0 told) p.2 in
    let one = append_assoc before (take c.loop-byte.byte-index c.args.bytes.now) _ ∙ ap (λ x. before ++ x) (sym (take-suc c.args.bytes.now c.loop-byte.byte-index 0 c.loop-byte-test.true) ∙ ap (λ n. take n c.args.bytes.now) (sym (add-one c.loop-byte.byte-index))) in
    let q = c.in_err-flush_ended.ensures.front in
    let at = stands_at _ _ one refl t.2 in (
      p.0 ++ (t.0 ++ q.0),
      appends_then _ _ _ p.0 (t.0 ++ q.0) p.1 (appends_then _ _ _ t.0 q.0 t.1 q.2),
      err_match _ c.from_residual-in_err-flush_ended.result _ c.from_residual-in_err-flush_ended.ensures.1
          (some_written (thrice written p.0 t.0 q.0) (to_some _ (before ++ c.args.bytes.now) (front_of_bytes before c.args.bytes.now (c.loop-byte.byte-index + 1)) (run_front q.0 q.1 at.run))),
    )

pub returns-in_err-flush-clause-taken : goal.returns-in_err-flush-clause-taken
returns-in_err-flush-clause-taken g c m before written told s =
    let p = c.loop-byte.invariant.stands m before written told s in
    let q = c.in_err-flush.ensures.front in (
      p.0 ++ q.0,
      appends_then _ _ _ p.0 q.0 p.1 q.2,
      err_match _ c.from_residual-in_err-flush.result _ c.from_residual-in_err-flush.ensures.1
          (some_written (append_assoc written p.0 q.0) (to_some _ (before ++ c.args.bytes.now) (front_of_bytes before c.args.bytes.now c.loop-byte.byte-index) (run_front q.0 q.1 p.2.run))),
    )

pub returns-clause-taken : goal.returns-clause-taken
returns-clause-taken g c m before written told s =
    let w = c.in_ok-flush.ensures in
    let p = c.loop-byte.invariant.stands m before written told s in
    let replies = c.loop-byte.self.replies.items in
    let all = ap (λ x. before ++ x) (take_all c.loop-byte.byte-index c.args.bytes.now c.loop-byte-test.false) in (
      p.0 ++ replies,
      appends_then _ _ _ p.0 replies p.1 w.all.0,
      stands_at _ _ all (append_assoc written p.0 replies) (flushed _ _ replies w.rest.0 w.rest.1 (sym (append-nil replies) ∙ ap (λ z. replies ++ z) (sym w.all.1)) p.2),
    )

pub returns-clause-unfailed : goal.returns-clause-unfailed
returns-clause-unfailed g c = unfailed_then _ _ _ c.loop-byte.invariant.unfailed c.in_ok-flush.ensures.unfailed

pub returns-in_err-take_byte-clause-over : goal.returns-in_err-take_byte-clause-over
returns-in_err-take_byte-clause-over g c = over_by _ _ c.in_err-take_byte.field-0.0 c.from_residual.result c.from_residual.ensures.1 (out_then _ _ _ _ c.loop-byte.invariant.unfailed c.in_err-take_byte.ensures.over)

pub returns-in_err-flush_ended-clause-over : goal.returns-in_err-flush_ended-clause-over
returns-in_err-flush_ended-clause-over g c =
    let K = g.K.Sink in
    err_as (λ e. OutOver (K.state c.args.out.now) (K.state c.flush_ended.new.out) (take_status e)) c.from_residual-in_err-flush_ended.result faults.Sink c.from_residual-in_err-flush_ended.ensures.1
    (out_failed _ _ 4 refl (failed_then _ _ _ (unfailed_then _ _ _ c.loop-byte.invariant.unfailed c.in_ok-take_byte.ensures.unfailed) c.in_err-flush_ended.ensures.failed))

pub returns-in_err-flush-clause-over : goal.returns-in_err-flush-clause-over
returns-in_err-flush-clause-over g c =
    let K = g.K.Sink in
    err_as (λ e. OutOver (K.state c.args.out.now) (K.state c.flush.new.out) (take_status e)) c.from_residual-in_err-flush.result faults.Sink c.from_residual-in_err-flush.ensures.1
    (out_failed _ _ 4 refl (failed_then _ _ _ c.loop-byte.invariant.unfailed c.in_err-flush.ensures.failed))
