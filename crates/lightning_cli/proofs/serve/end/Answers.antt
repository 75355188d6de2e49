use Rattle.std.proofs.Common.{ap, sym, ◌∙◌, arith, inl, inr}
use Rattle.std.specs.Prelude.{is_some}
use Rattle.lightning_cli.specs.Serving.{open_line}
use Rattle.lightning_cli.proofs.EndLaws.{cut_status, cuts, finish_status}
use Rattle.lightning_cli.proofs.OutLaws.{bytes_then, out_finishes, out_then, over_as}
use Rattle.lightning_cli.proofs.RunLaws.{run_replies}
use Rattle.lightning_cli.proofs.ServeLaws.{all_served, last_lacks, served_as}
use Rattle.lightning_cli.proofs.serve.end.Goals as goal

pub returns-in-Err-clause-served : goal.returns-in-Err-clause-served
returns-in-Err-clause-served g c m old script count at_end short s =
    let e = c.in-Err.ensures in
    let t = e.answered m _ s.written (open_line s.bytes) (ap is_some s.tells.written) s.stands.line s.stands.run in
    served_as m old _ _ _ c.status.ensures (last_lacks m old _ _ _ _ script _ _ count c.args.server.now _ (cuts c.in-Err.fault) at_end short s e.goes.1 e.goes.2 t.0 t.1 t.2)

pub returns-in-Ok-clause-served : goal.returns-in-Ok-clause-served
returns-in-Ok-clause-served g c m old script count at_end short s =
    let e = c.in-Ok.ensures in
    let f = c.finish.ensures in
    let t = e.answered m _ s.written (open_line s.bytes) (ap is_some s.tells.written) s.stands.line s.stands.run in
    all_served m old _ _ _ _ script _ _ _ count c.args.server.now _ c.replies.result.now c.finish.result at_end short s e.goes.1 e.goes.2 e.unfailed.faults t.0 t.1 (run_replies c.replies.result.now (sym c.replies.ensures) t.2) f.finishes f.goes

pub returns-in-Err-clause-over : goal.returns-in-Err-clause-over
returns-in-Err-clause-over g c = over_as _ _ _ _ c.status.ensures c.in-Err.ensures.over

pub returns-in-Ok-clause-over : goal.returns-in-Ok-clause-over
returns-in-Ok-clause-over g c = out_then _ _ _ _ c.in-Ok.ensures.unfailed (out_finishes _ _ _ 0 _ (λ e. absurd (omega (arith, e))) c.finish.ensures.finishes)

pub returns-in-Err-clause-statuses : goal.returns-in-Err-clause-statuses
returns-in-Err-clause-statuses g c = elim (cut_status c.in-Err.fault) [
  | inl e ↦ inr (inl (c.status.ensures ∙ e))
  | inr e ↦ inr (inr (c.status.ensures ∙ e))
]

pub returns-in-Ok-clause-statuses : goal.returns-in-Ok-clause-statuses
returns-in-Ok-clause-statuses g c = elim (finish_status _ _ _ 0 c.finish.result c.finish.ensures.finishes) [
  | inl e ↦ inl e
  | inr e ↦ inr (inl e)
]

pub returns-in-Ok-clause-goes : goal.returns-in-Ok-clause-goes
returns-in-Ok-clause-goes g c = (c.in-Ok.ensures.goes.0, c.in-Ok.ensures.goes.1, bytes_then _ _ _ c.in-Ok.ensures.goes.2 c.finish.ensures.goes)
