use Rattle.std.proofs.Common.{ap, arith, inl, inr, ◌∙◌}
use Rattle.std.specs.Prelude.{is_some}
use Rattle.lightning_cli.proofs.EndLaws.{cut_status, cuts, finish_status}
use Rattle.lightning_cli.proofs.OutLaws.{bytes_then, finish_as, out_finishes, out_then, over_as, too_long_is}
use Rattle.lightning_cli.proofs.ServeLaws.{long_served, served_as, some_served}
use Rattle.lightning_cli.proofs.serve.cut.Goals as goal

pub returns-in-Err-clause-served : goal.returns-in-Err-clause-served
returns-in-Err-clause-served g c m old script count more full over s =
    let e = c.in-Err.ensures in
    let t = e.taken m s.bytes s.written (ap is_some s.tells.written) s.stands in
    served_as m old _ _ _ c.status.ensures
    (some_served m old _ _ _ _ script _ _ count c.args.bytes.now more c.args.server.now _ (cuts c.in-Err.fault) (omega (arith, full)) s e.goes.1 e.goes.2 t.0 t.1 t.2)

pub returns-in-Ok-clause-served : goal.returns-in-Ok-clause-served
returns-in-Ok-clause-served g c m old script count more full over s =
    let e = c.in-Ok.ensures in
    let f = c.finish.ensures in
    let t = e.taken m s.bytes s.written (ap is_some s.tells.written) s.stands in
    long_served m old _ _ _ _ script _ _ _ count c.args.bytes.now more c.args.server.now _ c.finish.result full over e.written s e.goes.1 e.goes.2 e.unfailed.faults t.0 t.1 t.2
    (finish_as _ _ _ _ 9 _ too_long_is f.finishes) f.goes

pub returns-in-Err-clause-over : goal.returns-in-Err-clause-over
returns-in-Err-clause-over g c = over_as _ _ _ _ c.status.ensures c.in-Err.ensures.over

pub returns-in-Ok-clause-over : goal.returns-in-Ok-clause-over
returns-in-Ok-clause-over g c = out_then _ _ _ _ c.in-Ok.ensures.unfailed (out_finishes _ _ _ 9 _ (λ e. absurd (omega (arith, e))) c.finish.ensures.finishes)

pub returns-in-Err-clause-statuses : goal.returns-in-Err-clause-statuses
returns-in-Err-clause-statuses g c = elim (cut_status c.in-Err.fault) [
  | inl e ↦ inl (c.status.ensures ∙ e)
  | inr e ↦ inr (inr (c.status.ensures ∙ e))
]

pub returns-in-Ok-clause-statuses : goal.returns-in-Ok-clause-statuses
returns-in-Ok-clause-statuses g c = elim (finish_status _ _ _ 9 c.finish.result c.finish.ensures.finishes) [
  | inl e ↦ inr (inl e)
  | inr e ↦ inl e
]

pub returns-in-Ok-clause-goes : goal.returns-in-Ok-clause-goes
returns-in-Ok-clause-goes g c = (c.in-Ok.ensures.goes.0, c.in-Ok.ensures.goes.1, bytes_then _ _ _ c.in-Ok.ensures.goes.2 c.finish.ensures.goes)
