use Rattle.std.proofs.Common.{[], ap, sym, append-nil, inl, inr, refl, ◌∙◌}
use Rattle.std.specs.Prelude.{is_some}
use Rattle.lightning_cli.proofs.EndLaws.{cut_status, cuts}
use Rattle.lightning_cli.proofs.OutLaws.{over_as}
use Rattle.lightning_cli.proofs.ServeLaws.{ahead_is, served_as, serving_on, some_served}
use Rattle.lightning_cli.proofs.serve.digest.Goals as goal

pub returns-in-Err-clause-serves : goal.returns-in-Err-clause-serves
returns-in-Err-clause-serves g c m old script count room s =
    let e = c.in-Err.ensures in
    let piece = c.args.piece.now in
    let s' = ahead_is piece _ (sym (append-nil piece)) s in
    let t = e.taken m s'.bytes s'.written (ap is_some s'.tells.written) s'.stands in
    served_as m old _ _ _ c.status.ensures
    (some_served m old _ _ _ _ script _ _ count piece [] c.args.server.now _ (cuts c.in-Err.fault) room s' e.goes.1 e.goes.2 t.0 t.1 t.2)

pub returns-in-Ok-clause-serves : goal.returns-in-Ok-clause-serves
returns-in-Ok-clause-serves g c m old script count room s =
    let e = c.in-Ok.ensures in
    let t = e.taken m s.bytes s.written (ap is_some s.tells.written) s.stands in
    serving_on m old _ _ _ _ script _ _ count _ c.args.piece.now c.args.server.now _ refl e.unfailed.faults s e.goes.1 e.goes.2 t.0 t.1 t.2

pub returns-in-Err-clause-over : goal.returns-in-Err-clause-over
returns-in-Err-clause-over g c = over_as _ _ _ _ c.status.ensures c.in-Err.ensures.over

pub returns-in-Err-clause-statuses : goal.returns-in-Err-clause-statuses
returns-in-Err-clause-statuses g c = elim (cut_status c.in-Err.fault) [
  | inl e ↦ inl (c.status.ensures ∙ e)
  | inr e ↦ inr (c.status.ensures ∙ e)
]
