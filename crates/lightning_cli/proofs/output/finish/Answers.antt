use Rattle.std.proofs.Common.{drop, inl, inr, refl, sym, take, take-append-drop}
use Rattle.lightning_cli.proofs.output.finish.Goals as goal

pub returns-in-Ok-clause-finishes : goal.returns-in-Ok-clause-finishes
returns-in-Ok-clause-finishes g c = inl (refl, c.in-Ok.ensures.all, c.in-Ok.ensures.unfailed)

pub returns-in-Err-clause-finishes : goal.returns-in-Err-clause-finishes
returns-in-Err-clause-finishes g c =
    let n = c.in-Err.field-0.written in
    let bytes = c.args.line.now in
    inr (refl, (take n bytes, (drop n bytes, sym (take-append-drop n bytes)), c.in-Err.ensures.front.1), c.in-Err.ensures.failed)
