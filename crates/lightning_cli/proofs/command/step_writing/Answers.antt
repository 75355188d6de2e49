use Rattle.std.proofs.Common.{ap, rules, ◌∙◌}
use Rattle.lightning_cli.specs.Rows.{rows_state}
use Rattle.lightning_cli.proofs.CommandLaws.{step_as}
use Rattle.lightning_cli.proofs.command.step_writing.Goals as goal

pub returns-clause-stepped : goal.returns-clause-stepped
returns-clause-stepped g c =
    let K = g.K.Sink in
    let e = c.new-rows.ensures in
    let led = c.step-answer.ensures.led in
    let w = c.new-rows.result in
    let now = c.step-answer.new.rows in
    let v = c.args.version.now in
    step_as _ _ _ _ _ _ _ _ _ _ _ _
    (ap (λ x. rows_state x (K.state w.out.now) w.text.now.items) e.version ∙ ap (λ x. rows_state v (K.state x) w.text.now.items) e.out ∙ ap (λ x. rows_state v (K.state c.args.out.now) x.items) e.text)
    (ap (λ x. rows_state x (K.state now.out.now) now.text.now.items) (led.2 ∙ e.version) ∙ search rules) c.step-answer.ensures.stepped
