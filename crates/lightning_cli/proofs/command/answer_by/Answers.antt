use Rattle.std.proofs.Common.{ap, arith, subst, sym, ◌++◌, ◌∙◌}
use Rattle.lt_command.specs.View.{view_command}
use Rattle.lt_engine.specs.Steps.{answer_of}
use Rattle.lt_words.specs.Lines.{is_built}
use Rattle.lt_machine.specs.Outside.{is_command}
use Rattle.lightning_cli.proofs.CommandLaws.{LeadsFrom, answered_cut, answered_rows, fault_answered, leads, no_fault_answered}
use Rattle.lightning_cli.proofs.EndLaws.{err_ok, second_holds}
use Rattle.lightning_cli.proofs.OutLaws.{err_as, fell_over, led_unfailed, out_kept}
use Rattle.lightning_cli.specs.Rows.{rows_state}
use Rattle.lightning_cli.specs.Serving.{OutOver}
use Rattle.lightning_cli.specs.Turns.{take_status}
use Rattle.lightning_cli.specs.declared.server.TakeFault.TheVariants as faults
use Rattle.lightning_cli.proofs.command.answer_by.Goals as goal

pub returns-then-is_cut-clause-answered : goal.returns-then-is_cut-clause-answered
returns-then-is_cut-clause-answered g c start m told now stands =
    let D = g.D.Disk in
    let F = g.F.Feed in
    let K = g.K.Sink in
    let e = c.step_writing-answer.ensures in
    let n = c.step_writing-answer.new in
    let command = view_command c.args.command.now in
    let before = rows_state c.args.version.now (K.state c.args.out.now) c.args.text.now.items in
    let after = rows_state c.args.version.now (K.state n.out) n.text.items in
    answered_cut _ c.args.version.now (K.state c.args.out.now) (K.state n.out) c.args.text.now.items n.text.items _ (second_holds (is_command command) (is_built command) c.requires.command) (c.requires.version m.session stands.stands) told e.led now stands
    e.goes.1 (g.met.F.Feed.short n.feed)
    (subst (λ r. LeadsFrom (D.state c.args.disk.now) (D.state n.disk) (F.state c.args.feed.now) (F.state n.feed) before after command r c.args.replica.now n.replica) (fault_answered c.step_writing-answer.result (sym c.is_cut.ensures ∙ c.if-is_cut.true)) e.stepped)

pub returns-in_err-line_of-clause-answered : goal.returns-in_err-line_of-clause-answered
returns-in_err-line_of-clause-answered g c start m told now stands =
    let K = g.K.Sink in
    let e = c.step_writing-answer.ensures in
    let n = c.step_writing-answer.new in
    let command = view_command c.args.command.now in
    let whole = no_fault_answered c.step_writing-answer.result (sym c.is_cut.ensures ∙ c.if-is_cut.false) in
    answered_rows c.args.version.now (K.state c.args.out.now) (K.state n.out) c.args.text.now.items n.text.items _ (second_holds (is_command command) (is_built command) c.requires.command) (c.requires.version m.session stands.stands) whole told e.led
    (leads _ _ _ _ _ _ start m command (answer_of c.step_writing-answer.result) _ _ (λ y step. whole) now stands e.goes.1 (g.met.F.Feed.short n.feed) e.stepped) (err_ok _ c.from_residual.result _ c.from_residual.ensures.1)

pub returns-in_err-add-clause-answered : goal.returns-in_err-add-clause-answered
returns-in_err-add-clause-answered g c start m told now stands =
    let K = g.K.Sink in
    let e = c.step_writing-answer.ensures in
    let n = c.step_writing-answer.new in
    let command = view_command c.args.command.now in
    let whole = no_fault_answered c.step_writing-answer.result (sym c.is_cut.ensures ∙ c.if-is_cut.false) in
    answered_rows c.args.version.now (K.state c.args.out.now) (K.state n.out) c.args.text.now.items n.text.items _ (second_holds (is_command command) (is_built command) c.requires.command) (c.requires.version m.session stands.stands) whole told e.led
    (leads _ _ _ _ _ _ start m command (answer_of c.step_writing-answer.result) _ _ (λ y step. whole) now stands e.goes.1 (g.met.F.Feed.short n.feed) e.stepped) (err_ok _ c.from_residual-in_err-add.result _ c.from_residual-in_err-add.ensures.1)

pub returns-clause-answered : goal.returns-clause-answered
returns-clause-answered g c start m told now stands =
    let K = g.K.Sink in
    let e = c.step_writing-answer.ensures in
    let n = c.step_writing-answer.new in
    let command = view_command c.args.command.now in
    let whole = no_fault_answered c.step_writing-answer.result (sym c.is_cut.ensures ∙ c.if-is_cut.false) in
    answered_rows c.args.version.now (K.state c.args.out.now) (K.state n.out) c.args.text.now.items n.text.items _ (second_holds (is_command command) (is_built command) c.requires.command) (c.requires.version m.session stands.stands) whole told e.led
    (leads _ _ _ _ _ _ start m command (answer_of c.step_writing-answer.result) _ _ (λ y step. whole) now stands e.goes.1 (g.met.F.Feed.short n.feed) e.stepped) (c.in_ok-add.ensures.ok ∙ ap (λ t. n.text.items ++ t) (c.as_slice-2.ensures ∙ c.in_ok-line_of.ensures))

pub returns-then-is_cut-clause-over : goal.returns-then-is_cut-clause-over
returns-then-is_cut-clause-over g c = fell_over _ _ _ (sym c.is_cut.ensures ∙ c.if-is_cut.true) c.step_writing-answer.ensures.led

pub returns-in_err-line_of-clause-over : goal.returns-in_err-line_of-clause-over
returns-in_err-line_of-clause-over g c =
    let K = g.K.Sink in
    err_as (λ e. OutOver (K.state c.args.out.now) (K.state c.step_writing-answer.new.out) (take_status e)) c.from_residual.result faults.Memory c.from_residual.ensures.1
    (out_kept _ _ 10 (λ e. absurd (omega (arith, e))) (led_unfailed _ _ _ (sym c.is_cut.ensures ∙ c.if-is_cut.false) c.step_writing-answer.ensures.led))

pub returns-in_err-add-clause-over : goal.returns-in_err-add-clause-over
returns-in_err-add-clause-over g c =
    let K = g.K.Sink in
    err_as (λ e. OutOver (K.state c.args.out.now) (K.state c.step_writing-answer.new.out) (take_status e)) c.from_residual-in_err-add.result faults.Memory c.from_residual-in_err-add.ensures.1
    (out_kept _ _ 10 (λ e. absurd (omega (arith, e))) (led_unfailed _ _ _ (sym c.is_cut.ensures ∙ c.if-is_cut.false) c.step_writing-answer.ensures.led))

pub returns-clause-unfailed : goal.returns-clause-unfailed
returns-clause-unfailed g c = led_unfailed _ _ _ (sym c.is_cut.ensures ∙ c.if-is_cut.false) c.step_writing-answer.ensures.led
