use Rattle.std.proofs.Common.{◌∙◌}
use Rattle.lt_command.specs.View.{view_command}
use Rattle.lt_engine.specs.Steps.{answer_of}
use Rattle.lt_words.specs.Lines.{is_built}
use Rattle.lt_machine.specs.Outside.{is_command}
use Rattle.lightning_cli.proofs.CommandLaws.{alone_leads, answered_alone, ok_is}
use Rattle.lightning_cli.proofs.EndLaws.{err_ok, second_holds}
use Rattle.lightning_cli.proofs.command.answer_alone.Goals as goal

pub returns-in_err-line_of-clause-answered : goal.returns-in_err-line_of-clause-answered
returns-in_err-line_of-clause-answered g c start m held now stands =
    let e = c.step-answer.ensures in
    answered_alone c.args.text.now.items (alone_leads _ _ _ _ start m (view_command c.args.command.now) (answer_of c.step-answer.result) _ _ (second_holds (is_command (view_command c.args.command.now)) (is_built (view_command c.args.command.now)) c.requires.command)
    now stands e.goes.1.feed (g.met.F.Feed.short c.step-answer.new.feed) e.stepped) (c.requires.version m.session stands.stands) (err_ok _ c.from_residual.result _ c.from_residual.ensures.1)

pub returns-clause-answered : goal.returns-clause-answered
returns-clause-answered g c start m held now stands =
    let e = c.step-answer.ensures in
    answered_alone c.args.text.now.items (alone_leads _ _ _ _ start m (view_command c.args.command.now) (answer_of c.step-answer.result) _ _ (second_holds (is_command (view_command c.args.command.now)) (is_built (view_command c.args.command.now)) c.requires.command)
    now stands e.goes.1.feed (g.met.F.Feed.short c.step-answer.new.feed) e.stepped) (c.requires.version m.session stands.stands) (ok_is _ _ _ _ _ (c.as_slice-2.ensures ∙ c.in_ok-line_of.ensures) c.add.ensures.ok)
