use Rattle.std.proofs.Common.{ap, refl, sym, ◌++◌, ◌∙◌}
use Rattle.std.specs.Prelude.{option_map}
use Rattle.lt_command.specs.View.{view_command}
use Rattle.lt_pump.proofs.FeedLaws.{goes_itself}
use Rattle.lt_schema.specs.View.{view_version}
use Rattle.lightning_cli.specs.Commands.{version_read}
use Rattle.lightning_cli.proofs.CommandLaws.{answered_lack, alone_fault, alone_done}
use Rattle.lightning_cli.proofs.EndLaws.{err_ok}
use Rattle.lightning_cli.proofs.OutLaws.{bytes_stay}
use Rattle.lightning_cli.proofs.command.answer.Goals as goal

pub answer_by-requires-clause-version : goal.answer_by-requires-clause-version
answer_by-requires-clause-version g c x stands = ap (λ cat. version_read cat (view_command c.args.command.now)) (sym (c.catalogue.ensures x stands)) ∙ sym c.in-Ok.ensures ∙ ap (option_map view_version) c.in-Some.is

pub answer_alone-requires-clause-version : goal.answer_alone-requires-clause-version
answer_alone-requires-clause-version g c x stands = ap (λ cat. version_read cat (view_command c.args.command.now)) (sym (c.catalogue.ensures x stands)) ∙ sym c.in-Ok.ensures ∙ ap (option_map view_version) c.in-None.is

pub returns-in_err-refusal_text-clause-answered : goal.returns-in_err-refusal_text-clause-answered
returns-in_err-refusal_text-clause-answered g c start m told now stands = answered_lack (g.D.Disk.state c.args.disk.now) (g.F.Feed.state c.args.feed.now) start m (view_command c.args.command.now) c.args.replica.now c.args.text.now.items now stands (err_ok _ c.from_residual.result _ c.from_residual.ensures.1)

pub returns-in_err-refusal_text-clause-goes : goal.returns-in_err-refusal_text-clause-goes
returns-in_err-refusal_text-clause-goes g c = (refl, goes_itself _, bytes_stay _)

pub returns-in_err-add-clause-answered : goal.returns-in_err-add-clause-answered
returns-in_err-add-clause-answered g c start m told now stands = answered_lack (g.D.Disk.state c.args.disk.now) (g.F.Feed.state c.args.feed.now) start m (view_command c.args.command.now) c.args.replica.now c.args.text.now.items now stands (err_ok _ c.from_residual-in_err-add.result _ c.from_residual-in_err-add.ensures.1)

pub returns-in_err-add-clause-goes : goal.returns-in_err-add-clause-goes
returns-in_err-add-clause-goes g c = (refl, goes_itself _, bytes_stay _)

pub returns-in_default-clause-answered : goal.returns-in_default-clause-answered
returns-in_default-clause-answered g c start m told now stands = answered_lack (g.D.Disk.state c.args.disk.now) (g.F.Feed.state c.args.feed.now) start m (view_command c.args.command.now) c.args.replica.now c.args.text.now.items now stands (c.in_ok-add.ensures.ok ∙ ap (λ t. c.args.text.now.items ++ t) (c.as_slice-in_default.ensures ∙ c.in_ok-refusal_text.ensures))

pub returns-in_default-clause-goes : goal.returns-in_default-clause-goes
returns-in_default-clause-goes g c = (refl, goes_itself _, bytes_stay _)

pub returns-in_err-answer_alone-in-None-clause-answered : goal.returns-in_err-answer_alone-in-None-clause-answered
returns-in_err-answer_alone-in-None-clause-answered g c start m told now stands =
    alone_fault (c.in_err-answer_alone-in-None.ensures.answered start m (g.K.Sink.state c.args.out.now).told now stands) (err_ok _ c.from_residual-in_err-answer_alone-in-None.result _ c.from_residual-in_err-answer_alone-in-None.ensures.1)

pub returns-in_ok-answer_alone-in-None-clause-answered : goal.returns-in_ok-answer_alone-in-None-clause-answered
returns-in_ok-answer_alone-in-None-clause-answered g c start m told now stands =
    alone_done (c.in_ok-answer_alone-in-None.ensures.answered start m (g.K.Sink.state c.args.out.now).told now stands)
