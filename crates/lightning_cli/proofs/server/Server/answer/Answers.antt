use Rattle.std.proofs.Common.{[], sym, ap, inl, refl, ◌∙◌}
use Rattle.lt_words.specs.Lines.{line_read}
use Rattle.lt_machine.specs.Run.{last_moment}
use Rattle.lt_command.specs.View.{view_command}
use Rattle.lt_script.specs.Lines.{view_line}
use Rattle.lt_script.proofs.LineLaws.{kept_reads}
use Rattle.lt_pump.proofs.FeedLaws.{goes_itself}
use Rattle.lightning_cli.proofs.OutLaws.{appends_nothing, bytes_stay, err_match, unfailed_itself}
use Rattle.lightning_cli.proofs.EndLaws.{lost_over}
use Rattle.lightning_cli.proofs.ReadCommands.{command_taken}
use Rattle.lightning_cli.proofs.RunLaws.{bad_runs, command_ends, run_shift, run_to, skipped_runs}
use Rattle.lightning_cli.proofs.server.Server.answer.Goals as goal

pub returns-in_err-read_line-clause-answered : goal.returns-in_err-read_line-clause-answered
returns-in_err-read_line-clause-answered g c m lines written line told kept has = ([], appends_nothing _, err_match _ c.from_residual.result _ c.from_residual.ensures.1 (inl (run_to (run_shift [] _ refl has))))

pub returns-in-Skipped-clause-answered : goal.returns-in-Skipped-clause-answered
returns-in-Skipped-clause-answered g c m lines written line told kept has =
    let reads = sym (ap line_read (c.as_slice.ensures.value ∙ kept) ∙ kept_reads line) ∙ sym c.in_ok-read_line.ensures ∙ ap view_line c.in-Skipped.is in
    ([], appends_nothing _, run_shift [] _ refl (skipped_runs line reads has))

pub returns-in_err-add-in-Bad-clause-answered : goal.returns-in_err-add-in-Bad-clause-answered
returns-in_err-add-in-Bad-clause-answered g c m lines written line told kept has =
    ([], appends_nothing _, err_match _ c.from_residual-in_err-add-in-Bad.result _ c.from_residual-in_err-add-in-Bad.ensures.1 (inl (run_to (run_shift [] _ refl has))))

pub returns-in_ok-add-in-Bad-clause-answered : goal.returns-in_ok-add-in-Bad-clause-answered
returns-in_ok-add-in-Bad-clause-answered g c m lines written line told kept has =
    let reads = sym (ap line_read (c.as_slice.ensures.value ∙ kept) ∙ kept_reads line) ∙ sym c.in_ok-read_line.ensures ∙ ap view_line c.in-Bad.is in
    ([], appends_nothing _, run_shift [] _ refl (bad_runs line _ reads c.in_ok-add-in-Bad.ensures.ok has))

pub returns-in-Command-clause-answered : goal.returns-in-Command-clause-answered
returns-in-Command-clause-answered g c m lines written line told kept has =
    let reads = sym (ap line_read (c.as_slice.ensures.value ∙ kept) ∙ kept_reads line) ∙ sym c.in_ok-read_line.ensures ∙ ap view_line c.in-Command.is in
    let a = c.answer.ensures.answered m (last_moment m has.moments) told has.now has.stands in
    (a.more, a.appends, command_ends c.answer.result line (view_command c.in-Command.command) reads has a)

pub answer-requires-clause-command : goal.answer-requires-clause-command
answer-requires-clause-command g c = command_taken c.as_slice.result.now (view_command c.in-Command.command) (sym c.in_ok-read_line.ensures ∙ ap view_line c.in-Command.is)

pub returns-in_err-read_line-clause-goes : goal.returns-in_err-read_line-clause-goes
returns-in_err-read_line-clause-goes g c = (refl, goes_itself _, bytes_stay _)

pub returns-in_err-add-in-Bad-clause-goes : goal.returns-in_err-add-in-Bad-clause-goes
returns-in_err-add-in-Bad-clause-goes g c = (refl, goes_itself _, bytes_stay _)

pub returns-in-Skipped-clause-goes : goal.returns-in-Skipped-clause-goes
returns-in-Skipped-clause-goes g c = (refl, goes_itself _, bytes_stay _)

pub returns-in_ok-add-in-Bad-clause-goes : goal.returns-in_ok-add-in-Bad-clause-goes
returns-in_ok-add-in-Bad-clause-goes g c = (refl, goes_itself _, bytes_stay _)

pub returns-in_err-read_line-clause-over : goal.returns-in_err-read_line-clause-over
returns-in_err-read_line-clause-over g c = lost_over _ c.from_residual.result c.from_residual.ensures.1

pub returns-in_err-add-in-Bad-clause-over : goal.returns-in_err-add-in-Bad-clause-over
returns-in_err-add-in-Bad-clause-over g c = lost_over _ c.from_residual-in_err-add-in-Bad.result c.from_residual-in_err-add-in-Bad.ensures.1

pub returns-in-Skipped-clause-unfailed : goal.returns-in-Skipped-clause-unfailed
returns-in-Skipped-clause-unfailed g c = unfailed_itself _

pub returns-in_ok-add-in-Bad-clause-unfailed : goal.returns-in_ok-add-in-Bad-clause-unfailed
returns-in_ok-add-in-Bad-clause-unfailed g c = unfailed_itself _
