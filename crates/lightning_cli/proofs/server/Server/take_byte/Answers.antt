use Rattle.std.proofs.Common.{[], ◌∷◌, ◌∙◌, append-nil, ne_eqb, arith, refl, sym}
use Rattle.lightning_cli.specs.Serving.{open_line}
use Rattle.lt_pump.proofs.FeedLaws.{goes_itself}
use Rattle.lightning_cli.proofs.EndLaws.{lost_over}
use Rattle.lightning_cli.proofs.OutLaws.{appends_nothing, bytes_stay, err_match, unfailed_itself}
use Rattle.lightning_cli.proofs.RunLaws.{ended_some, ended_stands, goes_stands, kept_full, kept_more, run_shift, run_to, stands_at, to_some}
use Rattle.lightning_cli.proofs.server.Server.take_byte.Goals as goal

pub returns-in_err-answer-clause-taken : goal.returns-in_err-answer-clause-taken
returns-in_err-answer-clause-taken g c m before written told s =
    let t = c.in_err-answer.ensures.answered m _ written (open_line before) told s.line s.run in
    (t.0, t.1, err_match _ c.from_residual.result _ c.from_residual.ensures.1 (ended_some before c.args.byte c.if-byte-eq-LINE_FEED.true t.2))

pub returns-then-byte-eq-LINE_FEED-clause-taken : goal.returns-then-byte-eq-LINE_FEED-clause-taken
returns-then-byte-eq-LINE_FEED-clause-taken g c m before written told s =
    let t = c.in_ok-answer.ensures.answered m _ written (open_line before) told s.line s.run in
    (t.0, t.1, ended_stands before c.args.byte _ c.if-byte-eq-LINE_FEED.true t.2 c.clear.ensures.items)

pub returns-in_err-add-clause-taken : goal.returns-in_err-add-clause-taken
returns-in_err-add-clause-taken g c m before written told s =
    ([], appends_nothing _, err_match _ c.from_residual-in_err-add.result _ c.from_residual-in_err-add.ensures.1 (to_some before _ (c.args.byte ∷ [], refl) (run_to (run_shift [] _ refl s.run))))

pub returns-in_ok-add-clause-taken : goal.returns-in_ok-add-clause-taken
returns-in_ok-add-clause-taken g c m before written told s = (
  [],
  appends_nothing _,
  stands_at _ _ refl (sym (append-nil written))
      (goes_stands before c.args.byte c.args.self.now _ (ne_eqb c.args.byte 10 c.if-byte-eq-LINE_FEED.false) refl refl
      (λ e. c.in_ok-add.ensures.ok ∙ kept_more (open_line before) c.args.byte c.args.self.now.line.items e (omega (arith, c.len.ensures, c.if-len-le-MAX_LINE.true))) s),
)

pub returns-else-len-le-MAX_LINE-clause-taken : goal.returns-else-len-le-MAX_LINE-clause-taken
returns-else-len-le-MAX_LINE-clause-taken g c m before written told s = (
  [],
  appends_nothing _,
  stands_at _ _ refl (sym (append-nil written))
      (goes_stands before c.args.byte c.args.self.now _ (ne_eqb c.args.byte 10 c.if-byte-eq-LINE_FEED.false) refl refl
      (λ e. kept_full (open_line before) c.args.byte c.args.self.now.line.items e (omega (arith, c.len.ensures, c.if-len-le-MAX_LINE.false))) s),
)

pub returns-in_err-add-clause-goes : goal.returns-in_err-add-clause-goes
returns-in_err-add-clause-goes g c = (refl, goes_itself _, bytes_stay _)

pub returns-in_ok-add-clause-goes : goal.returns-in_ok-add-clause-goes
returns-in_ok-add-clause-goes g c = (refl, goes_itself _, bytes_stay _)

pub returns-else-len-le-MAX_LINE-clause-goes : goal.returns-else-len-le-MAX_LINE-clause-goes
returns-else-len-le-MAX_LINE-clause-goes g c = (refl, goes_itself _, bytes_stay _)

pub returns-in_err-add-clause-over : goal.returns-in_err-add-clause-over
returns-in_err-add-clause-over g c = lost_over _ c.from_residual-in_err-add.result c.from_residual-in_err-add.ensures.1

pub returns-in_ok-add-clause-unfailed : goal.returns-in_ok-add-clause-unfailed
returns-in_ok-add-clause-unfailed g c = unfailed_itself _

pub returns-else-len-le-MAX_LINE-clause-unfailed : goal.returns-else-len-le-MAX_LINE-clause-unfailed
returns-else-len-le-MAX_LINE-clause-unfailed g c = unfailed_itself _
