use Rattle.std.proofs.Common.{[], append-nil, ap, sym, ◌++◌, ◌∙◌}
use Rattle.lt_core.specs.View.{view_row}
use Rattle.lt_words.specs.Reply.{row_text}
use Rattle.lt_reply.specs.Rows.{row_kinds}
use Rattle.lt_schema.specs.View.{view_version}
use Rattle.lightning_cli.proofs.OutLaws.{row_poured}
use Rattle.lightning_cli.proofs.rows.RowWriterRowSink.row.Goals as goal

-- the whole row stands behind what was written, or is kept
pub returns-clause-fault : goal.returns-clause-fault
returns-clause-fault g c e =
    let line = row_text (row_kinds (view_version c.args.self.now.version.now)) (view_row c.args.row.now) in
    let text = c.in_ok-add.ensures.ok ∙ ap (λ t. c.args.self.now.text.now.items ++ t) (c.as_slice.ensures ∙ c.in_ok-put_row.ensures ∙ ap (λ t. t ++ line) c.new-line.ensures) in
    (line, ([], sym (append-nil line)), row_poured _ _ _ line _ _ text c.in-Err.ensures.some)
