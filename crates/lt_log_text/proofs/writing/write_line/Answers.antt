use Rattle.std.proofs.Common.{ap, arith, ◌∙◌}
use Rattle.serde_json.specs.Written.{compact_text, has_float}
use Rattle.lt_records.specs.View.{view_item}
use Rattle.lt_log_text.specs.Lines.{item_of_line}
use Rattle.lt_log_text.proofs.ReadsBack.{line_reads_back}
use Rattle.lt_log_text.proofs.Written.{item_plain, line_is}
use Rattle.lt_log_text.proofs.writing.write_line.Goals as goal

pub returns-clause-line : goal.returns-clause-line
returns-clause-line c =
    let json = c.in_ok-json.ensures in
    c.from_vec.ensures ∙ c.in_ok-to_vec.ensures.text (ap has_float json ∙ item_plain c.args.offset (view_item c.args.item.now)) ∙ ap compact_text json ∙ line_is c.args.offset (view_item c.args.item.now)

pub returns-clause-reads_back : goal.returns-clause-reads_back
returns-clause-reads_back c =
    let json = c.in_ok-json.ensures in
    let text = c.from_vec.ensures ∙ c.in_ok-to_vec.ensures.text (ap has_float json ∙ item_plain c.args.offset (view_item c.args.item.now)) ∙ ap compact_text json ∙ line_is c.args.offset (view_item c.args.item.now) in
    λ bytes is. ap item_of_line text ∙ line_reads_back c.args.offset (view_item c.args.item.now) bytes (omega (arith, c.ranges.offset.fits)) is
