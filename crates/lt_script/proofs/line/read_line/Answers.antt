use Rattle.std.proofs.Common.{sym, ap, ◌∙◌}
use Rattle.std.specs.Prelude.{option_map}
use Rattle.lt_core.proofs.Utf8.{utf8_false, utf8_true}
use Rattle.lt_command.specs.View.{view_command}
use Rattle.lt_script.specs.Lines.{command_read}
use Rattle.lt_script.proofs.LineLaws.{built_command, comment_line, empty_line, long_line, no_command, no_text_line, planned_command}
use Rattle.lt_script.proofs.line.read_line.Goals as goal

pub returns-then-line-gt-MAX_LINE : goal.returns-then-line-gt-MAX_LINE
returns-then-line-gt-MAX_LINE c = sym (long_line c.args.line.now c.if-line-gt-MAX_LINE.true)

pub returns-in_default : goal.returns-in_default
returns-in_default c = sym (no_text_line c.args.line.now (utf8_false c.args.line.now c.in_default.ensures.cases.0))

pub returns-in_default-first : goal.returns-in_default-first
returns-in_default-first c = sym (empty_line c.args.line.now c.if-line-gt-MAX_LINE.false (utf8_true c.args.line.now c.in-Ok.ensures.cases.1) c.in_default-first.ensures.value)

pub returns-then-first-eq-HASH : goal.returns-then-first-eq-HASH
returns-then-first-eq-HASH c =
    sym (comment_line c.args.line.now c.if-line-gt-MAX_LINE.false (utf8_true c.args.line.now c.in-Ok.ensures.cases.1) c.in-Some.first.now c.in-Some.ensures.value c.if-first-eq-HASH.true)

pub returns-in_default-2 : goal.returns-in_default-2
returns-in_default-2 c =
    no_command c.args.line.now c.if-line-gt-MAX_LINE.false (utf8_true c.args.line.now c.in-Ok.ensures.cases.1) c.in-Some.first.now c.in-Some.ensures.value c.if-first-eq-HASH.false
    (ap (option_map view_command) (sym c.in_default-2.is) ∙ c.in_ok-command.ensures ∙ ap command_read c.in-Ok.ensures.cases.0)

pub returns-then-is_built : goal.returns-then-is_built
returns-then-is_built c =
    built_command c.args.line.now c.if-line-gt-MAX_LINE.false (utf8_true c.args.line.now c.in-Ok.ensures.cases.1) c.in-Some.first.now c.in-Some.ensures.value c.if-first-eq-HASH.false
    (view_command c.in-Some-2.command) (ap (option_map view_command) (sym c.in-Some-2.is) ∙ c.in_ok-command.ensures ∙ ap command_read c.in-Ok.ensures.cases.0) (sym c.is_built.ensures ∙ c.if-is_built.true)

pub returns-else-is_built : goal.returns-else-is_built
returns-else-is_built c =
    planned_command c.args.line.now c.if-line-gt-MAX_LINE.false (utf8_true c.args.line.now c.in-Ok.ensures.cases.1) c.in-Some.first.now c.in-Some.ensures.value c.if-first-eq-HASH.false
    (view_command c.in-Some-2.command) (ap (option_map view_command) (sym c.in-Some-2.is) ∙ c.in_ok-command.ensures ∙ ap command_read c.in-Ok.ensures.cases.0) (sym c.is_built.ensures ∙ c.if-is_built.false)
