use Rattle.std.proofs.Common.{ap, sym, ◌∙◌}
use Rattle.std.specs.Prelude.{option_map}
use Rattle.lt_command.specs.View.{view_query}
use Rattle.lt_tables.specs.Query.{do_scan}
use Rattle.lt_script.proofs.QueryLaws.{scan_read, scan_two, scan_whole}
use Rattle.lt_script.proofs.queries.read_scan.Goals as goal

pub returns-in_default : goal.returns-in_default
returns-in_default c = sym (scan_whole c.args.rest.now c.in_default.ensures.whole)

pub returns-in_default-first_word : goal.returns-in_default-first_word
returns-in_default-first_word c = sym (scan_two c.args.rest.now c.in-Some.table.now c.in-Some.rest.now c.in-Some.ensures.parted c.in_default-first_word.ensures.whole)

pub returns-in_default-2 : goal.returns-in_default-2
returns-in_default-2 c =
    ap (option_map do_scan) (ap (option_map view_query) (sym c.in_default-2.is) ∙ c.in_ok-query.ensures)
    ∙ sym (scan_read c.args.rest.now c.in-Some.table.now c.in-Some-first_word.version.now c.in-Some-first_word.at.now
    (record { behind = c.in-Some.rest.now; first = c.in-Some.ensures.parted; second = c.in-Some-first_word.ensures.parted }))

pub returns : goal.returns
returns c =
    ap (option_map do_scan) (ap (option_map view_query) (sym c.in-Some-2.is) ∙ c.in_ok-query.ensures)
    ∙ sym (scan_read c.args.rest.now c.in-Some.table.now c.in-Some-first_word.version.now c.in-Some-first_word.at.now
    (record { behind = c.in-Some.rest.now; first = c.in-Some.ensures.parted; second = c.in-Some-first_word.ensures.parted }))
