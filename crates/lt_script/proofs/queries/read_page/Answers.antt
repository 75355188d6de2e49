use Rattle.std.proofs.Common.{ap, sym, ◌∙◌}
use Rattle.std.specs.Prelude.{option_map}
use Rattle.lt_command.specs.View.{view_query}
use Rattle.lt_tables.specs.Query.{do_page}
use Rattle.lt_words.specs.Script.{count_word, large_word, small_word, table_word}
use Rattle.lt_script.proofs.QueryLaws.{no_count, page_read, page_three, page_two, page_whole, some_count}
use Rattle.lt_script.proofs.queries.read_page.Goals as goal

pub returns-in_default : goal.returns-in_default
returns-in_default c = sym (page_whole c.args.rest.now c.in_default.ensures.whole)

pub returns-in_default-first_word : goal.returns-in_default-first_word
returns-in_default-first_word c = sym (page_two c.args.rest.now c.in-Some.table.now c.in-Some.rest.now c.in-Some.ensures.parted c.in_default-first_word.ensures.whole)

pub returns-in_default-first_word-2 : goal.returns-in_default-first_word-2
returns-in_default-first_word-2 c =
    sym (page_three c.args.rest.now c.in-Some.table.now c.in-Some.rest.now c.in-Some-first_word.version.now c.in-Some-first_word.rest.now c.in-Some.ensures.parted c.in-Some-first_word.ensures.parted
    c.in_default-first_word-2.ensures.whole)

pub returns-in_default-2 : goal.returns-in_default-2
returns-in_default-2 c =
    no_count (table_word c.in-Some.table.now) (small_word c.in-Some-first_word.version.now) (large_word c.in-Some-first_word-2.at.now) (count_word c.in-Some-first_word-2.limit.now)
    (sym c.in_default-2.is ∙ c.in_ok-limit.ensures)
    ∙ sym (page_read c.args.rest.now c.in-Some.table.now c.in-Some-first_word.version.now c.in-Some-first_word-2.at.now c.in-Some-first_word-2.limit.now
    (record { behind = c.in-Some.rest.now; last = c.in-Some-first_word.rest.now; first = c.in-Some.ensures.parted; second = c.in-Some-first_word.ensures.parted; third = c.in-Some-first_word-2.ensures.parted }))

pub returns-in_default-3 : goal.returns-in_default-3
returns-in_default-3 c =
    ap (option_map do_page) (ap (option_map view_query) (sym c.in_default-3.is) ∙ c.in_ok-query.ensures)
    ∙ some_count (table_word c.in-Some.table.now) (small_word c.in-Some-first_word.version.now) (large_word c.in-Some-first_word-2.at.now) (count_word c.in-Some-first_word-2.limit.now) c.in-Some-2.limit
    (sym c.in-Some-2.is ∙ c.in_ok-limit.ensures)
    ∙ sym (page_read c.args.rest.now c.in-Some.table.now c.in-Some-first_word.version.now c.in-Some-first_word-2.at.now c.in-Some-first_word-2.limit.now
    (record { behind = c.in-Some.rest.now; last = c.in-Some-first_word.rest.now; first = c.in-Some.ensures.parted; second = c.in-Some-first_word.ensures.parted; third = c.in-Some-first_word-2.ensures.parted }))

pub returns : goal.returns
returns c =
    ap (option_map do_page) (ap (option_map view_query) (sym c.in-Some-3.is) ∙ c.in_ok-query.ensures)
    ∙ some_count (table_word c.in-Some.table.now) (small_word c.in-Some-first_word.version.now) (large_word c.in-Some-first_word-2.at.now) (count_word c.in-Some-first_word-2.limit.now) c.in-Some-2.limit
    (sym c.in-Some-2.is ∙ c.in_ok-limit.ensures)
    ∙ sym (page_read c.args.rest.now c.in-Some.table.now c.in-Some-first_word.version.now c.in-Some-first_word-2.at.now c.in-Some-first_word-2.limit.now
    (record { behind = c.in-Some.rest.now; last = c.in-Some-first_word.rest.now; first = c.in-Some.ensures.parted; second = c.in-Some-first_word.ensures.parted; third = c.in-Some-first_word-2.ensures.parted }))
