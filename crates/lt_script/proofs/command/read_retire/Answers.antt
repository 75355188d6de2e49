use Rattle.std.proofs.Common.{sym, ◌∙◌}
use Rattle.lt_tables.specs.Query.{do_retire}
use Rattle.lt_words.specs.Script.{small_word, table_word}
use Rattle.lt_script.proofs.LineLaws.{retire_read, retire_whole}
use Rattle.lt_script.proofs.ReadLaws.{no_first, no_second, pair_is}
use Rattle.lt_script.proofs.command.read_retire.Goals as goal

pub returns-in_default : goal.returns-in_default
returns-in_default c = sym (retire_whole c.args.rest.now c.in_default.ensures.whole)

pub returns-in_default-2 : goal.returns-in_default-2
returns-in_default-2 c =
    no_second do_retire (table_word c.in-Some.table.now) (small_word c.in-Some.version.now) (sym c.in_default-2.is ∙ c.in_ok-version.ensures)
    ∙ sym (retire_read c.args.rest.now c.in-Some.table.now c.in-Some.version.now c.in-Some.ensures.parted)

pub returns-in_default-3 : goal.returns-in_default-3
returns-in_default-3 c =
    no_first do_retire (table_word c.in-Some.table.now) (small_word c.in-Some.version.now) (sym c.in_default-3.is ∙ c.in_ok-table.ensures)
    ∙ sym (retire_read c.args.rest.now c.in-Some.table.now c.in-Some.version.now c.in-Some.ensures.parted)

pub returns : goal.returns
returns c =
    pair_is do_retire (table_word c.in-Some.table.now) (small_word c.in-Some.version.now) c.in-Some-3.table c.in-Some-2.version
    (sym c.in-Some-3.is ∙ c.in_ok-table.ensures) (sym c.in-Some-2.is ∙ c.in_ok-version.ensures)
    ∙ sym (retire_read c.args.rest.now c.in-Some.table.now c.in-Some.version.now c.in-Some.ensures.parted)
