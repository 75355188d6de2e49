use Rattle.std.proofs.Common.{sym, ◌∙◌}
use Rattle.lt_tables.specs.Query.{do_pump}
use Rattle.lt_words.specs.Script.{count_word, small_word}
use Rattle.lt_script.proofs.LineLaws.{pump_read, pump_whole}
use Rattle.lt_script.proofs.ReadLaws.{no_first, no_second, pair_is}
use Rattle.lt_script.proofs.command.read_pump.Goals as goal

pub returns-in_default : goal.returns-in_default
returns-in_default c = sym (pump_whole c.args.rest.now c.in_default.ensures.whole)

pub returns-in_default-2 : goal.returns-in_default-2
returns-in_default-2 c =
    no_first do_pump (small_word c.in-Some.stream.now) (count_word c.in-Some.records.now) (sym c.in_default-2.is ∙ c.in_ok-stream.ensures)
    ∙ sym (pump_read c.args.rest.now c.in-Some.stream.now c.in-Some.records.now c.in-Some.ensures.parted)

pub returns-in_default-3 : goal.returns-in_default-3
returns-in_default-3 c =
    no_second do_pump (small_word c.in-Some.stream.now) (count_word c.in-Some.records.now) (sym c.in_default-3.is ∙ c.in_ok-records.ensures)
    ∙ sym (pump_read c.args.rest.now c.in-Some.stream.now c.in-Some.records.now c.in-Some.ensures.parted)

pub returns : goal.returns
returns c =
    pair_is do_pump (small_word c.in-Some.stream.now) (count_word c.in-Some.records.now) c.in-Some-2.stream c.in-Some-3.records
    (sym c.in-Some-2.is ∙ c.in_ok-stream.ensures) (sym c.in-Some-3.is ∙ c.in_ok-records.ensures)
    ∙ sym (pump_read c.args.rest.now c.in-Some.stream.now c.in-Some.records.now c.in-Some.ensures.parted)
