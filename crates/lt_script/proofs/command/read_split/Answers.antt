use Rattle.std.proofs.Common.{sym, ap, option_map, ◌∙◌}
use Rattle.lt_tables.specs.Query.{do_split}
use Rattle.lt_words.specs.Script.{table_word}
use Rattle.lt_pred.specs.View.{view_literals}
use Rattle.lt_script.proofs.LineLaws.{key_read, split_read, split_whole}
use Rattle.lt_script.proofs.ReadLaws.{no_first, no_second, pair_is}
use Rattle.lt_script.proofs.command.read_split.Goals as goal

pub returns-in_default : goal.returns-in_default
returns-in_default c = sym (split_whole c.args.rest.now c.in_default.ensures.whole)

pub returns-in_default-2 : goal.returns-in_default-2
returns-in_default-2 c =
    no_first do_split (table_word c.in-Some.table.now) (key_read c.in-Some.json.now) (sym c.in_default-2.is ∙ c.in_ok-table.ensures)
    ∙ sym (split_read c.args.rest.now c.in-Some.table.now c.in-Some.json.now c.in-Some.ensures.parted)

pub returns-in_default-3 : goal.returns-in_default-3
returns-in_default-3 c =
    no_second do_split (table_word c.in-Some.table.now) (key_read c.in-Some.json.now) (ap (option_map view_literals) (sym c.in_default-3.is) ∙ c.in_ok-key.ensures)
    ∙ sym (split_read c.args.rest.now c.in-Some.table.now c.in-Some.json.now c.in-Some.ensures.parted)

pub returns : goal.returns
returns c =
    pair_is do_split (table_word c.in-Some.table.now) (key_read c.in-Some.json.now) c.in-Some-2.table (view_literals c.in-Some-3.key)
    (sym c.in-Some-2.is ∙ c.in_ok-table.ensures) (ap (option_map view_literals) (sym c.in-Some-3.is) ∙ c.in_ok-key.ensures)
    ∙ sym (split_read c.args.rest.now c.in-Some.table.now c.in-Some.json.now c.in-Some.ensures.parted)
