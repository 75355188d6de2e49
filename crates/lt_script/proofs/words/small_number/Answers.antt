use Rattle.std.proofs.Common.{◌∙◌, sym, arith}
use Rattle.lt_script.proofs.WordLaws.{small_is, small_none, small_over}
use Rattle.lt_script.proofs.words.small_number.Goals as goal

pub returns-in-Some : goal.returns-in-Some
returns-in-Some c = small_is c.args.digits.now c.in-Some.n (sym c.in-Some.is ∙ c.in_ok-n.ensures) (omega arith)

pub returns-in_default : goal.returns-in_default
returns-in_default c = small_over c.args.digits.now c.in-Some.n (sym c.in-Some.is ∙ c.in_ok-n.ensures) (omega arith)

pub returns-in_default-2 : goal.returns-in_default-2
returns-in_default-2 c = small_none c.args.digits.now (sym c.in_default.is ∙ c.in_ok-n.ensures)
