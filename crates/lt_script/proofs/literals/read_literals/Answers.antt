use Rattle.std.proofs.Common.{ap, sym, ◌∙◌}
use Rattle.std.specs.Prelude.{option_and_then}
use Rattle.std.proofs.lemmas.Bool.{false≢true}
use Rattle.lt_words.specs.Script.{literals_in}
use Rattle.lt_script.proofs.literals.read_literals.Goals as goal

pub returns-in-Err-2 : goal.returns-in-Err-2
returns-in-Err-2 c = ap (option_and_then literals_in) (sym (c.in-Err.ensures.err (λ m. false≢true (sym c.if-is_memory.false ∙ c.is_memory.ensures.1 m))))
