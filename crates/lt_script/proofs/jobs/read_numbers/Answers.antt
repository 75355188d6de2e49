use Rattle.std.proofs.Common.{List, ap, rules, sym, ℕ, ◌∙◌}
use Rattle.std.specs.Prelude.{Some}
use Rattle.lt_words.specs.Script.{large_word, words}
use Rattle.lt_words.specs.SchemaText.{all_of}
use Rattle.lt_script.proofs.JobLaws.{last_number, next_number, no_last_number, no_number}
use Rattle.lt_script.proofs.LiteralLaws.{with_front}
use Rattle.lt_script.proofs.jobs.read_numbers.Goals as goal

pub returns-in_default-2 : goal.returns-in_default-2
returns-in_default-2 c =
    no_number c.words.rest.now c.in-Some.word.now c.in-Some.behind.now c.words.numbers _ c.in-Some.ensures.parted (sym c.in_default-2.is ∙ c.in_ok-number.ensures) c.words.invariant.numbers

pub words-preserved : goal.words-preserved
words-preserved c = record {
  text = search rules;
  numbers = ap (λ (ns : List ℕ). with_front ns (all_of large_word (words c.in-Some.behind.now))) c.in_ok-push.ensures.ok
      ∙ next_number c.words.rest.now c.in-Some.word.now c.in-Some.behind.now c.words.numbers c.in-Some-2.number _ c.in-Some.ensures.parted (sym c.in-Some-2.is ∙ c.in_ok-number.ensures) c.words.invariant.numbers;
}

pub returns-in_default-3 : goal.returns-in_default-3
returns-in_default-3 c = no_last_number c.words.rest.now c.words.numbers _ c.in_default.ensures.whole (sym c.in_default-3.is ∙ c.in_ok-last.ensures) c.words.invariant.numbers

pub returns : goal.returns
returns c =
    ap Some c.in_ok-push-2.ensures.ok
    ∙ last_number c.words.rest.now c.words.numbers c.in-Some-3.last _ c.in_default.ensures.whole (sym c.in-Some-3.is ∙ c.in_ok-last.ensures) c.words.invariant.numbers
