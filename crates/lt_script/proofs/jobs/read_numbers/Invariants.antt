use Rattle.std.proofs.Common.{◌≡◌, length}
use Rattle.std.specs.Str.{IsUtf8}
use Rattle.lt_words.specs.Script.{large_word, words}
use Rattle.lt_words.specs.SchemaText.{all_of}
use Rattle.lt_script.proofs.LiteralLaws.{with_front}
use Rattle.lt_script.proofs.jobs.read_numbers.Given as goal

abbrev pub invariant-words : goal.invariant-words
invariant-words l = record {
  text : IsUtf8 l.rest;
  numbers : with_front l.numbers (all_of large_word (words l.rest)) ≡ all_of large_word (words l.text);
}

abbrev pub decreases-words : goal.decreases-words
decreases-words l = length l.rest
