use Rattle.std.proofs.Common.{ap, sym, ℕ, ◌∙◌}
use Rattle.std.specs.Prelude.{option_map}
use Rattle.lt_command.specs.View.{view_mode}
use Rattle.lt_tables.specs.Query.{Mode}
use Rattle.lt_words.specs.Script.{mode_words, small_word, words}
use Rattle.lt_script.proofs.JobLaws.{part_parted, part_whole}
use Rattle.lt_script.proofs.ReadLaws.{no_first, no_second, pair_is}
use Rattle.lt_script.proofs.jobs.read_part_mode.Goals as goal

pub returns-in_default : goal.returns-in_default
returns-in_default c = part_whole c.args.text.now c.in_default.ensures.whole

pub returns-in_default-2 : goal.returns-in_default-2
returns-in_default-2 c =
    no_first (λ (p : ℕ) (m : Mode). (p, m)) (small_word c.in-Some.part.now) (mode_words (words c.in-Some.mode.now)) (sym c.in_default-2.is ∙ c.in_ok-part.ensures)
    ∙ sym (part_parted c.args.text.now c.in-Some.part.now c.in-Some.mode.now c.in-Some.ensures.parted)

pub returns-in_default-3 : goal.returns-in_default-3
returns-in_default-3 c =
    no_second (λ (p : ℕ) (m : Mode). (p, m)) (small_word c.in-Some.part.now) (mode_words (words c.in-Some.mode.now)) (ap (option_map view_mode) (sym c.in_default-3.is) ∙ c.in_ok-mode.ensures)
    ∙ sym (part_parted c.args.text.now c.in-Some.part.now c.in-Some.mode.now c.in-Some.ensures.parted)

pub returns : goal.returns
returns c =
    pair_is (λ (p : ℕ) (m : Mode). (p, m)) (small_word c.in-Some.part.now) (mode_words (words c.in-Some.mode.now)) c.in-Some-2.part (view_mode c.in-Some-3.mode)
    (sym c.in-Some-2.is ∙ c.in_ok-part.ensures) (ap (option_map view_mode) (sym c.in-Some-3.is) ∙ c.in_ok-mode.ensures)
    ∙ sym (part_parted c.args.text.now c.in-Some.part.now c.in-Some.mode.now c.in-Some.ensures.parted)
