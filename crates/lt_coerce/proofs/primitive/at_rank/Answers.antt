use Rattle.std.proofs.Common.{ap, sym, ◌∙◌}
use Rattle.lt_terms.specs.Conversion.{at_rank, lowered_to_bool, lowered_to_int32}
use Rattle.lt_core.specs.View.{view_value}
use Rattle.lt_coerce.proofs.RankLaws.{bool_by, short_by}
use Rattle.lt_coerce.proofs.primitive.at_rank.Goals as goal

pub returns-in_ok-long-in-Bool : goal.returns-in_ok-long-in-Bool
returns-in_ok-long-in-Bool c = c.truth_of.ensures ∙ ap lowered_to_bool (c.short_of.ensures ∙ ap lowered_to_int32 c.in_ok-long-in-Bool.ensures) ∙ bool_by (view_value c.args.value.now) ∙ ap (λ r. at_rank r (view_value c.args.value.now)) (sym c.in-Bool.is)

pub returns-in_ok-long-in-Int32 : goal.returns-in_ok-long-in-Int32
returns-in_ok-long-in-Int32 c = c.short_of-in-Int32.ensures ∙ ap lowered_to_int32 c.in_ok-long-in-Int32.ensures ∙ short_by (view_value c.args.value.now) ∙ ap (λ r. at_rank r (view_value c.args.value.now)) (sym c.in-Int32.is)
