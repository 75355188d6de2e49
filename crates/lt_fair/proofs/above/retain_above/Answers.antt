use Rattle.std.proofs.Common.{ap, rules, sym, ◌∙◌}
use Rattle.std.specs.Prelude.{nat_lt}
use Rattle.std.proofs.lemmas.Map.Made.{filter_same_pairs}
use Rattle.lt_fair.specs.Windows.{keys_above}
use Rattle.lt_fair.proofs.AboveLaws.{above_none}
use Rattle.lt_fair.proofs.above.retain_above.Goals as goal

pub returns-in-None : goal.returns-in-None
returns-in-None c = sym (above_none c.args.map.now.entries) ∙ ap (λ bound. keys_above bound c.args.map.now.entries) (sym c.in-None.is)

pub returns-in-Some : goal.returns-in-Some
returns-in-Some c = filter_same_pairs _ (λ w. nat_lt c.in-Some.low w.1) _ (λ k v b w f' t. search rules) _ _ c.retain.ensures.filtered
    ∙ ap (λ bound. keys_above bound c.args.map.now.entries) (sym c.in-Some.is)
