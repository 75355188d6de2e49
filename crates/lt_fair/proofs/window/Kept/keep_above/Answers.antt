use Rattle.std.proofs.Common.{ap, rules, sym, ◌∙◌}
use Rattle.std.specs.Prelude.{filter, nat_lt}
use Rattle.std.proofs.lemmas.Fn.{filter_same}
use Rattle.lt_fair.specs.View.{view_kept}
use Rattle.lt_fair.proofs.window.Kept.keep_above.Goals as goal

pub returns-in-Listed : goal.returns-in-Listed
returns-in-Listed c = filter_same _ (λ w. nat_lt c.args.checkpoint w.1) _ (λ x b f' t. search rules) _ _ c.retain.ensures.filtered
    ∙ ap (λ k. filter (λ w. nat_lt c.args.checkpoint w.1) (view_kept k)) (sym c.in-Listed.is)
