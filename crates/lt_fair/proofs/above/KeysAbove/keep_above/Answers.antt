use Rattle.std.proofs.Common.{Some, ap, ◌∙◌}
use Rattle.std.specs.Prelude.{filter, nat_lt}
use Rattle.lt_fair.specs.Windows.{keys_above}
use Rattle.lt_fair.proofs.AboveLaws.{above_again, above_raised}
use Rattle.lt_fair.proofs.above.KeysAbove.keep_above.Goals as goal

pub returns-then-self-eq0 : goal.returns-then-self-eq0
returns-then-self-eq0 c =
    let bound = Some c.raised.result in
    let es = c.self.inside.map.entries in
    ap (keys_above bound) c.prune-self-inside.ensures.entries ∙ above_again bound es ∙ above_raised c.self.inside.bound c.raised.result c.args.bound c.raised.ensures es
    ∙ ap (filter (λ w. nat_lt c.args.bound w.1)) c.self.view_is

pub returns-else-self-eq0 : goal.returns-else-self-eq0
returns-else-self-eq0 c = above_raised c.self.inside.bound c.raised.result c.args.bound c.raised.ensures c.self.inside.map.entries ∙ ap (filter (λ w. nat_lt c.args.bound w.1)) c.self.view_is
