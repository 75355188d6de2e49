use Rattle.std.proofs.Common.{ap, ◌∙◌}
use Rattle.lt_tables.specs.Fair.{put_key}
use Rattle.lt_fair.proofs.AboveLaws.{put_above}
use Rattle.lt_fair.proofs.above.KeysAbove.put.Goals as goal

pub returns-clause-ok : goal.returns-clause-ok
returns-clause-ok c =
    let es = c.bound_below-self-inside.new.map.entries in
    put_above c.bound_below-self-inside.result c.args.key c.args.ts es c.insert.new.self.entries c.bound_below-self-inside.ensures.below c.insert.ensures.was_ordered c.in_ok-insert.ensures.entries
    ∙ ap (put_key c.args.key c.args.ts) (c.bound_below-self-inside.ensures.same ∙ c.self.view_is)
