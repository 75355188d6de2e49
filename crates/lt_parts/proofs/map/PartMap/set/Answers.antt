use Rattle.std.proofs.Common.{ap, length, subst, sym, ◌<◌, ◌∙◌}
use Rattle.std.proofs.lemmas.List.{length-set}
use Rattle.lt_tables.specs.Schema.{change_at}
use Rattle.lt_parts.specs.Parts.{with_times}
use Rattle.lt_parts.proofs.Edits.{set_is, set_parts, timed}
use Rattle.lt_parts.proofs.map.PartMap.set.Goals as goal

pub invariant_of-self : goal.invariant_of-self
invariant_of-self c = set_parts c.self.inside.entries.items c.args.part c.args.resume c.args.checkpoint c.index_mut-entry.result.now c.self.invariant c.index_mut-entry.ensures.value c.requires.order

pub returns-clause-times : goal.returns-clause-times
returns-clause-times c = set_is c.self.inside.entries.items c.args.part c.args.resume c.args.checkpoint c.index_mut-entry.result.now (subst (λ l. c.args.part < length l) (sym c.self.view_is) c.requires.within) c.index_mut-entry.ensures.value
    ∙ ap (change_at (with_times c.args.resume c.args.checkpoint) c.args.part) c.self.view_is

pub returns-clause-count : goal.returns-clause-count
returns-clause-count c = length-set c.self.inside.entries.items c.args.part (timed c.index_mut-entry.result.now c.args.resume c.args.checkpoint) ∙ ap length c.self.view_is
