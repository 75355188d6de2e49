use Rattle.std.proofs.Common.{ap, filter, map, ◌∙◌}
use Rattle.std.specs.Prelude.{nat_le}
use Rattle.lt_terms.specs.declared.Extent.{Extent}
use Rattle.lt_space.specs.Taken.{extent_at}
use Rattle.lt_space.proofs.Spots.{spots_from}
use Rattle.lt_space.proofs.taken.Taken.from.Goals as goal

pub returns : goal.returns
returns c = ap (map extent_at) (c.range.ensures.between tt) ∙ spots_from c.args.place c.self.inside.spots.keys ∙ ap (filter (λ (e : Extent). nat_le c.args.place e.place)) c.self.view_is
