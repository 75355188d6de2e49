use Rattle.std.proofs.Common.{subst, ◌∙◌}
use Rattle.std.specs.Prelude.{IfNone, IfSome}
use Rattle.lt_parts.specs.Parts.{interval}
use Rattle.lt_parts.specs.Search.{IsFirstBelow, NoneBelow}
use Rattle.lt_parts.proofs.Numbers.{first_below_is}
use Rattle.lt_parts.proofs.map.PartMap.first_below.Goals as goal

pub returns : goal.returns
returns c =
    let first = c.meeting-first.result.0 in
    let last = c.meeting-first.result.1 in
    let late = c.first_late.result in
    let is = c.deref.ensures.value ∙ c.self.view_is in
    first_below_is c.args.self.now (interval c.args.low.now c.args.high) first last c.args.at late c.meeting-first.ensures
    (subst (λ l. IfSome late (λ x. IsFirstBelow l first last c.args.at x.0 x.1)) is c.first_late.ensures.some)
    (subst (λ l. IfNone late (NoneBelow l first last c.args.at)) is c.first_late.ensures.none)
