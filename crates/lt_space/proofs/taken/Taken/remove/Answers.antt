use Rattle.std.proofs.Common.{map, subst, sym}
use Rattle.std.specs.Prelude.{Contains}
use Rattle.std.proofs.lemmas.Bool.{both_ways}
use Rattle.std.specs.BTreeSet.{contains}
use Rattle.lt_space.specs.Taken.{Adds, extent_at}
use Rattle.lt_space.proofs.Spots.{removed_first, spot_cmp, spot_in}
use Rattle.lt_space.proofs.taken.Taken.remove.Goals as goal

pub returns-in-Some : goal.returns-in-Some
returns-in-Some c =
    let ks = c.self.inside.spots.keys in
    let new = c.remove.new.self.keys in
    let from = c.range.ensures.in_range tt in
    let first = removed_first ks new c.args.extent c.in-Some.field-0.now c.range.result c.next.new.self (subst (λ l. Contains l c.args.extent) (sym c.self.view_is) c.requires)
    (record { first = from.1; least = λ q spot. from.2 q (spot.behind, tt) spot.among }) c.in-Some.ensures.steps c.remove.ensures.keys in
    subst (Adds c.args.extent (map extent_at new)) c.self.view_is first

pub returns-in_default : goal.returns-in_default
returns-in_default c =
    let ks = c.self.inside.spots.keys in
    let e = c.args.extent in
    let spot = spot_in ks e (subst (λ l. Contains l e) (sym c.self.view_is) c.requires) in
    absurd (both_ways (contains spot_cmp c.self.inside.spots spot.0) ((c.range.ensures.in_range tt).5 c.in_default.ensures.steps.0 spot.0 (spot.1.behind, tt)) spot.1.among)
