use Rattle.std.proofs.Common.{Some, ap, sym, ◌∙◌}
use Rattle.std.specs.Prelude.{option_map}
use Rattle.std.specs.Option.{option_copied}
use Rattle.lt_replica.proofs.RangeLaws.{range_is}
use Rattle.lt_replica.proofs.ranges.range_of.Goals.{in-None, in-Some+in_ok-copy-in-Some}
use Rattle.lt_replica.proofs.ranges.range_of.Goals as goal

pub returns : goal.returns
returns c = range_is c.args.map.now c.args.part c.args.entry.now c.in_ok-low.low c.match-next_of.high c.requires c.in_ok-low.ensures (elim c.match-next_of.branch [
  | in-None w ↦ w.high-is ∙ ap (λ o. option_map (λ x. x.low) (option_copied o)) (sym w.in-None.is) ∙ ap (option_map (λ x. x.low)) c.next_of.ensures
  | in-Some+in_ok-copy-in-Some w ↦ w.high-is ∙ ap Some w.in_ok-copy-in-Some.ensures ∙ ap (λ o. option_map (λ x. x.low) (option_copied o)) (sym w.in-Some.is) ∙ ap (option_map (λ x. x.low)) c.next_of.ensures
])
