use Rattle.std.proofs.Common.{Some, ap, refl, rules, sym, ◌∙◌, ◌≡◌}
use Rattle.std.specs.Prelude.{max, option_map}
use Rattle.std.specs.Option.{option_copied}
use Rattle.lt_machine.specs.Machine.{checkpoints_meeting, least}
use Rattle.lt_pump.specs.Pumps.{streams_of}
use Rattle.lt_parts.proofs.Ranges.{range_with}
use Rattle.lt_replica.proofs.RangeLaws.{times_are}
use Rattle.lt_replica.proofs.ranges.times_of.Goals.{in-None, in-Some}
use Rattle.lt_replica.proofs.ranges.times_of.Goals as goal

pub returns-clause-some : goal.returns-clause-some
returns-clause-some c =
    let entry = c.in_ok-entry.entry.now in
    let safe = c.least_meeting-safe.result in
    let high = option_copied c.match-next_of.high in
    let greatest : c.max.result ≡ max entry.resume safe = search rules in
    times_are c.args.map.now (streams_of c.args.pump.now) c.args.part entry high safe entry.resume c.max.result (sym c.in_ok-entry.ensures.entry) (elim c.match-next_of.branch [
      | in-None w ↦ ap option_copied w.high-is ∙ ap (λ o. option_map (λ x. x.low) (option_copied o)) (sym w.in-None.is) ∙ ap (option_map (λ x. x.low)) c.next_of.ensures
      | in-Some w ↦ ap option_copied w.high-is ∙ ap Some w.as_slice.ensures ∙ ap (λ o. option_map (λ x. x.low) (option_copied o)) (sym w.in-Some.is) ∙ ap (option_map (λ x. x.low)) c.next_of.ensures
    ]) (c.least_meeting-safe.ensures ∙ ap (λ l. least (checkpoints_meeting (streams_of c.args.pump.now) (range_with l high))) c.as_slice-2.ensures) refl greatest
