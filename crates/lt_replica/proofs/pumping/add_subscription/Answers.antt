use Rattle.std.proofs.Common.{ap, refl, sym, ◌∙◌}
use Rattle.std.specs.Option.{option_copied}
use Rattle.lt_pump.proofs.Results.{on_ok}
use Rattle.lt_replica.proofs.PumpedState.{sub_added}
use Rattle.lt_replica.proofs.pumping.add_subscription.Goals as goal

pub returns : goal.returns
returns c =
    let here = sym c.get.ensures.entry ∙ ap option_copied c.in-Some.is in
    on_ok _ _ c.push.result c.push.ensures.ok (λ e. sub_added c.args.map.now c.args.part c.in-Some.entry.now _ c.args.subs.now c.push.new.self here c.in_ok-range.ensures refl e)
