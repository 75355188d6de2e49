use Rattle.std.proofs.Common.{None, ap, refl, subst, map, [], ◌∷◌, ◌≡◌, ◌∙◌}
use Rattle.lt_records.specs.View.{view_change, view_item}
use Rattle.lt_pump.specs.Given.{AreBehind, all_given}
use Rattle.lt_pump.specs.Positions.{breaks_there, stream_of, with_item}
use Rattle.lt_pump.specs.View.{view_subscription}
use Rattle.lt_pump.proofs.PassLaws.{passes}
use Rattle.lt_pump.proofs.ChangeLaws.{change_behind, no_changes, record_behind}
use Rattle.lt_pump.proofs.Results.{on_any, on_both, on_err, on_ok}
use Rattle.lt_pump.proofs.position.Position.accept.Goals as goal

pub returns-in-Change-clause-behind : goal.returns-in-Change-clause-behind
returns-in-Change-clause-behind g c =
    let a = stream_of c.args.self.now in
    let b = stream_of c.take_change.new.self in
    let change = view_change c.in-Change.change in
    let subs = map view_subscription c.args.subs.now in
    let held = g.V.Deliver.held c.args.to.now in
    let held' = g.V.Deliver.held c.take_change.new.to in
    let p = passes a.header c.args.cat.now a.point change (subst (λ i. breaks_there c.args.cat.now (stream_of c.args.self.now) (view_item i) ≡ None) c.in-Change.is c.requires.fair) in
    on_both (b ≡ with_item a (view_item c.args.item.now)) (held' ≡ all_given (change ∷ []) subs held) (AreBehind b held') c.take_change.result c.take_change.ensures.ok c.take_change.ensures.given
    (λ e h. change_behind a b c.args.cat.now change subs held held' p (e ∙ ap (λ i. with_item (stream_of c.args.self.now) (view_item i)) c.in-Change.is) h c.requires.behind)

pub returns-in_default : goal.returns-in_default
returns-in_default g c =
    let a = stream_of c.args.self.now in
    let b = stream_of c.take.new.self in
    let held = g.V.Deliver.held c.args.to.now in
    record {
      ok = c.take.ensures.ok;
      given = on_any _ c.take.result (no_changes c.args.item.now (map view_subscription c.args.subs.now) held c.in_default.not-Change);
      behind = on_ok (b ≡ with_item a (view_item c.args.item.now)) (AreBehind b held) c.take.result c.take.ensures.ok (λ e. record_behind a b c.args.cat.now c.args.item.now held c.in_default.not-Change c.requires.fair e c.requires.behind);
      unmoved = on_err (b ≡ a) ((b ≡ a) × (held ≡ held)) c.take.result c.take.ensures.err (λ e. (e, refl));
      catalogue = refl;
    }
