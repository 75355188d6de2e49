use Rattle.std.proofs.Common.{None, subst, ◌≡◌}
use Rattle.lt_terms.specs.declared.Format.TheVariants as format
use Rattle.lt_terms.specs.Log.{is_item}
use Rattle.std.specs.Prelude.{IsTrue}
use Rattle.lt_tables.specs.Pump.{is_deliverable}
use Rattle.lt_records.specs.View.{view_change}
use Rattle.lt_pump.specs.Positions.{breaks_there, stream_of}
use Rattle.lt_pump.proofs.PassLaws.{deliverable, passes}
use Rattle.lt_pump.proofs.BehindLaws.{others}
use Rattle.lt_pump.proofs.ChangeLaws.{undo_ready, undone}
use Rattle.lt_pump.proofs.position.Position.take_change.Goals as goal

pub hand-requires-clause-lawful : goal.hand-requires-clause-lawful
hand-requires-clause-lawful g c =
    let a = stream_of c.args.self.now in
    let p = passes a.header c.args.cat.now a.point (view_change c.args.change.now) (subst (λ i. breaks_there c.args.cat.now (stream_of c.args.self.now) i ≡ None) c.requires.item c.requires.fair) in
    subst (λ cat. IsTrue (is_deliverable cat (view_change c.args.change.now))) c.requires.catalogue (deliverable c.args.cat.now (view_change c.args.change.now) (subst (λ i. IsTrue (is_item format.One i)) c.requires.item c.requires.lawful) p.shaped)

pub hand-requires-clause-fresh : goal.hand-requires-clause-fresh
hand-requires-clause-fresh g c =
    let a = stream_of c.args.self.now in
    let p = passes a.header c.args.cat.now a.point (view_change c.args.change.now) (subst (λ i. breaks_there c.args.cat.now (stream_of c.args.self.now) i ≡ None) c.requires.item c.requires.fair) in
    others a c.args.cat.now (view_change c.args.change.now) (g.V.Deliver.held c.args.to.now) p c.requires.behind

pub undo-requires : goal.undo-requires
undo-requires g c = undo_ready c.in_ok-given.given c.in_ok-key.key (view_change c.args.change.now) (g.V.Deliver.held c.args.to.now) (g.V.Deliver.held c.hand.new.to) c.in_ok-key.ensures c.in_ok-given.ensures.some

pub returns-clause-unmoved : goal.returns-clause-unmoved
returns-clause-unmoved g c =
    let a = stream_of c.args.self.now in
    let p = passes a.header c.args.cat.now a.point (view_change c.args.change.now) (subst (λ i. breaks_there c.args.cat.now (stream_of c.args.self.now) i ≡ None) c.requires.item c.requires.fair) in (
      c.in-Err.ensures.err,
      undone c.in_ok-given.given c.in_ok-key.key (view_change c.args.change.now) (g.V.Deliver.held c.args.to.now) (g.V.Deliver.held c.hand.new.to) (g.V.Deliver.held c.undo.new.to) c.in_ok-key.ensures
          (others a c.args.cat.now (view_change c.args.change.now) (g.V.Deliver.held c.args.to.now) p c.requires.behind) c.in_ok-given.ensures.some c.in_ok-given.ensures.none c.undo.ensures.some c.undo.ensures.none,
    )
