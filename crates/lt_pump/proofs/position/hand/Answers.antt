use Rattle.std.proofs.Common.{arith, refl}
use Rattle.lt_records.specs.View.{view_change}
use Rattle.lt_pump.proofs.GivenLaws.{fresh_there}
use Rattle.lt_pump.proofs.SubLaws.{hand_known, hand_low, hand_none, hand_one, has_in, known_sub}
use Rattle.lt_pump.proofs.position.hand.Goals as goal

pub returns-in_default-clause-given : goal.returns-in_default-clause-given
returns-in_default-clause-given g c = hand_none c.args.key.now (view_change c.args.change.now) c.args.subs.now c.args.subs.now (g.V.Deliver.held c.args.to.now) c.requires.key refl c.in_default.ensures.none

pub offset_bounds-all-i : goal.offset_bounds-all-i
offset_bounds-all-i g c = let l = known_sub c.args.key.now c.in-Some.i c.as_slice-all.result.now (has_in c.args.key.now c.in-Some.i c.as_slice-all.result.now c.args.subs.now c.as_slice-all.ensures c.in-Some.ensures.some) in omega (arith, l, c.as_slice-all.type_inv.1)

pub bounds-all-i : goal.bounds-all-i
bounds-all-i g c = known_sub c.args.key.now c.in-Some.i c.as_slice-all.result.now (has_in c.args.key.now c.in-Some.i c.as_slice-all.result.now c.args.subs.now c.as_slice-all.ensures c.in-Some.ensures.some)

pub bounds-all-i-in-Some : goal.bounds-all-i-in-Some
bounds-all-i-in-Some g c = known_sub c.args.key.now c.in-Some.i c.as_slice-all.result.now (has_in c.args.key.now c.in-Some.i c.as_slice-all.result.now c.args.subs.now c.as_slice-all.ensures c.in-Some.ensures.some)

pub returns-then-change-all-clause-given : goal.returns-then-change-all-clause-given
returns-then-change-all-clause-given g c =
    hand_low c.args.key.now (view_change c.args.change.now) c.in-Some.i c.as_slice-all.result.now c.args.subs.now c.index-all-i.result (g.V.Deliver.held c.args.to.now) c.requires.key c.as_slice-all.ensures c.requires.subs.disjoint (has_in c.args.key.now c.in-Some.i c.as_slice-all.result.now c.args.subs.now c.as_slice-all.ensures c.in-Some.ensures.some) c.index-all-i.is c.if-change-all.true

pub deliver-requires-clause-known : goal.deliver-requires-clause-known
deliver-requires-clause-known g c = hand_known c.args.key.now c.in-Some.i c.args.subs.now c.args.subs.now (g.V.Deliver.held c.args.to.now) refl c.requires.subs.as_many c.in-Some.ensures.some

pub deliver-requires-clause-fresh : goal.deliver-requires-clause-fresh
deliver-requires-clause-fresh g c = fresh_there (view_change c.args.change.now) c.in-Some.i (g.V.Deliver.held c.args.to.now)
    (hand_known c.args.key.now c.in-Some.i c.args.subs.now c.args.subs.now (g.V.Deliver.held c.args.to.now) refl c.requires.subs.as_many c.in-Some.ensures.some) c.requires.fresh

pub returns-clause-given : goal.returns-clause-given
returns-clause-given g c =
    hand_one c.args.key.now (view_change c.args.change.now) c.in-Some.i c.as_slice-all.result.now c.args.subs.now c.index-all-i.result (g.V.Deliver.held c.args.to.now) (g.V.Deliver.held c.deliver.new.self) c.requires.key c.as_slice-all.ensures c.requires.subs.disjoint (has_in c.args.key.now c.in-Some.i c.as_slice-all.result.now c.args.subs.now c.as_slice-all.ensures c.in-Some.ensures.some) c.index-all-i.is
    c.if-change-all.false c.in_ok-deliver.ensures.ok

pub returns-clause-some : goal.returns-clause-some
returns-clause-some g c = (hand_known c.args.key.now c.in-Some.i c.args.subs.now c.args.subs.now (g.V.Deliver.held c.args.to.now) refl c.requires.subs.as_many c.in-Some.ensures.some, c.in_ok-deliver.ensures.ok)
