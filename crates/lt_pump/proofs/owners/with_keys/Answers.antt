use Rattle.std.proofs.Common.{ap, refl, subst, sym, true, false, ◌∙◌, ◌≡◌, List, ℕ}
use Rattle.std.specs.List.{All}
use Rattle.std.proofs.lemmas.List.Elements.{All-push}
use Rattle.lt_terms.specs.Key.{in_range}
use Rattle.lt_core.specs.View.{view_range}
use Rattle.lt_pump.specs.Order.{IsOutside, IsOwner}
use Rattle.lt_pump.proofs.OrderLaws.{no_keys, out_next, whole_pushed}
use Rattle.lt_pump.proofs.SubLaws.{here}
use Rattle.lt_pump.proofs.owners.with_keys.Goals.{then-contains+in_ok-push, else-contains}
use Rattle.lt_pump.proofs.owners.with_keys.Goals as goal

pub loop-place-preserved : goal.loop-place-preserved
loop-place-preserved c =
    let subs = c.args.subs.now in
    let x = c.index-subs-place.result in
    let kept = c.loop-place.invariant in
    let there = here subs c.loop-place.place x c.loop-place-test.true c.index-subs-place.is in
    elim c.if-contains.branch [
      | then-contains+in_ok-push w ↦
          let e = ap (λ v. v.items) w.owners-is ∙ w.in_ok-push.ensures.items in
          let keys = subst (λ (k : List ℕ). in_range k (view_range x.range) ≡ true) c.as_slice.ensures (sym c.contains.ensures ∙ w.if-contains.true) in record {
            known = subst (All (IsOwner subs)) (sym e) (All-push (IsOwner subs) c.loop-place.owners.items _ kept.known (record { here = there; keys = keys }));
            whole = λ key out. whole_pushed key subs c.loop-place.place x c.loop-place.owners.items _ c.loop-place-test.true c.index-subs-place.is refl (kept.whole key) (subst (All (IsOutside key)) e out);
          }
      | else-contains w ↦
          let e = ap (λ v. v.items) w.owners-is in
          let lacks = subst (λ (k : List ℕ). in_range k (view_range x.range) ≡ false) c.as_slice.ensures (sym c.contains.ensures ∙ w.if-contains.false) in record {
            known = subst (All (IsOwner subs)) (sym e) kept.known;
            whole = λ key out. out_next key subs c.loop-place.place x c.loop-place-test.true c.index-subs-place.is (kept.whole key (subst (All (IsOutside key)) e out)) (no_keys key (view_range x.range) lacks);
          }
    ]
