use Rattle.std.proofs.Common.{ap, append-nil, rules, sym, ◌++◌, ◌∙◌, ◌≡◌}
use Rattle.std.specs.Prelude.{flat_map}
use Rattle.lt_core.specs.View.{view_layout}
use Rattle.lt_physical.specs.Leaves.{carrier_leaves}
use Rattle.lt_physical.proofs.Carriers.{carriers_are}
use Rattle.lt_physical.proofs.layouts.carrier_layout.Goals as goal

pub returns : goal.returns
returns c =
    let cat = c.args.cat.now in
    let f = carrier_leaves cat c.args.number in
    let keys = c.in_ok-numbers.numbers.keys in
    let all : c.into_iter-column-iterator.result ≡ keys = search rules in
    sym (append-nil (view_layout c.loop-column.layout)) ∙ ap (λ it. view_layout c.loop-column.layout ++ flat_map f it) (sym c.in-None.ensures.steps.0) ∙ c.loop-column.invariant
    ∙ ap (flat_map f) all ∙ sym (carriers_are cat c.args.number keys c.in_ok-numbers.ensures)
