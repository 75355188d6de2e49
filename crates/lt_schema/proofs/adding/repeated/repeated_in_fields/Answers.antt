use Rattle.std.proofs.Common.{[], ap, map, sym, take, ◌∙◌}
use Rattle.lt_tables.specs.Schema.{field_names, repeated}
use Rattle.lt_schema.specs.View.{view_fields}
use Rattle.lt_schema.proofs.NameLists.{names_of_fields}
use Rattle.lt_schema.proofs.SeenLaws.{so_far_all, so_far_more, so_far_twice}
use Rattle.lt_schema.proofs.adding.repeated.repeated_in_fields.Goals as goal

pub loop-name-preserved : goal.loop-name-preserved
loop-name-preserved c =
    let items = c.as_slice-name-items.result.now in
    let before = map (λ f. f.1) (take c.loop-name.name-index items) in
    so_far_more (λ f. f.1) c.loop-name.seen c.see.new.seen c.loop-name.name-index items c.loop-name-item.result c.loop-name.invariant c.loop-name-test.true c.loop-name-item.is
    (sym (c.in_ok-see.ensures.fresh before c.loop-name.invariant.holds) ∙ c.if-not-branch.false) (c.in_ok-see.ensures.added before c.loop-name.invariant.holds)

pub returns-then-not-branch : goal.returns-then-not-branch
returns-then-not-branch c =
    let items = c.as_slice-name-items.result.now in
    let before = map (λ f. f.1) (take c.loop-name.name-index items) in
    sym (ap (λ fs. repeated [] (field_names (view_fields fs))) (sym c.as_slice-name-items.ensures) ∙ ap (repeated []) (names_of_fields items)
    ∙ so_far_twice (λ f. f.1) c.loop-name.seen c.loop-name.name-index items c.loop-name-item.result c.loop-name.invariant c.loop-name-test.true c.loop-name-item.is
    (sym (c.in_ok-see.ensures.fresh before c.loop-name.invariant.holds) ∙ c.if-not-branch.true))

pub returns : goal.returns
returns c =
    let items = c.as_slice-name-items.result.now in
    sym (ap (λ fs. repeated [] (field_names (view_fields fs))) (sym c.as_slice-name-items.ensures) ∙ ap (repeated []) (names_of_fields items)
    ∙ (so_far_all (λ f. f.1) c.loop-name.seen c.loop-name.name-index items c.loop-name.invariant c.loop-name-test.false).0)
