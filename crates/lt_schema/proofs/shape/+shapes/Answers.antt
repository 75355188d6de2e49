use Rattle.std.proofs.Common.{Some, ap, arith, false, sym, true, ◌+◌, ◌∙◌, ◌≡◌}
use Rattle.std.specs.Prelude.{slice_get, ◌&&◌}
use Rattle.std.proofs.lemmas.Option.{slice_get_within}
use Rattle.lt_core.specs.View.{view_kind, view_value}
use Rattle.lt_terms.specs.Kind.{has_shape}
use Rattle.lt_schema.proofs.Shapes.{shapes_from, shapes_more}
use Rattle.lt_schema.proofs.shape.+shapes.Goals as goal

pub have_shapes-returns-then-not-has_shape : goal.have_shapes-returns-then-not-has_shape
have_shapes-returns-then-not-has_shape t c =
    let fs = c.as_slice-number-items.result.now in
    let ks = c.args.kinds.now in
    let i = c.loop-number.number-index in
    let f = c.loop-number-item.result in
    let k = c.in-Some.field-0.now in
    let got : slice_get ks i ≡ Some k = ap (slice_get ks) (sym c.loop-number.invariant.in_step) ∙ sym c.in-Some.ensures in
    let lacks : has_shape (view_value f.1) (view_kind k.2) ≡ false = sym c.has_shape.ensures ∙ c.if-not-has_shape.true in
    let none : shapes_from 0 fs ks ≡ false = sym c.loop-number.invariant.rest ∙ shapes_more i fs ks f k c.loop-number-test.true c.loop-number-item.is got c.if-number-named.false ∙ ap (λ b. b && shapes_from (i + 1) fs ks) lacks in
    sym (ap (λ xs. shapes_from 0 xs ks) (sym c.as_slice-number-items.ensures) ∙ none)

pub have_shapes-loop-number-preserved : goal.have_shapes-loop-number-preserved
have_shapes-loop-number-preserved t c =
    let fs = c.as_slice-number-items.result.now in
    let ks = c.args.kinds.now in
    let i = c.loop-number.number-index in
    let f = c.loop-number-item.result in
    let k = c.in-Some.field-0.now in
    let got : slice_get ks i ≡ Some k = ap (slice_get ks) (sym c.loop-number.invariant.in_step) ∙ sym c.in-Some.ensures in
    let fits : has_shape (view_value f.1) (view_kind k.2) ≡ true = sym c.has_shape.ensures ∙ c.if-not-has_shape.false in
    let more = shapes_more i fs ks f k c.loop-number-test.true c.loop-number-item.is got c.if-number-named.false in
    record {
      in_step = omega arith;
      within = omega (arith, slice_get_within ks i k got);
      rest = sym (more ∙ ap (λ b. b && shapes_from (i + 1) fs ks) fits) ∙ c.loop-number.invariant.rest;
    }
