use Rattle.std.proofs.Common.{arith, subst, sym, ◌+◌, ◌-◌, ◌∙◌, ◌≡◌, ap}
use Rattle.lt_schema.specs.Carriers.{EndsBelow, falling_fields}
use Rattle.lt_schema.proofs.Puts.{put_behind, put_first, put_replaced}
use Rattle.lt_schema.proofs.carrier.put.Goals as goal
use Rattle.lt_schema.proofs.carrier.put.Goals.{else-at-gt0-via-then-at-gt0+else-index-field, else-at-gt0-via-else-at-gt0}

pub returns-then-index-field : goal.returns-then-index-field
returns-then-index-field c =
    let at = c.above-at.result in
    let next : at ≡ (at - 1) + 1 = omega arith in
    put_replaced c.args.falling.now.items c.args.field c.index.result.now at (at - 1) (subst (λ xs. EndsBelow xs c.args.field.0 at) c.deref.ensures.value c.above-at.ensures) next c.index.ensures (sym c.if-index-field.true)

pub returns-in_ok-insert : goal.returns-in_ok-insert
returns-in_ok-insert c =
    let at = c.above-at.result in
    let fs = c.args.falling.now.items in
    ap falling_fields c.in_ok-insert.ensures.items ∙ elim c.else-at-gt0.branch [
      | else-at-gt0-via-then-at-gt0+else-index-field w ↦
          let next : at ≡ (at - 1) + 1 = omega arith in
          put_behind fs c.args.field w.index.result.now at (at - 1) (subst (λ xs. EndsBelow xs c.args.field.0 at) c.deref.ensures.value c.above-at.ensures) next w.index.ensures w.if-index-field.false
      | else-at-gt0-via-else-at-gt0 w ↦ put_first fs c.args.field at (subst (λ xs. EndsBelow xs c.args.field.0 at) c.deref.ensures.value c.above-at.ensures) w.if-at-gt0.false
    ]
