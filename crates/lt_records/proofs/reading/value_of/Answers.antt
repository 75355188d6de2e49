use Rattle.std.proofs.Common.{ap, sym, subst, ◌∙◌, arith}
use Rattle.std.proofs.lemmas.Result.{err_from_is_err_and}
use Rattle.lt_core.specs.View.{view_value}
use Rattle.lt_codecs.specs.LogCodec.{value}
use Rattle.lt_records.specs.Reading.{Stops}
use Rattle.lt_records.proofs.Front.{value_front, value_only, value_refused, value_rest}
use Rattle.lt_records.proofs.reading.value_of.Goals as goal

pub returns-in_err-value-clause-refused : goal.returns-in_err-value-clause-refused
returns-in_err-value-clause-refused c =
    let p = err_from_is_err_and c.from_residual.result c.from_residual.ensures.1 in
    let stopped = subst (λ b. Stops ((value 4).read b) c.in_err-value.field-0.0) c.new-ahead.ensures c.in_err-value.ensures in
    let refused = value_refused c.args.bytes.now c.in_err-value.field-0.0 (λ i. omega (arith, c.type_inv.bytes i)) stopped in
    rw (p.1, p.2) refused

pub returns-clause-value : goal.returns-clause-value
returns-clause-value c =
    let read = sym (ap (value 4).read c.new-ahead.ensures) ∙ c.in_ok-value.ensures in
    value_front c.args.bytes.now (view_value c.in_ok-value.value) c.value_at.new.from (λ i. omega (arith, c.type_inv.bytes i)) read

pub returns-clause-rest : goal.returns-clause-rest
returns-clause-rest c =
    let read = sym (ap (value 4).read c.new-ahead.ensures) ∙ c.in_ok-value.ensures in
    value_rest c.args.bytes.now (view_value c.in_ok-value.value) c.value_at.new.from (λ i. omega (arith, c.type_inv.bytes i)) read

pub returns-clause-only : goal.returns-clause-only
returns-clause-only c =
    let read = sym (ap (value 4).read c.new-ahead.ensures) ∙ c.in_ok-value.ensures in
    let there = value_front c.args.bytes.now (view_value c.in_ok-value.value) c.value_at.new.from (λ i. omega (arith, c.type_inv.bytes i)) read in
    value_only c.args.bytes.now (view_value c.in_ok-value.value) _ there
