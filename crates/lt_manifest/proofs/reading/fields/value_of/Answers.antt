use Rattle.std.proofs.Common.{ap, arith, subst, sym, ◌∙◌}
use Rattle.lt_terms.specs.Log.{HasNoValue}
use Rattle.lt_records.specs.Reading.{ValueRefused}
use Rattle.lt_records.specs.declared.refusal.ValueRefusal.TheVariants as refusals
use Rattle.lt_codecs.specs.LogCodec.{log_value}
use Rattle.lt_manifest.proofs.Values.{no_value, value_read}
use Rattle.lt_manifest.proofs.reading.fields.value_of.Goals as goal

pub returns-in-Ok : goal.returns-in-Ok
returns-in-Ok c = ap log_value.read (sym c.new-ahead.ensures) ∙ value_read _ _ _ _ c.in-Ok.ensures.value c.in-Ok.ensures.rest

pub returns-in-Err-NotAValue : goal.returns-in-Err-NotAValue
returns-in-Err-NotAValue c =
    let refused : ValueRefused c.new-ahead.result refusals.NotAValue = subst (ValueRefused c.new-ahead.result) c.in-Err-NotAValue.field-0-is c.in-Err-NotAValue.ensures.refused in
    no_value c.args.bytes.now (λ i. omega (arith, c.type_inv.bytes i)) (subst HasNoValue c.new-ahead.ensures refused)
