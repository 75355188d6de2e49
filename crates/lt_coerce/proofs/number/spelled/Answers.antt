use Rattle.std.proofs.Common.{FitsSigned, ap, of_z, rules, subst, sym, to_z, w64, ◌∙◌, ◌≡◌}
use Rattle.std.specs.Prelude.{Ok}
use Rattle.std.specs.Fmt.{signed_decimal}
use Rattle.std.specs.Str.{IsUtf8}
use Rattle.std.proofs.lemmas.Fmt.{parse-signed_decimal}
use Rattle.lt_terms.specs.Conversion.{same_bytes}
use Rattle.lt_terms.specs.Value.{int_value}
use Rattle.lt_codecs.proofs.Codecs.{tested}
use Rattle.lt_lemmas.proofs.ConversionLemmas.{mag_fits, same_bytes-same, same_bytes-self}
use Rattle.lt_core.proofs.ViewLaws.{view_int, view_null}
use Rattle.lt_coerce.proofs.RankLaws.{none_spelled, number_spelled, utf8_decimal}
use Rattle.lt_coerce.proofs.number.spelled.Goals as goal

pub returns-in_default : goal.returns-in_default
returns-in_default c = view_null ∙ sym (none_spelled c.args.bytes.now (λ z f e. c.in_default.ensures.cases.0 (subst IsUtf8 (sym e) (utf8_decimal z f))))

pub returns-in_default-parse : goal.returns-in_default-parse
returns-in_default-parse c =
    view_null ∙ sym (none_spelled c.args.bytes.now (λ z f e. c.in_default-parse.not-Ok z (parse-signed_decimal w64 z c.in-Ok.text.now c.parse.result f (mag_fits z (tested w64 z f)) (c.in-Ok.ensures.cases.0 ∙ e) c.parse.ensures.value.0)))

pub returns-then-eq : goal.returns-then-eq
returns-then-eq c =
    let z = c.in-Ok-parse.number in
    let fits : FitsSigned w64 z = search rules in
    let same : to_z w64 (of_z w64 z) ≡ z = search rules in
    let bytes = same_bytes-same c.as_bytes.result.now c.args.bytes.now (sym c.eq.ensures ∙ c.if-eq.true) in
    view_int _ ∙ ap int_value same ∙ sym (number_spelled c.args.bytes.now z fits (sym bytes ∙ c.as_bytes.ensures.value ∙ c.in_ok-again.ensures ∙ ap signed_decimal same))

pub returns : goal.returns
returns c =
    view_null ∙ sym (none_spelled c.args.bytes.now (λ z f e.
    let was : c.parse.result ≡ Ok c.in-Ok-parse.number = c.in-Ok-parse.is in
    let read : c.parse.result ≡ Ok z = parse-signed_decimal w64 z c.in-Ok.text.now c.parse.result f (mag_fits z (tested w64 z f)) (c.in-Ok.ensures.cases.0 ∙ e) c.parse.ensures.value.0 in
    let one : c.in-Ok-parse.number ≡ z = cc in
    let same : to_z w64 (of_z w64 c.in-Ok-parse.number) ≡ c.in-Ok-parse.number = search rules in
    let bytes = c.as_bytes.ensures.value ∙ c.in_ok-again.ensures ∙ ap signed_decimal (same ∙ one) ∙ sym e in
    let test = c.eq.ensures ∙ ap (λ b. same_bytes b c.args.bytes.now) bytes ∙ same_bytes-self c.args.bytes.now in
    let not = c.if-eq.false in
    absurd cc))
