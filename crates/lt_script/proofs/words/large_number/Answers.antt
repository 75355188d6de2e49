use Rattle.std.proofs.Common.{◌≡◌, ◌<◌, ◌^◌, sym, ap, ◌∙◌, arith, decimal}
use Rattle.std.specs.Prelude.{Ok}
use Rattle.lt_terms.specs.Conversion.{same_bytes}
use Rattle.lt_lemmas.proofs.ConversionLemmas.{same_bytes-same, same_bytes-self}
use Rattle.std.proofs.lemmas.Fmt.{parse-decimal}
use Rattle.lt_script.proofs.WordLaws.{large_is, large_none}
use Rattle.lt_script.proofs.words.large_number.Goals as goal

pub returns-in_default : goal.returns-in_default
returns-in_default c =
    large_none c.args.digits.now (λ n h e. c.in_default.not-Ok n (parse-decimal 64 n c.args.digits.now c.parse.result h h e c.parse.ensures.value.0))

pub returns-then-eq : goal.returns-then-eq
returns-then-eq c =
    let same = same_bytes-same c.as_str.result.now c.args.digits.now (sym c.eq.ensures ∙ c.if-eq.true) in
    let small : c.in-Ok.n < 2 ^ 64 = omega arith in
    large_is c.args.digits.now c.in-Ok.n small (sym same ∙ c.as_str.ensures.value ∙ c.in_ok-again.ensures.ok)

pub returns : goal.returns
returns c = large_none c.args.digits.now (λ n h e.
    let p = parse-decimal 64 n c.args.digits.now c.parse.result h h e c.parse.ensures.value.0 in
    let was : c.parse.result ≡ Ok c.in-Ok.n = c.in-Ok.is in
    let same : c.in-Ok.n ≡ n = cc in
    let bytes = c.as_str.ensures.value ∙ c.in_ok-again.ensures.ok ∙ ap decimal same ∙ sym e in
    let test = c.eq.ensures ∙ ap (λ b. same_bytes b c.args.digits.now) bytes ∙ same_bytes-self c.args.digits.now in
    let not = c.if-eq.false in
    cc)
