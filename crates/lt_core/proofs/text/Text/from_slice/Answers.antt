use Rattle.std.proofs.Common.{refl}
use Rattle.lt_core.proofs.Utf8.{utf8_true, utf8_false, not_both}
use Rattle.lt_core.proofs.text.Text.from_slice.Goals as goal

pub returns-in_default-clause-refused : goal.returns-in_default-clause-refused
returns-in_default-clause-refused c = (λ e. utf8_false c.args.bytes.now c.in_default.ensures.cases.0, λ e. refl)

pub returns-in-Ok-from_str-clause-text : goal.returns-in-Ok-from_str-clause-text
returns-in-Ok-from_str-clause-text c = utf8_true c.args.bytes.now c.in-Ok.ensures.cases.1

pub returns-in-Ok-from_str-clause-refused : goal.returns-in-Ok-from_str-clause-refused
returns-in-Ok-from_str-clause-refused c = (λ e. absurd cc, λ e. absurd (not_both c.args.bytes.now (utf8_true c.args.bytes.now c.in-Ok.ensures.cases.1) e))

pub returns-in-Err-clause-refused : goal.returns-in-Err-clause-refused
returns-in-Err-clause-refused c = (λ e. absurd cc, λ e. absurd (not_both c.args.bytes.now (utf8_true c.args.bytes.now c.in-Ok.ensures.cases.1) e))
