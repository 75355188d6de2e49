use Rattle.std.proofs.Common.{refl}
use Rattle.lt_core.proofs.Utf8.{utf8_had, utf8_false, not_both}
use Rattle.lt_core.proofs.text.Text.from_bytes.Goals as goal

pub returns-in_default-clause-refused : goal.returns-in_default-clause-refused
returns-in_default-clause-refused c = (λ e. utf8_false c.args.bytes (λ u. absurd (cc ((rw c.into_vec.ensures at c.in_default.ensures.succeeds) u))), λ e. refl)

pub returns-clause-refused : goal.returns-clause-refused
returns-clause-refused c = (λ e. absurd cc, λ e. absurd (not_both c.args.bytes (utf8_had c.args.bytes (rw (← c.into_vec.ensures, ← c.in-Ok.ensures.ok) c.in-Ok.inner.ok)) e))
