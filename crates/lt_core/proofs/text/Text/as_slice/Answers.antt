use Rattle.std.proofs.Common.{◌∙◌, sym, ap}
use Rattle.std.specs.Str.{is_utf8}
use Rattle.std.proofs.lemmas.Str.{is_utf8-from_IsUtf8}
use Rattle.lt_core.proofs.text.Text.as_slice.Goals as goal

pub returns-clause-text : goal.returns-clause-text
returns-clause-text c =
    ap is_utf8 (sym c.self.view_is ∙ sym c.as_str.ensures.value) ∙ is_utf8-from_IsUtf8 c.as_str.result.now c.as_str.utf8
