use Rattle.std.proofs.Common.{refl}
use Rattle.lt_core.proofs.Utf8.{not_both, utf8_true}
use Rattle.lt_script.proofs.words.copied.Goals as goal

pub unreachable-requires : goal.unreachable-requires
unreachable-requires c =
    let bytes = c.as_bytes.result.now in
    let refused = (rw c.in-Err-NotUtf8.field-0-is at c.in-Err-NotUtf8.ensures.refused) in
    not_both bytes (utf8_true bytes c.as_bytes.ensures.utf8) (refused.0 refl)
