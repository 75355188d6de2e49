use Rattle.std.proofs.Common.{Bool, Err, ap, codes, false, refl, true, ◌≡◌}
use Rattle.std.specs.Str.{chars, is_utf8}
use lib.Utf8.{encode}
use Rattle.lt_replica.proofs.splitting.word_of_key.Goals as goal

spelled : is_utf8 (codes "key") ≡ true
unfolding is_utf8 chars encode
spelled = refl

not_both : (b : Bool) → b ≡ true → b ≡ false → ⊥
not_both b t f = cc

pub unreachable-requires : goal.unreachable-requires
unreachable-requires c = not_both (is_utf8 (codes "key")) spelled (c.in-Err-NotUtf8.ensures.refused.0 (ap Err c.in-Err-NotUtf8.field-0-is))
