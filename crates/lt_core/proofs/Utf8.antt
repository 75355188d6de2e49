-- Whether bytes are UTF-8, as a test.
use Rattle.std.proofs.Common.{◌≡◌, Bool, true, false, List, ℕ, refl}
use Rattle.std.specs.Str.{IsUtf8, is_utf8}
use Rattle.std.proofs.lemmas.Str.{IsUtf8-from_is_utf8, is_utf8-from_IsUtf8}
use Rattle.std.proofs.str.Laws.{IsUtf8-had}

pub utf8_true : (bs : List ℕ) → IsUtf8 bs → is_utf8 bs ≡ true
utf8_true bs h = is_utf8-from_IsUtf8 bs h

pub utf8_false : (bs : List ℕ) → (IsUtf8 bs → ⊥) → is_utf8 bs ≡ false
utf8_false bs h = by (is_utf8 bs) refl
  where
    by : (b : Bool) → is_utf8 bs ≡ b → b ≡ false
    by true e = absurd (h (IsUtf8-from_is_utf8 bs e))
    by false e = refl

pub not_both : (bs : List ℕ) → is_utf8 bs ≡ true → is_utf8 bs ≡ false → ⊥
not_both bs e f = cc

pub utf8_had : (bs : List ℕ) → ∥ IsUtf8 bs ∥₁ → is_utf8 bs ≡ true
utf8_had bs h = utf8_true bs (IsUtf8-had bs h)
