-- A value at a rank, by the whole number that it has or by its text.
use Rattle.std.proofs.Common.{Bool, FitsSigned, List, ap, cond, false, refl, sym, true, ℕ, ℤ, pos, ◌∙◌, ◌≡◌}
use Rattle.std.specs.Prelude.{Err, IfOk, IsTrue, None, Ok, Result, Option, Some, if◌then◌else◌}
use Rattle.std.specs.Fmt.{signed_decimal}
use Rattle.std.specs.Str.{IsUtf8, is_utf8}
use Rattle.std.proofs.lemmas.Fmt.{IsAscii-signed}
use Rattle.std.proofs.lemmas.Str.{IsUtf8-from_ascii}
use Rattle.std.proofs.lemmas.Bool.{false≢true}
use Rattle.std.specs.Int.{w64}
use Rattle.lt_terms.specs.declared.Rank.{Rank}
use Rattle.lt_codecs.proofs.Codecs.{fit, tested}
use Rattle.lt_core.specs.View.{view_value}
use Rattle.lt_core.specs.declared.value.Value.{Value as CodeValue}
use Rattle.lt_terms.specs.Value.{Fields, Value, bool_value, bytes_value, fits_64, int_value, null_value, struct_value, text_value}
use Rattle.lt_terms.specs.Conversion.{at_rank, lowered_to_bool, lowered_to_int32, lowered_to_int64, lowered_to_text, number_of_text, number_or_null}
use Rattle.lt_terms.specs.declared.Rank.TheVariants as rank
use Rattle.lt_lemmas.proofs.ConversionLemmas.{at_rank-null, decimal-number_of_text, mag_fits, number_of_text-decimal, utf8-decimal}

-- ---- whole numbers

-- bytes that are no text are no number
number_or_none : (b : List ℕ) (o : Option ℤ) → is_utf8 b ≡ false → number_of_text b ≡ o → number_or_null o ≡ null_value
number_or_none b None u e = refl
number_or_none b (Some z) u e = by (fits_64 z) refl
  where
    by : (f : Bool) → fits_64 z ≡ f → cond f (int_value z) null_value ≡ null_value
    by true f = absurd (false≢true (sym u ∙ ap is_utf8 (sym (decimal-number_of_text b z e)) ∙ utf8-decimal z f))
    by false f = refl

pub bytes_number : (b : List ℕ) → at_rank rank.Int64 (bytes_value b) ≡ number_or_null (number_of_text b)
unfolding at_rank
bytes_number b = by (is_utf8 b) refl
  where
    by : (u : Bool) → is_utf8 b ≡ u → lowered_to_int64 (cond u (text_value b) null_value) ≡ number_or_null (number_of_text b)
    by true u = refl
    by false u = sym (number_or_none b (number_of_text b) u refl)

pub text_number : (t : List ℕ) → at_rank rank.Int64 (text_value t) ≡ number_or_null (number_of_text t)
unfolding at_rank
text_number t = refl

pub int_number : (z : ℤ) → at_rank rank.Int64 (int_value z) ≡ int_value z
unfolding at_rank
int_number z = refl

pub bool_number : (b : Bool) → at_rank rank.Int64 (bool_value b) ≡ int_value (if b then pos 1 else pos 0)
unfolding at_rank
bool_number b = refl

pub null_number : at_rank rank.Int64 null_value ≡ null_value
null_number = at_rank-null rank.Int64

pub struct_null : (r : Rank) (fs : Fields) → at_rank r (struct_value fs) ≡ null_value
unfolding at_rank
struct_null r fs = refl

-- ---- the ranks below, by the number

pub bool_by : (v : Value) → lowered_to_bool (lowered_to_int32 (at_rank rank.Int64 v)) ≡ at_rank rank.Bool v
unfolding at_rank
bool_by null_value = refl
bool_by (bool_value false) = refl
bool_by (bool_value true) = refl
bool_by (int_value z) = refl
bool_by (text_value t) = refl
bool_by (bytes_value b) = refl
bool_by (struct_value fs) = refl

pub short_by : (v : Value) → lowered_to_int32 (at_rank rank.Int64 v) ≡ at_rank rank.Int32 v
unfolding at_rank
short_by null_value = refl
short_by (bool_value b) = refl
short_by (int_value z) = refl
short_by (text_value t) = refl
short_by (bytes_value b) = refl
short_by (struct_value fs) = refl

-- ---- the ranks above, by the text

decimal_text : (z : ℤ) → IsTrue (fits_64 z) → lowered_to_text (bytes_value (signed_decimal z)) ≡ text_value (signed_decimal z)
decimal_text z f = ap (λ (b : Bool). cond b (text_value (signed_decimal z)) null_value) (utf8-decimal z f)

pub int_text : (z : ℤ) → FitsSigned w64 z → lowered_to_text (bytes_value (signed_decimal z)) ≡ at_rank rank.Text (int_value z)
unfolding at_rank
int_text z f = decimal_text z (tested w64 z f)

pub bool_text : (b : Bool) → lowered_to_text (bytes_value (signed_decimal (if b then pos 1 else pos 0))) ≡ at_rank rank.Text (bool_value b)
unfolding at_rank
bool_text false = decimal_text (pos 0) refl
bool_text true = decimal_text (pos 1) refl

pub text_text : (t : List ℕ) → text_value t ≡ at_rank rank.Text (text_value t)
unfolding at_rank
text_text t = refl

pub bytes_text : (b : List ℕ) → lowered_to_text (bytes_value b) ≡ at_rank rank.Text (bytes_value b)
unfolding at_rank
bytes_text b = refl

pub int_bytes : (z : ℤ) → bytes_value (signed_decimal z) ≡ at_rank rank.Bytes (int_value z)
unfolding at_rank
int_bytes z = refl

pub bool_bytes : (b : Bool) → bytes_value (signed_decimal (if b then pos 1 else pos 0)) ≡ at_rank rank.Bytes (bool_value b)
unfolding at_rank
bool_bytes b = refl

pub text_bytes : (t : List ℕ) → bytes_value t ≡ at_rank rank.Bytes (text_value t)
unfolding at_rank
text_bytes t = refl

pub bytes_bytes : (b : List ℕ) → bytes_value b ≡ at_rank rank.Bytes (bytes_value b)
unfolding at_rank
bytes_bytes b = refl

-- ---- what is answered

pub gives : {E : Type 0} (r : Result CodeValue E) (v w : Value) → IfOk r (λ x. view_value x ≡ v) → v ≡ w → IfOk r (λ x. view_value x ≡ w)
gives (Ok x) v w h e = h ∙ e
gives (Err x) v w h e = tt

-- of a text that is spelled by a number, and of one that is spelled by none
pub number_spelled : (t : List ℕ) (z : ℤ) → FitsSigned w64 z → t ≡ signed_decimal z → number_or_null (number_of_text t) ≡ int_value z
number_spelled t z f e =
    let fits = tested w64 z f in
    ap number_or_null (ap number_of_text e ∙ number_of_text-decimal z fits) ∙ ap (λ (b : Bool). cond b (int_value z) null_value) fits

pub none_spelled : (t : List ℕ) → ((z : ℤ) → FitsSigned w64 z → t ≡ signed_decimal z → ⊥) → number_or_null (number_of_text t) ≡ null_value
none_spelled t none = by (number_of_text t) refl
  where
    by_fit : (z : ℤ) (b : Bool) → fits_64 z ≡ b → t ≡ signed_decimal z → cond b (int_value z) null_value ≡ null_value
    by_fit z true f e = absurd (none z (fit w64 z f) e)
    by_fit z false f e = refl

    by : (o : Option ℤ) → number_of_text t ≡ o → number_or_null o ≡ null_value
    by None e = refl
    by (Some z) e = by_fit z (fits_64 z) refl (sym (decimal-number_of_text t z e))

pub utf8_decimal : (z : ℤ) → FitsSigned w64 z → IsUtf8 (signed_decimal z)
utf8_decimal z f = IsUtf8-from_ascii (signed_decimal z) (IsAscii-signed z (mag_fits z (tested w64 z f)))
