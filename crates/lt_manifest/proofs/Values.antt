-- What is read of a value, from what stands at the front of the bytes.
use Rattle.std.proofs.Common.{List, None, Option, Some, ap, length, refl, sym, drop, ℕ, ◌++◌, ◌-◌, ◌∙◌, ◌≡◌}
use Rattle.std.proofs.lemmas.List.{take-append-drop}
use Rattle.lt_terms.specs.Log.{HasNoValue, IsValueFront, value_bytes}
use Rattle.lt_terms.specs.Value.{Value}
use Rattle.lt_codecs.specs.Codec.{IsBytes}
use Rattle.lt_codecs.specs.LogCodec.{log_value, value}
use Rattle.lt_codecs.proofs.FoundLaws.{reads_value}
use Rattle.lt_codecs.proofs.ValueCodecs.{log_value_is}

pub value_read : (bytes rest : List ℕ) (v : Value) (n : ℕ) → IsValueFront bytes v n → rest ≡ drop n bytes → log_value.read bytes ≡ Some (v, rest)
unfolding log_value value
value_read bytes rest v n h is =
    let parts : value_bytes v ++ rest ≡ bytes = ap (λ t. value_bytes v ++ t) is ∙ ap (λ t. t ++ drop n bytes) (sym h.2) ∙ take-append-drop n bytes in
    ap log_value.read (sym parts) ∙ log_value_is.again v rest h.0

pub no_value : (bytes : List ℕ) → IsBytes bytes → HasNoValue bytes → log_value.read bytes ≡ None
unfolding log_value
no_value bytes fits h = by (log_value.read bytes) refl
  where
    by : (o : Option (Value × List ℕ)) → log_value.read bytes ≡ o → o ≡ None
    by None e = refl
    by (Some x) e = absurd (h x.0 (length bytes - length x.1) ((reads_value bytes fits).0 x.0 x.1 e).0)
