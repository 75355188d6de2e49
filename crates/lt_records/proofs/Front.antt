-- From what the readers give to what stands at the front of the bytes.
use Rattle.std.proofs.Common.{◌≡◌, ℕ, ◌-◌, ◌++◌, List, length, drop, take, Some, Result, Ok, Err, sym, ap, subst, ◌∙◌, false, ltb, le-ltb, arith}
use Rattle.std.specs.Prelude.{IfOk}
use Rattle.std.proofs.lemmas.List.{take_all, take-append-drop}
use Rattle.lt_terms.specs.declared.Format.TheVariants as format
use Rattle.std.specs.Prelude.{IsTrue}
use Rattle.lt_codecs.proofs.ListFacts.{first}
use Rattle.lt_codecs.proofs.LogLaws.{values_prefix_free}
use Rattle.lt_records.specs.declared.record.LogRecord.{LogRecord}
use Rattle.lt_terms.specs.Log.{IsFound, IsValueFront, is_content, value_bytes, whole}
use Rattle.lt_terms.specs.Value.{Value}
use Rattle.lt_codecs.specs.Codec.{IsBytes}
use Rattle.lt_codecs.specs.LogCodec.{found, log_value, value}
use Rattle.lt_codecs.proofs.Codecs.{guard_none}
use Rattle.lt_codecs.proofs.FoundLaws.{found_is_there, only_found, reads_value}
use Rattle.lt_core.specs.Reading.{front}
use Rattle.lt_core.specs.declared.memory.Memory.{Memory}
use Rattle.lt_records.specs.declared.reading.fault.Stop.{Stop}
use Rattle.lt_records.specs.declared.reading.fault.Stop.TheVariants as stops
use Rattle.lt_records.specs.declared.record.Found.{Found}
use Rattle.lt_records.specs.Reading.{NoOtherValue, NothingElse, Stops, ValueRefused, refusal_of}
use Rattle.lt_records.specs.View.{view_found, view_item}

pub next_found : (bytes : List ℕ) (r : Result Found Memory) → IsBytes bytes → IfOk r (λ f. view_found f ≡ found format.One bytes) → IfOk r (λ f. IsFound format.One bytes (view_found f))
next_found bytes (Ok f) fits e = subst (IsFound format.One bytes) (sym e) (found_is_there format.One bytes fits)
next_found bytes (Err m) fits e = tt

pub next_only : (bytes : List ℕ) (r : Result Found Memory) → IsBytes bytes → IfOk r (λ f. view_found f ≡ found format.One bytes) → IfOk r (λ f. NothingElse bytes (view_found f))
next_only bytes (Ok f) fits e = λ other h. only_found format.One bytes fits other h ∙ sym e
next_only bytes (Err m) fits e = tt

-- all the bytes that are left
pub all_left : (bytes text rest : List ℕ) → front (length bytes) bytes ≡ Some (text, rest) → text ≡ bytes
all_left bytes text rest e =
    let enough : ltb (length bytes) (length bytes) ≡ false = le-ltb _ _ (omega arith) in
    let all : take (length bytes) bytes ≡ bytes = take_all (length bytes) bytes (omega arith) in
    let same = (guard_none (ltb (length bytes) (length bytes)) (take (length bytes) bytes, drop (length bytes) bytes) (text, rest) e).1 in
    sym (ap (λ (p : List ℕ × List ℕ). p.0) same) ∙ all

pub value_front : (bytes : List ℕ) (v : Value) (rest : List ℕ) → IsBytes bytes → (value 4).read bytes ≡ Some (v, rest) → IsValueFront bytes v (length bytes - length rest)
unfolding log_value
value_front bytes v rest fits e = ((reads_value bytes fits).0 v rest e).0

pub value_rest : (bytes : List ℕ) (v : Value) (rest : List ℕ) → IsBytes bytes → (value 4).read bytes ≡ Some (v, rest) → rest ≡ drop (length bytes - length rest) bytes
unfolding log_value
value_rest bytes v rest fits e = ((reads_value bytes fits).0 v rest e).1

split_at : (n : ℕ) (bytes text : List ℕ) → take n bytes ≡ text → bytes ≡ text ++ drop n bytes
split_at n bytes text e = sym (take-append-drop n bytes) ∙ ap (λ t. t ++ drop n bytes) e

pub value_only : (bytes : List ℕ) (v : Value) (n : ℕ) → IsValueFront bytes v n → NoOtherValue bytes v
value_only bytes v n h other m i = (values_prefix_free other v (drop m bytes) (drop n bytes) i.0 h.0 (sym (split_at m bytes (value_bytes other) i.2) ∙ split_at n bytes (value_bytes v) h.2)).0

pub value_refused : (bytes : List ℕ) (stop : Stop) → IsBytes bytes → Stops ((value 4).read bytes) stop → ValueRefused bytes (refusal_of stop)
unfolding log_value
value_refused bytes stops.Unlike fits e = (reads_value bytes fits).1 e
value_refused bytes stops.Memory fits e = tt

-- what is found whole has a body of the grammar
pub found_content : (bytes : List ℕ) (r : LogRecord) (n : ℕ) → IsFound format.One bytes (whole (view_item r) n) → IsTrue (is_content format.One (view_item r))
found_content bytes r n h = first (is_content format.One (view_item r)) _ h.1.lawful
