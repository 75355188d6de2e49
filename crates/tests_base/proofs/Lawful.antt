-- That the items of the tests have frames.
use Rattle.std.proofs.Common.{◌≡◌, ◌<◌, ◌^◌, ℕ, List, [], ◌∷◌, None, length, pos, refl, sym, subst}
use Rattle.std.specs.Prelude.{IsTrue}
use Rattle.lt_terms.specs.declared.Format.TheVariants as format
use Rattle.lt_terms.specs.declared.Op.TheVariants as ops
use Rattle.std.proofs.lemmas.Bool.{lt-ltb}
use Rattle.lt_terms.specs.Log.{is_content, is_header, is_log_value}
use Rattle.lt_core.specs.View.{view_value}
use Rattle.lt_core.specs.declared.key.KeyPart.TheVariants as key_part
use Rattle.lt_core.specs.declared.value.Value as code
use Rattle.lt_core.specs.declared.value.Value.TheVariants as values
use Rattle.lt_core.proofs.ViewLaws.{view_bytes, view_int}
use Rattle.lt_records.specs.declared.record.ChangeRecord.{ChangeRecord}
use Rattle.lt_records.specs.declared.record.LogRecord.TheVariants as records
use Rattle.lt_records.specs.View.{view_header, view_item}

-- an insert of 10 and a value is lawful where the value is
pub ten_and_a_value : (c : ChangeRecord) (v : code.Value) → c.ts ≡ 5 → c.table ≡ 1 → c.version ≡ 1 → c.op ≡ ops.Insert → c.key ≡ key_part.Int (pos 1) ∷ [] → c.set ≡ (1, values.Int (pos 10)) ∷ (2, v) ∷ [] → IsTrue (is_log_value (view_value v)) → IsTrue (is_content format.One (view_item (records.Change c)))
ten_and_a_value c v ts table version op key set lawful =
    let made : ChangeRecord = record { ts = 5; table = 1; version = 1; op = ops.Insert; key = key_part.Int (pos 1) ∷ []; set = (1, values.Int (pos 10)) ∷ (2, v) ∷ [] } in
    let same : c ≡ made = λ i. record { ts = ts i; table = table i; version = version i; op = op i; key = key i; set = set i } in
    let last : IsTrue (is_content format.One (view_item (records.Change made))) = rw (view_int (pos 10), lawful) refl in
    subst (λ r. IsTrue (is_content format.One (view_item (records.Change r)))) (sym same) last

-- a header of stream 0 with no bounds is lawful
pub no_bounds : (low : List ℕ) → low ≡ [] → IsTrue (is_header format.One (view_header record { stream = 0; range = record { low = low; high = None } }))
no_bounds low e = subst (λ low. IsTrue (is_header format.One (view_header record { stream = 0; range = record { low = low; high = None } }))) (sym e) refl

-- bytes are lawful where they are few enough
pub bytes_lawful : (b : List ℕ) → length b < 2 ^ 32 → IsTrue (is_log_value (view_value (values.Bytes b)))
bytes_lawful b few = subst (λ v. IsTrue (is_log_value v)) (sym (view_bytes b)) (lt-ltb _ _ few)
