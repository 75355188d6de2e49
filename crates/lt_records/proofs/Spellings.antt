-- The spellings of values, part by part, as the writers put them.
use Rattle.std.proofs.Common.{◌≡◌, ℕ, ℤ, All, Bool, true, false, get_or, length, List, [], ◌∷◌, ◌++◌, ◌+◌, ◌-◌, ◌<◌, ◌^◌, refl, ap, subst, ◌∙◌, sym, append_assoc, arith, le-leb, leb-true, ltb-true, Option, Some, None, ◌≤◌, ◌%◌}
use Rattle.std.specs.Prelude.{IfSome, IsTrue, nat_lt}
use Rattle.std.specs.List.{AllByRecursion, list_all}
use Rattle.std.specs.Str.{is_utf8}
use Rattle.std.proofs.lemmas.List.{append-nil, length-map}
use Rattle.std.proofs.lemmas.List.Elements.{All-from_recursion}
use Rattle.lt_terms.specs.Log as log
use Rattle.lt_terms.specs.declared.Format.TheVariants as format
use Rattle.lt_terms.specs.Key.{int_part, text_part}
use Rattle.lt_terms.specs.Log.{IsFrame, bit, body, field_bytes, is_change, is_content, is_header, is_log_part, kind_byte, magic, spelled}
use Rattle.lt_terms.specs.Value.{Value, is_number, are_fields, bool_value, field_list, is_value, bytes_value, fields_of, int_value, null_value, struct_value, text_value}
use Rattle.lt_codecs.specs.Codec.{OptionalLawful, bytes16, optional, bytes32, i64, u16, u32, u64, u8}
use Rattle.lt_codecs.specs.LogCodec.{change_parts, log_value, part, settings, value}
use Rattle.lt_codecs.proofs.ItemCodecs.{change_spells, high_spells, small_kind}
use Rattle.lt_codecs.proofs.LogTests.{IsShort, change_fits, few_fields, header_is, is_setting}
use Rattle.lt_codecs.proofs.ListFacts.{first, second}
use Rattle.std.proofs.lemmas.Bool.{and_from as together}
use Rattle.lt_codecs.proofs.ValueCodecs.{fields_bytes, fields_come, list_again}
use Rattle.lt_codecs.proofs.ValueCodecs.{AreSettings as AreSpelled}
use Rattle.lt_core.specs.declared.key.KeyPart.{KeyPart}
use Rattle.lt_core.specs.View.{view_part, view_parts, view_setting, view_settings, view_value}
use Rattle.lt_core.proofs.ViewLaws.{view_bytes, view_struct, view_text}
use Rattle.lt_core.specs.declared.value.Value as code
use Rattle.lt_core.specs.declared.value.Value.TheVariants as values
use Rattle.lt_records.specs.declared.record.ChangeRecord.{ChangeRecord}
use Rattle.lt_records.specs.declared.record.LogRecord.{LogRecord}
use Rattle.lt_records.specs.declared.record.LogRecord.TheVariants as records
use Rattle.lt_records.specs.declared.record.StreamHeader.{StreamHeader}
use Rattle.lt_records.specs.View.{parts_of, view_change, view_header, view_item}
use Rattle.lt_records.specs.declared.refusal.WriteRefusal.TheVariants as refusals
use Rattle.lt_records.specs.Writing.{AreParts, AreSettings, HasSpelling, WriteRefused, body_of}

pub null_spells : log_value.spell null_value ≡ u8.spell 0
unfolding log_value value u8
null_spells = refl

pub bool_spells : (b : Bool) → log_value.spell (bool_value b) ≡ u8.spell 1 ++ u8.spell (bit b)
unfolding log_value value u8
bool_spells true = refl
bool_spells false = refl

pub int_spells : (z : ℤ) → log_value.spell (int_value z) ≡ u8.spell 2 ++ i64.spell z
unfolding log_value value u8 i64 u64
int_spells z = refl

pub text_spells : (t : List ℕ) → log_value.spell (text_value t) ≡ u8.spell 3 ++ bytes32.spell t
unfolding log_value value u8 bytes32 u32
text_spells t = refl

pub bytes_spells : (b : List ℕ) → log_value.spell (bytes_value b) ≡ u8.spell 4 ++ bytes32.spell b
unfolding log_value value u8 bytes32 u32
bytes_spells b = refl

pub struct_spells : (ss : List (ℕ × Value)) → log_value.spell (struct_value (fields_of ss)) ≡ u8.spell 5 ++ settings.spell ss
unfolding log_value value settings u8 u16
struct_spells ss =
    ap (λ (n : ℕ). 5 ∷ (log.u16 n ++ field_bytes (fields_of ss))) (ap length (list_again ss))
    ∙ ap (λ (t : List ℕ). 5 ∷ (log.u16 (length ss) ++ t)) (fields_bytes ss)

-- ---- what is written after what stood before

-- a value that is put in one piece
pub put_one : (old new x : List ℕ) (v : code.Value) (m : Value) → new ≡ old ++ x → view_value v ≡ m → log_value.spell m ≡ x → new ≡ old ++ log_value.spell (view_value v)
put_one old new x v m put is spells = put ∙ ap (λ (t : List ℕ). old ++ t) (sym (ap log_value.spell is ∙ spells))

-- what is put in two pieces
pub put_both : (old mid new x y all : List ℕ) → mid ≡ old ++ x → new ≡ mid ++ y → all ≡ x ++ y → new ≡ old ++ all
put_both old mid new x y all first then_put spells = then_put ∙ ap (λ (t : List ℕ). t ++ y) first ∙ append_assoc old x y ∙ ap (λ (t : List ℕ). old ++ t) (sym spells)

-- a value that is put in two pieces
pub put_two : (old mid new x y : List ℕ) (v : code.Value) (m : Value) → mid ≡ old ++ x → new ≡ mid ++ y → view_value v ≡ m → log_value.spell m ≡ x ++ y → new ≡ old ++ log_value.spell (view_value v)
put_two old mid new x y v m first then_put is spells = put_both old mid new x y (log_value.spell (view_value v)) first then_put (ap log_value.spell is ∙ spells)

-- ---- which values have a spelling

-- what holds of each item holds of the one at a place
pub at_place : {A : Type 0} (P : A → Type 0) (xs ys : List A) (k : ℕ) (x : A) → All P xs → ys ≡ xs → k < length ys → x ≡ get_or ys k x → P x
at_place P xs ys k x all same lt is = subst P (sym (is ∙ ap (λ zs. get_or zs k x) same)) (all k x (subst (λ zs. k < length zs) same lt))

each_spelled : (depth : ℕ) (ss : List (ℕ × code.Value)) → AreSpelled depth (view_settings ss) → AllByRecursion (λ s. HasSpelling s.1) ss
each_spelled depth [] h = tt
each_spelled depth (s ∷ ss) h = ((depth, h.0.1), each_spelled depth ss h.1)

-- what a struct holds that has a spelling
pub struct_settings : (v : code.Value) (ss : List (ℕ × code.Value)) → v ≡ values.Struct ss → HasSpelling v → AreSettings ss
struct_settings v ss is h =
    let depth = h.0 in
    let at : IsTrue (is_value depth (struct_value (fields_of (view_settings ss)))) = subst (λ m. IsTrue (is_value depth m)) (ap view_value is ∙ view_struct ss) h.1 in
    let are : IsTrue (are_fields (depth - 1) 0 (fields_of (view_settings ss))) = second (nat_lt 0 depth) _ at in
    let come = fields_come (depth - 1) 0 (fields_of (view_settings ss)) are in
    let each = subst (AreSpelled (depth - 1)) (list_again (view_settings ss)) come.0 in
    let few : length (field_list (fields_of (view_settings ss))) + 0 < 2 ^ 16 = few_fields (depth - 1) 0 (fields_of (view_settings ss)) (omega arith) are in
    let count : length (field_list (fields_of (view_settings ss))) ≡ length ss = ap length (list_again (view_settings ss)) ∙ length-map ss view_setting in
    record { few = omega (arith, few, count); spelled = All-from_recursion (λ s. HasSpelling s.1) ss (each_spelled (depth - 1) ss each) }

pub text_fits : (v : code.Value) (t : List ℕ) → v ≡ values.Text t → HasSpelling v → length t < 2 ^ 32
text_fits v t is h = ltb-true _ _ (second (is_utf8 t) _ (subst (λ m. IsTrue (is_value h.0 m)) (ap view_value is ∙ view_text t) h.1))

pub bytes_fit : (v : code.Value) (b : List ℕ) → v ≡ values.Bytes b → HasSpelling v → length b < 2 ^ 32
bytes_fit v b is h = ltb-true _ _ (subst (λ m. IsTrue (is_value h.0 m)) (ap view_value is ∙ view_bytes b) h.1)

-- ---- changes

parts_spelled : (ps : List KeyPart) → IsTrue (list_all is_log_part (view_parts ps)) → AllByRecursion (λ p. IsTrue (is_log_part (view_part p))) ps
parts_spelled [] h = tt
parts_spelled (p ∷ ps) h = (first (is_log_part (view_part p)) _ h, parts_spelled ps (second (is_log_part (view_part p)) _ h))

pub change_parts_spelled : (c : ChangeRecord) → IsTrue (is_change (view_change c)) → AreParts c.key
change_parts_spelled c h =
    let f = change_fits (view_change c) h in
    let few : length (view_parts c.key) ≤ 8 = leb-true _ _ (second (nat_lt 0 (length (view_parts c.key))) _ f.some_parts) in
    record {
      few = omega (arith, few, length-map c.key view_part);
      spelled = All-from_recursion (λ p. IsTrue (is_log_part (view_part p))) c.key (parts_spelled c.key f.parts);
    }

settings_spelled : (ss : List (ℕ × code.Value)) → IsTrue (list_all is_setting (view_settings ss)) → AllByRecursion (λ s. HasSpelling s.1) ss
settings_spelled [] h = tt
settings_spelled (s ∷ ss) h =
    let one = first (is_setting (view_setting s)) _ h in
    ((4, second (is_number s.0) _ one), settings_spelled ss (second (is_setting (view_setting s)) _ h))

pub change_settings_spelled : (c : ChangeRecord) → IsTrue (is_change (view_change c)) → AreSettings c.set
change_settings_spelled c h =
    let f = change_fits (view_change c) h in
    record {
      few = omega (arith, f.few, length-map c.set view_setting);
      spelled = All-from_recursion (λ s. HasSpelling s.1) c.set (settings_spelled c.set f.set);
    }

pub int_part_spells : (z : ℤ) → part.spell (int_part z) ≡ u8.spell 1 ++ i64.spell z
unfolding part u8 i64 u64
int_part_spells z = refl

pub text_part_spells : (t : List ℕ) → part.spell (text_part t) ≡ u8.spell 2 ++ bytes32.spell t
unfolding part u8 bytes32 u32
text_part_spells t = refl

pub text_part_fits : (t : List ℕ) → IsTrue (is_log_part (text_part t)) → length t < 2 ^ 32
text_part_fits t h = ltb-true _ _ (second (is_utf8 t) _ h)

-- ---- headers

pub short_low : (h : StreamHeader) → IsTrue (is_header format.One (view_header h)) → length h.range.low < 2 ^ 16
short_low h t = (header_is format.One (view_header h) t).low

pub short_high : (h : StreamHeader) → IsTrue (is_header format.One (view_header h)) → IfSome h.range.high (λ high. length high < 2 ^ 16)
short_high h t = some_short h.range.high (header_is format.One (view_header h) t).high
  where
    some_short : (high : Option (List ℕ)) → OptionalLawful IsShort high → IfSome high (λ high. length high < 2 ^ 16)
    some_short None l = tt
    some_short (Some high) l = l

-- ---- bodies

pub header_body_is : (h : StreamHeader) → body_of (records.Header h) ≡ magic format.One ++ (u32.spell h.stream ++ (bytes16.spell h.range.low ++ (optional bytes16).spell h.range.high))
unfolding body_of u32 bytes16 u16
header_body_is h =
    let front = λ (high : List ℕ). magic format.One ++ (log.u32 h.stream ++ (log.bytes16 h.range.low ++ high)) in
    ap front (append-nil (log.optional log.bytes16 h.range.high) ∙ sym (high_spells h.range.high))

pub change_body_is : (c : ChangeRecord) → IsTrue (is_change (view_change c)) → body_of (records.Change c) ≡ u64.spell c.ts ++ change_parts.spell (parts_of c)
unfolding body_of u64
change_body_is c h =
    let few = (change_parts_spelled c h).few in
    ap (λ (t : List ℕ). log.u64 c.ts ++ t) (sym (change_spells c.ts (parts_of c) (omega (arith, few, length-map c.key view_part))))

pub checkpoint_body_is : (t : ℕ) → body_of (records.Checkpoint t) ≡ u64.spell t
unfolding body_of u64
checkpoint_body_is t = refl

-- the length of a body that is too long
pub too_long : (r : LogRecord) (text : List ℕ) (len : ℕ) → text ≡ body_of r → len ≡ length text → 1048576 < len → WriteRefused (view_item r) (refusals.TooLong len)
unfolding body_of
too_long r text len is counts long = (subst (λ n. 1048576 < n) (counts ∙ ap length is) long, counts ∙ ap length is)

-- a kind, a length and the body are the frame
pub frame_of : (r : LogRecord) (bytes text : List ℕ) → IsTrue (is_content format.One (view_item r)) → text ≡ body_of r → length text ≤ 1048576 → bytes ≡ u8.spell (kind_byte (view_item r)) ++ bytes32.spell text → IsFrame format.One (view_item r) bytes
unfolding body_of spelled u8 bytes32 u32
frame_of r bytes text lawful is small e =
    let i = view_item r in
    let kind : kind_byte i % 256 ≡ kind_byte i = omega (arith, small_kind i) in
    record {
      lawful = together (is_content format.One i) _ lawful (le-leb _ _ (subst (λ t. length t ≤ 1048576) is small));
      spells = e ∙ ap (λ (t : List ℕ). (kind_byte i % 256) ∷ log.bytes32 t) is ∙ ap (λ (k : ℕ). k ∷ log.bytes32 (body i)) kind;
    }
