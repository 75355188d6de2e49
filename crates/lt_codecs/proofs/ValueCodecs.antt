-- The codec of values keeps the laws, and what it reads and spells is the log's grammar.
use Rattle.std.proofs.Common.{Bool, List, None, Option, Some, [], ap, append_assoc, arith, false, flat_map, length, lt-ltb, ltb-true, map, refl, subst, suc, sym, true, zero, ℕ, ◌%◌, ◌++◌, ◌-◌, ◌<◌, ◌^◌, ◌∙◌, ◌∷◌, ◌≡◌}
use Rattle.std.specs.Prelude.{IsTrue, nat_lt, ◌&&◌, ◌==◌}
use Rattle.std.proofs.lemmas.List.Concat.{flat_map-cons}
use Rattle.std.specs.Str.{is_utf8}
use Rattle.std.proofs.lemmas.Bool.{and_from}
use Rattle.std.specs.List.{AllByRecursion}
use Rattle.lt_terms.specs.Log.{bit, field_bytes, setting_bytes, value_bytes}
use Rattle.lt_terms.specs.Value.{Fields, Value, are_fields, bool_value, bytes_value, field_list, field_value, fields_of, int_value, is_number, is_value, no_fields, null_value, rises_above, struct_value, text_value}
use Rattle.lt_codecs.specs.Codec.{Codec, IsCodec, bytes32, empty, i64, text32, u16, u32, u64, u8}
use Rattle.lt_codecs.specs.LogCodec.{fields, flag, log_value, settings_of, value, value_behind, value_holding}
use Rattle.lt_codecs.specs.CodecLaws.{IsAgain, IsTagged, States}
use Rattle.lt_codecs.proofs.Codecs.{bytes32_is, counted_is, empty_is, i64_is, nothing_is, on_tag_is, retyped_again, stated_is, tagged_is, text32_is, then_is, u16_is, u8_is, where_true_is}
use Rattle.lt_codecs.proofs.ListFacts.{first, second}
use Rattle.lt_codecs.proofs.LogTests.{few_fields, field_is}
use Rattle.lt_terms.specs.Log as log
use Rattle.lt_codecs.specs.Codec as codec

-- ---- values

pub bit_again : (n : ℕ) → n < 2 → bit (n == 1) ≡ n
bit_again zero h = refl
bit_again (suc zero) h = refl
bit_again (suc (suc n)) h = absurd (omega (arith, h))

flag_comes : (b : Bool) → (n : ℕ) × ((n == 1) ≡ b) × (n < 2)
flag_comes true = (1, refl, omega arith)
flag_comes false = (0, refl, omega arith)

pub flag_is : IsCodec flag
unfolding flag u8
flag_is = stated_is (λ n. n == 1) (λ b. bit b ∷ []) (λ _. Unit {0}) (codec.where_true (λ n. nat_lt n 2) u8) states (where_true_is (λ n. nat_lt n 2) u8 u8_is)
  where
    states : States (λ n. n == 1) (λ b. bit b ∷ []) (λ _. Unit {0}) (codec.where_true (λ n. nat_lt n 2) u8)
    states = record {
      made = λ n h. let e : n % 256 ≡ bit (n == 1) = omega (arith, bit_again n (ltb-true n 2 h.1), h.0) in (tt, ap (λ (k : ℕ). k ∷ []) e);
      comes = λ b h. let c = flag_comes b in (c.0, c.1, (omega (arith, c.2), lt-ltb c.0 2 c.2));
    }

-- what a codec of a struct's fields says
pub record HoldsFields (depth : ℕ) (fs : Codec (List (ℕ × Value))) : Type 0 where
  pub made : (ss : List (ℕ × Value)) → fs.Lawful ss → IsTrue (is_value depth (struct_value (fields_of ss))) × (5 ∷ fs.spell ss ≡ value_bytes (struct_value (fields_of ss)))
  pub comes : (gs : Fields) → IsTrue (is_value depth (struct_value gs)) → fs.Lawful (field_list gs)

pub fields_again : (gs : Fields) → fields_of (field_list gs) ≡ gs
fields_again no_fields = refl
fields_again (field_value n v gs) = ap (field_value n v) (fields_again gs)

pub list_again : (ss : List (ℕ × Value)) → field_list (fields_of ss) ≡ ss
list_again [] = refl
list_again (s ∷ ss) = ap (λ (ts : List (ℕ × Value)). s ∷ ts) (list_again ss)

pub fields_bytes : (ss : List (ℕ × Value)) → field_bytes (fields_of ss) ≡ flat_map setting_bytes ss
fields_bytes [] = refl
fields_bytes (s ∷ ss) =
    ap (λ (t : List ℕ). log.u16 s.0 ++ (value_bytes s.1 ++ t)) (fields_bytes ss)
    ∙ sym (append_assoc (log.u16 s.0) (value_bytes s.1) (flat_map setting_bytes ss))
    ∙ sym (flat_map-cons setting_bytes s ss)

value_tagged : (depth : ℕ) (fs : Codec (List (ℕ × Value))) → IsCodec fs → HoldsFields depth fs → IsTagged value_bytes (λ v. IsTrue (is_value depth v)) (value_behind fs)
unfolding flag u8 i64 u64 text32 bytes32 u32
value_tagged depth fs p holds = record {
  takes = λ tag bytes x rest fits e.
      on_tag_is 0 tag empty (λ _. null_value) bytes _ x rest empty_is fits (λ y l. (refl, refl))
      (on_tag_is 1 tag flag bool_value bytes _ x rest flag_is fits (λ y l. (refl, refl))
      (on_tag_is 2 tag i64 int_value bytes _ x rest i64_is fits (λ y l. (refl, l))
      (on_tag_is 3 tag text32 text_value bytes _ x rest text32_is fits (λ y l. (refl, and_from (is_utf8 y) _ l.1 (lt-ltb _ _ l.0)))
      (on_tag_is 4 tag bytes32 bytes_value bytes _ x rest bytes32_is fits (λ y l. (refl, lt-ltb _ _ l))
      (on_tag_is 5 tag fs (λ ss. struct_value (fields_of ss)) bytes _ x rest p fits (λ y l. (sym (holds.made y l).1, (holds.made y l).0))
      (λ none. absurd cc)))))) e;
  again = λ x rest lawful. value_again depth fs p holds x rest lawful;
} where
  value_again : (depth : ℕ) (fs : Codec (List (ℕ × Value))) → IsCodec fs → HoldsFields depth fs → (x : Value) (rest : List ℕ) → IsTrue (is_value depth x) → IsAgain value_bytes (value_behind fs) x rest
  value_again depth fs p holds null_value rest h = record { tag = 0; text = []; small = omega arith; spells = refl; reads = refl }
  value_again depth fs p holds (bool_value b) rest h = record { tag = 1; text = flag.spell b; small = omega arith; spells = refl; reads = retyped_again flag bool_value b rest flag_is tt }
  value_again depth fs p holds (int_value z) rest h = record { tag = 2; text = i64.spell z; small = omega arith; spells = refl; reads = retyped_again i64 int_value z rest i64_is h }
  value_again depth fs p holds (text_value t) rest h = record { tag = 3; text = text32.spell t; small = omega arith; spells = refl; reads = retyped_again text32 text_value t rest text32_is (ltb-true _ _ (second (is_utf8 t) _ h), first (is_utf8 t) _ h) }
  value_again depth fs p holds (bytes_value b) rest h = record { tag = 4; text = bytes32.spell b; small = omega arith; spells = refl; reads = retyped_again bytes32 bytes_value b rest bytes32_is (ltb-true _ _ h) }
  value_again depth fs p holds (struct_value gs) rest h =
      let l = holds.comes gs h in
      let again = fields_again gs in
      let spells = (holds.made (field_list gs) l).1 ∙ ap (λ (fs : Fields). value_bytes (struct_value fs)) again in
      let reads = retyped_again fs (λ ss. struct_value (fields_of ss)) (field_list gs) rest p l ∙ ap (λ (fs : Fields). Some (struct_value fs, rest)) again in
      record { tag = 5; text = fs.spell (field_list gs); small = omega arith; spells = sym spells; reads = reads }

pub value_holding_is : (depth : ℕ) (fs : Codec (List (ℕ × Value))) → IsCodec fs → HoldsFields depth fs → IsCodec (value_holding depth fs)
value_holding_is depth fs p holds = tagged_is value_bytes (λ v. IsTrue (is_value depth v)) (value_behind fs) (value_tagged depth fs p holds)

-- numbers and values of a depth, one by one
abbrev pub AreSettings : ℕ → List (ℕ × Value) → Type 0
AreSettings depth ss = AllByRecursion (λ s. ((s.0 < 2 ^ 16) × IsTrue (is_number s.0)) × IsTrue (is_value depth s.1)) ss

abbrev pub rising : ℕ → List (ℕ × Value) → Bool
rising low ss = rises_above low (map (λ s. s.0) ss)

fields_made : (depth low : ℕ) (ss : List (ℕ × Value)) → AreSettings depth ss → IsTrue (rising low ss) → IsTrue (are_fields depth low (fields_of ss))
fields_made depth low [] h up = refl
fields_made depth low (s ∷ ss) h up =
    and_from (is_number s.0 && nat_lt low s.0 && is_value depth s.1) _
    (and_from (is_number s.0 && nat_lt low s.0) _ (and_from (is_number s.0) _ h.0.0.1 (first (nat_lt low s.0) _ up)) h.0.1)
    (fields_made depth s.0 ss h.1 (second (nat_lt low s.0) _ up))

pub fields_come : (depth low : ℕ) (gs : Fields) → IsTrue (are_fields depth low gs) → AreSettings depth (field_list gs) × IsTrue (rising low (field_list gs))
fields_come depth low no_fields h = (tt, refl)
fields_come depth low (field_value n v gs) h =
    let f = field_is depth low n v gs h in
    let g = fields_come depth n gs f.others in
    let number : IsTrue (is_number n) = first (is_number n) _ (first (is_number n && nat_lt low n) _ (first (is_number n && nat_lt low n && is_value depth v) _ h)) in
    ((((f.number, number), f.value), g.0), and_from (nat_lt low n) _ (lt-ltb low n f.up) g.1)

pub settings_of_is : (value : Codec Value) → IsCodec value → IsCodec (settings_of value)
settings_of_is value p =
    where_true_is (rising 0) (codec.counted u16 (codec.◌then◌ (codec.where_true is_number u16) value))
    (counted_is u16 (codec.◌then◌ (codec.where_true is_number u16) value) u16_is (then_is (codec.where_true is_number u16) value (where_true_is is_number u16 u16_is) p))

settings_hold : (depth : ℕ) (fs : Codec (List (ℕ × Value))) → HoldsFields (suc depth) (settings_of (value_holding depth fs))
unfolding u16
settings_hold depth fs =
    let one : suc depth - 1 ≡ depth = omega arith in
    record {
      made = λ ss h.
          let are : IsTrue (are_fields depth 0 (fields_of ss)) = fields_made depth 0 ss h.0.1 h.1 in
          let at : IsTrue (are_fields (suc depth - 1) 0 (fields_of ss)) = subst (λ d. IsTrue (are_fields d 0 (fields_of ss))) (sym one) are in
          let spells : 5 ∷ (log.u16 (length ss) ++ flat_map setting_bytes ss) ≡ value_bytes (struct_value (fields_of ss)) =
          ap (λ (n : ℕ). 5 ∷ (log.u16 n ++ flat_map setting_bytes ss)) (sym (ap length (list_again ss))) ∙ ap (λ (t : List ℕ). 5 ∷ (log.u16 (length (field_list (fields_of ss))) ++ t)) (sym (fields_bytes ss)) in
          (and_from (nat_lt 0 (suc depth)) _ (lt-ltb 0 (suc depth) (omega arith)) at, spells);
      comes = λ gs h.
          let at : IsTrue (are_fields (suc depth - 1) 0 gs) = second (nat_lt 0 (suc depth)) _ h in
          let are : IsTrue (are_fields depth 0 gs) = subst (λ d. IsTrue (are_fields d 0 gs)) one at in
          let c = fields_come depth 0 gs are in
          ((omega (arith, few_fields depth 0 gs (omega arith) are), c.0), c.1);
    }

fields_are : (depth : ℕ) → IsCodec (fields depth) × HoldsFields depth (fields depth)
unfolding fields
fields_are zero = (nothing_is, record { made = λ ss h. absurd h; comes = λ gs h. absurd cc })
fields_are (suc depth) = let f = fields_are depth in (settings_of_is (value_holding depth (fields depth)) (value_holding_is depth (fields depth) f.0 f.1), settings_hold depth (fields depth))

-- the two ways to say a value or none
pub optional_spells : {A : Type 0} (spell : A → List ℕ) (o : Option A) → codec.optional_spell spell o ≡ log.optional spell o
optional_spells spell None = refl
optional_spells spell (Some x) = refl

pub value_is : (depth : ℕ) → IsCodec (value depth)
unfolding value
value_is depth = let f = fields_are depth in value_holding_is depth (fields depth) f.0 f.1

pub log_value_is : IsCodec log_value
unfolding log_value
log_value_is = value_is 4
