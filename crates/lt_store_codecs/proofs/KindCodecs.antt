-- The codecs of kinds, columns and tables keep the laws, and what they read and spell is the store's grammar.
use Rattle.std.proofs.Common.{Bool, List, Some, [], ap, append_assoc, arith, flat_map, length, lt-ltb, ltb-true, refl, subst, suc, sym, zero, ℕ, ℤ, ◌++◌, ◌-◌, ◌<◌, ◌^◌, ◌∙◌, ◌∷◌, ◌≡◌}
use Rattle.std.specs.Prelude.{IsTrue, nat_lt, ◌&&◌}
use Rattle.std.proofs.lemmas.Bool.{and_from, and_parts}
use Rattle.std.specs.List.{AllByRecursion, list_all}
use Rattle.std.proofs.lemmas.List.Concat.{flat_map-cons}
use Rattle.lt_terms.specs.Value.{fits_32}
use Rattle.lt_terms.specs.Kind.{FieldKinds, Kind, enumeration, field_kind, field_kinds_of, no_kinds, plain, structured}
use Rattle.lt_terms.specs.declared.Rank.{Rank}
use Rattle.lt_terms.specs.declared.KeyKind.{KeyKind}
use Rattle.lt_tables.specs.Schema.{field_numbers, key_kind_byte}
use Rattle.lt_storage.specs.Store.{column_bytes, field_kind_bytes, kind_bytes, table_bytes, version_bytes}
use Rattle.lt_codecs.specs.Codec.{Codec, IsCodec, byte, bytes16, empty, i32, u16, u32}
use Rattle.lt_codecs.proofs.Codecs.{bind_some, byte_is, bytes16_is, counted_is, empty_is, i32_is, mapped_is, nothing_is, of_parts_is, on_tag_is, optional_is, retyped_again, some_is, tagged_is, then_is, u16_is, u32_is}
use Rattle.lt_codecs.proofs.ListFacts.{all_hold, all_pass}
use Rattle.lt_codecs.specs.CodecLaws.{IsAgain, IsBehind, IsTagged}
use Rattle.lt_codecs.specs.LogCodec.{flag, log_value, value}
use Rattle.lt_codecs.proofs.ValueCodecs.{flag_is, log_value_is, optional_spells}
use Rattle.lt_store_codecs.specs.StoreCodec.{as_column, as_table, catalogue, column, enum_names, field_kind_list, key_column, key_kind, key_kind_behind, kind, kind_behind, kind_field, kind_fields, kind_fits, kind_holding, kinds_fit, parts_of_column, parts_of_table, rank_behind, table, version}
use Rattle.lt_store_codecs.proofs.IndexCodecs.{rank_tagged}
use Rattle.lt_terms.specs.declared.Rank.TheVariants as ranks
use Rattle.lt_terms.specs.Log as log
use Rattle.lt_terms.specs.declared.KeyKind.TheVariants as key_kinds
use Rattle.lt_codecs.specs.Codec as codec

-- ---- kinds

enum_names_is : IsCodec enum_names
unfolding enum_names
enum_names_is = counted_is u16 (codec.◌then◌ i32 bytes16) u16_is (then_is i32 bytes16 i32_is bytes16_is)

abbrev is_named : ℤ × List ℕ → Bool
is_named n = fits_32 n.0 && nat_lt (length n.1) (2 ^ 16)

names_test : (depth : ℕ) (names : List (ℤ × List ℕ)) → enum_names.Lawful names → IsTrue (kind_fits depth (enumeration names))
unfolding enum_names u16 u32 i32 bytes16
names_test depth names h = and_from _ _ (lt-ltb (length names) (2 ^ 16) h.0) (all_pass is_named (λ n. IsTrue (fits_32 n.0) × (length n.1 < 2 ^ 16)) (λ n f. and_from _ _ f.0 (lt-ltb (length n.1) (2 ^ 16) f.1)) names h.1)

names_lawful : (depth : ℕ) (names : List (ℤ × List ℕ)) → IsTrue (kind_fits depth (enumeration names)) → enum_names.Lawful names
unfolding enum_names u16 u32 i32 bytes16
names_lawful depth names h =
    let p = and_parts (nat_lt (length names) (2 ^ 16)) (list_all is_named names) h in
    (ltb-true (length names) (2 ^ 16) p.0, all_hold is_named (λ n. IsTrue (fits_32 n.0) × (length n.1 < 2 ^ 16)) (λ n t. let q = and_parts (fits_32 n.0) (nat_lt (length n.1) (2 ^ 16)) t in (q.0, ltb-true (length n.1) (2 ^ 16) q.1)) names p.1)

names_spell : (names : List (ℤ × List ℕ)) → 6 ∷ enum_names.spell names ≡ kind_bytes (enumeration names)
unfolding enum_names u16 u32 i32 bytes16
names_spell names = refl

-- what a codec of a struct's fields says
record HoldsKinds (depth : ℕ) (fs : Codec (List (ℕ × List ℕ × Kind))) : Type 0 where
  codec : IsCodec fs
  made : (xs : List (ℕ × List ℕ × Kind)) → fs.Lawful xs → IsTrue (kind_fits depth (structured (field_kinds_of xs))) × (7 ∷ fs.spell xs ≡ kind_bytes (structured (field_kinds_of xs)))
  comes : (ks : FieldKinds) → IsTrue (kind_fits depth (structured ks)) → fs.Lawful (field_kind_list ks)

fields_again : (ks : FieldKinds) → field_kinds_of (field_kind_list ks) ≡ ks
fields_again no_kinds = refl
fields_again (field_kind n name k ks) = ap (field_kind n name k) (fields_again ks)

plain_again : (fs : Codec (List (ℕ × List ℕ × Kind))) (r : Rank) (rest : List ℕ) → IsAgain kind_bytes (kind_behind fs) (plain r) rest
plain_again fs ranks.Bool rest = record { tag = 1; text = []; small = omega arith; spells = refl; reads = refl }
plain_again fs ranks.Int32 rest = record { tag = 2; text = []; small = omega arith; spells = refl; reads = refl }
plain_again fs ranks.Int64 rest = record { tag = 3; text = []; small = omega arith; spells = refl; reads = refl }
plain_again fs ranks.Text rest = record { tag = 4; text = []; small = omega arith; spells = refl; reads = refl }
plain_again fs ranks.Bytes rest = record { tag = 5; text = []; small = omega arith; spells = refl; reads = refl }

kind_tagged : (depth : ℕ) (fs : Codec (List (ℕ × List ℕ × Kind))) → HoldsKinds depth fs → IsTagged kind_bytes (λ k. IsTrue (kind_fits depth k)) (kind_behind fs)
kind_tagged depth fs holds = record {
  takes = λ tag bytes x rest fits e.
      let P = λ (k : Kind) (r : List ℕ). IsBehind kind_bytes (λ k. IsTrue (kind_fits depth k)) tag bytes k r in
      on_tag_is 6 tag enum_names enumeration bytes _ x rest enum_names_is fits (λ y l. (sym (names_spell y), names_test depth y l))
      (on_tag_is 7 tag fs (λ xs. structured (field_kinds_of xs)) bytes _ x rest holds.codec fits (λ y l. (sym (holds.made y l).1, (holds.made y l).0))
      (λ others.
      let one = bind_some (rank_behind tag bytes) (λ r. Some (plain r.0, r.1)) (x, rest) others in
      let b = rank_tagged.takes tag bytes one.0.0 one.0.1 fits one.1 in
      let made : P (plain one.0.0) one.0.1 = record { text = b.text; spells = b.spells; taken = b.taken; lawful = refl } in
      subst (λ (z : Kind × List ℕ). P z.0 z.1) (some_is (plain one.0.0, one.0.1) (x, rest) one.2) made)) e;
  again = kind_again depth fs holds;
} where
  kind_again : (depth : ℕ) (fs : Codec (List (ℕ × List ℕ × Kind))) → HoldsKinds depth fs → (x : Kind) (rest : List ℕ) → IsTrue (kind_fits depth x) → IsAgain kind_bytes (kind_behind fs) x rest
  kind_again depth fs holds (plain r) rest h = plain_again fs r rest
  kind_again depth fs holds (enumeration names) rest h = record { tag = 6; text = enum_names.spell names; small = omega arith; spells = sym (names_spell names); reads = retyped_again enum_names enumeration names rest enum_names_is (names_lawful depth names h) }
  kind_again depth fs holds (structured ks) rest h =
      let l = holds.comes ks h in
      let again = fields_again ks in
      let spells = (holds.made (field_kind_list ks) l).1 ∙ ap (λ (ks : FieldKinds). kind_bytes (structured ks)) again in
      let reads = retyped_again fs (λ xs. structured (field_kinds_of xs)) (field_kind_list ks) rest holds.codec l ∙ ap (λ (ks : FieldKinds). Some (structured ks, rest)) again in
      record { tag = 7; text = fs.spell (field_kind_list ks); small = omega arith; spells = sym spells; reads = reads }

kind_holding_is : (depth : ℕ) (fs : Codec (List (ℕ × List ℕ × Kind))) → HoldsKinds depth fs → IsCodec (kind_holding depth fs)
kind_holding_is depth fs holds = tagged_is kind_bytes (λ k. IsTrue (kind_fits depth k)) (kind_behind fs) (kind_tagged depth fs holds)

-- ---- the fields of a struct

pub kind_field_is : (k : Codec Kind) → IsCodec k → IsCodec (kind_field k)
kind_field_is k p = mapped_is _ _ _ (λ f h. refl) (λ f h. refl) (then_is u16 _ u16_is (then_is bytes16 k bytes16_is p))

-- numbers and names that fit their bytes, and kinds of a depth
abbrev AreFields : ℕ → List (ℕ × List ℕ × Kind) → Type 0
AreFields depth xs = AllByRecursion (λ f. (f.0 < 2 ^ 16) × ((length f.1 < 2 ^ 16) × IsTrue (kind_fits depth f.2))) xs

abbrev one_field : ℕ × List ℕ × Kind → List ℕ
one_field f = log.u16 f.0 ++ (log.bytes16 f.1 ++ kind_bytes f.2)

fields_bytes : (xs : List (ℕ × List ℕ × Kind)) → field_kind_bytes (field_kinds_of xs) ≡ flat_map one_field xs
fields_bytes [] = refl
fields_bytes (f ∷ xs) =
    ap (λ (t : List ℕ). log.u16 f.0 ++ (log.bytes16 f.1 ++ (kind_bytes f.2 ++ t))) (fields_bytes xs)
    ∙ ap (λ (t : List ℕ). log.u16 f.0 ++ t) (sym (append_assoc (log.bytes16 f.1) (kind_bytes f.2) (flat_map one_field xs)))
    ∙ sym (append_assoc (log.u16 f.0) (log.bytes16 f.1 ++ kind_bytes f.2) (flat_map one_field xs))
    ∙ sym (flat_map-cons one_field f xs)

numbers_long : (xs : List (ℕ × List ℕ × Kind)) → length (field_numbers (field_kinds_of xs)) ≡ length xs
numbers_long [] = refl
numbers_long (f ∷ xs) = ap suc (numbers_long xs)

list_long : (ks : FieldKinds) → length (field_kind_list ks) ≡ length (field_numbers ks)
list_long no_kinds = refl
list_long (field_kind n name k ks) = ap suc (list_long ks)

fields_made : (depth : ℕ) (xs : List (ℕ × List ℕ × Kind)) → AreFields depth xs → IsTrue (kinds_fit depth (field_kinds_of xs))
fields_made depth [] h = refl
fields_made depth (f ∷ xs) h = and_from _ _ (and_from _ _ (and_from _ _ (lt-ltb f.0 (2 ^ 16) h.0.0) (lt-ltb (length f.1) (2 ^ 16) h.0.1.0)) h.0.1.1) (fields_made depth xs h.1)

fields_come : (depth : ℕ) (ks : FieldKinds) → IsTrue (kinds_fit depth ks) → AreFields depth (field_kind_list ks)
fields_come depth no_kinds h = tt
fields_come depth (field_kind n name k ks) h =
    let u = and_parts (nat_lt n (2 ^ 16) && nat_lt (length name) (2 ^ 16) && kind_fits depth k) (kinds_fit depth ks) h in
    let w = and_parts (nat_lt n (2 ^ 16) && nat_lt (length name) (2 ^ 16)) (kind_fits depth k) u.0 in
    let v = and_parts (nat_lt n (2 ^ 16)) (nat_lt (length name) (2 ^ 16)) w.0 in
    ((ltb-true n (2 ^ 16) v.0, (ltb-true (length name) (2 ^ 16) v.1, w.1)), fields_come depth ks u.1)

fields_hold : (depth : ℕ) (fs : Codec (List (ℕ × List ℕ × Kind))) → IsCodec (kind_holding depth fs) → HoldsKinds (suc depth) (codec.counted u16 (kind_field (kind_holding depth fs)))
unfolding u16 bytes16
fields_hold depth fs p =
    let one : suc depth - 1 ≡ depth = omega arith in
    record {
      codec = counted_is u16 (kind_field (kind_holding depth fs)) u16_is (kind_field_is (kind_holding depth fs) p);
      made = λ xs h.
          let ks = field_kinds_of xs in
          let long = numbers_long xs in
          let at : IsTrue (kinds_fit (suc depth - 1) ks) = subst (λ d. IsTrue (kinds_fit d ks)) (sym one) (fields_made depth xs h.1) in
          let few : IsTrue (nat_lt (length (field_numbers ks)) (2 ^ 16)) = lt-ltb (length (field_numbers ks)) (2 ^ 16) (omega (arith, long, h.0)) in (
            and_from _ _ (and_from _ _ (lt-ltb 0 (suc depth) (omega arith)) few) at,
            ap (λ (n : ℕ). 7 ∷ (log.u16 n ++ flat_map one_field xs)) (sym long) ∙ ap (λ (t : List ℕ). 7 ∷ (log.u16 (length (field_numbers ks)) ++ t)) (sym (fields_bytes xs)),
          );
      comes = λ ks h.
          let u = and_parts (nat_lt 0 (suc depth) && nat_lt (length (field_numbers ks)) (2 ^ 16)) (kinds_fit (suc depth - 1) ks) h in
          let few = ltb-true (length (field_numbers ks)) (2 ^ 16) (and_parts (nat_lt 0 (suc depth)) (nat_lt (length (field_numbers ks)) (2 ^ 16)) u.0).1 in
          (omega (arith, few, list_long ks), fields_come depth ks (subst (λ d. IsTrue (kinds_fit d ks)) one u.1));
    }

kinds_hold : (depth : ℕ) → HoldsKinds depth (kind_fields depth)
unfolding kind_fields
kinds_hold zero = record { codec = nothing_is; made = λ xs h. absurd h; comes = λ ks h. absurd cc }
kinds_hold (suc depth) = fields_hold depth (kind_fields depth) (kind_holding_is depth (kind_fields depth) (kinds_hold depth))

pub kind_is : (depth : ℕ) → IsCodec (kind depth)
unfolding kind
kind_is depth = kind_holding_is depth (kind_fields depth) (kinds_hold depth)

-- ---- columns, versions and tables

pub column_is : IsCodec column
unfolding column u16 bytes16 kind log_value value
column_is = of_parts_is as_column parts_of_column column_bytes _ (λ c. refl) (λ p. refl)
    (λ p h. ap (λ (t : List ℕ). log.u16 p.0 ++ (log.bytes16 p.1.0 ++ (kind_bytes p.1.1.0 ++ t))) (optional_spells log.value_bytes p.1.1.1))
    (then_is u16 _ u16_is (then_is bytes16 _ bytes16_is (then_is (kind 4) (codec.optional log_value) (kind_is 4) (optional_is log_value log_value_is))))

pub version_is : IsCodec version
unfolding version flag u16 column
version_is = of_parts_is _ _ version_bytes _ (λ r. refl) (λ p. refl) (λ p h. refl) (then_is flag (codec.counted u16 column) flag_is (counted_is u16 column u16_is column_is))

abbrev key_kind_bytes : KeyKind → List ℕ
key_kind_bytes k = key_kind_byte k ∷ []

key_kind_tagged : IsTagged key_kind_bytes (λ _. Unit {0}) key_kind_behind
key_kind_tagged = record {
  takes = λ tag bytes x rest fits e.
      on_tag_is 1 tag empty (λ _. key_kinds.Int64) bytes _ x rest empty_is fits (λ y l. (refl, tt))
      (on_tag_is 2 tag empty (λ _. key_kinds.Text) bytes _ x rest empty_is fits (λ y l. (refl, tt))
      (λ none. absurd cc)) e;
  again = λ x rest h. again_of x rest;
} where
  again_of : (x : KeyKind) (rest : List ℕ) → IsAgain key_kind_bytes key_kind_behind x rest
  again_of key_kinds.Int64 rest = record { tag = 1; text = []; small = omega arith; spells = refl; reads = refl }
  again_of key_kinds.Text rest = record { tag = 2; text = []; small = omega arith; spells = refl; reads = refl }

key_kind_is : IsCodec key_kind
unfolding key_kind
key_kind_is = tagged_is key_kind_bytes (λ _. Unit {0}) key_kind_behind key_kind_tagged

key_column_is : IsCodec key_column
unfolding key_column
key_column_is = mapped_is _ _ _ (λ k h. refl) (λ p h. refl) (then_is bytes16 key_kind bytes16_is key_kind_is)

pub table_is : IsCodec table
unfolding table u32 bytes16 u16 byte key_column key_kind version
table_is = of_parts_is as_table parts_of_table table_bytes _ (λ t. refl) (λ p. refl) (λ p h. refl)
    (then_is u32 _ u32_is (then_is bytes16 _ bytes16_is (then_is (codec.counted byte key_column) _ (counted_is byte key_column byte_is key_column_is) (counted_is u16 version u16_is version_is))))

pub catalogue_is : IsCodec catalogue
unfolding catalogue
catalogue_is = counted_is u32 table u32_is table_is
