-- Codes of values and kinds, so that a type's model may hold them: each is stored as a list of tokens in front order.
use Rattle.std.specs.Prelude.{Bool, List, [], false, negsuc, pos, refl, suc, true, zero, ℕ, ℤ, ◌∷◌, ◌≡◌}
use Rattle.std.specs.Coded.{Coded, code_by, coded_list, coded_ℕ, coded_ℤ, coded×}
use Rattle.std.proofs.Common.{ap, ◌∙◌}
use Rattle.lt_terms.specs.Value.{Fields, Value, bool_value, bytes_value, field_value, int_value, no_fields, null_value, struct_value, text_value}
use Rattle.lt_terms.specs.declared.Rank.{Rank}
use Rattle.lt_terms.specs.Kind.{FieldKinds, Kind, enumeration, field_kind, no_kinds, plain, rank_number, structured}
use Rattle.lt_terms.specs.declared.Rank.TheVariants as rank

-- a tag, a number, bytes and names; most tags use few of them
abbrev pub Token : Type 0
Token = ℕ × (ℤ × (List ℕ × List (ℤ × List ℕ)))

abbrev pub coded_token : Coded Token
coded_token = coded× coded_ℕ (coded× coded_ℤ (coded× (coded_list coded_ℕ) (coded_list (coded× coded_ℤ (coded_list coded_ℕ)))))

abbrev pub token : ℕ → ℤ → List ℕ → Token
token tag z bs = (tag, (z, (bs, [])))

abbrev pub nat_in : ℤ → ℕ
nat_in (pos n) = n
nat_in (negsuc n) = 0

abbrev pub bit_in : ℤ → Bool
bit_in (pos zero) = false
bit_in (pos (suc n)) = true
bit_in (negsuc n) = true

abbrev pub bit_out : Bool → ℤ
bit_out false = pos 0
bit_out true = pos 1

-- ---- values

abbrev mutual
  pub value_tokens : Value → List Token → List Token
  value_tokens null_value ts = token 0 (pos 0) [] ∷ ts
  value_tokens (bool_value b) ts = token 1 (bit_out b) [] ∷ ts
  value_tokens (int_value z) ts = token 2 z [] ∷ ts
  value_tokens (text_value t) ts = token 3 (pos 0) t ∷ ts
  value_tokens (bytes_value b) ts = token 4 (pos 0) b ∷ ts
  value_tokens (struct_value fs) ts = token 5 (pos 0) [] ∷ field_tokens fs ts

  pub field_tokens : Fields → List Token → List Token
  field_tokens no_fields ts = token 6 (pos 0) [] ∷ ts
  field_tokens (field_value n v fs) ts = token 7 (pos n) [] ∷ value_tokens v (field_tokens fs ts)

-- reading goes from the end, with the values and fields made so far
abbrev pub Made : Type 0
Made = List Value × List Fields

abbrev pub make_struct : Made → Made
make_struct (vs, []) = (vs, [])
make_struct (vs, fs ∷ rest) = (struct_value fs ∷ vs, rest)

abbrev pub make_field : ℕ → Made → Made
make_field n ([], fs) = ([], fs)
make_field n (v ∷ vs, []) = (v ∷ vs, [])
make_field n (v ∷ vs, fs ∷ rest) = (vs, field_value n v fs ∷ rest)

abbrev pub take_token : ℕ → ℤ → List ℕ → Made → Made
take_token zero z bs m = (null_value ∷ m.0, m.1)
take_token (suc zero) z bs m = (bool_value (bit_in z) ∷ m.0, m.1)
take_token (suc (suc zero)) z bs m = (int_value z ∷ m.0, m.1)
take_token (suc (suc (suc zero))) z bs m = (text_value bs ∷ m.0, m.1)
take_token (suc (suc (suc (suc zero)))) z bs m = (bytes_value bs ∷ m.0, m.1)
take_token (suc (suc (suc (suc (suc zero))))) z bs m = make_struct m
take_token (suc (suc (suc (suc (suc (suc zero)))))) z bs m = (m.0, no_fields ∷ m.1)
take_token (suc (suc (suc (suc (suc (suc (suc n))))))) z bs m = make_field (nat_in z) m

abbrev pub made_of : List Token → Made
made_of [] = ([], [])
made_of (t ∷ ts) = take_token t.0 t.1.0 t.1.1.0 (made_of ts)

abbrev pub with_value : Value → Made → Made
with_value v m = (v ∷ m.0, m.1)

abbrev pub with_fields : Fields → Made → Made
with_fields fs m = (m.0, fs ∷ m.1)

mutual
  pub value_again : (v : Value) (ts : List Token) → made_of (value_tokens v ts) ≡ with_value v (made_of ts)
  value_again null_value ts = refl
  value_again (bool_value false) ts = refl
  value_again (bool_value true) ts = refl
  value_again (int_value z) ts = refl
  value_again (text_value t) ts = refl
  value_again (bytes_value b) ts = refl
  value_again (struct_value fs) ts = ap make_struct (fields_again fs ts)

  pub fields_again : (fs : Fields) (ts : List Token) → made_of (field_tokens fs ts) ≡ with_fields fs (made_of ts)
  fields_again no_fields ts = refl
  fields_again (field_value n v fs) ts = ap (make_field n) (value_again v (field_tokens fs ts) ∙ ap (with_value v) (fields_again fs ts))

abbrev pub first_value : List Value → Value
first_value [] = null_value
first_value (v ∷ vs) = v

abbrev pub coded_value : Coded Value
coded_value = code_by (List Token) (coded_list coded_token) (λ v. value_tokens v []) (λ ts. first_value (made_of ts).0) (λ v. ap (λ (m : Made). first_value m.0) (value_again v []))

-- ---- kinds

abbrev pub rank_numbered : ℕ → Rank
rank_numbered zero = rank.Bool
rank_numbered (suc zero) = rank.Bool
rank_numbered (suc (suc zero)) = rank.Int32
rank_numbered (suc (suc (suc zero))) = rank.Int64
rank_numbered (suc (suc (suc (suc zero)))) = rank.Text
rank_numbered (suc (suc (suc (suc (suc n))))) = rank.Bytes

abbrev mutual
  pub kind_tokens : Kind → List Token → List Token
  kind_tokens (plain r) ts = token 0 (pos (rank_number r)) [] ∷ ts
  kind_tokens (enumeration names) ts = (1, (pos 0, ([], names))) ∷ ts
  kind_tokens (structured ks) ts = token 2 (pos 0) [] ∷ field_kind_tokens ks ts

  pub field_kind_tokens : FieldKinds → List Token → List Token
  field_kind_tokens no_kinds ts = token 3 (pos 0) [] ∷ ts
  field_kind_tokens (field_kind n name k ks) ts = token 4 (pos n) name ∷ kind_tokens k (field_kind_tokens ks ts)

abbrev pub MadeKinds : Type 0
MadeKinds = List Kind × List FieldKinds

abbrev pub make_structured : MadeKinds → MadeKinds
make_structured (vs, []) = (vs, [])
make_structured (vs, ks ∷ rest) = (structured ks ∷ vs, rest)

abbrev pub make_field_kind : ℕ → List ℕ → MadeKinds → MadeKinds
make_field_kind n name ([], ks) = ([], ks)
make_field_kind n name (v ∷ vs, []) = (v ∷ vs, [])
make_field_kind n name (v ∷ vs, ks ∷ rest) = (vs, field_kind n name v ks ∷ rest)

abbrev pub take_kind_token : ℕ → ℤ → List ℕ → List (ℤ × List ℕ) → MadeKinds → MadeKinds
take_kind_token zero z bs names m = (plain (rank_numbered (nat_in z)) ∷ m.0, m.1)
take_kind_token (suc zero) z bs names m = (enumeration names ∷ m.0, m.1)
take_kind_token (suc (suc zero)) z bs names m = make_structured m
take_kind_token (suc (suc (suc zero))) z bs names m = (m.0, no_kinds ∷ m.1)
take_kind_token (suc (suc (suc (suc n)))) z bs names m = make_field_kind (nat_in z) bs m

abbrev pub kinds_made_of : List Token → MadeKinds
kinds_made_of [] = ([], [])
kinds_made_of (t ∷ ts) = take_kind_token t.0 t.1.0 t.1.1.0 t.1.1.1 (kinds_made_of ts)

abbrev pub with_kind : Kind → MadeKinds → MadeKinds
with_kind k m = (k ∷ m.0, m.1)

abbrev pub with_field_kinds : FieldKinds → MadeKinds → MadeKinds
with_field_kinds ks m = (m.0, ks ∷ m.1)

mutual
  pub kind_again : (k : Kind) (ts : List Token) → kinds_made_of (kind_tokens k ts) ≡ with_kind k (kinds_made_of ts)
  kind_again (plain rank.Bool) ts = refl
  kind_again (plain rank.Int32) ts = refl
  kind_again (plain rank.Int64) ts = refl
  kind_again (plain rank.Text) ts = refl
  kind_again (plain rank.Bytes) ts = refl
  kind_again (enumeration names) ts = refl
  kind_again (structured ks) ts = ap make_structured (field_kinds_again ks ts)

  pub field_kinds_again : (ks : FieldKinds) (ts : List Token) → kinds_made_of (field_kind_tokens ks ts) ≡ with_field_kinds ks (kinds_made_of ts)
  field_kinds_again no_kinds ts = refl
  field_kinds_again (field_kind n name k ks) ts = ap (make_field_kind n name) (kind_again k (field_kind_tokens ks ts) ∙ ap (with_kind k) (field_kinds_again ks ts))

abbrev pub first_kind : List Kind → Kind
first_kind [] = plain rank.Bool
first_kind (k ∷ ks) = k

abbrev pub coded_kind : Coded Kind
coded_kind = code_by (List Token) (coded_list coded_token) (λ k. kind_tokens k []) (λ ts. first_kind (kinds_made_of ts).0) (λ k. ap (λ (m : MadeKinds). first_kind m.0) (kind_again k []))
