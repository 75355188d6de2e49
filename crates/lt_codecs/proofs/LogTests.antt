-- What the tests of log values, changes, headers and frames say.
use Rattle.std.proofs.Common.{Bool, List, None, Option, Some, [], arith, eqb-true, false, leb-true, length, ltb-true, map, refl, true, ℕ, ◌+◌, ◌<◌, ◌^◌, ◌∷◌, ◌≡◌}
use Rattle.std.specs.Prelude.{IsTrue, if◌then◌else◌, is_some, nat_le, nat_lt, not, ◌&&◌, ◌==◌, ◌||◌}
use Rattle.std.specs.List.{list_all}
use Rattle.std.proofs.lemmas.Bool.{and_from, and_parts}
use Rattle.std.specs.Option.{option_map_or}
use Rattle.lt_terms.specs.Log.{Change, Header, batch_item, bit, change_key, close_item, fits_high, is_change, is_content, is_header, is_log_part, is_log_value, is_two, max_body, op_byte, same_format}
use Rattle.lt_terms.specs.Value.{Fields, Value, are_fields, field_list, field_value, is_number, is_timestamp, is_value, no_fields, rises_above}
use Rattle.lt_terms.specs.declared.Op.{Op}
use Rattle.lt_terms.specs.Key.{below, max_key}
use Rattle.lt_terms.specs.declared.Format.{Format}
use Rattle.lt_codecs.proofs.ListFacts.{first, second}
use Rattle.lt_codecs.specs.Codec.{OptionalLawful}
use Rattle.lt_terms.specs.declared.Op.TheVariants as ops
use Rattle.lt_terms.specs.declared.Format.TheVariants as format

-- ---- values

pub bits_apart : (b c : Bool) → bit b ≡ bit c → b ≡ c
bits_apart true true e = refl
bits_apart false false e = refl
bits_apart true false e = absurd (omega (arith, e))
bits_apart false true e = absurd (omega (arith, e))

pub number_below : (n : ℕ) → IsTrue (is_number n) → n < 2 ^ 16
number_below n h = ltb-true n (2 ^ 16) (second (nat_lt 0 n) _ h)

-- what the first field of lawful fields is, and the others
pub record IsFieldOf (d low n : ℕ) (v : Value) (fs : Fields) : Type 0 where
  pub number : n < 2 ^ 16
  pub up : low < n
  pub value : IsTrue (is_value d v)
  pub others : IsTrue (are_fields d n fs)

pub field_is : (d low n : ℕ) (v : Value) (fs : Fields) → IsTrue (are_fields d low (field_value n v fs)) → IsFieldOf d low n v fs
field_is d low n v fs h =
    let p = first (is_number n && nat_lt low n && is_value d v) _ h in
    let q = first (is_number n && nat_lt low n) _ p in
    record {
      number = number_below n (first (is_number n) _ q);
      up = ltb-true low n (second (is_number n) _ q);
      value = second (is_number n && nat_lt low n) _ p;
      others = second (is_number n && nat_lt low n && is_value d v) _ h;
    }

-- rising numbers below 2^16 are fewer
pub few_fields : (d low : ℕ) (fs : Fields) → low < 2 ^ 16 → IsTrue (are_fields d low fs) → length (field_list fs) + low < 2 ^ 16
few_fields d low no_fields l h = omega (arith, l)
few_fields d low (field_value n v fs) l h =
    let f = field_is d low n v fs h in
    omega (arith, f.up, few_fields d n fs f.number f.others)

-- ---- changes

abbrev pub is_setting : ℕ × Value → Bool
is_setting s = is_number s.0 && is_log_value s.1

pub ops_apart : (o p : Op) → op_byte o ≡ op_byte p → o ≡ p
ops_apart ops.Insert ops.Insert e = refl
ops_apart ops.Update ops.Update e = refl
ops_apart ops.Delete ops.Delete e = refl
ops_apart o p e = absurd (omega (arith, e))

-- rising numbers below 2^16 are fewer
pub few_settings : (low : ℕ) (ss : List (ℕ × Value)) → low < 2 ^ 16 → IsTrue (rises_above low (map (λ s. s.0) ss)) → IsTrue (list_all is_setting ss) → length ss + low < 2 ^ 16
few_settings low [] l h i = omega (arith, l)
few_settings low (s ∷ ss) l h i =
    let up = ltb-true low s.0 (first (nat_lt low s.0) _ h) in
    let small = number_below s.0 (first (is_number s.0) _ (first (is_setting s) _ i)) in
    omega (arith, up, few_settings s.0 ss small (second (nat_lt low s.0) _ h) (second (is_setting s) _ i))

pub record Fits (c : Change) : Type 0 where
  pub moment : IsTrue (is_timestamp c.ts)
  pub ts : c.ts < 2 ^ 64
  pub number : IsTrue (is_number c.table)
  pub table : c.table < 2 ^ 32
  pub versions : IsTrue (nat_lt 0 c.version && nat_le c.version 256)
  pub version : c.version < 2 ^ 32
  pub some_parts : IsTrue (nat_lt 0 (length c.key) && nat_le (length c.key) 8)
  pub parts : IsTrue (list_all is_log_part c.key)
  pub short_key : IsTrue (nat_le (length (change_key c)) max_key)
  pub rises : IsTrue (rises_above 0 (map (λ s. s.0) c.set))
  pub few : length c.set < 2 ^ 16
  pub set : IsTrue (list_all is_setting c.set)
  pub bare : IsTrue (not (op_byte c.op == 3) || length c.set == 0)

pub change_fits : (c : Change) → IsTrue (is_change c) → Fits c
change_fits c h =
    let a1 = is_timestamp c.ts in
    let a2 = a1 && is_number c.table in
    let a3 = a2 && nat_lt 0 c.version in
    let a4 = a3 && nat_le c.version 256 in
    let a5 = a4 && nat_lt 0 (length c.key) in
    let a6 = a5 && nat_le (length c.key) 8 in
    let a7 = a6 && list_all is_log_part c.key in
    let a8 = a7 && nat_le (length (change_key c)) max_key in
    let a9 = a8 && rises_above 0 (map (λ s. s.0) c.set) in
    let a10 = a9 && list_all is_setting c.set in
    let h10 : IsTrue a10 = first a10 _ h in
    let h9 : IsTrue a9 = first a9 _ h10 in
    let h8 : IsTrue a8 = first a8 _ h9 in
    let h7 : IsTrue a7 = first a7 _ h8 in
    let h6 : IsTrue a6 = first a6 _ h7 in
    let h5 : IsTrue a5 = first a5 _ h6 in
    let h4 : IsTrue a4 = first a4 _ h5 in
    let h3 : IsTrue a3 = first a3 _ h4 in
    let h2 : IsTrue a2 = first a2 _ h3 in
    let h1 : IsTrue a1 = first a1 _ h2 in
    let number : IsTrue (is_number c.table) = second a1 _ h2 in
    let above : IsTrue (nat_lt 0 c.version) = second a2 _ h3 in
    let most : IsTrue (nat_le c.version 256) = second a3 _ h4 in
    let rises : IsTrue (rises_above 0 (map (λ s. s.0) c.set)) = second a8 _ h9 in
    let set : IsTrue (list_all is_setting c.set) = second a9 _ h10 in
    record {
      moment = h1;
      ts = omega (arith, ltb-true c.ts (2 ^ 63) (second (nat_lt 0 c.ts) _ h1));
      number = number;
      table = omega (arith, number_below c.table number);
      versions = and_from (nat_lt 0 c.version) _ above most;
      version = omega (arith, leb-true c.version 256 most);
      some_parts = and_from (nat_lt 0 (length c.key)) _ (second a4 _ h5) (second a5 _ h6);
      parts = second a6 _ h7;
      short_key = second a7 _ h8;
      rises = rises;
      few = omega (arith, few_settings 0 c.set (omega arith) rises set);
      set = set;
      bare = second a10 _ h;
    }

-- ---- headers

formats_same : (f g : Format) → IsTrue (same_format f g) → f ≡ g
formats_same format.One format.One h = refl
formats_same format.Two format.Two h = refl
formats_same format.One format.Two h = absurd cc
formats_same format.Two format.One h = absurd cc

abbrev pub IsShort : List ℕ → Type 0
IsShort bs = length bs < 2 ^ 16

abbrev pub is_from : Option ℕ → ℕ → Bool
is_from o a = if is_some o then nat_lt a (2 ^ 63) else a == 0

abbrev pub is_origin : Format → ℕ → Option ℕ → Bool
is_origin f s o = option_map_or (λ p. is_two f && nat_lt p s) o true

pub record IsHeader (f : Format) (h : Header) : Type 0 where
  pub format : f ≡ h.format
  pub stream : h.stream < 2 ^ 32
  pub low : IsShort h.range.low
  pub high : OptionalLawful IsShort h.range.high
  pub predecessor : IsTrue (is_origin f h.stream h.predecessor)
  pub from : IsTrue (is_from h.predecessor h.from)

pub high_is : (low : List ℕ) (high : Option (List ℕ)) → IsTrue (fits_high low high) → OptionalLawful IsShort high
high_is low None h = tt
high_is low (Some high) h = omega (arith, leb-true (length high) 4096 (second (below low high) _ h))

pub header_is : (f : Format) (h : Header) → IsTrue (is_header f h) → IsHeader f h
header_is f h t =
    let a1 = same_format f h.format in
    let a2 = a1 && nat_lt h.stream (2 ^ 32) in
    let a3 = a2 && nat_le (length h.range.low) max_key in
    let a4 = a3 && fits_high h.range.low h.range.high in
    let a5 = a4 && is_origin f h.stream h.predecessor in
    let h5 : IsTrue a5 = first a5 _ t in
    let h4 : IsTrue a4 = first a4 _ h5 in
    let h3 : IsTrue a3 = first a3 _ h4 in
    let h2 : IsTrue a2 = first a2 _ h3 in
    record {
      format = formats_same f h.format (first a1 _ h2);
      stream = ltb-true h.stream (2 ^ 32) (second a1 _ h2);
      low = omega (arith, leb-true (length h.range.low) 4096 (second a2 _ h3));
      high = high_is h.range.low h.range.high (second a3 _ h4);
      predecessor = second a4 _ h5;
      from = second a5 _ t;
    }

-- in format 1 there is no origin
pub no_origin : (s : ℕ) (o : Option ℕ) (a : ℕ) → IsTrue (is_origin format.One s o) → IsTrue (is_from o a) → (o ≡ None) × (a ≡ 0)
no_origin s None a h i = (refl, eqb-true a 0 i)
no_origin s (Some p) a h i = absurd cc

-- ---- frames

abbrev pub is_change_at : ℕ → Change → Bool
is_change_at t c = is_change c && c.ts == t

below_64 : (t : ℕ) → IsTrue (is_timestamp t) → t < 2 ^ 64
below_64 t h = omega (arith, ltb-true t (2 ^ 63) (second (nat_lt 0 t) _ h))

pub record IsBatch (f : Format) (t : ℕ) (cs : List Change) : Type 0 where
  pub two : IsTrue (is_two f)
  pub moment : IsTrue (is_timestamp t)
  pub ts : t < 2 ^ 64
  pub some : IsTrue (nat_lt 0 (length cs))
  pub few : length cs < 2 ^ 32
  pub changes : IsTrue (list_all (is_change_at t) cs)

pub batch_is : (f : Format) (t : ℕ) (cs : List Change) → IsTrue (is_content f (batch_item t cs)) → IsBatch f t cs
batch_is f t cs h =
    let a1 = is_two f && is_timestamp t in
    let a2 = a1 && nat_lt 0 (length cs) in
    let all = and_parts (a2 && nat_lt (length cs) (2 ^ 32)) (list_all (is_change_at t) cs) h in
    let few = and_parts a2 (nat_lt (length cs) (2 ^ 32)) all.0 in
    let some = and_parts a1 (nat_lt 0 (length cs)) few.0 in
    let two = and_parts (is_two f) (is_timestamp t) some.0 in
    record { two = two.0; moment = two.1; ts = below_64 t two.1; some = some.1; few = ltb-true (length cs) (2 ^ 32) few.1; changes = all.1 }

pub close_first : (f : Format) (n count : ℕ) → IsTrue (is_content f (close_item n count)) → n < 2 ^ 32
close_first f n count h = omega (arith, leb-true (n + count) 256 (second (is_two f && nat_lt 0 count && nat_lt count 256) _ h))

pub small_limit : (f : Format) → max_body f < 2 ^ 32
small_limit format.One = omega arith
small_limit format.Two = omega arith
