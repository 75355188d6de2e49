-- The codecs of changes, headers and frames keep the laws, and what they read and spell is the log's grammar.
use Rattle.std.proofs.Common.{Bool, List, None, Option, Some, [], ap, arith, eqb-true, flat_map, le-leb, leb-true, length, lt-ltb, ltb-true, refl, subst, sym, ℕ, ◌%◌, ◌++◌, ◌+◌, ◌<◌, ◌^◌, ◌∙◌, ◌∷◌, ◌≡◌}
use Rattle.std.proofs.lemmas.Bool.{and_from}
use Rattle.std.specs.Prelude.{IsTrue, nat_le, nat_lt, ◌&&◌}
use Rattle.std.specs.Str.{is_utf8}
use Rattle.std.proofs.lemmas.Bool.Decides.{Decides-eqb}
use Rattle.std.specs.Option.{option_map, option_map_or}
use Rattle.lt_terms.specs.Key.{KeyPart, int_part, max_key, text_part}
use Rattle.lt_terms.specs.Log.{Change, Header, Item, batch_item, body, change_body, change_item, change_key, checkpoint_item, close_item, header_body, header_item, is_change, is_content, is_header, is_item, is_log_part, is_log_value, is_two, kind_byte, log_part, magic, max_body, op_byte, setting_bytes, spelled}
use Rattle.lt_terms.specs.declared.Op.{Op}
use Rattle.lt_terms.specs.Value.{is_number, is_timestamp}
use Rattle.lt_terms.specs.declared.Format.{Format}
use Rattle.lt_codecs.specs.Codec.{IsBytes, IsCodec, Takes, bytes16, bytes32, empty, i64, text32, u16, u32, u64, u8}
use Rattle.lt_codecs.specs.LogCodec.{ChangeParts, HeaderParts, batch, body_behind, change, change_at, change_of, change_parts, close, fit_together, header, header_of, header_parts, item, item_body, log_value, only_two, op, op_behind, origin, part, part_behind, part_count, parts, settings, table_number, timestamp, value, version_number}
use Rattle.lt_codecs.proofs.ListFacts.{all_hold, all_pass, first, second}
use Rattle.lt_codecs.specs.CodecLaws.{IsAgain, IsTagged, States}
use Rattle.lt_codecs.proofs.Codecs.{bytes16_is, counted_is, empty_is, i64_is, literal_is, on_tag_is, on_tag_takes, optional_is, retyped_again, sized_is, stated_is, tagged_is, text32_is, then_by_is, then_is, u32_is, u64_is, u8_is, where_true_is}
use Rattle.lt_codecs.proofs.ValueCodecs.{log_value_is, optional_spells, settings_of_is}
use Rattle.lt_codecs.proofs.LogTests.{batch_is, change_fits, close_first, header_is, is_change_at, is_from, is_origin, is_setting, no_origin, number_below, small_limit}
use Rattle.lt_terms.specs.declared.Op.TheVariants as ops
use Rattle.lt_terms.specs.Log as log
use Rattle.lt_terms.specs.declared.Format.TheVariants as format
use Rattle.lt_codecs.specs.Codec as codec

-- ---- changes

part_tagged : IsTagged log_part (λ p. IsTrue (is_log_part p)) part_behind
unfolding i64 u64 text32 bytes32 u32
part_tagged = record {
  takes = λ tag bytes x rest fits e.
      on_tag_is 1 tag i64 int_part bytes _ x rest i64_is fits (λ y l. (refl, l))
      (on_tag_is 2 tag text32 text_part bytes _ x rest text32_is fits (λ y l. (refl, and_from (is_utf8 y) _ l.1 (lt-ltb _ _ l.0)))
      (λ none. absurd cc)) e;
  again = part_again;
} where
  part_again : (x : KeyPart) (rest : List ℕ) → IsTrue (is_log_part x) → IsAgain log_part part_behind x rest
  part_again (int_part z) rest h = record { tag = 1; text = i64.spell z; small = omega arith; spells = refl; reads = retyped_again i64 int_part z rest i64_is h }
  part_again (text_part t) rest h = record { tag = 2; text = text32.spell t; small = omega arith; spells = refl; reads = retyped_again text32 text_part t rest text32_is (ltb-true _ _ (second (is_utf8 t) _ h), first (is_utf8 t) _ h) }

pub part_is : IsCodec part
unfolding part
part_is = tagged_is log_part (λ p. IsTrue (is_log_part p)) part_behind part_tagged

abbrev op_bytes : Op → List ℕ
op_bytes o = op_byte o ∷ []

op_tagged : IsTagged op_bytes (λ _. Unit {0}) op_behind
op_tagged = record {
  takes = λ tag bytes x rest fits e.
      on_tag_is 1 tag empty (λ _. ops.Insert) bytes _ x rest empty_is fits (λ y l. (refl, tt))
      (on_tag_is 2 tag empty (λ _. ops.Update) bytes _ x rest empty_is fits (λ y l. (refl, tt))
      (on_tag_is 3 tag empty (λ _. ops.Delete) bytes _ x rest empty_is fits (λ y l. (refl, tt))
      (λ none. absurd cc))) e;
  again = λ x rest h. op_again x rest;
} where
  op_again : (x : Op) (rest : List ℕ) → IsAgain op_bytes op_behind x rest
  op_again ops.Insert rest = record { tag = 1; text = []; small = omega arith; spells = refl; reads = refl }
  op_again ops.Update rest = record { tag = 2; text = []; small = omega arith; spells = refl; reads = refl }
  op_again ops.Delete rest = record { tag = 3; text = []; small = omega arith; spells = refl; reads = refl }

pub op_is : IsCodec op
unfolding op
op_is = tagged_is op_bytes (λ _. Unit {0}) op_behind op_tagged

pub part_count_is : IsCodec part_count
unfolding part_count
part_count_is = where_true_is (λ n. nat_lt 0 n && nat_le n 8) u8 u8_is

pub parts_is : IsCodec parts
unfolding parts
parts_is = counted_is part_count part part_count_is part_is

pub settings_is : IsCodec settings
unfolding settings
settings_is = settings_of_is log_value log_value_is

pub table_number_is : IsCodec table_number
unfolding table_number
table_number_is = where_true_is is_number u32 u32_is

pub version_number_is : IsCodec version_number
unfolding version_number
version_number_is = where_true_is (λ n. nat_lt 0 n && nat_le n 256) u32 u32_is

pub timestamp_is : IsCodec timestamp
unfolding timestamp
timestamp_is = where_true_is is_timestamp u64 u64_is

pub change_parts_is : IsCodec change_parts
unfolding change_parts
change_parts_is =
    where_true_is fit_together (codec.◌then◌ table_number (codec.◌then◌ version_number (codec.◌then◌ op (codec.◌then◌ parts settings))))
    (then_is table_number (codec.◌then◌ version_number (codec.◌then◌ op (codec.◌then◌ parts settings))) table_number_is
    (then_is version_number (codec.◌then◌ op (codec.◌then◌ parts settings)) version_number_is
    (then_is op (codec.◌then◌ parts settings) op_is (then_is parts settings parts_is settings_is))))

-- the parts of a change
abbrev parts_of : Change → ChangeParts
parts_of c = (c.table, (c.version, (c.op, (c.key, c.set))))

pub change_spells : (ts : ℕ) (p : ChangeParts) → length p.1.1.1.0 < 2 ^ 8 → change_parts.spell p ≡ change_body (change_of ts p)
unfolding change_parts table_number version_number op parts part_count settings log_value value part u8 u16 u32
change_spells ts p few =
    let key = p.1.1.1.0 in
    let set = p.1.1.1.1 in
    let count : length key % 256 ≡ length key = omega (arith, few) in
    ap (λ (n : ℕ). log.u32 p.0 ++ (log.u32 p.1.0 ++ (op_byte p.1.1.0 ∷ n ∷ (flat_map log_part key ++ (log.u16 (length set) ++ flat_map setting_bytes set))))) count

change_comes : (ts : ℕ) (c : Change) → IsTrue (is_change_at ts c) → (p : ChangeParts) × (change_of ts p ≡ c) × change_parts.Lawful p
unfolding change_parts table_number version_number op parts part_count settings log_value value part u8 u16 u32
change_comes ts c h =
    let f = change_fits c (first (is_change c) _ h) in
    let at : ts ≡ c.ts = sym (eqb-true c.ts ts (second (is_change c) _ h)) in
    let few : length c.key < 2 ^ 8 = omega (arith, leb-true (length c.key) 8 (second (nat_lt 0 (length c.key)) _ f.some_parts)) in
    let key = all_hold is_log_part (λ k. IsTrue (is_log_part k)) (λ k i. i) c.key f.parts in
    let set = all_hold is_setting (λ s. ((s.0 < 2 ^ 16) × IsTrue (is_number s.0)) × IsTrue (is_log_value s.1)) (λ s i. let n = first (is_number s.0) _ i in ((number_below s.0 n, n), second (is_number s.0) _ i)) c.set f.set in
    let apart : (change_parts.Lawful (parts_of c)) = (((f.table, f.number), ((f.version, f.versions), (tt, (((few, f.some_parts), key), ((f.few, set), f.rises))))), and_from (nat_le (length (change_key c)) max_key) _ f.short_key f.bare) in
    (parts_of c, (λ i. record { ts = at i; table = c.table; version = c.version; op = c.op; key = c.key; set = c.set }), apart)

change_made : (ts : ℕ) → IsTrue (is_timestamp ts) → (p : ChangeParts) → change_parts.Lawful p → IsTrue (is_change_at ts (change_of ts p)) × (change_parts.spell p ≡ change_body (change_of ts p))
unfolding change_parts table_number version_number op parts part_count settings log_value value part u8 u16 u32
change_made ts moment p h =
    let c = change_of ts p in
    let table = h.0.0 in
    let version = h.0.1.0 in
    let key = h.0.1.1.1.0 in
    let set = h.0.1.1.1.1 in
    let most = and_from _ _ (and_from _ _ moment table.1) (first (nat_lt 0 c.version) _ version.1) in
    let numbers = and_from _ _ most (second (nat_lt 0 c.version) _ version.1) in
    let some = and_from _ _ (and_from _ _ numbers (first (nat_lt 0 (length c.key)) _ key.0.1)) (second (nat_lt 0 (length c.key)) _ key.0.1) in
    let parts = and_from _ _ some (all_pass is_log_part (λ k. IsTrue (is_log_part k)) (λ k i. i) c.key key.1) in
    let short = and_from _ _ parts (first (nat_le (length (change_key c)) max_key) _ h.1) in
    let pass = all_pass is_setting (λ s. ((s.0 < 2 ^ 16) × IsTrue (is_number s.0)) × IsTrue (is_log_value s.1)) (λ s i. and_from (is_number s.0) _ i.0.1 i.1) c.set set.0.1 in
    let all : IsTrue (is_change c) = and_from _ _ (and_from _ _ (and_from _ _ short set.1) pass) (second (nat_le (length (change_key c)) max_key) _ h.1) in
    (and_from (is_change c) _ all ((Decides-eqb ts ts).1 refl), change_spells ts p key.0.0)

change_states : (ts : ℕ) → IsTrue (is_timestamp ts) → States (change_of ts) change_body (λ c. IsTrue (is_change_at ts c)) change_parts
change_states ts moment = record { made = change_made ts moment; comes = change_comes ts }

pub change_at_is : (ts : ℕ) → IsTrue (is_timestamp ts) → IsCodec (change_at ts)
change_at_is ts moment = stated_is (change_of ts) change_body (λ c. IsTrue (is_change_at ts c)) change_parts (change_states ts moment) change_parts_is

pub timestamp_lawful : (ts : ℕ) → timestamp.Lawful ts → IsTrue (is_timestamp ts)
unfolding timestamp
timestamp_lawful ts h = h.1

abbrev body_of_change : Change → List ℕ
body_of_change c = log.u64 c.ts ++ change_body c

abbrev at_its_time : ℕ × Change → Change
at_its_time p = p.1

change_at_time : States at_its_time body_of_change (λ c. IsTrue (is_change c)) (codec.then_by timestamp change_at)
unfolding timestamp u64
change_at_time = record {
  made = λ p h.
      let at : p.0 ≡ p.1.ts = sym (eqb-true p.1.ts p.0 (second (is_change p.1) _ h.1)) in
      (first (is_change p.1) _ h.1, ap (λ (t : ℕ). log.u64 t ++ change_body p.1) at);
  comes = λ c h.
      let f = change_fits c h in
      ((c.ts, c), refl, ((f.ts, f.moment), and_from (is_change c) _ h ((Decides-eqb c.ts c.ts).1 refl)));
}

pub change_is : IsCodec change
unfolding change u64
change_is =
    stated_is at_its_time body_of_change (λ c. IsTrue (is_change c)) (codec.then_by timestamp change_at) change_at_time
    (then_by_is timestamp change_at timestamp_is (λ ts h. change_at_is ts (timestamp_lawful ts h)))

-- ---- headers

origin_is : (f : Format) → IsCodec (origin f)
origin_is format.One = stated_is (λ _. None) (λ _. []) (λ o. o ≡ None) empty (record { made = λ y h. (refl, refl); comes = λ o h. (tt, sym h, tt) }) empty_is
origin_is format.Two = optional_is (codec.◌then◌ u32 u64) (then_is u32 u64 u32_is u64_is)

pub header_parts_is : (f : Format) → IsCodec (header_parts f)
unfolding header_parts
header_parts_is f =
    where_true_is (λ p. is_header f (header_of f p)) (codec.◌then◌ (codec.literal (magic f)) (codec.◌then◌ u32 (codec.◌then◌ bytes16 (codec.◌then◌ (codec.optional bytes16) (origin f)))))
    (then_is (codec.literal (magic f)) (codec.◌then◌ u32 (codec.◌then◌ bytes16 (codec.◌then◌ (codec.optional bytes16) (origin f)))) (literal_is (magic f))
    (then_is u32 (codec.◌then◌ bytes16 (codec.◌then◌ (codec.optional bytes16) (origin f))) u32_is
    (then_is bytes16 (codec.◌then◌ (codec.optional bytes16) (origin f)) bytes16_is
    (then_is (codec.optional bytes16) (origin f) (optional_is bytes16 bytes16_is) (origin_is f)))))

pub high_spells : (high : Option (List ℕ)) → codec.optional_spell bytes16.spell high ≡ log.optional log.bytes16 high
unfolding bytes16 u16
high_spells high = optional_spells log.bytes16 high

origin_two_spells : (o : Option (ℕ × ℕ)) → (origin format.Two).spell o ≡ log.optional (λ p. log.u32 p ++ log.u64 (option_map_or (λ o. o.1) o 0)) (option_map (λ o. o.0) o)
unfolding u32 u64
origin_two_spells None = refl
origin_two_spells (Some o) = refl

origin_spells : (f : Format) (p : HeaderParts) → (origin f).spell p.1.1.1.1 ≡ log.origin_at f (header_of f p)
origin_spells format.One p = refl
origin_spells format.Two p = origin_two_spells p.1.1.1.1

header_made : (f : Format) (p : HeaderParts) → (header_parts f).Lawful p → IsTrue (is_header f (header_of f p)) × ((header_parts f).spell p ≡ header_body (header_of f p))
unfolding header_parts bytes16 u32 u16
header_made f p h =
    let front = λ (high origin : List ℕ). magic f ++ (log.u32 p.1.0 ++ (log.bytes16 p.1.1.0 ++ (high ++ origin))) in
    (h.1, ap (λ (t : List ℕ). front t ((origin f).spell p.1.1.1.1)) (high_spells p.1.1.1.0) ∙ ap (front (log.optional log.bytes16 p.1.1.1.0)) (origin_spells f p))

-- the origin of a header, as its format says it
origin_of : Format → Option ℕ → ℕ → Option (ℕ × ℕ)
origin_of format.One o from = None
origin_of format.Two o from = option_map (λ p. (p, from)) o

record IsOrigin (f : Format) (o : Option ℕ) (from : ℕ) : Type 0 where
  predecessor : option_map (λ p. p.0) (origin_of f o from) ≡ o
  start : option_map_or (λ p. p.1) (origin_of f o from) 0 ≡ from
  lawful : (origin f).Lawful (origin_of f o from)

origin_is_of : (f : Format) (stream : ℕ) (o : Option ℕ) (from : ℕ) → stream < 2 ^ 32 → IsTrue (is_origin f stream o) → IsTrue (is_from o from) → IsOrigin f o from
unfolding origin_of u32 u64
origin_is_of format.One stream o from s h i = let n = no_origin stream o from h i in record { predecessor = sym n.0; start = sym n.1; lawful = refl }
origin_is_of format.Two stream None from s h i = record { predecessor = refl; start = sym (eqb-true from 0 i); lawful = tt }
origin_is_of format.Two stream (Some p) from s h i = record { predecessor = refl; start = refl; lawful = (omega (arith, s, ltb-true p stream h), omega (arith, ltb-true from (2 ^ 63) i)) }

header_comes : (f : Format) (h : Header) → IsTrue (is_header f h) → (p : HeaderParts) × (header_of f p ≡ h) × (header_parts f).Lawful p
unfolding header_parts bytes16 u32 u16
header_comes f h t =
    let is = header_is f h t in
    let o = origin_is_of f h.stream h.predecessor h.from is.stream is.predecessor is.from in
    let p : HeaderParts = (tt, (h.stream, (h.range.low, (h.range.high, origin_of f h.predecessor h.from)))) in
    let same : header_of f p ≡ h = λ i. record { format = is.format i; stream = h.stream; range = h.range; predecessor = o.predecessor i; from = o.start i } in
    (p, same, ((tt, (is.stream, (is.low, (is.high, o.lawful)))), subst (λ k. IsTrue (is_header f k)) (sym same) t))

pub header_of_is : (f : Format) → IsCodec (header f)
unfolding header
header_of_is f = stated_is (header_of f) header_body (λ h. IsTrue (is_header f h)) (header_parts f) (record { made = header_made f; comes = header_comes f }) (header_parts_is f)

-- ---- frames

pub batch_codec_is : IsCodec batch
unfolding batch
batch_codec_is =
    then_by_is timestamp (λ ts. codec.where_true (λ cs. nat_lt 0 (length cs)) (codec.counted u32 (change_at ts))) timestamp_is
    (λ ts h. where_true_is (λ cs. nat_lt 0 (length cs)) (codec.counted u32 (change_at ts)) (counted_is u32 (change_at ts) u32_is (change_at_is ts (timestamp_lawful ts h))))

abbrev close_fits : ℕ × ℕ → Bool
close_fits p = nat_lt 0 p.1 && nat_lt p.1 256 && nat_le (p.0 + p.1) 256

pub close_is : IsCodec close
unfolding close
close_is = where_true_is close_fits (codec.◌then◌ u32 u8) (then_is u32 u8 u32_is u8_is)

batch_lawful : (f : Format) (p : ℕ × List Change) → (only_two f batch).Lawful p → IsTrue (is_content f (batch_item p.0 p.1))
unfolding batch timestamp u32
batch_lawful f p h =
    let some = and_from _ _ (and_from (is_two f) _ h.1 h.0.0.1) h.0.1.1 in
    and_from _ _ (and_from _ _ some (lt-ltb _ _ h.0.1.0.0)) (all_pass (is_change_at p.0) (λ c. IsTrue (is_change_at p.0 c)) (λ c i. i) p.1 h.0.1.0.1)

batch_comes : (f : Format) (t : ℕ) (cs : List Change) → IsTrue (is_content f (batch_item t cs)) → (only_two f batch).Lawful (t, cs)
unfolding batch timestamp u32 u64
batch_comes f t cs h = let b = batch_is f t cs h in (((b.ts, b.moment), ((b.few, all_hold (is_change_at t) (λ c. IsTrue (is_change_at t c)) (λ c i. i) cs b.changes), b.some)), b.two)

close_lawful : (f : Format) (p : ℕ × ℕ) → (only_two f close).Lawful p → IsTrue (is_content f (close_item p.0 p.1))
unfolding close
close_lawful f p h =
    let one = nat_lt 0 p.1 && nat_lt p.1 256 in
    let some = first (nat_lt 0 p.1) _ (first one _ h.0.1) in
    let few = second (nat_lt 0 p.1) _ (first one _ h.0.1) in
    and_from (is_two f && nat_lt 0 p.1 && nat_lt p.1 256) _ (and_from (is_two f && nat_lt 0 p.1) _ (and_from (is_two f) _ h.1 some) few) (second one _ h.0.1)

close_comes : (f : Format) (n count : ℕ) → IsTrue (is_content f (close_item n count)) → (only_two f close).Lawful (n, count)
unfolding close u32 u8
close_comes f n count h =
    let a1 = is_two f && nat_lt 0 count in
    let a2 = a1 && nat_lt count 256 in
    let h2 : IsTrue a2 = first a2 _ h in
    let h1 : IsTrue a1 = first a1 _ h2 in
    let few = second a1 _ h2 in
    let fits = and_from (nat_lt 0 count && nat_lt count 256) _ (and_from (nat_lt 0 count) _ (second (is_two f) _ h1) few) (second a2 _ h) in
    (((close_first f n count h, omega (arith, ltb-true count 256 few)), fits), first (is_two f) _ h1)

close_spells : (p : ℕ × ℕ) → close.Lawful p → close.spell p ≡ body (close_item p.0 p.1)
unfolding close u32 u8
close_spells p h = let e : p.1 % 256 ≡ p.1 = omega (arith, h.0.1) in ap (λ (k : ℕ). log.u32 p.0 ++ k ∷ []) e

abbrev IsBody : Format → ℕ → Item → Type 0
IsBody f kind i = (kind_byte i ≡ kind) × IsTrue (is_content f i)

body_takes : (f : Format) (kind : ℕ) (bytes : List ℕ) (x : Item) (rest : List ℕ) → IsBytes bytes → body_behind f kind bytes ≡ Some (x, rest) → Takes bytes (body x) rest × IsBody f kind x
unfolding header change timestamp u64 batch u32
body_takes f kind bytes x rest fits e =
    let P = λ (i : Item) (r : List ℕ). Takes bytes (body i) r × IsBody f kind i in
    on_tag_takes 1 kind (header f) header_item bytes _ x rest P (header_of_is f) fits (λ y after is t l. (t, (is, l)))
    (on_tag_takes 2 kind change change_item bytes _ x rest P change_is fits (λ y after is t l. (t, (is, l)))
    (on_tag_takes 3 kind timestamp checkpoint_item bytes _ x rest P timestamp_is fits (λ y after is t l. (t, (is, l.1)))
    (on_tag_takes 4 kind (only_two f batch) (λ b. batch_item b.0 b.1) bytes _ x rest P (where_true_is (λ _. is_two f) batch batch_codec_is) fits (λ y after is t l. (t, (is, batch_lawful f y l)))
    (on_tag_takes 5 kind (only_two f close) (λ c. close_item c.0 c.1) bytes _ x rest P (where_true_is (λ _. is_two f) close close_is) fits (λ y after is t l. (subst (λ (w : List ℕ). Takes bytes w after) (close_spells y l.0) t, (is, close_lawful f y l)))
    (λ none. absurd cc))))) e

body_at_kind : (f : Format) (x : Item) (rest : List ℕ) → IsTrue (is_content f x) → body_behind f (kind_byte x) (body x ++ rest) ≡ Some (x, rest)
unfolding header change timestamp u64 batch u32
body_at_kind f (header_item h) rest l = retyped_again (header f) header_item h rest (header_of_is f) l
body_at_kind f (change_item c) rest l = retyped_again change change_item c rest change_is l
body_at_kind f (checkpoint_item t) rest l = retyped_again timestamp checkpoint_item t rest timestamp_is (omega (arith, ltb-true t (2 ^ 63) (second (nat_lt 0 t) _ l)), l)
body_at_kind f (batch_item t cs) rest l = retyped_again (only_two f batch) (λ b. batch_item b.0 b.1) (t, cs) rest (where_true_is (λ _. is_two f) batch batch_codec_is) (batch_comes f t cs l)
body_at_kind f (close_item n count) rest l =
    let lawful = close_comes f n count l in
    subst (λ (w : List ℕ). body_behind f 5 (w ++ rest) ≡ Some (close_item n count, rest)) (close_spells (n, count) lawful.0)
    (retyped_again (only_two f close) (λ c. close_item c.0 c.1) (n, count) rest (where_true_is (λ _. is_two f) close close_is) lawful)

pub item_body_is : (f : Format) (kind : ℕ) → IsCodec (item_body f kind)
unfolding item_body
item_body_is f kind = record {
  takes = body_takes f kind;
  again = λ x rest h. subst (λ (k : ℕ). body_behind f k (body x ++ rest) ≡ Some (x, rest)) h.0 (body_at_kind f x rest h.1);
}

pub small_kind : (i : Item) → kind_byte i < 256
small_kind (header_item h) = omega arith
small_kind (change_item c) = omega arith
small_kind (checkpoint_item t) = omega arith
small_kind (batch_item t cs) = omega arith
small_kind (close_item n count) = omega arith

abbrev frame_behind : Format → ℕ → List ℕ → Option (Item × List ℕ)
frame_behind f kind = (codec.sized (max_body f) (item_body f kind)).read

frame_tagged : (f : Format) → IsTagged spelled (λ i. IsTrue (is_item f i)) (frame_behind f)
unfolding spelled item_body u32
frame_tagged f = record {
  takes = λ tag bytes x rest fits e.
      let t = (sized_is (max_body f) (item_body f tag) (small_limit f) (item_body_is f tag)).takes bytes x rest fits e in
      record { text = log.bytes32 (body x); spells = ap (λ (k : ℕ). k ∷ log.bytes32 (body x)) t.1.0.0; taken = t.0; lawful = and_from (is_content f x) _ t.1.0.1 (le-leb _ _ t.1.1) };
  again = λ x rest h.
      let kind = kind_byte x in
      let lawful : (codec.sized (max_body f) (item_body f kind)).Lawful x = ((refl, first (is_content f x) _ h), leb-true _ _ (second (is_content f x) _ h)) in
      record { tag = kind; text = log.bytes32 (body x); small = small_kind x; spells = refl; reads = (sized_is (max_body f) (item_body f kind) (small_limit f) (item_body_is f kind)).again x rest lawful };
}

pub item_is : (f : Format) → IsCodec (item f)
unfolding item
item_is f = tagged_is spelled (λ i. IsTrue (is_item f i)) (frame_behind f) (frame_tagged f)
