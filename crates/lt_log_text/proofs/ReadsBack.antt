-- The line of an item reads back to it.
use Rattle.std.proofs.Common.{Bool, List, None, Option, Some, ap, arith, leb-true, ltb-true, map, refl, subst, sym, true, ℕ, ◌-◌, ◌<◌, ◌^◌, ◌∙◌, ◌≡◌, ◌≤◌}
use Rattle.std.specs.Prelude.{IsTrue, if◌then◌else◌, is_some, length, nat_le, nat_lt, not, option_and_then, option_map, ◌&&◌, ◌==◌, ◌||◌}
use Rattle.std.specs.List.{list_all}
use Rattle.std.specs.Option.{option_map_or}
use Rattle.std.proofs.lemmas.Bool.{and_parts, eqb-true, false≢true}
use Rattle.json.proofs.Printed.Utf8.{IsUtf8-are_ascii}
use Rattle.serde_json.specs.Data as json
use Rattle.serde_json.specs.Data.{Data, depth, items_depth}
use Rattle.serde_json.specs.Read.{max_depth}
use Rattle.lt_terms.specs.declared.Format.{Format}
use Rattle.lt_terms.specs.declared.Format.TheVariants as format
use Rattle.lt_terms.specs.declared.Op.{Op}
use Rattle.lt_terms.specs.declared.Op.TheVariants as ops
use Rattle.lt_terms.specs.Key.{max_key}
use Rattle.lt_terms.specs.Log.{Change, Header, Item, batch_item, change_item, change_key, checkpoint_item, close_item, fits_high, header_item, is_change, is_content, is_header, is_log_part, is_log_value, is_two, op_byte, same_format}
use Rattle.lt_terms.specs.Value.{Value, is_number, is_timestamp, rises_above}
use Rattle.lt_lemmas.proofs.JsonLaws.{IsPlain, text_reads, text_utf8}
use Rattle.lt_schema_json.proofs.ReadTexts.{is_read}
use Rattle.lt_tables.specs.Schema.{when}
use Rattle.lt_log_text.specs.Lines.{LineReadsBack, are_bytes, change_in, change_members, has_bytes, header_members, item_data, item_has_bytes, item_in, item_of_line, lawful, line_of, op_in, op_name, part_data, record_in, setting_data}
use Rattle.lt_log_text.proofs.Numbers.{bytes_plain, bytes_read, count_read, count_whole}
use Rattle.lt_log_text.proofs.Values.{items_list, key_plain, key_read, key_shallow, set_plain, set_read, set_shallow}

-- ---- changes

op_plain : (o : Op) → IsPlain (json.string (op_name o))
op_plain ops.Insert = IsUtf8-are_ascii _ refl
op_plain ops.Update = IsUtf8-are_ascii _ refl
op_plain ops.Delete = IsUtf8-are_ascii _ refl

op_read : (o : Op) → op_in (json.string (op_name o)) ≡ Some o
op_read ops.Insert = refl
op_read ops.Update = refl
op_read ops.Delete = refl

abbrev is_setting : ℕ × Value → Bool
is_setting s = is_number s.0 && is_log_value s.1

record ChangeParts (c : Change) : Type 0 where
  ts : c.ts < 2 ^ 63
  table : c.table < 65536
  version : c.version ≤ 256
  key : IsTrue (list_all is_log_part c.key)
  set : IsTrue (list_all is_setting c.set)

change_parts : (c : Change) → IsTrue (is_change c) → ChangeParts c
change_parts c h =
    let t1 = is_timestamp c.ts in
    let t2 = is_number c.table in
    let t3 = nat_lt 0 c.version in
    let t4 = nat_le c.version 256 in
    let t5 = nat_lt 0 (length c.key) in
    let t6 = nat_le (length c.key) 8 in
    let t7 = list_all is_log_part c.key in
    let t8 = nat_le (length (change_key c)) max_key in
    let t9 = rises_above 0 (map (λ s. s.0) c.set) in
    let t10 = list_all is_setting c.set in
    let t11 = not (op_byte c.op == 3) || length c.set == 0 in
    let a = and_parts (t1 && t2 && t3 && t4 && t5 && t6 && t7 && t8 && t9 && t10) t11 h in
    let b = and_parts (t1 && t2 && t3 && t4 && t5 && t6 && t7 && t8 && t9) t10 a.0 in
    let d = and_parts (t1 && t2 && t3 && t4 && t5 && t6 && t7 && t8) t9 b.0 in
    let e = and_parts (t1 && t2 && t3 && t4 && t5 && t6 && t7) t8 d.0 in
    let f = and_parts (t1 && t2 && t3 && t4 && t5 && t6) t7 e.0 in
    let g = and_parts (t1 && t2 && t3 && t4 && t5) t6 f.0 in
    let i = and_parts (t1 && t2 && t3 && t4) t5 g.0 in
    let j = and_parts (t1 && t2 && t3) t4 i.0 in
    let k = and_parts (t1 && t2) t3 j.0 in
    let l = and_parts t1 t2 k.0 in
    record {
      ts = ltb-true c.ts (2 ^ 63) (and_parts (nat_lt 0 c.ts) (nat_lt c.ts (2 ^ 63)) l.0).1;
      table = ltb-true c.table 65536 (and_parts (nat_lt 0 c.table) (nat_lt c.table 65536) l.1).1;
      version = leb-true c.version 256 j.1;
      key = f.1;
      set = b.1;
    }

change_read : (offset : ℕ) (c : Change) → ChangeParts c → IsTrue (list_all (λ s. has_bytes s.1) c.set) → change_in (change_members offset c) ≡ Some c
change_read offset c h k =
    rw (
      op_read c.op,
      count_read (2 ^ 63 - 1) c.ts (omega (arith, h.ts)) (omega arith),
      count_read (2 ^ 32 - 1) c.table (omega (arith, h.table)) (omega arith),
      count_read (2 ^ 32 - 1) c.version (omega (arith, h.version)) (omega arith),
      items_list (map part_data c.key),
      key_read c.key h.key,
      items_list (map setting_data c.set),
      set_read c.set h.set k,
    ) refl

change_plain : (offset : ℕ) (c : Change) → ChangeParts c → offset < 2 ^ 64 → IsTrue (list_all (λ s. has_bytes s.1) c.set) → IsPlain (json.object (change_members offset c))
change_plain offset c h small k = (
  refl,
  (
    IsUtf8-are_ascii _ refl,
    count_whole c.ts (omega (arith, h.ts)),
    (
      IsUtf8-are_ascii _ refl,
      op_plain c.op,
      (
        IsUtf8-are_ascii _ refl,
        key_plain c.key h.key,
        (
          IsUtf8-are_ascii _ refl,
          count_whole offset small,
          (
            IsUtf8-are_ascii _ refl,
            set_plain c.set h.set k,
            (
              IsUtf8-are_ascii _ refl,
              count_whole c.table (omega (arith, h.table)),
              (IsUtf8-are_ascii _ refl, count_whole c.version (omega (arith, h.version)), tt),
            ),
          ),
        ),
      ),
    ),
  ),
)

change_shallow : (offset : ℕ) (c : Change) → ChangeParts c → depth (json.object (change_members offset c)) ≤ max_depth
change_shallow offset c h = let a = key_shallow c.key in let b = set_shallow c.set h.set in omega (arith, a, b)

-- ---- headers

record HeaderParts (h : Header) : Type 0 where
  format : h.format ≡ format.One
  stream : h.stream < 2 ^ 32
  predecessor : h.predecessor ≡ None
  from : h.from ≡ 0

is_one : (f : Format) → IsTrue (same_format format.One f) → f ≡ format.One
is_one format.One h = refl
is_one format.Two h = absurd (false≢true h)

has_none : (o : Option ℕ) (n : ℕ) → IsTrue (option_map_or (λ p. is_two format.One && nat_lt p n) o true) → o ≡ None
has_none None n h = refl
has_none (Some p) n h = absurd (false≢true h)

from_zero : (o : Option ℕ) (n : ℕ) → o ≡ None → IsTrue (if is_some o then nat_lt n (2 ^ 63) else n == 0) → n ≡ 0
from_zero None n e h = eqb-true n 0 h
from_zero (Some p) n e h = absurd cc

header_parts : (h : Header) → IsTrue (is_header format.One h) → HeaderParts h
header_parts h is =
    let t1 = same_format format.One h.format in
    let t2 = nat_lt h.stream (2 ^ 32) in
    let t3 = nat_le (length h.range.low) max_key in
    let t4 = fits_high h.range.low h.range.high in
    let t5 = option_map_or (λ p. is_two format.One && nat_lt p h.stream) h.predecessor true in
    let t6 = if is_some h.predecessor then nat_lt h.from (2 ^ 63) else h.from == 0 in
    let a = and_parts (t1 && t2 && t3 && t4 && t5) t6 is in
    let b = and_parts (t1 && t2 && t3 && t4) t5 a.0 in
    let c = and_parts (t1 && t2 && t3) t4 b.0 in
    let d = and_parts (t1 && t2) t3 c.0 in
    let e = and_parts t1 t2 d.0 in
    let none = has_none h.predecessor h.stream b.1 in
    record { format = is_one h.format e.0; stream = ltb-true h.stream (2 ^ 32) e.1; predecessor = none; from = from_zero h.predecessor h.from none a.1 }

abbrev made : Format → ℕ → List ℕ → Option (List ℕ) → Option ℕ → ℕ → Header
made f stream low high p from = record { format = f; stream = stream; range = record { low = low; high = high }; predecessor = p; from = from }

header_read_by : (offset : ℕ) (stream : ℕ) (low : List ℕ) (high : Option (List ℕ)) → stream < 2 ^ 32 → IsTrue (are_bytes low) → IsTrue (option_map_or are_bytes high true)
    → record_in (header_members offset (made format.One stream low high None 0)) ≡ Some (header_item (made format.One stream low high None 0))
header_read_by offset stream low None h k l = rw (count_read (2 ^ 32 - 1) stream (omega (arith, h)) (omega arith), bytes_read low k) refl
header_read_by offset stream low (Some high) h k l = rw (count_read (2 ^ 32 - 1) stream (omega (arith, h)) (omega arith), bytes_read low k, bytes_read high l) refl

header_plain_by : (offset : ℕ) (stream : ℕ) (low : List ℕ) (high : Option (List ℕ)) → offset < 2 ^ 64 → stream < 2 ^ 32 → IsTrue (are_bytes low) → IsTrue (option_map_or are_bytes high true)
    → IsPlain (json.object (header_members offset (made format.One stream low high None 0)))
header_plain_by offset stream low None small h k l =
    (refl, (IsUtf8-are_ascii _ refl, count_whole stream (omega (arith, h)), (IsUtf8-are_ascii _ refl, bytes_plain low k, (IsUtf8-are_ascii _ refl, count_whole offset small, tt))))
header_plain_by offset stream low (Some high) small h k l =
    (refl, (IsUtf8-are_ascii _ refl, count_whole stream (omega (arith, h)), (IsUtf8-are_ascii _ refl, bytes_plain high l, (IsUtf8-are_ascii _ refl, bytes_plain low k, (IsUtf8-are_ascii _ refl, count_whole offset small, tt)))))

header_shallow_by : (offset : ℕ) (stream : ℕ) (low : List ℕ) (high : Option (List ℕ)) → depth (json.object (header_members offset (made format.One stream low high None 0))) ≤ max_depth
header_shallow_by offset stream low None = omega arith
header_shallow_by offset stream low (Some high) = omega arith

-- ---- items

record ReadsBack (offset : ℕ) (i : Item) : Type 0 where
  plain : IsPlain (item_data offset i)
  shallow : depth (item_data offset i) ≤ max_depth
  reads : item_in (item_data offset i) ≡ Some i

lawfully : (i : Item) → IsTrue (is_content format.One i) → lawful i ≡ Some i
lawfully i h = ap (λ b. when b i) h

header_back : (offset : ℕ) (f : Format) (stream : ℕ) (low : List ℕ) (high : Option (List ℕ)) (p : Option ℕ) (from : ℕ)
    → f ≡ format.One → p ≡ None → from ≡ 0 → offset < 2 ^ 64 → stream < 2 ^ 32 → IsTrue (are_bytes low) → IsTrue (option_map_or are_bytes high true)
    → IsTrue (is_content format.One (header_item (made f stream low high p from))) → ReadsBack offset (header_item (made f stream low high p from))
header_back offset format.One stream low high None from e g z small h k l is =
    let head = header_read_by offset stream low high h k l in
    let content = subst (λ n. IsTrue (is_content format.One (header_item (made format.One stream low high None n)))) z is in
    subst (λ n. ReadsBack offset (header_item (made format.One stream low high None n))) (sym z) (record {
      plain = header_plain_by offset stream low high small h k l;
      shallow = header_shallow_by offset stream low high;
      reads = ap (option_and_then lawful) head ∙ lawfully _ content;
    })
header_back offset format.Two stream low high p from e g z small h k l is = absurd cc
header_back offset format.One stream low high (Some p) from e g z small h k l is = absurd cc

reads_back : (offset : ℕ) (i : Item) → IsTrue (item_has_bytes i) → offset < 2 ^ 64 → IsTrue (is_content format.One i) → ReadsBack offset i
reads_back offset (header_item h) bytes small is =
    let p = header_parts h is in
    let b = and_parts (are_bytes h.range.low) (option_map_or are_bytes h.range.high true) bytes in
    header_back offset h.format h.stream h.range.low h.range.high h.predecessor h.from p.format p.predecessor p.from small p.stream b.0 b.1 is
reads_back offset (change_item c) bytes small is =
    let p = change_parts c is in
    record {
      plain = change_plain offset c p small bytes;
      shallow = change_shallow offset c p;
      reads = ap (λ o. option_and_then lawful (option_map change_item o)) (change_read offset c p bytes) ∙ lawfully (change_item c) is;
    }
reads_back offset (checkpoint_item t) bytes small is =
    let fits : t < 2 ^ 63 = ltb-true t (2 ^ 63) (and_parts (nat_lt 0 t) (nat_lt t (2 ^ 63)) is).1 in
    record {
      plain = (refl, (IsUtf8-are_ascii _ refl, count_whole t (omega (arith, fits)), (IsUtf8-are_ascii _ refl, count_whole offset small, tt)));
      shallow = omega arith;
      reads = ap (λ o. option_and_then lawful (option_map checkpoint_item o)) (count_read (2 ^ 63 - 1) t (omega (arith, fits)) (omega arith)) ∙ lawfully (checkpoint_item t) is;
    }
reads_back offset (batch_item t cs) bytes small is = absurd (false≢true is)
reads_back offset (close_item first count) bytes small is = absurd (false≢true is)

pub line_reads_back : LineReadsBack
unfolding line_of item_of_line
line_reads_back offset i bytes small is =
    let r = reads_back offset i bytes small is in
    ap (option_and_then item_in) (is_read _ _ (text_utf8 (item_data offset i) r.plain, text_reads (item_data offset i) r.plain r.shallow)) ∙ r.reads
