-- Points of what is said of rows, texts, defaults, growth and successors, computed.
use Rattle.std.specs.Str.{chars, is_utf8}
use Rattle.std.specs.Fmt.{digits}
use lib.Utf8.{encode}
use Rattle.serde_json.proofs.OnLiterals.{serde_json_on_literals}
use Rattle.std.proofs.Common.{[], arith, false, inl, inr, negsuc, pos, refl, true, ◌++◌, ◌-◌, ◌^◌, ◌∷◌, ◌≡◌}
use Rattle.std.specs.Prelude.{None, Ok, Some, codes}
use Rattle.lt_terms.specs.Conversion.{at_rank, number_of_text}
use Rattle.lt_terms.specs.Log.{Header, IsValueFront, header_item, spelled}
use Rattle.lt_terms.specs.Value.{bool_value, bytes_value, field_value, int_value, no_fields, null_value, struct_value, text_value}
use Rattle.lt_terms.specs.Kind.{Kind, enumeration, field_kind, no_kinds, plain, structured}
use Rattle.lt_terms.specs.Key.{all_keys}
use Rattle.lt_world.specs.Feed.{Feed, Grows}
use Rattle.lt_tables.specs.Schema.{SchemaVersion, Table, carrier, column_fallback, fallback_in, live_version, new_table}
use Rattle.lt_tables.specs.Row.{snapshot}
use Rattle.lt_tables.specs.Fair.{FirstMissing}
use Rattle.lt_words.specs.SchemaText.{is_spellable, version_of_text, version_text}
use Rattle.lt_machine.specs.Laws.{is_struct_where, lies_within}
use Rattle.lt_examples.specs.Examples.{inserted, updated, version_one}
use Rattle.lt_terms.specs.declared.Rank.TheVariants as rank
use Rattle.lt_terms.specs.declared.Format.TheVariants as format

computes : Unit {0}
unfolding serde_json_on_literals is_utf8 chars encode digits at_rank number_of_text carrier spelled snapshot version_of_text
computes = tt

-- the list's order says nothing: the update at 8 stands before the insert at 5
in_timestamp_order : snapshot (updated ∷ inserted ∷ []) (new_table version_one) version_one.columns 9
    ≡ record { key = 0 ∷ 0 ∷ 0 ∷ 1 ∷ 128 ∷ 0 ∷ 0 ∷ 0 ∷ 0 ∷ 0 ∷ 0 ∷ 1 ∷ []; row = int_value (pos 1) ∷ int_value (pos 11) ∷ text_value (codes "x") ∷ [] } ∷ []
unfolding computes
in_timestamp_order = refl

-- a default given, none given, and a column that no version has
abbrev with_default : Table
with_default = record (new_table version_one) { versions = live_version version_one.columns ∷ live_version (version_one.columns ++ record { number = 3; name = codes "c"; kind = plain rank.Int64; fallback = Some (int_value (pos 9)) } ∷ []) ∷ [] }

default_given : column_fallback with_default 3 ≡ Some (int_value (pos 9))
default_given = refl

none_given : column_fallback with_default 2 ≡ Some null_value
none_given = refl

no_column : column_fallback with_default 4 ≡ None
no_column = refl

no_table : fallback_in (with_default ∷ []) 2 1 ≡ None
no_table = refl

-- a version with an enum, a struct and defaults can be spelled, and reads back
abbrev point_kind : Kind
point_kind = structured (field_kind 1 (codes "x") (plain rank.Int32) (field_kind 4 (codes "e") (enumeration ((negsuc 0, codes "no") ∷ (pos 1, codes "yes") ∷ [])) no_kinds))

abbrev with_struct : SchemaVersion
with_struct = record version_one {
  columns = record { number = 1; name = codes "p"; kind = point_kind; fallback = Some (struct_value (field_value 1 (int_value (pos 5)) (field_value 4 null_value no_fields))) }
      ∷ record { number = 2; name = codes "q"; kind = plain rank.Bytes; fallback = Some (bytes_value (0 ∷ 255 ∷ [])) } ∷ record { number = 3; name = codes "r"; kind = plain rank.Bool; fallback = Some null_value } ∷ [];
}

struct_spellable : is_spellable with_struct ≡ true
unfolding computes
struct_spellable = refl

struct_reads_back : version_of_text (version_text with_struct) ≡ Ok with_struct
unfolding computes
struct_reads_back = refl

default_of_another_form : is_spellable (record version_one { columns = record { number = 1; name = codes "a"; kind = plain rank.Int64; fallback = Some (bool_value true) } ∷ [] }) ≡ false
unfolding computes
default_of_another_form = refl

-- numbers within and outside a carrier
within_int32 : lies_within (int_value (negsuc (2 ^ 31 - 1))) (plain rank.Int32) ≡ true
within_int32 = refl

not_within_int32 : lies_within (int_value (pos (2 ^ 31))) (plain rank.Int32) ≡ false
not_within_int32 = refl

within_fields : lies_within (struct_value (field_value 4 (int_value (pos 7)) no_fields)) point_kind ≡ true
within_fields = refl

no_such_field : lies_within (struct_value (field_value 2 (int_value (pos 7)) no_fields)) point_kind ≡ false
no_such_field = refl

struct_where : is_struct_where point_kind (plain rank.Int32) ≡ false
struct_where = refl

-- a value stands at the front of bytes
value_front : IsValueFront (2 ∷ 0 ∷ 0 ∷ 0 ∷ 0 ∷ 0 ∷ 0 ∷ 0 ∷ 7 ∷ 9 ∷ []) (int_value (pos 7)) 9
value_front = (refl, omega arith, refl)

-- bytes are added at the end of a stream
stream_grows : Grows ((1 ∷ []) ∷ []) ((1 ∷ 2 ∷ []) ∷ [])
stream_grows = ((2 ∷ [], refl), tt)

-- Of the successors 1 and 2 of a closed stream, 1 has no high bound. It stands, and 2 is the first that does not: the tiling needs a
-- low bound that no stream has.
abbrev closed_header : Header
closed_header = record { format = format.Two; stream = 0; range = all_keys; predecessor = None; from = 0 }

abbrev whole_successor : Header
whole_successor = record { format = format.Two; stream = 1; range = all_keys; predecessor = Some 0; from = 6 }

abbrev second_successor : Header
second_successor = record { format = format.Two; stream = 2; range = all_keys; predecessor = Some 0; from = 6 }

abbrev two_successors : Feed
two_successors = [] ∷ spelled (header_item whole_successor) ∷ spelled (header_item second_successor) ∷ []

second_missing : FirstMissing two_successors closed_header 6 1 2 (Some []) 2
unfolding computes
second_missing = inr (
  whole_successor,
  ((record { number = refl; lawful = refl; rest = []; spells = refl }, refl, refl, refl, tt), refl, λ h. absurd (omega (arith, h))),
  inl (refl, λ g s. let e : None ≡ Some g.range.low = s.1 in cc),
)
