-- Worked lines and texts, computed.
use Rattle.std.specs.Str.{chars, is_utf8}
use Rattle.std.specs.Fmt.{digits}
use lib.Utf8.{encode}
use Rattle.serde_json.proofs.OnLiterals.{serde_json_on_literals}
use Rattle.std.proofs.Common.{[], false, negsuc, pos, refl, ◌∷◌, ◌≡◌}
use Rattle.std.specs.Prelude.{Err, None, Ok, Some, codes}
use Rattle.lt_terms.specs.Value.{bool_value, bytes_value, field_value, int_value, no_fields, null_value, struct_value}
use Rattle.lt_terms.specs.Kind.{enumeration, field_kind, no_kinds, plain, structured}
use Rattle.lt_tables.specs.Query.{both, compares, do_page, do_pump, do_scan, do_split, int_literal, is_null, negated, text_literal}
use Rattle.lt_tables.specs.Schema.{version_not_next}
use Rattle.lt_tables.specs.Pump.{at_unfair}
use Rattle.lt_tables.specs.Fair.{late}
use Rattle.lt_words.specs.SchemaText.{not_json, version_of_text, version_text}
use Rattle.lt_words.specs.Script.{bad_line, line_of, number_word, plain_query, skipped, spells_command}
use Rattle.lt_words.specs.Reply.{bad_schema, no_such_table, not_safe, of_version, pump_done, refusal_text, reply_text, row_text, status_told}
use Rattle.lt_examples.specs.Examples.{version_one}
use Rattle.lt_terms.specs.declared.CmpOp.TheVariants as cmp
use Rattle.lt_terms.specs.declared.Rank.TheVariants as rank

computes : Unit {0}
unfolding serde_json_on_literals is_utf8 chars encode digits number_word line_of version_of_text reply_text refusal_text row_text
computes = tt

pump_line : line_of (codes "pump 0 10") ≡ spells_command (do_pump 0 10)
unfolding computes
pump_line = refl

zero_count : line_of (codes "pump 0 0") ≡ bad_line
unfolding computes
zero_count = refl

two_spaces : line_of (codes "pump  0 1") ≡ bad_line
unfolding computes
two_spaces = refl

leading_zero : line_of (codes "pump 0 01") ≡ bad_line
unfolding computes
leading_zero = refl

comment : line_of (codes "# pump") ≡ skipped
unfolding computes
comment = refl

empty_line : line_of [] ≡ skipped
unfolding computes
empty_line = refl

scan_line : line_of (codes "scan t 1 7") ≡ spells_command (do_scan (plain_query (codes "t") 1 7 None))
unfolding computes
scan_line = refl

split_line : line_of (codes "split t [3]") ≡ spells_command (do_split (codes "t") (int_literal (pos 3) ∷ []))
unfolding computes
split_line = refl

if_line : line_of (codes "scan o 1 9 {\"if\":[\"and\",[\">\",\"total\",0],[\"not\",[\"null\",\"note\"]]]}")
    ≡ spells_command (do_scan (record (plain_query (codes "o") 1 9 None) { filter = both (compares cmp.Gt (codes "total") (int_literal (pos 0))) (negated (is_null (codes "note"))) }))
unfolding computes
if_line = refl

page_line : line_of (codes "page o 1 9 1 {\"after\":[\"eu\",1],\"columns\":[\"region\",\"id\"]}")
    ≡ spells_command (do_page (record (plain_query (codes "o") 1 9 (Some 1)) { after = Some (text_literal (codes "eu") ∷ int_literal (pos 1) ∷ []); columns = Some (codes "region" ∷ codes "id" ∷ []) }))
unfolding computes
page_line = refl

after_in_scan : line_of (codes "scan o 1 9 {\"after\":[\"eu\"]}") ≡ bad_line
unfolding computes
after_in_scan = refl

schema_read : version_of_text (codes "{\"table\":\"t\",\"number\":1,\"version\":1,\"key\":[[\"id\",\"int64\"]],\"columns\":[{\"number\":1,\"name\":\"a\",\"kind\":\"int64\"},{\"number\":2,\"name\":\"b\",\"kind\":\"text\"}]}") ≡ Ok version_one
unfolding computes
schema_read = refl

schema_written : version_text version_one ≡ codes "{\"columns\":[{\"kind\":\"int64\",\"name\":\"a\",\"number\":1},{\"kind\":\"text\",\"name\":\"b\",\"number\":2}],\"key\":[[\"id\",\"int64\"]],\"number\":1,\"table\":\"t\",\"version\":1}"
unfolding computes
schema_written = refl

schema_cut : version_of_text (codes "{") ≡ Err not_json
unfolding computes
schema_cut = refl

row_line : row_text (plain rank.Int64 ∷ enumeration ((pos 0, codes "new") ∷ (pos 1, codes "paid") ∷ []) ∷ plain rank.Bytes ∷ plain rank.Text ∷ plain rank.Bool ∷ structured (field_kind 1 (codes "x") (plain rank.Int64) no_kinds) ∷ [])
    (int_value (negsuc 0) ∷ int_value (pos 1) ∷ bytes_value (0 ∷ 255 ∷ []) ∷ null_value ∷ bool_value false ∷ struct_value (field_value 1 (int_value (pos 7)) no_fields) ∷ [])
    ≡ codes "row [-1,\"paid\",\"0x00ff\",null,false,[7]]\n"
unfolding computes
row_line = refl

refusal_line : refusal_text (not_safe 0 7) ≡ codes "refused E13 NotSafe 0 7\n"
unfolding computes
refusal_line = refl

table_line : refusal_text (no_such_table (codes "nope")) ≡ codes "refused E3 UnknownTable \"nope\"\n"
unfolding computes
table_line = refl

schema_line : refusal_text (bad_schema (of_version (version_not_next 2))) ≡ codes "refused E6 BadSchema VersionNotNext 2\n"
unfolding computes
schema_line = refl

pump_text : reply_text (pump_done 0 2 84 6 (at_unfair (late 6))) ≡ codes "ok pump 0 records 2 offset 84 checkpoint 6 stop Late 6\n"
unfolding computes
pump_text = refl

status_text : reply_text (status_told 0 (record { low = []; resume = 0; checkpoint = 0; pending = 0; deltas = 0 } ∷ []) (record { stream = 0; offset = 18; checkpoint = 0; closed = false } ∷ []) None)
    ≡ codes "minimum 0\npartition 0 low - resume 0 checkpoint 0 pending 0 deltas 0\nstream 0 offset 18 checkpoint 0\njob none\nok status\n"
unfolding computes
status_text = refl
