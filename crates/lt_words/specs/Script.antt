-- Script lines and the commands that they spell.
use Rattle.std.specs.Prelude.{Bool, List, None, Option, Some, [], codes, decimal, false, if◌then◌else◌, is_none, is_some, length, nat_le, nat_lt, not, option_and_then, option_map, suc, true, unwrap_or, zero, ℕ, ◌&&◌, ◌-◌, ◌==◌, ◌^◌, ◌||◌, ◌∷◌}
use Rattle.serde_json.specs.Data.{Data, Items, Members}
use Rattle.serde_json.specs.Find.{as_i64, get_member}
use Rattle.serde_json.specs.Read.{read}
use Rattle.std.specs.Option.{option_map_or}
use Rattle.std.specs.Str.{is_utf8}
use Rattle.lt_terms.specs.Conversion.{digits_worth, same_bytes}
use Rattle.lt_terms.specs.Value.{rises_strictly}
use Rattle.lt_terms.specs.declared.CmpOp.{CmpOp}
use Rattle.lt_tables.specs.Schema.{when}
use Rattle.lt_tables.specs.Query.{Command, Literal, Mode, Pred, Query, all_rows, bool_literal, both, compares, do_compact, do_deltas, do_flush, do_job_begin, do_job_drop, do_job_finish, do_job_step, do_page, do_pump, do_reopen, do_retain, do_retire, do_scan, do_schema, do_split, do_status, either, int_literal, is_null, major, minor, negated, null_literal, text_literal}
use Rattle.lt_words.specs.SchemaText.{all_of, as_list, as_members, as_text, other_member}
use Rattle.serde_json.specs.Data as json
use Rattle.lt_terms.specs.declared.CmpOp.TheVariants as cmp

-- ---- lines

abbrev pub with_byte : ℕ → List (List ℕ) → List (List ℕ)
with_byte b [] = (b ∷ []) ∷ []
with_byte b (l ∷ ls) = (b ∷ l) ∷ ls

-- the pieces between the bytes that are c, empty ones too
abbrev pub pieces : ℕ → List ℕ → List (List ℕ)
pieces c [] = [] ∷ []
pieces c (b ∷ bs) = if b == c then [] ∷ pieces c bs else with_byte b (pieces c bs)

-- A script's lines. The last one need not be ended; an empty line says nothing, so where it is ended the empty piece behind it does no harm.
abbrev pub script_lines : List ℕ → List (List ℕ)
script_lines script = pieces 10 script

abbrev pub max_line : ℕ
max_line = 1048576

-- ---- words, parted by exactly one space

abbrev pub words : List ℕ → List (List ℕ)
words line = pieces 32 line

-- what stands behind the first words; none where a word is the last one or nothing stands behind it
abbrev pub behind_word : List ℕ → Option (List ℕ)
behind_word [] = None
behind_word (b ∷ bs) = if b == 32 then when (nat_lt 0 (length bs)) bs else behind_word bs

abbrev pub behind_words : ℕ → List ℕ → Option (List ℕ)
behind_words zero line = Some line
behind_words (suc n) line = option_and_then (behind_words n) (behind_word line)

-- decimal digits without a leading zero, up to a greatest number
unfoldable pub number_word : ℕ → List ℕ → Option ℕ
number_word most w = when (same_bytes (decimal (digits_worth w)) w && nat_le (digits_worth w) most) (digits_worth w)

abbrev pub small_word : List ℕ → Option ℕ
small_word w = number_word (2 ^ 32 - 1) w

abbrev pub large_word : List ℕ → Option ℕ
large_word w = number_word (2 ^ 64 - 1) w

abbrev pub count_word : List ℕ → Option ℕ
count_word w = option_and_then (λ n. when (nat_lt 0 n) n) (small_word w)

abbrev pub table_word : List ℕ → Option (List ℕ)
table_word w = when (nat_lt 0 (length w) && nat_le (length w) 64) w

-- 2 to 64 ids, rising strictly
abbrev pub id_words : List (List ℕ) → Option (List ℕ)
id_words ws = option_and_then (λ ids. when (nat_le 2 (length ids) && nat_le (length ids) 64 && rises_strictly ids) ids) (all_of large_word ws)

abbrev pub mode_words : List (List ℕ) → Option Mode
mode_words [] = None
mode_words (w ∷ ws) = if same_bytes w (codes "minor") then option_map minor (id_words ws) else (if same_bytes w (codes "major") && length ws == 0 then Some major else None)

-- ---- options

abbrev pub literal_in : Data → Option Literal
literal_in json.null = Some null_literal
literal_in (json.boolean b) = Some (bool_literal b)
literal_in (json.number n) = option_map int_literal (as_i64 n)
literal_in (json.string s) = Some (text_literal s)
literal_in (json.array ds) = None
literal_in (json.object ms) = None

abbrev pub literals_in : Data → Option (List Literal)
literals_in d = option_and_then (all_of literal_in) (as_list d)

abbrev pub op_named : List ℕ → Option CmpOp
op_named s = if same_bytes s (codes "=") then Some cmp.Eq else (if same_bytes s (codes "!=") then Some cmp.Ne
    else (if same_bytes s (codes "<") then Some cmp.Lt else (if same_bytes s (codes "<=") then Some cmp.Le
    else (if same_bytes s (codes ">") then Some cmp.Gt else (if same_bytes s (codes ">=") then Some cmp.Ge else None)))))

-- `["and",P,P]`, `["or",P,P]`, `["not",P]`, `["null",NAME]` or `[OP,NAME,LITERAL]`
abbrev mutual
  pub pred_in : Data → Option Pred
  pred_in json.null = None
  pred_in (json.boolean b) = None
  pred_in (json.number n) = None
  pred_in (json.string s) = None
  pred_in (json.object ms) = None
  pred_in (json.array ds) = pred_items ds

  pub pred_items : Items → Option Pred
  pred_items (json.item (json.string s) (json.item a json.no_items)) = if same_bytes s (codes "not") then option_map negated (pred_in a)
      else (if same_bytes s (codes "null") then option_map is_null (as_text a) else None)
  pred_items (json.item (json.string s) (json.item a (json.item b json.no_items))) = if same_bytes s (codes "and") then option_and_then (λ p. option_map (both p) (pred_in b)) (pred_in a)
      else (if same_bytes s (codes "or") then option_and_then (λ p. option_map (either p) (pred_in b)) (pred_in a)
      else option_and_then (λ op. option_and_then (λ name. option_map (compares op name) (literal_in b)) (as_text a)) (op_named s))
  pred_items ds = None

-- an option that may be left out
abbrev pub maybe : {A : Type 0} → (Data → Option A) → Option Data → Option (Option A)
maybe form None = Some None
maybe form (Some d) = option_map Some (form d)

-- at least one name
abbrev pub names_of : Data → Option (List (List ℕ))
names_of d = option_and_then (λ ns. when (nat_lt 0 (length ns)) ns) (option_and_then (all_of as_text) (as_list d))

-- the query with what the options say; `after` only where it is allowed
abbrev pub with_options : Bool → Query → Members → Option Query
with_options is_page q ms =
    if is_some (other_member (codes "columns" ∷ codes "from" ∷ codes "to" ∷ codes "if" ∷ (if is_page then codes "after" ∷ [] else [])) ms) then None
    else option_and_then (λ columns. option_and_then (λ from. option_and_then (λ to. option_and_then (λ after. option_map (λ p.
    record q { columns = columns; from = from; to = to; after = after; filter = unwrap_or p all_rows })
    (maybe pred_in (get_member (codes "if") ms))) (maybe literals_in (get_member (codes "after") ms))) (maybe literals_in (get_member (codes "to") ms)))
    (maybe literals_in (get_member (codes "from") ms))) (maybe names_of (get_member (codes "columns") ms))

abbrev pub options_in : Bool → Query → Option (List ℕ) → Option Query
options_in is_page q None = Some q
options_in is_page q (Some t) = option_and_then (with_options is_page q) (option_and_then as_members (read t))

abbrev pub plain_query : List ℕ → ℕ → ℕ → Option ℕ → Query
plain_query table version at limit = record { table = table; version = version; at = at; columns = None; from = None; to = None; after = None; limit = limit; filter = all_rows }

-- ---- commands

abbrev pub one_number : (ℕ → Command) → (List ℕ → Option ℕ) → List (List ℕ) → Option Command
one_number make form [] = None
one_number make form (w ∷ []) = option_map make (form w)
one_number make form (w ∷ v ∷ ws) = None

abbrev pub two_words : {A B : Type 0} → (A → B → Command) → (List ℕ → Option A) → (List ℕ → Option B) → List (List ℕ) → Option Command
two_words make first second [] = None
two_words make first second (v ∷ []) = None
two_words make first second (v ∷ w ∷ []) = option_and_then (λ a. option_map (make a) (second w)) (first v)
two_words make first second (v ∷ w ∷ u ∷ ws) = None

abbrev pub no_words : Command → List (List ℕ) → Option Command
no_words c [] = Some c
no_words c (w ∷ ws) = None

abbrev pub with_mode : (ℕ → Mode → Command) → List (List ℕ) → Option Command
with_mode make [] = None
with_mode make (p ∷ ws) = option_and_then (λ p. option_map (make p) (mode_words ws)) (small_word p)

abbrev pub scan_words : List (List ℕ) → Option (List ℕ) → Option Command
scan_words (t ∷ v ∷ at ∷ ws) options = option_and_then (λ t. option_and_then (λ v. option_and_then (λ at.
    if nat_lt 0 (length ws) && is_none options then None else option_map do_scan (options_in false (plain_query t v at None) options)) (large_word at)) (small_word v)) (table_word t)
scan_words ws options = None

abbrev pub page_words : List (List ℕ) → Option (List ℕ) → Option Command
page_words (t ∷ v ∷ at ∷ n ∷ ws) options = option_and_then (λ t. option_and_then (λ v. option_and_then (λ at. option_and_then (λ n.
    if nat_lt 0 (length ws) && is_none options then None else option_map do_page (options_in true (plain_query t v at (Some n)) options)) (count_word n)) (large_word at)) (small_word v)) (table_word t)
page_words ws options = None

abbrev pub job_words : List (List ℕ) → Option Command
job_words [] = None
job_words (w ∷ ws) = if same_bytes w (codes "begin") then with_mode do_job_begin ws else (if same_bytes w (codes "step") then one_number do_job_step count_word ws
    else (if same_bytes w (codes "finish") then no_words do_job_finish ws else (if same_bytes w (codes "drop") then no_words do_job_drop ws else None)))

abbrev pub split_words : List (List ℕ) → Option (List ℕ) → Option Command
split_words (t ∷ ws) text = option_and_then (λ t. option_and_then (λ x. option_map (do_split t) (option_and_then literals_in (read x))) text) (table_word t)
split_words [] text = None

-- the command of a line whose first word and the words after it these are
abbrev pub command_of_words : List ℕ → List ℕ → List (List ℕ) → Option Command
command_of_words line w ws =
    if same_bytes w (codes "schema") then option_map do_schema (behind_words 1 line)
    else (if same_bytes w (codes "retire") then two_words do_retire table_word small_word ws
    else (if same_bytes w (codes "pump") then two_words do_pump small_word count_word ws
    else (if same_bytes w (codes "flush") then one_number do_flush small_word ws
    else (if same_bytes w (codes "compact") then with_mode do_compact ws
    else (if same_bytes w (codes "job") then job_words ws
    else (if same_bytes w (codes "split") then split_words ws (behind_words 2 line)
    else (if same_bytes w (codes "retain") then one_number do_retain large_word ws
    else (if same_bytes w (codes "scan") then scan_words ws (behind_words 4 line)
    else (if same_bytes w (codes "page") then page_words ws (behind_words 5 line)
    else (if same_bytes w (codes "status") then no_words do_status ws
    else (if same_bytes w (codes "deltas") then one_number do_deltas small_word ws
    else (if same_bytes w (codes "reopen") then no_words do_reopen ws
    else None))))))))))))

abbrev pub command_in : List ℕ → List (List ℕ) → Option Command
command_in line [] = None
command_in line (w ∷ ws) = command_of_words line w ws

-- what a line is: nothing to answer, a command, or no line of the grammar
pub data Line : Type 0 where
  skipped : Line
  bad_line : Line
  spells_command : Command → Line

abbrev pub first_byte : List ℕ → Option ℕ
first_byte [] = None
first_byte (b ∷ bs) = Some b

-- A line that is too long or not UTF-8 is bad, also where it begins with `#`; an empty one and any other that begins so are skipped.
unfoldable pub line_of : List ℕ → Line
line_of line = if nat_lt max_line (length line) || not (is_utf8 line) then bad_line
    else (if option_map_or (λ b. b == 35) (first_byte line) true then skipped
    else option_map_or spells_command (command_in line (words line)) bad_line)
