-- Script lines: what is read of each of them.
use Rattle.std.proofs.Common.{◌≡◌, ℕ, ◌+◌, ◌<◌, ◌≤◌, Bool, true, false, List, [], ◌∷◌, ◌++◌, length, refl, sym, ap, ◌∙◌, subst, arith, ltb-true, eq-eqb, le-ltb, ltb-false, lt-ltb, ne_eqb, take_all}
use Rattle.std.specs.Prelude.{None, Option, Some, codes, cond, nat_lt, not, option_and_then, option_map, slice_get, ◌&&◌, ◌==◌, ◌||◌}
use Rattle.std.proofs.lemmas.List.{length-take-le}
use Rattle.std.specs.Option.{option_map_or}
use Rattle.std.specs.Str.{is_utf8}
use Rattle.serde_json.specs.Read.{read}
use Rattle.serde_json.proofs.OnLiterals.{serde_json_on_literals}
use Rattle.lt_tables.specs.Schema.{when}
use Rattle.lt_tables.specs.Query.{Literal}
use Rattle.lt_tables.specs.Query.{Command, do_deltas, do_flush, do_pump, do_reopen, do_retain, do_retire, do_schema, do_split, do_status}
use Rattle.lt_words.specs.Script.{bad_line, behind_words, command_in, count_word, first_byte, large_word, line_of, literals_in, max_line, no_words, skipped, small_word, spells_command, split_words, table_word, two_words, words}
use Rattle.lt_words.specs.Lines.{has_options, is_built, line_read, only_built}
use Rattle.lt_script.specs.Lines.{IsParted, NoSpace, command_read, kept_of, without_options}
use Rattle.lt_script.proofs.ReadLaws.{no_name, one_read, pair, pair_plain, two_read}
use Rattle.lt_script.proofs.WordLaws.{behind_all, behind_parted, count_one, large_one, one_piece, parted_longer, parted_words, small_one, some_pieces}

-- ---- a schema

pub schema_read : (rest : List ℕ) → command_read (codes "schema " ++ rest) ≡ option_map do_schema (when (nat_lt 0 (length rest)) rest)
schema_read rest = by (nat_lt 0 (length rest))
  where
    by : (b : Bool) → without_options (codes "schema " ++ rest) (option_map do_schema (option_and_then (behind_words 0) (cond b (Some rest) None))) ≡ option_map do_schema (cond b (Some rest) None)
    by true = refl
    by false = refl

-- ---- one word and two

pub flush_read : (rest : List ℕ) → command_read (codes "flush " ++ rest) ≡ option_map do_flush (small_word rest)
flush_read rest = one_read (codes "flush " ++ rest) do_flush small_word small_one (λ n. refl) rest

pub retain_read : (rest : List ℕ) → command_read (codes "retain " ++ rest) ≡ option_map do_retain (large_word rest)
retain_read rest = one_read (codes "retain " ++ rest) do_retain large_word large_one (λ n. refl) rest

pub deltas_read : (rest : List ℕ) → command_read (codes "deltas " ++ rest) ≡ option_map do_deltas (small_word rest)
deltas_read rest = one_read (codes "deltas " ++ rest) do_deltas small_word small_one (λ n. refl) rest

pub retire_read : (rest table version : List ℕ) → IsParted rest table version → command_read (codes "retire " ++ rest) ≡ pair do_retire (table_word table) (small_word version)
retire_read rest table version p = two_read (codes "retire " ++ rest) do_retire table_word small_word small_one (λ t v. refl) rest table version p

pub retire_whole : (rest : List ℕ) → NoSpace rest → command_read (codes "retire " ++ rest) ≡ None
retire_whole rest h = ap (λ ws. without_options (codes "retire " ++ rest) (two_words do_retire table_word small_word ws)) (one_piece rest h)

pub pump_read : (rest stream count : List ℕ) → IsParted rest stream count → command_read (codes "pump " ++ rest) ≡ pair do_pump (small_word stream) (count_word count)
pump_read rest stream count p = two_read (codes "pump " ++ rest) do_pump small_word count_word count_one (λ s n. refl) rest stream count p

pub pump_whole : (rest : List ℕ) → NoSpace rest → command_read (codes "pump " ++ rest) ≡ None
pump_whole rest h = ap (λ ws. without_options (codes "pump " ++ rest) (two_words do_pump small_word count_word ws)) (one_piece rest h)

-- ---- a split

abbrev pub key_read : List ℕ → Option (List Literal)
key_read text = option_and_then literals_in (read text)

no_text : key_read [] ≡ None
unfolding serde_json_on_literals
no_text = refl

-- by the text, where there is one
abbrev split_of : Option (List ℕ) → Option (List ℕ) → Option Command
split_of table text = option_and_then (λ t. option_and_then (λ x. option_map (do_split t) (key_read x)) text) table

split_by : (table : Option (List ℕ)) (text : List ℕ) (b : Bool) → nat_lt 0 (length text) ≡ b → split_of table (when b text) ≡ pair do_split table (key_read text)
split_by None text b e = refl
split_by (Some t) text true e = refl
split_by (Some t) [] false e = ap (option_map (do_split t)) (sym no_text)
split_by (Some t) (x ∷ text) false e = absurd (omega (arith, ltb-false 0 (length (x ∷ text)) e))

-- the text stands behind the second word
text_behind : (rest table text : List ℕ) → IsParted rest table text → behind_words 2 (codes "split " ++ rest) ≡ when (nat_lt 0 (length text)) text
text_behind rest table text p =
    ap (λ b. option_and_then (behind_words 1) (when b rest)) (lt-ltb 0 (length rest) (parted_longer rest table text p))
    ∙ ap (option_and_then (behind_words 0)) (behind_parted rest table text p) ∙ same (nat_lt 0 (length text))
  where
    same : (b : Bool) → option_and_then (behind_words 0) (when b text) ≡ when b text
    same true = refl
    same false = refl

pub split_read : (rest table text : List ℕ) → IsParted rest table text → command_read (codes "split " ++ rest) ≡ pair do_split (table_word table) (key_read text)
split_read rest table text p =
    ap (λ ws. without_options (codes "split " ++ rest) (split_words ws (behind_words 2 (codes "split " ++ rest)))) (parted_words rest table text p)
    ∙ ap (λ o. without_options (codes "split " ++ rest) (split_of (table_word table) o)) (text_behind rest table text p)
    ∙ ap (without_options (codes "split " ++ rest)) (split_by (table_word table) text (nat_lt 0 (length text)) refl)
    ∙ pair_plain (codes "split " ++ rest) do_split (λ t k. refl) (table_word table) (key_read text)

pub split_whole : (rest : List ℕ) → NoSpace rest → command_read (codes "split " ++ rest) ≡ None
split_whole rest h =
    let all : words (codes "split " ++ rest) ≡ codes "split" ∷ rest ∷ [] = ap (λ ws. codes "split" ∷ ws) (one_piece rest h) in
    let none : behind_words 2 (codes "split " ++ rest) ≡ None = behind_all 2 (codes "split " ++ rest) (subst (λ ws. length ws ≤ 2) (sym all) (omega arith)) in
    ap (λ ws. without_options (codes "split " ++ rest) (split_words ws (behind_words 2 (codes "split " ++ rest)))) (one_piece rest h)
    ∙ ap (λ o. without_options (codes "split " ++ rest) (split_of (table_word rest) o)) none ∙ nothing (table_word rest)
  where
    nothing : (t : Option (List ℕ)) → without_options (codes "split " ++ rest) (split_of t None) ≡ None
    nothing None = refl
    nothing (Some t) = refl

-- ---- any other line

pub whole_read : (line : List ℕ) → NoSpace line → (line ≡ codes "status" → ⊥) → (line ≡ codes "reopen" → ⊥) → command_read line ≡ None
whole_read line h status reopen =
    let ws : words line ≡ line ∷ [] = one_piece line h in
    let none : behind_words 1 line ≡ None = behind_all 1 line (subst (λ ws. length ws ≤ 1) (sym ws) (omega arith)) in
    ap (λ ws. without_options line (command_in line ws)) ws
    ∙ ap (without_options line) (
    no_name line (codes "schema") _ _ (λ e. ap (option_map do_schema) none)
    (no_name line (codes "retire") _ _ (λ e. refl)
    (no_name line (codes "pump") _ _ (λ e. refl)
    (no_name line (codes "flush") _ _ (λ e. refl)
    (no_name line (codes "compact") _ _ (λ e. refl)
    (no_name line (codes "job") _ _ (λ e. refl)
    (no_name line (codes "split") _ _ (λ e. refl)
    (no_name line (codes "retain") _ _ (λ e. refl)
    (no_name line (codes "scan") _ _ (λ e. refl)
    (no_name line (codes "page") _ _ (λ e. refl)
    (no_name line (codes "status") _ _ (λ e. absurd (status e))
    (no_name line (codes "deltas") _ _ (λ e. refl)
    (no_name line (codes "reopen") _ _ (λ e. absurd (reopen e)) refl)))))))))))))

-- a command of one word, with a word behind it
word_behind : (c : Command) (ws : List (List ℕ)) → 0 < length ws → no_words c ws ≡ None
word_behind c [] some = absurd (omega (arith, some))
word_behind c (w ∷ ws) some = refl

-- the first word is none that has others behind it
pub record IsUnknown (first : List ℕ) : Type 0 where
  pub schema : first ≡ codes "schema" → ⊥
  pub retire : first ≡ codes "retire" → ⊥
  pub pump : first ≡ codes "pump" → ⊥
  pub flush : first ≡ codes "flush" → ⊥
  pub compact : first ≡ codes "compact" → ⊥
  pub job : first ≡ codes "job" → ⊥
  pub split : first ≡ codes "split" → ⊥
  pub retain : first ≡ codes "retain" → ⊥
  pub scan : first ≡ codes "scan" → ⊥
  pub page : first ≡ codes "page" → ⊥
  pub deltas : first ≡ codes "deltas" → ⊥

pub other_read : (line first rest : List ℕ) → IsParted line first rest → IsUnknown first → command_read line ≡ None
other_read line first rest p other =
    let some = some_pieces rest in
    ap (λ ws. without_options line (command_in line ws)) (parted_words line first rest p)
    ∙ ap (without_options line) (
    no_name first (codes "schema") _ _ (λ e. absurd (other.schema e))
    (no_name first (codes "retire") _ _ (λ e. absurd (other.retire e))
    (no_name first (codes "pump") _ _ (λ e. absurd (other.pump e))
    (no_name first (codes "flush") _ _ (λ e. absurd (other.flush e))
    (no_name first (codes "compact") _ _ (λ e. absurd (other.compact e))
    (no_name first (codes "job") _ _ (λ e. absurd (other.job e))
    (no_name first (codes "split") _ _ (λ e. absurd (other.split e))
    (no_name first (codes "retain") _ _ (λ e. absurd (other.retain e))
    (no_name first (codes "scan") _ _ (λ e. absurd (other.scan e))
    (no_name first (codes "page") _ _ (λ e. absurd (other.page e))
    (no_name first (codes "status") _ _ (λ e. word_behind do_status (words rest) some)
    (no_name first (codes "deltas") _ _ (λ e. absurd (other.deltas e))
    (no_name first (codes "reopen") _ _ (λ e. word_behind do_reopen (words rest) some) refl)))))))))))))

-- ---- lines that are not looked into

pub long_line : (line : List ℕ) → max_line < length line → line_read line ≡ bad_line
unfolding line_read line_of
long_line line h = rw (lt-ltb max_line (length line) h) refl

pub no_text_line : (line : List ℕ) → is_utf8 line ≡ false → line_read line ≡ bad_line
unfolding line_read line_of
no_text_line line h = rw h (either (nat_lt max_line (length line)))
  where
    either : (b : Bool) → only_built line (cond (b || true) bad_line (cond (option_map_or (λ b. b == 35) (first_byte line) true) skipped (option_map_or spells_command (command_in line (words line)) bad_line))) ≡ bad_line
    either true = refl
    either false = refl

first_got : (line : List ℕ) → first_byte line ≡ slice_get line 0
first_got [] = refl
first_got (b ∷ line) = refl

-- an empty line, or a comment
abbrev skips : Option ℕ → Bool
skips o = option_map_or (λ b. b == 35) o true

skipped_line : (line : List ℕ) → length line ≤ max_line → is_utf8 line ≡ true → skips (first_byte line) ≡ true → line_read line ≡ skipped
unfolding line_read line_of
skipped_line line short text h = rw (le-ltb max_line (length line) short) (rw text (rw h refl))

pub empty_line : (line : List ℕ) → length line ≤ max_line → is_utf8 line ≡ true → None ≡ slice_get line 0 → line_read line ≡ skipped
empty_line line short text e = skipped_line line short text (ap skips (first_got line ∙ sym e))

pub comment_line : (line : List ℕ) → length line ≤ max_line → is_utf8 line ≡ true → (b : ℕ) → Some b ≡ slice_get line 0 → b ≡ 35 → line_read line ≡ skipped
comment_line line short text b e h = skipped_line line short text (ap skips (first_got line ∙ sym e) ∙ eq-eqb b 35 h)

-- ---- lines that are looked into

-- the command, where it is one that is built
abbrev built : Option Command → Option Command
built o = option_and_then (λ c. when (is_built c) c) o

read_or_bad : (line : List ℕ) (o : Option Command) → only_built line (option_map_or spells_command o bad_line) ≡ option_map_or spells_command (built (without_options line o)) bad_line
read_or_bad line None = refl
read_or_bad line (Some c) = by (is_built c) refl (has_options line c)
  where
    by : (b : Bool) → is_built c ≡ b → (t : Bool) → cond (b && not t) (spells_command c) bad_line ≡ option_map_or spells_command (built (when (not t) c)) bad_line
    by true e true = refl
    by true e false = ap (λ b. option_map_or spells_command (when b c) bad_line) (sym e)
    by false e true = refl
    by false e false = ap (λ b. option_map_or spells_command (when b c) bad_line) (sym e)

read_line_of : (line : List ℕ) → length line ≤ max_line → is_utf8 line ≡ true → skips (first_byte line) ≡ false → line_read line ≡ option_map_or spells_command (built (command_read line)) bad_line
unfolding line_read line_of
read_line_of line short text h = rw (le-ltb max_line (length line) short) (rw text (rw h (read_or_bad line (command_in line (words line)))))

plain_line : (line : List ℕ) → length line ≤ max_line → is_utf8 line ≡ true → (b : ℕ) → Some b ≡ slice_get line 0 → (b ≡ 35 → ⊥) → (o : Option Command) → o ≡ command_read line → option_map_or spells_command (built o) bad_line ≡ line_read line
plain_line line short text b e h o f = ap (λ o. option_map_or spells_command (built o) bad_line) f ∙ sym (read_line_of line short text (ap skips (first_got line ∙ sym e) ∙ ne_eqb b 35 h))

pub no_command : (line : List ℕ) → length line ≤ max_line → is_utf8 line ≡ true → (b : ℕ) → Some b ≡ slice_get line 0 → (b ≡ 35 → ⊥) → None ≡ command_read line → bad_line ≡ line_read line
no_command line short text b e h f = plain_line line short text b e h None f

pub built_command : (line : List ℕ) → length line ≤ max_line → is_utf8 line ≡ true → (b : ℕ) → Some b ≡ slice_get line 0 → (b ≡ 35 → ⊥) → (c : Command) → Some c ≡ command_read line → is_built c ≡ true → spells_command c ≡ line_read line
built_command line short text b e h c f is = ap (λ b. option_map_or spells_command (when b c) bad_line) (sym is) ∙ plain_line line short text b e h (Some c) f

pub planned_command : (line : List ℕ) → length line ≤ max_line → is_utf8 line ≡ true → (b : ℕ) → Some b ≡ slice_get line 0 → (b ≡ 35 → ⊥) → (c : Command) → Some c ≡ command_read line → is_built c ≡ false → bad_line ≡ line_read line
planned_command line short text b e h c f is = ap (λ b. option_map_or spells_command (when b c) bad_line) (sym is) ∙ plain_line line short text b e h (Some c) f

-- ---- a line of which only the first bytes are kept

pub kept_reads : (line : List ℕ) → line_read (kept_of line) ≡ line_read line
kept_reads line = by (nat_lt max_line (length line)) refl
  where
    by : (b : Bool) → nat_lt max_line (length line) ≡ b → line_read (kept_of line) ≡ line_read line
    by true e =
        let long = ltb-true max_line (length line) e in
        let kept : length (kept_of line) ≡ max_line + 1 = length-take-le (max_line + 1) line (omega (arith, long)) in
        long_line (kept_of line) (omega (arith, kept)) ∙ sym (long_line line long)
    by false e = ap line_read (take_all (max_line + 1) line (omega (arith, ltb-false max_line (length line) e)))
