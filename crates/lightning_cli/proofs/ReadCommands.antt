-- What a line that is read as a command spells is one that a step takes: a pump of at least one record, or a scan without a limit.
use Rattle.std.proofs.Common.{◌≡◌, ℕ, Bool, true, false, List, [], ◌∷◌, length, refl, ap, subst}
use Rattle.std.proofs.lemmas.Bool.{false≢true}
use Rattle.std.specs.Prelude.{IsTrue, None, Option, Some, if◌then◌else◌, is_none, nat_lt, not, option_and_then, option_map, ◌&&◌, ◌==◌, ◌||◌}
use Rattle.std.specs.Option.{option_map_or}
use Rattle.std.specs.Str.{is_utf8}
use Rattle.serde_json.specs.Read.{read}
use Rattle.lt_tables.specs.Schema.{when}
use Rattle.lt_words.specs.Lines.{asks_all, has_options, is_all_rows, is_built, line_read, only_built}
use Rattle.lt_machine.specs.Outside.{is_command}
use Rattle.lt_tables.specs.Query.{Command, Mode, do_compact, do_deltas, do_flush, do_job_begin, do_job_drop, do_job_finish, do_job_step, do_page, do_pump, do_reopen, do_retain, do_retire, do_scan, do_schema, do_split, do_status}
use Rattle.lt_words.specs.Script.{Line, bad_line, behind_words, command_in, command_of_words, count_word, first_byte, job_words, large_word, line_of, literals_in, max_line, mode_words, no_words, one_number, options_in, page_words, plain_query, scan_words, skipped, small_word, spells_command, split_words, table_word, two_words, with_mode, words}

-- a pump takes at least one record
abbrev takes_some : Command → Bool
takes_some (do_pump n k) = nat_lt 0 k
takes_some c = true

abbrev AllTake : Option Command → Type 0
AllTake o = (c : Command) → o ≡ Some c → takes_some c ≡ true

none_take : AllTake None
none_take c e = absurd cc

one_take : (d : Command) → takes_some d ≡ true → AllTake (Some d)
one_take d h c e = let same : d ≡ c = cc in subst (λ x. takes_some x ≡ true) same h

map_take : {A : Type 0} (make : A → Command) → ((x : A) → takes_some (make x) ≡ true) → (o : Option A) → AllTake (option_map make o)
map_take make h None = none_take
map_take make h (Some x) = one_take (make x) (h x)

then_take : {A : Type 0} (f : A → Option Command) → ((x : A) → AllTake (f x)) → (o : Option A) → AllTake (option_and_then f o)
then_take f h None = none_take
then_take f h (Some x) = h x

if_take : (t : Bool) (o p : Option Command) → AllTake o → AllTake p → AllTake (if t then o else p)
if_take true o p h k = h
if_take false o p h k = k

number_take : (make : ℕ → Command) (form : List ℕ → Option ℕ) → ((x : ℕ) → takes_some (make x) ≡ true) → (ws : List (List ℕ)) → AllTake (one_number make form ws)
number_take make form h [] = none_take
number_take make form h (w ∷ []) = map_take make h (form w)
number_take make form h (w ∷ v ∷ ws) = none_take

two_take : {A B : Type 0} (make : A → B → Command) (first : List ℕ → Option A) (second : List ℕ → Option B) → ((x : A) (y : B) → takes_some (make x y) ≡ true) → (ws : List (List ℕ)) → AllTake (two_words make first second ws)
two_take make first second h [] = none_take
two_take make first second h (v ∷ []) = none_take
two_take make first second h (v ∷ w ∷ []) = then_take _ (λ x. map_take (make x) (h x) (second w)) (first v)
two_take make first second h (v ∷ w ∷ u ∷ ws) = none_take

word_take : (d : Command) → takes_some d ≡ true → (ws : List (List ℕ)) → AllTake (no_words d ws)
word_take d h [] = one_take d h
word_take d h (w ∷ ws) = none_take

mode_take : (make : ℕ → Mode → Command) → ((p : ℕ) (m : Mode) → takes_some (make p m) ≡ true) → (ws : List (List ℕ)) → AllTake (with_mode make ws)
mode_take make h [] = none_take
mode_take make h (p ∷ ws) = then_take _ (λ n. map_take (make n) (h n) (mode_words ws)) (small_word p)

-- ---- pumps

counted : (s : ℕ) (o : Option ℕ) → AllTake (option_map (do_pump s) (option_and_then (λ n. when (nat_lt 0 n) n) o))
counted s None = none_take
counted s (Some n) = by (nat_lt 0 n) refl
  where
    by : (b : Bool) → nat_lt 0 n ≡ b → AllTake (option_map (do_pump s) (when b n))
    by true e = one_take (do_pump s n) e
    by false e = none_take

pump_take : (ws : List (List ℕ)) → AllTake (two_words do_pump small_word count_word ws)
pump_take [] = none_take
pump_take (v ∷ []) = none_take
pump_take (v ∷ w ∷ []) = then_take _ (λ s. counted s (small_word w)) (small_word v)
pump_take (v ∷ w ∷ u ∷ ws) = none_take

-- ---- the other commands

job_take : (ws : List (List ℕ)) → AllTake (job_words ws)
job_take [] = none_take
job_take (w ∷ ws) =
    if_take _ _ _ (mode_take do_job_begin (λ p m. refl) ws)
    (if_take _ _ _ (number_take do_job_step count_word (λ n. refl) ws)
    (if_take _ _ _ (word_take do_job_finish refl ws)
    (if_take _ _ _ (word_take do_job_drop refl ws) none_take)))

split_take : (ws : List (List ℕ)) (o : Option (List ℕ)) → AllTake (split_words ws o)
split_take [] o = none_take
split_take (t ∷ ws) o = then_take _ (λ name. then_take _ (λ x. map_take (do_split name) (λ ls. refl) (option_and_then literals_in (read x))) o) (table_word t)

scan_take : (ws : List (List ℕ)) (o : Option (List ℕ)) → AllTake (scan_words ws o)
scan_take [] o = none_take
scan_take (x ∷ []) o = none_take
scan_take (x ∷ y ∷ []) o = none_take
scan_take (x ∷ y ∷ z ∷ ws) o =
    then_take _ (λ t. then_take _ (λ v. then_take _ (λ at.
    if_take _ _ _ none_take (map_take do_scan (λ q. refl) (options_in false (plain_query t v at None) o)))
    (large_word z)) (small_word y)) (table_word x)

page_take : (ws : List (List ℕ)) (o : Option (List ℕ)) → AllTake (page_words ws o)
page_take [] o = none_take
page_take (x ∷ []) o = none_take
page_take (x ∷ y ∷ []) o = none_take
page_take (x ∷ y ∷ z ∷ []) o = none_take
page_take (x ∷ y ∷ z ∷ w ∷ ws) o =
    then_take _ (λ t. then_take _ (λ v. then_take _ (λ at. then_take _ (λ n.
    if_take _ _ _ none_take (map_take do_page (λ q. refl) (options_in true (plain_query t v at (Some n)) o)))
    (count_word w)) (large_word z)) (small_word y)) (table_word x)

words_take : (line w : List ℕ) (ws : List (List ℕ)) → AllTake (command_of_words line w ws)
words_take line w ws =
    if_take _ _ _ (map_take do_schema (λ t. refl) (behind_words 1 line))
    (if_take _ _ _ (two_take do_retire table_word small_word (λ t v. refl) ws)
    (if_take _ _ _ (pump_take ws)
    (if_take _ _ _ (number_take do_flush small_word (λ n. refl) ws)
    (if_take _ _ _ (mode_take do_compact (λ p m. refl) ws)
    (if_take _ _ _ (job_take ws)
    (if_take _ _ _ (split_take ws (behind_words 2 line))
    (if_take _ _ _ (number_take do_retain large_word (λ n. refl) ws)
    (if_take _ _ _ (scan_take ws (behind_words 4 line))
    (if_take _ _ _ (page_take ws (behind_words 5 line))
    (if_take _ _ _ (word_take do_status refl ws)
    (if_take _ _ _ (number_take do_deltas small_word (λ n. refl) ws)
    (if_take _ _ _ (word_take do_reopen refl ws) none_take))))))))))))

line_take : (line : List ℕ) (ws : List (List ℕ)) → AllTake (command_in line ws)
line_take line [] = none_take
line_take line (w ∷ ws) = words_take line w ws

-- ---- lines

read_take : (t u : Bool) (o : Option Command) (c : Command) → AllTake o → (if t then bad_line else (if u then skipped else option_map_or spells_command o bad_line)) ≡ spells_command c → takes_some c ≡ true
read_take true u o c h e = absurd cc
read_take false true o c h e = absurd cc
read_take false false None c h e = absurd cc
read_take false false (Some d) c h e = let same : d ≡ c = cc in h c (ap Some same)

spelled_take : (line : List ℕ) (c : Command) → line_of line ≡ spells_command c → takes_some c ≡ true
unfolding line_of
spelled_take line c e = read_take (nat_lt max_line (length line) || not (is_utf8 line)) (option_map_or (λ b. b == 35) (first_byte line) true) (command_in line (words line)) c (line_take line (words line)) e

-- what is answered of a line is what it spells
only_spelled : (line : List ℕ) (l : Line) (c : Command) → only_built line l ≡ spells_command c → (l ≡ spells_command c) × ((is_built c && not (has_options line c)) ≡ true)
only_spelled line skipped c e = absurd cc
only_spelled line bad_line c e = absurd cc
only_spelled line (spells_command d) c e = by (is_built d && not (has_options line d)) refl e
  where
    by : (b : Bool) → (is_built d && not (has_options line d)) ≡ b → (if b then spells_command d else bad_line) ≡ spells_command c → (spells_command d ≡ spells_command c) × ((is_built c && not (has_options line c)) ≡ true)
    by true a e = let same : d ≡ c = cc in (ap spells_command same, subst (λ x. (is_built x && not (has_options line x)) ≡ true) same a)
    by false a e = absurd cc

first_holds : (a b : Bool) → (a && b) ≡ true → a ≡ true
first_holds true b h = refl
first_holds false b h = absurd (false≢true h)

both_hold : (a b : Bool) → a ≡ true → b ≡ true → (a && b) ≡ true
both_hold true b h k = k
both_hold false b h k = absurd (false≢true h)

no_limit : (a b c d e f : Bool) → (a && b && c && d && e && f) ≡ true → (e && d) ≡ true
no_limit true true true true true f g = refl
no_limit true true true true false f g = absurd (false≢true g)
no_limit true true true false e f g = absurd (false≢true g)
no_limit true true false d e f g = absurd (false≢true g)
no_limit true false c d e f g = absurd (false≢true g)
no_limit false b c d e f g = absurd (false≢true g)

built_taken : (c : Command) → is_built c ≡ true → takes_some c ≡ true → IsTrue (is_command c && is_built c)
built_taken (do_schema t) a h = refl
built_taken (do_retire t v) a h = refl
built_taken (do_pump n k) a h = both_hold (nat_lt 0 k) true h refl
built_taken (do_flush p) a h = absurd (false≢true a)
built_taken (do_compact p m) a h = absurd (false≢true a)
built_taken (do_job_begin p m) a h = absurd (false≢true a)
built_taken (do_job_step n) a h = absurd (false≢true a)
built_taken do_job_finish a h = absurd (false≢true a)
built_taken do_job_drop a h = absurd (false≢true a)
built_taken (do_split t k) a h = refl
built_taken (do_retain t) a h = absurd (false≢true a)
built_taken (do_scan q) a h = both_hold (is_none q.limit && is_none q.after) (asks_all q) (no_limit (is_none q.columns) (is_none q.from) (is_none q.to) (is_none q.after) (is_none q.limit) (is_all_rows q.filter) a) a
built_taken (do_page q) a h = absurd (false≢true a)
built_taken do_status a h = refl
built_taken (do_deltas p) a h = absurd (false≢true a)
built_taken do_reopen a h = absurd (false≢true a)

pub command_taken : (line : List ℕ) (c : Command) → line_read line ≡ spells_command c → IsTrue (is_command c && is_built c)
unfolding line_read
command_taken line c e = let s = only_spelled line (line_of line) c e in built_taken c (first_holds (is_built c) (not (has_options line c)) s.1) (spelled_take line c s.0)
