-- The lines of compactions: a mode, a partition and a mode, and the words of a job.
use Rattle.std.proofs.Common.{◌≡◌, ℕ, ◌<◌, Bool, true, false, List, [], ◌∷◌, ◌++◌, length, refl, sym, ap, append_assoc, ◌∙◌, arith, length-append, ne_eqb, subst}
use Rattle.std.specs.Prelude.{None, Option, Some, codes, cond, if◌then◌else◌, option_and_then, option_map, ◌&&◌, ◌==◌}
use Rattle.lt_terms.specs.Conversion.{same_bytes}
use Rattle.lt_tables.specs.Query.{Command, Mode, do_compact, do_job_begin, do_job_drop, do_job_finish, do_job_step, major, minor}
use Rattle.lt_words.specs.Script.{count_word, id_words, job_words, large_word, mode_words, no_words, one_number, small_word, with_mode, words}
use Rattle.lt_words.specs.Lines.{has_options}
use Rattle.lt_words.specs.SchemaText.{all_of}
use Rattle.lt_script.specs.Lines.{IsParted, NoSpace, command_read, part_and_mode, without_options}
use Rattle.lt_script.proofs.LiteralLaws.{with_front}
use Rattle.lt_script.proofs.ReadLaws.{no_name, one_read, pair, plain_map}
use Rattle.lt_script.proofs.WordLaws.{count_one, one_piece, parted_words, some_pieces}

-- ---- a mode

-- `major` with words behind it
long_major : (w : List ℕ) (ws : List (List ℕ)) → 0 < length ws → (if same_bytes w (codes "major") && length ws == 0 then Some major else None) ≡ None
long_major w ws some = by (same_bytes w (codes "major")) (length ws == 0) (ne_eqb (length ws) 0 (λ e. omega (arith, some, e)))
  where
    by : (b t : Bool) → t ≡ false → (if b && t then Some major else None) ≡ None
    by true t e = ap (λ t. if t then Some major else None) e
    by false t e = refl

-- `major` alone
no_major : (w : List ℕ) → (w ≡ codes "major" → ⊥) → (if same_bytes w (codes "major") && true then Some major else None) ≡ None
no_major w h = by (same_bytes w (codes "major")) (no_name w (codes "major") (Some major) None (λ e. absurd (h e)) refl)
  where
    by : (b : Bool) → cond b (Some major) None ≡ None → (if b && true then Some major else None) ≡ None
    by true e = e
    by false e = refl

-- ids without ids
no_ids : option_map minor (id_words []) ≡ None
no_ids = refl

pub one_mode_none : (w : List ℕ) → NoSpace w → (w ≡ codes "major" → ⊥) → None ≡ mode_words (words w)
one_mode_none w h other = sym (ap mode_words (one_piece w h) ∙ no_name w (codes "minor") (option_map minor (id_words [])) _ (λ e. no_ids) (no_major w other))

pub mode_other : (text word rest : List ℕ) → IsParted text word rest → (word ≡ codes "minor" → ⊥) → None ≡ mode_words (words text)
mode_other text word rest p other =
    sym (ap mode_words (parted_words text word rest p)
    ∙ no_name word (codes "minor") (option_map minor (id_words (words rest))) _ (λ e. absurd (other e)) (long_major word (words rest) (some_pieces rest)))

pub mode_minor : (text word rest : List ℕ) → IsParted text word rest → word ≡ codes "minor" → option_map minor (id_words (words rest)) ≡ mode_words (words text)
mode_minor text word rest p is = sym (ap mode_words (parted_words text word rest p) ∙ ap (λ w. mode_words (w ∷ words rest)) is)

-- ---- a partition and a mode

pub part_whole : (text : List ℕ) → NoSpace text → None ≡ part_and_mode (words text)
part_whole text h = sym (ap part_and_mode (one_piece text h) ∙ nothing (small_word text))
  where
    nothing : (o : Option ℕ) → option_and_then {U = ℕ × Mode} (λ p. option_map (λ m. (p, m)) (mode_words [])) o ≡ None
    nothing None = refl
    nothing (Some p) = refl

pub part_parted : (text part mode : List ℕ) → IsParted text part mode → part_and_mode (words text) ≡ pair (λ (p : ℕ) (m : Mode). (p, m)) (small_word part) (mode_words (words mode))
part_parted text part mode p = ap part_and_mode (parted_words text part mode p)

-- a command of a partition and a mode
abbrev of_both : (ℕ → Mode → Command) → ℕ × Mode → Command
of_both make x = make x.0 x.1

both_words : (make : ℕ → Mode → Command) (ws : List (List ℕ)) → with_mode make ws ≡ option_map (of_both make) (part_and_mode ws)
both_words make [] = refl
both_words make (p ∷ ws) = by (small_word p) (mode_words ws)
  where
    by : (p : Option ℕ) (m : Option Mode) → option_and_then (λ p. option_map (make p) m) p ≡ option_map (of_both make) (option_and_then {U = ℕ × Mode} (λ p. option_map (λ m. (p, m)) m) p)
    by None m = refl
    by (Some p) None = refl
    by (Some p) (Some m) = refl

both_read : (line : List ℕ) (make : ℕ → Mode → Command) → ((x : ℕ × Mode) → has_options line (of_both make x) ≡ false) → (ws : List (List ℕ)) → without_options line (with_mode make ws) ≡ option_map (of_both make) (part_and_mode ws)
both_read line make always ws = ap (without_options line) (both_words make ws) ∙ plain_map line (of_both make) always (part_and_mode ws)

pub compact_read : (rest : List ℕ) → command_read (codes "compact " ++ rest) ≡ option_map (λ x. do_compact x.0 x.1) (part_and_mode (words rest))
compact_read rest = both_read (codes "compact " ++ rest) do_compact (λ x. refl) (words rest)

-- ---- a job

pub begin_read : (rest : List ℕ) → command_read (codes "job begin " ++ rest) ≡ option_map (λ x. do_job_begin x.0 x.1) (part_and_mode (words rest))
begin_read rest = both_read (codes "job begin " ++ rest) do_job_begin (λ x. refl) (words rest)

pub step_read : (rest : List ℕ) → command_read (codes "job step " ++ rest) ≡ option_map do_job_step (count_word rest)
step_read rest = one_read (codes "job step " ++ rest) do_job_step count_word count_one (λ n. refl) rest

-- a command of one word, with a word behind it
word_behind : (c : Command) (ws : List (List ℕ)) → 0 < length ws → no_words c ws ≡ None
word_behind c [] some = absurd (omega (arith, some))
word_behind c (w ∷ ws) some = refl

-- no word of a job, or one that has words behind it
no_job : (w : List ℕ) (ws : List (List ℕ)) → (w ≡ codes "begin" → with_mode do_job_begin ws ≡ None) → (w ≡ codes "step" → one_number do_job_step count_word ws ≡ None)
    → (w ≡ codes "finish" → no_words do_job_finish ws ≡ None) → (w ≡ codes "drop" → no_words do_job_drop ws ≡ None) → job_words (w ∷ ws) ≡ None
no_job w ws begin step finish drop = no_name w (codes "begin") _ _ begin (no_name w (codes "step") _ _ step (no_name w (codes "finish") _ _ finish (no_name w (codes "drop") _ _ drop refl)))

pub job_other : (rest verb behind : List ℕ) → IsParted rest verb behind → (verb ≡ codes "begin" → ⊥) → (verb ≡ codes "step" → ⊥) → None ≡ command_read (codes "job " ++ rest)
job_other rest verb behind p begin step =
    let some = some_pieces behind in
    sym (ap (λ ws. without_options (codes "job " ++ rest) (job_words ws)) (parted_words rest verb behind p)
    ∙ ap (without_options (codes "job " ++ rest)) (no_job verb (words behind) (λ e. absurd (begin e)) (λ e. absurd (step e)) (λ e. word_behind do_job_finish (words behind) some) (λ e. word_behind do_job_drop (words behind) some)))

pub job_whole : (word : List ℕ) → NoSpace word → (word ≡ codes "finish" → ⊥) → (word ≡ codes "drop" → ⊥) → None ≡ command_read (codes "job " ++ word)
job_whole word h finish drop =
    sym (ap (λ ws. without_options (codes "job " ++ word) (job_words ws)) (one_piece word h)
    ∙ ap (without_options (codes "job " ++ word)) (no_job word [] (λ e. refl) (λ e. refl) (λ e. absurd (finish e)) (λ e. absurd (drop e))))

-- ---- numbers

front_more : {A : Type 0} (front : List A) (x : A) (o : Option (List A)) → with_front (front ++ x ∷ []) o ≡ with_front front (option_map (λ xs. x ∷ xs) o)
front_more front x None = refl
front_more front x (Some xs) = ap Some (append_assoc front (x ∷ []) xs)

-- the numbers of words, by what the first one is
abbrev number_first : Option ℕ → List (List ℕ) → Option (List ℕ)
number_first o ws = option_and_then (λ n. option_map (λ ns. n ∷ ns) (all_of large_word ws)) o

-- of a word and the words behind it
first_of : (rest word behind front : List ℕ) → IsParted rest word behind → with_front front (all_of large_word (words rest)) ≡ with_front front (number_first (large_word word) (words behind))
first_of rest word behind front p = ap (λ ws. with_front front (all_of large_word ws)) (parted_words rest word behind p)

-- of one word
only_of : (rest front : List ℕ) → NoSpace rest → with_front front (all_of large_word (words rest)) ≡ with_front front (number_first (large_word rest) [])
only_of rest front h = ap (λ ws. with_front front (all_of large_word ws)) (one_piece rest h)

pub next_number : (rest word behind front : List ℕ) (n : ℕ) (all : Option (List ℕ)) → IsParted rest word behind → Some n ≡ large_word word → with_front front (all_of large_word (words rest)) ≡ all
    → with_front (front ++ n ∷ []) (all_of large_word (words behind)) ≡ all
next_number rest word behind front n all p e before =
    front_more front n (all_of large_word (words behind)) ∙ ap (λ o. with_front front (number_first o (words behind))) e ∙ sym (first_of rest word behind front p) ∙ before

pub no_number : (rest word behind front : List ℕ) (all : Option (List ℕ)) → IsParted rest word behind → None ≡ large_word word → with_front front (all_of large_word (words rest)) ≡ all → None ≡ all
no_number rest word behind front all p e before = ap (λ o. with_front front (number_first o (words behind))) e ∙ sym (first_of rest word behind front p) ∙ before

pub last_number : (rest front : List ℕ) (n : ℕ) (all : Option (List ℕ)) → NoSpace rest → Some n ≡ large_word rest → with_front front (all_of large_word (words rest)) ≡ all → Some (front ++ n ∷ []) ≡ all
last_number rest front n all h e before = ap (λ o. with_front front (number_first o [])) e ∙ sym (only_of rest front h) ∙ before

pub no_last_number : (rest front : List ℕ) (all : Option (List ℕ)) → NoSpace rest → None ≡ large_word rest → with_front front (all_of large_word (words rest)) ≡ all → None ≡ all
no_last_number rest front all h e before = ap (λ o. with_front front (number_first o [])) e ∙ sym (only_of rest front h) ∙ before

-- what stands behind a word is shorter
pub parted_shorter : (line word rest : List ℕ) → IsParted line word rest → length rest < length line
parted_shorter line word rest p = subst (λ (l : List ℕ). length rest < length l) (sym p.is) (omega (arith, length-append word (32 ∷ rest)))
