-- The lines of scans and pages, without options.
use Rattle.std.proofs.Common.{◌≡◌, ℕ, ◌≤◌, true, false, List, [], ◌∷◌, ◌++◌, length, refl, sym, ap, ◌∙◌, subst, arith, lt-ltb}
use Rattle.std.specs.Prelude.{None, Option, Some, codes, nat_lt, option_and_then, option_map}
use Rattle.lt_tables.specs.Query.{Command, do_page, do_scan}
use Rattle.lt_words.specs.Script.{behind_words, count_word, large_word, options_in, page_words, plain_query, scan_words, small_word, table_word, words}
use Rattle.lt_script.specs.Lines.{IsParted, NoSpace, asked, command_read, without_options}
use Rattle.lt_script.proofs.ReadLaws.{none_if, none_map, none_then, plain_map}
use Rattle.lt_script.proofs.WordLaws.{IsLast, behind_all, count_one, large_one, last_word, more, one, one_piece, parted_words}

-- a query whose words are not all known
pub no_time : (t : Option (List ℕ)) (v a n : Option ℕ) → None ≡ a → None ≡ asked t v a n
no_time None v a n e = refl
no_time (Some t) None a n e = refl
no_time (Some t) (Some v) a n e = ap (option_map (λ a. plain_query t v a n)) e

-- ---- a scan

abbrev scan_of : List ℕ → List (List ℕ) → Option Command
scan_of rest ws = without_options (codes "scan " ++ rest) (scan_words ws (behind_words 4 (codes "scan " ++ rest)))

-- three words
three_scanned : (x y z : List ℕ) → scan_words (x ∷ y ∷ z ∷ []) None ≡ option_map do_scan (asked (table_word x) (small_word y) (large_word z) None)
three_scanned x y z = by (table_word x) (small_word y) (large_word z)
  where
    by : (t : Option (List ℕ)) (v a : Option ℕ)
        → option_and_then (λ t. option_and_then (λ v. option_and_then (λ a. option_map do_scan (Some (plain_query t v a None))) a) v) t ≡ option_map do_scan (asked t v a None)
    by None v a = refl
    by (Some t) None a = refl
    by (Some t) (Some v) None = refl
    by (Some t) (Some v) (Some a) = refl

-- more words are options
long_scan : (line : List ℕ) → nat_lt 4 (length (words line)) ≡ true → (ws : List (List ℕ)) (o : Option (List ℕ)) → without_options line (scan_words ws o) ≡ None
long_scan line h [] o = refl
long_scan line h (x ∷ []) o = refl
long_scan line h (x ∷ y ∷ []) o = refl
long_scan line h (x ∷ y ∷ z ∷ ws) o =
    none_then line _ (λ t. none_then line _ (λ v. none_then line _ (λ a.
    none_if line _ None _ refl (none_map line do_scan (λ q. h) (options_in false (plain_query t v a None) o)))
    (large_word z)) (small_word y)) (table_word x)

-- the words of a scan: a table, a version and a timestamp
pub record IsScan (rest table version at : List ℕ) : Type 0 where
  pub behind : List ℕ
  pub first : IsParted rest table behind
  pub second : IsParted behind version at

pub scan_read : (rest table version at : List ℕ) → IsScan rest table version at → command_read (codes "scan " ++ rest) ≡ option_map do_scan (asked (table_word table) (small_word version) (large_word at) None)
scan_read rest table version at p = by (last_word large_word large_one at)
  where
    parts : words rest ≡ table ∷ version ∷ words at
    parts = parted_words rest table p.behind p.first ∙ ap (λ ws. table ∷ ws) (parted_words p.behind version at p.second)

    by : IsLast large_word at → command_read (codes "scan " ++ rest) ≡ option_map do_scan (asked (table_word table) (small_word version) (large_word at) None)
    by (one e) =
        let ws : words rest ≡ table ∷ version ∷ at ∷ [] = parts ∙ ap (λ ws. table ∷ version ∷ ws) e in
        let all : words (codes "scan " ++ rest) ≡ codes "scan" ∷ table ∷ version ∷ at ∷ [] = ap (λ ws. codes "scan" ∷ ws) ws in
        let few : nat_lt 4 (length (words (codes "scan " ++ rest))) ≡ false = ap (λ ws. nat_lt 4 (length ws)) all in
        let none : behind_words 4 (codes "scan " ++ rest) ≡ None = behind_all 4 (codes "scan " ++ rest) (subst (λ ws. length ws ≤ 4) (sym all) (omega arith)) in
        ap (scan_of rest) ws
        ∙ ap (λ o. without_options (codes "scan " ++ rest) (scan_words (table ∷ version ∷ at ∷ []) o)) none
        ∙ ap (without_options (codes "scan " ++ rest)) (three_scanned table version at)
        ∙ plain_map (codes "scan " ++ rest) do_scan (λ q. few) (asked (table_word table) (small_word version) (large_word at) None)
    by (more x y zs e n) =
        let ws : words rest ≡ table ∷ version ∷ x ∷ y ∷ zs = parts ∙ ap (λ ws. table ∷ version ∷ ws) e in
        let all : words (codes "scan " ++ rest) ≡ codes "scan" ∷ table ∷ version ∷ x ∷ y ∷ zs = ap (λ ws. codes "scan" ∷ ws) ws in
        let many : nat_lt 4 (length (words (codes "scan " ++ rest))) ≡ true = ap (λ ws. nat_lt 4 (length ws)) all ∙ lt-ltb 4 (length (codes "scan" ∷ table ∷ version ∷ x ∷ y ∷ zs)) (omega arith) in
        long_scan (codes "scan " ++ rest) many (words rest) (behind_words 4 (codes "scan " ++ rest))
        ∙ ap (option_map do_scan) (no_time (table_word table) (small_word version) (large_word at) None (sym n))

pub scan_whole : (rest : List ℕ) → NoSpace rest → command_read (codes "scan " ++ rest) ≡ None
scan_whole rest h = ap (scan_of rest) (one_piece rest h)

pub scan_two : (rest table behind : List ℕ) → IsParted rest table behind → NoSpace behind → command_read (codes "scan " ++ rest) ≡ None
scan_two rest table behind p h = ap (scan_of rest) (parted_words rest table behind p ∙ ap (λ ws. table ∷ ws) (one_piece behind h))

-- ---- a page

-- the command of a page, by its four words
abbrev pub paged : Option (List ℕ) → Option ℕ → Option ℕ → Option ℕ → Option Command
paged t v a n = option_and_then (λ n. option_map do_page (asked t v a (Some n))) n

abbrev page_of : List ℕ → List (List ℕ) → Option Command
page_of rest ws = without_options (codes "page " ++ rest) (page_words ws (behind_words 5 (codes "page " ++ rest)))

four_paged : (x y z u : List ℕ) → page_words (x ∷ y ∷ z ∷ u ∷ []) None ≡ paged (table_word x) (small_word y) (large_word z) (count_word u)
four_paged x y z u = by (table_word x) (small_word y) (large_word z) (count_word u)
  where
    by : (t : Option (List ℕ)) (v a n : Option ℕ)
        → option_and_then (λ t. option_and_then (λ v. option_and_then (λ a. option_and_then (λ n. option_map do_page (Some (plain_query t v a (Some n)))) n) a) v) t ≡ paged t v a n
    by None v a None = refl
    by None v a (Some n) = refl
    by (Some t) None a None = refl
    by (Some t) None a (Some n) = refl
    by (Some t) (Some v) None None = refl
    by (Some t) (Some v) None (Some n) = refl
    by (Some t) (Some v) (Some a) None = refl
    by (Some t) (Some v) (Some a) (Some n) = refl

long_page : (line : List ℕ) → nat_lt 5 (length (words line)) ≡ true → (ws : List (List ℕ)) (o : Option (List ℕ)) → without_options line (page_words ws o) ≡ None
long_page line h [] o = refl
long_page line h (x ∷ []) o = refl
long_page line h (x ∷ y ∷ []) o = refl
long_page line h (x ∷ y ∷ z ∷ []) o = refl
long_page line h (x ∷ y ∷ z ∷ u ∷ ws) o =
    none_then line _ (λ t. none_then line _ (λ v. none_then line _ (λ a. none_then line _ (λ n.
    none_if line _ None _ refl (none_map line do_page (λ q. h) (options_in true (plain_query t v a (Some n)) o)))
    (count_word u)) (large_word z)) (small_word y)) (table_word x)

plain_page : (line : List ℕ) → nat_lt 5 (length (words line)) ≡ false → (t : Option (List ℕ)) (v a n : Option ℕ) → without_options line (paged t v a n) ≡ paged t v a n
plain_page line h t v a None = refl
plain_page line h t v a (Some n) = plain_map line do_page (λ q. h) (asked t v a (Some n))

-- the words of a page: a table, a version, a timestamp and a count
pub record IsPage (rest table version at count : List ℕ) : Type 0 where
  pub behind : List ℕ
  pub last : List ℕ
  pub first : IsParted rest table behind
  pub second : IsParted behind version last
  pub third : IsParted last at count

pub page_read : (rest table version at count : List ℕ) → IsPage rest table version at count → command_read (codes "page " ++ rest) ≡ paged (table_word table) (small_word version) (large_word at) (count_word count)
page_read rest table version at count p = by (last_word count_word count_one count)
  where
    parts : words rest ≡ table ∷ version ∷ at ∷ words count
    parts = parted_words rest table p.behind p.first ∙ ap (λ ws. table ∷ ws) (parted_words p.behind version p.last p.second) ∙ ap (λ ws. table ∷ version ∷ ws) (parted_words p.last at count p.third)

    by : IsLast count_word count → command_read (codes "page " ++ rest) ≡ paged (table_word table) (small_word version) (large_word at) (count_word count)
    by (one e) =
        let ws : words rest ≡ table ∷ version ∷ at ∷ count ∷ [] = parts ∙ ap (λ ws. table ∷ version ∷ at ∷ ws) e in
        let all : words (codes "page " ++ rest) ≡ codes "page" ∷ table ∷ version ∷ at ∷ count ∷ [] = ap (λ ws. codes "page" ∷ ws) ws in
        let few : nat_lt 5 (length (words (codes "page " ++ rest))) ≡ false = ap (λ ws. nat_lt 5 (length ws)) all in
        let none : behind_words 5 (codes "page " ++ rest) ≡ None = behind_all 5 (codes "page " ++ rest) (subst (λ ws. length ws ≤ 5) (sym all) (omega arith)) in
        ap (page_of rest) ws
        ∙ ap (λ o. without_options (codes "page " ++ rest) (page_words (table ∷ version ∷ at ∷ count ∷ []) o)) none
        ∙ ap (without_options (codes "page " ++ rest)) (four_paged table version at count)
        ∙ plain_page (codes "page " ++ rest) few (table_word table) (small_word version) (large_word at) (count_word count)
    by (more x y zs e n) =
        let ws : words rest ≡ table ∷ version ∷ at ∷ x ∷ y ∷ zs = parts ∙ ap (λ ws. table ∷ version ∷ at ∷ ws) e in
        let all : words (codes "page " ++ rest) ≡ codes "page" ∷ table ∷ version ∷ at ∷ x ∷ y ∷ zs = ap (λ ws. codes "page" ∷ ws) ws in
        let many : nat_lt 5 (length (words (codes "page " ++ rest))) ≡ true = ap (λ ws. nat_lt 5 (length ws)) all ∙ lt-ltb 5 (length (codes "page" ∷ table ∷ version ∷ at ∷ x ∷ y ∷ zs)) (omega arith) in
        long_page (codes "page " ++ rest) many (words rest) (behind_words 5 (codes "page " ++ rest))
        ∙ ap (option_and_then (λ n. option_map do_page (asked (table_word table) (small_word version) (large_word at) (Some n)))) (sym n)

pub page_whole : (rest : List ℕ) → NoSpace rest → command_read (codes "page " ++ rest) ≡ None
page_whole rest h = ap (page_of rest) (one_piece rest h)

pub page_two : (rest table behind : List ℕ) → IsParted rest table behind → NoSpace behind → command_read (codes "page " ++ rest) ≡ None
page_two rest table behind p h = ap (page_of rest) (parted_words rest table behind p ∙ ap (λ ws. table ∷ ws) (one_piece behind h))

pub page_three : (rest table behind version last : List ℕ) → IsParted rest table behind → IsParted behind version last → NoSpace last → command_read (codes "page " ++ rest) ≡ None
page_three rest table behind version last p q h =
    ap (page_of rest) (parted_words rest table behind p ∙ ap (λ ws. table ∷ ws) (parted_words behind version last q) ∙ ap (λ ws. table ∷ version ∷ ws) (one_piece last h))

-- a page without a count, or whose query is not known
pub no_count : (t : Option (List ℕ)) (v a n : Option ℕ) → None ≡ n → None ≡ paged t v a n
no_count t v a n e = ap (option_and_then (λ n. option_map do_page (asked t v a (Some n)))) e

pub some_count : (t : Option (List ℕ)) (v a n : Option ℕ) (k : ℕ) → Some k ≡ n → option_map do_page (asked t v a (Some k)) ≡ paged t v a n
some_count t v a n k e = ap (option_and_then (λ n. option_map do_page (asked t v a (Some n)))) e
