-- Words: what one space parts, and the number and the table that a word names.
use Rattle.std.proofs.Common.{◌%◌, ◌≡◌, ℕ, ◌+◌, ◌-◌, ◌<◌, ◌≤◌, ◌^◌, Bool, true, false, List, [], ◌∷◌, ◌++◌, length, get_or, refl, sym, ap, ◌∙◌, subst, arith, leb-true, eqb-true, le-leb, lt-ltb, ne_eqb, length-append}
use Rattle.std.specs.Prelude.{IfNone, IfSome, MatchOption, None, Option, Some, cond, decimal, nat_le, nat_lt, option_and_then, suc, zero, ◌==◌}
use Rattle.std.proofs.lemmas.Bool.{and_parts}
use Rattle.std.proofs.lemmas.Fmt.{decimal_by_steps}
use denote.Ref.{Bor}
use Rattle.lt_terms.specs.Conversion.{digits_worth, same_bytes}
use Rattle.lt_words.specs.Reply.{spaced}
use Rattle.lt_tables.specs.Schema.{when}
use Rattle.lt_words.specs.Script.{behind_word, behind_words, count_word, large_word, number_word, pieces, small_word, with_byte, words}
use Rattle.lt_script.specs.Lines.{IsParted, NoSpace}
use Rattle.lt_lemmas.proofs.ConversionLemmas.{decimal_reads, same_bytes-same, same_bytes-self}

-- ---- words

pub one_piece : (w : List ℕ) → NoSpace w → words w ≡ w ∷ []
one_piece [] h = refl
one_piece (b ∷ w) h = rw h.0 (ap (with_byte b) (one_piece w h.1))

pub parted_pieces : (w rest : List ℕ) → NoSpace w → words (w ++ 32 ∷ rest) ≡ w ∷ words rest
parted_pieces [] rest h = refl
parted_pieces (b ∷ w) rest h = rw h.0 (ap (with_byte b) (parted_pieces w rest h.1))

pub parted_words : (line word rest : List ℕ) → IsParted line word rest → words line ≡ word ∷ words rest
parted_words line word rest p = ap words p.is ∙ parted_pieces word rest p.one

no_space : (w : List ℕ) → ((i : ℕ) → i < length w → get_or w i 0 ≡ 32 → ⊥) → NoSpace w
no_space [] h = tt
no_space (b ∷ w) h = (ne_eqb b 32 (λ e. h 0 (omega arith) e), no_space w (λ i l e. h (suc i) (omega (arith, l)) e))

-- what `split_once` ensures, for the first word
abbrev Splits : List ℕ → Option (Bor (List ℕ) × Bor (List ℕ)) → Type 0
Splits line r = MatchOption r ((i : ℕ) → i < length line → get_or line i 0 ≡ 32 → ⊥) (λ x. (line ≡ x.0.now ++ (32 ∷ x.1.now)) × ((i : ℕ) → i < length x.0.now → get_or x.0.now i 0 ≡ 32 → ⊥))

pub splits_parted : (line : List ℕ) (r : Option (Bor (List ℕ) × Bor (List ℕ))) → Splits line r → IfSome r (λ x. IsParted line x.0.now x.1.now)
splits_parted line None h = tt
splits_parted line (Some x) h = record { is = h.0; one = no_space x.0.now h.1 }

pub splits_whole : (line : List ℕ) (r : Option (Bor (List ℕ) × Bor (List ℕ))) → Splits line r → IfNone r (NoSpace line)
splits_whole line None h = no_space line h
splits_whole line (Some x) h = tt

spaced_with : (b : ℕ) (ls : List (List ℕ)) → spaced (with_byte b ls) ≡ b ∷ spaced ls
spaced_with b [] = refl
spaced_with b (l ∷ []) = refl
spaced_with b (l ∷ m ∷ ls) = refl

pub some_pieces : (line : List ℕ) → 0 < length (pieces 32 line)
some_pieces [] = omega arith
some_pieces (b ∷ line) = parted (b == 32) (pieces 32 line)
  where
    parted : (t : Bool) (ps : List (List ℕ)) → 0 < length (cond t ([] ∷ ps) (with_byte b ps))
    parted true ps = omega arith
    parted false [] = omega arith
    parted false (p ∷ ps) = omega arith

spaced_behind : (ps : List (List ℕ)) (line : List ℕ) → 0 < length ps → spaced ps ≡ line → spaced ([] ∷ ps) ≡ 32 ∷ line
spaced_behind [] line n h = absurd (omega (arith, n))
spaced_behind (p ∷ ps) line n h = ap (λ x. 32 ∷ x) h

spaced_step : (b : ℕ) (line : List ℕ) (t : Bool) (ps : List (List ℕ)) → (b == 32) ≡ t → 0 < length ps → spaced ps ≡ line → spaced (cond t ([] ∷ ps) (with_byte b ps)) ≡ b ∷ line
spaced_step b line true ps e n h = spaced_behind ps line n h ∙ ap (λ x. x ∷ line) (sym (eqb-true b 32 e))
spaced_step b line false ps e n h = spaced_with b ps ∙ ap (λ x. b ∷ x) h

-- the pieces with spaces between them are the line
spaced_pieces : (line : List ℕ) → spaced (pieces 32 line) ≡ line
spaced_pieces [] = refl
spaced_pieces (b ∷ line) = spaced_step b line (b == 32) (pieces 32 line) refl (some_pieces line) (spaced_pieces line)

-- ---- behind some words

pub when_some : {A : Type 0} (b : Bool) (x y : A) → when b x ≡ Some y → (b ≡ true) × (x ≡ y)
when_some true x y e = (refl, cc)
when_some false x y e = absurd cc

behind_step : (b : ℕ) (bs : List ℕ) (t : Bool) → (b == 32) ≡ t → (rest : List ℕ) → cond t (when (nat_lt 0 (length bs)) bs) (behind_word bs) ≡ Some rest
    → ((behind_word bs ≡ Some rest) → length (pieces 32 bs) ≡ suc (length (pieces 32 rest))) → length (cond t ([] ∷ pieces 32 bs) (with_byte b (pieces 32 bs))) ≡ suc (length (pieces 32 rest))
behind_step b bs true e rest h k = let p = when_some (nat_lt 0 (length bs)) bs rest h in ap (λ x. suc (length (pieces 32 x))) p.1
behind_step b bs false e rest h k = same_count b (pieces 32 bs) (some_pieces bs) ∙ k h
  where
    same_count : (b : ℕ) (ps : List (List ℕ)) → 0 < length ps → length (with_byte b ps) ≡ length ps
    same_count b [] n = absurd (omega (arith, n))
    same_count b (p ∷ ps) n = refl

behind_space : (w rest : List ℕ) → NoSpace w → behind_word (w ++ 32 ∷ rest) ≡ when (nat_lt 0 (length rest)) rest
behind_space [] rest h = refl
behind_space (b ∷ w) rest h = rw h.0 (behind_space w rest h.1)

pub behind_parted : (line word rest : List ℕ) → IsParted line word rest → behind_word line ≡ when (nat_lt 0 (length rest)) rest
behind_parted line word rest p = ap behind_word p.is ∙ behind_space word rest p.one

pub parted_longer : (line word rest : List ℕ) → IsParted line word rest → 0 < length line
parted_longer line word rest p = subst (λ (l : List ℕ). 0 < length l) (sym p.is) (omega (arith, length-append word (32 ∷ rest)))

-- what stands behind a word has one piece less
behind_fewer : (line rest : List ℕ) → behind_word line ≡ Some rest → length (pieces 32 line) ≡ suc (length (pieces 32 rest))
behind_fewer [] rest h = absurd cc
behind_fewer (b ∷ bs) rest h = behind_step b bs (b == 32) refl rest h (behind_fewer bs rest)

-- behind as many words as there are nothing stands
pub behind_all : (n : ℕ) (line : List ℕ) → length (words line) ≤ n → behind_words n line ≡ None
behind_all zero line h = absurd (omega (arith, some_pieces line, h))
behind_all (suc n) line h = nothing (behind_word line) refl (λ rest e. behind_all n rest (omega (arith, h, behind_fewer line rest e)))
  where
    nothing : (o : Option (List ℕ)) → behind_word line ≡ o → ((rest : List ℕ) → behind_word line ≡ Some rest → behind_words n rest ≡ None) → option_and_then (behind_words n) o ≡ None
    nothing None e k = refl
    nothing (Some rest) e k = k rest e

-- ---- numbers

no_space_more : (w : List ℕ) (d : ℕ) → NoSpace w → 48 ≤ d → NoSpace (w ++ d ∷ [])
no_space_more [] d h up = (ne_eqb d 32 (λ e. omega (arith, e, up)), tt)
no_space_more (b ∷ w) d h up = (h.0, no_space_more w d h.1 up)

-- a number's text is one word
decimal_no_space : (n : ℕ) → n < 2 ^ 64 → NoSpace (decimal n)
decimal_no_space n h = decimal_by_steps (λ n ds. NoSpace ds) (λ n h. (ne_eqb (48 + n) 32 (λ e. omega (arith, e)), tt)) (λ n ds h p. no_space_more ds (48 + n % 10) p (omega arith)) n h

number_is : (most n : ℕ) → n < 2 ^ 64 → n ≤ most → number_word most (decimal n) ≡ Some n
unfolding number_word
number_is most n small fits = rw (decimal_reads n small).0 (rw same_bytes-self (rw (le-leb n most fits) refl))

number_inv : (most : ℕ) (w : List ℕ) (n : ℕ) → number_word most w ≡ Some n → (w ≡ decimal n) × (n ≤ most)
unfolding number_word
number_inv most w n e =
    let p = when_some _ (digits_worth w) n e in
    let q = and_parts (same_bytes (decimal (digits_worth w)) w) (nat_le (digits_worth w) most) p.0 in
    (sym (same_bytes-same _ w q.0) ∙ ap decimal p.1, subst (λ k. k ≤ most) p.1 (leb-true (digits_worth w) most q.1))

none_or : {A : Type 0} (o : Option A) → ((x : A) → o ≡ Some x → ⊥) → o ≡ None
none_or None h = refl
none_or (Some x) h = absurd (h x refl)

pub large_is : (w : List ℕ) (n : ℕ) → n < 2 ^ 64 → w ≡ decimal n → Some n ≡ large_word w
large_is w n h e = sym (number_is (2 ^ 64 - 1) n h (omega (arith, h))) ∙ ap large_word (sym e)

pub large_none : (w : List ℕ) → ((n : ℕ) → n < 2 ^ 64 → w ≡ decimal n → ⊥) → None ≡ large_word w
large_none w h = sym (none_or (large_word w) (λ n e. let p = number_inv (2 ^ 64 - 1) w n e in h n (omega (arith, p.1)) p.0))

pub small_is : (w : List ℕ) (n : ℕ) → Some n ≡ large_word w → n < 2 ^ 32 → Some n ≡ small_word w
small_is w n e h = let p = number_inv (2 ^ 64 - 1) w n (sym e) in sym (ap small_word p.0 ∙ number_is (2 ^ 32 - 1) n (omega (arith, h)) (omega (arith, h)))

pub small_over : (w : List ℕ) (n : ℕ) → Some n ≡ large_word w → 2 ^ 32 ≤ n → None ≡ small_word w
small_over w n e h = sym (none_or (small_word w) (λ m f.
    let p = number_inv (2 ^ 32 - 1) w m f in
    let q = large_is w m (omega (arith, p.1)) p.0 in
    let same : m ≡ n = cc in
    omega (arith, same, p.1, h)))

pub small_none : (w : List ℕ) → None ≡ large_word w → None ≡ small_word w
small_none w e = sym (none_or (small_word w) (λ m f.
    let p = number_inv (2 ^ 32 - 1) w m f in
    let q = large_is w m (omega (arith, p.1)) p.0 in
    cc))

pub count_is : (w : List ℕ) (n : ℕ) → Some n ≡ small_word w → 0 < n → Some n ≡ count_word w
count_is w n e h = ap (λ b. when b n) (sym (lt-ltb 0 n h)) ∙ ap (option_and_then (λ n. when (nat_lt 0 n) n)) e

pub count_zero : (w : List ℕ) (n : ℕ) → Some n ≡ small_word w → n ≡ 0 → None ≡ count_word w
count_zero w n e h = ap (λ n. when (nat_lt 0 n) n) (sym h) ∙ ap (option_and_then (λ n. when (nat_lt 0 n) n)) e

pub count_none : (w : List ℕ) → None ≡ small_word w → None ≡ count_word w
count_none w e = ap (option_and_then (λ n. when (nat_lt 0 n) n)) e

-- ---- a last word

-- only one word is taken
abbrev pub IsOneWord : {A : Type 0} → (List ℕ → Option A) → Type 0
IsOneWord {A} form = (w : List ℕ) (x : A) → form w ≡ Some x → NoSpace w

number_one : (most : ℕ) → most < 2 ^ 64 → IsOneWord (number_word most)
number_one most h w n e = let p = number_inv most w n e in subst NoSpace (sym p.0) (decimal_no_space n (omega (arith, h, p.1)))

pub small_one : IsOneWord small_word
small_one = number_one (2 ^ 32 - 1) (omega arith)

pub large_one : IsOneWord large_word
large_one = number_one (2 ^ 64 - 1) (omega arith)

pub count_one : IsOneWord count_word
count_one w x e = by (small_word w) refl e
  where
    by : (o : Option ℕ) → small_word w ≡ o → option_and_then (λ n. when (nat_lt 0 n) n) o ≡ Some x → NoSpace w
    by None f e = absurd cc
    by (Some n) f e = small_one w n f

-- what is read of a last word: it is one word, or there are more and nothing is read
pub data IsLast {A : Type 0} (form : List ℕ → Option A) (w : List ℕ) : Type 0 where
  one : words w ≡ w ∷ [] → IsLast form w
  more : (v u : List ℕ) (ws : List (List ℕ)) → words w ≡ v ∷ u ∷ ws → form w ≡ None → IsLast form w

pub last_word : {A : Type 0} (form : List ℕ → Option A) → IsOneWord form → (w : List ℕ) → IsLast form w
last_word form h w = by (words w) refl
  where
    by : (ps : List (List ℕ)) → words w ≡ ps → IsLast form w
    by [] e = absurd (omega (arith, some_pieces w, ap length e))
    by (p ∷ []) e = one (e ∙ ap (λ x. x ∷ []) (sym (ap spaced e) ∙ spaced_pieces w))
    by (p ∷ q ∷ ps) e = more p q ps e (none_or (form w) (λ x f. let g = one_piece w (h w x f) in let n : length (words w) ≡ 1 = ap length g in let m : 2 ≤ length (words w) = omega (arith, ap length e) in omega (arith, n, m)))
