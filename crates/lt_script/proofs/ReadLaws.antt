-- What is read of a line's words: of one that is the last, of two, and of a line that may have options.
use Rattle.std.proofs.Common.{◌≡◌, ℕ, Bool, true, false, List, ◌∷◌, refl, sym, ap, ◌∙◌}
use Rattle.std.specs.Prelude.{None, Option, Some, cond, if◌then◌else◌, not, option_and_then, option_map}
use Rattle.lt_terms.specs.Conversion.{same_bytes}
use Rattle.lt_tables.specs.Schema.{when}
use Rattle.lt_tables.specs.Query.{Command}
use Rattle.lt_words.specs.Script.{one_number, two_words, words}
use Rattle.lt_words.specs.Lines.{has_options}
use Rattle.lt_lemmas.proofs.ConversionLemmas.{same_bytes-same}
use Rattle.lt_script.specs.Lines.{IsParted, without_options}
use Rattle.lt_script.proofs.WordLaws.{IsLast, IsOneWord, last_word, more, one, parted_words}

-- ---- options

-- a command whose line has none
pub plain_map : {A : Type 0} (line : List ℕ) (make : A → Command) → ((x : A) → has_options line (make x) ≡ false) → (o : Option A) → without_options line (option_map make o) ≡ option_map make o
plain_map line make h None = refl
plain_map line make h (Some x) = ap (λ b. when (not b) (make x)) (h x)

-- commands whose lines have some
pub none_map : {A : Type 0} (line : List ℕ) (make : A → Command) → ((x : A) → has_options line (make x) ≡ true) → (o : Option A) → without_options line (option_map make o) ≡ None
none_map line make h None = refl
none_map line make h (Some x) = ap (λ b. when (not b) (make x)) (h x)

pub none_then : {A : Type 0} (line : List ℕ) (f : A → Option Command) → ((x : A) → without_options line (f x) ≡ None) → (o : Option A) → without_options line (option_and_then f o) ≡ None
none_then line f h None = refl
none_then line f h (Some x) = h x

pub none_if : (line : List ℕ) (t : Bool) (o p : Option Command) → without_options line o ≡ None → without_options line p ≡ None → without_options line (if t then o else p) ≡ None
none_if line true o p h k = h
none_if line false o p h k = k

-- ---- a word that names none of the commands

pub no_name : {A : Type 0} (w word : List ℕ) (o p : Option A) → (w ≡ word → o ≡ None) → p ≡ None → (if same_bytes w word then o else p) ≡ None
no_name {A} w word o p h k = by (same_bytes w word) refl
  where
    by : (b : Bool) → same_bytes w word ≡ b → cond b o p ≡ None
    by true e = h (same_bytes-same w word e)
    by false e = k

-- ---- a last word

pub one_last : (make : ℕ → Command) (form : List ℕ → Option ℕ) → IsOneWord form → (w : List ℕ) → one_number make form (words w) ≡ option_map make (form w)
one_last make form h w = by (last_word form h w)
  where
    by : IsLast form w → one_number make form (words w) ≡ option_map make (form w)
    by (one e) = ap (one_number make form) e
    by (more v u ws e n) = ap (one_number make form) e ∙ ap (option_map make) (sym n)

pub one_read : (line : List ℕ) (make : ℕ → Command) (form : List ℕ → Option ℕ) → IsOneWord form → ((x : ℕ) → has_options line (make x) ≡ false) → (w : List ℕ) → without_options line (one_number make form (words w)) ≡ option_map make (form w)
one_read line make form h always w = ap (without_options line) (one_last make form h w) ∙ plain_map line make always (form w)

-- ---- two words

-- what is made of two parts
abbrev pub pair : {A B C : Type 0} → (A → B → C) → Option A → Option B → Option C
pair make a b = option_and_then (λ a. option_map (make a) b) a

pub no_first : {A B C : Type 0} (make : A → B → C) (a : Option A) (b : Option B) → None ≡ a → None ≡ pair make a b
no_first make a b e = ap (option_and_then (λ a. option_map (make a) b)) e

pub no_second : {A B C : Type 0} (make : A → B → C) (a : Option A) (b : Option B) → None ≡ b → None ≡ pair make a b
no_second make None b e = refl
no_second make (Some a) b e = ap (option_map (make a)) e

pub pair_is : {A B C : Type 0} (make : A → B → C) (a : Option A) (b : Option B) (x : A) (y : B) → Some x ≡ a → Some y ≡ b → Some (make x y) ≡ pair make a b
pair_is make a b x y e f = ap (option_map (make x)) f ∙ ap (option_and_then (λ a. option_map (make a) b)) e

pub pair_plain : {A B : Type 0} (line : List ℕ) (make : A → B → Command) → ((a : A) (b : B) → has_options line (make a b) ≡ false) → (a : Option A) (b : Option B) → without_options line (pair make a b) ≡ pair make a b
pair_plain line make h None b = refl
pair_plain line make h (Some a) b = plain_map line (make a) (h a) b

-- two words, of which the second is the last
two_last : {A B : Type 0} (make : A → B → Command) (first : List ℕ → Option A) (second : List ℕ → Option B) → IsOneWord second → (v w : List ℕ) → two_words make first second (v ∷ words w) ≡ pair make (first v) (second w)
two_last {A} {B} make first second h v w = by (last_word second h w)
  where
    by : IsLast second w → two_words make first second (v ∷ words w) ≡ pair make (first v) (second w)
    by (one e) = ap (λ ws. two_words make first second (v ∷ ws)) e
    by (more p q ps e n) = ap (λ ws. two_words make first second (v ∷ ws)) e ∙ no_second make (first v) (second w) (sym n)

pub two_read : {A B : Type 0} (line : List ℕ) (make : A → B → Command) (first : List ℕ → Option A) (second : List ℕ → Option B) → IsOneWord second → ((a : A) (b : B) → has_options line (make a b) ≡ false)
    → (rest v w : List ℕ) → IsParted rest v w → without_options line (two_words make first second (words rest)) ≡ pair make (first v) (second w)
two_read line make first second last always rest v w p =
    ap (λ ws. without_options line (two_words make first second ws)) (parted_words rest v w p)
    ∙ ap (without_options line) (two_last make first second last v w) ∙ pair_plain line make always (first v) (second w)
