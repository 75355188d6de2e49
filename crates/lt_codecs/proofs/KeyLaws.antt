-- The order of keys' bytes is the order of their parts, and equal bytes are equal keys.
use Rattle.std.proofs.Common.{List, [], add-mul, ap, append-nil, append_assoc, arith, div-add-mod', div-one, leb-true, length, ltb-true, ltb→lt, mod-eq_of_lt, mod-lt, mul-le-mul_right, mul_assoc, mul_comm, negsuc, pos, pow-suc, refl, suc, suc-mul, sym, true, zero, ℕ, ℤ, ◌%◌, ◌*◌, ◌++◌, ◌+◌, ◌-◌, ◌/◌, ◌<ℤ◌, ◌<◌, ◌^◌, ◌∙◌, ◌∷◌, ◌≡◌, ◌≤◌}
use Rattle.std.specs.Cmp.{int_ranks, nat_cmp_is, ranks}
use Rattle.std.specs.declared.cmp.Ordering.{Ordering}
use Rattle.std.specs.declared.cmp.Ordering.TheVariants.{Equal, Greater, Less}
use Rattle.std.specs.Ordering.{MatchOrdering, int_cmp, nat_cmp, ordering_then}
use Rattle.std.proofs.lemmas.Nat.{mod-mul-add}
use Rattle.std.specs.Int.{byte_at, bytes_high_first, to_be_bytes, w32, w64}
use Rattle.std.specs.Prelude.{IsTrue, flat_map, nat_le}
use Rattle.std.proofs.lemmas.Map.Lookups.{exact_bytes, exact_signed, exact_unsigned}
use Rattle.lt_terms.specs.Key.{AreKeysPrefixFree, KeepsOrder, KeyPart, bytes_cmp, escaped, int_part, is_key_of, is_part_of, key_bytes, key_cmp, number_key, part_bytes, part_cmp, text_part}
use Rattle.lt_terms.specs.Value.{fits_64}
use Rattle.lt_terms.specs.declared.KeyKind.{KeyKind}
use Rattle.lt_codecs.proofs.KeyLemmas.{escaped_cmp, then_assoc}
use Rattle.lt_codecs.proofs.ListFacts.{first, second}
use Rattle.lt_terms.specs.declared.KeyKind.TheVariants as key_kind

-- ---- numbers, the greatest byte first

higher : (m p q r s : ℕ) → p < q → r < m → p * m + r < q * m + s
higher m p q r s h rm =
    let k : suc p * m ≤ q * m = mul-le-mul_right m (omega (arith, h)) in
    omega (arith, k, suc-mul p m, rm)

then_cmp : (m p q r s : ℕ) → r < m → s < m → ordering_then (nat_cmp p q) (nat_cmp r s) ≡ nat_cmp (p * m + r) (q * m + s)
then_cmp m p q r s rm sm = nat_cmp_is (p * m + r) (q * m + s) (ordering_then (nat_cmp p q) (nat_cmp r s)) (by (nat_cmp p q) (nat_cmp r s) (ranks p q) (ranks r s))
  where
    by : (o u : Ordering) → MatchOrdering o (p < q) (p ≡ q) (q < p) → MatchOrdering u (r < s) (r ≡ s) (s < r) → MatchOrdering (ordering_then o u) (p * m + r < q * m + s) (p * m + r ≡ q * m + s) (q * m + s < p * m + r)
    by Less u h i = higher m p q r s h rm
    by Greater u h i = higher m q p s r h sm
    by Equal Less h i = let e : p * m ≡ q * m = ap (λ t. t * m) h in omega (arith, e, i)
    by Equal Equal h i = let e : p * m ≡ q * m = ap (λ t. t * m) h in omega (arith, e, i)
    by Equal Greater h i = let e : p * m ≡ q * m = ap (λ t. t * m) h in omega (arith, e, i)

split_mod : (m n : ℕ) → 0 < m → n % (m * 256) ≡ n / m % 256 * m + n % m
split_mod m n h =
    let a = n / m / 256 in
    let d = n / m % 256 in
    let r : n % m < m = mod-lt n h in
    let small : d * m + n % m < m * 256 = omega (arith, higher m d 256 (n % m) 0 (omega arith) r, mul_comm 256 m) in
    let f : (a * 256 + d) * m ≡ n / m * m = ap (λ t. t * m) (div-add-mod' (n / m) 256) in
    let g : a * (256 * m) ≡ a * (m * 256) = ap (λ t. a * t) (mul_comm 256 m) in
    let e : a * (m * 256) + (d * m + n % m) ≡ n = omega (arith, div-add-mod' n m, f, g, add-mul (a * 256) d m, mul_assoc a 256 m) in
    ap (λ t. t % (m * 256)) (sym e) ∙ mod-mul-add a (m * 256) (d * m + n % m) small

pow_256_pos : (k : ℕ) → 0 < 256 ^ k
pow_256_pos zero = omega arith
pow_256_pos (suc k) = omega (arith, pow-suc 256 k, pow_256_pos k)

byte_is : (k n : ℕ) → byte_at k n ≡ n / 256 ^ k % 256
byte_is zero n = ap (λ t. t % 256) (sym (div-one n))
byte_is (suc k) n = refl

low_bytes : (k n : ℕ) → n % 256 ^ suc k ≡ byte_at k n * 256 ^ k + n % 256 ^ k
low_bytes k n = ap (λ t. n % t) (pow-suc 256 k) ∙ split_mod (256 ^ k) n (pow_256_pos k) ∙ ap (λ t. t * 256 ^ k + n % 256 ^ k) (sym (byte_is k n))

pub high_first_cmp : (k a b : ℕ) → bytes_cmp (bytes_high_first k a) (bytes_high_first k b) ≡ nat_cmp (a % 256 ^ k) (b % 256 ^ k)
high_first_cmp zero a b = nat_cmp_is (a % 1) (b % 1) Equal (omega arith)
high_first_cmp (suc k) a b =
    ap (ordering_then (nat_cmp (byte_at k a) (byte_at k b))) (high_first_cmp k a b)
    ∙ then_cmp (256 ^ k) (byte_at k a) (byte_at k b) (a % 256 ^ k) (b % 256 ^ k) (mod-lt a (pow_256_pos k)) (mod-lt b (pow_256_pos k))
    ∙ ap (λ t. nat_cmp t (byte_at k b * 256 ^ k + b % 256 ^ k)) (sym (low_bytes k a))
    ∙ ap (λ t. nat_cmp (a % 256 ^ suc k) t) (sym (low_bytes k b))

-- equally long spellings of numbers are in the order of the numbers
pub to_be_bytes_cmp_8 : (a b : ℕ) → a < 2 ^ 64 → b < 2 ^ 64 → bytes_cmp (to_be_bytes w64 a) (to_be_bytes w64 b) ≡ nat_cmp a b
to_be_bytes_cmp_8 a b h i = high_first_cmp 8 a b ∙ ap (λ t. nat_cmp t (b % 2 ^ 64)) (mod-eq_of_lt h) ∙ ap (λ t. nat_cmp a t) (mod-eq_of_lt i)

pub to_be_bytes_cmp_4 : (a b : ℕ) → a < 2 ^ 32 → b < 2 ^ 32 → bytes_cmp (to_be_bytes w32 a) (to_be_bytes w32 b) ≡ nat_cmp a b
to_be_bytes_cmp_4 a b h i = high_first_cmp 4 a b ∙ ap (λ t. nat_cmp t (b % 2 ^ 32)) (mod-eq_of_lt h) ∙ ap (λ t. nat_cmp a t) (mod-eq_of_lt i)

-- ---- one text after another

then_equal : (a : Ordering) → ordering_then a Equal ≡ a
then_equal Less = refl
then_equal Equal = refl
then_equal Greater = refl

both_equal : (a b : Ordering) → ordering_then a b ≡ Equal → (a ≡ Equal) × (b ≡ Equal)
both_equal Less b h = absurd cc
both_equal Equal b h = (refl, h)
both_equal Greater b h = absurd cc

append_cmp : (a b x y : List ℕ) → length a ≡ length b → bytes_cmp (a ++ x) (b ++ y) ≡ ordering_then (bytes_cmp a b) (bytes_cmp x y)
append_cmp [] [] x y h = refl
append_cmp [] (b ∷ bs) x y h = absurd (omega (arith, h))
append_cmp (a ∷ at) [] x y h = absurd (omega (arith, h))
append_cmp (a ∷ at) (b ∷ bs) x y h = ap (ordering_then (nat_cmp a b)) (append_cmp at bs x y (omega (arith, h))) ∙ then_assoc (nat_cmp a b) (bytes_cmp at bs) (bytes_cmp x y)

itself : (a : List ℕ) → bytes_cmp a a ≡ Equal
itself [] = refl
itself (a ∷ at) = ap (λ o. ordering_then o (bytes_cmp at at)) (sym (nat_cmp_is a a Equal refl)) ∙ itself at

-- ---- signed numbers

key_below : (z : ℤ) → IsTrue (fits_64 z) → number_key z < 2 ^ 64
key_below (pos n) h = omega (arith, ltb-true n (2 ^ 63) h)
key_below (negsuc n) h = omega arith

key_rises : (a b : ℤ) → IsTrue (fits_64 a) → IsTrue (fits_64 b) → a <ℤ b → number_key a < number_key b
key_rises (pos m) (pos n) h i l = omega (arith, ltb→lt m n l.lt)
key_rises (pos m) (negsuc n) h i l = absurd l.lt
key_rises (negsuc m) (pos n) h i l = omega arith
key_rises (negsuc m) (negsuc n) h i l = omega (arith, leb-true m (2 ^ 63 - 1) (first (nat_le m (2 ^ 63 - 1)) true h), ltb→lt n m l.lt)

-- a number's key has the order of the number
pub number_key_cmp : (a b : ℤ) → IsTrue (fits_64 a) → IsTrue (fits_64 b) → nat_cmp (number_key a) (number_key b) ≡ int_cmp a b
number_key_cmp a b h i = sym (nat_cmp_is (number_key a) (number_key b) (int_cmp a b) (by (int_cmp a b) (int_ranks a b)))
  where
    by : (o : Ordering) → MatchOrdering o (a <ℤ b) (a ≡ b) (b <ℤ a) → MatchOrdering o (number_key a < number_key b) (number_key a ≡ number_key b) (number_key b < number_key a)
    by Less l = key_rises a b h i l
    by Equal e = ap number_key e
    by Greater l = key_rises b a i h l

-- ---- parts and keys, whatever follows

pub part_bytes_cmp : (k : KeyKind) (p q : KeyPart) (x y : List ℕ) → IsTrue (is_part_of k p) → IsTrue (is_part_of k q)
    → bytes_cmp (part_bytes p ++ x) (part_bytes q ++ y) ≡ ordering_then (part_cmp p q) (bytes_cmp x y)
part_bytes_cmp key_kind.Int64 (int_part a) (int_part b) x y h i =
    append_cmp (part_bytes (int_part a)) (part_bytes (int_part b)) x y refl
    ∙ ap (λ o. ordering_then o (bytes_cmp x y)) (to_be_bytes_cmp_8 (number_key a) (number_key b) (key_below a h) (key_below b i) ∙ number_key_cmp a b h i)
part_bytes_cmp key_kind.Int64 (int_part a) (text_part t) x y h i = absurd cc
part_bytes_cmp key_kind.Int64 (text_part s) q x y h i = absurd cc
part_bytes_cmp key_kind.Text (int_part a) q x y h i = absurd cc
part_bytes_cmp key_kind.Text (text_part s) (int_part b) x y h i = absurd cc
part_bytes_cmp key_kind.Text (text_part s) (text_part t) x y h i = rw (append_assoc (escaped s) (0 ∷ 1 ∷ []) x, append_assoc (escaped t) (0 ∷ 1 ∷ []) y) (escaped_cmp s t x y)

parts_cmp : (ks : List KeyKind) (ps qs : List KeyPart) (x y : List ℕ) → IsTrue (is_key_of ks ps) → IsTrue (is_key_of ks qs)
    → bytes_cmp (flat_map part_bytes ps ++ x) (flat_map part_bytes qs ++ y) ≡ ordering_then (key_cmp ps qs) (bytes_cmp x y)
parts_cmp [] [] [] x y h i = refl
parts_cmp [] [] (q ∷ qs) x y h i = absurd cc
parts_cmp [] (p ∷ ps) qs x y h i = absurd cc
parts_cmp (k ∷ ks) [] qs x y h i = absurd cc
parts_cmp (k ∷ ks) (p ∷ ps) [] x y h i = absurd cc
parts_cmp (k ∷ ks) (p ∷ ps) (q ∷ qs) x y h i =
    ap (λ t. bytes_cmp t ((part_bytes q ++ flat_map part_bytes qs) ++ y)) (append_assoc (part_bytes p) (flat_map part_bytes ps) x)
    ∙ ap (bytes_cmp (part_bytes p ++ (flat_map part_bytes ps ++ x))) (append_assoc (part_bytes q) (flat_map part_bytes qs) y)
    ∙ part_bytes_cmp k p q (flat_map part_bytes ps ++ x) (flat_map part_bytes qs ++ y) (first (is_part_of k p) _ h) (first (is_part_of k q) _ i)
    ∙ ap (ordering_then (part_cmp p q)) (parts_cmp ks ps qs x y (second (is_part_of k p) _ h) (second (is_part_of k q) _ i))
    ∙ then_assoc (part_cmp p q) (key_cmp ps qs) (bytes_cmp x y)

pub key_bytes_cmp : (table : ℕ) (ks : List KeyKind) (ps qs : List KeyPart) (x y : List ℕ) → IsTrue (is_key_of ks ps) → IsTrue (is_key_of ks qs)
    → bytes_cmp (key_bytes table ps ++ x) (key_bytes table qs ++ y) ≡ ordering_then (key_cmp ps qs) (bytes_cmp x y)
key_bytes_cmp table ks ps qs x y h i =
    ap (λ t. bytes_cmp t (key_bytes table qs ++ y)) (append_assoc (to_be_bytes w32 table) (flat_map part_bytes ps) x)
    ∙ ap (bytes_cmp (to_be_bytes w32 table ++ (flat_map part_bytes ps ++ x))) (append_assoc (to_be_bytes w32 table) (flat_map part_bytes qs) y)
    ∙ append_cmp (to_be_bytes w32 table) (to_be_bytes w32 table) (flat_map part_bytes ps ++ x) (flat_map part_bytes qs ++ y) refl
    ∙ ap (λ o. ordering_then o (bytes_cmp (flat_map part_bytes ps ++ x) (flat_map part_bytes qs ++ y))) (itself (to_be_bytes w32 table))
    ∙ parts_cmp ks ps qs x y h i

pub keeps_order : KeepsOrder
keeps_order table ks ps qs h i =
    ap (λ t. bytes_cmp t (key_bytes table qs)) (sym (append-nil (key_bytes table ps)))
    ∙ ap (bytes_cmp (key_bytes table ps ++ [])) (sym (append-nil (key_bytes table qs)))
    ∙ key_bytes_cmp table ks ps qs [] [] h i
    ∙ then_equal (key_cmp ps qs)

-- ---- equal bytes are equal keys

part_exact : (p q : KeyPart) → part_cmp p q ≡ Equal → p ≡ q
part_exact (int_part a) (int_part b) h = ap int_part (exact_signed a b h)
part_exact (int_part a) (text_part t) h = absurd cc
part_exact (text_part s) (int_part b) h = absurd cc
part_exact (text_part s) (text_part t) h = ap text_part (exact_bytes s t h)

pub key_exact : (ps qs : List KeyPart) → key_cmp ps qs ≡ Equal → ps ≡ qs
key_exact [] [] h = refl
key_exact [] (q ∷ qs) h = absurd cc
key_exact (p ∷ ps) [] h = absurd cc
key_exact (p ∷ ps) (q ∷ qs) h =
    let e = both_equal (part_cmp p q) (key_cmp ps qs) h in
    ap (λ t. t ∷ ps) (part_exact p q e.0) ∙ ap (λ t. q ∷ t) (key_exact ps qs e.1)

pub keys_prefix_free : AreKeysPrefixFree
keys_prefix_free table ks ps qs x y h i e =
    let same : ordering_then (key_cmp ps qs) (bytes_cmp x y) ≡ Equal = sym (key_bytes_cmp table ks ps qs x y h i) ∙ ap (λ t. bytes_cmp t (key_bytes table qs ++ y)) e ∙ itself (key_bytes table qs ++ y) in
    let b = both_equal (key_cmp ps qs) (bytes_cmp x y) same in
    (key_exact ps qs b.0, exact_bytes x y b.1)

-- bytes are of at most one key
pub one_key : (table : ℕ) (ks : List KeyKind) (ps qs : List KeyPart) → IsTrue (is_key_of ks ps) → IsTrue (is_key_of ks qs) → key_bytes table ps ≡ key_bytes table qs → ps ≡ qs
one_key table ks ps qs h i e = (keys_prefix_free table ks ps qs [] [] h i (ap (λ t. t ++ []) e)).0

-- the keys of a table stand together, in the order of the tables' numbers
pub tables_cmp : (t u : ℕ) (ps qs : List KeyPart) (x y : List ℕ) → t < 2 ^ 32 → u < 2 ^ 32
    → bytes_cmp (key_bytes t ps ++ x) (key_bytes u qs ++ y) ≡ ordering_then (nat_cmp t u) (bytes_cmp (flat_map part_bytes ps ++ x) (flat_map part_bytes qs ++ y))
tables_cmp t u ps qs x y h i =
    ap (λ z. bytes_cmp z (key_bytes u qs ++ y)) (append_assoc (to_be_bytes w32 t) (flat_map part_bytes ps) x)
    ∙ ap (bytes_cmp (to_be_bytes w32 t ++ (flat_map part_bytes ps ++ x))) (append_assoc (to_be_bytes w32 u) (flat_map part_bytes qs) y)
    ∙ append_cmp (to_be_bytes w32 t) (to_be_bytes w32 u) (flat_map part_bytes ps ++ x) (flat_map part_bytes qs ++ y) refl
    ∙ ap (λ o. ordering_then o (bytes_cmp (flat_map part_bytes ps ++ x) (flat_map part_bytes qs ++ y))) (to_be_bytes_cmp_4 t u h i)

pub one_table : (t u : ℕ) (ps qs : List KeyPart) (x y : List ℕ) → t < 2 ^ 32 → u < 2 ^ 32 → key_bytes t ps ++ x ≡ key_bytes u qs ++ y → t ≡ u
one_table t u ps qs x y h i e =
    let same : ordering_then (nat_cmp t u) (bytes_cmp (flat_map part_bytes ps ++ x) (flat_map part_bytes qs ++ y)) ≡ Equal = sym (tables_cmp t u ps qs x y h i) ∙ ap (λ z. bytes_cmp z (key_bytes u qs ++ y)) e ∙ itself (key_bytes u qs ++ y) in
    exact_unsigned t u (both_equal (nat_cmp t u) _ same).0
