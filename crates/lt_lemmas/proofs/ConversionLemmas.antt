-- A number's text reads back, and no other text reads as the number; conversion of null; kinds whose field numbers rise.
use Rattle.std.proofs.Common.{List, [], ap, arith, false, le-leb, leb-true, lt-ltb, ltb-true, ne_eqb, negsuc, pos, refl, suc, sym, true, ℕ, ℤ, ◌*◌, ◌++◌, ◌+◌, ◌-◌, ◌<◌, ◌^◌, ◌∙◌, ◌∷◌, ◌≡◌, ◌≤◌}
use Rattle.std.proofs.lemmas.Bool.{and_from, and_parts, eq-eqb, eqb-true}
use Rattle.std.specs.Prelude.{Bool, IsTrue, None, Some, cond, int_le, nat_lt, ◌%◌, ◌&&◌, ◌/◌, ◌==◌}
use Rattle.std.proofs.lemmas.List.Sums.{fold-append}
use Rattle.std.specs.Fmt.{decimal, signed_decimal}
use Rattle.std.proofs.lemmas.Fmt.{IsAscii-signed, decimal_by_steps}
use lib.Signed.{mag}
use Rattle.std.specs.Str.{is_utf8}
use Rattle.std.proofs.lemmas.Str.{IsUtf8-from_ascii, is_utf8-from_IsUtf8}
use Rattle.lt_terms.specs.Conversion.{at_rank, digits_worth, number_of_text, number_spelled, same_bytes}
use Rattle.lt_terms.specs.Value.{fits_32, fits_64, null_value}
use Rattle.lt_terms.specs.declared.Rank.{Rank}
use Rattle.lt_terms.specs.Kind.{FieldKinds, Kind, enumeration, field_kind, no_kinds, plain, structured}
use Rattle.lt_terms.specs.declared.Rank.TheVariants as rank

-- ---- decimal texts

pub same_bytes-self : (t : List ℕ) → same_bytes t t ≡ true
same_bytes-self [] = refl
same_bytes-self (c ∷ t) = rw (eq-eqb c c refl) (same_bytes-self t)

pub same_bytes-same : (s t : List ℕ) → same_bytes s t ≡ true → s ≡ t
same_bytes-same [] [] h = refl
same_bytes-same [] (d ∷ t) h = cc
same_bytes-same (c ∷ s) [] h = cc
same_bytes-same (c ∷ s) (d ∷ t) h = let p = and_parts (c == d) (same_bytes s t) h in
    let e : c ≡ d = eqb-true c d p.0 in let f : s ≡ t = same_bytes-same s t p.1 in cc

-- no sign in front
pub unsigned_text : List ℕ → Type 0
unsigned_text [] = Unit {0}
unsigned_text (c ∷ ds) = 48 ≤ c

more_digits : (n : ℕ) (ds : List ℕ) → 10 ≤ n → (digits_worth ds ≡ n / 10) × unsigned_text ds → (digits_worth (ds ++ ((48 + n % 10) ∷ [])) ≡ n) × unsigned_text (ds ++ ((48 + n % 10) ∷ []))
unfolding unsigned_text
more_digits n [] h p = (let e : 0 ≡ n / 10 = p.0 in absurd (omega (arith, e)), omega arith)
more_digits n (c ∷ ds) h p = (fold-append (λ n d. 10 * n + (d - 48)) 0 (c ∷ ds) ((48 + n % 10) ∷ []) ∙ omega (arith, p.0), p.1)

pub decimal_reads : (n : ℕ) → n < 2 ^ 64 → (digits_worth (decimal n) ≡ n) × unsigned_text (decimal n)
unfolding unsigned_text
decimal_reads n h = decimal_by_steps (λ n ds. (digits_worth ds ≡ n) × unsigned_text ds) (λ n h. (omega arith, omega arith)) more_digits n h

spelled_unsigned : (ds : List ℕ) → unsigned_text ds → number_spelled ds ≡ pos (digits_worth ds)
unfolding unsigned_text
spelled_unsigned [] h = refl
spelled_unsigned (c ∷ ds) h = rw (ne_eqb c 45 (λ e. omega arith)) refl

pub mag_fits : (z : ℤ) → IsTrue (fits_64 z) → mag z < 2 ^ 63
mag_fits (pos n) h = ltb-true n (2 ^ 63) h
mag_fits (negsuc n) h = let p = leb-true n (2 ^ 63 - 1) (and_parts (int_le (negsuc (2 ^ 63 - 1)) (negsuc n)) true h).0 in omega (arith, p)

spelled-decimal : (z : ℤ) → mag z < 2 ^ 63 → number_spelled (signed_decimal z) ≡ z
spelled-decimal (pos n) h = let r = decimal_reads n (omega arith) in spelled_unsigned (decimal n) r.1 ∙ ap pos r.0
spelled-decimal (negsuc n) h = let r = decimal_reads (suc n) (omega arith) in rw r.0 refl

-- a number's text reads back to the number
pub number_of_text-decimal : (z : ℤ) → IsTrue (fits_64 z) → number_of_text (signed_decimal z) ≡ Some z
unfolding number_of_text
number_of_text-decimal z h = rw (spelled-decimal z (mag_fits z h)) (rw same_bytes-self refl)

by_test : (t : List ℕ) (b : Bool) (y z : ℤ) → same_bytes (signed_decimal y) t ≡ b → cond b (Some y) None ≡ Some z → signed_decimal z ≡ t
by_test t true y z h e = let same : signed_decimal y ≡ t = same_bytes-same _ t h in let f : y ≡ z = cc in ap signed_decimal (sym f) ∙ same
by_test t false y z h e = cc

-- and a text that reads as a number is the number's
pub decimal-number_of_text : (t : List ℕ) (z : ℤ) → number_of_text t ≡ Some z → signed_decimal z ≡ t
unfolding number_of_text
decimal-number_of_text t z e = by_test t (same_bytes (signed_decimal (number_spelled t)) t) (number_spelled t) z refl e

pub utf8-decimal : (z : ℤ) → IsTrue (fits_64 z) → IsTrue (is_utf8 (signed_decimal z))
utf8-decimal z h = is_utf8-from_IsUtf8 _ (IsUtf8-from_ascii _ (IsAscii-signed z (mag_fits z h)))

-- ---- ranks

pub at_rank-null : (r : Rank) → at_rank r null_value ≡ null_value
unfolding at_rank
at_rank-null rank.Bool = refl
at_rank-null rank.Int32 = refl
at_rank-null rank.Int64 = refl
at_rank-null rank.Text = refl
at_rank-null rank.Bytes = refl

-- ---- up and down the chain

pub fits_wider : (z : ℤ) → IsTrue (fits_32 z) → IsTrue (fits_64 z)
fits_wider (pos n) h = lt-ltb n (2 ^ 63) (omega (arith, ltb-true n (2 ^ 31) h))
fits_wider (negsuc n) h = and_from _ true (le-leb n (2 ^ 63 - 1) (omega (arith, leb-true n (2 ^ 31 - 1) (and_parts (int_le (negsuc (2 ^ 31 - 1)) (negsuc n)) true h).0))) refl

-- ---- kinds in which the field numbers of each struct rise

abbrev mutual
  pub is_rising : Kind → Bool
  is_rising (plain r) = true
  is_rising (enumeration names) = true
  is_rising (structured ks) = are_rising 0 ks

  pub are_rising : ℕ → FieldKinds → Bool
  are_rising before no_kinds = true
  are_rising before (field_kind n name k ks) = nat_lt before n && is_rising k && are_rising n ks
