-- The laws of a format, and that each way to build one keeps them.
use Rattle.std.proofs.Common.{Bool, FitsSigned, List, None, Option, Some, [], ap, append_assoc, arith, cond, drop, eqb, false, inl, inr, leb, length, ltb, negsuc, pos, refl, subst, suc, sym, take, true, zero, ℕ, ℤ, ◌%◌, ◌++◌, ◌+◌, ◌-◌, ◌<◌, ◌^◌, ◌∙◌, ◌∷◌, ◌≡◌, ◌≤◌}
use Rattle.std.proofs.lemmas.List.{append-nil, drop_at, get_or-drop, get_or-take, get_or_past, length-append, length-take, nil_from_length, take-append-drop, take_at}
use Rattle.std.proofs.lemmas.Bool.{and_parts, cases_lt, eqb-true, le-leb, le-ltb, leb-true, lt-ltb, ltb-false, ltb-true}
use Rattle.std.specs.Prelude.{IsTrue, ◌&&◌, ◌↔◌}
use Rattle.std.specs.List.{AllByRecursion, flat_map}
use Rattle.std.proofs.lemmas.List.Concat.{flat_map-cons}
use Rattle.std.specs.Int.{Width, byte_len, cast_signed, cast_unsigned, from_be_bytes, to_be_bytes, w16, w32, w64, w8}
use Rattle.std.proofs.lemmas.Nat.{be_bytes_2, be_bytes_4, be_bytes_8, from_be_bytes-to_be_bytes_2, from_be_bytes-to_be_bytes_4, from_be_bytes-to_be_bytes_8, pow_pos}
use mir.Val.{hbits}
use Rattle.std.proofs.lemmas.Int.{of_z-to_z, to_z-of_z}
use Rattle.std.proofs.Math.Facts.{Fits-lt-pow, Fits-of_lt, Fits-of_z, sfits_to_z}
use Rattle.std.specs.Str.{bytes_eq, is_utf8}
use Rattle.std.proofs.lemmas.Slice.Eq.{bytes_eq-Decides}
use Rattle.lt_terms.specs.Value.{fits_32, fits_64}
use Rattle.lt_codecs.specs.Codec.{Codec, IsBytes, OptionalLawful, body_of, byte, bytes16, bytes32, bytes_by, counted, empty, i32, i64, literal, mapped, nothing, number, of_parts, on_tag, optional, optional_behind, optional_spell, read_times, signed, sized, stated, tagged, text32, then_by, times, u16, u32, u64, u8, where_true, whole, ◌>>=◌, ◌then◌}
use Rattle.lt_codecs.specs.CodecLaws.{KeepCodecs, Parts, SaysBehind}
pub use Rattle.lt_codecs.specs.Codec.{IsCodec, Takes}
pub use Rattle.lt_codecs.specs.CodecLaws.{IsAgain, IsBehind, IsSigned, IsTagged, IsWide, States, within}

pub IsBytes-drop : (n : ℕ) (bytes : List ℕ) → IsBytes bytes → IsBytes (drop n bytes)
IsBytes-drop n bytes h i = rw get_or-drop (h (n + i))

pub IsBytes-take : (n : ℕ) (bytes : List ℕ) → IsBytes bytes → IsBytes (take n bytes)
IsBytes-take n bytes h i =
    elim (cases_lt i n) [
      | inl lt ↦ rw (get_or-take n bytes i 0 lt) (h i)
      | inr le ↦ rw (get_or_past (take n bytes) i 0 (omega (arith, length-take n bytes))) (omega arith)
    ]

pub Takes-then : (a x b y c : List ℕ) → Takes a x b → Takes b y c → Takes a (x ++ y) c
Takes-then a x b y c p q = record { parts = p.parts ∙ ap (λ (t : List ℕ). x ++ t) q.parts ∙ sym (append_assoc x y c); rest_fits = q.rest_fits }

pub bind_some : {A B : Type 0} (o : Option A) (f : A → Option B) (y : B) → (o >>= f) ≡ Some y → (x : A) × (o ≡ Some x) × (f x ≡ Some y)
bind_some (Some x) f y e = (x, refl, e)
bind_some None f y e = absurd cc

pub guard_some : {A : Type 0} (b : Bool) (x y : A) → cond b (Some x) None ≡ Some y → (b ≡ true) × (x ≡ y)
guard_some true x y e = (refl, cc)
guard_some false x y e = absurd cc

pub guard_then : {A : Type 0} (b : Bool) (o : Option A) (y : A) → cond b o None ≡ Some y → (b ≡ true) × (o ≡ Some y)
guard_then true o y e = (refl, e)
guard_then false o y e = absurd cc

pub guard_none : {A : Type 0} (b : Bool) (x y : A) → cond b None (Some x) ≡ Some y → (b ≡ false) × (x ≡ y)
guard_none true x y e = absurd cc
guard_none false x y e = (refl, cc)

abbrev pub some : {A : Type 0} → A → Option A
some x = Some x

pub some_is : {A : Type 0} (x y : A) → some x ≡ some y → x ≡ y
some_is x y e = cc

-- spellings do not begin one another, whatever follows them
pub spell_apart : {A : Type 0} (c : Codec A) → IsCodec c → (x y : A) (r s : List ℕ) → c.Lawful x → c.Lawful y → c.spell x ++ r ≡ c.spell y ++ s → (x ≡ y) × (r ≡ s)
spell_apart {A} c p x y r s h i e =
    let same = some_is (x, r) (y, s) (sym (p.again x r h) ∙ ap c.read e ∙ p.again y s i) in
    (ap (λ (z : A × List ℕ). z.0) same, ap (λ (z : A × List ℕ). z.1) same)

-- bytes that are not read begin with no lawful spelling
pub unread : {A : Type 0} (c : Codec A) → IsCodec c → (bytes : List ℕ) → c.read bytes ≡ None → (x : A) (rest : List ℕ) → c.Lawful x → bytes ≡ c.spell x ++ rest → ⊥
unread c p bytes none x rest lawful e = let read = p.again x rest lawful in let front = ap c.read e in cc

pub then_is : {A B : Type 0} (a : Codec A) (b : Codec B) → IsCodec a → IsCodec b → IsCodec (a then b)
then_is {A} {B} a b p q = record {
  takes = λ bytes x rest fits e.
      let one = bind_some (a.read bytes) (λ x. b.read x.1 >>= λ y. Some ((x.0, y.0), y.1)) (x, rest) e in
      let two = bind_some (b.read one.0.1) (λ y. Some ((one.0.0, y.0), y.1)) (x, rest) one.2 in
      let t = p.takes bytes one.0.0 one.0.1 fits one.1 in
      let u = q.takes one.0.1 two.0.0 two.0.1 t.0.rest_fits two.1 in
      let both = Takes-then bytes (a.spell one.0.0) one.0.1 (b.spell two.0.0) two.0.1 t.0 u.0 in
      let made : (A × B) × List ℕ = ((one.0.0, two.0.0), two.0.1) in
      subst (λ (z : (A × B) × List ℕ). Takes bytes (a.spell z.0.0 ++ b.spell z.0.1) z.1 × (a.Lawful z.0.0 × b.Lawful z.0.1)) (some_is made (x, rest) two.2) (both, (t.1, u.1));
  again = λ x rest lawful.
      ap (a then b).read (append_assoc (a.spell x.0) (b.spell x.1) rest) ∙ rw (p.again x.0 (b.spell x.1 ++ rest) lawful.0, q.again x.1 rest lawful.1) refl;
}

pub mapped_is : {A B : Type 0} (to : A → B) (from : B → A) (a : Codec A) → ((x : A) → a.Lawful x → from (to x) ≡ x) → ((y : B) → a.Lawful (from y) → to (from y) ≡ y) → IsCodec a → IsCodec (mapped to from a)
mapped_is {A} {B} to from a back forth p = record {
  takes = λ bytes y rest fits e.
      let one = bind_some (a.read bytes) (λ x. Some (to x.0, x.1)) (y, rest) e in
      let t = p.takes bytes one.0.0 one.0.1 fits one.1 in
      let made : B × List ℕ = (to one.0.0, one.0.1) in
      let same : from (to one.0.0) ≡ one.0.0 = back one.0.0 t.1 in
      subst (λ (z : B × List ℕ). Takes bytes (a.spell (from z.0)) z.1 × a.Lawful (from z.0)) (some_is made (y, rest) one.2)
      (subst (λ (x : A). Takes bytes (a.spell x) one.0.1 × a.Lawful x) (sym same) t);
  again = λ y rest lawful. rw (p.again (from y) rest lawful, forth y lawful) refl;
}

pub where_true_is : {A : Type 0} (test : A → Bool) (a : Codec A) → IsCodec a → IsCodec (where_true test a)
where_true_is {A} test a p = record {
  takes = λ bytes y rest fits e.
      let one = bind_some (a.read bytes) (λ x. cond (test x.0) (Some x) None) (y, rest) e in
      let g = guard_some (test one.0.0) one.0 (y, rest) one.2 in
      let t = p.takes bytes one.0.0 one.0.1 fits one.1 in
      subst (λ (z : A × List ℕ). Takes bytes (a.spell z.0) z.1 × (a.Lawful z.0 × IsTrue (test z.0))) g.1 (t.0, (t.1, g.0));
  again = λ y rest lawful. rw (p.again y rest lawful.0, lawful.1) refl;
}

pub times_take : {A : Type 0} (a : Codec A) → IsCodec a → (n : ℕ) (bytes : List ℕ) (xs : List A) (rest : List ℕ) → IsBytes bytes → read_times a.read n bytes ≡ Some (xs, rest) → Takes bytes (flat_map a.spell xs) rest × (length xs ≡ n) × AllByRecursion a.Lawful xs
times_take {A} a p zero bytes xs rest fits e =
    subst (λ (z : List A × List ℕ). Takes bytes (flat_map a.spell z.0) z.1 × (length z.0 ≡ 0) × AllByRecursion a.Lawful z.0) (some_is ([], bytes) (xs, rest) e) (record { parts = refl; rest_fits = fits }, refl, tt)
times_take {A} a p (suc n) bytes xs rest fits e =
    let one = bind_some (a.read bytes) (λ x. read_times a.read n x.1 >>= λ ys. Some (x.0 ∷ ys.0, ys.1)) (xs, rest) e in
    let two = bind_some (read_times a.read n one.0.1) (λ ys. Some (one.0.0 ∷ ys.0, ys.1)) (xs, rest) one.2 in
    let t = p.takes bytes one.0.0 one.0.1 fits one.1 in
    let u = times_take a p n one.0.1 two.0.0 two.0.1 t.0.rest_fits two.1 in
    let both = Takes-then bytes (a.spell one.0.0) one.0.1 (flat_map a.spell two.0.0) two.0.1 t.0 u.0 in
    let made : List A × List ℕ = (one.0.0 ∷ two.0.0, two.0.1) in
    subst (λ (z : List A × List ℕ). Takes bytes (flat_map a.spell z.0) z.1 × (length z.0 ≡ suc n) × AllByRecursion a.Lawful z.0) (some_is made (xs, rest) two.2) (rw flat_map-cons both, ap suc u.1, (t.1, u.2))

pub times_again : {A : Type 0} (a : Codec A) → IsCodec a → (xs : List A) (rest : List ℕ) → AllByRecursion a.Lawful xs → read_times a.read (length xs) (flat_map a.spell xs ++ rest) ≡ Some (xs, rest)
times_again a p [] rest lawful = refl
times_again a p (x ∷ xs) rest lawful =
    let regrouped : flat_map a.spell (x ∷ xs) ++ rest ≡ a.spell x ++ (flat_map a.spell xs ++ rest) = ap (λ (y : List ℕ). y ++ rest) (flat_map-cons a.spell x xs) ∙ append_assoc (a.spell x) (flat_map a.spell xs) rest in
    ap (read_times a.read (suc (length xs))) regrouped ∙ rw (p.again x (flat_map a.spell xs ++ rest) lawful.0, times_again a p xs rest lawful.1) refl

pub times_is : {A : Type 0} (n : ℕ) (a : Codec A) → IsCodec a → IsCodec (times n a)
times_is n a p = record {
  takes = λ bytes xs rest fits e. let t = times_take a p n bytes xs rest fits e in (t.0, (t.1, t.2));
  again = λ xs rest h. ap (λ (k : ℕ). read_times a.read k (flat_map a.spell xs ++ rest)) (sym h.0) ∙ times_again a p xs rest h.1;
}

-- as many spellings, one after another, do not begin one another
pub spells_apart : {A : Type 0} (a : Codec A) → IsCodec a → (xs ys : List A) (x y : List ℕ) → AllByRecursion a.Lawful xs → AllByRecursion a.Lawful ys → length xs ≡ length ys → flat_map a.spell xs ++ x ≡ flat_map a.spell ys ++ y → (xs ≡ ys) × (x ≡ y)
spells_apart {A} a p xs ys x y h k l e =
    let same = some_is (xs, x) (ys, y) (sym (times_again a p xs x h) ∙ ap (read_times a.read (length xs)) e ∙ ap (λ (n : ℕ). read_times a.read n (flat_map a.spell ys ++ y)) l ∙ times_again a p ys y k) in
    (ap (λ (z : List A × List ℕ). z.0) same, ap (λ (z : List A × List ℕ). z.1) same)

pub counted_is : {A : Type 0} (count : Codec ℕ) (a : Codec A) → IsCodec count → IsCodec a → IsCodec (counted count a)
counted_is {A} count a num p = record {
  takes = λ bytes xs rest fits e.
      let one = bind_some (count.read bytes) (λ n. read_times a.read n.0 n.1) (xs, rest) e in
      let t = num.takes bytes one.0.0 one.0.1 fits one.1 in
      let u = times_take a p one.0.0 one.0.1 xs rest t.0.rest_fits one.2 in
      let both = Takes-then bytes (count.spell one.0.0) one.0.1 (flat_map a.spell xs) rest t.0 u.0 in
      (subst (λ (k : ℕ). Takes bytes (count.spell k ++ flat_map a.spell xs) rest) (sym u.1) both, (subst (λ (k : ℕ). count.Lawful k) (sym u.1) t.1, u.2));
  again = λ xs rest lawful.
      ap (counted count a).read (append_assoc (count.spell (length xs)) (flat_map a.spell xs) rest) ∙ rw (num.again (length xs) (flat_map a.spell xs ++ rest) lawful.0) (times_again a p xs rest lawful.1);
}

-- ---- numbers

pub wide16 : IsWide w16 (2 ^ 16)
wide16 = record {
  len = λ n. refl;
  back = λ bytes len fits. be_bytes_2 bytes _ len fits refl;
  again = λ n lt. from_be_bytes-to_be_bytes_2 n lt;
  below = λ bytes fits. omega (arith, fits 0, fits 1);
}

pub wide32 : IsWide w32 (2 ^ 32)
wide32 = record {
  len = λ n. refl;
  back = λ bytes len fits. be_bytes_4 bytes _ len fits refl;
  again = λ n lt. from_be_bytes-to_be_bytes_4 n lt;
  below = λ bytes fits. omega (arith, fits 0, fits 1, fits 2, fits 3);
}

pub wide64 : IsWide w64 (2 ^ 64)
wide64 = record {
  len = λ n. refl;
  back = λ bytes len fits. be_bytes_8 bytes _ len fits refl;
  again = λ n lt. from_be_bytes-to_be_bytes_8 n lt;
  below = λ bytes fits. omega (arith, fits 0, fits 1, fits 2, fits 3, fits 4, fits 5, fits 6, fits 7);
}

pub number_is : (w : Width) (limit : ℕ) → IsWide w limit → IsCodec (number w limit)
number_is w limit wide = record {
  takes = λ bytes n rest fits e.
      let g = guard_none (ltb (length bytes) (byte_len w)) (from_be_bytes w (take (byte_len w) bytes), drop (byte_len w) bytes) (n, rest) e in
      let long : byte_len w ≤ length bytes = ltb-false _ _ g.0 in
      let n-is : from_be_bytes w (take (byte_len w) bytes) ≡ n = ap (λ (p : ℕ × List ℕ). p.0) g.1 in
      let rest-is : drop (byte_len w) bytes ≡ rest = ap (λ (p : ℕ × List ℕ). p.1) g.1 in
      let front : to_be_bytes w n ≡ take (byte_len w) bytes = rw (← n-is) (wide.back (take (byte_len w) bytes) (omega (arith, length-take (byte_len w) bytes)) (IsBytes-take (byte_len w) bytes fits)) in
      (record { parts = rw (front, ← rest-is) (sym (take-append-drop (byte_len w) bytes)); rest_fits = rw (← rest-is) (IsBytes-drop (byte_len w) bytes fits) }, rw (← n-is) (wide.below (take (byte_len w) bytes) (IsBytes-take (byte_len w) bytes fits)));
  again = λ n rest lt.
      let len = wide.len n in
      let long : ltb (length (to_be_bytes w n ++ rest)) (byte_len w) ≡ false = le-ltb _ _ (omega (arith, length-append (to_be_bytes w n) rest)) in
      rw (long, take_at (to_be_bytes w n) rest (byte_len w) len, drop_at (to_be_bytes w n) rest (byte_len w) len, wide.again n lt) refl;
}

pub u16_is : IsCodec u16
unfolding u16
u16_is = number_is w16 (2 ^ 16) wide16

pub u32_is : IsCodec u32
unfolding u32
u32_is = number_is w32 (2 ^ 32) wide32

pub u64_is : IsCodec u64
unfolding u64
u64_is = number_is w64 (2 ^ 64) wide64

pub wide8 : IsWide w8 (2 ^ 8)
wide8 = record {
  len = λ n. refl;
  back = λ bytes len fits. one_byte bytes len fits;
  again = λ n lt. grind arith;
  below = λ bytes fits. omega (arith, fits 0);
} where
  one_byte : (bytes : List ℕ) → length bytes ≡ 1 → IsBytes bytes → to_be_bytes w8 (from_be_bytes w8 bytes) ≡ bytes
  one_byte (b ∷ []) len fits = let e : b % 256 ≡ b = omega (arith, fits 0) in rw e refl
  one_byte [] len fits = absurd cc
  one_byte (b ∷ c ∷ bytes) len fits = absurd (omega arith)

pub u8_is : IsCodec u8
unfolding u8
u8_is = number_is w8 (2 ^ 8) wide8

-- a number of four bytes is below 2 ^ 32
pub u32_below : (n : ℕ) → u32.Lawful n → n < 2 ^ 32
unfolding u32
u32_below n h = h

pub u32_lawful : (n : ℕ) → n < 2 ^ 32 → u32.Lawful n
unfolding u32
u32_lawful n h = h

-- ---- signed numbers

u64_below : (n : ℕ) → u64.Lawful n → n < 2 ^ 64
unfolding u64
u64_below n h = h

u64_lawful : (n : ℕ) → n < 2 ^ 64 → u64.Lawful n
unfolding u64
u64_lawful n h = h

-- what the test of a signed number says, and that it says so
pub fit : (w : Width) (z : ℤ) → IsTrue (within (2 ^ hbits w) z) → FitsSigned w z
fit w (pos n) h = record { sfits = ltb-true n (2 ^ hbits w) h }
fit w (negsuc n) h = record { sfits = omega (arith, pow_pos (hbits w), leb-true n (2 ^ hbits w - 1) (and_parts (leb n (2 ^ hbits w - 1)) true h).0) }

pub tested : (w : Width) (z : ℤ) → FitsSigned w z → IsTrue (within (2 ^ hbits w) z)
tested w (pos n) h = lt-ltb n (2 ^ hbits w) h.sfits
tested w (negsuc n) h = rw (le-leb n (2 ^ hbits w - 1) (omega (arith, h.sfits))) refl

-- a signed number from its bits, and the bytes behind it
abbrev from_bits : Width → ℕ × List ℕ → Option (ℤ × List ℕ)
from_bits w n = Some (cast_signed w n.0, n.1)

pub signed_is : (w : Width) (fits : ℤ → Bool) (unsigned : Codec ℕ) → IsSigned w fits unsigned → IsCodec (signed w fits unsigned)
signed_is w fits unsigned s = record {
  takes = λ bytes z rest are_bytes e.
      let one = bind_some (unsigned.read bytes) (from_bits w) (z, rest) e in
      let t = s.is_codec.takes bytes one.0.0 one.0.1 are_bytes one.1 in
      let below = s.below one.0.0 t.1 in
      let back : cast_unsigned w (cast_signed w one.0.0) ≡ one.0.0 = of_z-to_z w one.0.0 below in
      let spelled : Takes bytes (unsigned.spell (cast_unsigned w (cast_signed w one.0.0))) one.0.1 = subst (λ (k : ℕ). Takes bytes (unsigned.spell k) one.0.1) (sym back) t.0 in
      subst (λ (y : ℤ × List ℕ). Takes bytes (unsigned.spell (cast_unsigned w y.0)) y.1 × IsTrue (fits y.0)) (some_is (cast_signed w one.0.0, one.0.1) (z, rest) one.2) (spelled, s.tests _ ∙ tested w _ (sfits_to_z (Fits-of_lt {w = w} {n = one.0.0} below)));
  again = λ z rest lawful.
      let fits_it : FitsSigned w z = fit w z (sym (s.tests z) ∙ lawful) in
      ap (λ (o : Option (ℕ × List ℕ)). o >>= from_bits w) (s.is_codec.again (cast_unsigned w z) rest (s.lawful _ (Fits-lt-pow (Fits-of_z {w = w} {z = z} fits_it))))
      ∙ ap (λ (y : ℤ). Some (y, rest)) (to_z-of_z w z fits_it);
}

pub i32_is : IsCodec i32
unfolding i32
i32_is = signed_is w32 fits_32 u32 (record { is_codec = u32_is; below = u32_below; lawful = u32_lawful; tests = λ z. refl })

pub i64_is : IsCodec i64
unfolding i64
i64_is = signed_is w64 fits_64 u64 (record { is_codec = u64_is; below = u64_below; lawful = u64_lawful; tests = λ z. refl })

-- ---- bytes

pub bytes_by_is : (count : Codec ℕ) → IsCodec count → IsCodec (bytes_by count)
bytes_by_is count p = record {
  takes = λ bytes text rest fits e.
      let one = bind_some (count.read bytes) (λ n. cond (ltb (length n.1) n.0) None (Some (take n.0 n.1, drop n.0 n.1))) (text, rest) e in
      let n = one.0 in
      let t = p.takes bytes n.0 n.1 fits one.1 in
      let g = guard_none (ltb (length n.1) n.0) (take n.0 n.1, drop n.0 n.1) (text, rest) one.2 in
      let long : n.0 ≤ length n.1 = ltb-false _ _ g.0 in
      let len : length (take n.0 n.1) ≡ n.0 = omega (arith, length-take n.0 n.1) in
      let second : Takes n.1 (take n.0 n.1) (drop n.0 n.1) = record { parts = sym (take-append-drop n.0 n.1); rest_fits = IsBytes-drop n.0 n.1 t.0.rest_fits } in
      let both = Takes-then bytes (count.spell n.0) n.1 (take n.0 n.1) (drop n.0 n.1) t.0 second in
      let whole : Takes bytes ((bytes_by count).spell (take n.0 n.1)) (drop n.0 n.1) = subst (λ (k : ℕ). Takes bytes (count.spell k ++ take n.0 n.1) (drop n.0 n.1)) (sym len) both in
      let lawful : (bytes_by count).Lawful (take n.0 n.1) = subst (λ (k : ℕ). count.Lawful k) (sym len) t.1 in
      subst (λ (p : List ℕ × List ℕ). Takes bytes ((bytes_by count).spell p.0) p.1 × (bytes_by count).Lawful p.0) g.1 (whole, lawful);
  again = λ text rest lawful.
      let long : ltb (length (text ++ rest)) (length text) ≡ false = le-ltb _ _ (omega (arith, length-append text rest)) in
      ap (bytes_by count).read (append_assoc (count.spell (length text)) text rest) ∙
      rw (p.again (length text) (text ++ rest) lawful, long, take_at text rest (length text) refl, drop_at text rest (length text) refl) refl;
}

pub bytes16_is : IsCodec bytes16
unfolding bytes16
bytes16_is = bytes_by_is u16 u16_is

pub bytes32_is : IsCodec bytes32
unfolding bytes32
bytes32_is = bytes_by_is u32 u32_is

pub whole_takes : {A : Type 0} (a : Codec A) → IsCodec a → (bytes : List ℕ) (x : A) → IsBytes bytes → whole a bytes ≡ Some x → (bytes ≡ a.spell x) × a.Lawful x
whole_takes {A} a p bytes x fits e =
    let one = bind_some (a.read bytes) (λ y. cond (eqb (length y.1) 0) (Some y.0) None) x e in
    let g = guard_some (eqb (length one.0.1) 0) one.0.0 x one.2 in
    let t = p.takes bytes one.0.0 one.0.1 fits one.1 in
    let nothing : one.0.1 ≡ [] = nil_from_length one.0.1 (eqb-true _ _ g.0) in
    subst (λ (y : A). (bytes ≡ a.spell y) × a.Lawful y) g.1 (t.0.parts ∙ ap (λ (r : List ℕ). a.spell one.0.0 ++ r) nothing ∙ append-nil (a.spell one.0.0), t.1)

pub whole_again : {A : Type 0} (a : Codec A) → IsCodec a → (x : A) → a.Lawful x → whole a (a.spell x) ≡ Some x
whole_again {A} a p x lawful =
    let read : a.read (a.spell x) ≡ Some (x, []) = ap a.read (sym (append-nil (a.spell x))) ∙ p.again x [] lawful in
    rw read refl

-- the parts that body_of gives
pub record Parted (limit : ℕ) (bytes body rest : List ℕ) : Type 0 where
  pub taken : Takes bytes (u32.spell (length body) ++ body) rest
  pub body_fits : IsBytes body
  pub short : length body ≤ limit

pub body_parted : (limit : ℕ) (bytes body rest : List ℕ) → IsBytes bytes → body_of limit bytes ≡ Some (body, rest) → Parted limit bytes body rest
unfolding body_of
body_parted limit bytes body rest fits e =
    let one = bind_some (u32.read bytes) (λ n. cond (leb n.0 limit && leb n.0 (length n.1)) (Some (take n.0 n.1, drop n.0 n.1)) None) (body, rest) e in
    let n = one.0 in
    let t = u32_is.takes bytes n.0 n.1 fits one.1 in
    let g = guard_some (leb n.0 limit && leb n.0 (length n.1)) (take n.0 n.1, drop n.0 n.1) (body, rest) one.2 in
    let b = and_parts (leb n.0 limit) (leb n.0 (length n.1)) g.0 in
    let under : n.0 ≤ limit = leb-true _ _ b.0 in
    let long : n.0 ≤ length n.1 = leb-true _ _ b.1 in
    let len : length (take n.0 n.1) ≡ n.0 = omega (arith, length-take n.0 n.1) in
    let second : Takes n.1 (take n.0 n.1) (drop n.0 n.1) = record { parts = sym (take-append-drop n.0 n.1); rest_fits = IsBytes-drop n.0 n.1 t.0.rest_fits } in
    let both = Takes-then bytes (u32.spell n.0) n.1 (take n.0 n.1) (drop n.0 n.1) t.0 second in
    let spelled : Takes bytes (u32.spell (length (take n.0 n.1)) ++ take n.0 n.1) (drop n.0 n.1) = subst (λ (k : ℕ). Takes bytes (u32.spell k ++ take n.0 n.1) (drop n.0 n.1)) (sym len) both in
    subst (λ (z : List ℕ × List ℕ). Parted limit bytes z.0 z.1) g.1 (record { taken = spelled; body_fits = IsBytes-take n.0 n.1 t.0.rest_fits; short = omega (arith, len, under) })

pub sized_is : {A : Type 0} (limit : ℕ) (a : Codec A) → limit < 2 ^ 32 → IsCodec a → IsCodec (sized limit a)
unfolding body_of
sized_is {A} limit a small p = record {
  takes = λ bytes x rest fits e.
      let one = bind_some (body_of limit bytes) (λ t. whole a t.0 >>= λ y. Some (y, t.1)) (x, rest) e in
      let parted = body_parted limit bytes one.0.0 one.0.1 fits one.1 in
      let two = bind_some (whole a one.0.0) (λ y. Some (y, one.0.1)) (x, rest) one.2 in
      let w = whole_takes a p one.0.0 two.0 parted.body_fits two.1 in
      let spelled : Takes bytes ((sized limit a).spell two.0) one.0.1 = subst (λ (t : List ℕ). Takes bytes (u32.spell (length t) ++ t) one.0.1) w.0 parted.taken in
      subst (λ (z : A × List ℕ). Takes bytes ((sized limit a).spell z.0) z.1 × (sized limit a).Lawful z.0) (some_is (two.0, one.0.1) (x, rest) two.2) (spelled, (w.1, subst (λ (t : List ℕ). length t ≤ limit) w.0 parted.short));
  again = λ x rest lawful.
      let text = a.spell x in
      let tests : leb (length text) limit && leb (length text) (length (text ++ rest)) ≡ true = rw (le-leb (length text) limit lawful.1, le-leb (length text) (length (text ++ rest)) (omega (arith, length-append text rest))) refl in
      ap (sized limit a).read (append_assoc (u32.spell (length text)) text rest) ∙
      rw (u32_is.again (length text) (text ++ rest) (u32_lawful _ (omega (arith, lawful.1))), tests, take_at text rest (length text) refl, drop_at text rest (length text) refl, whole_again a p x lawful.0) refl;
}

-- ---- tags, and other ways to build

pub empty_is : IsCodec empty
empty_is = record {
  takes = λ bytes x rest fits e.
      subst (λ (z : Unit {0} × List ℕ). Takes bytes [] z.1 × Unit {0}) (some_is (tt, bytes) (x, rest) e) (record { parts = refl; rest_fits = fits }, tt);
  again = λ x rest lawful. refl;
}

pub nothing_is : {A : Type 0} → IsCodec (nothing {A = A})
nothing_is = record { takes = λ bytes x rest fits e. absurd cc; again = λ x rest lawful. absurd lawful }

pub then_by_is : {A B : Type 0} (a : Codec A) (b : A → Codec B) → IsCodec a → ((x : A) → a.Lawful x → IsCodec (b x)) → IsCodec (then_by a b)
then_by_is {A} {B} a b p q = record {
  takes = λ bytes x rest fits e.
      let one = bind_some (a.read bytes) (λ x. (b x.0).read x.1 >>= λ y. Some ((x.0, y.0), y.1)) (x, rest) e in
      let two = bind_some ((b one.0.0).read one.0.1) (λ y. Some ((one.0.0, y.0), y.1)) (x, rest) one.2 in
      let t = p.takes bytes one.0.0 one.0.1 fits one.1 in
      let second = q one.0.0 t.1 in
      let u = second.takes one.0.1 two.0.0 two.0.1 t.0.rest_fits two.1 in
      let both = Takes-then bytes (a.spell one.0.0) one.0.1 ((b one.0.0).spell two.0.0) two.0.1 t.0 u.0 in
      let made : (A × B) × List ℕ = ((one.0.0, two.0.0), two.0.1) in
      subst (λ (z : (A × B) × List ℕ). Takes bytes (a.spell z.0.0 ++ (b z.0.0).spell z.0.1) z.1 × (a.Lawful z.0.0 × (b z.0.0).Lawful z.0.1)) (some_is made (x, rest) two.2) (both, (t.1, u.1));
  again = λ x rest lawful.
      let second = q x.0 lawful.0 in
      ap (then_by a b).read (append_assoc (a.spell x.0) ((b x.0).spell x.1) rest) ∙ rw (p.again x.0 ((b x.0).spell x.1 ++ rest) lawful.0, second.again x.1 rest lawful.1) refl;
}

abbrev pub retyped : {A B : Type 0} → (B → A) → B × List ℕ → Option (A × List ℕ)
retyped to y = Some (to y.0, y.1)

pub stated_is : {A B : Type 0} (to : B → A) (spell : A → List ℕ) (Lawful : A → Type 0) (b : Codec B) → States to spell Lawful b → IsCodec b → IsCodec (stated to spell Lawful b)
stated_is {A} {B} to spell Lawful b states p = record {
  takes = λ bytes x rest fits e.
      let one = bind_some (b.read bytes) (retyped to) (x, rest) e in
      let t = p.takes bytes one.0.0 one.0.1 fits one.1 in
      let s = states.made one.0.0 t.1 in
      subst (λ (z : A × List ℕ). Takes bytes (spell z.0) z.1 × Lawful z.0) (some_is (to one.0.0, one.0.1) (x, rest) one.2) (subst (λ (w : List ℕ). Takes bytes w one.0.1) s.1 t.0, s.0);
  again = λ x rest lawful.
      let c = states.comes x lawful in
      let y = c.0 in
      let spells : spell x ≡ b.spell y = ap spell (sym c.1) ∙ sym (states.made y c.2).1 in
      ap (λ (w : List ℕ). b.read (w ++ rest) >>= retyped to) spells
      ∙ ap (λ (o : Option (B × List ℕ)). o >>= retyped to) (p.again y rest c.2)
      ∙ ap (λ (z : A). Some (z, rest)) c.1;
}

pub of_parts_is : {A B : Type 0} (to : B → A) (from : A → B) (spell : A → List ℕ) (b : Codec B) → ((x : A) → to (from x) ≡ x) → ((y : B) → from (to y) ≡ y) → ((y : B) → b.Lawful y → b.spell y ≡ spell (to y))
    → IsCodec b → IsCodec (of_parts to from spell b)
of_parts_is {A} {B} to from spell b again back spells p = stated_is to spell (λ x. b.Lawful (from x)) b states p
  where
    states : States to spell (λ x. b.Lawful (from x)) b
    states = record {
      made = λ y h. (subst b.Lawful (sym (back y)) h, spells y h);
      comes = λ x h. (from x, again x, h);
    }

pub byte_is : IsCodec byte
unfolding byte u8
byte_is = stated_is (λ n. n) (λ n. n ∷ []) (λ n. n < 2 ^ 8) u8 (record { made = λ n h. (h, small n h); comes = λ n h. (n, refl, h) }) u8_is
  where
    small : (n : ℕ) → n < 2 ^ 8 → to_be_bytes w8 n ≡ n ∷ []
    small n h = let e : n % 256 ≡ n = omega (arith, h) in ap (λ (k : ℕ). k ∷ []) e

-- a tag of one byte
pub u8_front : (bytes : List ℕ) (tag : ℕ) (rest : List ℕ) → IsBytes bytes → u8.read bytes ≡ Some (tag, rest) → Takes bytes (tag ∷ []) rest × (tag < 256)
unfolding u8
u8_front bytes tag rest fits e =
    let t = u8_is.takes bytes tag rest fits e in
    let same : tag % 256 ≡ tag = omega (arith, t.1) in
    (subst (λ (b : ℕ). Takes bytes (b ∷ []) rest) same t.0, t.1)

pub u8_again : (tag : ℕ) (rest : List ℕ) → tag < 256 → u8.read (tag ∷ rest) ≡ Some (tag, rest)
unfolding u8
u8_again tag rest h =
    let same : tag % 256 ≡ tag = omega (arith, h) in
    subst (λ (b : ℕ). u8.read (b ∷ rest) ≡ Some (tag, rest)) same (u8_is.again tag rest h)

pub tagged_is : {A : Type 0} (spell : A → List ℕ) (Lawful : A → Type 0) (read_behind : ℕ → List ℕ → Option (A × List ℕ)) → IsTagged spell Lawful read_behind → IsCodec (tagged spell Lawful read_behind)
tagged_is {A} spell Lawful read_behind p = record {
  takes = λ bytes x rest fits e.
      let one = bind_some (u8.read bytes) (λ tag. read_behind tag.0 tag.1) (x, rest) e in
      let t = u8_front bytes one.0.0 one.0.1 fits one.1 in
      let b = p.takes one.0.0 one.0.1 x rest t.0.rest_fits one.2 in
      let both = Takes-then bytes (one.0.0 ∷ []) one.0.1 b.text rest t.0 b.taken in
      (subst (λ (w : List ℕ). Takes bytes w rest) (sym b.spells) both, b.lawful);
  again = λ x rest lawful.
      let a = p.again x rest lawful in
      ap (λ (w : List ℕ). (tagged spell Lawful read_behind).read (w ++ rest)) a.spells
      ∙ ap (λ (o : Option (ℕ × List ℕ)). o >>= λ t. read_behind t.0 t.1) (u8_again a.tag (a.text ++ rest) a.small)
      ∙ a.reads;
}

-- one tag of a choice: what is read by it, or by the others
pub on_tag_takes : {A B : Type 0} (k tag : ℕ) (b : Codec B) (to : B → A) (bytes : List ℕ) (others : Option (A × List ℕ)) (x : A) (rest : List ℕ) (P : A → List ℕ → Type 0) → IsCodec b → IsBytes bytes
    → ((y : B) (after : List ℕ) → k ≡ tag → Takes bytes (b.spell y) after → b.Lawful y → P (to y) after)
    → (others ≡ Some (x, rest) → P x rest) → on_tag k tag b to bytes others ≡ Some (x, rest) → P x rest
on_tag_takes {A} {B} k tag b to bytes others x rest P p fits here there e = by_test (eqb tag k) refl e
  where
    by_test : (t : Bool) → eqb tag k ≡ t → cond t (b.read bytes >>= retyped to) others ≡ Some (x, rest) → P x rest
    by_test true is e =
        let one = bind_some (b.read bytes) (retyped to) (x, rest) e in
        let t = p.takes bytes one.0.0 one.0.1 fits one.1 in
        subst (λ (z : A × List ℕ). P z.0 z.1) (some_is (to one.0.0, one.0.1) (x, rest) one.2) (here one.0.0 one.0.1 (sym (eqb-true tag k is)) t.0 t.1)
    by_test false is e = there e

-- what stands behind this tag, or behind one of the others
pub on_tag_is : {A B : Type 0} {spell : A → List ℕ} {Lawful : A → Type 0} (k tag : ℕ) (b : Codec B) (to : B → A) (bytes : List ℕ) (others : Option (A × List ℕ)) (x : A) (rest : List ℕ) → IsCodec b → IsBytes bytes → SaysBehind k b to spell Lawful
    → (others ≡ Some (x, rest) → IsBehind spell Lawful tag bytes x rest) → on_tag k tag b to bytes others ≡ Some (x, rest) → IsBehind spell Lawful tag bytes x rest
on_tag_is {A} {B} {spell} {Lawful} k tag b to bytes others x rest p fits says there e = on_tag_takes k tag b to bytes others x rest (λ y r. IsBehind spell Lawful tag bytes y r) p fits here there e
  where
    here : (y : B) (after : List ℕ) → k ≡ tag → Takes bytes (b.spell y) after → b.Lawful y → IsBehind spell Lawful tag bytes (to y) after
    here y after is t l = let s = says y l in record { text = b.spell y; spells = s.0 ∙ ap (λ (n : ℕ). n ∷ b.spell y) is; taken = t; lawful = s.1 }

-- what a codec reads again, it reads again for another type
pub retyped_again : {A B : Type 0} (b : Codec B) (to : B → A) (y : B) (rest : List ℕ) → IsCodec b → b.Lawful y → (b.read (b.spell y ++ rest) >>= retyped to) ≡ Some (to y, rest)
retyped_again {A} {B} b to y rest p lawful = ap (λ (o : Option (B × List ℕ)). o >>= retyped to) (p.again y rest lawful)

-- a value or none
optional_tagged : {A : Type 0} (a : Codec A) → IsCodec a → IsTagged (optional_spell a.spell) (OptionalLawful a.Lawful) (optional_behind a)
optional_tagged {A} a p = record {
  takes = λ tag bytes x rest fits e.
      on_tag_is 0 tag empty (λ _. None) bytes _ x rest empty_is fits (λ y l. (refl, tt))
      (on_tag_is 1 tag a (λ y. Some y) bytes _ x rest p fits (λ y l. (refl, l))
      (λ none. absurd cc)) e;
  again = again_of;
} where
  again_of : (x : Option A) (rest : List ℕ) → OptionalLawful a.Lawful x → IsAgain (optional_spell a.spell) (optional_behind a) x rest
  again_of None rest h = record { tag = 0; text = []; small = omega arith; spells = refl; reads = refl }
  again_of (Some x) rest h = record { tag = 1; text = a.spell x; small = omega arith; spells = refl; reads = retyped_again a (λ y. Some y) x rest p h }

pub optional_is : {A : Type 0} (a : Codec A) → IsCodec a → IsCodec (optional a)
optional_is a p = tagged_is (optional_spell a.spell) (OptionalLawful a.Lawful) (optional_behind a) (optional_tagged a p)

pub text32_is : IsCodec text32
unfolding text32
text32_is = where_true_is is_utf8 bytes32 bytes32_is

pub literal_is : (text : List ℕ) → IsCodec (literal text)
literal_is text = record {
  takes = λ bytes x rest fits e.
      let n = length text in
      let tail : Option (Unit {0} × List ℕ) = cond (bytes_eq (take n bytes) text) (Some (tt, drop n bytes)) None in
      let g = guard_else (ltb (length bytes) n) tail (x, rest) e in
      let same = guard_some (bytes_eq (take n bytes) text) (tt, drop n bytes) (x, rest) g.1 in
      let front : take n bytes ≡ text = (bytes_eq-Decides (take n bytes) text).0 same.0 in
      let taken : Takes bytes text (drop n bytes) = record { parts = sym (take-append-drop n bytes) ∙ ap (λ (t : List ℕ). t ++ drop n bytes) front; rest_fits = IsBytes-drop n bytes fits } in
      (subst (λ (z : Unit {0} × List ℕ). Takes bytes text z.1) same.1 taken, tt);
  again = λ x rest lawful.
      let n = length text in
      let long : ltb (length (text ++ rest)) n ≡ false = le-ltb _ _ (omega (arith, length-append text rest)) in
      let same : bytes_eq text text ≡ true = (bytes_eq-Decides text text).1 refl in
      rw (long, take_at text rest n refl, drop_at text rest n refl, same) refl;
} where
  guard_else : {A : Type 0} (b : Bool) (o : Option A) (y : A) → cond b None o ≡ Some y → (b ≡ false) × (o ≡ Some y)
  guard_else true o y e = absurd cc
  guard_else false o y e = (refl, e)

-- ---- all of them

pub whole_is : {A : Type 0} (a : Codec A) → IsCodec a → (bytes : List ℕ) (x : A) → IsBytes bytes → (whole a bytes ≡ Some x) ↔ ((bytes ≡ a.spell x) × a.Lawful x)
whole_is a p bytes x fits = ((λ e. whole_takes a p bytes x fits e), (λ h. ap (whole a) h.0 ∙ whole_again a p x h.1))

pub keep_codecs : {A B : Type 0} (p : Parts A B) → KeepCodecs p
keep_codecs p = record {
  number = number_is;
  u8 = u8_is;
  u16 = u16_is;
  u32 = u32_is;
  u64 = u64_is;
  signed = λ w fits h. signed_is w fits p.count h;
  i32 = i32_is;
  i64 = i64_is;
  byte = byte_is;
  pair = λ h k. then_is p.a p.b h k;
  then_by = λ h k. then_by_is p.a p.chosen h k;
  mapped = λ to from back forth h. mapped_is to from p.a back forth h;
  where_true = λ test h. where_true_is test p.a h;
  times = λ n h. times_is n p.a h;
  counted = λ h k. counted_is p.count p.a h k;
  bytes_by = λ h. bytes_by_is p.count h;
  whole = λ h bytes x fits. whole_is p.a h bytes x fits;
  sized = λ limit small h. sized_is limit p.a small h;
  empty = empty_is;
  nothing = nothing_is;
  literal = literal_is;
  stated = λ to states h. stated_is to p.spell p.Lawful p.a states h;
  of_parts = λ to from again back spells h. of_parts_is to from p.spell p.a again back spells h;
  tagged = λ read_behind h. tagged_is p.spell p.Lawful read_behind h;
  on_tag = λ k tag to bytes others y rest h says fits there e. on_tag_is k tag p.a to bytes others y rest h fits says there e;
  optional = λ h. optional_is p.a h;
  apart = λ h x y r s k l e. spell_apart p.a h x y r s k l e;
}
