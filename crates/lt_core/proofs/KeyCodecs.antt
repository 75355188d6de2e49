-- What is read of a key's bytes is a key spelled so, and each key is read back.
use Rattle.std.proofs.Common.{◌≡◌, ◌∙◌, sym, refl, ap, subst, Bool, true, false, List, [], ◌∷◌, ◌++◌, ℕ, zero, suc, ℤ, pos, negsuc, ◌+◌, ◌-◌, ◌<◌, ◌≤◌, ◌^◌, Option, Some, None, length, drop, ltb, leb, eqb, ltb-true, ltb-false, lt-ltb, le-ltb, leb-true, le-leb, eqb-true, ne_eqb, append_assoc, arith}
use Rattle.std.specs.Prelude.{IsTrue, if◌then◌else◌, flat_map, ◌==◌, ◌&&◌}
use Rattle.std.specs.Str.{is_utf8}
use Rattle.std.proofs.lemmas.List.{drop_at}
use Rattle.std.proofs.lemmas.List.Concat.{flat_map-cons}
use Rattle.lt_terms.specs.declared.KeyKind.{KeyKind}
use Rattle.lt_terms.specs.declared.KeyKind.TheVariants as key_kind
use Rattle.lt_terms.specs.Value.{fits_64}
use Rattle.lt_terms.specs.Key.{KeyPart, escaped, int_part, is_key_of, is_part_of, number_key, part_bytes, text_part}
use Rattle.lt_codecs.specs.Codec.{IsBytes, u32, u64, whole, ◌>>=◌, ◌then◌}
use Rattle.std.proofs.lemmas.Bool.{and_parts as both_true}
use Rattle.lt_codecs.proofs.Codecs.{IsBytes-drop, Takes-then, bind_some, some_is, then_is, u32_below, u32_is, u32_lawful, u64_is, where_true_is, whole_again, whole_takes}
use Rattle.lt_codecs.specs.Codec.{IsCodec, Takes}
use Rattle.lt_core.specs.KeyCodec.{IsKey, NoKey, NoOtherKey, after_zero, key_bytestring, key_number, key_of, key_part, key_parts, key_text, number_of, read_part, read_parts, unescaped, with_front}

-- ---- numbers

number_back : (n : ℕ) → n < 2 ^ 64 → number_key (number_of n) ≡ n
number_back n h = by (ltb n (2 ^ 63)) refl
  where
    by : (b : Bool) → ltb n (2 ^ 63) ≡ b → number_key (if b then negsuc (2 ^ 63 - 1 - n) else pos (n - 2 ^ 63)) ≡ n
    by true e = omega (arith, ltb-true n (2 ^ 63) e)
    by false e = omega (arith, ltb-false n (2 ^ 63) e)

number_fits : (n : ℕ) → n < 2 ^ 64 → IsTrue (fits_64 (number_of n))
number_fits n h = by (ltb n (2 ^ 63)) refl
  where
    by : (b : Bool) → ltb n (2 ^ 63) ≡ b → IsTrue (fits_64 (if b then negsuc (2 ^ 63 - 1 - n) else pos (n - 2 ^ 63)))
    by true e = rw (le-leb (2 ^ 63 - 1 - n) (2 ^ 63 - 1) (omega arith)) refl
    by false e = lt-ltb (n - 2 ^ 63) (2 ^ 63) (omega (arith, h))

number_again : (z : ℤ) → IsTrue (fits_64 z) → number_of (number_key z) ≡ z
number_again (pos n) h =
    ap (λ t. if t then negsuc (2 ^ 63 - 1 - (2 ^ 63 + n)) else pos (2 ^ 63 + n - 2 ^ 63)) (le-ltb (2 ^ 63 + n) (2 ^ 63) (omega arith))
    ∙ ap pos (omega arith)
number_again (negsuc n) h =
    let small : n ≤ 2 ^ 63 - 1 = leb-true n (2 ^ 63 - 1) (both_true (leb n (2 ^ 63 - 1)) true h).0 in
    ap (λ t. if t then negsuc (2 ^ 63 - 1 - (2 ^ 63 - 1 - n)) else pos (2 ^ 63 - 1 - n - 2 ^ 63)) (lt-ltb (2 ^ 63 - 1 - n) (2 ^ 63) (omega arith))
    ∙ ap negsuc (omega (arith, small))

number_below : (z : ℤ) → IsTrue (fits_64 z) → number_key z < 2 ^ 64
number_below (pos n) h = omega (arith, ltb-true n (2 ^ 63) h)
number_below (negsuc n) h = omega arith

u64_below : (n : ℕ) → u64.Lawful n → n < 2 ^ 64
unfolding u64
u64_below n h = h

u64_lawful : (n : ℕ) → n < 2 ^ 64 → u64.Lawful n
unfolding u64
u64_lawful n h = h

abbrev from_key : ℕ × List ℕ → Option (ℤ × List ℕ)
from_key n = Some (number_of n.0, n.1)

pub key_number_is : IsCodec key_number
unfolding key_number
key_number_is = record {
  takes = λ bytes z rest fits e.
      let one = bind_some (u64.read bytes) from_key (z, rest) e in
      let t = u64_is.takes bytes one.0.0 one.0.1 fits one.1 in
      let below = u64_below one.0.0 t.1 in
      let spelled : Takes bytes (key_number.spell (number_of one.0.0)) one.0.1 = subst (λ (k : ℕ). Takes bytes (u64.spell k) one.0.1) (sym (number_back one.0.0 below)) t.0 in
      subst (λ (y : ℤ × List ℕ). Takes bytes (key_number.spell y.0) y.1 × key_number.Lawful y.0) (some_is (number_of one.0.0, one.0.1) (z, rest) one.2) (spelled, number_fits one.0.0 below);
  again = λ z rest lawful.
      ap (λ (o : Option (ℕ × List ℕ)). o >>= from_key) (u64_is.again (number_key z) rest (u64_lawful _ (number_below z lawful)))
      ∙ ap (λ (y : ℤ). Some (y, rest)) (number_again z lawful);
}

-- ---- texts

unescaped_again : (t rest : List ℕ) → unescaped (escaped t ++ 0 ∷ 1 ∷ rest) ≡ Some (t, rest)
unescaped_again [] rest = refl
unescaped_again (zero ∷ t) rest = ap (with_front (0 ∷ [])) (unescaped_again t rest)
unescaped_again (suc b ∷ t) rest =
    ap (λ u. if u then after_zero (escaped t ++ 0 ∷ 1 ∷ rest) else with_front (suc b ∷ []) (unescaped (escaped t ++ 0 ∷ 1 ∷ rest))) (ne_eqb (suc b) 0 (λ e. absurd (omega (arith, e))))
    ∙ ap (with_front (suc b ∷ [])) (unescaped_again t rest)

-- where a byte is put in front, the rest was read
front_some : (b : ℕ) (o : Option (List ℕ × List ℕ)) (t rest : List ℕ) → with_front (b ∷ []) o ≡ Some (t, rest) → (s : List ℕ) × (o ≡ Some (s, rest)) × (b ∷ s ≡ t)
front_some b None t rest e = absurd cc
front_some b (Some u) t rest e =
    let same = some_is (b ∷ u.0, u.1) (t, rest) e in
    (u.0, ap (λ (r : List ℕ). Some (u.0, r)) (ap (λ (p : List ℕ × List ℕ). p.1) same), ap (λ (p : List ℕ × List ℕ). p.0) same)

abbrev Spells : List ℕ → Option (List ℕ × List ℕ) → Type 0
Spells bytes read = (t rest : List ℕ) → read ≡ Some (t, rest) → bytes ≡ escaped t ++ 0 ∷ 1 ∷ rest

plain_byte : (b : ℕ) (s : List ℕ) → eqb b 0 ≡ false → escaped (b ∷ s) ≡ b ∷ escaped s
plain_byte zero s e = absurd cc
plain_byte (suc b) s e = refl

by_byte : (u : Bool) (b : ℕ) (bs : List ℕ) → eqb b 0 ≡ u → Spells (0 ∷ bs) (after_zero bs) → Spells bs (unescaped bs) → Spells (b ∷ bs) (if u then after_zero bs else with_front (b ∷ []) (unescaped bs))
by_byte true b bs e zeros others t rest f = ap (λ (x : ℕ). x ∷ bs) (eqb-true b 0 e) ∙ zeros t rest f
by_byte false b bs e zeros others t rest f =
    let p = front_some b (unescaped bs) t rest f in
    ap (λ (x : List ℕ). b ∷ x) (others p.0 rest p.1) ∙ ap (λ (x : List ℕ). x ++ 0 ∷ 1 ∷ rest) (sym (plain_byte b p.0 e)) ∙ ap (λ (x : List ℕ). escaped x ++ 0 ∷ 1 ∷ rest) p.2

by_end : (u : Bool) (b : ℕ) (bs : List ℕ) → eqb b 1 ≡ u → Spells (0 ∷ b ∷ bs) (if u then Some ([], bs) else None)
by_end true b bs e t rest f =
    let same = some_is ([], bs) (t, rest) f in
    ap (λ (x : ℕ). 0 ∷ x ∷ bs) (eqb-true b 1 e) ∙ ap (λ (p : List ℕ × List ℕ). escaped p.0 ++ 0 ∷ 1 ∷ p.1) same
by_end false b bs e t rest f = absurd cc

by_escape : (u : Bool) (b : ℕ) (bs : List ℕ) → eqb b 255 ≡ u → Spells bs (unescaped bs) → Spells (0 ∷ b ∷ bs) (if u then with_front (0 ∷ []) (unescaped bs) else if b == 1 then Some ([], bs) else None)
by_escape true b bs e others t rest f =
    let p = front_some 0 (unescaped bs) t rest f in
    ap (λ (x : ℕ). 0 ∷ x ∷ bs) (eqb-true b 255 e) ∙ ap (λ (x : List ℕ). 0 ∷ 255 ∷ x) (others p.0 rest p.1) ∙ ap (λ (x : List ℕ). escaped x ++ 0 ∷ 1 ∷ rest) p.2
by_escape false b bs e others t rest f = by_end (eqb b 1) b bs refl t rest f

mutual
  unescaped_takes : (bytes : List ℕ) → Spells bytes (unescaped bytes)
  unescaped_takes [] t rest e = absurd cc
  unescaped_takes (b ∷ bs) t rest e = by_byte (eqb b 0) b bs refl (zero_takes bs) (unescaped_takes bs) t rest e

  zero_takes : (bytes : List ℕ) → Spells (0 ∷ bytes) (after_zero bytes)
  zero_takes [] t rest e = absurd cc
  zero_takes (b ∷ bs) t rest e = by_escape (eqb b 255) b bs refl (unescaped_takes bs) t rest e

rest_fits : (bytes text rest : List ℕ) → IsBytes bytes → bytes ≡ text ++ rest → IsBytes rest
rest_fits bytes text rest fits e =
    subst (λ (r : List ℕ). IsBytes r) (ap (drop (length text)) e ∙ drop_at text rest (length text) refl) (IsBytes-drop (length text) bytes fits)

bytestring_is : IsCodec key_bytestring
bytestring_is = record {
  takes = λ bytes t rest fits e.
      let parts : bytes ≡ (escaped t ++ 0 ∷ 1 ∷ []) ++ rest = unescaped_takes bytes t rest e ∙ sym (append_assoc (escaped t) (0 ∷ 1 ∷ []) rest) in
      (record { parts = parts; rest_fits = rest_fits bytes (escaped t ++ 0 ∷ 1 ∷ []) rest fits parts }, tt);
  again = λ t rest lawful. ap unescaped (append_assoc (escaped t) (0 ∷ 1 ∷ []) rest) ∙ unescaped_again t rest;
}

pub key_text_is : IsCodec key_text
unfolding key_text
key_text_is = where_true_is is_utf8 key_bytestring bytestring_is

-- ---- parts

both_hold : (a b : Bool) → IsTrue a → IsTrue b → IsTrue (a && b)
both_hold true b h i = i
both_hold false b h i = absurd cc

abbrev as_int : ℤ × List ℕ → Option (KeyPart × List ℕ)
as_int n = Some (int_part n.0, n.1)

abbrev as_text : List ℕ × List ℕ → Option (KeyPart × List ℕ)
as_text t = Some (text_part t.0, t.1)

part_takes : (k : KeyKind) (bytes : List ℕ) (p : KeyPart) (rest : List ℕ) → IsBytes bytes → read_part k bytes ≡ Some (p, rest) → Takes bytes (part_bytes p) rest × IsTrue (is_part_of k p)
unfolding key_number key_text u64
part_takes key_kind.Int64 bytes p rest fits e =
    let one = bind_some (key_number.read bytes) as_int (p, rest) e in
    let t = key_number_is.takes bytes one.0.0 one.0.1 fits one.1 in
    subst (λ (y : KeyPart × List ℕ). Takes bytes (part_bytes y.0) y.1 × IsTrue (is_part_of key_kind.Int64 y.0)) (some_is (int_part one.0.0, one.0.1) (p, rest) one.2) t
part_takes key_kind.Text bytes p rest fits e =
    let one = bind_some (key_text.read bytes) as_text (p, rest) e in
    let t = key_text_is.takes bytes one.0.0 one.0.1 fits one.1 in
    subst (λ (y : KeyPart × List ℕ). Takes bytes (part_bytes y.0) y.1 × IsTrue (is_part_of key_kind.Text y.0)) (some_is (text_part one.0.0, one.0.1) (p, rest) one.2) (t.0, t.1.1)

part_again : (k : KeyKind) (p : KeyPart) (rest : List ℕ) → IsTrue (is_part_of k p) → read_part k (part_bytes p ++ rest) ≡ Some (p, rest)
unfolding key_number key_text u64
part_again key_kind.Int64 (int_part z) rest h = ap (λ (o : Option (ℤ × List ℕ)). o >>= as_int) (key_number_is.again z rest h)
part_again key_kind.Int64 (text_part t) rest h = absurd cc
part_again key_kind.Text (int_part z) rest h = absurd cc
part_again key_kind.Text (text_part t) rest h = ap (λ (o : Option (List ℕ × List ℕ)). o >>= as_text) (key_text_is.again t rest (tt, h))

pub key_part_is : (k : KeyKind) → IsCodec (key_part k)
unfolding key_part
key_part_is k = record { takes = part_takes k; again = part_again k }

-- ---- whole keys

abbrev and_then : List KeyKind → KeyPart × List ℕ → Option (List KeyPart × List ℕ)
and_then ks p = read_parts ks p.1 >>= λ ps. Some (p.0 ∷ ps.0, ps.1)

parts_take : (ks : List KeyKind) (bytes : List ℕ) (ps : List KeyPart) (rest : List ℕ) → IsBytes bytes → read_parts ks bytes ≡ Some (ps, rest) → Takes bytes (flat_map part_bytes ps) rest × IsTrue (is_key_of ks ps)
unfolding key_part
parts_take [] bytes ps rest fits e =
    subst (λ (z : List KeyPart × List ℕ). Takes bytes (flat_map part_bytes z.0) z.1 × IsTrue (is_key_of [] z.0)) (some_is ([], bytes) (ps, rest) e) (record { parts = refl; rest_fits = fits }, refl)
parts_take (k ∷ ks) bytes ps rest fits e =
    let one = bind_some (read_part k bytes) (and_then ks) (ps, rest) e in
    let two = bind_some (read_parts ks one.0.1) (λ qs. Some (one.0.0 ∷ qs.0, qs.1)) (ps, rest) one.2 in
    let t = part_takes k bytes one.0.0 one.0.1 fits one.1 in
    let u = parts_take ks one.0.1 two.0.0 two.0.1 t.0.rest_fits two.1 in
    let both = Takes-then bytes (part_bytes one.0.0) one.0.1 (flat_map part_bytes two.0.0) two.0.1 t.0 u.0 in
    let made : List KeyPart × List ℕ = (one.0.0 ∷ two.0.0, two.0.1) in
    subst (λ (z : List KeyPart × List ℕ). Takes bytes (flat_map part_bytes z.0) z.1 × IsTrue (is_key_of (k ∷ ks) z.0)) (some_is made (ps, rest) two.2)
    (rw flat_map-cons both, both_hold (is_part_of k one.0.0) (is_key_of ks two.0.0) t.1 u.1)

parts_again : (ks : List KeyKind) (ps : List KeyPart) (rest : List ℕ) → IsTrue (is_key_of ks ps) → read_parts ks (flat_map part_bytes ps ++ rest) ≡ Some (ps, rest)
unfolding key_part
parts_again [] [] rest h = refl
parts_again [] (p ∷ ps) rest h = absurd cc
parts_again (k ∷ ks) [] rest h = absurd cc
parts_again (k ∷ ks) (p ∷ ps) rest h =
    let both = both_true (is_part_of k p) (is_key_of ks ps) h in
    let regrouped : flat_map part_bytes (p ∷ ps) ++ rest ≡ part_bytes p ++ (flat_map part_bytes ps ++ rest) = ap (λ (y : List ℕ). y ++ rest) (flat_map-cons part_bytes p ps) ∙ append_assoc (part_bytes p) (flat_map part_bytes ps) rest in
    ap (read_parts (k ∷ ks)) regrouped
    ∙ ap (λ (o : Option (KeyPart × List ℕ)). o >>= and_then ks) (part_again k p (flat_map part_bytes ps ++ rest) both.0)
    ∙ ap (λ (o : Option (List KeyPart × List ℕ)). o >>= λ qs. Some (p ∷ qs.0, qs.1)) (parts_again ks ps rest both.1)

pub key_parts_is : (ks : List KeyKind) → IsCodec (key_parts ks)
unfolding key_parts
key_parts_is ks = record { takes = parts_take ks; again = parts_again ks }

pub key_of_is : (ks : List KeyKind) → IsCodec (key_of ks)
unfolding key_of
key_of_is ks = then_is u32 (key_parts ks) u32_is (key_parts_is ks)

-- what is read is a key
pub key_read : (ks : List KeyKind) (bytes : List ℕ) (table : ℕ) (parts : List KeyPart) → IsBytes bytes → whole (key_of ks) bytes ≡ Some (table, parts) → IsKey ks bytes (table, parts)
unfolding key_of key_parts u32
key_read ks bytes table parts fits e =
    let t = whole_takes (key_of ks) (key_of_is ks) bytes (table, parts) fits e in
    record { small = u32_below table t.1.0; of_kinds = t.1.1; spelled = sym t.0 }

-- and each key is read
pub key_reads : (ks : List KeyKind) (bytes : List ℕ) (key : ℕ × List KeyPart) → IsKey ks bytes key → whole (key_of ks) bytes ≡ Some key
unfolding key_of key_parts u32
key_reads ks bytes key k = ap (whole (key_of ks)) (sym k.spelled) ∙ whole_again (key_of ks) (key_of_is ks) key (u32_lawful key.0 k.small, k.of_kinds)

-- so bytes are of one key at most, and where none is read they are of none
pub one_key : (ks : List KeyKind) (bytes : List ℕ) (key : ℕ × List KeyPart) → whole (key_of ks) bytes ≡ Some key → NoOtherKey ks bytes key
one_key ks bytes key e other k = some_is other key (sym (key_reads ks bytes other k) ∙ e)

pub no_key : (ks : List KeyKind) (bytes : List ℕ) → whole (key_of ks) bytes ≡ None → NoKey ks bytes
no_key ks bytes e key k = let read = key_reads ks bytes key k in cc
