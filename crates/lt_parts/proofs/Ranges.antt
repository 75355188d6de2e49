-- Ranges by their numbers: one of them has a key.
use Rattle.std.proofs.Common.{Bool, List, None, Option, Some, [], ap, arith, cond, false, inl, inr, le-ltb, length, lt-ltb, ltb-true, eqb-true, refl, subst, suc, sym, true, zero, ℕ, ◌+◌, ◌-◌, ◌<◌, ◌∙◌, ◌∷◌, ◌≡◌, ◌≤◌}
use Rattle.std.specs.Prelude.{IsTrue, nat_lt, not, option_map, slice_get, ◌==◌}
use Rattle.std.proofs.lemmas.Bool.{and_from, and_parts, cases_order, false≢true}
use Rattle.std.proofs.lemmas.Option.{none-some, same_Some, slice_get_cases, slice_get_within}
use Rattle.lt_terms.specs.Key.{Range, below, first_bound, in_range, is_below_high, rise, tile}
use Rattle.lt_tables.specs.Pump.{part_of}
use Rattle.lt_lemmas.proofs.ListFacts.{mapped_some}
use Rattle.lt_lemmas.proofs.RangeLaws.{tile_rises}
use Rattle.lt_lemmas.proofs.SoundLaws.{not-true}
use Rattle.lt_lemmas.proofs.PointLaws.{below_trans}
use Rattle.lt_parts.specs.declared.entry.PartEntry.{PartEntry}
use Rattle.lt_parts.specs.Parts.{HasKey, lows_of, ranges}
use Rattle.lt_parts.proofs.Bounds.{is_false, lows_rise, untrue}

-- ---- the n-th range

abbrev pub range_with : List ℕ → Option (List ℕ) → Range
range_with low high = record { low = low; high = high }

abbrev pub low_of : Option PartEntry → Option (List ℕ)
low_of o = option_map (λ e. e.low) o

-- where the n-th partition ends
abbrev pub high_at : List PartEntry → ℕ → Option (List ℕ)
high_at es n = low_of (slice_get es (suc n))

abbrev range_by : List PartEntry → ℕ → PartEntry → Range
range_by es n e = range_with e.low (high_at es n)

pub first_is : (es : List PartEntry) → first_bound (lows_of es) ≡ low_of (slice_get es 0)
first_is [] = refl
first_is (e ∷ es) = refl

range_at : (es : List PartEntry) (n : ℕ) → slice_get (ranges es) n ≡ option_map (range_by es n) (slice_get es n)
range_at [] n = refl
range_at (e ∷ es) zero = ap (λ (o : Option (List ℕ)). Some (range_with e.low o)) (first_is es)
range_at (e ∷ es) (suc n) = range_at es n

pub range_of : (es : List PartEntry) (n : ℕ) (e : PartEntry) → slice_get es n ≡ Some e → slice_get (ranges es) n ≡ Some (range_with e.low (high_at es n))
range_of es n e h = range_at es n ∙ ap (option_map (range_by es n)) h

pub entry_of : (es : List PartEntry) (n : ℕ) (r : Range) → slice_get (ranges es) n ≡ Some r → (e : PartEntry) × (slice_get es n ≡ Some e) × (range_with e.low (high_at es n) ≡ r)
entry_of es n r h = mapped_some (range_by es n) (slice_get es n) r (sym (range_at es n) ∙ h)

-- ---- what is below where a partition ends

pub below_by : (key : List ℕ) (o : Option PartEntry) → ((x : PartEntry) → o ≡ Some x → below key x.low ≡ true) → is_below_high key (low_of o) ≡ true
below_by key None f = refl
below_by key (Some x) f = f x refl

-- below where it ends is below where each later one begins
pub below_later : (es : List PartEntry) (key : List ℕ) (n m : ℕ) (y : PartEntry) → IsTrue (rise (lows_of es)) → slice_get es m ≡ Some y → n < m → is_below_high key (high_at es n) ≡ true → below key y.low ≡ true
below_later es key n m y r h l b = elim (slice_get_cases es (suc n)).1 [
  | inl f ↦ (
      let next : below key f.0.low ≡ true = ap (λ (o : Option PartEntry). is_below_high key (low_of o)) (sym f.2) ∙ b in
      elim (cases_order (suc n) m) [
        | inl same ↦ subst (λ (z : PartEntry). below key z.low ≡ true) (same_Some f.0 y (sym f.2 ∙ ap (slice_get es) same ∙ h)) next
        | inr (inl less) ↦ below_trans key f.0.low y.low next (lows_rise es r (suc n) m f.0 y f.2 h less)
        | inr (inr more) ↦ absurd (omega (arith, l, more))
      ]
      )
  | inr p ↦ (let w : m < length es = slice_get_within es m y h in absurd (omega (arith, p.0, w, l)))
]

-- .. and below where each later one ends
pub below_ends : (es : List PartEntry) (key : List ℕ) (n m : ℕ) → IsTrue (rise (lows_of es)) → n ≤ m → is_below_high key (high_at es n) ≡ true → is_below_high key (high_at es m) ≡ true
below_ends es key n m r l b = below_by key (slice_get es (suc m)) (λ x h. below_later es key n (suc m) x r h (omega (arith, l)) b)

-- ---- a key has one partition

key_twice : (es : List PartEntry) (key : List ℕ) (n m : ℕ) → IsTrue (rise (lows_of es)) → HasKey es key n → HasKey es key m → n < m → ⊥
key_twice es key n m r a b l =
    let x = entry_of es n a.0 a.1 in
    let y = entry_of es m b.0 b.1 in
    let i : in_range key (range_with x.0.low (high_at es n)) ≡ true = ap (in_range key) x.2 ∙ a.2 in
    let j : in_range key (range_with y.0.low (high_at es m)) ≡ true = ap (in_range key) y.2 ∙ b.2 in
    let up : is_below_high key (high_at es n) ≡ true = (and_parts (not (below key x.0.low)) (is_below_high key (high_at es n)) i).1 in
    let down : below key y.0.low ≡ false = not-true (below key y.0.low) (and_parts (not (below key y.0.low)) (is_below_high key (high_at es m)) j).0 in
    false≢true (sym down ∙ below_later es key n m y.0 r y.1 l up)

pub key_once : (es : List PartEntry) (key : List ℕ) (n m : ℕ) → IsTrue (rise (lows_of es)) → HasKey es key n → HasKey es key m → n ≡ m
key_once es key n m r a b = elim (cases_order n m) [
  | inl same ↦ same
  | inr (inl less) ↦ absurd (key_twice es key n m r a b less)
  | inr (inr more) ↦ absurd (key_twice es key m n r b a more)
]

part_at : (rs : List Range) (key : List ℕ) (n : ℕ) (r : Range) → slice_get rs n ≡ Some r → in_range key r ≡ true → ((k : ℕ) (q : Range) → k < n → slice_get rs k ≡ Some q → in_range key q ≡ false) → part_of rs key ≡ n
part_at [] key n r h i f = absurd (none-some r h)
part_at (q ∷ rs) key zero r h i f = ap (λ (b : Bool). cond b 0 (1 + part_of rs key)) (ap (in_range key) (same_Some q r h) ∙ i)
part_at (q ∷ rs) key (suc n) r h i f =
    let rest : part_of rs key ≡ n = part_at rs key n r h i (λ k p l g. f (suc k) p (omega (arith, l)) g) in
    ap (λ (b : Bool). cond b 0 (1 + part_of rs key)) (f 0 q (omega arith) refl) ∙ omega (arith, rest)

pub part_is : (es : List PartEntry) (key : List ℕ) (n : ℕ) → IsTrue (rise (lows_of es)) → HasKey es key n → part_of (ranges es) key ≡ n
part_is es key n r h = part_at (ranges es) key n h.0 h.1 h.2 (λ k q l g. is_false (in_range key q) (λ e. key_twice es key k n r (q, g, e) h l))

-- its partition begins at the key or below, and ends above
pub key_between : (es : List PartEntry) (key : List ℕ) (n : ℕ) (h : HasKey es key n) → (y : PartEntry) × (slice_get es n ≡ Some y) × (below key y.low ≡ false) × (is_below_high key (high_at es n) ≡ true)
key_between es key n h =
    let y = entry_of es n h.0 h.1 in
    let i : in_range key (range_with y.0.low (high_at es n)) ≡ true = ap (in_range key) y.2 ∙ h.2 in
    let p = and_parts (not (below key y.0.low)) (is_below_high key (high_at es n)) i in
    (y.0, y.1, not-true (below key y.0.low) p.0, p.1)

-- ---- the last one that does not begin above the key

abbrev pub CountsUpTo : List PartEntry → List ℕ → ℕ → Type 0
CountsUpTo es key c = (n : ℕ) (e : PartEntry) → slice_get es n ≡ Some e → not (below key e.low) ≡ nat_lt n c

none_below : (key low : List ℕ) → length low ≡ 0 → below key low ≡ false
none_below [] [] z = refl
none_below (k ∷ key) [] z = refl
none_below key (b ∷ low) z = absurd (omega (arith, z))

pub some_up_to : (es : List PartEntry) (key : List ℕ) (c : ℕ) → IsTrue (tile (lows_of es)) → CountsUpTo es key c → 1 ≤ c
some_up_to [] key c t f = absurd (false≢true t)
some_up_to (e ∷ es) key c t f =
    let z : length e.low ≡ 0 = eqb-true (length e.low) 0 (and_parts (length e.low == 0) (rise (lows_of (e ∷ es))) t).0 in
    let l : 0 < c = ltb-true 0 c (sym (f 0 e refl) ∙ ap not (none_below key e.low z)) in omega (arith, l)

pub has_key : (es : List PartEntry) (key : List ℕ) (n c : ℕ) → c ≡ suc n → c ≤ length es → CountsUpTo es key c → HasKey es key n
has_key es key n c last within f = elim (slice_get_cases es n).1 [
  | inl x ↦ (
    range_with x.0.low (high_at es n),
    range_of es n x.0 x.2,
    and_from (not (below key x.0.low)) (is_below_high key (high_at es n)) (f n x.0 x.2 ∙ lt-ltb n c (omega (arith, last)))
        (below_by key (slice_get es (suc n)) (λ y h. let k : not (below key y.low) ≡ false = f (suc n) y h ∙ le-ltb (suc n) c (omega (arith, last)) in untrue (below key y.low) k)),
  )
  | inr p ↦ absurd (omega (arith, p.0, last, within))
]

pub record Counted (es : List PartEntry) (key : List ℕ) (c : ℕ) : Type 0 where
  pub tiled : IsTrue (tile (lows_of es))
  pub within : c ≤ length es
  pub exact : CountsUpTo es key c

-- the same list under three names
pub counted_as : (read inside now : List PartEntry) (key : List ℕ) (c : ℕ) → read ≡ inside → inside ≡ now → IsTrue (tile (lows_of inside)) → c ≤ length read → CountsUpTo read key c → Counted now key c
counted_as read inside now key c is view t within exact = record {
  tiled = subst (λ l. IsTrue (tile (lows_of l))) view t;
  within = subst (λ l. c ≤ length l) (is ∙ view) within;
  exact = subst (λ l. CountsUpTo l key c) (is ∙ view) exact;
}

pub found_some : (es : List PartEntry) (key : List ℕ) (c : ℕ) → Counted es key c → 1 ≤ c
found_some es key c h = some_up_to es key c h.tiled h.exact

pub found_here : (es : List PartEntry) (key : List ℕ) (c : ℕ) → Counted es key c → HasKey es key (c - 1)
found_here es key c h = let l : 1 ≤ c = found_some es key c h in has_key es key (c - 1) c (omega (arith, l)) h.within h.exact

pub found_once : (es : List PartEntry) (key : List ℕ) (c n : ℕ) → Counted es key c → HasKey es key n → n ≡ c - 1
found_once es key c n h k = key_once es key n (c - 1) (tile_rises (lows_of es) h.tiled) k (found_here es key c h)

pub found_part : (es : List PartEntry) (key : List ℕ) (c : ℕ) → Counted es key c → c - 1 ≡ part_of (ranges es) key
found_part es key c h = sym (part_is es key (c - 1) (tile_rises (lows_of es) h.tiled) (found_here es key c h))
