-- Headers that go on one after another: their ranges tile the keys.
use Rattle.std.proofs.Common.{Bool, List, [], ap, ap₂, arith, cond, eq-eqb, eqb-true, false, length, ltb-false, map, refl, subst, suc, sym, take, true, zero, ℕ, ◌+◌, ◌++◌, ◌<◌, ◌∙◌, ◌∷◌, ◌≡◌, ◌≤◌}
use Rattle.std.specs.Prelude.{IfSome, IsNone, IsTrue, None, Option, Some, min, nat_lt, not, option_and_then, slice_get, ◌&&◌, ◌==◌, ◌↔◌}
use Rattle.std.proofs.lemmas.Bool.{and_from, and_parts, not-false}
use Rattle.std.proofs.lemmas.List.{map-append, take_all}
use Rattle.lt_terms.specs.declared.Format.TheVariants as format
use Rattle.lt_world.specs.Feed.{Feed}
use Rattle.lt_terms.specs.Key.{Range, below, first_bound, ranges_from, rise, tile}
use Rattle.lt_terms.specs.Log.{Header, body, fits_high, header_item, is_header, is_item}
use Rattle.lt_tables.specs.Pump.{StreamAt, behind_header}
use Rattle.lt_tables.specs.Pump.{IsKeptLow, count_mismatch}
use Rattle.lt_tables.specs.Schema.{when}
use Rattle.lt_codecs.proofs.ListFacts.{first, heads, second, tails}
use Rattle.lt_lemmas.proofs.ListFacts.{when_none}
use Rattle.lt_pump.specs.Headers.{Fits}
use Rattle.lt_pump.specs.Positions.{are_streams, range_of, stream_of}
use Rattle.lt_pump.specs.declared.position.Position.{Position}
use Rattle.lt_pump.proofs.PumpLaws.{both}

abbrev pub Kept : Type 0
Kept = Option (List (List ℕ))

-- ---- a feed of so many streams

pub some_feed : (n : ℕ) → (f : Feed) × (length f ≡ n)
some_feed zero = ([], refl)
some_feed (suc n) = let f = some_feed n in ([] ∷ f.0, ap suc f.1)

-- ---- how many streams there may be

pub record Counted (kept : Kept) (count : ℕ) : Type 0 where
  pub some : 1 ≤ count
  pub few : count ≤ 64
  pub as_kept : IfSome kept (λ ks. length ks ≡ count)

not_zero : (m : ℕ) → (m == 0) ≡ false → 1 ≤ m
not_zero zero e = let d : true ≡ false = e in absurd cc
not_zero (suc m) e = omega arith

as_many_kept : (kept : Kept) (m : ℕ) → option_and_then (λ lows. when (not (length lows == m)) (min (length lows) m)) kept ≡ None → IfSome kept (λ ks. length ks ≡ m)
as_many_kept None m e = tt
as_many_kept (Some ks) m e = eqb-true (length ks) m (not-false _ (when_none (not (length ks == m)) (min (length ks) m) e))

counted_by : (kept : Kept) (m : ℕ) (b c : Bool) → (m == 0) ≡ b → nat_lt 64 m ≡ c → cond b (Some 0) (cond c (Some 64) (option_and_then (λ lows. when (not (length lows == m)) (min (length lows) m)) kept)) ≡ None → Counted kept m
counted_by kept m true c e f h = absurd cc
counted_by kept m false true e f h = absurd cc
counted_by kept m false false e f h = record { some = not_zero m e; few = ltb-false 64 m f; as_kept = as_many_kept kept m h }

pub counted : (kept : Kept) (count : ℕ) → ((f : Feed) → length f ≡ count → count_mismatch f kept ≡ None) → Counted kept count
counted kept count none = let f = some_feed count in subst (λ (m : ℕ). Counted kept m) f.1 (counted_by kept (length f.0) (length f.0 == 0) (nat_lt 64 (length f.0)) refl refl (none f.0 f.1))

-- ---- ranges that end at a bound

-- the first of some bounds, or the end
abbrev pub first_or : Option (List ℕ) → List (List ℕ) → Option (List ℕ)
first_or end [] = end
first_or end (low ∷ lows) = Some low

abbrev pub range_with : List ℕ → Option (List ℕ) → Range
range_with low high = record { low = low; high = high }

-- the ranges that begin at these bounds, each up to the next, and the last up to the end
abbrev pub ranges_to : Option (List ℕ) → List (List ℕ) → List Range
ranges_to end [] = []
ranges_to end (low ∷ lows) = range_with low (first_or end lows) ∷ ranges_to end lows

first_more : (low : List ℕ) (high : Option (List ℕ)) (lows : List (List ℕ)) → first_or high (lows ++ low ∷ []) ≡ first_or (Some low) lows
first_more low high [] = refl
first_more low high (x ∷ lows) = refl

ranges_more : (low : List ℕ) (high : Option (List ℕ)) (lows : List (List ℕ)) → ranges_to high (lows ++ low ∷ []) ≡ ranges_to (Some low) lows ++ range_with low high ∷ []
ranges_more low high [] = refl
ranges_more low high (x ∷ lows) = ap₂ (λ (o : Option (List ℕ)) (rs : List Range). range_with x o ∷ rs) (first_more low high lows) (ranges_more low high lows)

first_end : (lows : List (List ℕ)) → first_or None lows ≡ first_bound lows
first_end [] = refl
first_end (x ∷ lows) = refl

ranges_end : (lows : List (List ℕ)) → ranges_to None lows ≡ ranges_from lows
ranges_end [] = refl
ranges_end (x ∷ lows) = ap₂ (λ (o : Option (List ℕ)) (rs : List Range). range_with x o ∷ rs) (first_end lows) (ranges_end lows)

-- ---- what the loop keeps

pub record Tiling (kept : Kept) (count n : ℕ) (bound : Option (List ℕ)) (lows : List (List ℕ)) (ps : List Position) : Type 0 where
  pub front : first_or bound lows ≡ Some []
  pub ranges : map range_of (map stream_of ps) ≡ ranges_to bound lows
  pub last : 0 < n → n ≡ count → bound ≡ None
  pub as_kept : IfSome kept (λ ks. lows ≡ take n ks)

kept_none : (kept : Kept) (lows : List (List ℕ)) → lows ≡ [] → IfSome kept (λ ks. lows ≡ take 0 ks)
kept_none None lows e = tt
kept_none (Some ks) lows e = e

pub tiling_none : (kept : Kept) (count : ℕ) (bound : Option (List ℕ)) (lows : List (List ℕ)) (ps : List Position) → bound ≡ Some [] → lows ≡ [] → ps ≡ [] → Tiling kept count 0 bound lows ps
tiling_none kept count bound lows ps e l none = record {
  front = ap₂ first_or e l;
  ranges = ap (λ (xs : List Position). map range_of (map stream_of xs)) none ∙ sym (ap (ranges_to bound) l);
  last = λ some same. absurd (omega (arith, some));
  as_kept = kept_none kept lows l;
}

none_is : (o : Option (List ℕ)) → IsNone o → o ≡ None
none_is None h = refl
none_is (Some x) h = absurd cc

take_suc : (ks : List (List ℕ)) (n : ℕ) (x : List ℕ) → slice_get ks n ≡ Some x → take (suc n) ks ≡ take n ks ++ x ∷ []
take_suc [] n x e = absurd cc
take_suc (k ∷ ks) zero x e = let d : k ≡ x = cc in ap (λ (y : List ℕ). y ∷ []) d
take_suc (k ∷ ks) (suc n) x e = ap (λ (ys : List (List ℕ)). k ∷ ys) (take_suc ks n x e)

kept_more : (kept : Kept) (n : ℕ) (low : List ℕ) (lows lows' : List (List ℕ)) → lows' ≡ lows ++ low ∷ [] → IfSome kept (λ ks. lows ≡ take n ks) → IsKeptLow kept n low → IfSome kept (λ ks. lows' ≡ take (n + 1) ks)
kept_more None n low lows lows' e h k = tt
kept_more (Some ks) n low lows lows' e h k =
    let one : suc n ≡ n + 1 = omega arith in e ∙ ap (λ (xs : List (List ℕ)). xs ++ low ∷ []) h ∙ sym (take_suc ks n low k) ∙ ap (λ (m : ℕ). take m ks) one

pub tiling_more : (kept : Kept) (count n : ℕ) (bound bound' : Option (List ℕ)) (lows lows' : List (List ℕ)) (ps ps' : List Position) (q : Position) (h : Header) (fits : Bool) → Tiling kept count n bound lows ps
    → ((f : Feed) → length f ≡ count → (fits ≡ true) ↔ Fits f kept n bound h) → fits ≡ true → stream_of q ≡ behind_header h → bound' ≡ h.range.high → lows' ≡ lows ++ h.range.low ∷ [] → ps' ≡ ps ++ q ∷ [] → Tiling kept count (n + 1) bound' lows' ps'
tiling_more kept count n bound bound' lows lows' ps ps' q h fits t test met at be le pe = record {
  front = ap₂ first_or be le ∙ first_more h.range.low h.range.high lows ∙ ap (λ (o : Option (List ℕ)). first_or o lows) (sym fit.1) ∙ t.front;
  ranges = ap (λ (xs : List Position). map range_of (map stream_of xs)) pe ∙ ap (map range_of) (map-append stream_of ps (q ∷ [])) ∙ map-append range_of (map stream_of ps) (map stream_of (q ∷ []))
      ∙ ap₂ (λ (xs ys : List Range). xs ++ ys) (t.ranges ∙ ap (λ (o : Option (List ℕ)). ranges_to o lows) fit.1) (ap (λ (a : StreamAt). range_of a ∷ []) at)
      ∙ sym (ap₂ ranges_to be le ∙ ranges_more h.range.low h.range.high lows);
  last = λ some same. be ∙ none_is h.range.high (fit.3.1 (same ∙ sym feed.1));
  as_kept = kept_more kept n h.range.low lows lows' le t.as_kept fit.2;
}
  where
    feed : (f : Feed) × (length f ≡ count)
    feed = some_feed count

    fit : Fits feed.0 kept n bound h
    fit = (test feed.0 feed.1).0 met

-- ---- at the end

-- a header with a frame has keys in its range
high_above : (h : Header) → IsTrue (is_item format.One (header_item h)) → fits_high h.range.low h.range.high ≡ true
high_above h l = second _ (fits_high h.range.low h.range.high) (first _ _ (first _ _ (first (is_header format.One h) _ l)))

above_next : (r : Range) (a b : List ℕ) → r ≡ range_with a (Some b) → fits_high r.low r.high ≡ true → below a b ≡ true
above_next r a b e h = first (below a b) _ (subst (λ (x : Range). fits_high x.low x.high ≡ true) e h)

rise_by : (m : ℕ) (ss : List StreamAt) (lows : List (List ℕ)) → are_streams m ss ≡ true → map range_of ss ≡ ranges_from lows → rise lows ≡ true
rise_by m ss [] h e = refl
rise_by m ss (a ∷ []) h e = refl
rise_by m [] (a ∷ b ∷ lows) h e = absurd cc
rise_by m (s ∷ ss) (a ∷ b ∷ lows) h e =
    let p = both s m ss h in
    let head : range_of s ≡ range_with a (Some b) = heads (range_of s) (range_with a (Some b)) (map range_of ss) (ranges_from (b ∷ lows)) e in
    let rest = tails (range_of s) (range_with a (Some b)) (map range_of ss) (ranges_from (b ∷ lows)) e in
    and_from (below a b) (rise (b ∷ lows)) (above_next (range_of s) a b head (high_above s.header p.1)) (rise_by (m + 1) ss (b ∷ lows) p.2 rest)

tile_by : (lows : List (List ℕ)) → first_or None lows ≡ Some [] → rise lows ≡ true → tile lows ≡ true
tile_by [] f r = absurd cc
tile_by (low ∷ lows) f r = let e : low ≡ [] = cc in and_from (length low == 0) (rise (low ∷ lows)) (eq-eqb (length low) 0 (ap length e)) r

pub tiled : (kept : Kept) (count n : ℕ) (bound : Option (List ℕ)) (lows : List (List ℕ)) (ps : List Position) → n ≡ count → Counted kept count → Tiling kept count n bound lows ps → are_streams 0 (map stream_of ps) ≡ true
    → IsTrue (tile lows) × (map range_of (map stream_of ps) ≡ ranges_from lows)
tiled kept count n bound lows ps e c t h =
    let none = t.last (omega (arith, e, c.some)) e in
    let ranges = t.ranges ∙ ap (λ (o : Option (List ℕ)). ranges_to o lows) none ∙ ranges_end lows in
    (tile_by lows (ap (λ (o : Option (List ℕ)). first_or o lows) (sym none) ∙ t.front) (rise_by 0 (map stream_of ps) lows h ranges), ranges)

pub lows_kept : (kept : Kept) (count n : ℕ) (lows lows' : List (List ℕ)) → n ≡ count → IfSome kept (λ ks. length ks ≡ count) → IfSome kept (λ ks. lows ≡ take n ks) → lows ≡ lows' → IfSome kept (λ ks. lows' ≡ ks)
lows_kept None count n lows lows' e c h s = tt
lows_kept (Some ks) count n lows lows' e c h s = sym s ∙ h ∙ take_all n ks (omega (arith, e, c))
