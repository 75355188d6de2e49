-- A fresh session belongs to the feed: headers that fit tile the keys, and nothing is stored or held.
use Rattle.std.proofs.Common.{Bool, List, [], ap, ap₂, arith, cond, false, length, le-leb, lt-ltb, ltb-false, refl, subst, sym, true, ℕ, ◌+◌, ◌++◌, ◌<◌, ◌∙◌, ◌∷◌, ◌≡◌, ◌≤◌}
use Rattle.std.specs.Prelude.{Contains, IsTrue, None, Option, Some, is_some, map, nat_le, nat_lt, ◌==◌, ◌≢◌}
use Rattle.std.specs.List.{list_all}
use Rattle.std.proofs.lemmas.Bool.{and_from, and_parts, eqb-false}
use Rattle.std.proofs.lemmas.List.{length-append, length-map}
use Rattle.lt_terms.specs.Key.{Range, all_keys, below, max_key, ranges_from, rise}
use Rattle.lt_terms.specs.Log.{Header, Item, fits_high, is_header}
use Rattle.lt_world.specs.Feed.{Feed}
use Rattle.lt_tables.specs.Fair.{HasHeader}
use Rattle.lt_machine.specs.Laws.{HeadersFrom}
use Rattle.lt_machine.specs.Machine.{fresh, opened}
use Rattle.lt_tables.specs.Pump.{AreHeaders, count_mismatch}
use Rattle.lt_tables.specs.Schema.{nothing_yet}
use Rattle.lt_machine.specs.Sound.{AreTiling, IsGood, SoundPart, SoundPartOf, SoundPoints, low_bounds}
use Rattle.lt_storage.specs.Store.{IsLawfulPart, Stream, is_limit, is_stream_entry}
use Rattle.lt_tables.specs.Version.{merge}
use Rattle.lt_laws.proofs.FrontStands.{fronts_stand}
use Rattle.lt_lemmas.proofs.ListFacts.{all_from}
use Rattle.lt_laws.proofs.SoundLaws.{opening_is_good}
use Rattle.lt_pump.proofs.AttachLaws.{bound_more}
use Rattle.lt_steps.specs.Memory.{MemoryBegins}

-- ---- headers that fit

-- each stands in the feed, from a number on
headers_from : (f : Feed) (before hs : List Header) (n : ℕ) → length before ≡ n → AreHeaders f None before hs → HeadersFrom f n hs
headers_from f before [] n e a = tt
headers_from f before (h ∷ hs) n e a = (
  subst (λ (m : ℕ). HasHeader f m h) e a.0.0.0,
  a.0.0.1,
  headers_from f (before ++ h ∷ []) hs (n + 1) (length-append before (h ∷ []) ∙ ap (λ (m : ℕ). m + 1) e) a.1,
)

-- one that stands in a feed has bounds that fit
header_content : (f : Feed) (n : ℕ) (h : Header) → HasHeader f n h → IsTrue (is_header h.format h)
header_content f n h a = (and_parts (is_header h.format h) _ a.lawful).0

header_bounds : (f : Feed) (n : ℕ) (h : Header) → HasHeader f n h → IsTrue (nat_le (length h.range.low) max_key) × IsTrue (fits_high h.range.low h.range.high)
header_bounds f n h a =
    let p = and_parts _ (fits_high h.range.low h.range.high) (and_parts _ _ (and_parts _ _ (header_content f n h a)).0).0 in
    ((and_parts _ (nat_le (length h.range.low) max_key) p.0).1, p.1)

-- where one goes on behind another it begins where that ends
high_is : (f : Feed) (before : List Header) (h g : Header) (hs : List Header) → AreHeaders f None before (h ∷ g ∷ hs) → h.range.high ≡ Some g.range.low
high_is f before h g hs a = sym (bound_more before h) ∙ a.1.0.1

low_rises : (h g : Header) → IsTrue (fits_high h.range.low h.range.high) → h.range.high ≡ Some g.range.low → IsTrue (below h.range.low g.range.low)
low_rises h g fits e = (and_parts (below h.range.low g.range.low) (nat_le (length g.range.low) max_key) (subst (λ (o : Option (List ℕ)). IsTrue (fits_high h.range.low o)) e fits)).0

rises : (f : Feed) (before : List Header) (h : Header) (hs : List Header) → AreHeaders f None before (h ∷ hs) → IsTrue (rise (low_bounds (h ∷ hs)))
rises f before h [] a = refl
rises f before h (g ∷ hs) a = and_from _ _ (low_rises h g (header_bounds f (length before) h a.0.0.0).1 (high_is f before h g hs a)) (rises f (before ++ h ∷ []) g hs a.1)

no_high : (o : Option (List ℕ)) → is_some o ≡ false → o ≡ None
no_high None e = refl
no_high (Some x) e = cc

range_is : (r : Range) (o : Option (List ℕ)) → r.high ≡ o → r ≡ record { low = r.low; high = o }
range_is r o e = ap (λ (o : Option (List ℕ)). let q : Range = record { low = r.low; high = o } in q) e

ranges_are : (f : Feed) (before : List Header) (h : Header) (hs : List Header) → length before + length (h ∷ hs) ≡ length f → AreHeaders f None before (h ∷ hs) → map (λ h. h.range) (h ∷ hs) ≡ ranges_from (low_bounds (h ∷ hs))
ranges_are f before h [] l a = ap (λ (r : Range). r ∷ []) (range_is h.range None (no_high h.range.high (a.0.3.1 l)))
ranges_are f before h (g ∷ hs) l a =
    let size = length-append before (h ∷ []) in
    ap₂ (λ (r : Range) (rs : List Range). r ∷ rs) (range_is h.range (Some g.range.low) (high_is f before h g hs a)) (ranges_are f (before ++ h ∷ []) g hs (omega (arith, l, size)) a.1)

first_low : (f : Feed) (h : Header) (hs : List Header) → AreHeaders f None [] (h ∷ hs) → (length h.range.low == 0) ≡ true
first_low f h hs a = let e : [] ≡ h.range.low = cc in sym (ap (λ (x : List ℕ). length x == 0) e)

are_tiling : (f : Feed) (hs : List Header) → length hs ≡ length f → length f ≢ 0 → AreHeaders f None [] hs → AreTiling hs
are_tiling f [] l some a = absurd (some (sym l))
are_tiling f (h ∷ hs) l some a = (and_from _ _ (first_low f h hs a) (rises f [] h hs a), ranges_are f [] h hs (omega (arith, l)) a)

-- ---- how many there are

counted_by : (b c : Bool) (x y : ℕ) (o : Option ℕ) → cond b (Some x) (cond c (Some y) o) ≡ None → (b ≡ false) × (c ≡ false)
counted_by true c x y o e = cc
counted_by false true x y o e = cc
counted_by false false x y o e = (refl, refl)

record Count (n : ℕ) : Type 0 where
  some : n ≢ 0
  few : n ≤ 64

counted : (f : Feed) → count_mismatch f None ≡ None → Count (length f)
counted f e = let p = counted_by (length f == 0) (nat_lt 64 (length f)) 0 64 None e in record { some = eqb-false (length f) 0 p.0; few = ltb-false 64 (length f) p.1 }

-- ---- the fresh store is lawful and sound

abbrev entry_of : Header → Stream
entry_of h = record { low = h.range.low; points = [] }

entries_fit : (f : Feed) (before hs : List Header) → AreHeaders f None before hs → IsTrue (list_all is_stream_entry (map entry_of hs))
entries_fit f before [] a = refl
entries_fit f before (h ∷ hs) a = and_from _ _ (and_from _ _ (and_from _ _ (and_from _ _ (header_bounds f (length before) h a.0.0.0).0 refl) refl) refl) (entries_fit f (before ++ h ∷ []) hs a.1)

fresh_lawful : (f : Feed) (most : ℕ) (hs : List Header) → IsTrue (is_limit most) → length hs ≡ length f → Count (length f) → AreHeaders f None [] hs → IsLawfulPart (fresh most hs)
fresh_lawful f most hs limit l n a =
    let size : length (map entry_of hs) ≡ length hs = length-map hs entry_of in
    let some : 0 < length (map entry_of hs) = omega (arith, size, l, n.some) in
    let few : length (map entry_of hs) ≤ 64 = omega (arith, size, l, n.few) in record {
      generation = refl;
      manifest = record {
        limit = limit;
        numbers = refl;
        catalogue = nothing_yet;
        streams = and_from _ _ (and_from _ _ (lt-ltb 0 (length (map entry_of hs)) some) (le-leb (length (map entry_of hs)) 64 few)) (entries_fit f [] hs a);
        parts = refl;
        deltas = refl;
      };
      shelf = tt;
    }

none_within : {A : Type 0} (x : A) → Contains [] x → ⊥
none_within x c = absurd (omega (arith, c.1))

fresh_part : (most : ℕ) (hs : List Header) (fs : List (Header × List Item)) → SoundPart (fresh most hs) fs (record { low = []; resume = 0; ids = [] }) all_keys
unfolding merge
fresh_part most hs fs = record {
  only_changes = λ table v c above. absurd (none_within v c);
  all_changes = λ c has inside above upto. absurd (omega (arith, above, upto));
  rows = λ t key known inside has. cc;
  agree = λ x y table v w cx cy cv cw same. absurd (none_within x cx);
  minimum = omega arith;
  resume = all_from (λ f. _) fs (λ f h m. omega arith);
}

fresh_points : (fs : List (Header × List Item)) → SoundPoints fs (map entry_of (map (λ f. f.0) fs))
fresh_points [] = tt
fresh_points (f ∷ fs) = (refl, tt, fresh_points fs)

fresh_sound : (most : ℕ) (hs : List Header) (fs : List (Header × List Item)) → map (λ f. f.0) fs ≡ hs → SoundPartOf (fresh most hs) fs
fresh_sound most hs fs e = record {
  parts = (fresh_part most hs fs, tt);
  points = subst (λ (x : List Header). SoundPoints fs (map entry_of x)) e (fresh_points fs);
}

-- ---- the session

pub memory_begins : MemoryBegins
memory_begins f most hs limit short attaches =
    let l = attaches.1 in
    let a = attaches.2 in
    let n = counted f attaches.0 in
    let fronts = fronts_stand f [] hs l (headers_from f [] hs 0 refl a) (are_tiling f hs l n.some a) in
    let good = opening_is_good f fronts.0 (fresh most hs) short (fresh_lawful f most hs limit l n a) fronts.2 (fresh_sound most hs fronts.0 fronts.1) in
    (fronts.0, subst (λ (x : List Header). IsGood f (opened (fresh most hs) x) fronts.0) fronts.1 good, refl, (tt, tt))
