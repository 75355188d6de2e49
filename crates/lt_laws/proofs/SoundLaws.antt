-- Laws of soundness: an opening finds a good state, a longer feed keeps it, and changes no row up to a safe moment.
use Rattle.std.proofs.Common.{Bool, List, [], ap, ap₂, arith, cond, drop, false, le-ltb, length, lt-ltb, refl, subst, suc, sym, take, true, zero, ℕ, ◌++◌, ◌+◌, ◌<◌, ◌∙◌, ◌∷◌, ◌≡◌, ◌≤◌}
use Rattle.std.specs.List.{AllByRecursion, cons_option, list_all}
use Rattle.std.specs.Prelude.{Contains, IsTrue, None, Option, Some, filter, find, flat_map, fold, map, max, min, nat_le, nat_lt, not, zip, ⊤, ◌&&◌, ◌==◌, ◌||◌}
use Rattle.std.proofs.lemmas.List.{length-append, take-append-drop, take-append-le}
use Rattle.std.proofs.lemmas.Bool.Decides.{nat_tests}
use Rattle.std.specs.Option.{option_map_or}
use Rattle.std.proofs.lemmas.Bool.{and_from}
use Rattle.lt_terms.specs.Log.{Change, Header, Item, batch_item, change_item, change_key, changes_in, changes_of, checkpoint_item, close_item, header_item, is_item, is_read, spelled}
use Rattle.lt_terms.specs.declared.Format.{Format}
use Rattle.lt_terms.specs.Key.{Range, below, first_bound, in_range, meets, tile}
use Rattle.lt_world.specs.Feed.{AreShort, Feed, Grows}
use Rattle.lt_tables.specs.Pump.{Part, StreamAt, behind_header, last_of, numbered_from}
use Rattle.lt_tables.specs.Fair.{Point, checkpoint_of, greatest_of, header_length, is_closed, is_fair, place_after, point_of}
use Rattle.lt_tables.specs.Schema.{Became, Catalogue, IsCatalogue, as_it_was, when}
use Rattle.lt_tables.specs.Row.{row_at}
use Rattle.lt_storage.specs.Store.{Durable, Stream, part_ranges}
use Rattle.lt_machine.specs.Sound.{AreAtPlaces, Fronts, FrontsFrom, IsGood, IsPlace, IsSound, OpeningIsGood, PendingOfAll, SoundPart, SoundPartOf, SoundParts, SoundPoints, Stands, items_before, passed, row_cells, source_of}
use Rattle.lt_machine.specs.Machine.{State, cat_of, checkpoint_at, checkpoints_meeting, first_below, is_usable, least, ranges_of, start_of, usable_point}
use Rattle.lt_codecs.proofs.LogLaws.{frames_prefix_free}
use Rattle.lt_lemmas.proofs.SoundLaws.{meets-by, pick}
use Rattle.lt_lemmas.proofs.PointLaws.{changes_of-append, left, right}
use Rattle.lt_laws.proofs.FairLaws.{AllInRange, ArePast, fair_in_range, row_stays}
use Rattle.lt_laws.proofs.FrontLaws.{FrontsStay, checkpoint_rises, fronts_stay, rest_above}
use Rattle.lt_terms.specs.declared.Format.TheVariants as format
use Rattle.lt_codecs.proofs.ListFacts.{all_append, all_both, all_front, all_map, all_rest, none_mapped}
use Rattle.lt_laws.proofs.ListFacts.{all_at, contains_front, contains_rest}
use Rattle.lt_lemmas.proofs.ListFacts.{all_contained}

-- ---- tests and lists

last-all : {A : Type 0} (P : A → Type 0) (xs : List A) (x : A) → AllByRecursion P xs → last_of xs ≡ Some x → P x
last-all P [] x a e = cc
last-all P (y ∷ []) x a e = let d : y ≡ x = cc in subst P d a.0
last-all P (y ∷ z ∷ xs) x a e = last-all P (z ∷ xs) x a.1 e

filter-all-by : {A : Type 0} (P : A → Type 0) (test : A → Bool) (x : A) (xs : List A) (b : Bool) → test x ≡ b → P x → AllByRecursion (λ x. P x × (test x ≡ true)) xs → AllByRecursion (λ x. P x × (test x ≡ true)) (cond b (x ∷ xs) xs)
filter-all-by P test x xs true e p a = ((p, e), a)
filter-all-by P test x xs false e p a = a

pub filter-all : {A : Type 0} (P : A → Type 0) (test : A → Bool) (xs : List A) → AllByRecursion P xs → AllByRecursion (λ x. P x × (test x ≡ true)) (filter test xs)
filter-all P test [] a = tt
filter-all P test (x ∷ xs) a = filter-all-by P test x (filter test xs) (test x) refl a.0 (filter-all P test xs a.1)

-- ---- the items before a place

pub spelled_some : (i : Item) → 0 < length (spelled i)
unfolding spelled
spelled_some i = omega arith

before-cons : (i : Item) (is js : List Item) (place offset : ℕ) → place < offset → cond (nat_lt place offset) (i ∷ is) js ≡ i ∷ is
before-cons i is js place offset h = ap (λ b. cond b (i ∷ is) js) (lt-ltb place offset h)

before-none : (is : List Item) (place offset : ℕ) → offset ≤ place → cond (nat_lt place offset) is [] ≡ []
before-none is place offset h = ap (λ b. cond b is []) (le-ltb place offset h)

pub before-take : (offset place n : ℕ) (items : List Item) → offset ≡ place + length (flat_map spelled (take n items)) → items_before offset place items ≡ take n items
before-take offset place zero [] e = refl
before-take offset place (suc n) [] e = refl
before-take offset place zero (i ∷ is) e = before-none (i ∷ items_before offset (place + length (spelled i)) is) place offset (omega (arith, e))
before-take offset place (suc n) (i ∷ is) e =
    let l : length (spelled i ++ flat_map spelled (take n is)) ≡ length (spelled i) + length (flat_map spelled (take n is)) = length-append (spelled i) (flat_map spelled (take n is)) in
    let s : 0 < length (spelled i) = spelled_some i in
    before-cons i (items_before offset (place + length (spelled i)) is) [] place offset (omega (arith, e, l, s))
    ∙ ap (λ x. i ∷ x) (before-take offset (place + length (spelled i)) n is (omega (arith, e, l)))

-- ---- in a format that is read no stream is closed

open-one : (f : Format) (i : Item) (is : List Item) → IsTrue (is_read f) → IsTrue (is_item f i) → is_closed is ≡ false → is_closed (i ∷ is) ≡ false
open-one f (header_item h) is r a e = e
open-one f (change_item c) is r a e = e
open-one f (checkpoint_item t) is r a e = e
open-one f (batch_item t cs) is r a e = e
open-one format.One (close_item first count) is r a e = let d : false ≡ true = a in cc
open-one format.Two (close_item first count) is r a e = let d : false ≡ true = r in cc

pub open-items : (f : Format) (items : List Item) (n : ℕ) → IsTrue (is_read f) → AllByRecursion (λ i. IsTrue (is_item f i)) items → is_closed (take n items) ≡ false
open-items f [] zero r a = refl
open-items f [] (suc n) r a = refl
open-items f (i ∷ is) zero r a = refl
open-items f (i ∷ is) (suc n) r a = open-one f i (take n is) r a.0 (open-items f is n r a.1)

pub changes-take : (P : Change → Type 0) (items : List Item) (n : ℕ) → AllByRecursion P (changes_of items) → AllByRecursion P (changes_of (take n items))
changes-take P [] zero a = tt
changes-take P [] (suc n) a = tt
changes-take P (i ∷ is) zero a = tt
changes-take P (i ∷ is) (suc n) a = all_append P (changes_in i) (changes_of (take n is)) (all_front P (changes_in i) (changes_of is) a) (changes-take P is n (all_rest P (changes_in i) (changes_of is) a))

max-low : (t u : ℕ) → t ≤ max t u
max-low t u = grind (arith, nat_tests)

max-high : (t u : ℕ) → u ≤ max t u
max-high t u = grind (arith, nat_tests)

greatest-rises : (t : ℕ) (cs : List Change) → t ≤ fold (λ t c. max t c.ts) t cs
greatest-rises t [] = omega arith
greatest-rises t (c ∷ cs) = let a : t ≤ max t c.ts = max-low t c.ts in let b : max t c.ts ≤ fold (λ t c. max t c.ts) (max t c.ts) cs = greatest-rises (max t c.ts) cs in omega (arith, a, b)

up-to-greatest : (t : ℕ) (cs : List Change) → AllByRecursion (λ c. c.ts ≤ fold (λ t c. max t c.ts) t cs) cs
up-to-greatest t [] = tt
up-to-greatest t (c ∷ cs) = let a : c.ts ≤ max t c.ts = max-high t c.ts in let b : max t c.ts ≤ fold (λ t c. max t c.ts) (max t c.ts) cs = greatest-rises (max t c.ts) cs in
    (omega (arith, a, b), up-to-greatest (max t c.ts) cs)

-- ---- what a started stream has passed is durable

abbrev FreeAt : List (Part × Range) → Change → Type 0
FreeAt xs c = AllByRecursion (λ x. in_range (change_key c) x.1 ≡ true → x.0.resume < c.ts → ⊥) xs

usable-one : (m n : Bool) → not m || n ≡ true → m ≡ true → n ≡ true
usable-one true n h e = h
usable-one false n h e = cc

pub le-true : (a b : ℕ) → nat_le a b ≡ true → a ≤ b
le-true a b e = grind (arith, nat_tests)

free-by : (xs : List (Part × Range)) (r : Range) (p : Point) (c : Change) → list_all (λ x. not (meets x.1 r) || nat_le p.greatest x.0.resume) xs ≡ true → in_range (change_key c) r ≡ true → c.ts ≤ p.greatest → FreeAt xs c
free-by [] r p c u w g = tt
free-by (x ∷ xs) r p c u w g = (
  (λ a h. let m : meets x.1 r ≡ true = meets-by (change_key c) x.1 r a w in
      let l : p.greatest ≤ x.0.resume = le-true p.greatest x.0.resume (usable-one (meets x.1 r) (nat_le p.greatest x.0.resume) (left (not (meets x.1 r) || nat_le p.greatest x.0.resume) _ u) m) in
      absurd (omega (arith, h, g, l))),
  free-by xs r p c (right (not (meets x.1 r) || nat_le p.greatest x.0.resume) _ u) w g,
)

abbrev zipped : List Part → List (Part × Range)
zipped ps = zip ps (part_ranges ps)

abbrev Starts : List Part → Header × List Item → StreamAt → Type 0
Starts ps f a = (a.header ≡ f.0) × Stands f a × AllByRecursion (FreeAt (zipped ps)) (changes_of (items_before a.offset (header_length f.0) f.1))

abbrev start_by : Header → Option (ℕ × Point) → StreamAt
start_by h o = option_map_or (λ p. record { header = h; offset = p.0; point = p.1; closed = false }) o (behind_header h)

first-point : (h : Header) → (behind_header h).point ≡ point_of h []
unfolding point_of
first-point h = refl

pub checkpoint-is : (h : Header) (items : List Item) → (point_of h items).checkpoint ≡ checkpoint_of h items
unfolding point_of
checkpoint-is h items = refl

greatest-is : (h : Header) (items : List Item) → (point_of h items).greatest ≡ greatest_of items
unfolding point_of
greatest-is h items = refl

starts-by : (ps : List Part) (f : Header × List Item) (points : List (ℕ × Point)) (o : Option (ℕ × Point)) → usable_point ps f.0.range points ≡ o → IsTrue (is_read f.0.format) → AllByRecursion (λ i. IsTrue (is_item f.0.format i)) f.1
    → AllInRange f.0.range (changes_of f.1) → AllByRecursion (λ p. IsPlace f p.0 p.1 × (header_length f.0 < p.0)) points → Starts ps f (start_by f.0 o)
starts-by ps f points None e r lawful within places =
    let b : items_before (header_length f.0) (header_length f.0) f.1 ≡ [] = before-take (header_length f.0) (header_length f.0) 0 f.1 (omega arith) in (
      refl,
      (0, omega arith, omega arith, first-point f.0, refl),
      subst (λ (x : List Item). AllByRecursion (FreeAt (zipped ps)) (changes_of x)) (sym b) tt,
    )
starts-by ps f points (Some p) e r lawful within places =
    let all = filter-all (λ p. IsPlace f p.0 p.1 × (header_length f.0 < p.0)) (λ p. is_usable ps f.0.range p.1) points places in
    let at = last-all (λ p. (IsPlace f p.0 p.1 × (header_length f.0 < p.0)) × (is_usable ps f.0.range p.1 ≡ true)) (filter (λ p. is_usable ps f.0.range p.1) points) p all e in
    let n = at.0.0.0 in
    let b : items_before p.0 (header_length f.0) f.1 ≡ take n f.1 = before-take p.0 (header_length f.0) n f.1 at.0.0.2 in
    let g : p.1.greatest ≡ greatest_of (take n f.1) = ap (λ x. x.greatest) at.0.0.3 ∙ greatest-is f.0 (take n f.1) in
    let high = up-to-greatest 0 (changes_of (take n f.1)) in
    let low = changes-take (λ c. in_range (change_key c) f.0.range ≡ true) f.1 n within in (
      refl,
      (n, at.0.0.1, at.0.0.2, at.0.0.3, sym (open-items f.0.format f.1 n r lawful)),
      subst (λ (x : List Item). AllByRecursion (FreeAt (zipped ps)) (changes_of x)) (sym b)
          (all_both (λ c. in_range (change_key c) f.0.range ≡ true) (λ c. c.ts ≤ greatest_of (take n f.1)) (FreeAt (zipped ps)) (changes_of (take n f.1))
          (λ c w l. free-by (zipped ps) f.0.range p.1 c at.1 w (omega (arith, l, g))) low high),
    )

abbrev started : List Part → List Header → List Stream → List StreamAt
started ps hs ss = map (λ x. start_of ps x.0 x.1.points) (zip hs ss)

all-start : (feed : Feed) (cat : Catalogue) (ps : List Part) (n : ℕ) (fs : List (Header × List Item)) (ss : List Stream) → FrontsFrom feed cat n fs → SoundPoints fs ss
    → AreAtPlaces fs (started ps (map (λ f. f.0) fs) ss) × AllByRecursion (FreeAt (zipped ps)) (passed fs (started ps (map (λ f. f.0) fs) ss))
all-start feed cat ps n [] [] a b = (tt, tt)
all-start feed cat ps n [] (s ∷ ss) a b = absurd b
all-start feed cat ps n (f ∷ fs) [] a b = absurd b
all-start feed cat ps n (f ∷ fs) (s ∷ ss) a b =
    let one = starts-by ps f s.points (usable_point ps f.0.range s.points) refl a.1 a.2.lawful (fair_in_range f.0 cat f.1 a.2.fair) b.1 in
    let others = all-start feed cat ps (n + 1) fs ss a.3 b.2 in
    ((one.0, one.1, others.0), all_append (FreeAt (zipped ps)) (changes_of (items_before (start_of ps f.0 s.points).offset (header_length f.0) f.1)) (passed fs (started ps (map (λ f. f.0) fs) ss)) one.2 others.1)

free-tail : (x : Part × Range) (xs : List (Part × Range)) (cs : List Change) → AllByRecursion (FreeAt (x ∷ xs)) cs → AllByRecursion (FreeAt xs) cs
free-tail x xs [] a = tt
free-tail x xs (c ∷ cs) a = (a.0.1, free-tail x xs cs a.1)

none-pending : (d : Durable) (cs : List Change) (ps : List Part) → AllByRecursion (FreeAt (zipped ps)) cs → PendingOfAll d.catalogue d cs ps (part_ranges ps) (map (λ p. []) ps)
none-pending d cs [] a = tt
none-pending d cs (p ∷ ps) a = (
  record {
    are_changes = λ n k. absurd (omega (arith, k.1));
    none_lost = λ c k w h. absurd ((all_at (FreeAt (zipped (p ∷ ps))) cs c a k).0 w h);
    ordered = refl;
  },
  none-pending d cs ps (free-tail (p, record { low = p.low; high = first_bound (map (λ p. p.low) ps) }) (zipped ps) cs a),
)

-- an opening finds a good state
pub opening_is_good : OpeningIsGood
opening_is_good feed fs d short lawful fronts sound =
    let s = all-start feed d.catalogue d.parts 0 fs d.streams fronts.each sound.points in record {
      short = short;
      lawful = lawful;
      fronts = fronts;
      sound = sound;
      ready = record { places = s.0; pending = none-pending d (passed fs (started d.parts (map (λ f. f.0) fs) d.streams)) d.parts s.1; job = tt };
    }

-- ---- a longer feed keeps a good state

pub grows-same : (feed more : Feed) → Grows feed more → length feed ≡ length more
grows-same [] [] g = refl
grows-same [] (now ∷ nows) g = let d : false ≡ true = g in cc
grows-same (old ∷ olds) [] g = absurd g
grows-same (old ∷ olds) (now ∷ nows) g = ap (λ n. suc n) (grows-same olds nows g.1)

-- a front with items behind it
abbrev pub with_more : Header × List Item → List Item → Header × List Item
with_more f rest = (f.0, f.1 ++ rest)

pair-is : (g f : Header × List Item) (rest : List Item) → g.0 ≡ f.0 → g.1 ≡ f.1 ++ rest → with_more f rest ≡ g
pair-is g f rest a b = sym (ap₂ (λ (x : Header) (y : List Item). let z : Header × List Item = (x, y) in z) a b)

abbrev pub IsLonger : Catalogue → List (Header × List Item) → List (Header × List Item) → Type 0
IsLonger cat [] [] = ⊤
IsLonger cat [] (g ∷ gs) = ⊥
IsLonger cat (f ∷ fs) [] = ⊥
IsLonger cat (f ∷ fs) (g ∷ gs) = ((rest : List Item) × (with_more f rest ≡ g) × (is_fair f.0 cat (f.1 ++ rest) ≡ true)) × IsLonger cat fs gs

pub longer-by : (more : Feed) (cat : Catalogue) (n : ℕ) (fs gs : List (Header × List Item)) → length fs ≡ length gs → FrontsStay fs gs → FrontsFrom more cat n gs → IsLonger cat fs gs
longer-by more cat n [] [] l st q = tt
longer-by more cat n [] (g ∷ gs) l st q = absurd (omega (arith, l))
longer-by more cat n (f ∷ fs) [] l st q = absurd (omega (arith, l))
longer-by more cat n (f ∷ fs) (g ∷ gs) l st q = (
  (st.1.0, pair-is g f st.1.0 st.0 st.1.1, ap₂ (λ (h : Header) (is : List Item). is_fair h cat is) (sym st.0) (sym st.1.1) ∙ q.2.fair),
  longer-by more cat (n + 1) fs gs (omega (arith, l)) st.2 q.3,
)

longer : (feed more : Feed) (cat : Catalogue) (fs gs : List (Header × List Item)) → Grows feed more → IsCatalogue cat → Fronts feed cat fs → Fronts more cat gs → IsLonger cat fs gs
longer feed more cat fs gs grows lawful p q = longer-by more cat 0 fs gs (p.all ∙ grows-same feed more grows ∙ sym q.all) (fronts_stay frames_prefix_free feed more cat cat fs gs grows lawful as_it_was p q) q.each

pub source-more : (cat : Catalogue) (fs gs : List (Header × List Item)) → IsLonger cat fs gs → AllByRecursion (Contains (source_of gs)) (source_of fs)
source-more cat [] [] st = tt
source-more cat [] (g ∷ gs) st = absurd st
source-more cat (f ∷ fs) [] st = absurd st
source-more cat (f ∷ fs) (g ∷ gs) st =
    let e : changes_of g.1 ≡ changes_of f.1 ++ changes_of st.0.0 = ap (λ x. changes_of x.1) (sym st.0.1) ∙ changes_of-append f.1 st.0.0 in
    all_append (Contains (changes_of g.1 ++ source_of gs)) (changes_of f.1) (source_of fs)
    (all_map (Contains (changes_of f.1)) (Contains (changes_of g.1 ++ source_of gs)) (changes_of f.1) (λ c k. contains_front (changes_of g.1) (source_of gs) c
    (subst (λ (x : List Change). Contains x c) (sym e) (contains_front (changes_of f.1) (changes_of st.0.0) c k))) (all_contained (changes_of f.1)))
    (all_map (Contains (source_of gs)) (Contains (changes_of g.1 ++ source_of gs)) (source_of fs) (λ c k. contains_rest (changes_of g.1) (source_of gs) c k) (source-more cat fs gs st.1))

abbrev pub Back : Range → ℕ → List Change → Change → Type 0
Back r t cs c = in_range (change_key c) r ≡ true → c.ts ≤ t → Contains cs c

abbrev pub Behind : Range → ℕ → List (Header × List Item) → Type 0
Behind r t fs = AllByRecursion (λ f. IsTrue (meets f.0.range r) → t ≤ checkpoint_of f.0 f.1) fs

pub source-back : (cat : Catalogue) (r : Range) (t : ℕ) (fs gs : List (Header × List Item)) → IsLonger cat fs gs → Behind r t fs → AllByRecursion (Back r t (source_of fs)) (source_of gs)
source-back cat r t [] [] st b = tt
source-back cat r t [] (g ∷ gs) st b = absurd st
source-back cat r t (f ∷ fs) [] st b = absurd st
source-back cat r t (f ∷ fs) (g ∷ gs) st b =
    let e : changes_of g.1 ≡ changes_of f.1 ++ changes_of st.0.0 = ap (λ x. changes_of x.1) (sym st.0.1) ∙ changes_of-append f.1 st.0.0 in
    let w : AllInRange f.0.range (changes_of f.1 ++ changes_of st.0.0) = subst (λ (x : List Change). AllInRange f.0.range x) (changes_of-append f.1 st.0.0) (fair_in_range f.0 cat (f.1 ++ st.0.0) st.0.2) in
    let new : AllByRecursion (Back r t (changes_of f.1 ++ source_of fs)) (changes_of st.0.0)
    = all_both (λ c. in_range (change_key c) f.0.range ≡ true) (λ c. checkpoint_of f.0 f.1 < c.ts) (Back r t (changes_of f.1 ++ source_of fs)) (changes_of st.0.0)
    (λ c k h a l. let m : t ≤ checkpoint_of f.0 f.1 = b.0 (meets-by (change_key c) f.0.range r k a) in absurd (omega (arith, m, h, l)))
    (all_rest (λ c. in_range (change_key c) f.0.range ≡ true) (changes_of f.1) (changes_of st.0.0) w) (rest_above f.0 cat f.1 st.0.0 st.0.2) in
    let old : AllByRecursion (Back r t (changes_of f.1 ++ source_of fs)) (changes_of f.1)
    = all_map (Contains (changes_of f.1)) (Back r t (changes_of f.1 ++ source_of fs)) (changes_of f.1) (λ c k a l. contains_front (changes_of f.1) (source_of fs) c k) (all_contained (changes_of f.1)) in
    all_append (Back r t (changes_of f.1 ++ source_of fs)) (changes_of g.1) (source_of gs)
    (subst (λ (x : List Change). AllByRecursion (Back r t (changes_of f.1 ++ source_of fs)) x) (sym e) (all_append (Back r t (changes_of f.1 ++ source_of fs)) (changes_of f.1) (changes_of st.0.0) old new))
    (all_map (Back r t (source_of fs)) (Back r t (changes_of f.1 ++ source_of fs)) (source_of gs) (λ c k a l. contains_rest (changes_of f.1) (source_of fs) c (k a l)) (source-back cat r t fs gs st.1 b.1))

pub behind-more : (cat : Catalogue) (r : Range) (t : ℕ) (fs gs : List (Header × List Item)) → IsLonger cat fs gs → Behind r t fs → Behind r t gs
behind-more cat r t [] [] st b = tt
behind-more cat r t [] (g ∷ gs) st b = absurd st
behind-more cat r t (f ∷ fs) [] st b = absurd st
behind-more cat r t (f ∷ fs) (g ∷ gs) st b =
    let c : checkpoint_of f.0 f.1 ≤ checkpoint_of f.0 (f.1 ++ st.0.0) = checkpoint_rises f.0 cat f.1 st.0.0 st.0.2 in
    (subst (λ (x : Header × List Item). IsTrue (meets x.0.range r) → t ≤ checkpoint_of x.0 x.1) st.0.1 (λ m. let l : t ≤ checkpoint_of f.0 f.1 = b.0 m in omega (arith, l, c)), behind-more cat r t fs gs st.1 b.1)

longer-take : (is rest : List Item) (n : ℕ) → n ≤ length is → take n is ≡ take n (is ++ rest)
longer-take is rest n h = sym (take-append-le n is rest h)

place-more : (f : Header × List Item) (rest : List Item) (o : ℕ) (p : Point) → IsPlace f o p → IsPlace (with_more f rest) o p
place-more f rest o p (n, l, a, b) =
    let e = longer-take f.1 rest n l in
    let m : length (f.1 ++ rest) ≡ length f.1 + length rest = length-append f.1 rest in
    (n, omega (arith, l, m), a ∙ ap (place_after f.0) e, b ∙ ap (point_of f.0) e)

stands-more : (f : Header × List Item) (rest : List Item) (a : StreamAt) → Stands f a → Stands (with_more f rest) a
stands-more f rest at (n, l, a, b, c) =
    let e = longer-take f.1 rest n l in
    let m : length (f.1 ++ rest) ≡ length f.1 + length rest = length-append f.1 rest in
    (n, omega (arith, l, m), a ∙ ap (place_after f.0) e, b ∙ ap (point_of f.0) e, c ∙ ap is_closed e)

pub points-more : (cat : Catalogue) (fs gs : List (Header × List Item)) (ss : List Stream) → IsLonger cat fs gs → SoundPoints fs ss → SoundPoints gs ss
points-more cat [] [] [] st b = tt
points-more cat [] [] (s ∷ ss) st b = absurd b
points-more cat [] (g ∷ gs) ss st b = absurd st
points-more cat (f ∷ fs) [] ss st b = absurd st
points-more cat (f ∷ fs) (g ∷ gs) [] st b = absurd b
points-more cat (f ∷ fs) (g ∷ gs) (s ∷ ss) st b = (
  b.0 ∙ ap (λ x. x.0.range.low) st.0.1,
  subst (λ (x : Header × List Item). AllByRecursion (λ p. IsPlace x p.0 p.1 × (header_length x.0 < p.0)) s.points) st.0.1
      (all_map (λ p. IsPlace f p.0 p.1 × (header_length f.0 < p.0)) (λ p. IsPlace (with_more f st.0.0) p.0 p.1 × (header_length f.0 < p.0)) s.points (λ p k. (place-more f st.0.0 p.0 p.1 k.0, k.1)) b.1),
  points-more cat fs gs ss st.1 b.2,
)

pub places-more : (cat : Catalogue) (fs gs : List (Header × List Item)) (ss : List StreamAt) → IsLonger cat fs gs → AreAtPlaces fs ss → AreAtPlaces gs ss × (passed fs ss ≡ passed gs ss)
places-more cat [] [] [] st b = (tt, refl)
places-more cat [] [] (s ∷ ss) st b = absurd b
places-more cat [] (g ∷ gs) ss st b = absurd st
places-more cat (f ∷ fs) [] ss st b = absurd st
places-more cat (f ∷ fs) (g ∷ gs) [] st b = absurd b
places-more cat (f ∷ fs) (g ∷ gs) (s ∷ ss) st b =
    let others = places-more cat fs gs ss st.1 b.2 in
    let n = b.1.0 in
    let e : items_before s.offset (header_length f.0) f.1 ≡ take n f.1 = before-take s.offset (header_length f.0) n f.1 b.1.2 in
    let t = longer-take f.1 st.0.0 n b.1.1 in
    let d : items_before s.offset (header_length f.0) (f.1 ++ st.0.0) ≡ take n (f.1 ++ st.0.0) = before-take s.offset (header_length f.0) n (f.1 ++ st.0.0) (b.1.2 ∙ ap (place_after f.0) t) in
    let one : changes_of (items_before s.offset (header_length f.0) f.1) ≡ changes_of (items_before s.offset (header_length g.0) g.1)
    = ap changes_of (e ∙ t ∙ sym d) ∙ ap (λ x. changes_of (items_before s.offset (header_length x.0) x.1)) st.0.1 in (
      (b.0 ∙ ap (λ x. x.0) st.0.1, subst (λ (x : Header × List Item). Stands x s) st.0.1 (stands-more f st.0.0 s b.1), others.0),
      ap₂ (λ (x y : List Change). x ++ y) one others.1,
    )

pub past-key : (key : List ℕ) (r : Range) (t u : ℕ) (fs : List (Header × List Item)) → in_range key r ≡ true → u ≤ t → Behind r t fs → ArePast key u fs
past-key key r t u fs w l b = all_map (λ f. IsTrue (meets f.0.range r) → t ≤ checkpoint_of f.0 f.1) (λ f. in_range key f.0.range ≡ true → u ≤ checkpoint_of f.0 f.1) fs
    (λ f k a. let m : t ≤ checkpoint_of f.0 f.1 = k (meets-by key f.0.range r a w) in omega (arith, m, l)) b

part-more : (feed more : Feed) (d : Durable) (fs gs : List (Header × List Item)) (p : Part) (r : Range) → Grows feed more → IsCatalogue d.catalogue → Fronts feed d.catalogue fs → Fronts more d.catalogue gs → SoundPart d fs p r → SoundPart d gs p r
part-more feed more d fs gs p r grows lawful a b s =
    let st = longer feed more d.catalogue fs gs grows lawful a b in record {
      only_changes = λ table v k h. let c = s.only_changes table v k h in (c.0, all_at (Contains (source_of gs)) (source_of fs) c.0 (source-more d.catalogue fs gs st) c.1, c.2, c.3);
      all_changes = λ c k w h l. s.all_changes c (all_at (Back r p.resume (source_of fs)) (source_of gs) c (source-back d.catalogue r p.resume fs gs st s.resume) k w l) w h l;
      rows = λ t key k w h. s.rows t key k w h ∙ ap (row_cells d.catalogue t.number) (sym (row_stays frames_prefix_free feed more d.catalogue d.catalogue fs gs grows (grows-same feed more grows) lawful as_it_was a b key d.minimum
          (past-key key r p.resume d.minimum fs w s.minimum s.resume)));
      agree = s.agree;
      minimum = s.minimum;
      resume = behind-more d.catalogue r p.resume fs gs st s.resume;
    }

parts-more : (feed more : Feed) (d : Durable) (fs gs : List (Header × List Item)) → Grows feed more → IsCatalogue d.catalogue → Fronts feed d.catalogue fs → Fronts more d.catalogue gs → (ps : List Part) (rs : List Range) → SoundParts d fs ps rs → SoundParts d gs ps rs
parts-more feed more d fs gs grows lawful a b [] rs s = tt
parts-more feed more d fs gs grows lawful a b (p ∷ ps) [] s = absurd s
parts-more feed more d fs gs grows lawful a b (p ∷ ps) (r ∷ rs) s = (part-more feed more d fs gs p r grows lawful a b s.0, parts-more feed more d fs gs grows lawful a b ps rs s.1)

-- a durable part that is sound for a feed is sound for a longer one, of which these are the fronts
pub sound_grows_part : (feed more : Feed) (d : Durable) (fs gs : List (Header × List Item)) → Grows feed more → IsCatalogue d.catalogue → Fronts feed d.catalogue fs → Fronts more d.catalogue gs → SoundPartOf d fs → SoundPartOf d gs
sound_grows_part feed more d fs gs grows lawful a b s = record {
  parts = parts-more feed more d fs gs grows lawful a b d.parts (ranges_of d) s.parts;
  points = points-more d.catalogue fs gs d.streams (longer feed more d.catalogue fs gs grows lawful a b) s.points;
}

-- a longer feed keeps a good state
pub good_grows : (feed more : Feed) (fs : List (Header × List Item)) (s : State) → Grows feed more → AreShort more → IsGood feed s fs → (gs : List (Header × List Item)) → Fronts more (cat_of s) gs → IsGood more s gs
good_grows feed more fs s grows short good gs b =
    let lawful = good.lawful.manifest.catalogue in
    let at = places-more (cat_of s) fs gs s.streams (longer feed more (cat_of s) fs gs grows lawful good.fronts b) good.ready.places in record {
      short = short;
      lawful = good.lawful;
      fronts = b;
      sound = sound_grows_part feed more s.durable fs gs grows lawful good.fronts b good.sound;
      ready = record {
        places = at.0;
        pending = subst (λ (cs : List Change). PendingOfAll (cat_of s) s.durable cs s.durable.parts (ranges_of s.durable) s.pending) at.1 good.ready.pending;
        job = good.ready.job;
      };
    }

-- an image that is sound for a feed is sound for a longer one that has fronts
pub sound_grows_where : (image : List ℕ) (feed more : Feed) → Grows feed more → (s : IsSound image feed) → (gs : List (Header × List Item)) → Fronts more s.durable.catalogue gs → IsSound image more
sound_grows_where image feed more grows s gs b = record {
  durable = s.durable;
  placing = s.placing;
  holds = s.holds;
  within = s.within;
  fronts = gs;
  are_fronts = b;
  sound = sound_grows_part feed more s.durable s.fronts gs grows (subst (λ (d : Durable). IsCatalogue d.catalogue) (sym s.holds.durable) s.holds.manifest.lawful.catalogue) s.are_fronts b s.sound;
}

-- ---- a longer feed changes no row up to a safe moment

least-low : (t n : ℕ) (ns : List ℕ) → t ≤ fold min n ns → (t ≤ n) × AllByRecursion (λ m. t ≤ m) ns
least-low t n [] h = (h, tt)
least-low t n (m ∷ ns) h = let r = least-low t (min n m) ns h in let a : t ≤ min n m = r.0 in (omega (arith, a), (omega (arith, a), r.1))

pub least-all : (t : ℕ) (ns : List ℕ) → t ≤ least ns → AllByRecursion (λ m. t ≤ m) ns
least-all t [] h = tt
least-all t (n ∷ ns) h = least-low t n ns h

pub kept-by : (P : ℕ → Type 0) (b : Bool) (m : ℕ) (ns : List ℕ) → AllByRecursion P (cons_option (when b m) ns) → (b ≡ true → P m) × AllByRecursion P ns
kept-by P true m ns a = ((λ e. a.0), a.1)
kept-by P false m ns a = ((λ e. let d : false ≡ true = e in cc), a)

behind-safe : (feed : Feed) (cat : Catalogue) (r : Range) (t n : ℕ) (fs : List (Header × List Item)) (ss : List StreamAt) → FrontsFrom feed cat n fs → AreAtPlaces fs ss → AllByRecursion (λ m. t ≤ m) (checkpoints_meeting ss r) → Behind r t fs
behind-safe feed cat r t n [] ss a b l = tt
behind-safe feed cat r t n (f ∷ fs) [] a b l = absurd b
behind-safe feed cat r t n (f ∷ fs) (s ∷ ss) a b l =
    let k = kept-by (λ m. t ≤ m) (meets s.header.range r && not s.closed) s.point.checkpoint (checkpoints_meeting ss r) l in
    let i = b.1.0 in
    let shut : s.closed ≡ false = b.1.4 ∙ open-items f.0.format f.1 i a.1 a.2.lawful in
    let fair : is_fair f.0 cat (take i f.1 ++ drop i f.1) ≡ true = ap (is_fair f.0 cat) (take-append-drop i f.1) ∙ a.2.fair in
    let up : checkpoint_of f.0 (take i f.1) ≤ checkpoint_of f.0 (take i f.1 ++ drop i f.1) = checkpoint_rises f.0 cat (take i f.1) (drop i f.1) fair in
    let same_end : checkpoint_of f.0 (take i f.1 ++ drop i f.1) ≡ checkpoint_of f.0 f.1 = ap (checkpoint_of f.0) (take-append-drop i f.1) in
    let at : s.point.checkpoint ≡ checkpoint_of f.0 (take i f.1) = ap (λ p. p.checkpoint) b.1.3 ∙ checkpoint-is f.0 (take i f.1) in (
      (λ m. let h : t ≤ s.point.checkpoint = k.0 (and_from _ _ (ap (λ x. meets x.range r) b.0 ∙ m) (ap not shut)) in omega (arith, h, at, up, same_end)),
      behind-safe feed cat r t (n + 1) fs ss a.3 b.2 k.1,
    )

behind-less : (r : Range) (t u : ℕ) (fs : List (Header × List Item)) → u ≤ t → Behind r t fs → Behind r u fs
behind-less r t u fs l b = all_map (λ f. IsTrue (meets f.0.range r) → t ≤ checkpoint_of f.0 f.1) (λ f. IsTrue (meets f.0.range r) → u ≤ checkpoint_of f.0 f.1) fs (λ f k a. let m : t ≤ checkpoint_of f.0 f.1 = k a in omega (arith, m, l)) b

pub le-false : (a b : ℕ) → nat_le a b ≡ false → b < a
le-false a b e = grind (arith, nat_tests)

pub max-other : (t a b : ℕ) → t ≤ max a b → a < t → t ≤ b
max-other t a b h l = omega arith

part-safe : (feed : Feed) (d : Durable) (t : ℕ) (fs : List (Header × List Item)) (ss : List StreamAt) (p : Part) (r : Range) → FrontsFrom feed d.catalogue 0 fs → AreAtPlaces fs ss → SoundPart d fs p r → t ≤ checkpoint_at ss p r → Behind r t fs
part-safe feed d t fs ss p r a b s h = pick (nat_le t p.resume)
    (λ e. behind-less r p.resume t fs (le-true t p.resume e) s.resume)
    (λ e. behind-safe feed d.catalogue r t 0 fs ss a b (least-all t (checkpoints_meeting ss r) (max-other t p.resume (least (checkpoints_meeting ss r)) h (le-false t p.resume e))))

pub not-found : {A : Type 0} (b : Bool) (x : A) (o : Option A) → cond b (Some x) o ≡ None → (b ≡ false) × (o ≡ None)
not-found true x o e = cc
not-found false x o e = (refl, e)

pub at-least : (m : Bool) (c t : ℕ) → m && nat_lt c t ≡ false → m ≡ true → t ≤ c
at-least true c t e h = grind (arith, nat_tests)
at-least false c t e h = cc

parts-safe : (feed : Feed) (d : Durable) (key : List ℕ) (q : Range) (t n : ℕ) (fs : List (Header × List Item)) (ss : List StreamAt) → FrontsFrom feed d.catalogue 0 fs → AreAtPlaces fs ss → in_range key q ≡ true → (ps : List Part) (rs : List Range) → SoundParts d fs ps rs
    → find (λ x. meets x.1.0 q && nat_lt x.1.1 t) (numbered_from n (zip rs (map (λ x. checkpoint_at ss x.0 x.1) (zip ps rs)))) ≡ None → AllByRecursion (λ x. in_range key x.1 ≡ true → ArePast key t fs) (zip ps rs)
parts-safe feed d key q t n fs ss a b w [] rs s e = tt
parts-safe feed d key q t n fs ss a b w (p ∷ ps) [] s e = tt
parts-safe feed d key q t n fs ss a b w (p ∷ ps) (r ∷ rs) s e =
    let k = not-found (meets r q && nat_lt (checkpoint_at ss p r) t) (n, (r, checkpoint_at ss p r)) _ e in (
      (λ h. past-key key r t t fs h (omega arith) (part-safe feed d t fs ss p r a b s.0 (at-least (meets r q) (checkpoint_at ss p r) t k.0 (meets-by key r q h w)))),
      parts-safe feed d key q t (n + 1) fs ss a b w ps rs s.1 k.1,
    )

found-part : (key : List ℕ) (X : Type 0) (p : Part) (ps : List Part) → below key p.low ≡ false → AllByRecursion (λ x. in_range key x.1 ≡ true → X) (zip (p ∷ ps) (part_ranges (p ∷ ps))) → X
found-part key X p [] h a = a.0 (and_from _ _ (ap not h) refl)
found-part key X p (q ∷ ps) h a = pick (below key q.low) (λ e. a.0 (and_from _ _ (ap not h) e)) (λ e. found-part key X q ps e a.1)

eq-zero : (n : ℕ) → (n == 0) ≡ true → n ≡ 0
eq-zero n e = grind (arith, nat_tests)

pub not-below-none : (key low : List ℕ) → IsTrue (length low == 0) → below key low ≡ false
not-below-none [] [] e = refl
not-below-none (k ∷ ks) [] e = refl
not-below-none key (l ∷ ls) e = let d : length (l ∷ ls) ≡ 0 = eq-zero (length (l ∷ ls)) e in absurd (omega (arith, d))

pub in-some-part : (key : List ℕ) (X : Type 0) (ps : List Part) → IsTrue (tile (map (λ p. p.low) ps)) → AllByRecursion (λ x. in_range key x.1 ≡ true → X) (zip ps (part_ranges ps)) → X
in-some-part key X [] e a = let d : false ≡ true = e in cc
in-some-part key X (p ∷ ps) e a = found-part key X p ps (not-below-none key p.low (left (length p.low == 0) _ e)) a

-- the row of each key of an interval stays, up to a moment at which no partition that meets it is behind
pub safe_row_stays : (feed more : Feed) (wide : Catalogue) (fs : List (Header × List Item)) (s : State) → Grows feed more → Became (cat_of s) wide → IsGood feed s fs → (gs : List (Header × List Item)) → Fronts more wide gs
    → (q : Range) (t : ℕ) → first_below s q t ≡ None → (key : List ℕ) → in_range key q ≡ true → row_at (source_of gs) key t ≡ row_at (source_of fs) key t
safe_row_stays feed more wide fs s grows became good gs b q t e key w =
    row_stays frames_prefix_free feed more (cat_of s) wide fs gs grows (grows-same feed more grows) good.lawful.manifest.catalogue became good.fronts b key t
    (in-some-part key (ArePast key t fs) s.durable.parts (left _ _ (left _ _ good.lawful.manifest.parts))
    (parts-safe feed s.durable key q t 0 fs s.streams good.fronts.each good.ready.places w s.durable.parts (ranges_of s.durable) good.sound.parts (none_mapped (λ x. (x.0, x.1.1)) _ e)))
