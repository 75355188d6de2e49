-- The restart points that a flush leaves: places of the fronts, by rising offset, each lawful.
use Rattle.std.proofs.Common.{Bool, List, [], ap, append-nil, arith, cond, false, le-leb, leb-true, length, lt-ltb, ltb-true, refl, subst, suc, sym, true, ℕ, ◌++◌, ◌+◌, ◌<◌, ◌∙◌, ◌∷◌, ◌≡◌, ◌≤◌}
use Rattle.std.specs.Prelude.{IsTrue, None, Option, Some, filter, map, nat_le, nat_lt, not, ◌&&◌, ◌^◌}
use Rattle.std.specs.List.{AllByRecursion, list_all}
use Rattle.std.specs.Option.{option_map_or}
use Rattle.std.proofs.lemmas.Bool.{and_from, and_parts}
use Rattle.std.proofs.lemmas.List.{length-append, map-append}
use Rattle.lt_terms.specs.Value.{rises_above, rises_strictly}
use Rattle.lt_terms.specs.Key.{max_key}
use Rattle.lt_terms.specs.Log.{Header, Item}
use Rattle.lt_world.specs.Feed.{AreShort, Feed}
use Rattle.lt_tables.specs.Fair.{Point, header_length}
use Rattle.lt_tables.specs.Pump.{Part, StreamAt, last_of}
use Rattle.lt_tables.specs.Schema.{Catalogue}
use Rattle.lt_storage.specs.Store.{Stream, is_point, is_stream_entry}
use Rattle.lt_machine.specs.Machine.{from_offset, may_add, points_after, points_kept, streams_after, usable_point}
use Rattle.lt_machine.specs.Sound.{AreAtPlaces, FrontsFrom, IsPlace, SoundPoints}
use Rattle.lt_codecs.proofs.ListFacts.{all_append}
use Rattle.lt_lemmas.proofs.ListFacts.{all_filter}
use Rattle.lt_laws.proofs.HeldLaws.{rises_tail}
use Rattle.lt_laws.proofs.ReadLaws.{all_tests, rises_kept}
use Rattle.lt_session_laws.proofs.AddedSession.{rises_push}
use Rattle.lt_laws.proofs.NewDelta.{tests_hold}
use Rattle.lt_session_laws.proofs.PlaceLaws.{place_point, place_within}

abbrev Place : Type 0
Place = ℕ × Point

-- ---- step 1: the points that are kept

filter_short_by : {A : Type 0} (x : A) (xs ys : List A) (b : Bool) → length ys ≤ length xs → length (cond b (x ∷ ys) ys) ≤ suc (length xs)
filter_short_by x xs ys true h = omega (arith, h)
filter_short_by x xs ys false h = omega (arith, h)

pub filter_short : {A : Type 0} (test : A → Bool) (xs : List A) → length (filter test xs) ≤ length xs
filter_short test [] = omega arith
filter_short test (x ∷ xs) = filter_short_by x xs (filter test xs) (test x) (filter_short test xs)

offsets_by : (test : ℕ → Bool) (p : Place) (b : Bool) (xs : List Place) (ns : List ℕ) → map (λ p. p.0) xs ≡ ns → map (λ p. p.0) (cond b (p ∷ xs) xs) ≡ cond b (p.0 ∷ ns) ns
offsets_by test p true xs ns e = ap (λ (l : List ℕ). p.0 ∷ l) e
offsets_by test p false xs ns e = e

offsets_kept : (test : ℕ → Bool) (points : List Place) → map (λ p. p.0) (filter (λ p. test p.0) points) ≡ filter test (map (λ p. p.0) points)
offsets_kept test [] = refl
offsets_kept test (p ∷ points) = offsets_by test p (test p.0) (filter (λ p. test p.0) points) (filter test (map (λ p. p.0) points)) (offsets_kept test points)

strictly_by : (test : ℕ → Bool) (n : ℕ) (ns : List ℕ) (b : Bool) → IsTrue (rises_above n ns) → IsTrue (rises_strictly (cond b (n ∷ filter test ns) (filter test ns)))
strictly_by test n ns true r = rises_kept test n ns r
strictly_by test n ns false r = rises_tail n (filter test ns) (rises_kept test n ns r)

pub strictly_kept : (test : ℕ → Bool) (ns : List ℕ) → IsTrue (rises_strictly ns) → IsTrue (rises_strictly (filter test ns))
strictly_kept test [] r = refl
strictly_kept test (n ∷ ns) r = strictly_by test n ns (test n) r

-- what is kept of a list of points
record IsKept (P : Place → Type 0) (points kept : List Place) : Type 0 where
  few : length kept ≤ length points
  rise : IsTrue (rises_strictly (map (λ p. p.0) points)) → IsTrue (rises_strictly (map (λ p. p.0) kept))
  each : AllByRecursion P points → AllByRecursion P kept

kept_by : (P : Place → Type 0) (points : List Place) (o : Option Place) → IsKept P points (option_map_or (λ p. from_offset p.0 points) o points)
kept_by P points None = record { few = omega arith; rise = λ r. r; each = λ a. a }
kept_by P points (Some p) = record {
  few = filter_short (λ q. nat_le p.0 q.0) points;
  rise = λ r. ap rises_strictly (offsets_kept (nat_le p.0) points) ∙ strictly_kept (nat_le p.0) (map (λ p. p.0) points) r;
  each = λ a. all_filter P (λ q. nat_le p.0 q.0) points a;
}

-- ---- step 2: the place where the stream stands

all_below : (o : ℕ) (points : List Place) → IsTrue (rises_strictly (map (λ p. p.0) points)) → option_map_or (λ (p : Place). nat_lt p.0 o) (last_of points) true ≡ true → AllByRecursion (λ m. m < o) (map (λ p. p.0) points)
all_below o [] r h = tt
all_below o (p ∷ []) r h = (ltb-true p.0 o h, tt)
all_below o (p ∷ q ∷ points) r h =
    let k = and_parts (nat_lt p.0 q.0) (rises_above q.0 (map (λ p. p.0) points)) r in
    let a = all_below o (q ∷ points) k.1 h in
    let l : p.0 < q.0 = ltb-true p.0 q.0 k.0 in
    let b : q.0 < o = a.0 in ((omega (arith, l, b)), a)

record MayAdd (a : StreamAt) (kept : List Place) : Type 0 where
  few : length kept < 4
  behind : header_length a.header < a.offset
  last : option_map_or (λ (p : Place). nat_lt p.0 a.offset) (last_of kept) true ≡ true
  small : IsTrue (nat_le (length a.point.window) 1024)

may_parts : (a : StreamAt) (kept : List Place) → may_add a kept ≡ true → MayAdd a kept
may_parts a kept e =
    let last = option_map_or (λ (p : Place). nat_lt p.0 a.offset) (last_of kept) true in
    let p = and_parts (not a.closed && nat_lt (length kept) 4 && nat_lt (header_length a.header) a.offset && last) (nat_le (length a.point.window) 1024) e in
    let q = and_parts (not a.closed && nat_lt (length kept) 4 && nat_lt (header_length a.header) a.offset) last p.0 in
    let r = and_parts (not a.closed && nat_lt (length kept) 4) (nat_lt (header_length a.header) a.offset) q.0 in
    record { few = ltb-true (length kept) 4 (and_parts (not a.closed) (nat_lt (length kept) 4) r.0).1; behind = ltb-true (header_length a.header) a.offset r.1; last = q.1; small = p.1 }

added_by : (P : Place → Type 0) (a : StreamAt) (kept : List Place) (b : Bool) → may_add a kept ≡ b → (MayAdd a kept → P (a.offset, a.point)) → AllByRecursion P kept → AllByRecursion P (kept ++ cond b ((a.offset, a.point) ∷ []) [])
added_by P a kept true e f k = all_append P kept ((a.offset, a.point) ∷ []) k (f (may_parts a kept e), tt)
added_by P a kept false e f k = all_append P kept [] k tt

added_few : (a : StreamAt) (kept : List Place) (b : Bool) → may_add a kept ≡ b → length kept ≤ 4 → length (kept ++ cond b ((a.offset, a.point) ∷ []) []) ≤ 4
added_few a kept true e h = let l = (may_parts a kept e).few in let n = length-append kept ((a.offset, a.point) ∷ []) in omega (arith, l, n)
added_few a kept false e h = let n : length (kept ++ []) ≡ length kept = ap length (append-nil kept) in omega (arith, h, n)

added_rise : (a : StreamAt) (kept : List Place) (b : Bool) → may_add a kept ≡ b → IsTrue (rises_strictly (map (λ p. p.0) kept)) → IsTrue (rises_strictly (map (λ p. p.0) (kept ++ cond b ((a.offset, a.point) ∷ []) [])))
added_rise a kept true e r = ap rises_strictly (map-append (λ (p : Place). p.0) kept ((a.offset, a.point) ∷ [])) ∙ rises_push (map (λ p. p.0) kept) a.offset r (all_below a.offset kept r (may_parts a kept e).last)
added_rise a kept false e r = ap (λ (l : List Place). rises_strictly (map (λ p. p.0) l)) (append-nil kept) ∙ r

-- ---- both, of one stream

pub points_hold : (P : Place → Type 0) (ps : List Part) (a : StreamAt) (points : List Place) → (header_length a.header < a.offset → IsTrue (nat_le (length a.point.window) 1024) → P (a.offset, a.point)) → AllByRecursion P points → AllByRecursion P (points_after ps a points)
points_hold P ps a points f k =
    let kept = points_kept ps a.header.range points in
    added_by P a kept (may_add a kept) refl (λ m. f m.behind m.small) ((kept_by P points (usable_point ps a.header.range points)).each k)

abbrev is_lawful_place : Place → Bool
is_lawful_place p = nat_lt p.0 (2 ^ 64) && is_point p.1

entry_after : (ps : List Part) (a : StreamAt) (s : Stream) → (IsTrue (nat_le (length a.point.window) 1024) → IsTrue (is_lawful_place (a.offset, a.point))) → IsTrue (is_stream_entry s) → IsTrue (is_stream_entry (record { low = s.low; points = points_after ps a s.points }))
entry_after ps a s f e =
    let p = and_parts (nat_le (length s.low) max_key && nat_le (length s.points) 4 && rises_strictly (map (λ p. p.0) s.points)) (list_all is_lawful_place s.points) e in
    let q = and_parts (nat_le (length s.low) max_key && nat_le (length s.points) 4) (rises_strictly (map (λ p. p.0) s.points)) p.0 in
    let r = and_parts (nat_le (length s.low) max_key) (nat_le (length s.points) 4) q.0 in
    let kept = points_kept ps a.header.range s.points in
    let k = kept_by (λ p. IsTrue (is_lawful_place p)) s.points (usable_point ps a.header.range s.points) in
    let few : length kept ≤ 4 = (let l = k.few in let m : length s.points ≤ 4 = leb-true (length s.points) 4 r.1 in omega (arith, l, m)) in
    and_from _ _ (and_from _ _ (and_from _ _ r.0 (le-leb (length (points_after ps a s.points)) 4 (added_few a kept (may_add a kept) refl few))) (added_rise a kept (may_add a kept) refl (k.rise q.1)))
    (tests_hold is_lawful_place (points_after ps a s.points) (points_hold (λ p. IsTrue (is_lawful_place p)) ps a s.points (λ b w. f w) (all_tests is_lawful_place s.points p.1)))

-- ---- of all streams

pub points_sound : (feed : Feed) (cat : Catalogue) (k : ℕ) (ps : List Part) (fs : List (Header × List Item)) (ss : List StreamAt) (ds : List Stream) → AreAtPlaces fs ss → SoundPoints fs ds → SoundPoints fs (streams_after ps ss ds)
points_sound feed cat k ps [] [] ds a b = b
points_sound feed cat k ps [] (s ∷ ss) ds a b = absurd a
points_sound feed cat k ps (f ∷ fs) [] ds a b = absurd a
points_sound feed cat k ps (f ∷ fs) (s ∷ ss) [] a b = absurd b
points_sound feed cat k ps (f ∷ fs) (s ∷ ss) (d ∷ ds) a b = (
  b.0,
  points_hold (λ p. IsPlace f p.0 p.1 × (header_length f.0 < p.0)) ps s d.points (λ h w. ((a.1.0, a.1.1, a.1.2, a.1.3), subst (λ (x : Header). header_length x < s.offset) a.0 h)) b.1,
  points_sound feed cat (k + 1) ps fs ss ds a.2 b.2,
)

pub entries_after : (feed : Feed) (cat : Catalogue) (k : ℕ) (ps : List Part) (fs : List (Header × List Item)) (ss : List StreamAt) (ds : List Stream) → AreShort feed → FrontsFrom feed cat k fs → AreAtPlaces fs ss → IsTrue (list_all is_stream_entry ds)
    → IsTrue (list_all is_stream_entry (streams_after ps ss ds))
entries_after feed cat k ps fs [] ds short fr a e = e
entries_after feed cat k ps [] (s ∷ ss) ds short fr a e = absurd a
entries_after feed cat k ps (f ∷ fs) (s ∷ ss) [] short fr a e = refl
entries_after feed cat k ps (f ∷ fs) (s ∷ ss) (d ∷ ds) short fr a e =
    let p = and_parts (is_stream_entry d) (list_all is_stream_entry ds) e in
    let n = a.1.0 in
    let place : s.offset < 2 ^ 63 = (let l = place_within feed cat n f short fr.2 in let q = a.1.2 in omega (arith, l, q)) in
    and_from _ _ (entry_after ps s d (λ w. and_from _ _ (lt-ltb s.offset (2 ^ 64) (omega (arith, place)))
    (subst (λ (x : Point). IsTrue (is_point x)) (sym a.1.3) (place_point feed cat k n f fr.0 fr.2 (subst (λ (x : Point). IsTrue (nat_le (length x.window) 1024)) a.1.3 w)))) p.0)
    (entries_after feed cat (k + 1) ps fs ss ds short fr.3 a.2 p.1)

pub streams_length : (ps : List Part) (ss : List StreamAt) (ds : List Stream) → length (streams_after ps ss ds) ≡ length ds
streams_length ps [] ds = refl
streams_length ps (s ∷ ss) [] = refl
streams_length ps (s ∷ ss) (d ∷ ds) = ap suc (streams_length ps ss ds)
