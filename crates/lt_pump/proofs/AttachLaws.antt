-- Headers that fit, one stream after another.
use Rattle.std.proofs.Common.{◌≡◌, ℕ, suc, zero, ◌+◌, ◌<◌, Bool, true, false, List, [], ◌∷◌, ◌++◌, length, refl, sym, ap, ap₂, subst, ◌∙◌, arith, inr, append_assoc, append-nil, map}
use Rattle.std.specs.Prelude.{Err, IfErr, IfSome, IsTrue, None, Ok, Option, Result, Some, option_and_then, ◌↔◌, ◌&&◌, ◌==◌}
use Rattle.std.specs.Result.{IsErrAnd}
use Rattle.lt_world.specs.Disk.{Rose}
use Rattle.std.proofs.lemmas.Bool.{and_from, and_parts}
use Rattle.std.proofs.lemmas.List.{length-append, length-map, map-append}
use Rattle.lt_terms.specs.declared.Format.TheVariants as format
use Rattle.lt_tables.specs.Fair as fair
use Rattle.lt_world.specs.Feed.{Feed, Grows, stream_bytes}
use Rattle.lt_tables.specs.Fair.{HasHeader, header_length, point_of}
use Rattle.lt_terms.specs.Log.{Header, header_item, is_item}
use Rattle.lt_tables.specs.Pump.{StreamAt, behind_header, last_of, no_point}
use Rattle.lt_world.specs.Feed.{FeedGrows}
use Rattle.lt_world.specs.Object.{StaysTold}
use Rattle.lt_tables.specs.Pump.{AreHeaders, Attaches, GoesOn, IsKeptLow, IsMismatch, StreamOpens, bound_before, count_mismatch}
use Rattle.lt_lemmas.proofs.FrontLaws.{header_stays}
use Rattle.lt_records.specs.View.{view_header}
use Rattle.lt_records.specs.declared.record.StreamHeader.{StreamHeader}
use Rattle.lt_pump.specs.Headers.{Begins, Fits, IsFramed}
use Rattle.lt_pump.specs.Positions.{are_streams, low_of, stream_of}
use Rattle.lt_pump.specs.Pumps.{AttachRefused, HasAttached, refusal_of}
use Rattle.lt_pump.specs.declared.reading.Fault.{Fault}
use Rattle.lt_pump.specs.declared.reading.Fault.TheVariants as faults
use Rattle.lt_pump.specs.declared.refusal.AttachRefusal.{AttachRefusal}
use Rattle.lt_pump.specs.declared.refusal.AttachRefusal.TheVariants as refusals
use Rattle.lt_pump.specs.declared.position.Position.{Position}
use Rattle.lt_pump.proofs.FeedLaws.{told_map, told_step}
use Rattle.lt_pump.proofs.PumpLaws.{joined}
use Rattle.lt_pump.proofs.TileLaws.{Kept, Tiling, counted, lows_kept, some_feed}

abbrev pub Lows' : Type 0
Lows' = Kept

-- the headers of the streams so far
abbrev pub heads_of : List Position → List Header
heads_of ps = map (λ p. (stream_of p).header) ps

-- ---- a longer feed with as many streams

pub as_many_streams : (f g : Feed) → Grows f g → length g ≡ length f
as_many_streams [] [] h = refl
as_many_streams [] (y ∷ g) h = absurd (let e : false ≡ true = h in cc)
as_many_streams (x ∷ f) [] h = absurd h
as_many_streams (x ∷ f) (y ∷ g) h = ap suc (as_many_streams f g h.1)

goes_on_grows : (f g : Feed) (kept : Lows') (before : List Header) (h : Header) → Grows f g → GoesOn f kept before h → GoesOn g kept before h
goes_on_grows f g kept before h w o =
    let same = as_many_streams f g w in
    ((header_stays f g w (length before) h o.0.0, o.0.1, o.0.2), o.1, o.2, (λ n. o.3.0 n ∙ sym same, λ e. o.3.1 (e ∙ same)))

headers_grow : (f g : Feed) (kept : Lows') (before hs : List Header) → Grows f g → AreHeaders f kept before hs → AreHeaders g kept before hs
headers_grow f g kept before [] w a = tt
headers_grow f g kept before (h ∷ hs) w a = (goes_on_grows f g kept before h w a.0, headers_grow f g kept (before ++ h ∷ []) hs w a.1)

-- ---- one header more

headers_more : (f : Feed) (kept : Lows') (before hs : List Header) (h : Header) → AreHeaders f kept before hs → GoesOn f kept (before ++ hs) h → AreHeaders f kept before (hs ++ h ∷ [])
headers_more f kept before [] h a o = (subst (λ (x : List Header). GoesOn f kept x h) (append-nil before) o, tt)
headers_more f kept before (x ∷ hs) h a o = (a.0, headers_more f kept (before ++ x ∷ []) hs h a.1 (subst (λ (y : List Header). GoesOn f kept y h) (sym (append_assoc before (x ∷ []) hs)) o))

last_more : (xs : List Header) (x : Header) → last_of (xs ++ x ∷ []) ≡ Some x
last_more [] x = refl
last_more (y ∷ []) x = refl
last_more (y ∷ z ∷ xs) x = last_more (z ∷ xs) x

pub bound_more : (hs : List Header) (h : Header) → bound_before (hs ++ h ∷ []) ≡ h.range.high
bound_more [] h = refl
bound_more (x ∷ hs) h = ap (λ o. option_and_then (λ (g : Header). g.range.high) o) (last_more (x ∷ hs) h)

fits_opens : (f : Feed) (s : ℕ) (x : StreamHeader × ℕ) → (view_header x.0).stream ≡ s → IsFramed x → Begins f s (Some x) → StreamOpens f s (view_header x.0)
fits_opens f s x n w b = (record { number = n; lawful = w.0; rest = b.0.0; spells = b.0.1 }, refl, refl)

-- ---- what the loop keeps

pub record Fitting (told : Option Feed) (kept : Lows') (count n : ℕ) (bound : Option (List ℕ)) (lows : List (List ℕ)) (ps : List Position) : Type 0 where
  pub number : length ps ≡ n
  pub behind : map stream_of ps ≡ map behind_header (heads_of ps)
  pub streams : are_streams 0 (map stream_of ps) ≡ true
  pub lows_are : lows ≡ map low_of (map stream_of ps)
  pub bound_is : bound ≡ bound_before (heads_of ps)
  pub headers : IfSome told (λ f. (length f ≡ count) × AreHeaders f kept [] (heads_of ps))

pub fitting_none : (told : Option Feed) (kept : Lows') (count : ℕ) (bound : Option (List ℕ)) (lows : List (List ℕ)) (ps : List Position) → IfSome told (λ f. length f ≡ count) → bound ≡ Some [] → lows ≡ [] → ps ≡ [] → Fitting told kept count 0 bound lows ps
fitting_none told kept count bound lows ps h e l none = subst (λ (x : List Position). Fitting told kept count 0 bound lows x) (sym none) (record {
  number = refl;
  behind = refl;
  streams = refl;
  lows_are = l;
  bound_is = e;
  headers = told_map (λ f. length f ≡ count) (λ f. (length f ≡ count) × AreHeaders f kept [] []) told h (λ f c. (c, tt));
})

heads_length : (ps : List Position) → length (heads_of ps) ≡ length ps
heads_length ps = length-map ps (λ p. (stream_of p).header)

headers_now : (told told' : Option Feed) (kept : Lows') (count : ℕ) (ps : List Position) (P : Feed → Type 0) → StaysTold told told' → FeedGrows told told' → IfSome told (λ f. (length f ≡ count) × AreHeaders f kept [] (heads_of ps)) → IfSome told' P
    → IfSome told' (λ f. (length f ≡ count) × AreHeaders f kept [] (heads_of ps) × P f)
headers_now told told' kept count ps P s g a b = told_step (λ f. (length f ≡ count) × AreHeaders f kept [] (heads_of ps)) P (λ f. (length f ≡ count) × AreHeaders f kept [] (heads_of ps) × P f) told told' s g a b
    (λ f h w x y. (as_many_streams f h w ∙ x.0, headers_grow f h kept [] (heads_of ps) w x.1, y))

-- a stream with no header, or with one that does not fit
pub mismatch_none : (told told' : Option Feed) (kept : Lows') (count n : ℕ) (bound : Option (List ℕ)) (lows : List (List ℕ)) (ps : List Position) (o : Option (StreamHeader × ℕ)) → StaysTold told told' → FeedGrows told told' → n < count
    → ((f : Feed) → length f ≡ count → count_mismatch f kept ≡ None) → Fitting told kept count n bound lows ps → o ≡ None → IfSome told' (λ f. Begins f n o) → IfSome told' (λ f. IsMismatch f kept n)
mismatch_none told told' kept count n bound lows ps o s g l none t e b =
    told_map (λ f. (length f ≡ count) × AreHeaders f kept [] (heads_of ps) × Begins f n o) (λ f. IsMismatch f kept n) told' (headers_now told told' kept count ps (λ f. Begins f n o) s g t.headers b)
    (λ f x. let hl = heads_length ps ∙ t.number in
    inr (none f x.0, (heads_of ps, hl, omega (arith, l, x.0), x.1, λ h on. (subst (λ (y : Option (StreamHeader × ℕ)). Begins f n y) e x.2) h (subst (λ (m : ℕ). StreamOpens f m h) hl on.0))))

pub mismatch_unfit : (told told' : Option Feed) (kept : Lows') (count n : ℕ) (bound : Option (List ℕ)) (lows : List (List ℕ)) (ps : List Position) (o : Option (StreamHeader × ℕ)) (x : StreamHeader × ℕ) (fits : Bool) → StaysTold told told' → FeedGrows told told' → n < count
    → ((f : Feed) → length f ≡ count → count_mismatch f kept ≡ None) → Fitting told kept count n bound lows ps → o ≡ Some x → IfSome told' (λ f. Begins f n o) → ((f : Feed) → length f ≡ count → (fits ≡ true) ↔ Fits f kept n bound (view_header x.0)) → fits ≡ false
    → IfSome told' (λ f. IsMismatch f kept n)
mismatch_unfit told told' kept count n bound lows ps o x fits s g l none t e b test unfit =
    told_map (λ f. (length f ≡ count) × AreHeaders f kept [] (heads_of ps) × Begins f n o) (λ f. IsMismatch f kept n) told' (headers_now told told' kept count ps (λ f. Begins f n o) s g t.headers b)
    (λ f y. let hl = heads_length ps ∙ t.number in
    let begins : Begins f n (Some x) = subst (λ (z : Option (StreamHeader × ℕ)). Begins f n z) e y.2 in
    inr (
      none f y.0,
      (
        heads_of ps,
        hl,
        omega (arith, l, y.0),
        y.1,
        λ h on.
            let opens = subst (λ (m : ℕ). StreamOpens f m h) hl on.0 in
            let same = begins.1 h opens in
            let fit : Fits f kept n bound h = (opens.0.number, t.bound_is ∙ on.1, subst (λ (m : ℕ). IsKeptLow kept m h.range.low) hl on.2, (λ z. ap (λ (m : ℕ). m + 1) (sym hl) ∙ on.3.0 z, λ z. on.3.1 (ap (λ (m : ℕ). m + 1) hl ∙ z))) in
            let met : fits ≡ true = (test f y.0).1 (subst (λ (z : Header). Fits f kept n bound z) same fit) in
            let d : false ≡ true = sym unfit ∙ met in
            absurd cc,
      ),
    ))

streams_more : (m : ℕ) (ss : List StreamAt) (a : StreamAt) → are_streams m ss ≡ true → a.header.stream ≡ m + length ss → IsTrue (is_item format.One (header_item a.header)) → are_streams m (ss ++ a ∷ []) ≡ true
streams_more m [] a h e l = joined a m [] (e ∙ omega arith) l refl
streams_more m (x ∷ ss) a h e l =
    let p = and_parts (x.header.stream == m && is_item format.One (header_item x.header)) (are_streams (m + 1) ss) h in
    and_from (x.header.stream == m && is_item format.One (header_item x.header)) (are_streams (m + 1) (ss ++ a ∷ [])) p.0 (streams_more (m + 1) ss a p.1 (omega (arith, e)) l)

pub fitting_more : (told told' : Option Feed) (kept : Lows') (count n : ℕ) (bound bound' : Option (List ℕ)) (lows lows' : List (List ℕ)) (ps ps' : List Position) (o : Option (StreamHeader × ℕ)) (x : StreamHeader × ℕ) (q : Position) (fits : Bool)
    → StaysTold told told' → FeedGrows told told' → Fitting told kept count n bound lows ps → o ≡ Some x → IfSome told' (λ f. Begins f n o) → IsFramed x
    → ((f : Feed) → length f ≡ count → (fits ≡ true) ↔ Fits f kept n bound (view_header x.0)) → fits ≡ true → stream_of q ≡ behind_header (view_header x.0) → (view_header x.0).stream ≡ n
    → bound' ≡ (view_header x.0).range.high → lows' ≡ lows ++ (view_header x.0).range.low ∷ [] → ps' ≡ ps ++ q ∷ [] → Fitting told' kept count (n + 1) bound' lows' ps'
fitting_more told told' kept count n bound bound' lows lows' ps ps' o x q fits s g t e b w test met at number be le pe = subst (λ (y : List Position). Fitting told' kept count (n + 1) bound' lows' y) (sym pe) (record {
  number = length-append ps (q ∷ []) ∙ ap (λ (m : ℕ). m + 1) t.number;
  behind = map-append stream_of ps (q ∷ []) ∙ ap₂ (λ (a b : List StreamAt). a ++ b) t.behind (ap (λ (y : StreamAt). y ∷ []) (at ∙ ap behind_header (sym head))) ∙ sym (map-append behind_header (heads_of ps) (heads_of (q ∷ []))) ∙ ap (map behind_header) (sym grown);
  streams = ap (are_streams 0) (map-append stream_of ps (q ∷ [])) ∙ streams_more 0 (map stream_of ps) (stream_of q) t.streams (ap (λ (h : Header). h.stream) head ∙ number ∙ sym t.number ∙ sym (length-map ps stream_of) ∙ omega arith) (subst (λ (h : Header). IsTrue (is_item format.One (header_item h))) (sym head) w.0);
  lows_are = le ∙ ap₂ (λ (a b : List (List ℕ)). a ++ b) t.lows_are (ap (λ (h : Header). h.range.low ∷ []) (sym head)) ∙ sym (map-append low_of (map stream_of ps) (map stream_of (q ∷ []))) ∙ ap (map low_of) (sym (map-append stream_of ps (q ∷ [])));
  bound_is = be ∙ sym (ap bound_before grown ∙ bound_more (heads_of ps) (stream_of q).header ∙ ap (λ (h : Header). h.range.high) head);
  headers = told_map (λ f. (length f ≡ count) × AreHeaders f kept [] (heads_of ps) × Begins f n o) (λ f. (length f ≡ count) × AreHeaders f kept [] (heads_of (ps ++ q ∷ []))) told' (headers_now told told' kept count ps (λ f. Begins f n o) s g t.headers b)
      (λ f y. (
        y.0,
        subst (λ (hs : List Header). AreHeaders f kept [] hs) (sym (grown ∙ ap (λ (h : Header). heads_of ps ++ h ∷ []) head))
            (headers_more f kept [] (heads_of ps) (view_header x.0) y.1 (next f y.0 (subst (λ (z : Option (StreamHeader × ℕ)). Begins f n z) e y.2))),
      ));
})
  where
    head : (stream_of q).header ≡ view_header x.0
    head = ap (λ (a : StreamAt). a.header) at

    grown : heads_of (ps ++ q ∷ []) ≡ heads_of ps ++ (stream_of q).header ∷ []
    grown = map-append (λ p. (stream_of p).header) ps (q ∷ [])

    next : (f : Feed) → length f ≡ count → Begins f n (Some x) → GoesOn f kept (heads_of ps) (view_header x.0)
    next f c begins =
        let hl = heads_length ps ∙ t.number in
        let fit = (test f c).0 met in (
          subst (λ (m : ℕ). StreamOpens f m (view_header x.0)) (sym hl) (fits_opens f n x number w begins),
          sym t.bound_is ∙ fit.1,
          subst (λ (m : ℕ). IsKeptLow kept m (view_header x.0).range.low) (sym hl) fit.2,
          (λ z. ap (λ (m : ℕ). m + 1) hl ∙ fit.3.0 z, λ z. fit.3.1 (ap (λ (m : ℕ). m + 1) (sym hl) ∙ z)),
        )

pub attached : (told : Option Feed) (kept : Lows') (count n : ℕ) (bound : Option (List ℕ)) (lows : List (List ℕ)) (ps : List Position) → n ≡ count → ((f : Feed) → length f ≡ count → count_mismatch f kept ≡ None) → Fitting told kept count n bound lows ps
    → Tiling kept count n bound lows ps → HasAttached told kept (map stream_of ps)
attached told kept count n bound lows ps e none t tiling = record {
  headers = heads_of ps;
  behind = t.behind;
  lows = lows_kept kept count n lows (map low_of (map stream_of ps)) e (counted kept count none).as_kept tiling.as_kept t.lows_are;
  attaches = told_map (λ f. (length f ≡ count) × AreHeaders f kept [] (heads_of ps)) (λ f. Attaches f kept (heads_of ps)) told t.headers (λ f x. (none f x.0, heads_length ps ∙ t.number ∙ e ∙ sym x.0, x.1));
}

-- ---- a stream behind its header

unfolding_point : (h : Header) → point_of h [] ≡ no_point h.from
unfolding point_of
unfolding_point h = refl

made_same : (g h : Header) (o u : ℕ) (p q : fair.Point) → g ≡ h → o ≡ u → p ≡ q → record { header = g; offset = o; point = p; closed = false } ≡ (let a : StreamAt = record { header = h; offset = u; point = q; closed = false } in a)
made_same g h o u p q e f d = cc

pub is_behind : (g h : Header) (o : ℕ) (p : fair.Point) → g ≡ h → p ≡ point_of g [] → o ≡ header_length h → record { header = g; offset = o; point = p; closed = false } ≡ behind_header h
is_behind g h o p e f l = made_same g h o (header_length h) p (no_point h.from) e l (f ∙ ap (λ (x : Header). point_of x []) e ∙ unfolding_point h)

-- ---- the number of streams, and a feed of so many

pub count_told : (told : Option Feed) (known count : ℕ) → IfSome told (λ f. length f ≡ known) → count ≡ known → IfSome told (λ f. length f ≡ count)
count_told told known count h e = told_map (λ f. length f ≡ known) (λ f. length f ≡ count) told h (λ f l. l ∙ sym e)

-- a header that fits has its stream's number, whichever the feed
pub fits_number : (kept : Lows') (count n : ℕ) (bound : Option (List ℕ)) (h : Header) (fits : Bool) → ((f : Feed) → length f ≡ count → (fits ≡ true) ↔ Fits f kept n bound h) → fits ≡ true → h.stream ≡ n
fits_number kept count n bound h fits test met = let f = some_feed count in ((test f.0 f.1).0 met).0

-- ---- what no pump is made for

pub memory_refused : {T : Type 0} (told : Option Feed) (kept : Lows') (before now : ℕ) (r : Result T AttachRefusal) → IsErrAnd r (λ e. e ≡ refusals.Memory) → now ≡ before → IfErr r (AttachRefused told kept before now)
memory_refused told kept before now (Ok x) e h = tt
memory_refused told kept before now (Err y) e h = subst (AttachRefused told kept before now) (sym e) h

pub header_refused : {T X : Type 0} (told : Option Feed) (kept : Lows') (before mid now : ℕ) (r : Result T AttachRefusal) (x : Result X Fault) (fault : Fault) → x ≡ Err fault → IsErrAnd r (λ e. e ≡ refusal_of fault) → (x ≡ Err faults.Feed → Rose mid now) → (x ≡ Err faults.Memory → now ≡ mid) → mid ≡ before
    → IfErr r (AttachRefused told kept before now)
header_refused told kept before mid now (Ok x) y fault is e rose same h = tt
header_refused told kept before mid now (Err z) y faults.Feed is e rose same h = subst (AttachRefused told kept before now) (sym e) (subst (λ (n : ℕ). Rose n now) h (rose is))
header_refused told kept before mid now (Err z) y faults.Memory is e rose same h = subst (AttachRefused told kept before now) (sym e) (same is ∙ h)
