-- Which streams meet a partition, and the partitions' checkpoints one after another.
use Rattle.std.proofs.Common.{Bool, List, None, Option, Some, [], ap, ap₂, append-nil, arith, false, inl, inr, length, map, not, refl, subst, suc, sym, take, true, zero, ℕ, ◌+◌, ◌++◌, ◌<◌, ◌∙◌, ◌∷◌, ◌≡◌, ◌≤◌}
use Rattle.std.specs.Prelude.{IfNone, IfSome, max, min, option_map, slice_get, unwrap_or, zip, ◌&&◌}
use Rattle.std.specs.Option.{option_map_or}
use Rattle.std.specs.List.{cons_option}
use Rattle.std.proofs.lemmas.Bool.{cases_order}
use Rattle.std.proofs.lemmas.List.{length-map, take_more}
use Rattle.std.proofs.lemmas.List.Elements.{filter_map-append}
use Rattle.std.proofs.lemmas.Option.{get_or_from_slice_get, same_Some, slice_get_within}
use Rattle.lt_terms.specs.Key.{Range, first_bound, meets, ranges_from}
use Rattle.lt_tables.specs.Pump.{StreamAt}
use Rattle.lt_machine.specs.Machine.{checkpoint_at, checkpoints_meeting, least, least_of}
use Rattle.lt_tables.specs.Schema.{change_at, when}
use Rattle.lt_tables.specs.Pump.{Part}
use Rattle.lt_lemmas.proofs.PartsChanged.{changed_there}
use Rattle.lt_parts.specs.Parts.{checkpoints_of, lows_of, ranges, with_times}
use Rattle.lt_parts.specs.declared.entry.PartEntry.{PartEntry}
use Rattle.lt_parts.proofs.Ranges.{range_of as range_of_part, range_with}
use Rattle.lt_pump.specs.Positions.{low_of, range_of, stream_of}
use Rattle.lt_pump.specs.declared.position.Position.{Position}
use Rattle.lt_pump.proofs.GivenLaws.{there}
use Rattle.lt_pump.proofs.SubLaws.{mapped_there}
use Rattle.lt_replica.specs.Settling.{AreSettled, HasTimes, part_of_entry}

-- ---- the range of a stream

first_is : (lows : List (List ℕ)) → first_bound lows ≡ slice_get lows 0
first_is [] = refl
first_is (low ∷ lows) = refl

range_at : (lows : List (List ℕ)) (n : ℕ) (low : List ℕ) → slice_get lows n ≡ Some low → slice_get (ranges_from lows) n ≡ Some (range_with low (slice_get lows (suc n)))
range_at [] n low e = absurd cc
range_at (x ∷ lows) zero low e = ap₂ (λ (l : List ℕ) (h : Option (List ℕ)). Some (range_with l h)) (same_Some x low e) (first_is lows)
range_at (x ∷ lows) (suc n) low e = range_at lows n low e

-- a stream has the range from its low bound to the next one
pub stream_range : (ss : List StreamAt) (lows : List (List ℕ)) (n : ℕ) (a : StreamAt) → map range_of ss ≡ ranges_from lows → lows ≡ map low_of ss → slice_get ss n ≡ Some a → a.header.range ≡ range_with a.header.range.low (slice_get lows (n + 1))
stream_range ss lows n a r l e =
    let low : slice_get lows n ≡ Some (low_of a) = ap (λ (x : List (List ℕ)). slice_get x n) l ∙ mapped_there low_of ss n a e in
    let next : suc n ≡ n + 1 = omega arith in
    same_Some (range_of a) (range_with (low_of a) (slice_get lows (n + 1)))
    (sym (mapped_there range_of ss n a e) ∙ ap (λ (x : List Range). slice_get x n) r ∙ range_at lows n (low_of a) low ∙ ap (λ (k : ℕ). Some (range_with (low_of a) (slice_get lows k))) next)

-- what a stream tells of a range is by its low bound and the next one
pub meets_as : (ss : List StreamAt) (lows : List (List ℕ)) (n : ℕ) (a : StreamAt) (low : List ℕ) (next : Option (List ℕ)) (r : Range) (b : Bool) → map range_of ss ≡ ranges_from lows → lows ≡ map low_of ss → slice_get ss n ≡ Some a
    → slice_get lows n ≡ Some low → next ≡ slice_get lows (n + 1) → b ≡ meets (range_with low next) r → b ≡ meets a.header.range r
meets_as ss lows n a low next r b rs l e here after h =
    let its : low ≡ a.header.range.low = same_Some low (low_of a) (sym here ∙ ap (λ (x : List (List ℕ)). slice_get x n) l ∙ mapped_there low_of ss n a e) in
    h ∙ ap (λ (q : Range). meets q r) (ap₂ range_with its after ∙ sym (stream_range ss lows n a rs l e))

-- ---- the least checkpoint

abbrev pub first_least : List ℕ → Option ℕ
first_least [] = None
first_least (n ∷ ns) = Some (least_of n ns)

pub least_first : (ns : List ℕ) → unwrap_or (first_least ns) 0 ≡ least ns
least_first [] = refl
least_first (n ∷ ns) = refl

least_more : (n m : ℕ) (ns : List ℕ) → least_of n (ns ++ m ∷ []) ≡ min (least_of n ns) m
least_more n m [] = refl
least_more n m (k ∷ ns) = least_more (min n k) m ns

first_more : (ns : List ℕ) (m : ℕ) → first_least (ns ++ m ∷ []) ≡ Some (option_map_or (λ l. min l m) (first_least ns) m)
first_more [] m = refl
first_more (n ∷ ns) m = ap Some (least_more n m ns)

abbrev checkpoint_of : Range → StreamAt → Option ℕ
checkpoint_of r s = when (meets s.header.range r && not s.closed) s.point.checkpoint

meeting_more : (ss : List StreamAt) (r : Range) (n : ℕ) (a : StreamAt) → slice_get ss n ≡ Some a → checkpoints_meeting (take (n + 1) ss) r ≡ checkpoints_meeting (take n ss) r ++ cons_option (checkpoint_of r a) []
meeting_more ss r n a e =
    ap (λ (x : List StreamAt). checkpoints_meeting x r) (take_more ss n a (slice_get_within ss n a e) ∙ ap (λ (x : StreamAt). take n ss ++ x ∷ []) (get_or_from_slice_get ss n a a e))
    ∙ filter_map-append (checkpoint_of r) (take n ss) (a ∷ [])

least_by : (ns : List ℕ) (old new o : Option ℕ) → old ≡ first_least ns → IfNone o (new ≡ old) → IfSome o (λ c. new ≡ Some (option_map_or (λ l. min l c) old c)) → new ≡ first_least (ns ++ cons_option o [])
least_by ns old new None e none some = none ∙ e ∙ ap first_least (sym (append-nil ns))
least_by ns old new (Some c) e none some = some ∙ ap (λ (x : Option ℕ). Some (option_map_or (λ l. min l c) x c)) e ∙ sym (first_more ns c)

-- the least of some first streams, with that of one more
pub least_next : (ss : List StreamAt) (r : Range) (n : ℕ) (old new o : Option ℕ) → n < length ss → IfSome (slice_get ss n) (λ a. o ≡ when (meets a.header.range r && not a.closed) a.point.checkpoint) → old ≡ first_least (checkpoints_meeting (take n ss) r)
    → IfNone o (new ≡ old) → IfSome o (λ c. new ≡ Some (option_map_or (λ l. min l c) old c)) → new ≡ first_least (checkpoints_meeting (take (n + 1) ss) r)
least_next ss r n old new o l is e none some =
    let x = there ss n l in
    let its : o ≡ checkpoint_of r x.0 = subst (λ (y : Option StreamAt). IfSome y (λ a. o ≡ checkpoint_of r a)) x.1 is in
    least_by (checkpoints_meeting (take n ss) r) old new o e none some ∙ ap (λ (y : Option ℕ). first_least (checkpoints_meeting (take n ss) r ++ cons_option y [])) its ∙ ap first_least (sym (meeting_more ss r n x.0 x.1))

-- ---- the times of one partition

pub times_are : (es : List PartEntry) (ss : List StreamAt) (n : ℕ) (e : PartEntry) (high : Option (List ℕ)) (safe durable checkpoint : ℕ) → slice_get es n ≡ Some e → high ≡ option_map (λ x. x.low) (slice_get es (n + 1))
    → safe ≡ least (checkpoints_meeting ss (range_with e.low high)) → durable ≡ e.resume → checkpoint ≡ max e.resume safe → HasTimes es ss n durable checkpoint
times_are es ss n e high safe durable checkpoint here after least_is d c =
    let next : suc n ≡ n + 1 = omega arith in record {
      entry = e;
      range = range_with e.low high;
      here = here;
      its = range_of_part es n e here ∙ ap (λ (k : ℕ). Some (range_with e.low (option_map (λ x. x.low) (slice_get es k)))) next ∙ ap (λ (h : Option (List ℕ)). Some (range_with e.low h)) (sym after);
      is_durable = d;
      is_checkpoint = c ∙ ap (max e.resume) least_is;
    }

pub range_is : (es : List PartEntry) (n : ℕ) (e : PartEntry) (low : List ℕ) (high : Option (List ℕ)) → slice_get es n ≡ Some e → low ≡ e.low → high ≡ option_map (λ x. x.low) (slice_get es (n + 1)) → slice_get (ranges es) n ≡ Some (range_with low high)
range_is es n e low high here is after =
    let next : suc n ≡ n + 1 = omega arith in
    range_of_part es n e here ∙ ap (λ (k : ℕ). Some (range_with e.low (option_map (λ x. x.low) (slice_get es k)))) next ∙ ap₂ (λ (l : List ℕ) (h : Option (List ℕ)). Some (range_with l h)) (sym is) (sym after)

-- ---- one stream

open_at : (ps : List Position) (n : ℕ) (a : StreamAt) → slice_get (map stream_of ps) n ≡ Some a → a.closed ≡ false
open_at [] n a e = absurd cc
open_at (p ∷ ps) zero a e = ap (λ (x : StreamAt). x.closed) (sym (same_Some (stream_of p) a e))
open_at (p ∷ ps) (suc n) a e = open_at ps n a e

and_open : (b c : Bool) → c ≡ false → b ≡ (b && not c)
and_open true c e = ap not (sym e)
and_open false c e = refl

-- what a stream tells of a range, by whether it meets the range
pub meeting_at : (ps : List Position) (lows : List (List ℕ)) (n : ℕ) (low : List ℕ) (next : Option (List ℕ)) (r : Range) (b : Bool) (o : Option ℕ) → n < length (map stream_of ps) → map range_of (map stream_of ps) ≡ ranges_from lows → lows ≡ map low_of (map stream_of ps)
    → slice_get lows n ≡ Some low → next ≡ slice_get lows (n + 1) → b ≡ meets (range_with low next) r → ((a : StreamAt) → slice_get (map stream_of ps) n ≡ Some a → o ≡ when b a.point.checkpoint)
    → IfSome (slice_get (map stream_of ps) n) (λ a. o ≡ when (meets a.header.range r && not a.closed) a.point.checkpoint)
meeting_at ps lows n low next r b o l rs is here after m h =
    let ss = map stream_of ps in
    let x = there ss n l in
    let met : b ≡ meets x.0.header.range r = meets_as ss lows n x.0 low next r b rs is x.1 here after m in
    subst (λ (y : Option StreamAt). IfSome y (λ a. o ≡ when (meets a.header.range r && not a.closed) a.point.checkpoint)) (sym x.1)
    (h x.0 x.1 ∙ ap (λ (c : Bool). when c x.0.point.checkpoint) (met ∙ and_open (meets x.0.header.range r) x.0.closed (open_at ps n x.0 x.1)))

-- ---- one partition after another

pub lows_parts : (es : List PartEntry) → lows_of es ≡ map (λ p. p.low) (map part_of_entry es)
lows_parts [] = refl
lows_parts (e ∷ es) = ap (λ (ls : List (List ℕ)). e.low ∷ ls) (lows_parts es)

pub ranges_same : (xs ys : List PartEntry) → map part_of_entry xs ≡ map part_of_entry ys → ranges xs ≡ ranges ys
ranges_same xs ys e = ap ranges_from (lows_parts xs ∙ ap (map (λ p. p.low)) e ∙ sym (lows_parts ys))

parts_changed : (f : PartEntry → PartEntry) (n : ℕ) (es : List PartEntry) (e : PartEntry) → slice_get es n ≡ Some e → part_of_entry (f e) ≡ part_of_entry e → map part_of_entry (change_at f n es) ≡ map part_of_entry es
parts_changed f n [] e h k = refl
parts_changed f zero (x ∷ es) e h k =
    let is : x ≡ e = same_Some x e h in
    ap (λ (p : Part). p ∷ map part_of_entry es) (ap (λ (y : PartEntry). part_of_entry (f y)) is ∙ k ∙ ap part_of_entry (sym is))
parts_changed f (suc n) (x ∷ es) e h k = ap (λ (ps : List Part). part_of_entry x ∷ ps) (parts_changed f n es e h k)

changed_other : (f : PartEntry → PartEntry) (n i : ℕ) (es : List PartEntry) → i < n → slice_get (change_at f n es) i ≡ slice_get es i
changed_other f n i [] l = refl
changed_other f zero i (x ∷ es) l = absurd (omega (arith, l))
changed_other f (suc n) zero (x ∷ es) l = refl
changed_other f (suc n) (suc i) (x ∷ es) l = changed_other f n i es (omega (arith, l))

-- some first partitions have the checkpoints that the streams say
pub record SettledTo (ss : List StreamAt) (old now : List PartEntry) (n : ℕ) : Type 0 where
  pub parts : map part_of_entry now ≡ map part_of_entry old
  pub times : (i : ℕ) (e : PartEntry) (r : Range) → i < n → slice_get now i ≡ Some e → slice_get (ranges now) i ≡ Some r → e.checkpoint ≡ checkpoint_at ss (part_of_entry e) r

pub settled_next : (ss : List StreamAt) (old now : List PartEntry) (n durable checkpoint : ℕ) → SettledTo ss old now n → HasTimes now ss n durable checkpoint → SettledTo ss old (change_at (with_times durable checkpoint) n now) (n + 1)
settled_next ss old now n durable checkpoint s t =
    let f = with_times durable checkpoint in
    let stays : part_of_entry (f t.entry) ≡ part_of_entry t.entry = ap (λ (m : ℕ). part_of_entry (with_times m checkpoint t.entry)) t.is_durable in
    let same = parts_changed f n now t.entry t.here stays in
    let rs = ranges_same (change_at f n now) now same in record {
      parts = same ∙ s.parts;
      times = λ i e r l g h. elim (cases_order i n) [
        | inl at ↦ (
            let is : f t.entry ≡ e = same_Some (f t.entry) e (sym (changed_there f n now t.entry t.here) ∙ ap (slice_get (change_at f n now)) (sym at) ∙ g) in
            let range : t.range ≡ r = same_Some t.range r (sym t.its ∙ ap (slice_get (ranges now)) (sym at) ∙ ap (λ (x : List Range). slice_get x i) (sym rs) ∙ h) in
            ap (λ (x : PartEntry). x.checkpoint) (sym is) ∙ t.is_checkpoint ∙ ap (λ (p : Part). checkpoint_at ss p t.range) (sym stays) ∙ ap₂ (λ (x : PartEntry) (q : Range). checkpoint_at ss (part_of_entry x) q) is range
            )
        | inr (inl less) ↦ s.times i e r less (sym (changed_other f n i now less) ∙ g) (ap (λ (x : List Range). slice_get x i) (sym rs) ∙ h)
        | inr (inr more) ↦ absurd (omega (arith, l, more))
      ];
    }

pub ranges_length : (lows : List (List ℕ)) → length (ranges_from lows) ≡ length lows
ranges_length [] = refl
ranges_length (low ∷ lows) = ap suc (ranges_length lows)

zipped : (F : PartEntry → Range → ℕ) (es : List PartEntry) (rs : List Range) → length es ≡ length rs → ((i : ℕ) (e : PartEntry) (r : Range) → slice_get es i ≡ Some e → slice_get rs i ≡ Some r → e.checkpoint ≡ F e r) → checkpoints_of es ≡ map (λ x. F x.0 x.1) (zip es rs)
zipped F [] rs l h = refl
zipped F (e ∷ es) [] l h = absurd (omega (arith, l))
zipped F (e ∷ es) (r ∷ rs) l h = ap₂ (λ (n : ℕ) (ns : List ℕ). n ∷ ns) (h 0 e r refl refl) (zipped F es rs (omega (arith, l)) (λ i. h (suc i)))

pub settled_all : (ss : List StreamAt) (old now : List PartEntry) (n : ℕ) → length old ≤ n → SettledTo ss old now n → AreSettled now ss
settled_all ss old now n l s =
    let count : length now ≤ n = omega (arith, l, ap length s.parts, length-map now part_of_entry, length-map old part_of_entry) in
    zipped (λ e r. checkpoint_at ss (part_of_entry e) r) now (ranges now) (sym (ranges_length (lows_of now) ∙ length-map now (λ e. e.low)))
    (λ i e r g h. let w = slice_get_within now i e g in s.times i e r (omega (arith, w, count)) g h)

-- a partition that is not there
pub not_there : (ss : List StreamAt) (old now : List PartEntry) (n : ℕ) → SettledTo ss old now n → n < length old → length now ≤ n → ⊥
not_there ss old now n s l m = absurd (omega (arith, l, m, ap length s.parts, length-map now part_of_entry, length-map old part_of_entry))

pub none_told : (o : Option (ℕ × ℕ)) (A : Type 0) → ((x : ℕ × ℕ) → o ≡ Some x → ⊥) → IfNone o A → A
none_told None A n h = h
none_told (Some x) A n h = absurd (n x refl)
