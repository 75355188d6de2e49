-- What a pump leaves and answers is the machine's.
use Rattle.lt_replica.specs.Numbers.{Numbers}
use Rattle.std.proofs.Common.{Bool, List, [], ap, ap₂, append-nil, arith, cond, eq-eqb, eqb-true, false, length, map, refl, slice_set, subst, suc, sym, true, zero, ℕ, ◌+◌, ◌++◌, ◌<◌, ◌∙◌, ◌∷◌, ◌≡◌, ◌≤◌, take}
use Rattle.std.specs.Prelude.{IfSome, IsTrue, None, Option, Some, find, if◌then◌else◌, not, option_map, slice_get, zip, ◌==◌, ◌||◌}
use Rattle.std.specs.List.{AllByRecursion, list_any}
use Rattle.std.proofs.lemmas.Bool.{false≢true}
use Rattle.std.proofs.lemmas.List.{map-append, take_all, take_more}
use Rattle.std.proofs.lemmas.Option.{get_or_from_slice_get, same_Some}
use Rattle.lt_terms.specs.declared.Format.TheVariants as format
use Rattle.lt_world.specs.Feed.{Feed}
use Rattle.lt_terms.specs.Key.{Range, in_range, ranges_from, tile}
use Rattle.lt_terms.specs.Log.{Change, Header, Item, batch_item, change_item, changes_of, checkpoint_item, close_item, header_item, is_item}
use Rattle.lt_machine.specs.Machine as Machine
use Rattle.lt_tables.specs.Pump.{StreamAt, Stops, Takes, moved_by}
use Rattle.lt_machine.specs.Machine.{Does, PumpsFair, State, cat_of, entering, refused, replies, stream_at, with_items, with_streams}
use Rattle.lt_tables.specs.Pump.{name_of}
use Rattle.lt_machine.specs.Sound.{Memory}
use Rattle.lt_words.specs.Reply as model
use Rattle.lt_tables.specs.Schema.{Catalogue, when}
use Rattle.lt_tables.specs.Query.{do_pump}
use Rattle.lt_tables.specs.Pump.{Part}
use Rattle.lt_storage.specs.Store.{Durable, Stream}
use Rattle.lt_lemmas.proofs.RangeLaws.{IsSole, tile_sole}
use Rattle.lt_laws.proofs.TakenLaws.{stream_moved}
use Rattle.lt_core.specs.View.{view_range}
use Rattle.lt_parts.specs.Parts.{AreParts, lows_of, ranges}
use Rattle.lt_parts.specs.declared.entry.PartEntry.{PartEntry}
use Rattle.lt_pump.specs.Given.{AreApart, AreBehind, AreDisjoint, AreSubscriptions, all_given}
use Rattle.lt_pump.specs.Names.{part_subs}
use Rattle.lt_pump.specs.Positions.{AreFair, are_streams}
use Rattle.lt_pump.specs.View.{view_pumped, view_stop, view_subscription}
use Rattle.lt_pump.specs.declared.stop.Pumped.{Pumped}
use Rattle.lt_pump.specs.declared.subscription.Subscription.{Subscription}
use Rattle.lt_pump.proofs.GivenLaws.{there}
use Rattle.lt_pump.proofs.NameLaws.{names_taken}
use Rattle.lt_pump.proofs.PumpLaws.{both}
use Rattle.lt_replica.proofs.RangeLaws.{lows_parts}
use Rattle.lt_replica.specs.State.{durable_with, part_of_entry, state_with}
use Rattle.lt_replica.proofs.Refusals.{pump_refused}
use Rattle.lt_steps.specs.Memory.{partitions}

-- ---- streams by their numbers

unequal : (m n : ℕ) → (m ≡ n → ⊥) → (m == n) ≡ false
unequal m n h = unlike (m == n) refl
  where
    unlike : (b : Bool) → (m == n) ≡ b → b ≡ false
    unlike true e = absurd (h (eqb-true m n e))
    unlike false e = refl

abbrev moved_at : ℕ → List Item → List StreamAt → List StreamAt
moved_at n items ss = map (λ a. if a.header.stream == n then moved_by items a else a) ss

rest_stays : (m n : ℕ) (items : List Item) (ss : List StreamAt) → n < m → are_streams m ss ≡ true → moved_at n items ss ≡ ss
rest_stays m n items [] l h = refl
rest_stays m n items (a ∷ ss) l h =
    let p = both a m ss h in
    let its = p.0 in
    ap₂ (λ (b : Bool) (rest : List StreamAt). cond b (moved_by items a) a ∷ rest) (unequal a.header.stream n (λ e. absurd (omega (arith, l, its, e)))) (rest_stays (m + 1) n items ss (omega (arith, l)) p.2)

same_number : (m n : ℕ) → m ≡ n → (m == n) ≡ true
same_number m n e = eq-eqb m n e

set_moved : (m i n : ℕ) (items : List Item) (ss : List StreamAt) (a : StreamAt) → n ≡ m + i → are_streams m ss ≡ true → slice_get ss i ≡ Some a → slice_set ss i (moved_by items a) ≡ moved_at n items ss
set_moved m i n items [] a l h e = refl
set_moved m zero n items (x ∷ ss) a l h e =
    let p = both x m ss h in
    let its = p.0 in
    ap (λ (y : StreamAt). moved_by items y ∷ ss) (sym (same_Some x a e))
    ∙ ap₂ (λ (b : Bool) (rest : List StreamAt). cond b (moved_by items x) x ∷ rest) (sym (same_number x.header.stream n (omega (arith, its, l)))) (sym (rest_stays (m + 1) n items ss (omega (arith, l)) p.2))
set_moved m (suc i) n items (x ∷ ss) a l h e =
    let p = both x m ss h in
    let its = p.0 in
    ap₂ (λ (b : Bool) (rest : List StreamAt). cond b (moved_by items x) x ∷ rest) (sym (unequal x.header.stream n (λ d. absurd (omega (arith, its, l, d))))) (set_moved (m + 1) i n items ss a (omega (arith, l)) p.2 e)

found_at : (m i n : ℕ) (ss : List StreamAt) (a : StreamAt) → n ≡ m + i → are_streams m ss ≡ true → slice_get ss i ≡ Some a → find (λ a. a.header.stream == n) ss ≡ Some a
found_at m i n [] a l h e = absurd cc
found_at m zero n (x ∷ ss) a l h e =
    let p = both x m ss h in
    let its = p.0 in
    ap (λ (b : Bool). cond b (Some x) (find (λ (a : StreamAt). a.header.stream == n) ss)) (same_number x.header.stream n (omega (arith, its, l))) ∙ e
found_at m (suc i) n (x ∷ ss) a l h e =
    let p = both x m ss h in
    let its = p.0 in
    ap (λ (b : Bool). cond b (Some x) (find (λ (a : StreamAt). a.header.stream == n) ss)) (unequal x.header.stream n (λ d. absurd (omega (arith, its, l, d)))) ∙ found_at (m + 1) i n ss a (omega (arith, l)) p.2 e

-- a stream that is there is known by its number
pub known_there : (n : ℕ) (ss : List StreamAt) (a : StreamAt) → are_streams 0 ss ≡ true → slice_get ss n ≡ Some a → find (λ a. a.header.stream == n) ss ≡ Some a
known_there n ss a h e = found_at 0 n n ss a (omega arith) h e

any_by : (p : StreamAt → Bool) (x : StreamAt) (ss : List StreamAt) (a : StreamAt) (b : Bool) → cond b (Some x) (find p ss) ≡ Some a → (find p ss ≡ Some a → list_any p ss ≡ true) → (b || list_any p ss) ≡ true
any_by p x ss a true e h = refl
any_by p x ss a false e h = h e

has_any : (p : StreamAt → Bool) (ss : List StreamAt) (a : StreamAt) → find p ss ≡ Some a → list_any p ss ≡ true
has_any p [] a e = absurd cc
has_any p (x ∷ ss) a e = any_by p x ss a (p x) e (has_any p ss a)

none_any : (m n : ℕ) (ss : List StreamAt) → are_streams m ss ≡ true → m + length ss ≤ n → list_any (λ a. a.header.stream == n) ss ≡ false
none_any m n [] h l = refl
none_any m n (x ∷ ss) h l =
    let p = both x m ss h in
    let its = p.0 in
    ap₂ (λ (b c : Bool). b || c) (unequal x.header.stream n (λ d. absurd (omega (arith, its, l, d)))) (none_any (m + 1) n ss p.2 (omega (arith, l)))

-- a pump is not refused where its stream is there, and refused where it is not
pub pump_free : (cat : Catalogue) (g : Numbers) (es : List PartEntry) (ss : List StreamAt) (mem : Memory) (n count : ℕ) (a : StreamAt) → are_streams 0 ss ≡ true → slice_get ss n ≡ Some a → refused (state_with cat g es ss mem) (do_pump n count) ≡ None
pump_free cat g es ss mem n count a h e = pump_refused cat g es ss mem n count ∙ ap (λ (b : Bool). when (not b) (model.no_stream n)) (has_any (λ (x : StreamAt). x.header.stream == n) ss a (known_there n ss a h e))

pub pump_unknown : (cat : Catalogue) (g : Numbers) (es : List PartEntry) (ss : List StreamAt) (mem : Memory) (n count : ℕ) → are_streams 0 ss ≡ true → length ss ≤ n → refused (state_with cat g es ss mem) (do_pump n count) ≡ Some (model.no_stream n)
pump_unknown cat g es ss mem n count h l = pump_refused cat g es ss mem n count ∙ ap (λ (b : Bool). when (not b) (model.no_stream n)) (none_any 0 n ss h (omega (arith, l)))

-- ---- partitions

resumes_parts : (es : List PartEntry) → map (λ e. e.resume) es ≡ map (λ p. p.resume) (map part_of_entry es)
resumes_parts [] = refl
resumes_parts (e ∷ es) = ap (λ (ts : List ℕ). e.resume ∷ ts) (resumes_parts es)

-- the keys of each partition, and up to when it is durable
abbrev pub subs_of : List PartEntry → List (Range × ℕ)
subs_of es = zip (ranges es) (map (λ e. e.resume) es)

pub subs_are : (cat : Catalogue) (g : Numbers) (es : List PartEntry) (ss : List StreamAt) (mem : Memory) → subs_of es ≡ partitions (state_with cat g es ss mem)
subs_are cat g es ss mem = ap₂ (λ (ls : List (List ℕ)) (ts : List ℕ). zip (ranges_from ls) ts) (lows_parts es) (resumes_parts es)

parted : (rs : List Range) (ps : List Part) → zip rs (map (λ p. p.resume) ps) ≡ part_subs rs ps
parted [] ps = refl
parted (r ∷ rs) [] = refl
parted (r ∷ rs) (p ∷ ps) = ap (λ (xs : List (Range × ℕ)). (r, p.resume) ∷ xs) (parted rs ps)

-- ---- the state behind some items

abbrev made : Durable → List StreamAt → List (List (List ℕ × ℕ)) → State
made d ss names = record { durable = d; streams = ss; pending = names; job = None; broken = None }

set_same : {A : Type 0} (f : StreamAt → A) (i : ℕ) (ss : List StreamAt) (a b : StreamAt) → slice_get ss i ≡ Some a → f b ≡ f a → map f (slice_set ss i b) ≡ map f ss
set_same f i [] a b e h = refl
set_same f zero (x ∷ ss) a b e h = ap (λ y. y ∷ map f ss) (h ∙ ap f (sym (same_Some x a e)))
set_same f (suc i) (x ∷ ss) a b e h = ap (λ ys. f x ∷ ys) (set_same f i ss a b e h)

abbrev kept_by : Header → Stream
kept_by h = record { low = h.range.low; points = [] }

abbrev kept_of : StreamAt → Stream
kept_of a = kept_by a.header

durable_stays : (cat : Catalogue) (g : Numbers) (es es' : List PartEntry) (ss : List StreamAt) (n : ℕ) (a b : StreamAt) → map part_of_entry es' ≡ map part_of_entry es → slice_get ss n ≡ Some a → b.header ≡ a.header → durable_with cat g es' (slice_set ss n b) ≡ durable_with cat g es ss
durable_stays cat g es es' ss n a b p e h = ap₂ (λ (ps : List Part) (ks : List Stream). record (durable_with cat g es ss) { parts = ps; streams = ks }) p (set_same kept_of n ss a b e (ap kept_by h))

-- the partitions may have other checkpoints
pub same_state : (cat : Catalogue) (g : Numbers) (es es' : List PartEntry) (ss : List StreamAt) (mem : Memory) → map part_of_entry es' ≡ map part_of_entry es → state_with cat g es' ss mem ≡ state_with cat g es ss mem
same_state cat g es es' ss mem p = ap (λ (ps : List Part). made (record (durable_with cat g es ss) { parts = ps }) ss (map (map name_of) mem)) p

pub state_behind : (cat : Catalogue) (g : Numbers) (es es' : List PartEntry) (ss : List StreamAt) (mem mem' : Memory) (n : ℕ) (items : List Item) (a : StreamAt) → are_streams 0 ss ≡ true → slice_get ss n ≡ Some a → map part_of_entry es' ≡ map part_of_entry es
    → AreFair cat a items → AreBehind a mem → mem' ≡ all_given (changes_of items) (partitions (state_with cat g es ss mem)) mem → state_with cat g es' (slice_set ss n (moved_by items a)) mem' ≡ with_items n items (state_with cat g es ss mem)
state_behind cat g es es' ss mem mem' n items a number at parts fair behind given =
    let d = durable_with cat g es ss in
    let rs = ranges_from (map (λ p. p.low) d.parts) in
    let names = ap (map (map name_of)) (given ∙ ap (λ (xs : List (Range × ℕ)). all_given (changes_of items) xs mem) (parted rs d.parts)) ∙ names_taken cat a items rs d.parts mem fair behind in
    ap (λ (x : Durable). made x (slice_set ss n (moved_by items a)) (map (map name_of) mem')) (durable_stays cat g es es' ss n a (moved_by items a) parts at refl)
    ∙ ap₂ (made d) (set_moved 0 n n items ss a (omega arith) number at) names

-- ---- what is answered

pub lawful_items : (cat : Catalogue) (a : StreamAt) (items : List Item) → AreFair cat a items → AllByRecursion (λ i. IsTrue (is_item format.One i)) items
lawful_items cat a [] f = tt
lawful_items cat a (i ∷ items) f = (f.0, lawful_items cat (moved_by (i ∷ []) a) items f.2)

no_close : (X : Type 0) (first count : ℕ) → IsTrue (is_item format.One (close_item first count)) → X
no_close X first count l = absurd (false≢true l)

-- no item of format 1 lets streams enter
none_enters : (items : List Item) → AllByRecursion (λ i. IsTrue (is_item format.One i)) items → entering items []
none_enters [] l = refl
none_enters (header_item h ∷ items) l = none_enters items l.1
none_enters (change_item c ∷ items) l = none_enters items l.1
none_enters (checkpoint_item t ∷ items) l = none_enters items l.1
none_enters (batch_item t cs ∷ items) l = none_enters items l.1
none_enters (close_item first count ∷ items) l = no_close _ first count l.0

no_streams : (s : State) → s ≡ with_streams [] s
no_streams s = ap (λ (ss : List StreamAt). record s { streams = ss }) (sym (append-nil s.streams))

pub does_pump : (f : Feed) (source : List Change) (s s' : State) (n asked : ℕ) (a : StreamAt) (items : List Item) (rest : List ℕ) (p : Pumped) → stream_at s n ≡ Some a → AllByRecursion (λ i. IsTrue (is_item format.One i)) items → s' ≡ with_items n items s
    → p.records ≡ length items → p.records ≤ asked → Takes f (cat_of s) a items rest → Stops f (cat_of s) (moved_by items a) asked p.records rest (view_stop p.stop) → p.offset ≡ (moved_by items a).offset → p.checkpoint ≡ (moved_by items a).point.checkpoint
    → Does f source s (do_pump n asked) (replies (view_pumped n p)) s'
does_pump f source s s' n asked a items rest p known lawful is number few takes stops offset checkpoint =
    let b = moved_by items a in (
      items,
      view_stop p.stop,
      [],
      record {
        stands = a;
        known = known;
        few = subst (λ (k : ℕ). k ≤ asked) number few;
        rest = rest;
        takes = takes;
        stops = subst (λ (k : ℕ). Stops f (cat_of s) b asked k rest (view_stop p.stop)) number stops;
      },
      none_enters items lawful,
      tt,
      is ∙ no_streams (with_items n items s),
      (
        b,
        ap (λ (x : State). stream_at x n) is ∙ stream_moved n items s ∙ ap (option_map (moved_by items)) known,
        ap₂ (λ (k o : ℕ). replies (model.pump_done n k o p.checkpoint (view_stop p.stop))) number offset ∙ ap (λ (c : ℕ). replies (model.pump_done n (length items) b.offset c (view_stop p.stop))) checkpoint,
      ),
    )

-- what a pump does, whatever the feed exposes
pub pumps_fair : (s s' : State) (n asked : ℕ) (a : StreamAt) (items : List Item) (p : Pumped) → stream_at s n ≡ Some a → AllByRecursion (λ i. IsTrue (is_item format.One i)) items → Machine.AreFair (cat_of s) a items → s' ≡ with_items n items s
    → p.records ≡ length items → p.records ≤ asked → p.offset ≡ (moved_by items a).offset → p.checkpoint ≡ (moved_by items a).point.checkpoint → PumpsFair s n asked (replies (view_pumped n p)) s'
pumps_fair s s' n asked a items p known lawful fair is number few offset checkpoint =
    let b = moved_by items a in record {
      stands = a;
      known = known;
      items = items;
      few = subst (λ (k : ℕ). k ≤ asked) number few;
      fair = fair;
      entered = [];
      enter = none_enters items lawful;
      state = is ∙ no_streams (with_items n items s);
      at = b;
      stands_now = ap (λ (x : State). stream_at x n) is ∙ stream_moved n items s ∙ ap (option_map (moved_by items)) known;
      stop = view_stop p.stop;
      answer = ap₂ (λ (k o : ℕ). replies (model.pump_done n k o p.checkpoint (view_stop p.stop))) number offset ∙ ap (λ (c : ℕ). replies (model.pump_done n (length items) b.offset c (view_stop p.stop))) checkpoint;
    }

-- ---- the partitions have no key in common

apart_from : (r : Range) (rs : List Range) (ts : List ℕ) → ((key : List ℕ) → in_range key r ≡ true → AllByRecursion (λ q. in_range key q ≡ false) rs) → AllByRecursion (λ (t : Range × ℕ). AreApart r t.0) (zip rs ts)
apart_from r [] ts h = tt
apart_from r (q ∷ rs) [] h = tt
apart_from r (q ∷ rs) (t ∷ ts) h = ((λ key i j. absurd (false≢true (sym (h key i).0 ∙ j))), apart_from r rs ts (λ key i. (h key i).1))

disjoint_by : (rs : List Range) (ts : List ℕ) → ((key : List ℕ) → IsSole key rs) → AreDisjoint (zip rs ts)
disjoint_by [] ts h = tt
disjoint_by (r ∷ rs) [] h = tt
disjoint_by (r ∷ rs) (t ∷ ts) h = (apart_from r rs ts (λ key. (h key).0), disjoint_by rs ts (λ key. (h key).1))

disjoint : (es : List PartEntry) → IsTrue (tile (lows_of es)) → AreDisjoint (subs_of es)
disjoint es h = disjoint_by (ranges es) (map (λ e. e.resume) es) (λ key. tile_sole key (lows_of es) h)

-- ---- the subscriptions of the partitions

subs_length : (es : List PartEntry) → length (subs_of es) ≡ length es
subs_length [] = refl
subs_length (e ∷ es) = ap suc (subs_length es)

pub subscribed : (es : List PartEntry) (subs : List (Range × ℕ)) (held : Memory) → subs ≡ subs_of es → AreParts es → length held ≡ length es → AreSubscriptions subs held
subscribed es subs held is parts many = subst (λ (xs : List (Range × ℕ)). AreSubscriptions xs held) (sym is) (record { disjoint = disjoint es parts.tiled; as_many = subs_length es ∙ sym many })

sub_there : (es : List PartEntry) (n : ℕ) (e : PartEntry) (r : Range) → slice_get es n ≡ Some e → slice_get (ranges es) n ≡ Some r → slice_get (subs_of es) n ≡ Some (r, e.resume)
sub_there [] n e r h k = absurd cc
sub_there (x ∷ es) zero e r h k = ap₂ (λ (o : Option Range) (y : PartEntry). option_map (λ q. (q, y.resume)) o) k (same_Some x e h)
sub_there (x ∷ es) (suc n) e r h k = sub_there es n e r h k

-- one more is added
pub sub_added : (es : List PartEntry) (n : ℕ) (e : PartEntry) (s : Subscription) (old new : List Subscription) → slice_get es n ≡ Some e → slice_get (ranges es) n ≡ Some (view_range s.range) → s.from ≡ e.resume → new ≡ old ++ s ∷ []
    → IfSome (slice_get (subs_of es) n) (λ x. map view_subscription new ≡ map view_subscription old ++ x ∷ [])
sub_added es n e s old new here range from more =
    subst (λ (o : Option (Range × ℕ)). IfSome o (λ x. map view_subscription new ≡ map view_subscription old ++ x ∷ [])) (sym (sub_there es n e (view_range s.range) here range))
    (ap (map view_subscription) more ∙ map-append view_subscription old (s ∷ []) ∙ ap (λ (t : ℕ). map view_subscription old ++ (view_range s.range, t) ∷ []) from)

pub sub_next : (es : List PartEntry) (n : ℕ) (old new : List Subscription) → n < length es → map view_subscription old ≡ take n (subs_of es) → IfSome (slice_get (subs_of es) n) (λ x. map view_subscription new ≡ map view_subscription old ++ x ∷ [])
    → map view_subscription new ≡ take (n + 1) (subs_of es)
sub_next es n old new l is more =
    let subs = subs_of es in
    let within : n < length subs = omega (arith, l, subs_length es) in
    let x = there subs n within in
    subst (λ (o : Option (Range × ℕ)). IfSome o (λ y. map view_subscription new ≡ map view_subscription old ++ y ∷ [])) x.1 more
    ∙ ap₂ (λ (xs : List (Range × ℕ)) (y : Range × ℕ). xs ++ y ∷ []) is (sym (get_or_from_slice_get subs n x.0 x.0 x.1)) ∙ sym (take_more subs n x.0 within)

pub sub_all : (es : List PartEntry) (n : ℕ) (all : List (Range × ℕ)) → length es ≤ n → all ≡ take n (subs_of es) → all ≡ subs_of es
sub_all es n all l e = e ∙ take_all n (subs_of es) (omega (arith, l, subs_length es))
