-- The steps of a pump, one after another.
use Rattle.std.proofs.Common.{List, [], ap, append-nil, append_assoc, arith, drop, false, length, map, refl, subst, sym, true, ℕ, ◌+◌, ◌-◌, ◌++◌, ◌<◌, ◌∙◌, ◌∷◌, ◌≡◌}
use Rattle.std.specs.Prelude.{IfSome, IsTrue, None, Option, Some, flat_map}
use Rattle.std.proofs.lemmas.List.{drop-drop, drop_at, length-append, length-drop}
use Rattle.lt_terms.specs.declared.Format.TheVariants as format
use Rattle.lt_world.specs.Feed.{Feed, Grows, stream_bytes}
use Rattle.lt_tables.specs.Fair.{SuccessorsStand}
use Rattle.lt_terms.specs.Key.{Range}
use Rattle.lt_terms.specs.Log.{Change, Header, IsFound, Item, batch_item, change_item, changes_of, checkpoint_item, close_item, header_item, is_item, spelled, whole}
use Rattle.lt_tables.specs.Pump.{StreamAt, Stops, StopsBy, Takes, moved_by}
use Rattle.lt_world.specs.Feed.{FeedGrows}
use Rattle.lt_world.specs.Object.{StaysTold}
use Rattle.lt_tables.specs.Pump as replies
use Rattle.lt_tables.specs.Schema.{Catalogue}
use Rattle.lt_codecs.proofs.FoundLaws.{whole_splits}
use Rattle.lt_lemmas.proofs.PointLaws.{changes_of-append}
use Rattle.lt_lemmas.proofs.TakenLaws.{moved_append, moved_none, takes_append, takes_grow, takes_rest}
use Rattle.lt_fair.specs.declared.refusal.Unfair.{Unfair}
use Rattle.lt_records.specs.View.{view_found, view_item}
use Rattle.lt_records.specs.declared.record.Found as records
use Rattle.lt_records.specs.declared.record.Found.TheVariants as found
use Rattle.lt_records.specs.declared.record.LogRecord.{LogRecord}
use Rattle.lt_pump.specs.Given.{all_given}
use Rattle.lt_pump.specs.Positions.{AreFair, Keeps, Ran, RanSome, Steps, TakesOne, Took, breaks_there, bytes_behind}
use Rattle.lt_pump.specs.Reads.{FoundAhead, IsAhead, IsWhole, StandAhead}
use Rattle.lt_pump.specs.View.{view_stop, view_subscription}
use Rattle.lt_pump.specs.declared.subscription.Subscription.{Subscription}
use Rattle.lt_pump.specs.declared.stop.Stop.{Stop}
use Rattle.lt_pump.proofs.FeedLaws.{told_all, told_map, told_step}
use Rattle.lt_pump.proofs.GivenLaws.{given_append, given_length, given_nothing}

-- ---- one step

takes_found : (told : Option Feed) (cat : Catalogue) (subs : List (Range × ℕ)) (a b : StreamAt) (held held' : List (List Change)) (s size : ℕ) (left left' : List ℕ) (i : Item) → s ≡ a.header.stream → left' ≡ drop size left
    → IsFound format.One left (whole i size) → IfSome told (λ f. FoundAhead f s a.offset left (whole i size)) → Keeps cat subs a b held held' i None → TakesOne told cat subs a b held held' left'
takes_found told cat subs a b held held' s size left left' i e skipped w h k = record {
  item = i;
  lawful = w.1.lawful;
  kept = k;
  stands = told_map (λ f. FoundAhead f s a.offset left (whole i size)) (λ f. IsAhead f a.header.stream a.offset (spelled i ++ left')) told h
      (λ f x. subst (λ (n : ℕ). IsAhead f n a.offset (spelled i ++ left')) e (subst (λ (bytes : List ℕ). IsAhead f s a.offset bytes) ((whole_splits format.One left i size w).0 ∙ ap (λ (y : List ℕ). spelled i ++ y) (sym skipped)) x.ahead));
}

pub step_takes : (told : Option Feed) (cat : Catalogue) (subs : List (Range × ℕ)) (a b : StreamAt) (held held' : List (List Change)) (s size : ℕ) (left left' : List ℕ) (x : records.Found) (r : LogRecord) (o : Option Unfair) → x ≡ found.Whole r size → o ≡ None
    → s ≡ a.header.stream → left' ≡ drop size left → IsWhole (view_found x) left → IfSome told (λ f. FoundAhead f s a.offset left (view_found x)) → Keeps cat subs a b held held' (view_item r) o → TakesOne told cat subs a b held held' left'
step_takes told cat subs a b held held' s size left left' x r o is none e skipped w h k =
    takes_found told cat subs a b held held' s size left left' (view_item r) e skipped (subst (λ (y : records.Found). IsWhole (view_found y) left) is w)
    (subst (λ (y : records.Found). IfSome told (λ f. FoundAhead f s a.offset left (view_found y))) is h) (subst (λ (p : Option Unfair). Keeps cat subs a b held held' (view_item r) p) none k)

pub keeps_lists : (cat : Catalogue) (subs : List (Range × ℕ)) (a b : StreamAt) (held held' : List (List Change)) (i : Item) (o : Option Unfair) → Keeps cat subs a b held held' i o → length held' ≡ length held
keeps_lists cat subs a b held held' i None k = ap length k.2 ∙ given_length (changes_of (i ∷ [])) subs held
keeps_lists cat subs a b held held' i (Some u) k = ap length k.2

-- ---- what was taken, in a longer feed

some_spelled : (i : Item) → 0 < length (spelled i)
unfolding spelled
some_spelled i = omega arith

takes_longer : (f g : Feed) (cat : Catalogue) (a : StreamAt) (items : List Item) (rest : List ℕ) → Grows f g → Takes f cat a items rest → Takes g cat a items (bytes_behind g (moved_by items a))
takes_longer f g cat a [] rest h t = ap (λ (n : ℕ). drop n (stream_bytes g a.header.stream)) (omega arith)
takes_longer f g cat a (i ∷ items) rest h t =
    let bytes = stream_bytes f a.header.stream in
    let size : length (drop a.offset bytes) ≡ length (spelled i) + length t.1.0 = ap length t.1.1 ∙ length-append (spelled i) t.1.0 in
    let left : length (drop a.offset bytes) ≡ length bytes - a.offset = length-drop a.offset bytes in
    let long : 0 < length (spelled i) = some_spelled i in
    let more = takes_grow f g cat a (i ∷ items) rest h (omega (arith, size, left, long)) t in
    subst (λ (r : List ℕ). Takes g cat a (i ∷ items) r) (takes_rest g cat a (i ∷ items) (rest ++ more.0) more.1) more.1

-- no item of format 1 closes its stream
none_follow : (f : Feed) (h : Header) (t : ℕ) (i : Item) → IsTrue (is_item format.One i) → SuccessorsStand f h t i
none_follow f h t (header_item k) l = tt
none_follow f h t (change_item c) l = tt
none_follow f h t (checkpoint_item u) l = tt
none_follow f h t (batch_item u cs) l = tt
none_follow f h t (close_item first count) l = absurd (let e : false ≡ true = l in cc)

takes_once : (f : Feed) (cat : Catalogue) (a : StreamAt) (i : Item) (left : List ℕ) → a.header.format ≡ format.One → IsTrue (is_item format.One i) → breaks_there cat a i ≡ None → IsAhead f a.header.stream a.offset (spelled i ++ left)
    → Takes f cat a (i ∷ []) (bytes_behind f (moved_by (i ∷ []) a))
takes_once f cat a i left one l fair h = (subst (λ x. IsTrue (is_item x i)) (sym one) l, (left ++ h.0, h.1 ∙ append_assoc (spelled i) left h.0), fair, none_follow f a.header a.point.checkpoint i l, refl)

ahead_behind : (f : Feed) (a : StreamAt) (i : Item) (left : List ℕ) → IsAhead f a.header.stream a.offset (spelled i ++ left) → IsAhead f a.header.stream (moved_by (i ∷ []) a).offset left
ahead_behind f a i left h =
    let bytes = stream_bytes f a.header.stream in
    let one : length (flat_map spelled (i ∷ [])) ≡ length (spelled i) = ap length (append-nil (spelled i)) in (
      h.0,
      ap (λ (n : ℕ). drop (a.offset + n) bytes) one ∙ sym (drop-drop (length (spelled i)) a.offset bytes) ∙ ap (drop (length (spelled i))) (h.1 ∙ append_assoc (spelled i) left h.0)
          ∙ drop_at (spelled i) (left ++ h.0) (length (spelled i)) refl,
    )

-- ---- taking, and one step more

fair_more : (cat : Catalogue) (a : StreamAt) (items : List Item) (i : Item) → AreFair cat a items → IsTrue (is_item format.One i) → breaks_there cat (moved_by items a) i ≡ None → AreFair cat a (items ++ i ∷ [])
fair_more cat a [] i f l e = (l, subst (λ (x : StreamAt). breaks_there cat x i ≡ None) (moved_none a) e, tt)
fair_more cat a (j ∷ items) i f l e = (f.0, f.1, fair_more cat (moved_by (j ∷ []) a) items i f.2 l (subst (λ (x : StreamAt). breaks_there cat x i ≡ None) (moved_append (j ∷ []) items a) e))

pub took_none : (told : Option Feed) (cat : Catalogue) (subs : List (Range × ℕ)) (a : StreamAt) (held : List (List Change)) → (t : Took told cat subs a a held held) × (0 ≡ length t.items)
took_none told cat subs a held = (
  record {
    items = [];
    fair = tt;
    moved = sym (moved_none a);
    given = sym (given_nothing subs held);
    takes = told_all (λ f. Takes f cat a [] (bytes_behind f a)) told (λ f. refl);
  },
  refl,
)

same_behind : (f : Feed) (a b : StreamAt) (cat : Catalogue) (items : List Item) → b ≡ moved_by items a → Takes f cat a items (bytes_behind f (moved_by items a)) → Takes f cat a items (bytes_behind f b)
same_behind f a b cat items e t = subst (λ (x : StreamAt). Takes f cat a items (bytes_behind f x)) (sym e) t

-- the feed grew, and nothing more was taken
pub took_same : (told told' : Option Feed) (cat : Catalogue) (subs : List (Range × ℕ)) (a b b' : StreamAt) (held held1 held' : List (List Change)) → StaysTold told told' → FeedGrows told told' → b' ≡ b → held' ≡ held1 → (t : Took told cat subs a b held held1)
    → (u : Took told' cat subs a b' held held') × (length u.items ≡ length t.items)
took_same told told' cat subs a b b' held held1 held' s g e h t = (
  record {
    items = t.items;
    fair = t.fair;
    moved = e ∙ t.moved;
    given = h ∙ t.given;
    takes = told_step (λ f. Takes f cat a t.items (bytes_behind f b)) (λ f. Unit {0}) (λ f. Takes f cat a t.items (bytes_behind f b')) told told' s g t.takes (told_all (λ f. Unit {0}) told' (λ f. tt))
        (λ f k grows x y. same_behind k a b' cat t.items (e ∙ t.moved) (takes_longer f k cat a t.items (bytes_behind f b) grows x));
  },
  refl,
)

more_taken : (f k : Feed) (cat : Catalogue) (a b b' : StreamAt) (items : List Item) (i : Item) (left : List ℕ) → Grows f k → b ≡ moved_by items a → b' ≡ moved_by (i ∷ []) b → a.header.format ≡ format.One → IsTrue (is_item format.One i) → breaks_there cat b i ≡ None
    → Takes f cat a items (bytes_behind f b) → IsAhead k b.header.stream b.offset (spelled i ++ left) → Takes k cat a (items ++ i ∷ []) (bytes_behind k b')
more_taken f k cat a b b' items i left g e e' one l fair t h =
    let first = takes_longer f k cat a items (bytes_behind f b) g t in
    let m = moved_by items a in
    let next = takes_once k cat m i left one l (subst (λ (x : StreamAt). breaks_there cat x i ≡ None) e fair) (subst (λ (x : StreamAt). IsAhead k x.header.stream x.offset (spelled i ++ left)) e h) in
    subst (λ (x : StreamAt). Takes k cat a (items ++ i ∷ []) (bytes_behind k x)) (sym (e' ∙ ap (moved_by (i ∷ [])) e))
    (takes_append k cat a items (i ∷ []) (bytes_behind k m) (bytes_behind k (moved_by (i ∷ []) m)) first next)

pub took_one : (told told' : Option Feed) (cat : Catalogue) (subs : List (Range × ℕ)) (a b b' : StreamAt) (held held1 held' : List (List Change)) (left : List ℕ) → a.header.format ≡ format.One → StaysTold told told' → FeedGrows told told'
    → TakesOne told' cat subs b b' held1 held' left → (t : Took told cat subs a b held held1) → (u : Took told' cat subs a b' held held') × (length u.items ≡ length t.items + 1)
took_one told told' cat subs a b b' held held1 held' left one s g step t = (
  record {
    items = t.items ++ step.item ∷ [];
    fair = fair_more cat a t.items step.item t.fair step.lawful (subst (λ (x : StreamAt). breaks_there cat x step.item ≡ None) t.moved step.kept.0);
    moved = step.kept.1 ∙ ap (moved_by (step.item ∷ [])) t.moved ∙ sym (moved_append t.items (step.item ∷ []) a);
    given = step.kept.2 ∙ ap (all_given (changes_of (step.item ∷ [])) subs) t.given ∙ sym (given_append (changes_of t.items) (changes_of (step.item ∷ [])) subs held)
        ∙ ap (λ (cs : List Change). all_given cs subs held) (sym (changes_of-append t.items (step.item ∷ [])));
    takes = told_step (λ f. Takes f cat a t.items (bytes_behind f b)) (λ f. IsAhead f b.header.stream b.offset (spelled step.item ++ left)) (λ f. Takes f cat a (t.items ++ step.item ∷ []) (bytes_behind f b')) told told' s g t.takes step.stands
        (λ f k grows x y. more_taken f k cat a b b' t.items step.item left grows t.moved step.kept.1 one step.lawful step.kept.0 x y);
  },
  omega (arith, length-append t.items (step.item ∷ [])),
)

pub step_ahead : (told : Option Feed) (cat : Catalogue) (subs : List (Range × ℕ)) (b b' : StreamAt) (held held' : List (List Change)) (s : ℕ) (left : List ℕ) → s ≡ b.header.stream → TakesOne told cat subs b b' held held' left → StandAhead told s b'.offset left
step_ahead told cat subs b b' held held' s left e step =
    subst (λ (n : ℕ). StandAhead told n b'.offset left) (sym e) (subst (λ (x : StreamAt). StandAhead told b.header.stream x.offset left) (sym step.kept.1)
    (told_map (λ f. IsAhead f b.header.stream b.offset (spelled step.item ++ left)) (λ f. IsAhead f b.header.stream (moved_by (step.item ∷ []) b).offset left) told step.stands (λ f h. ahead_behind f b step.item left h)))

-- ---- what a run has taken at its end

stops_early : (g : Feed) (cat : Catalogue) (a : StreamAt) (asked took : ℕ) (rest : List ℕ) (stop : replies.Stop) → took < asked → StopsBy g cat a rest stop → Stops g cat a asked took rest stop
stops_early g cat a asked took rest replies.at_count l s = absurd s
stops_early g cat a asked took rest replies.at_end l s = (l, s)
stops_early g cat a asked took rest replies.at_partial l s = (l, s)
stops_early g cat a asked took rest (replies.at_malformed b) l s = (l, s)
stops_early g cat a asked took rest (replies.at_unfair u) l s = (l, s)
stops_early g cat a asked took rest (replies.at_successor t) l s = (l, s)

pub ran_early : (told told' : Option Feed) (cat : Catalogue) (subs : List (Range × ℕ)) (a b b' : StreamAt) (held held1 held' : List (List Change)) (left : List ℕ) (asked records : ℕ) (step : Option Stop) (stop : Stop) → StaysTold told told' → FeedGrows told told'
    → (t : Took told cat subs a b held held1) → records ≡ length t.items → records < asked → step ≡ Some stop → Steps told' cat subs b b' held1 held' left step → Ran told' cat subs a b' held held' asked records (view_stop stop)
ran_early told told' cat subs a b b' held held1 held' left asked records step stop s g t n l is h =
    let k : Steps told' cat subs b b' held1 held' left (Some stop) = subst (λ (o : Option Stop). Steps told' cat subs b b' held1 held' left o) is h in
    let u = took_same told told' cat subs a b b' held held1 held' s g k.0 k.1 t in
    record {
      took = u.0;
      number = omega (arith, n, u.1);
      few = omega (arith, l);
      stops = told_map (λ f. StopsBy f cat b (bytes_behind f b) (view_stop stop)) (λ f. Stops f cat b' asked records (bytes_behind f b') (view_stop stop)) told' k.2
          (λ f x. stops_early f cat b' asked records (bytes_behind f b') (view_stop stop) l (subst (λ (y : StreamAt). StopsBy f cat y (bytes_behind f y) (view_stop stop)) (sym k.0) x));
    }

pub ran_all : (told : Option Feed) (cat : Catalogue) (subs : List (Range × ℕ)) (a b : StreamAt) (held held' : List (List Change)) (asked records : ℕ) → (t : Took told cat subs a b held held') → records ≡ length t.items → records ≡ asked
    → Ran told cat subs a b held held' asked asked replies.at_count
ran_all told cat subs a b held held' asked records t n e = record { took = t; number = omega (arith, n, e); few = omega arith; stops = told_all (λ f. Stops f cat b asked asked (bytes_behind f b) replies.at_count) told (λ f. refl) }

pub ran_some : (told told' : Option Feed) (cat : Catalogue) (subs : List (Range × ℕ)) (a b b' : StreamAt) (held held1 held' : List (List Change)) (asked records : ℕ) → StaysTold told told' → FeedGrows told told' → b' ≡ b → held' ≡ held1
    → (t : Took told cat subs a b held held1) → records ≡ length t.items → records < asked → RanSome told' cat subs a b' held held' asked
ran_some told told' cat subs a b b' held held1 held' asked records s g e h t n l = let u = took_same told told' cat subs a b b' held held1 held' s g e h t in record { took = u.0; fewer = omega (arith, n, u.1, l) }

-- ---- a step in a loop

pub steps_as : (told : Option Feed) (cat : Catalogue) (all subs : List Subscription) (b b' : StreamAt) (held held' : List (List Change)) (left : List ℕ) (step : Option Stop) → all ≡ subs → Steps told cat (map view_subscription all) b b' held held' left step
    → Steps told cat (map view_subscription subs) b b' held held' left step
steps_as told cat all subs b b' held held' left step e h = subst (λ (xs : List Subscription). Steps told cat (map view_subscription xs) b b' held held' left step) e h

pub step_one : (told : Option Feed) (cat : Catalogue) (subs : List (Range × ℕ)) (b b' : StreamAt) (held held' : List (List Change)) (left : List ℕ) (step : Option Stop) → step ≡ None → Steps told cat subs b b' held held' left step → TakesOne told cat subs b b' held held' left
step_one told cat subs b b' held held' left step e h = subst (λ (o : Option Stop). Steps told cat subs b b' held held' left o) e h

pub same_header : (told : Option Feed) (cat : Catalogue) (subs : List (Range × ℕ)) (b b' : StreamAt) (held held' : List (List Change)) (left : List ℕ) → TakesOne told cat subs b b' held held' left → b'.header ≡ b.header
same_header told cat subs b b' held held' left step = ap (λ (x : StreamAt). x.header) step.kept.1
