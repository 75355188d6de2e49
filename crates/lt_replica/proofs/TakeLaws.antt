-- What a pump answers and leaves, by what its call on the streams does.
use Rattle.std.proofs.Common.{Bool, List, [], ap, ap₂, false, inl, inr, length, ltb-false, ltb-true, map, refl, slice_set, subst, suc, sym, true, zero, ℕ, ◌<◌, ◌∙◌, ◌∷◌, ◌≡◌, ◌≤◌}
use Rattle.std.specs.Prelude.{Err, IfErr, IfOk, IfSome, Ok, OnErr, nat_lt, IsErrOf, IsTrue, None, Option, Result, Some, slice_get, ◌↔◌}
use Rattle.std.specs.Result.{IsErrAnd}
use Rattle.std.proofs.lemmas.Bool.{cases_lt}
use Rattle.std.proofs.lemmas.List.{length-map}
use Rattle.std.proofs.lemmas.Option.{same_Some}
use Rattle.lt_world.specs.Disk.{Rose}
use Rattle.lt_world.specs.Feed.{Feed}
use Rattle.lt_terms.specs.Key.{Range}
use Rattle.lt_terms.specs.Log.{Change, Item, changes_of, is_item}
use Rattle.lt_terms.specs.declared.Format.{Format}
use Rattle.lt_terms.specs.declared.Format.TheVariants as format
use Rattle.lt_storage.specs.Store.{Durable, Stream}
use Rattle.lt_store.specs.Making.{bare_stream}
use Rattle.lt_tables.specs.Pump.{Part, StreamAt, Stops, Takes, moved_by}
use Rattle.lt_machine.specs.Machine.{AreFair, Does, PumpsFair, refused, replies, with_items}
use Rattle.lt_world.specs.Feed.{FeedState}
use Rattle.lt_machine.specs.Sound.{Memory}
use Rattle.lt_words.specs.Reply as model
use Rattle.lt_tables.specs.Schema.{Catalogue}
use Rattle.lt_tables.specs.Query.{do_pump}
use Rattle.lt_parts.specs.declared.entry.PartEntry.{PartEntry}
use Rattle.lt_pump.specs.Given.{AreBehind, all_given}
use Rattle.lt_pump.specs.Positions as positions
use Rattle.lt_pump.specs.Positions.{bytes_behind, low_of}
use Rattle.lt_pump.specs.Pumps.{HasPumped, HasPumpedSome, streams_of}
use Rattle.lt_pump.specs.View.{view_pumped, view_stop}
use Rattle.lt_pump.specs.declared.position.Position.{Position}
use Rattle.lt_pump.specs.declared.refusal.PumpFault.{PumpFault}
use Rattle.lt_pump.specs.declared.refusal.PumpFault.TheVariants as faults
use Rattle.lt_pump.specs.declared.stop.Pumped.{Pumped}
use Rattle.lt_reply.specs.View.{view_reply}
use Rattle.lt_reply.specs.declared.refusal.Refusal.{Refusal}
use Rattle.lt_reply.specs.declared.refusal.Refusal.TheVariants as refusals
use Rattle.lt_reply.specs.declared.reply.Reply.{Reply}
use Rattle.lt_steps.specs.Memory.{partitions}
use Rattle.lt_replica.specs.Numbers.{Numbers, durable_with, numbers_of}
use Rattle.lt_replica.specs.Pumping.{KeepsParts, KeepsStore}
use Rattle.lt_replica.specs.State.{memory_of, part_of_entry, state_of, state_with}
use Rattle.lt_replica.specs.Steps.{HasTaken, PumpFails, Stays, TakesLess, Took, feed_fails, no_memory, refuses_pump}
use Rattle.lt_replica.specs.declared.replica.Replica.{Replica}
use Rattle.lt_replica.proofs.BehindLaws.{behind_at}
use Rattle.lt_replica.proofs.CommitLaws.{lows_behind}
use Rattle.lt_replica.proofs.PumpedState.{does_pump, known_there, lawful_items, pump_free, pump_unknown, pumps_fair, same_state, state_behind, subs_are, subs_of}
use Rattle.lt_replica.proofs.Results.{err_is}

abbrev Subs : Type 0
Subs = List (Range × ℕ)

held_behind : (r : Replica) (n : ℕ) (a : StreamAt) → slice_get (streams_of r.pump) n ≡ Some a → AreBehind a (memory_of r)
held_behind r n a e = subst (λ (o : Option StreamAt). IfSome o (λ x. AreBehind x (memory_of r))) e (behind_at (streams_of r.pump) (memory_of r) r.behind n)

state_after : (old new : Replica) (n : ℕ) (items : List Item) (a b : StreamAt) → KeepsParts old new → slice_get (streams_of old.pump) n ≡ Some a → streams_of new.pump ≡ slice_set (streams_of old.pump) n b → b ≡ moved_by items a → positions.AreFair old.catalogue a items
    → memory_of new ≡ all_given (changes_of items) (partitions (state_of old)) (memory_of old) → state_of new ≡ with_items n items (state_of old)
state_after old new n items a b k at moved is fair given =
    ap₂ (λ (c : Catalogue) (g : Numbers). state_with c g new.map (streams_of new.pump) (memory_of new)) k.catalogue (ap₂ numbers_of k.store k.next_id)
    ∙ ap (λ (ss : List StreamAt). state_with old.catalogue (numbers_of old.store old.next_id) new.map ss (memory_of new)) (moved ∙ ap (slice_set (streams_of old.pump) n) is)
    ∙ state_behind old.catalogue (numbers_of old.store old.next_id) old.map new.map (streams_of old.pump) (memory_of old) (memory_of new) n items a old.pump.streams at k.parts fair (held_behind old n a at) given

given_by : (old new : Replica) (subs : Subs) (items : List Item) → subs ≡ subs_of old.map → memory_of new ≡ all_given (changes_of items) subs (memory_of old) → memory_of new ≡ all_given (changes_of items) (partitions (state_of old)) (memory_of old)
given_by old new subs items e g = g ∙ ap (λ (xs : Subs). all_given (changes_of items) xs (memory_of old)) (e ∙ subs_are old.catalogue (numbers_of old.store old.next_id) old.map (streams_of old.pump) (memory_of old))

-- the check of a stream of format 1 takes the same items
fair_items : (cat : Catalogue) (a : StreamAt) (items : List Item) → a.header.format ≡ format.One → positions.AreFair cat a items → AreFair cat a items
fair_items cat a [] one f = tt
fair_items cat a (i ∷ items) one f = (subst (λ (x : Format). IsTrue (is_item x i)) (sym one) f.0, f.1, fair_items cat (moved_by (i ∷ []) a) items one f.2)

-- each stream that a pump reads is of format 1
format_one : (ps : List Position) (n : ℕ) (a : StreamAt) → slice_get (map positions.stream_of ps) n ≡ Some a → a.header.format ≡ format.One
format_one [] n a e = absurd cc
format_one (p ∷ ps) zero a e = ap (λ (x : StreamAt). x.header.format) (sym (same_Some (positions.stream_of p) a e))
format_one (p ∷ ps) (suc n) a e = format_one ps n a e

took_of : (told : Option Feed) (old new : Replica) (n : ℕ) (subs : Subs) (a b : StreamAt) → KeepsParts old new → subs ≡ subs_of old.map → slice_get (streams_of old.pump) n ≡ Some a → streams_of new.pump ≡ slice_set (streams_of old.pump) n b
    → (t : positions.Took told old.catalogue subs a b (memory_of old) (memory_of new)) → (x : Took told old new n) × (x.items ≡ t.items)
took_of told old new n subs a b k e at moved t =
    let given = given_by old new subs t.items e t.given in (
      record {
        stood = a;
        known = known_there n (streams_of old.pump) a old.pump.streams at;
        items = t.items;
        fair = fair_items old.catalogue a t.items (format_one old.pump.positions.items n a at) t.fair;
        lawful = lawful_items old.catalogue a t.items t.fair;
        state = state_after old new n t.items a b k at moved t.moved t.fair given;
        memory = given;
        takes = behind told t.takes;
      },
      refl,
    )
  where
    behind : (told : Option Feed) → IfSome told (λ f. Takes f old.catalogue a t.items (bytes_behind f b)) → IfSome told (λ f. (rest : List ℕ) × Takes f old.catalogue a t.items rest)
    behind None h = tt
    behind (Some f) h = (bytes_behind f b, h)

does_told : (told : Option Feed) (old new : Replica) (n asked : ℕ) (subs : Subs) (p : Pumped) → KeepsParts old new → subs ≡ subs_of old.map
    → HasPumped told old.catalogue n asked subs (streams_of old.pump) (streams_of new.pump) (memory_of old) (memory_of new) p
    → (source : List Change) → IfSome told (λ f. Does f source (state_of old) (do_pump n asked) (replies (view_pumped n p)) (state_of new))
does_told None old new n asked subs p k e h source = tt
does_told (Some f) old new n asked subs p k e h source =
    let t = h.ran.took in
    let given = given_by old new subs t.items e t.given in
    does_pump f source (state_of old) (state_of new) n asked h.stood t.items (bytes_behind f h.stands) p (known_there n (streams_of old.pump) h.stood old.pump.streams h.known) (lawful_items old.catalogue h.stood t.items t.fair)
    (state_after old new n t.items h.stood h.stands k h.known h.moved t.moved t.fair given) h.ran.number h.ran.few t.takes
    (subst (λ (b : StreamAt). Stops f old.catalogue b asked p.records (bytes_behind f h.stands) (view_stop p.stop)) t.moved h.ran.stops)
    (h.offset ∙ ap (λ (b : StreamAt). b.offset) t.moved) (h.checkpoint ∙ ap (λ (b : StreamAt). b.point.checkpoint) t.moved)

does_fair : (told : Option Feed) (old new : Replica) (n asked : ℕ) (subs : Subs) (p : Pumped) → KeepsParts old new → subs ≡ subs_of old.map
    → HasPumped told old.catalogue n asked subs (streams_of old.pump) (streams_of new.pump) (memory_of old) (memory_of new) p → PumpsFair (state_of old) n asked (replies (view_pumped n p)) (state_of new)
does_fair told old new n asked subs p k e h =
    let t = h.ran.took in
    pumps_fair (state_of old) (state_of new) n asked h.stood t.items p (known_there n (streams_of old.pump) h.stood old.pump.streams h.known) (lawful_items old.catalogue h.stood t.items t.fair)
    (fair_items old.catalogue h.stood t.items (format_one old.pump.positions.items n h.stood h.known) t.fair) (state_after old new n t.items h.stood h.stands k h.known h.moved t.moved t.fair (given_by old new subs t.items e t.given)) h.ran.number h.ran.few
    (h.offset ∙ ap (λ (b : StreamAt). b.offset) t.moved) (h.checkpoint ∙ ap (λ (b : StreamAt). b.point.checkpoint) t.moved)

pump_is_free : (told : Option Feed) (old new : Replica) (n asked count : ℕ) (subs : Subs) (p : Pumped) → HasPumped told old.catalogue n asked subs (streams_of old.pump) (streams_of new.pump) (memory_of old) (memory_of new) p → refused (state_of old) (do_pump n count) ≡ None
pump_is_free told old new n asked count subs p h = pump_free old.catalogue (numbers_of old.store old.next_id) old.map (streams_of old.pump) (memory_of old) n count h.stood old.pump.streams h.known

pub takes_less : (told : Option Feed) (old new : Replica) (n asked : ℕ) (subs : Subs) → KeepsParts old new → subs ≡ subs_of old.map
    → HasPumpedSome told old.catalogue n asked subs (streams_of old.pump) (streams_of new.pump) (memory_of old) (memory_of new) → (refused (state_of old) (do_pump n asked) ≡ None) × TakesLess told old new n asked
takes_less told old new n asked subs k e h =
    let t = took_of told old new n subs h.stood h.stands k e h.known h.moved h.ran.took in
    let free = pump_free old.catalogue (numbers_of old.store old.next_id) old.map (streams_of old.pump) (memory_of old) n asked h.stood old.pump.streams h.known in
    (free, inr (free, (t.0, subst (λ (items : List Item). length items < asked) (sym t.1) h.ran.fewer)))

-- ---- what a step answers

pub has_taken : (told : Option Feed) (old new : Replica) (n asked : ℕ) (subs : Subs) (p : Pumped) (reply : Reply) → KeepsParts old new → subs ≡ subs_of old.map
    → HasPumped told old.catalogue n asked subs (streams_of old.pump) (streams_of new.pump) (memory_of old) (memory_of new) p → view_reply reply ≡ view_pumped n p → HasTaken told old new n asked reply
has_taken told old new n asked subs p reply k e h is = record {
  free = pump_is_free told old new n asked asked subs p h;
  took = (took_of told old new n subs h.stood h.stands k e h.known h.moved h.ran.took).0;
  does = λ source. subst (λ (r : model.Reply). PumpsFair (state_of old) n asked (replies r) (state_of new) × IfSome told (λ f. Does f source (state_of old) (do_pump n asked) (replies r) (state_of new))) (sym is)
      (does_fair told old new n asked subs p k e h, does_told told old new n asked subs p k e h source);
}

-- a stream that a call does not miss is there
pub not_missed : (r : Result Pumped PumpFault) (e : PumpFault) (count n : ℕ) → (IsErrOf r faults.NoStream ↔ (count ≤ n)) → r ≡ Err e → (e ≡ faults.NoStream → ⊥) → n < count
not_missed r e count n missed is other = elim (cases_lt n count) [
  | inl l ↦ l
  | inr l ↦ absurd (other (let same : Err e ≡ Err faults.NoStream = sym is ∙ missed.1 l in cc))
]

pub fails_feed : (feed feed' : FeedState) (old new : Replica) (n asked : ℕ) (subs : Subs) → KeepsParts old new → subs ≡ subs_of old.map → Rose feed.faults feed'.faults
    → HasPumpedSome feed'.told old.catalogue n asked subs (streams_of old.pump) (streams_of new.pump) (memory_of old) (memory_of new) → PumpFails feed feed' old new n asked refusals.FeedFault
fails_feed feed feed' old new n asked subs k e rose h = let t = takes_less feed'.told old new n asked subs k e h in feed_fails refl rose t.0 t.1

pub fails_memory : (feed feed' : FeedState) (old new : Replica) (n asked : ℕ) (subs : Subs) → KeepsParts old new → subs ≡ subs_of old.map → feed'.faults ≡ feed.faults
    → HasPumpedSome feed'.told old.catalogue n asked subs (streams_of old.pump) (streams_of new.pump) (memory_of old) (memory_of new) → PumpFails feed feed' old new n asked refusals.Memory
fails_memory feed feed' old new n asked subs k e same h = no_memory refl same (takes_less feed'.told old new n asked subs k e h).1

pub fails_unknown : (feed feed' : FeedState) (old new : Replica) (n asked : ℕ) → length (streams_of old.pump) ≤ n → feed'.faults ≡ feed.faults → Stays old new → PumpFails feed feed' old new n asked (refusals.NoStream n)
fails_unknown feed feed' old new n asked l same stays = refuses_pump same (tt, pump_unknown old.catalogue (numbers_of old.store old.next_id) old.map (streams_of old.pump) (memory_of old) n asked old.pump.streams l) stays

-- memory ran out before anything was done
pub fails_first : (feed : FeedState) (r : Replica) (n asked : ℕ) (result : Result Reply Refusal) → IsErrAnd result (λ e. e ≡ refusals.Memory) → IfErr result (PumpFails feed feed r r n asked)
fails_first feed r n asked result h = err_is result refusals.Memory (PumpFails feed feed r r n asked) h (no_memory refl refl (inl (record { state = refl; memory = refl })))

-- ---- what a pump leaves

pub stays_so : (old new : Replica) → KeepsParts old new → streams_of new.pump ≡ streams_of old.pump → memory_of new ≡ memory_of old → Stays old new
stays_so old new k s m = record {
  state = ap₂ (λ (c : Catalogue) (g : Numbers). state_with c g new.map (streams_of new.pump) (memory_of new)) k.catalogue (ap₂ numbers_of k.store k.next_id)
      ∙ ap₂ (λ (ss : List StreamAt) (mem : Memory). state_with old.catalogue (numbers_of old.store old.next_id) new.map ss mem) s m ∙ same_state old.catalogue (numbers_of old.store old.next_id) old.map new.map (streams_of old.pump) (memory_of old) k.parts;
  memory = m;
}

pub as_many : (xs ys : List PartEntry) → map part_of_entry xs ≡ map part_of_entry ys → length ys ≡ length xs
as_many xs ys e = sym (length-map ys part_of_entry) ∙ sym (ap length e) ∙ length-map xs part_of_entry

-- ---- the low bounds of the streams

lows_set : (ss : List StreamAt) (n : ℕ) (a b : StreamAt) → slice_get ss n ≡ Some a → low_of b ≡ low_of a → map low_of (slice_set ss n b) ≡ map low_of ss
lows_set [] n a b e low = refl
lows_set (x ∷ ss) zero a b e low = ap (λ (l : List ℕ). l ∷ map low_of ss) (low ∙ ap low_of (sym (same_Some x a e)))
lows_set (x ∷ ss) (suc n) a b e low = ap (λ (ls : List (List ℕ)). low_of x ∷ ls) (lows_set ss n a b e low)

lows_moved : (old new : List StreamAt) (n : ℕ) (a b : StreamAt) (items : List Item) → slice_get old n ≡ Some a → new ≡ slice_set old n b → b ≡ moved_by items a → map low_of new ≡ map low_of old
lows_moved old new n a b items known moved is = ap (map low_of) moved ∙ lows_set old n a b known (ap low_of is)

-- a pump leaves them, whatever it answers
pub lows_kept : (told : Option Feed) (cat : Catalogue) (n asked : ℕ) (subs : Subs) (old new : List StreamAt) (held held' : Memory) (r : Result Pumped PumpFault) → IfOk r (HasPumped told cat n asked subs old new held held')
    → (n < length old → OnErr r (HasPumpedSome told cat n asked subs old new held held')) → (length old ≤ n → new ≡ old) → map low_of new ≡ map low_of old
lows_kept told cat n asked subs old new held held' (Ok p) h some none = lows_moved old new n h.stood h.stands h.ran.took.items h.known h.moved h.ran.took.moved
lows_kept told cat n asked subs old new held held' (Err e) h some none = by (nat_lt n (length old)) refl
  where
    by : (b : Bool) → nat_lt n (length old) ≡ b → map low_of new ≡ map low_of old
    by true less = let s = some (ltb-true n (length old) less) in lows_moved old new n s.stood s.stands s.ran.took.items s.known s.moved s.ran.took.moved
    by false more = ap (map low_of) (none (ltb-false n (length old) more))

abbrev durable_of : Replica → List Stream → List Part → Durable
durable_of r xs ps = record { limit = r.store.space.limit; generation = r.store.root.generation; catalogue = r.catalogue; minimum = 0; next_id = r.next_id; parts = ps; streams = xs; shelf = [] }

-- so it keeps what is durable
pub keeps_store : (old new : Replica) → KeepsParts old new → map low_of (streams_of new.pump) ≡ map low_of (streams_of old.pump) → KeepsStore old new
keeps_store old new k lows = record {
  store = k.store;
  durable = ap₂ (λ (c : Catalogue) (g : Numbers). durable_with c g new.map (streams_of new.pump)) k.catalogue (ap₂ numbers_of k.store k.next_id)
      ∙ ap₂ (λ (xs : List Stream) (ps : List Part). durable_of old xs ps) (sym (lows_behind (streams_of new.pump)) ∙ ap (map bare_stream) lows ∙ lows_behind (streams_of old.pump)) k.parts;
}
