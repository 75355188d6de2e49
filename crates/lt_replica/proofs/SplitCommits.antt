-- A split over the store: what it would leave, and what its commit left.
use Rattle.std.proofs.Common.{Bool, List, [], ap, ap₂, arith, false, le-leb, length, ltb-false, refl, subst, sym, true, ℕ, ◌+◌, ◌++◌, ◌-◌, ◌∙◌, ◌∷◌, ◌≡◌, ◌≤◌}
use Rattle.std.proofs.lemmas.Bool.{and_from, and_parts}
use Rattle.std.proofs.lemmas.List.{length-map}
use Rattle.std.specs.List.{list_all, list_any}
use Rattle.std.specs.Prelude.{Err, IsTrue, None, Ok, OnErr, OnOk, Option, Result, Some, codes, map, nat_le, nat_lt, not, option_map, ◌&&◌, ◌==◌}
use Rattle.lt_terms.specs.Key.{max_key, tile}
use Rattle.lt_terms.specs.Value.{rises_strictly}
use Rattle.lt_terms.specs.Log.{Change}
use Rattle.lt_world.specs.Disk.{DiskState}
use Rattle.lt_world.specs.Feed.{Feed}
use Rattle.lt_tables.specs.Pump.{Part, StreamAt, part_of}
use Rattle.lt_tables.specs.Query.{Command, Literal, do_split}
use Rattle.lt_tables.specs.Schema.{Catalogue, Table, first_of, when}
use Rattle.lt_words.specs.Reply.{bad_column, key_too_long, split_done, wrong_literal}
use Rattle.lt_storage.specs.Store.{Manifest, bare_manifest, fits_63, is_part_entry, part_ranges}
use Rattle.lt_machine.specs.Machine.{Does, part_misfit, ranges_of, refused, replies, split_key, split_parts}
use Rattle.lt_machine.specs.Outside.{BelongsTo}
use Rattle.lt_machine.specs.Sound.{Memory}
use Rattle.lt_store.specs.Commits.{HasKept}
use Rattle.lt_parts.specs.Parts.{AreParts, IsSplit, ranges}
use Rattle.lt_parts.specs.declared.entry.PartEntry.{PartEntry}
use Rattle.lt_pump.specs.Pumps.{streams_of}
use Rattle.lt_reply.specs.View.{view_reply}
use Rattle.lt_reply.specs.declared.refusal.Refusal.{Refusal}
use Rattle.lt_reply.specs.declared.refusal.Refusal.TheVariants as refusals
use Rattle.lt_reply.specs.declared.reply.Reply.{Reply}
use Rattle.lt_steps.proofs.AboveLaws.{memory_is_above}
use Rattle.lt_steps.proofs.SplitMemory.{memory_splits}
use Rattle.lt_steps.specs.Memory.{split_memory}
use Rattle.lt_store.specs.declared.committing.CommitRefusal.{CommitRefusal}
use Rattle.lt_replica.specs.Catalogues.{CommitsSplit, HasNotParted, HasParted, KeepsOthers, calls_split, lacks_split}
use Rattle.lt_replica.specs.Committing.{Attempt, CommitCall, IsLeft, MayWrite, Tried, after, after_commit, answer_for, refuses, tries}
use Rattle.lt_replica.specs.Numbers.{HasLawfulShape, Numbers, durable_with, numbers_of}
use Rattle.lt_replica.specs.Settling.{part_of_entry}
use Rattle.lt_replica.specs.Splitting.{HasSplit, IsSplitKey, key_fault, named_key_fault, parted_at, parts_fault}
use Rattle.lt_replica.specs.State.{memory_of, state_of, state_with}
use Rattle.lt_replica.specs.Steps.{Refuses, Stays}
use Rattle.lt_replica.specs.declared.replica.Replica.{Replica}
use Rattle.lt_replica.proofs.CommitLaws.{not_worn}
use Rattle.lt_replica.proofs.RangeLaws.{lows_parts}
use Rattle.lt_replica.proofs.Results.{refuses_to}
use Rattle.lt_replica.proofs.SplitLaws.{does_split, memory_of_key, memory_split, number_is, parts_split, split_bad_key, split_is, state_split}
use Rattle.lt_replica.proofs.TriedLaws.{Answered, numbers_same}

-- ---- the manifest with one partition more

entry_at_key : (m : Manifest) (key : List ℕ) (p : Part) → length key ≤ max_key → IsTrue (is_part_entry m p) → IsTrue (is_part_entry m (record p { low = key }))
entry_at_key m key p l e =
    let listed = list_all (λ id. list_any (λ d. d.0 == id) m.deltas && nat_lt id m.next_id) p.ids in
    let a = and_parts (nat_le (length p.low) max_key && fits_63 p.resume && nat_le m.minimum p.resume && rises_strictly p.ids) listed e in
    let b = and_parts (nat_le (length p.low) max_key && fits_63 p.resume && nat_le m.minimum p.resume) (rises_strictly p.ids) a.0 in
    let c = and_parts (nat_le (length p.low) max_key && fits_63 p.resume) (nat_le m.minimum p.resume) b.0 in
    let f = and_parts (nat_le (length p.low) max_key) (fits_63 p.resume) c.0 in
    and_from _ _ (and_from _ _ (and_from _ _ (and_from _ _ (le-leb (length key) max_key l) f.1) c.1) b.1) a.1

all_split : (m : Manifest) (before after : List PartEntry) (lower : PartEntry) (key : List ℕ) → length key ≤ max_key → IsTrue (list_all (is_part_entry m) (map part_of_entry (before ++ lower ∷ after)))
    → IsTrue (list_all (is_part_entry m) (map part_of_entry (before ++ lower ∷ record lower { low = key } ∷ after)))
all_split m [] after lower key l h =
    let a = and_parts (is_part_entry m (part_of_entry lower)) (list_all (is_part_entry m) (map part_of_entry after)) h in
    and_from _ _ a.0 (and_from _ _ (entry_at_key m key (part_of_entry lower) l a.0) a.1)
all_split m (e ∷ before) after lower key l h =
    let a = and_parts (is_part_entry m (part_of_entry e)) (list_all (is_part_entry m) (map part_of_entry (before ++ lower ∷ after))) h in
    and_from _ _ a.0 (all_split m before after lower key l a.1)

-- the entries after a split are those that a manifest may have
fine_split : (m : Manifest) (es new : List PartEntry) (key : List ℕ) (upper : ℕ) → HasSplit es key new upper → IsTrue (list_all (is_part_entry m) (map part_of_entry es)) → IsTrue (list_all (is_part_entry m) (map part_of_entry new))
fine_split m es new key upper h fine =
    let s = h.split in
    subst (λ (ps : List Part). IsTrue (list_all (is_part_entry m) ps)) (sym h.same)
    (subst (λ (xs : List PartEntry). IsTrue (list_all (is_part_entry m) (map part_of_entry xs))) (sym s.are)
    (all_split m s.before s.after s.lower key h.short (subst (λ (xs : List PartEntry). IsTrue (list_all (is_part_entry m) (map part_of_entry xs))) s.were fine)))

pub shape_split : (cat : Catalogue) (n : Numbers) (es new : List PartEntry) (ss : List StreamAt) (key : List ℕ) (upper : ℕ) → HasSplit es key new upper → AreParts new → HasLawfulShape (bare_manifest (durable_with cat n es ss))
    → HasLawfulShape (bare_manifest (durable_with cat n new ss))
shape_split cat n es new ss key upper split parts h =
    let m = bare_manifest (durable_with cat n es ss) in
    let old = and_parts (tile (map (λ p. p.low) m.parts) && nat_le (length m.parts) 1024) (list_all (is_part_entry m) m.parts) h.parts in
    let tiled : IsTrue (tile (map (λ p. p.low) (map part_of_entry new))) = subst (λ (ls : List (List ℕ)). IsTrue (tile ls)) (lows_parts new) parts.tiled in
    let few : IsTrue (nat_le (length (map part_of_entry new)) 1024) = le-leb (length (map part_of_entry new)) 1024 (omega (arith, length-map new part_of_entry, parts.few)) in
    record { limit = h.limit; numbers = h.numbers; streams = h.streams; parts = and_from _ _ (and_from _ _ tiled few) (fine_split m es new key upper split old.1) }

-- ---- what a split finds

short_by : {R : Type 0} (a b : Option R) (long : Bool) (r : R) → first_of (a ∷ b ∷ when long r ∷ []) ≡ None → long ≡ false
short_by (Some x) b long r e = absurd cc
short_by None (Some x) long r e = absurd cc
short_by None None true r e = absurd cc
short_by None None false r e = refl

key_short : (t : Table) (ls : List Literal) → key_fault t.number t.key ls ≡ None → length (split_key t ls) ≤ max_key
key_short t ls e =
    let n = length (split_key t ls) in
    ltb-false max_key n (short_by (option_map bad_column (when (not (length ls == length t.key)) (codes "key"))) (option_map wrong_literal (part_misfit t.key ls)) (nat_lt max_key n) (key_too_long n) e)

pub has_split : (cat : Catalogue) (name : List ℕ) (ls : List Literal) (es mid now : List PartEntry) (key : List ℕ) (upper : ℕ) → IsSplitKey cat name ls key → IsSplit es key mid upper → upper ≡ part_of (ranges es) key + 1 → parts_fault es key ≡ None
    → map part_of_entry now ≡ map part_of_entry mid → HasSplit es key now upper
has_split cat name ls es mid now key upper k split place free same = record {
  parts = mid;
  split = split;
  same = same;
  place = place;
  free = free;
  short = subst (λ (bytes : List ℕ). length bytes ≤ max_key) (sym k.is) (key_short k.table ls k.free);
}

pub key_refuses : (old : Replica) (name : List ℕ) (ls : List Literal) (e : Refusal) → MayWrite old → Refuses (named_key_fault old.catalogue name ls) e → Refuses (refused (state_of old) (do_split name ls)) e
key_refuses old name ls e may h =
    refuses_to (named_key_fault old.catalogue name ls) (refused (state_of old) (do_split name ls)) (λ r is. split_bad_key old.catalogue (numbers_of old.store old.next_id) old.map (streams_of old.pump) (memory_of old) name ls (not_worn old may) r is) e h

pub parts_refuse : (old : Replica) (name : List ℕ) (ls : List Literal) (key : List ℕ) (e : Refusal) → MayWrite old → IsSplitKey old.catalogue name ls key → Refuses (parts_fault old.map key) e → Refuses (refused (state_of old) (do_split name ls)) e
parts_refuse old name ls key e may k h =
    refuses_to (parts_fault old.map key) (refused (state_of old) (do_split name ls)) (λ r is. split_is old.catalogue (numbers_of old.store old.next_id) old.map (streams_of old.pump) (memory_of old) name ls key (not_worn old may) k ∙ is) e h

-- ---- what it would leave

pub held_after : (old : Replica) (key : List ℕ) (new : List PartEntry) (upper : ℕ) → HasSplit old.map key new upper → length (memory_of old) ≡ length old.map → parted_at (upper - 1) key (memory_of old) ≡ split_memory key (memory_of old) (part_ranges (map part_of_entry old.map))
held_after old key new upper h many = let place = h.place in memory_split old.map key (memory_of old) (parted_at (upper - 1) key (memory_of old)) (upper - 1) many (omega (arith, place)) refl

pub parts_after : (old : Replica) (key : List ℕ) (new : List PartEntry) (upper : ℕ) → HasSplit old.map key new upper → map part_of_entry new ≡ split_parts key (map part_of_entry old.map) (part_ranges (map part_of_entry old.map))
parts_after old key new upper h = h.same ∙ parts_split old.map h.parts key upper h.split h.place

unfoldable pub split_attempt : (old : Replica) (name : List ℕ) (ls : List Literal) (key : List ℕ) (new : List PartEntry) (upper : ℕ) → MayWrite old → IsSplitKey old.catalogue name ls key → HasSplit old.map key new upper → length (memory_of old) ≡ length old.map → Attempt old (do_split name ls)
split_attempt old name ls key new upper may k h many =
    let n = numbers_of old.store old.next_id in
    let ss = streams_of old.pump in
    let mem = parted_at (upper - 1) key (memory_of old) in
    let s' = after_commit old old.catalogue (map part_of_entry new) mem in
    let held = held_after old key new upper h many in
    let is = state_split old.catalogue n old.map new ss (memory_of old) mem key (parts_after old key new upper h) held in
    let by_key : mem ≡ split_memory (split_key k.table ls) (memory_of old) (ranges_of (state_of old).durable) = memory_of_key old.catalogue name ls key (memory_of old) mem (part_ranges (map part_of_entry old.map)) k held in
    let free : refused (state_of old) (do_split name ls) ≡ None = split_is old.catalogue n old.map ss (memory_of old) name ls key (not_worn old may) k ∙ h.free in
    let does : (f : Feed) (source : List Change) → Does f source (state_of old) (do_split name ls) (replies (split_done upper)) s' = λ f source. does_split f source old.catalogue (state_of old) s' name ls key upper refl k (number_is old.map key upper h.place) is in
    record {
      reply = split_done upper;
      catalogue = old.catalogue;
      parts = map part_of_entry new;
      memory = mem;
      free = free;
      does = does;
      belongs = λ f b step. subst (BelongsTo f s') (sym by_key) (memory_splits f (state_of old) s' (memory_of old) name ls k.table (replies (split_done upper)) b k.named free step);
      above = λ a. memory_is_above.stays [] [] (state_of old) s' (memory_of old) mem (do_split name ls) (replies (split_done upper)) a (does [] []) (k.table, k.named, by_key);
    }

-- ---- what its commit left

state_others : (old new : Replica) → KeepsOthers old new → state_of new ≡ state_with old.catalogue (numbers_of new.store old.next_id) new.map (streams_of old.pump) (memory_of new)
state_others old new k =
    ap₂ (λ c id. state_with c (numbers_of new.store id) new.map (streams_of new.pump) (memory_of new)) k.catalogue k.next_id
    ∙ ap (λ ss. state_with old.catalogue (numbers_of new.store old.next_id) new.map ss (memory_of new)) k.streams

state_with_parts : (old new : Replica) (es : List PartEntry) (mem : Memory) → KeepsOthers old new → new.map ≡ es → memory_of new ≡ mem → state_of new ≡ state_with old.catalogue (numbers_of new.store old.next_id) es (streams_of old.pump) mem
state_with_parts old new es mem k parts held = state_others old new k ∙ ap₂ (λ xs m. state_with old.catalogue (numbers_of new.store old.next_id) xs (streams_of old.pump) m) parts held

split_stays : (old new : Replica) (e : CommitRefusal) → HasKept old.store new.store [] (Err e) → KeepsOthers old new → HasNotParted old new → Stays old new
split_stays old new e kept k h = record {
  state = state_with_parts old new old.map (memory_of old) k h.map h.memory ∙ ap (λ n. state_with old.catalogue n old.map (streams_of old.pump) (memory_of old)) (numbers_same old.store new.store old.next_id e kept);
  memory = h.memory;
}

split_after : (old new : Replica) (now : List PartEntry) (part : ℕ) (key : List ℕ) → new.store.space.limit ≡ old.store.space.limit → new.store.root.generation ≡ old.store.root.generation + 1 → KeepsOthers old new → HasParted old new now part key
    → state_of new ≡ after_commit old old.catalogue (map part_of_entry now) (parted_at part key (memory_of old))
split_after old new now part key l g k h =
    state_with_parts old new now (parted_at part key (memory_of old)) k h.map h.memory
    ∙ ap₂ (λ x y. state_with old.catalogue (record { limit = x; generation = y; next_id = old.next_id }) now (streams_of old.pump) (parted_at part key (memory_of old))) l g

split_left : (disk disk' : DiskState) (old new : Replica) (c : Command) (t : Attempt old c) (now : List PartEntry) (part : ℕ) (key : List ℕ) (m : Manifest) (reply : Reply) (r : Result Reply Refusal) → after t ≡ after_commit old old.catalogue (map part_of_entry now) (parted_at part key (memory_of old))
    → t.memory ≡ parted_at part key (memory_of old) → view_reply reply ≡ t.reply → KeepsOthers old new → (result : Result (Unit {0}) CommitRefusal) → CommitCall disk disk' old.store new.store m result → OnOk (answer_for result) (HasParted old new now part key)
    → OnErr (answer_for result) (HasNotParted old new) → Answered (answer_for result) reply r → IsLeft old new t result r
split_left disk disk' old new c t now part key m reply r is memory says k (Ok x) call ok err answered = (reply, answered, says, split_after old new now part key call.kept.limit call.ok.generation k ok ∙ sym is, ok.memory ∙ sym memory, k.next_id)
split_left disk disk' old new c t now part key m reply r is memory says k (Err e) call ok err answered = (answered, split_stays old new e call.kept k err, k.next_id)

pub split_tried : (disk disk' : DiskState) (old new : Replica) (name : List ℕ) (ls : List Literal) (key : List ℕ) (now : List PartEntry) (upper : ℕ) (reply : Reply) (given : Result (Unit {0}) Refusal) (r : Result Reply Refusal) → MayWrite old → IsSplitKey old.catalogue name ls key
    → HasSplit old.map key now upper → length (memory_of old) ≡ length old.map → view_reply reply ≡ split_done upper → KeepsOthers old new → CommitsSplit disk disk' old new now (upper - 1) key given → Answered given reply r → Tried disk disk' old new (do_split name ls) r
unfolding split_attempt
split_tried disk disk' old new name ls key now upper reply given r may is split many says k (lacks_split lack same store quiet goes) answered =
    refuses refusals.Memory (subst (λ g. Answered g reply r) lack answered) (λ broken there. tt)
    (record { state = state_with_parts old new old.map (memory_of old) k same.map same.memory ∙ ap (λ s. state_with old.catalogue (numbers_of s old.next_id) old.map (streams_of old.pump) (memory_of old)) store; memory = same.memory }) store quiet goes
split_tried disk disk' old new name ls key now upper reply given r may is split many says k (calls_split run ok err) answered =
    let t = split_attempt old name ls key now upper may is split many in
    let m = bare_manifest (durable_with old.catalogue (numbers_of old.store old.next_id) now (streams_of old.pump)) in
    let a : given ≡ answer_for run.result = run.answer in
    let p = upper - 1 in
    tries t run.result may.whole run.call
    (split_left disk disk' old new (do_split name ls) t now p key m reply r refl refl says k run.result run.call (subst (λ g. OnOk g (HasParted old new now p key)) a ok) (subst (λ g. OnErr g (HasNotParted old new)) a err) (subst (λ g. Answered g reply r) a answered))
