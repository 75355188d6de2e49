-- What an opening makes of a manifest.
use Rattle.std.proofs.Common.{Bool, List, [], ap, ap₂, arith, get_or, inl, leb-true, length, refl, subst, suc, sym, true, zero, ℕ, ◌+◌, ◌++◌, ◌<◌, ◌≤◌, ◌∙◌, ◌∷◌, ◌≡◌}
use Rattle.std.specs.Prelude.{IfSome, IsTrue, None, Option, Some, map, nat_le, nat_lt, ◌&&◌, ◌==◌}
use Rattle.std.specs.List.{AllByRecursion, list_all, list_any}
use Rattle.std.proofs.lemmas.Bool.{and_parts, false≢true}
use Rattle.std.proofs.lemmas.List.{length-append, length-map, map-append}
use Rattle.lt_terms.specs.Key.{tile}
use Rattle.lt_tables.specs.Pump.{IsMismatch, Part, StreamAt}
use Rattle.lt_storage.specs.Store.{IsLawfulManifest, Manifest, Placing, Stream, bare_manifest, is_part_entry}
use Rattle.lt_machine.specs.Sound.{Memory}
use Rattle.lt_parts.specs.Parts.{AreParts, lows_of}
use Rattle.lt_parts.specs.declared.entry.PartEntry.{PartEntry}
use Rattle.lt_pump.specs.Positions.{low_of}
use Rattle.lt_replica.specs.BareStore.{IsBare}
use Rattle.lt_replica.specs.Behind.{are_behind, is_behind}
use Rattle.lt_replica.specs.Numbers.{Numbers, durable_with}
use Rattle.lt_replica.specs.Settling.{part_of_entry}
use Rattle.lt_delta.specs.View.{view_index}
use Rattle.lt_delta.specs.declared.index.DeltaIndex.{DeltaIndex}
use Rattle.lt_manifest.specs.View.{view_delta, view_stored, view_stream}
use Rattle.lt_manifest.specs.declared.stored.DeltaStored.{DeltaStored}
use Rattle.lt_manifest.specs.declared.stored.Stored.{Stored}
use Rattle.lt_manifest.specs.declared.stored.StreamEntry.{StreamEntry}
use Rattle.lt_pending.specs.Held.{held_in}
use Rattle.lt_pending.specs.declared.changes.Changes.{Changes}
use Rattle.lt_world.specs.Disk.{DiskState}
use Rattle.lt_world.specs.Feed.{Feed, FeedState}
use Rattle.lt_machine.specs.Outside.{counts_in}
use Rattle.lt_machine.specs.Program.{IsOpened, KeepsLows}
use Rattle.lt_machine.specs.Sound.{IsSound}
use Rattle.lt_pump.specs.Pumps.{AttachRefused}
use Rattle.lt_pump.specs.declared.refusal.AttachRefusal.{AttachRefusal}
use Rattle.lt_pump.specs.declared.refusal.AttachRefusal.TheVariants as attach
use Rattle.lt_replica.specs.BareStore.{on_bare_store}
use Rattle.lt_replica.specs.State.{view_start}
use Rattle.lt_replica.specs.declared.refusal.OpeningRefusal.TheVariants as opening
use Rattle.lt_replica.specs.Opening.{HoldsNothing, IsHurt, NamesLaden, RefusesOpening, at_start, begun_entry}

pub holds_more : (n : ℕ) (xs : List Changes) (c : Changes) → HoldsNothing n xs → held_in c ≡ [] → HoldsNothing (n + 1) (xs ++ c ∷ [])
holds_more n xs c h none = record {
  many = length-append xs (c ∷ []) ∙ ap (λ m. m + 1) h.many;
  nothing = map-append held_in xs (c ∷ []) ∙ ap₂ (λ a b. a ++ b ∷ []) h.nothing none ∙ sym (map-append (λ c. []) xs (c ∷ []));
}

-- a stream with restart points is among those
points_none : (ps : List Stored) → map view_stored ps ≡ [] → ps ≡ []
points_none [] e = refl
points_none (p ∷ ps) e = absurd cc

pub deltas_none : (ds : List DeltaStored) → map view_delta ds ≡ [] → ds ≡ []
deltas_none [] e = refl
deltas_none (d ∷ ds) e = absurd cc

pub points_at : (ys : List StreamEntry) (i : ℕ) (s : StreamEntry) → i < length ys → s ≡ get_or ys i s → AllByRecursion (λ s. s.points ≡ []) (map view_stream ys) → s.points ≡ []
points_at [] i s l e all = absurd (omega (arith, l))
points_at (y ∷ ys) zero s l e all = ap (λ x. x.points) e ∙ points_none y.points all.0
points_at (y ∷ ys) (suc i) s l e all = points_at ys i s (omega (arith, l)) e all.1

-- ---- the partitions

tiled_as : (ps : List Part) → lows_of (map begun_entry ps) ≡ map (λ p. p.low) ps
tiled_as [] = refl
tiled_as (p ∷ ps) = ap (λ ls. p.low ∷ ls) (tiled_as ps)

in_time : (ps : List Part) → AllByRecursion (λ e. e.resume ≤ e.checkpoint) (map begun_entry ps)
in_time [] = tt
in_time (p ∷ ps) = (omega arith, in_time ps)

pub begun_parts : (m : Manifest) → IsLawfulManifest m → AreParts (map begun_entry m.parts)
begun_parts m h =
    let few = nat_le (length m.parts) 1024 in
    let back = and_parts (tile (map (λ p. p.low) m.parts) && few) (list_all (is_part_entry m) m.parts) h.parts in
    let front = and_parts (tile (map (λ p. p.low) m.parts)) few back.0 in
    record {
      tiled = ap tile (tiled_as m.parts) ∙ front.0;
      few = let long = leb-true (length m.parts) 1024 front.1 in omega (arith, long, length-map m.parts begun_entry);
      times = in_time m.parts;
    }

ids_none : (m : Manifest) (ids : List ℕ) → m.deltas ≡ [] → list_all (λ id. list_any (λ d. d.0 == id) m.deltas && nat_lt id m.next_id) ids ≡ true → ids ≡ []
ids_none m [] none h = refl
ids_none m (i ∷ ids) none h = absurd (false≢true (sym (ap (λ ds. list_any (λ d. d.0 == i) ds) none) ∙ (and_parts _ _ (and_parts _ _ h).0).0))

parts_bare : (m : Manifest) (ps : List Part) → m.deltas ≡ [] → list_all (is_part_entry m) ps ≡ true → ps ≡ map part_of_entry (map begun_entry ps)
parts_bare m [] none h = refl
parts_bare m (p ∷ ps) none h =
    let front = and_parts (is_part_entry m p) (list_all (is_part_entry m) ps) h in
    let ids = ids_none m p.ids none (and_parts _ (list_all (λ id. list_any (λ d. d.0 == id) m.deltas && nat_lt id m.next_id) p.ids) front.0).1 in
    ap₂ (λ is qs. record { low = p.low; resume = p.resume; ids = is } ∷ qs) ids (parts_bare m ps none front.1)

-- ---- the streams

streams_bare : (xs : List Stream) (ss : List StreamAt) → AllByRecursion (λ s. s.points ≡ []) xs → map low_of ss ≡ map (λ s. s.low) xs → xs ≡ map (λ a. record { low = a.header.range.low; points = [] }) ss
streams_bare [] [] all e = refl
streams_bare [] (a ∷ ss) all e = absurd cc
streams_bare (x ∷ xs) [] all e = absurd cc
streams_bare (x ∷ xs) (a ∷ ss) all e =
    let low : low_of a ≡ x.low = cc in
    let rest : map low_of ss ≡ map (λ s. s.low) xs = cc in
    ap₂ (λ y ys. y ∷ ys) (ap₂ (λ l ps. record { low = l; points = ps }) (sym low) all.0) (streams_bare xs ss all.1 rest)

-- ---- the manifest that was read is the replica's

pub opened_manifest : (m : Manifest) (n : Numbers) (es : List PartEntry) (ss : List StreamAt) → IsBare m → IsLawfulManifest m → m.limit ≡ n.limit → m.next_id ≡ n.next_id → map low_of ss ≡ map (λ s. s.low) m.streams → map part_of_entry es ≡ map part_of_entry (map begun_entry m.parts)
    → m ≡ bare_manifest (durable_with m.catalogue n es ss)
opened_manifest m n es ss bare h l i s p =
    let parts = parts_bare m m.parts bare.deltas (and_parts _ (list_all (is_part_entry m) m.parts) h.parts).1 ∙ sym p in
    ap₂ (λ x y. record { limit = x; minimum = y; next_id = m.next_id; catalogue = m.catalogue; streams = m.streams; parts = m.parts; deltas = m.deltas }) l bare.minimum
    ∙ ap₂ (λ x y. record { limit = n.limit; minimum = 0; next_id = x; catalogue = m.catalogue; streams = y; parts = m.parts; deltas = m.deltas }) i (streams_bare m.streams ss bare.points s)
    ∙ ap₂ (λ x y. record { limit = n.limit; minimum = 0; next_id = n.next_id; catalogue = m.catalogue; streams = map (λ a. record { low = a.header.range.low; points = [] }) ss; parts = x; deltas = y }) parts bare.deltas

-- ---- what is held

all_true : {A : Type 0} (f : A → Bool) (xs : List A) → ((x : A) → f x ≡ true) → list_all f xs ≡ true
all_true f [] h = refl
all_true f (x ∷ xs) h = ap₂ (λ a b. a && b) (h x) (all_true f xs h)

nothing_behind : {A : Type 0} (xs : List A) (a : StreamAt) → list_all (λ cs. list_all (is_behind a) cs) (map (λ x. []) xs) ≡ true
nothing_behind [] a = refl
nothing_behind (x ∷ xs) a = nothing_behind xs a

pub none_behind : (ss : List StreamAt) (parts : List Changes) (n : ℕ) → HoldsNothing n parts → IsTrue (are_behind ss (map held_in parts))
none_behind ss parts n h = subst (λ (mem : Memory). IsTrue (are_behind ss mem)) (sym h.nothing) (all_true _ ss (nothing_behind parts))

pub same_nothing : {A B C : Type 0} (xs : List A) (ys : List B) → length xs ≡ length ys → map {B = List C} (λ x. []) xs ≡ map {B = List C} (λ y. []) ys
same_nothing [] [] e = refl
same_nothing [] (y ∷ ys) e = absurd cc
same_nothing (x ∷ xs) [] e = absurd cc
same_nothing {A = A} {B = B} {C = C} (x ∷ xs) (y ∷ ys) e = ap (λ (zs : List (List C)). [] ∷ zs) (same_nothing {A = A} {B = B} {C = C} xs ys (omega (arith, e)))

-- ---- no pump was made

no_image : (o : Option (List ℕ)) (P : List ℕ → Type 0) → ((image : List ℕ) → P image) → IfSome o P
no_image None P h = tt
no_image (Some image) P h = h image

names_none : (o : Option (List ℕ)) (r : AttachRefusal) → IfSome o (λ image. NamesLaden image (opening.Attach r))
names_none o r = no_image o (λ image. NamesLaden image (opening.Attach r)) (λ image. tt)

none_hurt : (o : Option (List ℕ)) (r : AttachRefusal) → IfSome o (λ image. (f : Feed) → IsSound image f → IsHurt (opening.Attach r) → ⊥)
none_hurt o r = no_image o (λ image. (f : Feed) → IsSound image f → IsHurt (opening.Attach r) → ⊥) (λ image f sound hurt. hurt)

feed_named : (r : AttachRefusal) (told : Option Feed) (kept : Option (List (List ℕ))) (before now : ℕ) → AttachRefused told kept before now r → before < now → opening.Attach r ≡ opening.Attach attach.Feed
feed_named (attach.Mismatch n) told kept before now h more = absurd (omega (arith, h.0, more))
feed_named attach.Feed told kept before now h more = refl
feed_named attach.Memory told kept before now h more = absurd (omega (arith, h, more))

pub attach_refused : (disk disk' : DiskState) (feed feed' : FeedState) (kept : Option (List (List ℕ))) (r : AttachRefusal) → AttachRefused feed'.told kept feed.faults feed'.faults r → disk'.faults ≡ disk.faults → disk'.write_faults ≡ disk.write_faults
    → IfSome (view_start (at_start (opening.Attach r))) (on_bare_store.stops disk.told feed'.told (counts_in disk feed 0 0) (counts_in disk' feed' 0 0)) → RefusesOpening disk disk' feed feed' (opening.Attach r)
attach_refused disk disk' feed feed' kept r refused faults writes cause = record {
  cause = cause;
  sound = none_hurt disk.told r;
  laden = names_none disk.told r;
  feed_failed = feed_named r feed'.told kept feed.faults feed'.faults refused;
  disk_failed = λ more. absurd (omega (arith, faults, more));
  write_failed = λ more. absurd (omega (arith, writes, more));
  unsynced = λ e. absurd cc;
}

keeps_lows : (image : List ℕ) (l : Placing) (lows : List (List ℕ)) → IsOpened image l → lows ≡ map (λ s. s.low) l.manifest.streams → KeepsLows image lows
keeps_lows image l lows read is = (l.root, l.manifest, read.root, read.manifest, is)

pub attach_cause : (disk disk' : DiskState) (feed feed' : FeedState) (l : Placing) (lows : List (List ℕ)) (r : AttachRefusal) → IfSome disk.told (λ image. IsOpened image l) → lows ≡ map (λ s. s.low) l.manifest.streams → AttachRefused feed'.told (Some lows) feed.faults feed'.faults r
    → IfSome (view_start (at_start (opening.Attach r))) (on_bare_store.stops disk.told feed'.told (counts_in disk feed 0 0) (counts_in disk' feed' 0 0))
attach_cause disk disk' feed feed' l lows (attach.Mismatch n) read is h = inl (both disk.told feed'.told read h.1)
  where
    told : (image : List ℕ) (o : Option Feed) → IsOpened image l → IfSome o (λ f. IsMismatch f (Some lows) n) → IfSome o (λ f. (ls : List (List ℕ)) × KeepsLows image ls × IsMismatch f (Some ls) n)
    told image None read h = tt
    told image (Some f) read h = (lows, keeps_lows image l lows read is, h)

    both : (i : Option (List ℕ)) (o : Option Feed) → IfSome i (λ image. IsOpened image l) → IfSome o (λ f. IsMismatch f (Some lows) n) → IfSome i (λ image. IfSome o (λ f. (ls : List (List ℕ)) × KeepsLows image ls × IsMismatch f (Some ls) n))
    both None o read h = tt
    both (Some image) o read h = told image o read h
attach_cause disk disk' feed feed' l lows attach.Feed read is h = inl (h, there disk.told read)
  where
    there : (i : Option (List ℕ)) → IfSome i (λ image. IsOpened image l) → IfSome i (λ image. (ls : List (List ℕ)) × KeepsLows image ls)
    there None read = tt
    there (Some image) read = (lows, keeps_lows image l lows read is)
attach_cause disk disk' feed feed' l lows attach.Memory read is h = tt

-- where there are no deltas, there are no indexes
pub none_indexed : (xs : List DeltaIndex) (ds : List DeltaStored) → ds ≡ [] → length xs ≡ length ds → map view_index xs ≡ []
none_indexed [] ds none many = refl
none_indexed (x ∷ xs) ds none many = let e : suc (length xs) ≡ 0 = many ∙ ap length none in absurd (omega (arith, e))
