-- A session that begins on a bare store: each stream stands behind its header, and memory is empty.
use Rattle.std.proofs.lemmas.Bool.{cases_eq, false≢true}
use Rattle.std.proofs.Common.{List, [], ap, ap₂, arith, inl, inr, refl, subst, sym, ℕ, ◌<◌, ◌∙◌, ◌∷◌, ◌≡◌}
use Rattle.std.specs.Prelude.{IfSome, IsSome, IsTrue, None, Option, Some, is_some, map, zip, ◌⊎◌}
use Rattle.lt_world.specs.Disk.{DiskState, LeavesNow, Only}
use Rattle.lt_world.specs.Feed.{AreShort, Feed, FeedState}
use Rattle.lt_world.specs.Slots.{HasNoStore, is_open}
use Rattle.lt_terms.specs.Log.{Header}
use Rattle.lt_tables.specs.Pump.{Attaches, Part, StreamAt, behind_header, name_of}
use Rattle.lt_terms.specs.declared.Root.{Root}
use Rattle.lt_storage.specs.Store.{Delta, Durable, HasDeltas, HoldsAt, Placing, Stream, durable_of}
use Rattle.lt_tables.specs.Schema.{Catalogue}
use Rattle.lt_image_laws.proofs.Opening.{opened_is_held, same_placing}
use Rattle.lt_image_laws.specs.Standing.{IsRooted}
use Rattle.lt_image_laws.proofs.Standing.{honest_stays}
use Rattle.lt_image_laws.specs.Opening.{OpensOn}
use Rattle.lt_image_laws.specs.Shelf.{placing_for}
use Rattle.lt_machine.specs.Machine.{State, opened, start_of}
use Rattle.lt_machine.specs.OverStore.{BeginsFrom, on_store}
use Rattle.lt_machine.specs.Outside.{IsKept, MemoryAbove, StandsOn, counts_in}
use Rattle.lt_machine.specs.Program.{IsOpened}
use Rattle.lt_machine.specs.Run.{start_disk}
use Rattle.lt_machine.specs.Sound.{IsSound, Memory, Session}
use Rattle.lt_machine.specs.Step.{NotStarted, Serves, Started}
use Rattle.lt_pump.specs.Pumps.{streams_of}
use Rattle.lt_store.specs.Standing.{StandsAt}
use Rattle.lt_store.specs.declared.refusal.OpenRefusal.TheVariants as store
use Rattle.lt_steps.proofs.AboveLaws.{memory_is_above}
use Rattle.lt_steps.proofs.StoreServes.{opened_at, opened_serves}
use Rattle.lt_steps.proofs.ReopenedMemory.{memory_reopens}
use Rattle.lt_steps.specs.Kept.{kept_lows, nothing_held}
use Rattle.lt_replica.specs.BareStore.{on_bare_store}
use Rattle.lt_replica.specs.Opening.{Opens, RefusesOpening, at_start}
use Rattle.lt_replica.specs.State.{IsFed, StandsFor, memory_of, state_of, view_start}
use Rattle.lt_replica.specs.declared.refusal.OpeningRefusal.{OpeningRefusal}
use Rattle.lt_replica.specs.declared.refusal.OpeningRefusal.TheVariants as opening
use Rattle.lt_replica.specs.declared.replica.Replica.{Replica}
use Rattle.lt_replica.proofs.StepLaws.{serves_bare}

-- ---- the state that it begins in

abbrev pub low_entry : StreamAt → Stream
low_entry a = record { low = a.header.range.low; points = [] }

opened_behind : (ps : List Part) (hs : List Header) → map (λ (x : Header × Stream). start_of ps x.0 x.1.points) (zip hs (map low_entry (map behind_header hs))) ≡ map behind_header hs
opened_behind ps [] = refl
opened_behind ps (h ∷ hs) = ap (λ (ss : List StreamAt). behind_header h ∷ ss) (opened_behind ps hs)

-- what is pending is nothing where nothing is held
none_pending : {A B C : Type 0} (ps : List A) (f : List B → List C) → f [] ≡ [] → map f (map (λ p. []) ps) ≡ map (λ p. []) ps
none_pending [] f e = refl
none_pending (p ∷ ps) f e = ap₂ (λ x xs. x ∷ xs) e (none_pending ps f e)

begins_with : (d : Durable) (ss : List StreamAt) (names : List (List (List ℕ × ℕ))) (hs : List Header) → ss ≡ map behind_header hs → d.streams ≡ map low_entry ss → names ≡ map (λ p. []) d.parts
    → record { durable = d; streams = ss; pending = names; job = None; broken = None } ≡ opened d hs
begins_with d ss names hs s l n =
    ap₂ (λ (xs : List StreamAt) (ns : List (List (List ℕ × ℕ))). record { durable = d; streams = xs; pending = ns; job = None; broken = None })
    (s ∙ sym (opened_behind d.parts hs) ∙ ap (λ (es : List Stream). map (λ (x : Header × Stream). start_of d.parts x.0 x.1.points) (zip hs es)) (sym (l ∙ ap (map low_entry) s))) n

begun_state : (r : Replica) (hs : List Header) → streams_of r.pump ≡ map behind_header hs → memory_of r ≡ nothing_held (state_of r).durable → state_of r ≡ opened (state_of r).durable hs
begun_state r hs s empty = begins_with (state_of r).durable (streams_of r.pump) (map (map name_of) (memory_of r)) hs s refl (ap (map (map name_of)) empty ∙ none_pending (state_of r).durable.parts (map name_of) refl)

-- ---- the session that it begins as

abbrev session : Replica → Placing → Session
session r l = record { state = state_of r; memory = memory_of r; placing = l; failed = None; made = []; cached = [] }

-- it is that of an opening on the replica's durable part
is_opened : (r : Replica) (l : Placing) (hs : List Header) → streams_of r.pump ≡ map behind_header hs → memory_of r ≡ nothing_held (state_of r).durable → session r l ≡ opened_at (state_of r).durable hs (nothing_held (state_of r).durable) l
is_opened r l hs s empty = ap₂ (λ (t : State) (mem : Memory). record { state = t; memory = mem; placing = l; failed = None; made = []; cached = [] }) (begun_state r hs s empty) empty

stands_for : (disk disk' : DiskState) (feed feed' : FeedState) (r : Replica) → (o : Opens disk disk' feed feed' r) → StandsFor r (session r o.placing)
stands_for disk disk' feed feed' r o = record {
  memory = refl;
  broken = None;
  is_in = sym o.whole;
  bare = tt;
  state = refl;
  placing = o.placed;
  besides = [];
  at = o.at;
  whole = λ whole. (refl, refl);
  made = refl;
  cached = refl;
}

-- the placing says what the durable part is
durable_is : (r : Replica) (l : Placing) → StandsAt r.store l [] → l ≡ placing_for l.root (state_of r).durable [] → (state_of r).durable ≡ durable_of l []
durable_is r l at placed =
    let d = (state_of r).durable in
    subst (λ (k : Placing). d ≡ durable_of k []) (sym placed) (ap (λ (n : ℕ). record d { generation = n }) (sym (ap (λ (t : Root). t.generation) at.root)))

no_deltas : (image : List ℕ) (cat : Catalogue) (ds : List Delta) → HasDeltas image cat [] [] ds → ds ≡ []
no_deltas image cat [] h = refl
no_deltas image cat (d ∷ ds) h = absurd h

-- where the image has a durable part, it is this one
whole_part : (r : Replica) (l : Placing) (image : List ℕ) → StandsAt r.store l [] → l ≡ placing_for l.root (state_of r).durable [] → IsOpened image l → (d : Durable) (k : Placing) → HoldsAt image d k → ((state_of r).durable ≡ d) × (l ≡ k)
whole_part r l image at placed read d k holds =
    let same = sym (same_placing image d k l holds read) in
    let here : HoldsAt image d l = subst (HoldsAt image d) (sym same) holds in
    let deltas : HasDeltas image l.manifest.catalogue [] [] d.shelf = subst (λ (p : Placing). HasDeltas image l.manifest.catalogue p.manifest.deltas p.indexes d.shelf) placed here.deltas in
    let bare = no_deltas image l.manifest.catalogue d.shelf deltas in
    (durable_is r l at placed ∙ ap (durable_of l) (sym bare) ∙ sym here.durable, same)

begins_from : (disk disk' : DiskState) (feed feed' : FeedState) (r : Replica) → (o : Opens disk disk' feed feed' r) → (image : List ℕ) → IsOpened image o.placing → BeginsFrom image feed'.told (session r o.placing)
begins_from disk disk' feed feed' r o image read = record {
  read = read;
  durable = durable_is r o.placing o.at o.placed;
  whole = whole_part r o.placing image o.at o.placed read;
  headers = o.headers;
  attaches = o.attaches;
  state = begun_state r o.headers o.streams o.empty;
  memory = o.empty;
  failed = refl;
  made = refl;
  cached = refl;
}

-- ---- it serves a feed for which the store is sound

-- a root counts, so there is a store
open_slot : (image : List ℕ) (slot : ℕ) → slot < 2 → IsTrue (is_open image slot) → HasNoStore image → ⊥
open_slot image slot low gate none = elim (cases_eq slot 0) [
  | inl first ↦ false≢true (sym none.0 ∙ subst (λ (n : ℕ). IsTrue (is_open image n)) first gate)
  | inr other ↦ false≢true (sym none.1 ∙ subst (λ (n : ℕ). IsTrue (is_open image n)) (let e : slot ≡ 1 = omega (arith, low, other) in e) gate)
]

a_store : (image : List ℕ) (l : Placing) → IsOpened image l → HasNoStore image → ⊥
a_store image l read none = open_slot image l.root.slot read.root.which read.root.is_slot.open_now none

is_sound : (disk : DiskState) (f : Feed) (image : List ℕ) (l : Placing) → disk.leaves image → IsOpened image l → LeavesNow disk (λ i. HasNoStore i ⊎ IsSound i f) → IsSound image f
is_sound disk f image l here read sound = by (sound image here)
  where
    by : HasNoStore image ⊎ IsSound image f → IsSound image f
    by (inl none) = absurd (a_store image l read none)
    by (inr h) = h

opened_rooted : (f : Feed) (image : List ℕ) (r : Replica) (l : Placing) (hs : List Header) → StandsAt r.store l [] → l ≡ placing_for l.root (state_of r).durable [] → IsOpened image l → OpensOn f image l hs
    → (HoldsAt image (state_of r).durable l) × IsRooted f (opened (state_of r).durable hs) l [] image
opened_rooted f image r l hs at placed read o =
    let same = sym (whole_part r l image at placed read o.durable l o.holds).0 in
    (subst (λ (d : Durable). HoldsAt image d l) same o.holds, subst (λ (d : Durable). IsRooted f (opened d hs) l [] image) same o.stands)

pub serves_image : (disk disk' : DiskState) (feed feed' : FeedState) (r : Replica) → (o : Opens disk disk' feed feed' r) → (f : Feed) (image : List ℕ) → feed'.told ≡ Some f → AreShort f → disk'.told ≡ Some image → IsSound image f → IsOpened image o.placing
    → Serves on_bare_store disk' f (session r o.placing)
serves_image disk disk' feed feed' r o f image tells short told sound read =
    let d = (state_of r).durable in
    let hs = o.headers in
    let fits : Attaches f (Some (kept_lows d)) hs = subst (λ (t : Option Feed). IfSome t (λ g. Attaches g (Some (kept_lows d)) hs)) tells o.attaches in
    let lows : Attaches f (Some (map (λ s. s.low) o.placing.manifest.streams)) hs = subst (λ (l : Placing). Attaches f (Some (map (λ s. s.low) l.manifest.streams)) hs) (sym o.placed) fits in
    let rooted = opened_rooted f image r o.placing hs o.at o.placed read (opened_is_held.opens f image o.placing hs short sound read lows) in
    let x = opened_at d hs (nothing_held d) o.placing in
    let belongs = memory_reopens.finds f image d hs short sound (o.placing, rooted.0) fits in
    let stands = honest_stays.stands f x image refl rooted.1 in
    let only : Only image disk'.leaves = subst (λ (t : Option (List ℕ)). IfSome t (λ i. Only i disk'.leaves)) told o.stable in
    let serves = opened_serves disk' f d hs (nothing_held d) o.placing belongs (ap is_some told) (λ i left. subst (StandsOn f x) (sym (only i left)) stands) in
    serves_bare disk' f (session r o.placing) (subst (Serves on_store disk' f) (sym (is_opened r o.placing hs o.streams o.empty)) serves)

-- ---- a replica that began, and why none did

serves_told : (disk disk' : DiskState) (feed feed' : FeedState) (r : Replica) → (o : Opens disk disk' feed feed' r) → IfSome disk.told disk.leaves → disk'.told ≡ disk.told → (told : Option Feed) → feed'.told ≡ told → IfSome told AreShort
    → IfSome told (λ f. on_bare_store.sound disk f → Serves on_bare_store disk' f (session r o.placing))
serves_told disk disk' feed feed' r o here same None tells short = tt
serves_told disk disk' feed feed' r o here same (Some f) tells short = λ sound. by disk.told refl o.read here sound.0 sound.1
  where
    by : (t : Option (List ℕ)) → disk.told ≡ t → IfSome t (λ image. IsOpened image o.placing) → IfSome t disk.leaves → IsSome t → LeavesNow disk (λ i. HasNoStore i ⊎ IsSound i f) → Serves on_bare_store disk' f (session r o.placing)
    by None e read here some sound = absurd (false≢true some)
    by (Some image) e read here some sound = serves_image disk disk' feed feed' r o f image tells short (same ∙ e) (is_sound disk f image o.placing here read sound) read

begins_told : (disk disk' : DiskState) (feed feed' : FeedState) (r : Replica) → (o : Opens disk disk' feed feed' r) → (told : Option (List ℕ)) → IfSome told (λ image. IsOpened image o.placing) → IfSome told (λ i. BeginsFrom i feed'.told (session r o.placing))
begins_told disk disk' feed feed' r o None read = tt
begins_told disk disk' feed feed' r o (Some image) read = begins_from disk disk' feed feed' r o image read

kept : (r : Replica) (l : Placing) (hs : List Header) → streams_of r.pump ≡ map behind_header hs → memory_of r ≡ nothing_held (state_of r).durable → IsKept (session r l)
kept r l hs s empty = record {
  names = refl;
  above = subst (λ (t : State). MemoryAbove t (memory_of r)) (sym (begun_state r hs s empty)) (subst (MemoryAbove (opened (state_of r).durable hs)) (sym empty) (memory_is_above.opens (state_of r).durable hs));
  job = tt;
}

pub started : (disk disk' : DiskState) (feed feed' : FeedState) (r : Replica) → (o : Opens disk disk' feed feed' r) → IfSome disk.told disk.leaves → disk'.told ≡ disk.told → IfSome feed'.told AreShort → Started on_bare_store disk disk' feed feed' (session r o.placing)
started disk disk' feed feed' r o here same short = record {
  opens = subst (λ (t : Option (List ℕ)). IfSome t (λ i. BeginsFrom i feed'.told (session r o.placing))) (sym same) (begins_told disk disk' feed feed' r o disk.told o.read);
  kept = kept r o.placing o.headers o.streams o.empty;
  serves = serves_told disk disk' feed feed' r o here same feed'.told refl short;
  unfailed = o.unfailed;
}

-- a replica began
pub has_started : (disk disk' : DiskState) (feed feed' : FeedState) (r : Replica) → Opens disk disk' feed feed' r → IfSome disk.told disk.leaves → disk'.told ≡ disk.told → IfSome feed'.told AreShort
    → (x : Session) × StandsFor r x × IsFed r feed' × Started on_bare_store disk disk' feed feed' x
has_started disk disk' feed feed' r o here same short = (session r o.placing, stands_for disk disk' feed feed' r o, o.fed, started disk disk' feed feed' r o here same short)

-- none began, by its cause
pub not_started : (disk disk' : DiskState) (feed feed' : FeedState) (e : OpeningRefusal) → RefusesOpening disk disk' feed feed' e → disk'.told ≡ disk.told → NotStarted on_bare_store disk disk' feed feed' (view_start (at_start e))
not_started disk disk' feed feed' e h same = record {
  cause = subst (λ (t : Option (List ℕ)). IfSome (view_start (at_start e)) (on_bare_store.stops t feed'.told (counts_in disk feed 0 0) (counts_in disk' feed' 0 0))) (sym same) h.cause;
  feed_failed = λ less. ap (λ (x : OpeningRefusal). view_start (at_start x)) (h.feed_failed less);
  disk_failed = λ less. by (h.disk_failed less);
}
  where
    by : (e ≡ opening.Store store.Unsynced) ⊎ (e ≡ opening.Store store.Unread) → view_start (at_start e) ≡ Some start_disk
    by (inl is) = ap (λ (x : OpeningRefusal). view_start (at_start x)) is
    by (inr is) = ap (λ (x : OpeningRefusal). view_start (at_start x)) is
