-- What an opening reads is where the part stands that the image holds.
use Rattle.std.proofs.Common.{List, [], ap, arith, inl, length, leb-true, refl, subst, sym, true, ℕ, ◌++◌, ◌∷◌, ◌≡◌, ◌≤◌, append-nil}
use Rattle.std.specs.Prelude.{IsTrue, Some, is_some, map, nat_le, nat_lt, ◌^◌}
use Rattle.std.proofs.lemmas.Bool.{and_from, and_parts}
use Rattle.lt_terms.specs.declared.Extent.{Extent}
use Rattle.lt_world.specs.Feed.{AreShort, Feed}
use Rattle.lt_terms.specs.Log.{Header, Item}
use Rattle.lt_machine.specs.Machine.{opened}
use Rattle.lt_machine.specs.Program.{IsOpened, ReadsAll}
use Rattle.lt_tables.specs.Pump.{Attaches}
use Rattle.lt_machine.specs.Run.{is_known_index}
use Rattle.lt_tables.specs.Schema.{Catalogue}
use Rattle.lt_machine.specs.Sound.{IsGood, IsSound}
use Rattle.lt_world.specs.Extents.{end_of}
use Rattle.lt_storage.specs.Store.{Delta, Durable, HasDeltas, HasTables, HoldsAt, Placing, TableDelta, TableIndex, are_within, extents_of, root_extent}
use Rattle.lt_laws.proofs.LawfulImages.{holds_lawful}
use Rattle.lt_laws.proofs.SoundLaws.{opening_is_good}
use Rattle.lt_image_laws.specs.Opening.{OpenedIsHeld, OpensOn, SoundlyHolds}
use Rattle.lt_image_laws.proofs.Headers.{attached}
use Rattle.lt_image_laws.proofs.OnePlacing.{one_placing, read_held, read_opened}

one : (image : List ℕ) (l k : Placing) → IsOpened image l → IsOpened image k → l ≡ k
one image l k h i = one_placing image l k (read_opened image l h) (read_opened image k i)

pub known : (image : List ℕ) (cat : Catalogue) (is : List TableIndex) (ds : List TableDelta) → HasTables image cat is ds → is_known_index cat is ≡ true
known image cat [] [] h = refl
known image cat (i ∷ is) (d ∷ ds) h = and_from _ _ (and_from _ _ (ap is_some h.1) h.4) (known image cat is ds h.6)
known image cat [] (d ∷ ds) h = absurd h
known image cat (i ∷ is) [] h = absurd h

reads_all : (image : List ℕ) (cat : Catalogue) (ms : List (ℕ × Extent)) (is : List (List TableIndex)) (ds : List Delta) → HasDeltas image cat ms is ds → ReadsAll image cat ms is
reads_all image cat [] [] [] h = tt
reads_all image cat (m ∷ ms) (i ∷ is) (d ∷ ds) h = (h.1, known image cat i d.tables h.2, reads_all image cat ms is ds h.3)
reads_all image cat ms is ds h = absurd h

pub reads : (image : List ℕ) (d : Durable) (l : Placing) → HoldsAt image d l → IsOpened image l
reads image d l h = record { root = h.root; manifest = h.manifest; indexes = reads_all image l.manifest.catalogue l.manifest.deltas l.indexes d.shelf h.deltas; extents = h.extents }

pub same_placing : (image : List ℕ) (d : Durable) (k l : Placing) → HoldsAt image d k → IsOpened image l → k ≡ l
same_placing image d k l h o = one_placing image k l (read_held image d k h) (read_opened image l o)

held : (image : List ℕ) (d : Durable) (k l : Placing) → HoldsAt image d k → IsOpened image l → HoldsAt image d l
held image d k l h o = subst (HoldsAt image d) (same_placing image d k l h o) h

pub sound : (f : Feed) (image : List ℕ) (l : Placing) → IsSound image f → IsOpened image l → (d : Durable) × (fs : List (Header × List Item)) × SoundlyHolds f image d l fs
sound f image l i o =
    let same = same_placing image i.durable i.placing l i.holds o in
    (i.durable, i.fronts, record { holds = held image i.durable i.placing l i.holds o; within = subst (λ (k : Placing). IsTrue (are_within image (extents_of k))) same i.within; fronts = i.are_fronts; sound = i.sound })

-- an image that holds something within itself has both slots
slots_within : (image : List ℕ) (d : Durable) (l : Placing) → HoldsAt image d l → IsTrue (are_within image (extents_of l)) → 1024 ≤ length image
slots_within image d l h within =
    let a = and_parts _ (nat_lt l.root.length (2 ^ 64)) h.root.is_slot.lawful in
    let b = and_parts _ (nat_lt 0 l.root.length) a.0 in
    let c = and_parts _ (nat_lt l.root.place (2 ^ 64)) b.0 in
    let low : 1024 ≤ l.root.place = leb-true 1024 l.root.place (and_parts _ (nat_le 1024 l.root.place) c.0).1 in
    let end : end_of (root_extent l.root) ≤ length image = leb-true (end_of (root_extent l.root)) (length image) (and_parts (nat_le (end_of (root_extent l.root)) (length image)) _ within).0 in
    omega (arith, low, end)

within_none : (image : List ℕ) (es : List Extent) → IsTrue (are_within image es) → IsTrue (are_within image (es ++ []))
within_none image es h = subst (λ (xs : List Extent). IsTrue (are_within image xs)) (sym (append-nil es)) h

pub opens : (f : Feed) (image : List ℕ) (l : Placing) (hs : List Header) → AreShort f → IsSound image f → IsOpened image l → Attaches f (Some (map (λ s. s.low) l.manifest.streams)) hs → OpensOn f image l hs
opens f image l hs short i o a =
    let found = sound f image l i o in
    let d = found.0 in
    let fs = found.1 in
    let h = found.2 in
    let heads : hs ≡ map (λ x. x.0) fs = attached f d.catalogue fs d.streams h.fronts h.sound.points (Some (map (λ s. s.low) l.manifest.streams)) hs a in
    let good = opening_is_good f fs d short (holds_lawful image d (l, h.holds)) h.fronts h.sound in
    record {
      durable = d;
      fronts = fs;
      holds = h.holds;
      good = subst (λ (xs : List Header). IsGood f (opened d xs) fs) (sym heads) good;
      stands = record {
        root = (h.holds.root, slots_within image d l h.holds h.within);
        honest = record {
          part = inl (l, h.holds);
          sound = i;
          placed = record { manifest = h.holds.manifest; deltas = h.holds.deltas; durable = h.holds.durable };
          failed = tt;
          job = refl;
          within = within_none image (extents_of l) h.within;
        };
      };
    }

pub opened_is_held : OpenedIsHeld
opened_is_held = record { one = one; reads = reads; held = held; sound = sound; opens = opens }
