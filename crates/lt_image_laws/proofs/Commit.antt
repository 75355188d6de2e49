-- Good is sound, and what each image is at the moments of a commit.
use Rattle.std.proofs.Common.{List, [], ap, arith, inl, inr, length, refl, ℕ, ◌++◌, ◌∷◌, ◌≡◌, ◌+◌, ◌-◌, ◌<◌, ◌≤◌, ◌⊎◌}
use Rattle.std.specs.Prelude.{IsTrue, None, Option, Some, nat_le}
use Rattle.std.proofs.lemmas.Bool.{and_from, and_parts}
use Rattle.lt_terms.specs.declared.Extent.{Extent}
use Rattle.lt_world.specs.Disk.{StaysOutside, bytes_in}
use Rattle.lt_world.specs.Feed.{Feed}
use Rattle.lt_terms.specs.Log.{Header, Item}
use Rattle.lt_machine.specs.Machine.{Job, State}
use Rattle.lt_world.specs.Slots.{HasRoot}
use Rattle.lt_machine.specs.Outside.{HoldsEither, IsHonest, MadeStand}
use Rattle.lt_machine.specs.Sound.{IsGood, IsSound, LeavesPart, Session}
use Rattle.lt_world.specs.Extents.{are_apart, end_of}
use Rattle.lt_world.specs.Slots.{slot_place}
use Rattle.lt_storage.specs.Store.{HoldsAt, IsManifest, Manifest, Placing, are_within, extents_of, manifest_bytes, root_extent}
use Rattle.lt_codecs.proofs.ListFacts.{all_append, all_front, all_rest}
use Rattle.lt_root.specs.Steps.{HasCommitted}
use Rattle.lt_disk.proofs.Written.{bytes_length}
use Rattle.lt_image_laws.specs.Bytes.{AllRead, ReadsAs}
use Rattle.lt_image_laws.specs.Commit.{CommitLaws, IsPrepared, IsRootedOnEither, LeavesEither, broken_at, broken_by}
use Rattle.lt_image_laws.specs.Standing.{IsRooted, live_of, placed_at}
use Rattle.lt_image_laws.proofs.Bytes.{bytes_stay, placed_stay}
use Rattle.lt_image_laws.proofs.Standing.{behind_slots, beside_slots, held, held_by, honest_stays, within_parts}

pub sound : (f : Feed) (s : State) (fs : List (Header × List Item)) (l : Placing) (image : List ℕ) → IsGood f s fs → HoldsAt image s.durable l → IsTrue (are_within image (extents_of l)) → IsSound image f
sound f s fs l image good holds within = record { durable = s.durable; placing = l; holds = holds; within = within; fronts = fs; are_fronts = good.fronts; sound = good.sound }

pub stands : (f : Feed) (s : State) (l : Placing) (made : List Extent) (image : List ℕ) → IsPrepared f s l made image → HasRoot l.root image → IsRooted f s l made image
stands f s l made image p root =
    let holds = held_by image s.durable l root.0 p.placed p.apart in
    record {
      root = root;
      honest = record { part = inl (l, holds); sound = sound f s p.fronts l image p.good holds (within_parts image (extents_of l) made p.within); placed = p.placed; failed = tt; job = p.job; within = p.within };
    }

-- what is behind the slots reads as before where a slot was written
read_behind : (l : Placing) (most : ℕ) (made : List Extent) (slot : ℕ) (a b : List ℕ) → slot < 2 → IsTrue (are_apart l.manifest.limit (extents_of l)) → IsTrue (are_apart most made) → IsTrue (are_within a (live_of l made)) → StaysOutside (slot_place slot) 512 a b
    → AllRead a b (live_of l made)
read_behind l most made slot a b low apart made_apart within stays =
    let behind = all_append (λ e. 1024 ≤ e.place) (extents_of l) made (behind_slots l.manifest.limit (extents_of l) apart) (behind_slots most made made_apart) in
    let ends : slot_place slot + 512 ≤ 1024 = omega (arith, low) in
    bytes_stay.all a b (slot_place slot) 512 (live_of l made) stays (beside_slots (slot_place slot) 512 (live_of l made) ends behind) within

prepared_again : (f : Feed) (s : State) (l : Placing) (made : List Extent) (seen image : List ℕ) → IsPrepared f s l made seen → AllRead seen image (live_of l made) → length seen ≤ length image → IsPrepared f s l made image
prepared_again f s l made seen image p same long = record {
  fronts = p.fronts;
  good = p.good;
  placed = placed_stay.placed s.durable l seen image p.placed (all_front (ReadsAs seen image) (extents_of l) made same);
  apart = p.apart;
  within = bytes_stay.all_within seen image (live_of l made) long p.within;
  job = placed_stay.made s.job s made seen image p.job (all_rest (ReadsAs seen image) (extents_of l) made same);
  made_apart = p.made_apart;
}

committed : (f : Feed) (s : State) (l : Placing) (made : List Extent) (seen image : List ℕ) → IsPrepared f s l made seen → StaysOutside (slot_place l.root.slot) 512 seen image → HasRoot l.root image → IsRooted f s l made image
committed f s l made seen image p stays root =
    stands f s l made image (prepared_again f s l made seen image p (read_behind l s.durable.limit made l.root.slot seen image root.0.which p.apart p.made_apart p.within stays) stays.longer) root

either : (f : Feed) (s s' : State) (l l' : Placing) (made made' : List Extent) (seen a image : List ℕ) → IsPrepared f s' l' made' seen → IsTrue (are_apart s.durable.limit made) → IsRooted f s l made a
    → StaysOutside (slot_place (1 - l.root.slot)) 512 a image → HasRoot l.root image ⊎ HasCommitted l'.root seen image → IsRootedOnEither f s l made s' l' made' image
either f s s' l l' made made' seen a image p apart on stays (inl former) = inl (honest_stays.in_slot f s l made a image on apart stays former)
either f s s' l l' made made' seen a image p apart on stays (inr now) = inr (committed f s' l' made' seen image p now.1 now.0)

held_part : (s : State) (l : Placing) (made : List Extent) (image : List ℕ) → HoldsEither (placed_at s l made) image → LeavesPart s image
held_part s l made image (inl h) = inl h
held_part s l made image (inr h) = let z : None ≡ Some h.1 = h.3 in absurd cc

leaves_either : (f : Feed) (x y : Session) (l l' : Placing) (made made' : List Extent) (image : List ℕ) → IsRootedOnEither f x.state l made y.state l' made' image → LeavesEither f x y image
leaves_either f x y l l' made made' image (inl on) = inl (on.honest.sound, held_part x.state l made image on.honest.part)
leaves_either f x y l l' made made' image (inr on) = inr (on.honest.sound, held_part y.state l' made' image on.honest.part)

-- a broken session's job is the same
pub job_as : (s s' : State) (made : List Extent) (image : List ℕ) → MadeStand s.job s made image → MadeStand s.job (broken_by s' s) made image
job_as s s' made image h = by s.job h
  where
    by : (j : Option Job) → MadeStand j s made image → MadeStand j (broken_by s' s) made image
    by None h = h
    by (Some j) h = h

broken_before : (f : Feed) (s s' : State) (l : Placing) (made : List Extent) (a image : List ℕ) → IsTrue (are_apart s.durable.limit made) → IsRooted f s l made a → StaysOutside (slot_place (1 - l.root.slot)) 512 a image → HasRoot l.root image
    → IsHonest f (placed_at (broken_by s' s) l made) image
broken_before f s s' l made a image apart on stays root =
    let again = honest_stays.in_slot f s l made a image on apart stays root in
    record { part = inl (l, held f s l made image again); sound = again.honest.sound; placed = again.honest.placed; failed = tt; job = job_as s s' made image again.honest.job; within = again.honest.within }

within_of : (image : List ℕ) (xs ys zs ws : List Extent) → IsTrue (are_within image (xs ++ zs)) → IsTrue (are_within image (ys ++ ws)) → IsTrue (are_within image (xs ++ (ys ++ zs)))
within_of image [] [] zs ws h k = h
within_of image [] (y ∷ ys) zs ws h k = let q = and_parts (nat_le (end_of y) (length image)) (are_within image (ys ++ ws)) k in and_from _ _ q.0 (within_of image [] ys zs ws h q.1)
within_of image (x ∷ xs) ys zs ws h k = let p = and_parts (nat_le (end_of x) (length image)) (are_within image (xs ++ zs)) h in and_from _ _ p.0 (within_of image xs ys zs ws p.1 k)

broken_after : (f : Feed) (s s' : State) (l l' : Placing) (made made' : List Extent) (seen a image : List ℕ) → IsPrepared f s' l' made' seen → IsTrue (are_apart s.durable.limit made) → IsRooted f s l made a → l'.root.slot ≡ 1 - l.root.slot
    → StaysOutside (slot_place (1 - l.root.slot)) 512 a image → StaysOutside (slot_place (1 - l.root.slot)) 512 seen image → HasRoot l.root image ⊎ HasRoot l'.root image → IsHonest f (broken_at s' s l l' made) image
broken_after f s s' l l' made made' seen a image p apart on slot stays outside counts =
    let low : 1 - l.root.slot < 2 = omega arith in
    let same = read_behind l s.durable.limit made (1 - l.root.slot) a image low (held f s l made a on).extents apart on.honest.within stays in
    let next = prepared_again f s' l' made' seen image p (read_behind l' s'.durable.limit made' (1 - l.root.slot) seen image low p.apart p.made_apart p.within outside) outside.longer in
    let own = bytes_stay.all_within a image (live_of l made) stays.longer on.honest.within in
    let stood : HasRoot l.root image ⊎ HasRoot l'.root image → HoldsEither (broken_at s' s l l' made) image × IsSound image f
    = λ c. elim c [
      | inl root ↦ (let again = honest_stays.in_slot f s l made a image on apart stays root in (inl (l, held f s l made image again), again.honest.sound))
      | inr root ↦ (let after = stands f s' l' made' image next root in (inr (s'.durable, l', refl, refl, held f s' l' made' image after), after.honest.sound))
    ] in
    record {
      part = (stood counts).0;
      sound = (stood counts).1;
      placed = placed_stay.placed s.durable l a image on.honest.placed (all_front (ReadsAs a image) (extents_of l) made same);
      failed = next.placed;
      job = job_as s s' made image (placed_stay.made s.job s made a image on.honest.job (all_rest (ReadsAs a image) (extents_of l) made same));
      within = within_of image (extents_of l) (extents_of l') made made' own next.within;
    }

-- a manifest has bytes
pub manifest_filled : (m : Manifest) → 0 < length (manifest_bytes m)
unfolding manifest_bytes
manifest_filled m = omega arith

filled : (image : List ℕ) (e : Extent) (m : Manifest) → IsManifest m (bytes_in image e) → 0 < e.length
unfolding manifest_bytes
filled image e m is = omega (arith, bytes_length image e.place e.length, ap length is.spells)

may_stand : (f : Feed) (s : State) (l : Placing) (made : List Extent) (seen : List ℕ) → IsPrepared f s l made seen → (1024 ≤ l.root.place) × (0 < l.root.length)
may_stand f s l made seen p = ((behind_slots l.manifest.limit (extents_of l) p.apart).0, filled seen (root_extent l.root) l.manifest p.placed.manifest)

pub commit_laws : CommitLaws
commit_laws = record { sound = sound; may_stand = may_stand; stands = stands; committed = committed; either = either; leaves_either = leaves_either; broken_before = broken_before; broken_after = broken_after }
