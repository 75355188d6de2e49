-- Honest stays: a session's root, its part, its soundness and its job's bundles stay where no live byte changes.
use Rattle.std.proofs.Common.{List, [], ap, arith, false, inl, inr, leb-true, length, refl, subst, sym, ℕ, ◌++◌, ◌+◌, ◌-◌, ◌∙◌, ◌∷◌, ◌≡◌, ◌≤◌}
use Rattle.std.specs.Prelude.{Contains, IfSome, IsSome, IsTrue, None, Option, Some, is_some, nat_le, ◌&&◌}
use Rattle.std.specs.Option.{option_map_or}
use Rattle.std.specs.List.{AllByRecursion, list_all}
use Rattle.std.proofs.lemmas.Bool.{and_from, and_parts, false≢true, le-leb, or_left}
use Rattle.lt_terms.specs.declared.Extent.{Extent}
use Rattle.lt_world.specs.Disk.{StaysOutside}
use Rattle.lt_world.specs.Feed.{Feed}
use Rattle.lt_machine.specs.Machine.{State, is_broken}
use Rattle.lt_world.specs.Slots.{HasRoot}
use Rattle.lt_machine.specs.Outside.{HoldsEither, StandsOn}
use Rattle.lt_machine.specs.Sound.{IsSound, Session}
use Rattle.lt_world.specs.Slots.{CountsAsRoot, slot_place}
use Rattle.lt_world.specs.Extents.{apart, are_apart, end_of, is_gap}
use Rattle.lt_storage.specs.Store.{Durable, HasPlaced, HoldsAt, Placing, are_within, extents_of}
use Rattle.lt_codecs.proofs.ListFacts.{all_append, all_front, all_rest}
use Rattle.lt_lemmas.proofs.ListFacts.{all_from}
use Rattle.lt_laws.proofs.ListFacts.{all_at}
use Rattle.lt_laws.proofs.NewDelta.{tests_hold}
use Rattle.lt_laws.proofs.OneImage.{holds_one}
use Rattle.lt_laws.proofs.ReadLaws.{all_tests}
use Rattle.lt_root.proofs.SlotLaws.{counts_same}
use Rattle.lt_image_laws.specs.Bytes.{AllRead, IsBeside, ReadsAs, extent_at}
use Rattle.lt_image_laws.specs.Standing.{HonestStays, IsRooted, live_of, placed_at}
use Rattle.lt_image_laws.proofs.Bytes.{bytes_stay, placed_stay, same_outside}
use Rattle.lt_image_laws.proofs.OnePlacing.{one_placing, read_held, read_placed}

-- ---- a root that counts, and what is placed behind it

-- where it is known that the extents are apart
pub held_by : (image : List ℕ) (d : Durable) (l : Placing) → CountsAsRoot image l.root → HasPlaced d l image → IsTrue (are_apart l.manifest.limit (extents_of l)) → HoldsAt image d l
held_by image d l root placed apart = record { root = root; manifest = placed.manifest; deltas = placed.deltas; extents = apart; durable = placed.durable }

-- a sound image holds at one placing
pub sound_at : (f : Feed) (image : List ℕ) (d : Durable) (l : Placing) → (i : IsSound image f) → CountsAsRoot image l.root → HasPlaced d l image → i.placing ≡ l
sound_at f image d l i root placed = one_placing image i.placing l (read_held image i.durable i.placing i.holds) (read_placed image d l root placed)

pub held : (f : Feed) (s : State) (l : Placing) (made : List Extent) (image : List ℕ) → IsRooted f s l made image → HoldsAt image s.durable l
held f s l made image h =
    let same = sound_at f image s.durable l h.honest.sound h.root.0 h.honest.placed in
    held_by image s.durable l h.root.0 h.honest.placed (subst (λ (k : Placing). IsTrue (are_apart k.manifest.limit (extents_of k))) same h.honest.sound.holds.extents)

-- a sound image's durable part is the one that it holds, at its placing
pub record IsSoundAt (f : Feed) (image : List ℕ) (d : Durable) (l : Placing) : Type 0 where
  pub sound : IsSound image f
  pub durable : sound.durable ≡ d
  pub placing : sound.placing ≡ l

pub sound_held : (f : Feed) (image : List ℕ) (d : Durable) (l : Placing) → IsSound image f → HoldsAt image d l → IsSoundAt f image d l
sound_held f image d l i h = record {
  sound = i;
  durable = holds_one image i.durable d (i.placing, i.holds) (l, h);
  placing = one_placing image i.placing l (read_held image i.durable i.placing i.holds) (read_held image d l h);
}

-- another image that holds the same part at the same placing is sound too
pub sound_again : (f : Feed) (a b : List ℕ) (d : Durable) (l : Placing) → IsSoundAt f a d l → HoldsAt b d l → IsTrue (are_within b (extents_of l)) → IsSound b f
sound_again f a b d l i h within = record {
  durable = i.sound.durable;
  placing = i.sound.placing;
  holds = subst (λ (k : Placing). HoldsAt b i.sound.durable k) (sym i.placing) (subst (λ (e : Durable). HoldsAt b e l) (sym i.durable) h);
  within = subst (λ (k : Placing). IsTrue (are_within b (extents_of k))) (sym i.placing) within;
  fronts = i.sound.fronts;
  are_fronts = i.sound.are_fronts;
  sound = i.sound.sound;
}

pub within_parts : (image : List ℕ) (xs ys : List Extent) → IsTrue (are_within image (xs ++ ys)) → IsTrue (are_within image xs)
within_parts image [] ys h = refl
within_parts image (x ∷ xs) ys h = let p = and_parts (nat_le (end_of x) (length image)) (are_within image (xs ++ ys)) h in and_from _ _ p.0 (within_parts image xs ys p.1)

-- ---- all that is live reads as before

pub alike : (f : Feed) (s : State) (l : Placing) (made : List Extent) (a b : List ℕ) → IsRooted f s l made a → AllRead a b (live_of l made) → length a ≤ length b → HasRoot l.root b → IsRooted f s l made b
alike f s l made a b h same long root =
    let at = held f s l made a h in
    let placed = placed_stay.placed s.durable l a b h.honest.placed (all_front (ReadsAs a b) (extents_of l) made same) in
    let within = bytes_stay.all_within a b (live_of l made) long h.honest.within in
    let holds = held_by b s.durable l root.0 placed at.extents in
    record {
      root = root;
      honest = record {
        part = inl (l, holds);
        sound = sound_again f a b s.durable l (sound_held f a s.durable l h.honest.sound at) holds (within_parts b (extents_of l) made within);
        placed = placed;
        failed = tt;
        job = placed_stay.made s.job s made a b h.honest.job (all_rest (ReadsAs a b) (extents_of l) made same);
        within = within;
      };
    }

-- ---- a write beside it

pub root_beside : (f : Feed) (s : State) (l : Placing) (made : List Extent) (a b : List ℕ) (place len : ℕ) → IsRooted f s l made a → StaysOutside place len a b → 1024 ≤ place → HasRoot l.root b
root_beside f s l made a b place len h stays behind = (counts_same l.root a b (same_outside a b place len 0 1024 stays h.root.1 (inl behind)) h.root.0, omega (arith, h.root.1, stays.longer))

pub beside : (f : Feed) (s : State) (l : Placing) (made : List Extent) (a b : List ℕ) (place len : ℕ) → IsRooted f s l made a → StaysOutside place len a b → 1024 ≤ place → IsBeside place len (live_of l made) → IsRooted f s l made b
beside f s l made a b place len h stays behind apart = alike f s l made a b h (bytes_stay.all a b place len (live_of l made) stays apart h.honest.within) stays.longer (root_beside f s l made a b place len h stays behind)

in_gap : (f : Feed) (s : State) (l : Placing) (made live : List Extent) (most : ℕ) (e : Extent) (a b : List ℕ) → IsRooted f s l made a → IsTrue (is_gap most live e) → ((x : Extent) → Contains (live_of l made) x → Contains live x)
    → StaysOutside e.place e.length a b → IsRooted f s l made b
in_gap f s l made live most e a b h gap among stays =
    let p = and_parts (nat_le 1024 e.place && nat_le (end_of e) most) (list_all (apart e) live) gap in
    let low = (and_parts (nat_le 1024 e.place) (nat_le (end_of e) most) p.0).0 in
    beside f s l made a b e.place e.length h stays (leb-true 1024 e.place low)
    (tests_hold (apart (extent_at e.place e.length)) (live_of l made) (all_from (λ x. IsTrue (apart (extent_at e.place e.length) x)) (live_of l made) (λ x c. all_at (λ x. IsTrue (apart e x)) live x (all_tests (apart e) live p.1) (among x c))))

-- ---- a write to the slot that does not count

-- extents that are apart stand behind the slots
pub behind_slots : (most : ℕ) (es : List Extent) → IsTrue (are_apart most es) → AllByRecursion (λ e. 1024 ≤ e.place) es
behind_slots most [] h = tt
behind_slots most (e ∷ es) h =
    let p = and_parts (nat_le 1024 e.place && nat_le (end_of e) most && list_all (apart e) es) (are_apart most es) h in
    let q = and_parts (nat_le 1024 e.place && nat_le (end_of e) most) (list_all (apart e) es) p.0 in
    (leb-true 1024 e.place (and_parts (nat_le 1024 e.place) (nat_le (end_of e) most) q.0).0, behind_slots most es p.1)

pub beside_slots : (place len : ℕ) (es : List Extent) → place + len ≤ 1024 → AllByRecursion (λ e. 1024 ≤ e.place) es → IsBeside place len es
beside_slots place len [] low h = refl
beside_slots place len (e ∷ es) low h = and_from _ _ (or_left (nat_le (place + len) e.place) (nat_le (end_of e) place) (le-leb (place + len) e.place (omega (arith, low, h.0)))) (beside_slots place len es low h.1)

in_slot : (f : Feed) (s : State) (l : Placing) (made : List Extent) (a b : List ℕ) → IsRooted f s l made a → IsTrue (are_apart s.durable.limit made) → StaysOutside (slot_place (1 - l.root.slot)) 512 a b → HasRoot l.root b
    → IsRooted f s l made b
in_slot f s l made a b h apart stays root =
    let at = held f s l made a h in
    let behind = all_append (λ e. 1024 ≤ e.place) (extents_of l) made (behind_slots l.manifest.limit (extents_of l) at.extents) (behind_slots s.durable.limit made apart) in
    let low : slot_place (1 - l.root.slot) + 512 ≤ 1024 = omega arith in
    alike f s l made a b h (bytes_stay.all a b (slot_place (1 - l.root.slot)) 512 (live_of l made) stays (beside_slots (slot_place (1 - l.root.slot)) 512 (live_of l made) low behind) h.honest.within) stays.longer root

-- ---- what a session stands on

none_failed : (o : Option Placing) (b : Option Durable) → is_some b ≡ false → IfSome o (λ l. IsSome b) → o ≡ None
none_failed None b w h = refl
none_failed (Some l) b w h = absurd (false≢true (sym w ∙ h))

held_alone : (x : Session) (image : List ℕ) → x.failed ≡ None → HoldsEither x image → HoldsEither (placed_at x.state x.placing x.made) image
held_alone x image n (inl h) = inl h
held_alone x image n (inr h) = let z : None ≡ Some h.1 = sym n ∙ h.3 in absurd cc

abbrev live_with : Session → Option Placing → List Extent
live_with x o = extents_of x.placing ++ (option_map_or extents_of o [] ++ x.made)

rooted : (f : Feed) (x : Session) (image : List ℕ) → is_broken x.state ≡ false → IfSome x.failed (λ l. IsSome x.state.broken) → StandsOn f x image → IsRooted f x.state x.placing x.made image
rooted f x image w b h =
    let n = none_failed x.failed x.state.broken w b in record {
      root = h.root w;
      honest = record {
        part = held_alone x image n h.honest.part;
        sound = h.honest.sound;
        placed = h.honest.placed;
        failed = tt;
        job = h.honest.job;
        within = subst (λ (o : Option Placing). IsTrue (are_within image (live_with x o))) n h.honest.within;
      };
    }

stands_alone : (x : Session) (image : List ℕ) → HoldsEither (placed_at x.state x.placing x.made) image → HoldsEither x image
stands_alone x image (inl h) = inl h
stands_alone x image (inr h) = let z : None ≡ Some h.1 = h.3 in absurd cc

stands : (f : Feed) (x : Session) (image : List ℕ) → x.failed ≡ None → IsRooted f x.state x.placing x.made image → StandsOn f x image
stands f x image n h = record {
  root = λ w. h.root;
  honest = record {
    part = stands_alone x image h.honest.part;
    sound = h.honest.sound;
    placed = h.honest.placed;
    failed = subst (λ (o : Option Placing). IfSome o (λ l. IfSome x.state.broken (λ d. HasPlaced d l image))) (sym n) tt;
    job = h.honest.job;
    within = subst (λ (o : Option Placing). IsTrue (are_within image (live_with x o))) (sym n) h.honest.within;
  };
}

pub honest_stays : HonestStays
honest_stays = record {
  rooted = rooted;
  stands = stands;
  held = held;
  generation = λ f s l made image h. ap (λ (d : Durable). d.generation) (sym h.honest.placed.durable);
  limit = λ f s l made image h. ap (λ (d : Durable). d.limit) (sym h.honest.placed.durable);
  alike = alike;
  beside = beside;
  in_gap = in_gap;
  in_slot = in_slot;
}
