-- What the images of a disk are while pieces are written and a root is committed, by what the calls say of them.
use Rattle.std.proofs.Common.{List, None, Option, Some, ap, inl, inr, is_some, refl, subst, sym, ℕ, ◌-◌, ◌≡◌, ◌≤◌, ◌⊎◌, ◌<◌, ◌∙◌, [], arith, length, ◌++◌, ◌∷◌}
use Rattle.std.specs.Prelude.{Contains, IsSome, IsTrue, map, slice_get}
use Rattle.std.proofs.lemmas.Bool.{false≢true}
use Rattle.lt_image_laws.specs.Fresh.{HasFresh, fresh_length, fresh_placing}
use Rattle.lt_image_laws.proofs.Bytes.{bytes_stay}
use Rattle.lt_image_laws.proofs.Fresh.{fresh_holds}
use Rattle.lt_image_laws.proofs.Moves.{move_laws}
use Rattle.lt_image_laws.proofs.Opening.{opened_is_held}
use Rattle.lt_tables.specs.Version.{RowVersion}
use Rattle.lt_machine.specs.Sound.{IsGood, IsSound, Session}
use Rattle.lt_tables.specs.Pump.{Attaches}
use Rattle.lt_machine.specs.Program.{IsOpened}
use Rattle.lt_terms.specs.Log.{Header, Item}
use Rattle.lt_terms.specs.Layout.{Leaf}
use Rattle.lt_terms.specs.declared.Extent.{Extent}
use Rattle.lt_terms.specs.declared.Root.{Root}
use Rattle.lt_world.specs.Disk.{LeftOnly, StaysOutside, bytes_at, bytes_in, with_bytes}
use Rattle.lt_world.specs.Feed.{Feed, AreShort}
use Rattle.lt_machine.specs.Machine.{State, Job, fresh, opened}
use Rattle.lt_world.specs.Slots.{HasRoot}
use Rattle.lt_world.specs.Disk.{LeavesNow}
use Rattle.lt_machine.specs.Outside.{BelongsTo, IsHonest, bytes_of_bundle, job_bundles}
use Rattle.lt_machine.specs.Sound.{Memory}
use Rattle.lt_world.specs.Extents.{are_apart, is_gap}
use Rattle.lt_world.specs.Slots.{slot_place}
use Rattle.lt_storage.specs.Store.{Placing, Durable, HoldsAt}
use Rattle.lt_disk.specs.Within.{IsStable, IsWithin, ReadsWithin}
use Rattle.lt_disk.proofs.Moments.{Device, holds_now, told_at, told_outside, weaker}
use Rattle.lt_root.specs.Roots.{next_root, first_root}
use Rattle.lt_root.specs.Steps.{HasCommitted}
use Rattle.lt_image_laws.specs.Bytes.{IsBeside}
use Rattle.lt_image_laws.specs.Commit.{IsPrepared, IsRootedOnEither, LeavesEither, broken_at, broken_by}
use Rattle.lt_image_laws.specs.OnDisk.{IsCommit}
use Rattle.lt_image_laws.specs.Standing.{IsRooted, live_of, placed_at}
use Rattle.lt_image_laws.proofs.Commit.{commit_laws}
use Rattle.lt_image_laws.proofs.Standing.{honest_stays}

some_there : (o : Option (List ℕ)) → IsSome o → (image : List ℕ) × (o ≡ Some image)
some_there None is = absurd (false≢true is)
some_there (Some image) is = (image, refl)

module _ {D : Type 0} (v : Device D) where
  -- two claims on each image at each moment
  pub record Both (P Q : List ℕ → Type 0) (image : List ℕ) : Type 0 where
    pub one : P image
    pub other : Q image

  both_before : (old new : D) (P Q : List ℕ → Type 0) (t : ℕ) (c : List ℕ) → (v.state old).left_since t c ⊎ P c → (v.state old).left_since t c ⊎ Q c → (v.state old).left_since t c ⊎ Both P Q c
  both_before old new P Q t c (inl past) q = inl past
  both_before old new P Q t c (inr p) (inl past) = inl past
  both_before old new P Q t c (inr p) (inr q) = inr (record { one = p; other = q })

  pub both : (old new : D) (P Q : List ℕ → Type 0) → LeftOnly (v.state old) (v.state new) P → LeftOnly (v.state old) (v.state new) Q → LeftOnly (v.state old) (v.state new) (Both P Q)
  both old new P Q first second = record {
    later = first.later;
    each = λ c left. record { one = first.each c left; other = second.each c left };
    before = λ t c le left. both_before old new P Q t c (first.before t c le left) (second.before t c le left);
  }

  module _ (f : Feed) (s : State) (l : Placing) (made : List Extent) (old new : D) (on : LeavesNow (v.state old) (IsRooted f s l made)) where
    -- ---- a piece is written beside what is live

    pub piece_beside : (place len : ℕ) → 1024 ≤ place → IsBeside place len (live_of l made) → LeftOnly (v.state old) (v.state new) (IsWithin (v.state old) place len) → LeftOnly (v.state old) (v.state new) (IsRooted f s l made)
    piece_beside place len behind beside images = weaker v old new (IsWithin (v.state old) place len) (IsRooted f s l made) images stays
      where
        stays : (c : List ℕ) → IsWithin (v.state old) place len c → IsRooted f s l made c
        stays c (a, left, outside) = honest_stays.beside f s l made a c place len (on a left) outside behind beside

    pub piece_in_gap : (live : List Extent) (most : ℕ) (e : Extent) → IsTrue (is_gap most live e) → ((x : Extent) → Contains (live_of l made) x → Contains live x) → LeftOnly (v.state old) (v.state new) (IsWithin (v.state old) e.place e.length)
        → LeftOnly (v.state old) (v.state new) (IsRooted f s l made)
    piece_in_gap live most e gap among images = weaker v old new (IsWithin (v.state old) e.place e.length) (IsRooted f s l made) images stays
      where
        stays : (c : List ℕ) → IsWithin (v.state old) e.place e.length c → IsRooted f s l made c
        stays c (a, left, outside) = honest_stays.in_gap f s l made live most e a c (on a left) gap among outside

    -- ---- the root is committed

    module _ (s' : State) (l' : Placing) (made' : List Extent) (seen : List ℕ) (prepared : IsPrepared f s' l' made' seen) (apart : IsTrue (are_apart s.durable.limit made))
        (images : LeftOnly (v.state old) (v.state new) (IsWithin (v.state old) (slot_place (1 - l.root.slot)) 512)) where
      -- what each image is in the slot that does not count, and which root counts there
      abbrev OfCommit : List ℕ → Type 0
      OfCommit image = Both (IsWithin (v.state old) (slot_place (1 - l.root.slot)) 512) (λ c. HasRoot l.root c ⊎ HasCommitted l'.root seen c) image

      module _ (moments : LeftOnly (v.state old) (v.state new) (λ c. HasRoot l.root c ⊎ HasCommitted l'.root seen c)) where
        of_commit : LeftOnly (v.state old) (v.state new) (Both (IsWithin (v.state old) (slot_place (1 - l.root.slot)) 512) (λ c. HasRoot l.root c ⊎ HasCommitted l'.root seen c))
        of_commit = both old new (IsWithin (v.state old) (slot_place (1 - l.root.slot)) 512) (λ c. HasRoot l.root c ⊎ HasCommitted l'.root seen c) images moments

        -- at each moment each image is of the session before or of the one after
        pub any_moment : LeftOnly (v.state old) (v.state new) (IsRootedOnEither f s l made s' l' made')
        any_moment = weaker v old new (Both (IsWithin (v.state old) (slot_place (1 - l.root.slot)) 512) (λ c. HasRoot l.root c ⊎ HasCommitted l'.root seen c)) (IsRootedOnEither f s l made s' l' made') of_commit is
          where
            is : (c : List ℕ) → OfCommit c → IsRootedOnEither f s l made s' l' made' c
            is c h = commit_laws.either f s s' l l' made made' seen h.one.0 c prepared apart (on h.one.0 h.one.1) h.one.2 h.other

        -- so each is sound, and has the part of before or of after
        pub leaves_either : (x y : Session) → x.state ≡ s → y.state ≡ s' → LeftOnly (v.state old) (v.state new) (LeavesEither f x y)
        leaves_either x y e g = weaker v old new (IsRootedOnEither f s l made s' l' made') (LeavesEither f x y) any_moment is
          where
            is : (c : List ℕ) → IsRootedOnEither f s l made s' l' made' c → LeavesEither f x y c
            is c h = commit_laws.leaves_either f x y l l' made made' c (subst (λ (u : State). IsRootedOnEither f u l made y.state l' made' c) (sym e) (subst (λ (u : State). IsRootedOnEither f s l made u l' made' c) (sym g) h))

      -- Where a write failed the broken session's images are honest: nothing of the part of after is placed, where the root that counted counts in
      -- every image, and all of it, where what was prepared stands in every image.
      pub broken_before : LeavesNow (v.state new) (HasRoot l.root) → LeavesNow (v.state new) (IsHonest f (placed_at (broken_by s' s) l made))
      broken_before root c left =
          let w = holds_now v old new (IsWithin (v.state old) (slot_place (1 - l.root.slot)) 512) images c left in
          commit_laws.broken_before f s s' l made w.0 c apart (on w.0 w.1) w.2 (root c left)

      pub broken_after : l'.root.slot ≡ 1 - l.root.slot → LeavesNow (v.state new) (StaysOutside (slot_place (1 - l.root.slot)) 512 seen) → LeavesNow (v.state new) (λ c. HasRoot l.root c ⊎ HasRoot l'.root c)
          → LeavesNow (v.state new) (IsHonest f (broken_at s' s l l' made))
      broken_after slot outside counts c left =
          let w = holds_now v old new (IsWithin (v.state old) (slot_place (1 - l.root.slot)) 512) images c left in
          commit_laws.broken_after f s s' l l' made made' seen w.0 c prepared apart (on w.0 w.1) slot w.2 (outside c left) (counts c left)

      -- after Ok each image is of the session after
      pub acknowledged : (v.state old).told ≡ Some seen → l'.root.slot ≡ 1 - l.root.slot → ReadsWithin (slot_place (1 - l.root.slot)) 512 (v.state old) (v.state new) → IsStable (v.state new) → LeavesNow (v.state new) (HasRoot l'.root) → LeavesNow (v.state new) (IsRooted f s' l' made')
      acknowledged tells slot reads stable root c left =
          let there = some_there (v.state new).told (reads.0.0 (ap is_some tells)) in
          let only : c ≡ there.0 = told_at (v.state new).told there.0 (λ image. (c : List ℕ) → (v.state new).leaves c → c ≡ image) there.1 stable c left in
          let outside = told_outside (slot_place (1 - l.root.slot)) 512 (v.state old) (v.state new) seen there.0 tells there.1 reads in
          commit_laws.committed f s' l' made' seen c prepared (subst (λ n. StaysOutside (slot_place n) 512 seen c) (sym slot) (subst (λ image. StaysOutside (slot_place (1 - l.root.slot)) 512 seen image) (sym only) outside)) (root c left)

      -- where nothing of the root was written each image is of the session before, at each moment
      pub unwritten : LeftOnly (v.state old) (v.state new) (HasRoot l.root) → LeftOnly (v.state old) (v.state new) (IsRooted f s l made)
      unwritten root =
          weaker v old new (Both (IsWithin (v.state old) (slot_place (1 - l.root.slot)) 512) (HasRoot l.root)) (IsRooted f s l made) (both old new (IsWithin (v.state old) (slot_place (1 - l.root.slot)) 512) (HasRoot l.root) images root) is
        where
          is : (c : List ℕ) → Both (IsWithin (v.state old) (slot_place (1 - l.root.slot)) 512) (HasRoot l.root) c → IsRooted f s l made c
          is c h = honest_stays.in_slot f s l made h.one.0 c (on h.one.0 h.one.1) apart h.one.2 h.other

-- ---- the root's commit as its clauses say it

module _ {D : Type 0} (v : Device D) (old new : D) (root : Root) (place len : ℕ) (images : LeftOnly (v.state old) (v.state new) (IsWithin (v.state old) (slot_place (1 - root.slot)) 512)) where
  -- which root counts at each moment
  abbrev pub OneOf : List ℕ → List ℕ → Type 0
  OneOf seen image = HasRoot root image ⊎ HasCommitted (next_root root place len) seen image

  module _ (f : Feed) (s s' : State) (l l' : Placing) (made made' : List Extent) (seen : List ℕ) (c : IsCommit (v.state old) root place len seen f s s' l l' made made') where
    -- what the clauses ask
    pub has_root : LeavesNow (v.state old) (HasRoot root)
    has_root image left = subst (λ r. HasRoot r image) c.from (c.stands image left).root

    pub fits : (1024 ≤ place) × (0 < len)
    fits =
        let may = commit_laws.may_stand f s' l' made' seen c.prepared in
        (subst (λ r. 1024 ≤ r.place) c.to may.0, subst (λ r. 0 < r.length) c.to may.1)

    -- and what they give
    own_images : LeftOnly (v.state old) (v.state new) (IsWithin (v.state old) (slot_place (1 - l.root.slot)) 512)
    own_images = subst (λ r. LeftOnly (v.state old) (v.state new) (IsWithin (v.state old) (slot_place (1 - r.slot)) 512)) (sym c.from) images

    own_moments : LeftOnly (v.state old) (v.state new) (OneOf seen) → LeftOnly (v.state old) (v.state new) (λ image. HasRoot l.root image ⊎ HasCommitted l'.root seen image)
    own_moments moments =
        subst (λ r. LeftOnly (v.state old) (v.state new) (λ image. HasRoot l.root image ⊎ HasCommitted r seen image)) (sym c.to)
        (subst (λ r. LeftOnly (v.state old) (v.state new) (λ image. HasRoot r image ⊎ HasCommitted (next_root root place len) seen image)) (sym c.from) moments)

    pub either_left : (x y : Session) → x.state ≡ s → y.state ≡ s' → LeftOnly (v.state old) (v.state new) (OneOf seen) → LeftOnly (v.state old) (v.state new) (LeavesEither f x y)
    either_left x y e g moments = leaves_either v f s l made old new c.stands s' l' made' seen c.prepared c.apart own_images (own_moments moments) x y e g

    pub either_stands : LeftOnly (v.state old) (v.state new) (OneOf seen) → LeftOnly (v.state old) (v.state new) (IsRootedOnEither f s l made s' l' made')
    either_stands moments = any_moment v f s l made old new c.stands s' l' made' seen c.prepared c.apart own_images (own_moments moments)

    slots : l'.root.slot ≡ 1 - l.root.slot
    slots = ap (λ (r : Root). r.slot) c.to ∙ ap (λ (r : Root). 1 - r.slot) (sym c.from)

    -- after a write fault: nothing of the part of after is placed, or all of it
    pub broken_unplaced : LeavesNow (v.state new) (HasRoot root) → LeavesNow (v.state new) (IsHonest f (placed_at (broken_by s' s) l made))
    broken_unplaced still = broken_before v f s l made old new c.stands s' l' made' seen c.prepared c.apart own_images (λ image left. subst (λ r. HasRoot r image) (sym c.from) (still image left))

    pub broken_placed : LeavesNow (v.state new) (StaysOutside (slot_place (1 - root.slot)) 512 seen) → LeavesNow (v.state new) (λ image. HasRoot root image ⊎ HasRoot (next_root root place len) image)
        → LeavesNow (v.state new) (IsHonest f (broken_at s' s l l' made))
    broken_placed outside counts =
        broken_after v f s l made old new c.stands s' l' made' seen c.prepared c.apart own_images slots (λ image left. subst (λ r. StaysOutside (slot_place (1 - r.slot)) 512 seen image) (sym c.from) (outside image left))
        (λ image left. subst (λ r. HasRoot l.root image ⊎ HasRoot r image) (sym c.to) (subst (λ r. HasRoot r image ⊎ HasRoot (next_root root place len) image) (sym c.from) (counts image left)))

    -- where each image has all that read before, by what the commit's clauses say
    pub broken_whole : LeftOnly (v.state old) (v.state new) (OneOf seen) → LeavesNow (v.state new) (StaysOutside (slot_place (1 - root.slot)) 512 seen) → LeavesNow (v.state new) (IsHonest f (broken_at s' s l l' made))
    broken_whole moments outside = broken_placed outside (λ image left. one_root image (holds_now v old new (OneOf seen) moments image left))
      where
        one_root : (image : List ℕ) → OneOf seen image → HasRoot root image ⊎ HasRoot (next_root root place len) image
        one_root image (inl former) = inl former
        one_root image (inr now) = inr now.0

    pub after_ok : (v.state old).told ≡ Some seen → ReadsWithin (slot_place (1 - root.slot)) 512 (v.state old) (v.state new) → IsStable (v.state new) → LeavesNow (v.state new) (HasRoot (next_root root place len)) → LeavesNow (v.state new) (IsRooted f s' l' made')
    after_ok tells reads stable now =
        acknowledged v f s l made old new c.stands s' l' made' seen c.prepared c.apart own_images tells (ap (λ (r : Root). r.slot) c.to ∙ ap (λ (r : Root). 1 - r.slot) (sym c.from))
        (subst (λ r. ReadsWithin (slot_place (1 - r.slot)) 512 (v.state old) (v.state new)) (sym c.from) reads) stable (λ image left. subst (λ r. HasRoot r image) (sym c.to) (now image left))

    pub after_fault : LeftOnly (v.state old) (v.state new) (HasRoot root) → LeftOnly (v.state old) (v.state new) (IsRooted f s l made)
    after_fault still = unwritten v f s l made old new c.stands s' l' made' seen c.prepared c.apart own_images (subst (λ r. LeftOnly (v.state old) (v.state new) (HasRoot r)) (sym c.from) still)

-- ---- after a sync that succeeds

-- what the one image that a crash leaves is, where that reads
pub stable_is : {D : Type 0} (v : Device D) (d : D) (image : List ℕ) (P : List ℕ → Type 0) → (v.state d).told ≡ Some image → IsStable (v.state d) → P image → LeavesNow (v.state d) P
stable_is v d image P tells stable has c left = subst P (sym (told_at (v.state d).told image (λ image. (c : List ℕ) → (v.state d).leaves c → c ≡ image) tells stable c left)) has

module _ {D : Type 0} (v : Device D) (f : Feed) where
  -- a fresh store, once its root was made over its manifest
  pub fresh_stands : (most : ℕ) (hs : List Header) (mem : Memory) (mid new : D) (seen : List ℕ) → BelongsTo f (opened (fresh most hs) hs) mem → (v.state mid).told ≡ Some seen → HasFresh most hs seen → ReadsWithin 0 1024 (v.state mid) (v.state new) → IsStable (v.state new)
      → LeavesNow (v.state new) (HasRoot (first_root 1024 (fresh_length most hs))) → LeavesNow (v.state new) (IsRooted f (opened (fresh most hs) hs) (fresh_placing most hs) [])
  fresh_stands most hs mem mid new seen belongs tells has reads stable root c left =
      let there = some_there (v.state new).told (reads.0.0 (ap is_some tells)) in
      let now = fresh_holds.stays most hs seen there.0 has (told_outside 0 1024 (v.state mid) (v.state new) seen there.0 tells there.1 reads) in
      fresh_holds.stands f most hs mem c belongs (stable_is v new there.0 (HasFresh most hs) there.1 stable now c left) (root c left)

  -- an opened store
  pub opened_stands : (d : D) (image : List ℕ) (l : Placing) (hs : List Header) → AreShort f → (v.state d).told ≡ Some image → IsStable (v.state d) → IsSound image f → IsOpened image l → Attaches f (Some (map (λ s. s.low) l.manifest.streams)) hs
      → (e : Durable) × (fs : List (Header × List Item)) × HoldsAt image e l × IsGood f (opened e hs) fs × LeavesNow (v.state d) (IsRooted f (opened e hs) l [])
  opened_stands d image l hs short tells stable sound read attaches =
      let o = opened_is_held.opens f image l hs short sound read attaches in
      (o.durable, o.fronts, o.holds, o.good, stable_is v d image (IsRooted f (opened o.durable hs) l []) tells stable o.stands)

  -- a job's next bundle, once it was written and is stable
  pub bundle_made : (s : State) (j : Job) (l : Placing) (made live : List Extent) (most : ℕ) (e : Extent) (b : List Leaf × List RowVersion) (old new : D) (image : List ℕ) → LeavesNow (v.state old) (IsRooted f s l made) → IsTrue (is_gap most live e)
      → ((x : Extent) → Contains (live_of l made) x → Contains live x) → LeftOnly (v.state old) (v.state new) (IsWithin (v.state old) e.place e.length) → s.job ≡ Some j → slice_get (job_bundles s j) (length made) ≡ Some b
      → (v.state new).told ≡ Some (with_bytes image e.place (bytes_of_bundle b)) → e.length ≡ length (bytes_of_bundle b) → IsStable (v.state new) → LeavesNow (v.state new) (IsRooted f s l (made ++ e ∷ []))
  bundle_made s j l made live most e b old new image on gap among images is next tells size stable =
      let bs = bytes_of_bundle b in
      let now = with_bytes image e.place bs in
      let before = holds_now v old new (IsRooted f s l made) (piece_in_gap v f s l made old new on live most e gap among images) in
      let there : bytes_in now e ≡ bs = ap (bytes_at now e.place) size ∙ bytes_stay.there image bs e.place in
      let on_now : IsRooted f s l made now = before now (told_at (v.state new).told now (v.state new).leaves tells (v.reads_an_image new)) in
      stable_is v new now (IsRooted f s l (made ++ e ∷ [])) tells stable (move_laws.one_made f s j l made e b now on_now is next there (omega (arith, size, bytes_stay.long image bs e.place)))
