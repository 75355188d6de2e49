-- How a commit goes on: after each step that succeeds a crash leaves one image, and of that the next step's tears are told.
use Rattle.std.proofs.Common.{List, Some, [], ap, ap₂, arith, false, inl, inr, is_some, length, refl, subst, sym, ℕ, ◌+◌, ◌-◌, ◌^◌, ◌<◌, ◌≤◌, ◌∙◌, ◌∷◌, ◌≡◌, ◌⊎◌}
use Rattle.std.specs.Prelude.{IfSome, IsTrue}
use Rattle.lt_terms.specs.declared.Root.{Root}
use Rattle.lt_world.specs.Disk.{Elapses, LeftOnly, Only, StaysOutside, bytes_at, with_bytes}
use Rattle.lt_world.specs.Slots.{HasRoot}
use Rattle.lt_world.specs.Disk.{LeavesNow}
use Rattle.lt_world.specs.Slots.{is_open, is_root, slot_place}
use Rattle.lt_disk.specs.Within.{IsStable, IsWithin, ReadsWithin}
use Rattle.lt_disk.proofs.Moments.{Changes, Device, Stands, changed, holds_now, joined, stands, still, told_at, told_outside, weaker}
use Rattle.lt_disk.proofs.Written.{stays_itself, stays_on, stays_wider, stays_written}
use Rattle.lt_root.specs.Roots.{body_of, gate_place, next_root}
use Rattle.lt_root.specs.Steps.{HasCommitted, IsClosing}
use Rattle.lt_root.proofs.SlotLaws.{lawful_root}
use Rattle.lt_root.proofs.Tears.{AreOthers, body_keeps, body_written, closing_keeps, gate_written, opened, opening}

-- a root that a commit may make count in place of another one
pub record IsNext (r n : Root) : Type 0 where
  pub others : AreOthers r.slot n.slot
  pub later : r.generation < n.generation
  pub lawful : IsTrue (is_root n.generation n.place n.length)

pub next_is : (r : Root) (place len : ℕ) → r.slot < 2 → r.generation < 2 ^ 64 - 1 → 1024 ≤ place → place < 2 ^ 64 → 0 < len → len < 2 ^ 64 → IsNext r (next_root r place len)
next_is r place len slot generation behind place_fits long long_fits = record {
  others = (slot, refl);
  later = omega arith;
  lawful = lawful_root (r.generation + 1) place len (omega arith) (omega (arith, generation)) behind place_fits long long_fits;
}

-- closing a gate changes nothing but its slot
pub closing_changes : {D : Type 0} (v : Device D) (slot : ℕ) (old new : D) → LeftOnly (v.state old) (v.state new) (IsClosing (v.state old) slot) → ReadsWithin (gate_place slot) 1 (v.state old) (v.state new) → Changes v (slot_place slot) 512 old new
closing_changes v slot old new images reads =
    changed v (slot_place slot) 512 (gate_place slot) 1 old new (omega arith) (omega arith) (weaker v old new (IsClosing (v.state old) slot) (IsWithin (v.state old) (gate_place slot) 1) images within) reads
  where
    within : (c : List ℕ) → IsClosing (v.state old) slot c → IsWithin (v.state old) (gate_place slot) 1 c
    within c (a, left, inl same) = (a, left, subst (StaysOutside (gate_place slot) 1 a) (sym same) (stays_itself a (gate_place slot) 1))
    within c (a, left, inr torn) = (a, left, torn.1)

module _ {D : Type 0} (v : Device D) (r n : Root) (next : IsNext r n) where
  -- the gate of the other slot is closed
  abbrev pub IsClosed : List ℕ → Type 0
  IsClosed image = HasRoot r image × (is_open image n.slot ≡ false)

  -- behind the closed gate the body of the next root stands
  abbrev pub IsReady : List ℕ → Type 0
  IsReady image = HasRoot r image × (bytes_at image (slot_place n.slot) 511 ≡ body_of n)

  -- at each moment each image had the old root, and now a crash leaves one image, which is P
  pub record Reaches (old new : D) (P : List ℕ → Type 0) : Type 0 where
    pub run : LeftOnly (v.state old) (v.state new) (HasRoot r)
    pub at : Stands v new P

  -- ---- the first sync

  pub sync_run : (old new : D) → LeavesNow (v.state old) (HasRoot r) → Elapses (v.state old).clock (v.state new).clock (v.state old).left_since (v.state new).left_since (v.state new).leaves → ((c : List ℕ) → (v.state new).leaves c → (v.state old).leaves c) → LeftOnly (v.state old) (v.state new) (HasRoot r)
  sync_run old new has time fewer = still v old new (HasRoot r) has time fewer

  pub reaches_synced : (old new : D) (seen : List ℕ) → (v.state old).told ≡ Some seen → (v.state new).told ≡ (v.state old).told → LeftOnly (v.state old) (v.state new) (HasRoot r) → IsStable (v.state new) → Reaches old new (HasRoot r)
  reaches_synced old new seen is_seen same run stable = record { run = run; at = stands v old new (HasRoot r) run (ap is_some (same ∙ is_seen)) stable }

  -- ---- the gate of the other slot is closed

  pub closing_run : (old mid new : D) → Reaches old mid (HasRoot r) → LeftOnly (v.state mid) (v.state new) (IsClosing (v.state mid) n.slot) → LeftOnly (v.state old) (v.state new) (HasRoot r)
  closing_run old mid new reached images = joined v old mid new (HasRoot r) (IsClosing (v.state mid) n.slot) (HasRoot r) reached.run images (λ c has. has) keeps
    where
      keeps : (c : List ℕ) → IsClosing (v.state mid) n.slot c → HasRoot r c
      keeps c (a, left, inl same) = subst (HasRoot r) (sym (same ∙ reached.at.only a left)) reached.at.has
      keeps c (a, left, inr torn) =
          let gate : IsTrue (is_open reached.at.image n.slot) = told_at (v.state mid).told reached.at.image (λ image. IsTrue (is_open image n.slot)) reached.at.tells torn.0 in
          closing_keeps r n.slot next.others reached.at.image c reached.at.has gate (subst (λ image. StaysOutside (gate_place n.slot) 1 image c) (reached.at.only a left) torn.1)

  pub reaches_closed : (old mid new : D) → Reaches old mid (HasRoot r) → LeftOnly (v.state mid) (v.state new) (IsClosing (v.state mid) n.slot) → ReadsWithin (gate_place n.slot) 1 (v.state mid) (v.state new) → IsStable (v.state new)
      → IfSome (v.state new).told (λ image. is_open image n.slot ≡ false) → Reaches old new IsClosed
  reaches_closed old mid new reached images reads stable closed =
      let run = closing_run old mid new reached images in
      let at = stands v old new (HasRoot r) run (reads.0.0 (ap is_some reached.at.tells)) stable in
      record {
        run = run;
        at = record { image = at.image; tells = at.tells; only = at.only; has = (at.has, told_at (v.state new).told at.image (λ image. is_open image n.slot ≡ false) at.tells closed) };
      }

  -- ---- the body of the next root is written

  body_torn : (mid new : D) (place : ℕ) (bs : List ℕ) (at : Stands v mid IsClosed) (c : List ℕ) → place ≡ slot_place n.slot → bs ≡ body_of n → IsWithin (v.state mid) place (length bs) c → HasRoot r c
  body_torn mid new place bs at c at_place is (a, left, stays) =
      (body_keeps r n.slot next.others at.image c at.has.0 at.has.1
      (subst (λ image. StaysOutside (slot_place n.slot) 511 image c) (at.only a left) (subst (λ p. StaysOutside p 511 a c) at_place (subst (λ l. StaysOutside place (length l) a c) is stays)))).0

  pub body_run : (old mid new : D) (place : ℕ) (bs : List ℕ) → place ≡ slot_place n.slot → bs ≡ body_of n → Reaches old mid IsClosed → LeftOnly (v.state mid) (v.state new) (IsWithin (v.state mid) place (length bs)) → LeftOnly (v.state old) (v.state new) (HasRoot r)
  body_run old mid new place bs at_place is reached images = joined v old mid new (HasRoot r) (IsWithin (v.state mid) place (length bs)) (HasRoot r) reached.run images (λ c has. has) (λ c within. body_torn mid new place bs reached.at c at_place is within)

  pub reaches_ready : (old mid new : D) (place : ℕ) (bs : List ℕ) → place ≡ slot_place n.slot → bs ≡ body_of n → Reaches old mid IsClosed → LeftOnly (v.state mid) (v.state new) (IsWithin (v.state mid) place (length bs))
      → IfSome (v.state mid).told (λ a. (v.state new).told ≡ Some (with_bytes a place bs)) → IsStable (v.state new) → Reaches old new IsReady
  reaches_ready old mid new place bs at_place is reached images bytes stable =
      let at = reached.at in
      let image = with_bytes at.image (slot_place n.slot) (body_of n) in
      let same : with_bytes at.image place bs ≡ image = ap₂ (λ (p : ℕ) (l : List ℕ). with_bytes at.image p l) at_place is in
      let tells : (v.state new).told ≡ Some image = told_at (v.state mid).told at.image (λ a. (v.state new).told ≡ Some (with_bytes a place bs)) at.tells bytes ∙ ap Some same in
      record {
        run = body_run old mid new place bs at_place is reached images;
        at = record {
          image = image;
          tells = tells;
          only = told_at (v.state new).told image (λ c. Only c (v.state new).leaves) tells stable;
          has = ((body_keeps r n.slot next.others at.image image at.has.0 at.has.1 (stays_written at.image (slot_place n.slot) (body_of n))).0, body_written at.image n n.slot);
        };
      }

  -- ---- its gate is opened

  -- at each moment each image has the old root, or the next one with all else as it read
  pub gate_run : (old mid new : D) (place : ℕ) (seen : List ℕ) → place ≡ gate_place n.slot → (v.state old).told ≡ Some seen → ReadsWithin (slot_place n.slot) 512 (v.state old) (v.state mid) → Reaches old mid IsReady → LeftOnly (v.state mid) (v.state new) (IsWithin (v.state mid) place 1)
      → LeftOnly (v.state old) (v.state new) (λ image. HasRoot r image ⊎ HasCommitted n seen image)
  gate_run old mid new place seen at_place is_seen reads reached images = joined v old mid new (HasRoot r) (IsWithin (v.state mid) place 1) (λ image. HasRoot r image ⊎ HasCommitted n seen image) reached.run images (λ c has. inl has) keeps
    where
      before : StaysOutside (slot_place n.slot) 512 seen reached.at.image
      before = told_outside (slot_place n.slot) 512 (v.state old) (v.state mid) seen reached.at.image is_seen reached.at.tells reads

      committed : (c : List ℕ) → StaysOutside (gate_place n.slot) 1 reached.at.image c → HasRoot n c → HasCommitted n seen c
      committed c stays has = (has, stays_on seen reached.at.image c (slot_place n.slot) 512 before (stays_wider reached.at.image c (gate_place n.slot) 1 (slot_place n.slot) 512 (omega arith) (omega arith) stays))

      keeps : (c : List ℕ) → IsWithin (v.state mid) place 1 c → HasRoot r c ⊎ HasCommitted n seen c
      keeps c (a, left, stays) =
          let torn : StaysOutside (gate_place n.slot) 1 reached.at.image c = subst (λ image. StaysOutside (gate_place n.slot) 1 image c) (reached.at.only a left) (subst (λ p. StaysOutside p 1 a c) at_place stays) in
          elim (opening r n.slot next.others n refl next.later next.lawful reached.at.image c reached.at.has.0 reached.at.has.1 torn) [ inl former ↦ inl former | inr now ↦ inr (committed c torn now) ]

  -- also where that fails each image has all else as it read
  pub gate_torn : (old mid new : D) (place : ℕ) (seen : List ℕ) → place ≡ gate_place n.slot → (v.state old).told ≡ Some seen → ReadsWithin (slot_place n.slot) 512 (v.state old) (v.state mid) → Reaches old mid IsReady → LeftOnly (v.state mid) (v.state new) (IsWithin (v.state mid) place 1)
      → LeavesNow (v.state new) (StaysOutside (slot_place n.slot) 512 seen)
  gate_torn old mid new place seen at_place is_seen reads reached images c left =
      let within = holds_now v mid new (IsWithin (v.state mid) place 1) images c left in
      let before = told_outside (slot_place n.slot) 512 (v.state old) (v.state mid) seen reached.at.image is_seen reached.at.tells reads in
      let torn : StaysOutside (gate_place n.slot) 1 reached.at.image c = subst (λ image. StaysOutside (gate_place n.slot) 1 image c) (reached.at.only within.0 within.1) (subst (λ p. StaysOutside p 1 within.0 c) at_place within.2) in
      stays_on seen reached.at.image c (slot_place n.slot) 512 before (stays_wider reached.at.image c (gate_place n.slot) 1 (slot_place n.slot) 512 (omega arith) (omega arith) torn)

  -- and then the next root counts
  pub opened_now : (old mid new : D) (place : ℕ) → place ≡ gate_place n.slot → Reaches old mid IsReady → IfSome (v.state mid).told (λ a. (v.state new).told ≡ Some (with_bytes a place (165 ∷ []))) → IsStable (v.state new) → LeavesNow (v.state new) (HasRoot n)
  opened_now old mid new place at_place reached bytes stable c left =
      let at = reached.at in
      let image = with_bytes at.image (gate_place n.slot) (165 ∷ []) in
      let tells : (v.state new).told ≡ Some image = told_at (v.state mid).told at.image (λ a. (v.state new).told ≡ Some (with_bytes a place (165 ∷ []))) at.tells bytes ∙ ap (λ p. Some (with_bytes at.image p (165 ∷ []))) at_place in
      subst (HasRoot n) (sym (told_at (v.state new).told image (λ c. Only c (v.state new).leaves) tells stable c left))
      (opened r n.slot next.others n refl next.later next.lawful at.image image at.has.0 at.has.1 (stays_written at.image (gate_place n.slot) (165 ∷ [])) (gate_written at.image n.slot))
