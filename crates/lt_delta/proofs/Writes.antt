-- What one write leaves of a disk.
use Rattle.std.proofs.Common.{List, None, Option, Some, ap, length, refl, subst, sym, ℕ, ◌≡◌}
use Rattle.std.specs.Prelude.{IfSome}
use Rattle.std.proofs.lemmas.Bool.{false≢true}
use Rattle.lt_terms.specs.declared.Extent.{Extent}
use Rattle.lt_world.specs.Disk.{Elapses, Follows, LeftOnly, StaysOutside, Torn, with_bytes}
use Rattle.lt_world.specs.Object.{StaysTold}
use Rattle.lt_disk.specs.Within.{IsWithin, ReadsWithin}
use Rattle.lt_disk.proofs.Moments.{Device, begins, goes_on, within_now}
use Rattle.lt_disk.proofs.Written.{stays_torn, stays_written}
use Rattle.lt_delta.specs.Writing.{WritesAt}

torn_outside : (x y : Option (List ℕ)) (place len : ℕ) → IfSome x (λ a. IfSome y (Torn place len a)) → IfSome x (λ a. IfSome y (StaysOutside place len a))
torn_outside None y place len t = tt
torn_outside (Some a) None place len t = tt
torn_outside (Some a) (Some b) place len t = stays_torn a b place len t

written_outside : (x y : Option (List ℕ)) (place : ℕ) (bs : List ℕ) → IfSome x (λ a. IfSome y (λ b. b ≡ with_bytes a place bs)) → IfSome x (λ a. IfSome y (StaysOutside place (length bs) a))
written_outside None y place bs w = tt
written_outside (Some a) None place bs w = tt
written_outside (Some a) (Some b) place bs w = subst (StaysOutside place (length bs) a) (sym w) (stays_written a place bs)

pub told_written : (x y : Option (List ℕ)) (place : ℕ) (bs : List ℕ) → StaysTold x y → IfSome x (λ a. IfSome y (λ b. b ≡ with_bytes a place bs)) → IfSome x (λ a. y ≡ Some (with_bytes a place bs))
told_written None y place bs same w = tt
told_written (Some a) None place bs same w = absurd (false≢true (same.0 refl))
told_written (Some a) (Some b) place bs same w = ap (λ (t : List ℕ). Some t) w

-- what changes is an extent of so many bytes
writes_at : {D : Type 0} (v : Device D) (old new : D) (e : Extent) (len : ℕ) → e.length ≡ len → Follows (Torn e.place len) (v.state old).leaves (v.state new).leaves
    → Elapses (v.state old).clock (v.state new).clock (v.state old).left_since (v.state new).left_since (v.state new).leaves → StaysTold (v.state old).told (v.state new).told
    → IfSome (v.state old).told (λ a. IfSome (v.state new).told (StaysOutside e.place len a)) → WritesAt (v.state old) (v.state new) e
writes_at v old new e len size torn time stays outside =
    let P = IsWithin (v.state old) e.place len in
    let images : LeftOnly (v.state old) (v.state new) P = goes_on v old old new P (begins v old P (within_now v old e.place len)) time (λ c left. let t = torn c left in (t.0, t.1, stays_torn t.0 c e.place len t.2)) in
    let reads : ReadsWithin e.place len (v.state old) (v.state new) = (stays, outside) in
    record {
      images = subst (λ n. LeftOnly (v.state old) (v.state new) (IsWithin (v.state old) e.place n)) (sym size) images;
      reads = subst (λ n. ReadsWithin e.place n (v.state old) (v.state new)) (sym size) reads;
    }

pub wrote : {D : Type 0} (v : Device D) (old new : D) (e : Extent) (bs : List ℕ) → e.length ≡ length bs → Follows (Torn e.place (length bs)) (v.state old).leaves (v.state new).leaves
    → Elapses (v.state old).clock (v.state new).clock (v.state old).left_since (v.state new).left_since (v.state new).leaves → StaysTold (v.state old).told (v.state new).told
    → IfSome (v.state old).told (λ a. IfSome (v.state new).told (λ b. b ≡ with_bytes a e.place bs)) → WritesAt (v.state old) (v.state new) e
wrote v old new e bs size torn time stays written = writes_at v old new e (length bs) size torn time stays (written_outside (v.state old).told (v.state new).told e.place bs written)

pub failed : {D : Type 0} (v : Device D) (old new : D) (e : Extent) (bs : List ℕ) → e.length ≡ length bs → Follows (Torn e.place (length bs)) (v.state old).leaves (v.state new).leaves
    → Elapses (v.state old).clock (v.state new).clock (v.state old).left_since (v.state new).left_since (v.state new).leaves → StaysTold (v.state old).told (v.state new).told
    → IfSome (v.state old).told (λ a. IfSome (v.state new).told (Torn e.place (length bs) a)) → WritesAt (v.state old) (v.state new) e
failed v old new e bs size torn time stays left = writes_at v old new e (length bs) size torn time stays (torn_outside (v.state old).told (v.state new).told e.place (length bs) left)
