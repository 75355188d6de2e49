-- What a write that is followed by a sync leaves of a disk.
use Rattle.std.proofs.Common.{List, None, Option, Some, length, subst, sym, ℕ, ◌≡◌, ◌↔◌}
use Rattle.std.specs.Prelude.{IfSome, IsSome}
use Rattle.lt_world.specs.Disk.{DiskState, Elapses, Follows, LeftOnly, StaysOutside, Torn, with_bytes}
use Rattle.lt_world.specs.Object.{StaysTold}
use Rattle.lt_disk.specs.Within.{IsWithin, ReadsWithin}
use Rattle.lt_disk.proofs.Moments.{Device, begins, goes_on, holds_now, within_now}
use Rattle.lt_disk.proofs.Written.{stays_torn, stays_written}

pub put_images : {D : Type 0} (v : Device D) (old mid new : D) (place len : ℕ) → Follows (Torn place len) (v.state old).leaves (v.state mid).leaves
    → Elapses (v.state old).clock (v.state mid).clock (v.state old).left_since (v.state mid).left_since (v.state mid).leaves
    → Elapses (v.state mid).clock (v.state new).clock (v.state mid).left_since (v.state new).left_since (v.state new).leaves
    → ((c : List ℕ) → (v.state new).leaves c → (v.state mid).leaves c) → LeftOnly (v.state old) (v.state new) (IsWithin (v.state old) place len)
put_images v old mid new place len torn first second fewer =
    let P = IsWithin (v.state old) place len in
    let wrote : LeftOnly (v.state old) (v.state mid) P = goes_on v old old mid P (begins v old P (within_now v old place len)) first (λ c left. let t = torn c left in (t.0, t.1, stays_torn t.0 c place len t.2)) in
    goes_on v old mid new P wrote second (λ c left. holds_now v old mid P wrote c (fewer c left))

outside : (x y : Option (List ℕ)) (place : ℕ) (bs : List ℕ) → IfSome x (λ a. IfSome y (λ b. b ≡ with_bytes a place bs)) → IfSome x (λ a. IfSome y (StaysOutside place (length bs) a))
outside None y place bs w = tt
outside (Some a) None place bs w = tt
outside (Some a) (Some b) place bs w = subst (StaysOutside place (length bs) a) (sym w) (stays_written a place bs)

pub put_reads : (old mid new : DiskState) (place : ℕ) (bs : List ℕ) → StaysTold old.told mid.told → IfSome old.told (λ a. IfSome mid.told (λ b. b ≡ with_bytes a place bs)) → new.told ≡ mid.told → ReadsWithin place (length bs) old new
put_reads old mid new place bs stays w same =
    subst (λ (x : Option (List ℕ)). (IsSome old.told ↔ IsSome x) × IfSome old.told (λ a. IfSome x (StaysOutside place (length bs) a))) (sym same) (stays, outside old.told mid.told place bs w)
