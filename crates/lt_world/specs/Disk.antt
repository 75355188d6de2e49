-- A disk, and what a crash may leave of it.
use Rattle.std.specs.Prelude.{IfSome, IsSome, List, MatchResult, OnErr, OnOk, Option, Result, Some, drop, length, min, replicate, slice_index, take, ℕ, ◌++◌, ◌+◌, ◌-◌, ◌<◌, ◌^◌, ◌↔◌, ◌≡◌, ◌≤◌, ◌⊎◌}
use Rattle.lt_terms.specs.declared.Extent.{Extent}
use Rattle.lt_world.specs.Object.{StaysTold}

-- ---- bytes of an image; past its end all bytes are 0

abbrev pub zeros : ℕ → List ℕ
zeros n = replicate n 0

abbrev pub bytes_at : List ℕ → ℕ → ℕ → List ℕ
bytes_at image place len = take len (drop place image ++ zeros len)

abbrev pub bytes_in : List ℕ → Extent → List ℕ
bytes_in image e = bytes_at image e.place e.length

-- the image with these bytes at a place
abbrev pub with_bytes : List ℕ → ℕ → List ℕ → List ℕ
with_bytes image place bs = bytes_at image 0 place ++ (bs ++ drop (place + length bs) image)

abbrev pub AreBytes : List ℕ → Type 0
AreBytes bs = (i : ℕ) → slice_index bs i < 256

-- ---- calls

-- the bytes outside a range stay, but for those past the old end; the file does not get shorter
pub record StaysOutside (place len : ℕ) (old new : List ℕ) : Type 0 where
  pub longer : length old ≤ length new
  pub others : (i : ℕ) → i < length old → (i < place) ⊎ (place + len ≤ i) → slice_index new i ≡ slice_index old i

-- after a write, until a sync: any bytes in its range and past the old end; other bytes stay
pub record Torn (place len : ℕ) (old new : List ℕ) : Type 0 where
  pub bytes : AreBytes new
  pub longer : length old ≤ length new
  pub others : (i : ℕ) → i < length old → (i < place) ⊎ (place + len ≤ i) → slice_index new i ≡ slice_index old i

-- each new outcome of a crash is an old one after the step
abbrev pub Follows : (List ℕ → List ℕ → Type 0) → (List ℕ → Type 0) → (List ℕ → Type 0) → Type 0
Follows step old new = (c : List ℕ) → new c → (d : List ℕ) × old d × step d c

-- a crash leaves this and nothing else
abbrev pub Only : List ℕ → (List ℕ → Type 0) → Type 0
Only image outcomes = (c : List ℕ) → outcomes c → c ≡ image

-- Time goes on: a crash since t left what it might have left before, or what it may leave now.
pub record Elapses (before now : ℕ) (past since : ℕ → List ℕ → Type 0) (may_leave : List ℕ → Type 0) : Type 0 where
  pub later : before ≤ now
  pub nothing_else : (t : ℕ) (c : List ℕ) → t ≤ before → since t c → past t c ⊎ may_leave c
  pub keeps : (t : ℕ) (c : List ℕ) → t ≤ before → past t c → since t c

-- ---- counts of faults

-- a count rose, or stands at its end
abbrev pub Rose : ℕ → ℕ → Type 0
Rose before now = min (before + 1) (2 ^ 64 - 1) ≤ now

-- A count never falls; a fault is answered only where it rose, and an answer other than a fault leaves it as it was.
pub record HasCause {T E : Type 0} (before now : ℕ) (result : Result T E) : Type 0 where
  pub later : before ≤ now
  pub failed : OnErr result (Rose before now)
  pub kept : OnOk result (now ≡ before)

-- a counter of calls, which stays at its greatest value
abbrev pub CountsOne : ℕ → ℕ → Type 0
CountsOne before now = (before ≤ now) × (now ≤ before + 1)

-- ---- known content: what an object tells, if it tells

-- the buffer has the bytes at the place, where the disk tells its bytes
abbrev pub Reads : Option (List ℕ) → ℕ → List ℕ → Type 0
Reads told place buf = IfSome told (λ image. buf ≡ bytes_at image place (length buf))

abbrev pub Told : Option (List ℕ) → List ℕ → Type 0
Told told image = told ≡ Some image

-- ---- a disk as its callers know it

-- What it tells of its bytes; how often it failed, and how often in a write or a sync; how many reads were made; its clock; what a crash
-- may leave now, and what one may have left since a moment.
pub record DiskState : Type 1 where
  pub told : Option (List ℕ)
  pub faults : ℕ
  pub write_faults : ℕ
  pub reads : ℕ
  pub clock : ℕ
  pub leaves : List ℕ → Type 0
  pub left_since : ℕ → List ℕ → Type 0

-- What calls leave of a disk.
pub record DiskGoes (old new : DiskState) : Type 0 where
  -- it exposes its bytes as before
  pub stays : IsSome old.told ↔ IsSome new.told
  -- the count of faults did not fall
  pub faults : old.faults ≤ new.faults
  -- nor that of failed writes and syncs
  pub write_faults : old.write_faults ≤ new.write_faults
  -- nor that of reads
  pub reads : old.reads ≤ new.reads
  -- the clock went on
  pub clock : old.clock ≤ new.clock
  -- what a crash may have left since a moment before it may have left now too
  pub past : (t : ℕ) (image : List ℕ) → t ≤ old.clock → old.left_since t image → new.left_since t image

-- Each image that a crash may leave during the calls has P.
pub record LeftOnly (old new : DiskState) (P : List ℕ → Type 0) : Type 0 where
  -- the clock went on
  pub later : old.clock ≤ new.clock
  -- what a crash left since the calls began has P
  pub each : (image : List ℕ) → new.left_since old.clock image → P image
  -- what one left since an earlier moment it had left before the calls, or it has P
  pub before : (t : ℕ) (image : List ℕ) → t ≤ old.clock → new.left_since t image → old.left_since t image ⊎ P image

-- ---- a disk

-- after a write that succeeds the bytes stand at their place; after one that fails its range may read as any bytes
abbrev pub WritesTold : {E : Type 0} → Option (List ℕ) → Option (List ℕ) → ℕ → List ℕ → Result (Unit {0}) E → Type 0
WritesTold old new place bs r = IfSome old (λ a. IfSome new (λ b. MatchResult r (λ _. b ≡ with_bytes a place bs) (λ _. Torn place (length bs) a b)))

-- what one call leaves of a disk
pub record DiskCalled {T E : Type 0} (old new : DiskState) (result : Result T E) : Type 0 where
  pub stays : StaysTold old.told new.told
  pub time : Elapses old.clock new.clock old.left_since new.left_since new.leaves
  pub cause : HasCause old.faults new.faults result

-- every image that a crash may leave now is P
abbrev pub LeavesNow : DiskState → (List ℕ → Type 0) → Type 0
LeavesNow disk P = (image : List ℕ) → disk.leaves image → P image
