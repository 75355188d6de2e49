-- How a run of calls of a disk goes on, by what a crash leaves at each moment of it.
use Rattle.std.proofs.Common.{List, None, Option, Some, arith, inl, inr, refl, subst, sym, ℕ, ◌+◌, ◌≡◌, ◌↔◌, ◌≤◌, ⊎_elim}
use Rattle.std.specs.Prelude.{IfSome, IsSome}
use Rattle.std.proofs.lemmas.Bool.{false≢true}
use Rattle.lt_world.specs.Disk.{DiskState, Elapses, LeftOnly, Only, StaysOutside}
use Rattle.lt_world.specs.Disk.{LeavesNow}
use Rattle.lt_disk.specs.Within.{IsStable, IsWithin, ReadsWithin}
use Rattle.lt_disk.proofs.Written.{stays_itself, stays_on, stays_wider}

-- what a disk is, and its laws
pub record Device (D : Type 0) : Type 1 where
  pub state : D → DiskState
  pub counts_now : (d : D) (t : ℕ) (c : List ℕ) → t ≤ (state d).clock → (state d).leaves c → (state d).left_since t c
  pub only_now : (d : D) (c : List ℕ) → (state d).left_since (state d).clock c → (state d).leaves c
  pub reads_an_image : (d : D) → IfSome (state d).told (state d).leaves

-- ---- what is told

-- a claim where something is told
pub where_told : (o : Option (List ℕ)) (P : List ℕ → Type 0) → ((image : List ℕ) → o ≡ Some image → P image) → IfSome o P
where_told None P claim = tt
where_told (Some image) P claim = claim image refl

pub told_at : (o : Option (List ℕ)) (image : List ℕ) (P : List ℕ → Type 0) → o ≡ Some image → IfSome o P → P image
told_at o image P is claim = let Q : Option (List ℕ) → Type 0 = λ x. IfSome x P in subst Q is claim

some_there : (o : Option (List ℕ)) → IsSome o → (image : List ℕ) × (o ≡ Some image)
some_there None is = absurd (false≢true is)
some_there (Some image) is = (image, refl)

-- outside a range what reads stays, also over two steps and within a wider one
stays_read : (x y z : Option (List ℕ)) (place len : ℕ) → IsSome x ↔ IsSome y → IfSome x (λ a. IfSome y (StaysOutside place len a)) → IfSome y (λ b. IfSome z (StaysOutside place len b)) → IfSome x (λ a. IfSome z (StaysOutside place len a))
stays_read None y z place len same first second = tt
stays_read (Some a) None None place len same first second = tt
stays_read (Some a) (Some b) None place len same first second = tt
stays_read (Some a) None (Some c) place len same first second = absurd (false≢true (same.0 refl))
stays_read (Some a) (Some b) (Some c) place len same first second = stays_on a b c place len first second

reads_itself : (x : Option (List ℕ)) (place len : ℕ) → IfSome x (λ a. IfSome x (StaysOutside place len a))
reads_itself None place len = tt
reads_itself (Some a) place len = stays_itself a place len

pub reads_same : (place len : ℕ) (old new : DiskState) → new.told ≡ old.told → ReadsWithin place len old new
reads_same place len old new same =
    subst (λ x. (IsSome old.told ↔ IsSome x) × IfSome old.told (λ a. IfSome x (StaysOutside place len a))) (sym same) ((λ some. some, λ some. some), reads_itself old.told place len)

pub reads_on : (place len : ℕ) (old mid new : DiskState) → ReadsWithin place len old mid → ReadsWithin place len mid new → ReadsWithin place len old new
reads_on place len old mid new first second =
    ((λ some. second.0.0 (first.0.0 some), λ some. first.0.1 (second.0.1 some)), stays_read old.told mid.told new.told place len first.0 first.1 second.1)

stays_wide : (x y : Option (List ℕ)) (place len from size : ℕ) → from ≤ place → place + len ≤ from + size → IfSome x (λ a. IfSome y (StaysOutside place len a)) → IfSome x (λ a. IfSome y (StaysOutside from size a))
stays_wide None y place len from size low high stays = tt
stays_wide (Some a) None place len from size low high stays = tt
stays_wide (Some a) (Some b) place len from size low high stays = stays_wider a b place len from size low high stays

pub told_outside : (place len : ℕ) (old new : DiskState) (a b : List ℕ) → old.told ≡ Some a → new.told ≡ Some b → ReadsWithin place len old new → StaysOutside place len a b
told_outside place len old new a b from_is to_is reads = told_at new.told b (StaysOutside place len a) to_is (told_at old.told a (λ image. IfSome new.told (StaysOutside place len image)) from_is reads.1)

pub reads_narrower : (place len from size : ℕ) (old new : DiskState) → from ≤ place → place + len ≤ from + size → ReadsWithin place len old new → ReadsWithin from size old new
reads_narrower place len from size old new low high reads = (reads.0, stays_wide old.told new.told place len from size low high reads.1)

module _ {D : Type 0} (v : Device D) where
  -- ---- at each moment

  -- before the first call
  pub begins : (old : D) (P : List ℕ → Type 0) → LeavesNow (v.state old) P → LeftOnly (v.state old) (v.state old) P
  begins old P now = record { later = omega arith; each = λ c left. now c (v.only_now old c left); before = λ t c le left. inl left }

  -- one call more
  pub goes_on : (old mid new : D) (P : List ℕ → Type 0) → LeftOnly (v.state old) (v.state mid) P → Elapses (v.state mid).clock (v.state new).clock (v.state mid).left_since (v.state new).left_since (v.state new).leaves → LeavesNow (v.state new) P
      → LeftOnly (v.state old) (v.state new) P
  goes_on old mid new P so_far time now = record {
    later = omega (arith, so_far.later, time.later);
    each = λ c left. ⊎_elim (so_far.each c) (now c) (time.nothing_else (v.state old).clock c so_far.later left);
    before = λ t c le left. ⊎_elim (so_far.before t c le) (λ here. inr (now c here)) (time.nothing_else t c (omega (arith, le, so_far.later)) left);
  }

  -- a call that writes nothing
  pub still : (old new : D) (P : List ℕ → Type 0) → LeavesNow (v.state old) P → Elapses (v.state old).clock (v.state new).clock (v.state old).left_since (v.state new).left_since (v.state new).leaves → ((c : List ℕ) → (v.state new).leaves c → (v.state old).leaves c)
      → LeftOnly (v.state old) (v.state new) P
  still old new P now time fewer = goes_on old old new P (begins old P now) time (λ c left. now c (fewer c left))

  -- some calls, and then others
  pub joined : (old mid new : D) (P Q R : List ℕ → Type 0) → LeftOnly (v.state old) (v.state mid) P → LeftOnly (v.state mid) (v.state new) Q → ((c : List ℕ) → P c → R c) → ((c : List ℕ) → Q c → R c)
      → LeftOnly (v.state old) (v.state new) R
  joined old mid new P Q R first second from_first from_second = record {
    later = omega (arith, first.later, second.later);
    each = λ c left. ⊎_elim (λ past. from_first c (first.each c past)) (from_second c) (second.before (v.state old).clock c first.later left);
    before = λ t c le left. ⊎_elim (λ past. ⊎_elim (λ old_one. inl old_one) (λ here. inr (from_first c here)) (first.before t c le past)) (λ here. inr (from_second c here)) (second.before t c (omega (arith, le, first.later)) left);
  }

  pub weaker : (old new : D) (P Q : List ℕ → Type 0) → LeftOnly (v.state old) (v.state new) P → ((c : List ℕ) → P c → Q c) → LeftOnly (v.state old) (v.state new) Q
  weaker old new P Q only so = record { later = only.later; each = λ c left. so c (only.each c left); before = λ t c le left. ⊎_elim (λ past. inl past) (λ here. inr (so c here)) (only.before t c le left) }

  -- what holds at each moment holds now
  pub holds_now : (old new : D) (P : List ℕ → Type 0) → LeftOnly (v.state old) (v.state new) P → LeavesNow (v.state new) P
  holds_now old new P only c here = only.each c (v.counts_now new (v.state old).clock c only.later here)

  -- ---- outside a range

  pub within_now : (old : D) (place len : ℕ) → LeavesNow (v.state old) (IsWithin (v.state old) place len)
  within_now old place len c left = (c, left, stays_itself c place len)

  -- one step more, within the same range
  pub within_on : (old mid new : D) (place len : ℕ) (Q : List ℕ → Type 0) → LeftOnly (v.state old) (v.state mid) (IsWithin (v.state old) place len) → LeftOnly (v.state mid) (v.state new) Q → ((c : List ℕ) → Q c → IsWithin (v.state mid) place len c)
      → LeftOnly (v.state old) (v.state new) (IsWithin (v.state old) place len)
  within_on old mid new place len Q first second is =
      joined old mid new (IsWithin (v.state old) place len) Q (IsWithin (v.state old) place len) first second (λ c left. left) (λ c q. on c (is c q))
    where
      on : (c : List ℕ) → IsWithin (v.state mid) place len c → IsWithin (v.state old) place len c
      on c (b, left, stays) = let before = holds_now old mid (IsWithin (v.state old) place len) first b left in (before.0, before.1, stays_on before.0 b c place len before.2 stays)

  pub narrower : (old : D) (place len from size : ℕ) (c : List ℕ) → from ≤ place → place + len ≤ from + size → IsWithin (v.state old) place len c → IsWithin (v.state old) from size c
  narrower old place len from size c low high (a, left, stays) = (a, left, stays_wider a c place len from size low high stays)

  -- nothing but a range changes, in what reads and in each image
  pub record Changes (place len : ℕ) (old new : D) : Type 0 where
    pub images : LeftOnly (v.state old) (v.state new) (IsWithin (v.state old) place len)
    pub reads : ReadsWithin place len (v.state old) (v.state new)

  -- in a call that writes nothing
  pub unchanged : (place len : ℕ) (old new : D) → Elapses (v.state old).clock (v.state new).clock (v.state old).left_since (v.state new).left_since (v.state new).leaves → ((c : List ℕ) → (v.state new).leaves c → (v.state old).leaves c) → (v.state new).told ≡ (v.state old).told → Changes place len old new
  unchanged place len old new time fewer same = record {
    images = still old new (IsWithin (v.state old) place len) (within_now old place len) time fewer;
    reads = reads_same place len (v.state old) (v.state new) same;
  }

  -- in a call that writes within the range
  pub changed : (place len from size : ℕ) (old new : D) → place ≤ from → from + size ≤ place + len → LeftOnly (v.state old) (v.state new) (IsWithin (v.state old) from size) → ReadsWithin from size (v.state old) (v.state new) → Changes place len old new
  changed place len from size old new low high images reads = record {
    images = weaker old new (IsWithin (v.state old) from size) (IsWithin (v.state old) place len) images (λ c within. narrower old from size place len c low high within);
    reads = reads_narrower from size place len (v.state old) (v.state new) low high reads;
  }

  pub changes_on : (place len : ℕ) (old mid new : D) → Changes place len old mid → Changes place len mid new → Changes place len old new
  changes_on place len old mid new first second = record {
    images = within_on old mid new place len (IsWithin (v.state mid) place len) first.images second.images (λ c within. within);
    reads = reads_on place len (v.state old) (v.state mid) (v.state new) first.reads second.reads;
  }

  -- ---- after a sync

  -- the one image that a crash leaves
  pub record Stands (d : D) (P : List ℕ → Type 0) : Type 0 where
    pub image : List ℕ
    pub tells : (v.state d).told ≡ Some image
    pub only : Only image (v.state d).leaves
    pub has : P image

  -- where P held at each moment
  pub stands : (old new : D) (P : List ℕ → Type 0) → LeftOnly (v.state old) (v.state new) P → IsSome (v.state new).told → IsStable (v.state new) → Stands new P
  stands old new P run tells stable =
      let there = some_there (v.state new).told tells in
      record {
        image = there.0;
        tells = there.1;
        only = told_at (v.state new).told there.0 (λ image. Only image (v.state new).leaves) there.1 stable;
        has = holds_now old new P run there.0 (told_at (v.state new).told there.0 (v.state new).leaves there.1 (v.reads_an_image new));
      }
