-- Reads one after the other.
use Rattle.std.proofs.Common.{List, arith, refl, subst, sym, ℕ, ◌+◌, ◌∙◌, ◌≡◌, ◌≤◌, ◌↔◌}
use Rattle.std.specs.Prelude.{IsSome, Option}
use Rattle.lt_world.specs.Disk.{CountsOne, DiskGoes, DiskState, Elapses, LeftOnly, Only}
use Rattle.lt_disk.specs.Within.{IsStable}
use Rattle.lt_disk.proofs.Moments.{Device, begins, holds_now, joined, still, told_at, where_told}
use Rattle.lt_store.specs.Looking.{LooksOnly}

-- ---- what calls leave of a disk

stays_told : (old new : Option (List ℕ)) → new ≡ old → IsSome old ↔ IsSome new
stays_told old new same = subst (λ o. IsSome old ↔ IsSome o) (sym same) ((λ there. there), (λ there. there))

goes_nowhere : (d : DiskState) → DiskGoes d d
goes_nowhere d = record { stays = ((λ there. there), (λ there. there)); faults = omega arith; write_faults = omega arith; reads = omega arith; clock = omega arith; past = λ t image le left. left }

pub goes_on : (old mid new : DiskState) → DiskGoes old mid → DiskGoes mid new → DiskGoes old new
goes_on old mid new first second = record {
  stays = ((λ there. second.stays.0 (first.stays.0 there)), (λ there. first.stays.1 (second.stays.1 there)));
  faults = omega (arith, first.faults, second.faults);
  write_faults = omega (arith, first.write_faults, second.write_faults);
  reads = omega (arith, first.reads, second.reads);
  clock = omega (arith, first.clock, second.clock);
  past = λ t image le left. second.past t image (omega (arith, le, first.clock)) (first.past t image le left);
}

-- ---- reads

-- one read at most
pub looks_once : (old new : DiskState) → new.told ≡ old.told → LeftOnly old new old.leaves → CountsOne old.reads new.reads → new.write_faults ≡ old.write_faults → DiskGoes old new → LooksOnly 1 old new
looks_once old new told images reads write_faults goes = record { told = told; images = images; reads = reads.1; write_faults = write_faults; goes = goes }

pub looks_within : (n k : ℕ) (old new : DiskState) → n ≤ k → LooksOnly n old new → LooksOnly k old new
looks_within n k old new le looks = record { told = looks.told; images = looks.images; reads = omega (arith, looks.reads, le); write_faults = looks.write_faults; goes = looks.goes }

module _ {D : Type 0} (v : Device D) where
  -- a call of `read_at`
  pub looks_at : (old new : D) → (v.state new).told ≡ (v.state old).told → ((c : List ℕ) → (v.state new).leaves c → (v.state old).leaves c)
      → Elapses (v.state old).clock (v.state new).clock (v.state old).left_since (v.state new).left_since (v.state new).leaves → (v.state old).faults ≤ (v.state new).faults
      → CountsOne (v.state old).reads (v.state new).reads → (v.state new).write_faults ≡ (v.state old).write_faults → LooksOnly 1 (v.state old) (v.state new)
  looks_at old new same fewer time faults reads write_faults = record {
    told = same;
    images = still v old new (v.state old).leaves (λ image left. left) time fewer;
    reads = reads.1;
    write_faults = write_faults;
    goes = record {
      stays = stays_told (v.state old).told (v.state new).told same;
      faults = faults;
      write_faults = omega (arith, write_faults);
      reads = reads.0;
      clock = time.later;
      past = λ t image le left. time.keeps t image le left;
    };
  }

  pub looks_nowhere : (d : D) → LooksOnly 0 (v.state d) (v.state d)
  looks_nowhere d = record { told = refl; images = begins v d (v.state d).leaves (λ image left. left); reads = omega arith; write_faults = refl; goes = goes_nowhere (v.state d) }

  pub looks_on : (n k : ℕ) (old mid new : D) → LooksOnly n (v.state old) (v.state mid) → LooksOnly k (v.state mid) (v.state new) → LooksOnly (n + k) (v.state old) (v.state new)
  looks_on n k old mid new first second = record {
    told = second.told ∙ first.told;
    images = joined v old mid new (v.state old).leaves (v.state mid).leaves (v.state old).leaves first.images second.images (λ image left. left) (λ image left. holds_now v old mid (v.state old).leaves first.images image left);
    reads = omega (arith, first.reads, second.reads);
    write_faults = second.write_faults ∙ first.write_faults;
    goes = goes_on (v.state old) (v.state mid) (v.state new) first.goes second.goes;
  }

  -- after a sync a crash leaves what reads, also behind reads
  pub stable_on : (old new : D) → (v.state new).told ≡ (v.state old).told → LeftOnly (v.state old) (v.state new) (v.state old).leaves → IsStable (v.state old) → IsStable (v.state new)
  stable_on old new same images stable = where_told (v.state new).told _ (λ image tells c left.
      told_at (v.state old).told image (λ a. Only a (v.state old).leaves) (sym same ∙ tells) stable c (holds_now v old new (v.state old).leaves images c left))
