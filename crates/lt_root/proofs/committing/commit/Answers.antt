use Rattle.std.proofs.Common.{inl, inr, refl, ℕ, ◌≡◌, ◌⊎◌}
use Rattle.std.specs.Prelude.{Err}
use Rattle.lt_disk.proofs.Moments.{told_at, where_told}
use Rattle.lt_world.specs.Disk.{HasCause, Rose}
use Rattle.lt_root.specs.Steps.{of_write}
use Rattle.lt_root.specs.declared.refusal.CommitFault.{CommitFault}
use Rattle.lt_root.specs.declared.refusal.CommitFault.TheVariants as faults
use Rattle.lt_root.proofs.committing.commit.Goals as goal

either : (e : CommitFault) (before now : ℕ) {L : Type 0} → HasCause before now (of_write {A = Unit {0}} (Err e)) → (e ≡ faults.Read → L) → Rose before now ⊎ L
either faults.Read before now h f = inr (f refl)
either faults.Write before now h f = inl h.failed

pub returns-in-Err-clause-unwritten : goal.returns-in-Err-clause-unwritten
returns-in-Err-clause-unwritten g c =
    where_told (g.D.Disk.state c.args.disk.now).told _ (λ seen tells behind some has.
    either c.in-Err.field-0 _ _ c.in-Err.ensures.written (told_at (g.D.Disk.state c.args.disk.now).told seen _ tells c.in-Err.ensures.unwritten behind some has))
