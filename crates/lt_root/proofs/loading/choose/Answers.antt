use Rattle.std.proofs.Common.{List, None, Option, Some, false, ℕ, ◌≡◌}
use Rattle.std.specs.Prelude.{IfNone, IfSome, IsTrue}
use Rattle.std.proofs.lemmas.Bool.{both_ways}
use Rattle.std.proofs.lemmas.Result.{err_from_is_err_and}
use Rattle.lt_terms.specs.declared.Root.{Root}
use Rattle.lt_world.specs.Slots.{IsSlot, is_open}
use Rattle.lt_root.proofs.Choosing.{second_hurt}
use Rattle.lt_root.proofs.loading.choose.Goals as goal

-- where the first slot was read with no refusal and is open, it says a root
first_says : (slots : List ℕ) (o : Option Root) → IfNone o (is_open slots 0 ≡ false) → IfSome o (λ r. IsSlot slots r × (r.slot ≡ 0)) → IsTrue (is_open slots 0) → (r : Root) × (r.slot ≡ 0) × IsSlot slots r
first_says slots None closed says gate = absurd (both_ways (is_open slots 0) closed gate)
first_says slots (Some r) closed says gate = (r, says.1, says.0)

pub returns-in_err-second-clause-refused : goal.returns-in_err-second-clause-refused
returns-in_err-second-clause-refused c =
    let slots = c.args.slots.now in
    let p = err_from_is_err_and c.from_residual-in_err-second.result c.from_residual-in_err-second.ensures.1 in
    rw (p.1, p.2) (second_hurt slots _ (first_says slots c.in_ok-first.first c.in_ok-first.ensures.closed c.in_ok-first.ensures.open) c.in_err-second.ensures.damaged)
