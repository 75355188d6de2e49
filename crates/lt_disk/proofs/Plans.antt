-- What a plan of failing calls says of the count of faults.
use Rattle.std.proofs.Common.{Bool, Err, List, Ok, Result, ap, arith, if◌then◌else◌, is_err, length, length-append, refl, subst, sym, ℕ, ◌≡◌, ◌≤◌}
use Rattle.std.proofs.lemmas.List.{nil_from_length}
use Rattle.lt_world.specs.Disk.{HasCause}
use Rattle.lt_disk.specs.Plan.{FailsOnly, GoesByPlan, Plan, counted, fails_next, listing}

-- more failing calls are listed
pub still_fails_only : (p : Plan) (calls : List ℕ) (count : ℕ) → FailsOnly p count → FailsOnly (listing p calls) count
still_fails_only p calls count only none last = only (nil_from_length p.failing (omega (arith, ap length none, length-append p.failing calls))) last

cause_at : {T E : Type 0} (n : ℕ) (fails : Bool) (r : Result T E) → is_err r ≡ fails → n ≤ (if fails then counted n else n) → HasCause n (if fails then counted n else n) r
cause_at {T} {E} n fails (Ok x) is = subst (λ b. n ≤ (if b then counted n else n) → HasCause {T = T} {E = E} n (if b then counted n else n) (Ok x)) is (λ later. record { later = later; failed = tt; kept = refl })
cause_at {T} {E} n fails (Err e) is = subst (λ b. n ≤ (if b then counted n else n) → HasCause {T = T} {E = E} n (if b then counted n else n) (Err e)) is (λ later. record { later = later; failed = omega arith; kept = tt })

pub cause_by_plan : {T E : Type 0} (p q : Plan) (r : Result T E) → GoesByPlan p q (is_err r) → p.faults ≤ q.faults → HasCause p.faults q.faults r
cause_by_plan p q r goes =
    subst (λ q. p.faults ≤ q.faults → HasCause p.faults q.faults r) (sym goes.1) (cause_at p.faults (fails_next p) r goes.0)
