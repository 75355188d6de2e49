-- How an object in memory fails: its calls are counted from 1, and those with a listed number fail.
use Rattle.std.specs.Prelude.{Bool, IsTrue, List, [], if◌then◌else◌, min, nat_eq, not, ℕ, ◌&&◌, ◌++◌, ◌+◌, ◌-◌, ◌^◌, ◌≡◌}
use Rattle.std.specs.List.{list_any}

pub record Plan : Type 0 where
  pub made : ℕ
  pub failing : List ℕ
  pub faults : ℕ

-- a count goes up by one, and stays at its greatest value
abbrev pub counted : ℕ → ℕ
counted n = min (n + 1) (2 ^ 64 - 1)

-- nothing was called, and nothing fails
abbrev pub no_plan : Plan
no_plan = record { made = 0; failing = []; faults = 0 }

abbrev pub listing : Plan → List ℕ → Plan
listing p calls = record { made = p.made; failing = p.failing ++ calls; faults = p.faults }

abbrev pub fails_next : Plan → Bool
fails_next p = list_any (nat_eq (counted p.made)) p.failing

abbrev pub with_fault : Plan → Plan
with_fault p = record { made = p.made; failing = p.failing; faults = counted p.faults }

-- a call that fails where its number is listed
abbrev pub after_call : Plan → Plan
after_call p = record { made = counted p.made; failing = p.failing; faults = if fails_next p then counted p.faults else p.faults }

-- a call fails exactly where its number is listed, and is counted
abbrev pub GoesByPlan : Plan → Plan → Bool → Type 0
GoesByPlan old new failed = (failed ≡ fails_next old) × (new ≡ after_call old)

-- where nothing is listed, so many failed
abbrev pub FailsOnly : Plan → ℕ → Type 0
FailsOnly p count = p.failing ≡ [] → p.faults ≡ count

-- a call that failed and was not listed found no memory
abbrev pub lacked : Plan → Bool → Bool
lacked p failed = failed && not (fails_next p)

-- The same where a call may find no memory, which is a fault too, and counts as a lack. A listed call fails.
pub record GoesUnlessLacking (old new : Plan) (lacks lacks' : ℕ) (failed : Bool) : Type 0 where
  pub listed : IsTrue (fails_next old) → IsTrue failed
  pub plan : new ≡ (if lacked old failed then with_fault (after_call old) else after_call old)
  pub lack : lacks' ≡ (if lacked old failed then counted lacks else lacks)
