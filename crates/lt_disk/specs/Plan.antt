-- How a disk in memory fails: its calls are counted from 1, and those with a listed number fail, and all behind a last one.
use Rattle.std.specs.Prelude.{Bool, IsTrue, List, [], false, if◌then◌else◌, min, nat_eq, nat_lt, not, ℕ, ◌&&◌, ◌++◌, ◌+◌, ◌-◌, ◌^◌, ◌||◌, ◌≡◌, ◌≤◌}
use Rattle.std.specs.List.{list_any}

pub record Plan : Type 0 where
  pub made : ℕ
  pub failing : List ℕ
  pub last : ℕ
  pub faults : ℕ

-- a count goes up, and stays at its greatest value
abbrev pub counted_by : ℕ → ℕ → ℕ
counted_by n more = min (n + more) (2 ^ 64 - 1)

abbrev pub counted : ℕ → ℕ
counted n = counted_by n 1

-- nothing was called, and nothing fails
abbrev pub no_plan : Plan
no_plan = record { made = 0; failing = []; last = 2 ^ 64 - 1; faults = 0 }

abbrev pub listing : Plan → List ℕ → Plan
listing p calls = record p { failing = p.failing ++ calls }

-- once so many further calls were made all fail, or sooner where that was asked before
abbrev pub stopping : Plan → ℕ → Plan
stopping p calls = record p { last = min p.last (counted_by p.made calls) }

abbrev pub fails_next : Plan → Bool
fails_next p = nat_lt p.last (counted p.made) || list_any (nat_eq (counted p.made)) p.failing

abbrev pub with_fault : Plan → Plan
with_fault p = record p { faults = counted p.faults }

-- a call that fails where it is to fail
abbrev pub after_call : Plan → Plan
after_call p = record { made = counted p.made; failing = p.failing; last = p.last; faults = if fails_next p then counted p.faults else p.faults }

-- a call fails exactly where it is to fail, and is counted
abbrev pub GoesByPlan : Plan → Plan → Bool → Type 0
GoesByPlan old new failed = (failed ≡ fails_next old) × (new ≡ after_call old)

-- a call that failed and was not to fail found no memory
abbrev pub lacked : Plan → Bool → Bool
lacked p failed = failed && not (fails_next p)

-- The same where a call may find no memory, which is a fault too, and counts as a lack. So does a refused one that finds none.
pub record GoesUnlessLacking (old new : Plan) (lacks lacks' : ℕ) (failed : Bool) : Type 0 where
  pub refused : IsTrue (fails_next old) → IsTrue failed
  pub plan : new ≡ (if lacked old failed then with_fault (after_call old) else after_call old)
  pub lack : IsTrue (lacked old failed) → lacks' ≡ counted lacks
  pub none : failed ≡ false → lacks' ≡ lacks

-- where no call is to fail, so many failed
abbrev pub FailsOnly : Plan → ℕ → Type 0
FailsOnly p count = p.failing ≡ [] → 2 ^ 64 - 1 ≤ p.last → p.faults ≡ count
