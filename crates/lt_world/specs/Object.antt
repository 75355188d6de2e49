-- What an outside object exposes of its bytes, and what its faults leave of them.
use Rattle.std.specs.Prelude.{IfSome, IsSome, List, MatchResult, Option, Result, Some, length, ℕ, ◌++◌, ◌+◌, ◌↔◌, ◌≡◌, ◌≤◌}
use Rattle.std.specs.Option.{option_or}

-- ---- what an object tells of its content, if it tells

-- no call changes whether it is told
abbrev pub StaysTold : {A : Type 0} → Option A → Option A → Type 0
StaysTold old new = IsSome old ↔ IsSome new

-- What an object told of its bytes when it first failed, as their number: a fault keeps it, where there was none before.
abbrev pub FailsAt : Option (List ℕ) → Option ℕ → Option ℕ → Type 0
FailsAt told at at' = IfSome told (λ bs. at' ≡ option_or at (Some (length bs)))

abbrev pub KeepsFirstFault : {T E : Type 0} → Option (List ℕ) → Option ℕ → Option ℕ → Result T E → Type 0
KeepsFirstFault told at at' r = MatchResult r (λ _. at' ≡ at) (λ _. FailsAt told at at')

-- ---- a source, or a sink

-- What it tells of its bytes, those that are left or those that it holds; how often it failed; and how many bytes it told when it first did.
pub record BytesState : Type 0 where
  pub told : Option (List ℕ)
  pub faults : ℕ
  pub failed_at : Option ℕ

-- What calls leave of it.
pub record BytesGo (old new : BytesState) : Type 0 where
  -- it exposes its contents as before
  pub stays : StaysTold old.told new.told
  -- the count of faults did not fall
  pub faults : old.faults ≤ new.faults

-- ---- what a call sees of the outside, and what it went through

abbrev pub IsFront : List ℕ → List ℕ → Type 0
IsFront a b = (rest : List ℕ) × (b ≡ a ++ rest)
