-- What the readers answer.
use Rattle.std.specs.Prelude.{List, None, Option, Some, ℕ, ◌≡◌}
use Rattle.std.specs.declared.result.Result.{Result}
use Rattle.std.specs.declared.result.Result.TheVariants.{Err, Ok}
use Rattle.lt_terms.specs.declared.Format.TheVariants as format
use Rattle.lt_terms.specs.Value.{Value}
use Rattle.lt_terms.specs.Log.{Found, HasNoValue, IsFound, IsValueFront}
use Rattle.lt_records.specs.declared.refusal.ValueRefusal.{ValueRefusal}
use Rattle.lt_records.specs.declared.refusal.ValueRefusal.TheVariants as refusals
use Rattle.lt_records.specs.declared.reading.fault.Stop.{Stop}
use Rattle.lt_records.specs.declared.reading.fault.Stop.TheVariants as stops

-- where reading stopped, it gives nothing, unless memory ran out
abbrev pub Stops : {A : Type 0} → Option A → Stop → Type 0
Stops read stops.Memory = Unit {0}
Stops read stops.Unlike = read ≡ None

-- a reader answered what reading gives, as its callers see it, and left the rest
abbrev pub Gives : {X A : Type 0} → (X → A) → Option (A × List ℕ) → Result X Stop → List ℕ → Type 0
Gives view read (Ok x) left = read ≡ Some (view x, left)
Gives view read (Err e) left = Stops read e

-- the same of a whole text
abbrev pub GivesWhole : {X A : Type 0} → (X → A) → Option A → Result X Stop → Type 0
GivesWhole view read (Ok x) = read ≡ Some (view x)
GivesWhole view read (Err e) = Stops read e

-- what a caller is told
abbrev pub refusal_of : Stop → ValueRefusal
refusal_of stops.Unlike = refusals.NotAValue
refusal_of stops.Memory = refusals.Memory

-- no value stands at the front; out of memory is always allowed
abbrev pub ValueRefused : List ℕ → ValueRefusal → Type 0
ValueRefused bytes refusals.NotAValue = HasNoValue bytes
ValueRefused bytes refusals.Memory = Unit {0}

-- no other value stands at the front
abbrev pub NoOtherValue : List ℕ → Value → Type 0
NoOtherValue bytes v = (other : Value) (n : ℕ) → IsValueFront bytes other n → other ≡ v

-- nothing else stands at the front
abbrev pub NothingElse : List ℕ → Found → Type 0
NothingElse bytes found = (other : Found) → IsFound format.One bytes other → other ≡ found
