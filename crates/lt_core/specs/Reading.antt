-- Reading off the front of some bytes.
use Rattle.std.specs.Prelude.{List, None, Option, Some, drop, if◌then◌else◌, length, nat_lt, take, ℕ, ◌≡◌}
use Rattle.std.specs.declared.result.Result.{Result}
use Rattle.std.specs.declared.result.Result.TheVariants.{Err, Ok}

-- the first bytes, so many of them, and the others; none where there are too few
abbrev pub front : ℕ → List ℕ → Option (List ℕ × List ℕ)
front n bytes = if nat_lt (length bytes) n then None else Some (take n bytes, drop n bytes)

-- A call of a reader answers what reading the bytes left gives, as its callers see it, and leaves the rest.
-- Where reading gives nothing it answers an error, and no byte is taken.
abbrev pub Reads : {X A E : Type 0} → (X → A) → Option (A × List ℕ) → Result X E → List ℕ → List ℕ → Type 0
Reads view read (Ok x) old new = read ≡ Some (view x, new)
Reads view read (Err e) old new = (read ≡ None) × (new ≡ old)
