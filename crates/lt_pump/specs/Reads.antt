-- What reading ahead goes by.
use Rattle.std.specs.Prelude.{Bool, List, Option, IfSome, drop, false, true, ℕ, ◌++◌, ◌≡◌}
use Rattle.lt_terms.specs.declared.Format.TheVariants as format
use Rattle.lt_world.specs.Feed.{Feed, stream_bytes}
use Rattle.lt_terms.specs.Log.{Found, IsFound, malformed, partial, whole}
use Rattle.lt_pump.specs.declared.ahead.Ahead.{Ahead}

-- the bytes that are not taken
abbrev pub left_of : Ahead → List ℕ
left_of a = drop a.at a.bytes.items

-- the bytes stand in a stream from a place on
abbrev pub IsAhead : Feed → ℕ → ℕ → List ℕ → Type 0
IsAhead feed s at bytes = (rest : List ℕ) × (drop at (stream_bytes feed s) ≡ bytes ++ rest)

-- the same where the feed tells
abbrev pub StandAhead : Option Feed → ℕ → ℕ → List ℕ → Type 0
StandAhead told s at bytes = IfSome told (λ f. IsAhead f s at bytes)

-- more bytes stand there; or none are left behind these
abbrev pub More : Bool → Feed → ℕ → ℕ → List ℕ → List ℕ → Type 0
More true feed s at old new = IsAhead feed s at new
More false feed s at old new = (new ≡ old) × (drop at (stream_bytes feed s) ≡ old)

-- a frame that is found whole stands in the bytes
abbrev pub IsWhole : Found → List ℕ → Type 0
IsWhole (whole i n) bytes = IsFound format.One bytes (whole i n)
IsWhole partial bytes = Unit {0}
IsWhole (malformed b) bytes = Unit {0}

-- What stands in a stream from a place on, where these bytes were read. Where they are too few, they are all.
pub record FoundAhead (feed : Feed) (s at : ℕ) (bytes : List ℕ) (x : Found) : Type 0 where
  pub ahead : IsAhead feed s at bytes
  pub found : IsFound format.One (drop at (stream_bytes feed s)) x
  pub all : x ≡ partial → drop at (stream_bytes feed s) ≡ bytes
