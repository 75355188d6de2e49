-- A feed: the bytes of its streams, and what its calls say of them.
use Rattle.std.specs.Prelude.{IfSome, IsTrue, List, Option, Result, [], drop, length, slice_get, take, unwrap_or, ℕ, ⊤, ◌++◌, ◌+◌, ◌<◌, ◌^◌, ◌↔◌, ◌∷◌, ◌≡◌, ◌≤◌}
use Rattle.std.specs.List.{AllByRecursion}
use Rattle.lt_terms.specs.Log.{is_read}
use Rattle.lt_world.specs.Object.{StaysTold}
use Rattle.lt_world.specs.Disk.{HasCause, Rose}
use Rattle.lt_terms.specs.declared.Format.TheVariants as format

-- ---- feeds: the bytes of each stream, by number; no stream has more than 2^63 - 1 bytes

abbrev pub Feed : Type 0
Feed = List (List ℕ)

abbrev pub AreShort : Feed → Type 0
AreShort feed = AllByRecursion (λ b. length b < 2 ^ 63) feed

abbrev pub stream_bytes : Feed → ℕ → List ℕ
stream_bytes feed s = unwrap_or (slice_get feed s) []

-- A feed only grows: stream by stream it begins with what it was. Its list of streams grows, at the end, only where format 2 is
-- read; else the number of streams stays.
abbrev pub Grows : Feed → Feed → Type 0
Grows [] [] = ⊤
Grows (old ∷ olds) (now ∷ nows) = ((more : List ℕ) × (now ≡ old ++ more)) × Grows olds nows
Grows [] (now ∷ nows) = IsTrue (is_read format.Two)
Grows (old ∷ olds) [] = ⊥

-- ---- a feed

-- it only grows, also while a call runs
abbrev pub FeedGrows : Option Feed → Option Feed → Type 0
FeedGrows old new = IfSome old (λ f. IfSome new (λ g. Grows f g))

-- the buffer's first bytes are the stream's from the offset on; none exactly where the stream has no byte there
abbrev pub FeedReads : Option Feed → ℕ → ℕ → List ℕ → ℕ → Type 0
FeedReads told s offset buf n = IfSome told (λ f. (take n buf ≡ take n (drop offset (stream_bytes f s))) × ((n ≡ 0) ↔ (length (stream_bytes f s) ≤ offset)))

-- A feed as its callers know it: what it tells of its streams, how many there are, how often it failed, and how often it was called.
pub record FeedState : Type 0 where
  pub told : Option Feed
  pub known : ℕ
  pub faults : ℕ
  pub calls : ℕ

-- What calls leave of a feed.
pub record FeedGoes (old new : FeedState) : Type 0 where
  -- it exposes its contents as before
  pub stays : StaysTold old.told new.told
  -- each stream only grew
  pub grows : FeedGrows old.told new.told
  -- no stream is gone
  pub more : old.known ≤ new.known
  -- the count of faults did not fall
  pub faults : old.faults ≤ new.faults
  -- nor that of calls
  pub calls : old.calls ≤ new.calls

-- what one call leaves of a feed
pub record FeedCalled {T E : Type 0} (old new : FeedState) (result : Result T E) : Type 0 where
  pub goes : FeedGoes old new
  pub cause : HasCause old.faults new.faults result
  pub counted : Rose old.calls new.calls
