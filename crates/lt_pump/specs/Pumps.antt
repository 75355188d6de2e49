-- What a pump stands for, and what its calls leave.
use Rattle.std.specs.Prelude.{List, Option, Some, IfSome, map, slice_get, slice_set, ℕ, ◌≡◌, ◌≢◌}
use Rattle.lt_world.specs.Feed.{Feed}
use Rattle.lt_world.specs.Disk.{Rose}
use Rattle.lt_terms.specs.Key.{Range}
use Rattle.lt_terms.specs.Log.{Change, Header}
use Rattle.lt_tables.specs.Pump.{StreamAt, behind_header}
use Rattle.lt_tables.specs.Pump.{Attaches, IsMismatch}
use Rattle.lt_tables.specs.Schema.{Catalogue}
use Rattle.lt_pump.specs.Given.{AreBehind}
use Rattle.lt_pump.specs.Positions.{Ran, RanSome, low_of, stream_of}
use Rattle.lt_pump.specs.View.{view_stop}
use Rattle.lt_pump.specs.declared.pump.Pump.{Pump}
use Rattle.lt_pump.specs.declared.reading.Fault.{Fault}
use Rattle.lt_pump.specs.declared.reading.Fault.TheVariants as faults
use Rattle.lt_pump.specs.declared.refusal.AttachRefusal.{AttachRefusal}
use Rattle.lt_pump.specs.declared.refusal.AttachRefusal.TheVariants as refusals
use Rattle.lt_pump.specs.declared.stop.Pumped.{Pumped}

-- where each stream stands, by number
abbrev pub streams_of : Pump → List StreamAt
streams_of p = map stream_of p.positions.items

-- The streams stand behind headers, whose low bounds are those that were kept. Where the feed tells, the headers are its, and fit.
pub record HasAttached (told : Option Feed) (kept : Option (List (List ℕ))) (ss : List StreamAt) : Type 0 where
  pub headers : List Header
  pub behind : ss ≡ map behind_header headers
  pub lows : IfSome kept (λ lows. map low_of ss ≡ lows)
  pub attaches : IfSome told (λ f. Attaches f kept headers)

-- what is held stays behind the streams other than one
abbrev pub OthersStay : List StreamAt → ℕ → List (List Change) → List (List Change) → Type 0
OthersStay ss number held held' = (n : ℕ) (b : StreamAt) → slice_get ss n ≡ Some b → n ≢ number → AreBehind b held → AreBehind b held'

-- what a pump is refused by where reading a header failed
abbrev pub refusal_of : Fault → AttachRefusal
refusal_of faults.Feed = refusals.Feed
refusal_of faults.Memory = refusals.Memory

-- why no pump is made, by the feed's count of faults before and after; out of memory is always allowed
abbrev pub AttachRefused : Option Feed → Option (List (List ℕ)) → ℕ → ℕ → AttachRefusal → Type 0
AttachRefused told kept before now (refusals.Mismatch n) = (now ≡ before) × IfSome told (λ f. IsMismatch f kept n)
AttachRefused told kept before now refusals.Feed = Rose before now
AttachRefused told kept before now refusals.Memory = now ≡ before

-- A call took records of one stream, which stands behind them; the others stand as they stood.
pub record HasPumped (told : Option Feed) (cat : Catalogue) (number asked : ℕ) (subs : List (Range × ℕ)) (old new : List StreamAt) (held held' : List (List Change)) (p : Pumped) : Type 0 where
  pub stood : StreamAt
  pub stands : StreamAt
  pub known : slice_get old number ≡ Some stood
  pub moved : new ≡ slice_set old number stands
  pub ran : Ran told cat subs stood stands held held' asked p.records (view_stop p.stop)
  pub offset : p.offset ≡ stands.offset
  pub checkpoint : p.checkpoint ≡ stands.point.checkpoint

-- the same where a fault ended it
pub record HasPumpedSome (told : Option Feed) (cat : Catalogue) (number asked : ℕ) (subs : List (Range × ℕ)) (old new : List StreamAt) (held held' : List (List Change)) : Type 0 where
  pub stood : StreamAt
  pub stands : StreamAt
  pub known : slice_get old number ≡ Some stood
  pub moved : new ≡ slice_set old number stands
  pub ran : RanSome told cat subs stood stands held held' asked
