-- Where a stream stands, and what taking its records leaves.
use Rattle.std.specs.Prelude.{Bool, List, None, Option, Some, IfSome, IsTrue, [], drop, false, length, true, ℕ, ⊤, ◌&&◌, ◌+◌, ◌++◌, ◌<◌, ◌==◌, ◌∷◌, ◌≡◌, ◌≤◌}
use Rattle.lt_terms.specs.declared.Format.TheVariants as format
use Rattle.lt_tables.specs.Fair as fair
use Rattle.lt_world.specs.Feed.{Feed, stream_bytes}
use Rattle.lt_tables.specs.Fair.{breaks_at, point_after}
use Rattle.lt_terms.specs.Key.{Range}
use Rattle.lt_terms.specs.Log.{Change, Item, change_key, changes_of, header_item, is_item, spelled}
use Rattle.lt_tables.specs.Pump.{StreamAt, Stops, StopsBy, Takes, moved_by}
use Rattle.lt_tables.specs.Pump as replies
use Rattle.lt_tables.specs.Schema.{Catalogue}
use Rattle.lt_fair.specs.View.{header_of, point_in, view_unfair}
use Rattle.lt_fair.specs.declared.refusal.Unfair.{Unfair}
use Rattle.lt_pump.specs.Given.{all_given}
use Rattle.lt_pump.specs.Reads.{StandAhead}
use Rattle.lt_pump.specs.View.{view_stop}
use Rattle.lt_pump.specs.declared.position.Position.{Position}
use Rattle.lt_pump.specs.declared.stop.Stop.{Stop}

abbrev pub stream_of : Position → StreamAt
stream_of p = record { header = header_of p.checker; offset = p.offset; point = point_in p.checker; closed = false }

-- the streams are numbered in order from a number on, and their headers have frames
abbrev pub are_streams : ℕ → List StreamAt → Bool
are_streams n [] = true
are_streams n (a ∷ ss) = a.header.stream == n && is_item format.One (header_item a.header) && are_streams (n + 1) ss

abbrev pub low_of : StreamAt → List ℕ
low_of a = a.header.range.low

abbrev pub range_of : StreamAt → Range
range_of a = a.header.range

-- a stream that goes on at a place, from a point
abbrev pub started : ℕ → fair.Point → StreamAt → StreamAt
started offset point a = record a { offset = offset; point = point }

-- the bytes of a stream behind where it stands
abbrev pub bytes_behind : Feed → StreamAt → List ℕ
bytes_behind f a = drop a.offset (stream_bytes f a.header.stream)

-- the rule that an item breaks where a stream stands
abbrev pub breaks_there : Catalogue → StreamAt → Item → Option fair.Unfair
breaks_there cat a i = breaks_at a.header cat a.closed a.point i

-- what the check keeps after one more item
abbrev pub with_item : StreamAt → Item → StreamAt
with_item a i = record a { point = point_after a.point i }

-- another change: of another key, or at another timestamp
abbrev pub IsOther : Change → Change → Type 0
IsOther c d = (change_key d ≡ change_key c) → d.ts ≡ c.ts → ⊥

-- An item that breaks nothing was taken, and its changes given; one that breaks a rule leaves all as it was.
abbrev pub Keeps : Catalogue → List (Range × ℕ) → StreamAt → StreamAt → List (List Change) → List (List Change) → Item → Option Unfair → Type 0
Keeps cat subs a b held held' i None = (breaks_there cat a i ≡ None) × (b ≡ moved_by (i ∷ []) a) × (held' ≡ all_given (changes_of (i ∷ [])) subs held)
Keeps cat subs a b held held' i (Some u) = (breaks_there cat a i ≡ Some (view_unfair u)) × (b ≡ a) × (held' ≡ held)

-- An item was taken from the front of where the stream stood, and these bytes stand behind it.
pub record TakesOne (told : Option Feed) (cat : Catalogue) (subs : List (Range × ℕ)) (a b : StreamAt) (held held' : List (List Change)) (left : List ℕ) : Type 0 where
  pub item : Item
  pub lawful : IsTrue (is_item format.One item)
  pub kept : Keeps cat subs a b held held' item None
  pub stands : StandAhead told a.header.stream a.offset (spelled item ++ left)

-- one step: an item was taken, or there is a reason to take none
abbrev pub Steps : Option Feed → Catalogue → List (Range × ℕ) → StreamAt → StreamAt → List (List Change) → List (List Change) → List ℕ → Option Stop → Type 0
Steps told cat subs a b held held' left None = TakesOne told cat subs a b held held' left
Steps told cat subs a b held held' left (Some stop) = (b ≡ a) × (held' ≡ held) × IfSome told (λ f. StopsBy f cat a (bytes_behind f a) (view_stop stop))

-- Each item has a frame, and breaks no rule where the stream stands behind those before it.
abbrev pub AreFair : Catalogue → StreamAt → List Item → Type 0
AreFair cat a [] = ⊤
AreFair cat a (i ∷ items) = IsTrue (is_item format.One i) × (breaks_there cat a i ≡ None) × AreFair cat (moved_by (i ∷ []) a) items

-- Some fair items were taken of a stream, and their changes given. Where the feed tells, they stand behind where the stream stood.
pub record Took (told : Option Feed) (cat : Catalogue) (subs : List (Range × ℕ)) (a b : StreamAt) (held held' : List (List Change)) : Type 0 where
  pub items : List Item
  pub fair : AreFair cat a items
  pub moved : b ≡ moved_by items a
  pub given : held' ≡ all_given (changes_of items) subs held
  pub takes : IfSome told (λ f. Takes f cat a items (bytes_behind f b))

-- So many were taken, at most as many as asked, and taking stopped for this.
pub record Ran (told : Option Feed) (cat : Catalogue) (subs : List (Range × ℕ)) (a b : StreamAt) (held held' : List (List Change)) (asked records : ℕ) (stop : replies.Stop) : Type 0 where
  pub took : Took told cat subs a b held held'
  pub number : records ≡ length took.items
  pub few : records ≤ asked
  pub stops : IfSome told (λ f. Stops f cat b asked records (bytes_behind f b) stop)

-- Where a fault ends it, fewer were taken than asked.
pub record RanSome (told : Option Feed) (cat : Catalogue) (subs : List (Range × ℕ)) (a b : StreamAt) (held held' : List (List Change)) (asked : ℕ) : Type 0 where
  pub took : Took told cat subs a b held held'
  pub fewer : length took.items < asked
