-- A pump: which records it takes, where their changes go, and which headers a feed has to have.
use Rattle.std.specs.Prelude.{Bool, IsNone, IsTrue, List, None, Option, Some, [], drop, false, filter, flat_map, fold, if◌then◌else◌, length, min, nat_lt, not, option_and_then, slice_get, true, ℕ, ⊤, ◌&&◌, ◌++◌, ◌+◌, ◌<◌, ◌==◌, ◌||◌, ◌↔◌, ◌∷◌, ◌≡◌, ◌⊎◌}
use Rattle.std.specs.Option.{option_map_or}
use Rattle.std.specs.List.{list_any}
use Rattle.lt_terms.specs.declared.BadFrame.{BadFrame}
use Rattle.lt_terms.specs.Log.{Change, Header, IsFound, Item, change_key, close_item, is_change, is_item, is_read, malformed, partial, spelled, whole}
use Rattle.lt_terms.specs.Key.{Range, below, in_range, same_key}
use Rattle.lt_world.specs.Feed.{Feed, stream_bytes}
use Rattle.lt_tables.specs.Fair.{FirstMissing, HasHeader, Point, SuccessorsStand, Unfair, breaks_at, has_change_shape, header_length, is_closed, point_after}
use Rattle.lt_tables.specs.Schema.{Catalogue, registered, table_numbered, when}

-- ---- why a pump stops

pub data Stop : Type 0 where
  at_count : Stop
  at_end : Stop
  at_partial : Stop
  at_malformed : BadFrame → Stop
  at_unfair : Unfair → Stop
  at_successor : ℕ → Stop

-- ---- the durable part

-- a partition: its low bound, how far it is durable, and the ids of its deltas, rising
pub record Part : Type 0 where
  pub low : List ℕ
  pub resume : ℕ
  pub ids : List ℕ

-- ---- the state

-- where a stream stands, what its check keeps there, and whether that is behind a close
pub record StreamAt : Type 0 where
  pub header : Header
  pub offset : ℕ
  pub point : Point
  pub closed : Bool

-- ---- partitions and checkpoints

-- the partition of a key: the last one whose low bound is not above it
abbrev pub part_of : List Range → List ℕ → ℕ
part_of [] key = 0
part_of (r ∷ rs) key = if in_range key r then 0 else 1 + part_of rs key

-- each with its number, from one on
abbrev pub numbered_from : {A : Type 0} → ℕ → List A → List (ℕ × A)
numbered_from n [] = []
numbered_from n (x ∷ xs) = (n, x) ∷ numbered_from (n + 1) xs

-- ---- restart points

abbrev pub last_of : {A : Type 0} → List A → Option A
last_of [] = None
last_of (x ∷ []) = Some x
last_of (x ∷ y ∷ xs) = last_of (y ∷ xs)

abbrev pub no_point : ℕ → Point
no_point t = record { checkpoint = t; greatest = 0; window = [] }

abbrev pub behind_header : Header → StreamAt
behind_header h = record { header = h; offset = header_length h; point = no_point h.from; closed = false }

-- ---- what a pump takes

-- the list with a name in its place, once
abbrev pub put_name : List ℕ × ℕ → List (List ℕ × ℕ) → List (List ℕ × ℕ)
put_name n [] = n ∷ []
put_name n (m ∷ ms) = if below n.0 m.0 || (same_key n.0 m.0 && nat_lt m.1 n.1) then n ∷ m ∷ ms else (if same_key n.0 m.0 && n.1 == m.1 then m ∷ ms else m ∷ put_name n ms)

-- a change is delivered to the partition of its key where its timestamp is above how far that is durable
abbrev pub delivered : List Change → Range → Part → List (List ℕ × ℕ) → List (List ℕ × ℕ)
delivered cs r p names = fold (λ ns c. if in_range (change_key c) r && nat_lt p.resume c.ts then put_name (change_key c, c.ts) ns else ns) names cs

abbrev pub all_delivered : List Change → List Range → List Part → List (List (List ℕ × ℕ)) → List (List (List ℕ × ℕ))
all_delivered cs (r ∷ rs) (p ∷ ps) (ns ∷ rest) = delivered cs r p ns ∷ all_delivered cs rs ps rest
all_delivered cs rs ps rest = rest

abbrev pub moved_by : List Item → StreamAt → StreamAt
moved_by items a = record a { offset = a.offset + length (flat_map spelled items); point = fold point_after a.point items; closed = a.closed || is_closed items }

-- The items that stand at a stream's place and that its check takes, one after another: each is whole, breaks no rule by what is
-- kept, and where it closes the stream its successors stand.
abbrev pub Takes : Feed → Catalogue → StreamAt → List Item → List ℕ → Type 0
Takes feed cat a [] rest = rest ≡ drop a.offset (stream_bytes feed a.header.stream)
Takes feed cat a (i ∷ items) rest = IsTrue (is_item a.header.format i) × ((more : List ℕ) × (drop a.offset (stream_bytes feed a.header.stream) ≡ spelled i ++ more))
    × (breaks_at a.header cat a.closed a.point i ≡ None) × SuccessorsStand feed a.header a.point.checkpoint i × Takes feed cat (moved_by (i ∷ []) a) items rest

-- why a pump stops that has taken its items: it took as many as asked, or what stands next tells
abbrev pub StopsBy : Feed → Catalogue → StreamAt → List ℕ → Stop → Type 0
StopsBy feed cat a rest at_count = ⊥
StopsBy feed cat a rest at_end = rest ≡ []
StopsBy feed cat a rest at_partial = (0 < length rest) × IsFound a.header.format rest partial
StopsBy feed cat a rest (at_malformed b) = IsFound a.header.format rest (malformed b)
StopsBy feed cat a rest (at_unfair u) = (i : Item) × (n : ℕ) × IsFound a.header.format rest (whole i n) × (breaks_at a.header cat a.closed a.point i ≡ Some u)
StopsBy feed cat a rest (at_successor t) = (first count n : ℕ) × IsFound a.header.format rest (whole (close_item first count) n) × (breaks_at a.header cat a.closed a.point (close_item first count) ≡ None)
    × FirstMissing feed a.header a.point.checkpoint first count (Some a.header.range.low) t

abbrev pub Stops : Feed → Catalogue → StreamAt → ℕ → ℕ → List ℕ → Stop → Type 0
Stops feed cat a asked took rest at_count = took ≡ asked
Stops feed cat a asked took rest stop = (took < asked) × StopsBy feed cat a rest stop

-- ---- a session

abbrev pub names_rise : List (List ℕ × ℕ) → Bool
names_rise [] = true
names_rise (a ∷ []) = true
names_rise (a ∷ b ∷ rest) = (below a.0 b.0 || (same_key a.0 b.0 && nat_lt b.1 a.1)) && names_rise (b ∷ rest)

-- ---- when the feed's headers do not fit

-- the first whole frame of a stream is a header of a format that is read, with its number and no predecessor
abbrev pub StreamOpens : Feed → ℕ → Header → Type 0
StreamOpens feed n h = HasHeader feed n h × IsTrue (is_read h.format) × (h.predecessor ≡ None)

abbrev pub bound_before : List Header → Option (List ℕ)
bound_before [] = Some []
bound_before (h ∷ hs) = option_and_then (λ g. g.range.high) (last_of (h ∷ hs))

-- the low bound that was kept for a stream, where one was kept
abbrev pub IsKeptLow : Option (List (List ℕ)) → ℕ → List ℕ → Type 0
IsKeptLow None n low = ⊤
IsKeptLow (Some lows) n low = slice_get lows n ≡ Some low

-- the headers so far fit, and this one goes on: its low bound is where the last one ends, and only the last stream has no high bound
abbrev pub GoesOn : Feed → Option (List (List ℕ)) → List Header → Header → Type 0
GoesOn feed kept before h = StreamOpens feed (length before) h × (bound_before before ≡ Some h.range.low) × IsKeptLow kept (length before) h.range.low
    × (IsNone h.range.high ↔ (length before + 1 ≡ length feed))

abbrev pub AreHeaders : Feed → Option (List (List ℕ)) → List Header → List Header → Type 0
AreHeaders feed kept before [] = ⊤
AreHeaders feed kept before (h ∷ hs) = GoesOn feed kept before h × AreHeaders feed kept (before ++ h ∷ []) hs

-- a number of streams that cannot be: none or more than 64, or another than was kept
abbrev pub count_mismatch : Feed → Option (List (List ℕ)) → Option ℕ
count_mismatch feed kept = if length feed == 0 then Some 0 else (if nat_lt 64 (length feed) then Some 64
    else option_and_then (λ lows. when (not (length lows == length feed)) (min (length lows) (length feed))) kept)

-- the number that a mismatch keeps
abbrev pub IsMismatch : Feed → Option (List (List ℕ)) → ℕ → Type 0
IsMismatch feed kept n = (count_mismatch feed kept ≡ Some n)
    ⊎ ((count_mismatch feed kept ≡ None) × ((hs : List Header) × (length hs ≡ n) × (n < length feed) × AreHeaders feed kept [] hs × ((h : Header) → GoesOn feed kept hs h → ⊥)))

-- the headers of a feed that fits
abbrev pub Attaches : Feed → Option (List (List ℕ)) → List Header → Type 0
Attaches feed kept hs = (count_mismatch feed kept ≡ None) × (length hs ≡ length feed) × AreHeaders feed kept [] hs

-- ---- who a pump delivers to

-- by rising key and falling timestamp
abbrev pub put_change : Change → List Change → List Change
put_change c [] = c ∷ []
put_change c (d ∷ ds) = if below (change_key c) (change_key d) || (same_key (change_key c) (change_key d) && nat_lt d.ts c.ts) then c ∷ d ∷ ds else d ∷ put_change c ds

abbrev pub without_change : List ℕ → ℕ → List Change → List Change
without_change key t cs = filter (λ c. not (same_key (change_key c) key && c.ts == t)) cs

-- what is delivered is a lawful change of a log, in the shape of its registered version
abbrev pub is_deliverable : Catalogue → Change → Bool
is_deliverable cat c = is_change c
    && option_map_or (λ t. option_map_or (λ x. has_change_shape t x c) (registered t c.version) false) (table_numbered cat c.table) false

abbrev pub holds_change : List ℕ → ℕ → List Change → Bool
holds_change key t cs = list_any (λ c. same_key (change_key c) key && c.ts == t) cs

-- ---- a step of a session

abbrev pub name_of : Change → List ℕ × ℕ
name_of c = (change_key c, c.ts)
