-- Fair streams: which items may follow which, and the longest fair front of a stream.
use Rattle.std.specs.Prelude.{Bool, IsSome, IsTrue, List, None, Option, Some, [], false, filter, flat_map, fold, if◌then◌else◌, is_none, length, max, nat_le, nat_lt, not, option_and_then, suc, true, zero, ℕ, ⊤, ◌&&◌, ◌++◌, ◌+◌, ◌∷◌, ◌≡◌, ◌≢◌, ◌⊎◌}
use Rattle.std.specs.List.{AllByRecursion, list_any}
use Rattle.std.specs.Option.{option_map_or, option_or}
use Rattle.lt_terms.specs.Log.{Change, Header, Item, batch_item, change_item, change_key, changes_of, checkpoint_item, close_item, header_item, is_item, spelled}
use Rattle.lt_terms.specs.Key.{Range, below, in_range, is_key_of, same_key}
use Rattle.lt_world.specs.Feed.{Feed, stream_bytes}
use Rattle.lt_tables.specs.Schema.{Catalogue, Registered, Table, first_of, key_kinds, registered, sets_shape, table_numbered, when}
use Rattle.lt_terms.specs.declared.Format.TheVariants as format

-- ---- what a list of items says so far

-- its last checkpoint, or where the stream begins
abbrev pub last_checkpoint : ℕ → List Item → ℕ
last_checkpoint t [] = t
last_checkpoint t (checkpoint_item u ∷ items) = last_checkpoint u items
last_checkpoint t (header_item h ∷ items) = last_checkpoint t items
last_checkpoint t (change_item c ∷ items) = last_checkpoint t items
last_checkpoint t (batch_item u cs ∷ items) = last_checkpoint t items
last_checkpoint t (close_item first count ∷ items) = last_checkpoint t items

abbrev pub checkpoint_of : Header → List Item → ℕ
checkpoint_of h items = last_checkpoint h.from items

-- the greatest timestamp of a change, or 0
abbrev pub greatest_of : List Item → ℕ
greatest_of items = fold (λ t c. max t c.ts) 0 (changes_of items)

abbrev pub is_close : Item → Bool
is_close (header_item h) = false
is_close (change_item c) = false
is_close (checkpoint_item t) = false
is_close (batch_item t cs) = false
is_close (close_item first count) = true

abbrev pub is_closed : List Item → Bool
is_closed items = list_any is_close items

-- the changes of a key
abbrev pub changes_to : List ℕ → List Change → List Change
changes_to key cs = filter (λ c. same_key (change_key c) key) cs

-- the last timestamp of a key's changes, or 0
abbrev pub last_ts : List ℕ → List Item → ℕ
last_ts key items = fold (λ t c. c.ts) 0 (changes_to key (changes_of items))

-- ---- what an item breaks

pub data Unfair : Type 0 where
  after_close : Unfair
  second_header : Unfair
  out_of_range : Unfair
  unknown_table_number : ℕ → Unfair
  unknown_version_number : ℕ → Unfair
  bad_shape : Unfair
  late : ℕ → Unfair
  out_of_order : ℕ → Unfair
  backward : ℕ → Unfair
  open_at : ℕ → Unfair

-- a change has the shape of a registered version of its table, live or retired
abbrev pub has_change_shape : Table → Registered → Change → Bool
has_change_shape t r c = is_key_of (key_kinds t.key) c.key && sets_shape c.op r.columns c.set

-- Of a change: its key lies in the stream's range, its version is registered and has its shape, it is later than every
-- checkpoint, and later than the changes of its key before it.
abbrev pub change_fault : Header → Catalogue → List Item → Change → Option Unfair
change_fault h cat before c = let t = table_numbered cat c.table in let r = option_and_then (λ t. registered t c.version) t in first_of
    (when (not (in_range (change_key c) h.range)) out_of_range
    ∷ when (is_none t) (unknown_table_number c.table)
    ∷ when (is_none r) (unknown_version_number c.version)
    ∷ when (not (option_map_or (λ t. option_map_or (λ r. has_change_shape t r c) r false) t false)) bad_shape
    ∷ when (nat_le c.ts (checkpoint_of h before)) (late (checkpoint_of h before))
    ∷ when (nat_le c.ts (last_ts (change_key c) before)) (out_of_order (last_ts (change_key c) before))
    ∷ [])

-- of a batch, what its first unfair change breaks
abbrev pub changes_fault : Header → Catalogue → List Item → List Change → Option Unfair
changes_fault h cat before [] = None
changes_fault h cat before (c ∷ cs) = option_or (change_fault h cat before c) (changes_fault h cat (before ++ change_item c ∷ []) cs)

-- A header stands once. Checkpoints do not fall. A stream is closed only where no change is above its checkpoint.
abbrev pub item_fault : Header → Catalogue → List Item → Item → Option Unfair
item_fault h cat before (header_item k) = Some second_header
item_fault h cat before (change_item c) = change_fault h cat before c
item_fault h cat before (checkpoint_item t) = when (nat_lt t (checkpoint_of h before)) (backward (checkpoint_of h before))
item_fault h cat before (batch_item t cs) = changes_fault h cat before cs
item_fault h cat before (close_item first count) = when (nat_lt (checkpoint_of h before) (greatest_of before)) (open_at (greatest_of before))

-- the rule that an item breaks after a list of items, if any; nothing follows a close
unfoldable pub breaks : Header → Catalogue → List Item → Item → Option Unfair
breaks h cat before i = option_or (when (is_closed before) after_close) (item_fault h cat before i)

-- no item breaks a rule
abbrev pub fair_after : Header → Catalogue → List Item → List Item → Bool
fair_after h cat before [] = true
fair_after h cat before (i ∷ items) = is_none (breaks h cat before i) && fair_after h cat (before ++ i ∷ []) items

abbrev pub is_fair : Header → Catalogue → List Item → Bool
is_fair h cat items = fair_after h cat [] items

-- ---- what a check has to keep of the list

-- the checkpoint, the greatest timestamp of a change, and the keys with a change above the checkpoint, rising, each with its last timestamp
pub record Point : Type 0 where
  pub checkpoint : ℕ
  pub greatest : ℕ
  pub window : List (List ℕ × ℕ)

-- the list with a key's timestamp in its place, by rising key
abbrev pub put_key : List ℕ → ℕ → List (List ℕ × ℕ) → List (List ℕ × ℕ)
put_key key t [] = (key, t) ∷ []
put_key key t (w ∷ ws) = if below key w.0 then (key, t) ∷ w ∷ ws else (if same_key key w.0 then (key, t) ∷ ws else w ∷ put_key key t ws)

abbrev pub window_above : ℕ → List Change → List (List ℕ × ℕ)
window_above t cs = fold (λ ws c. if nat_lt t c.ts then put_key (change_key c) c.ts ws else ws) [] cs

unfoldable pub point_of : Header → List Item → Point
point_of h items = record { checkpoint = checkpoint_of h items; greatest = greatest_of items; window = window_above (checkpoint_of h items) (changes_of items) }

-- The same tests by what is kept. They serve where a check goes on from a point.
abbrev pub window_ts : List ℕ → List (List ℕ × ℕ) → ℕ
window_ts key [] = 0
window_ts key (w ∷ ws) = if same_key key w.0 then w.1 else window_ts key ws

abbrev pub change_fault_at : Header → Catalogue → Point → Change → Option Unfair
change_fault_at h cat p c = let t = table_numbered cat c.table in let r = option_and_then (λ t. registered t c.version) t in first_of
    (when (not (in_range (change_key c) h.range)) out_of_range
    ∷ when (is_none t) (unknown_table_number c.table)
    ∷ when (is_none r) (unknown_version_number c.version)
    ∷ when (not (option_map_or (λ t. option_map_or (λ r. has_change_shape t r c) r false) t false)) bad_shape
    ∷ when (nat_le c.ts p.checkpoint) (late p.checkpoint)
    ∷ when (nat_le c.ts (window_ts (change_key c) p.window)) (out_of_order (window_ts (change_key c) p.window))
    ∷ [])

abbrev pub with_change : Point → Change → Point
with_change p c = record p { greatest = max p.greatest c.ts; window = put_key (change_key c) c.ts p.window }

abbrev pub changes_fault_at : Header → Catalogue → Point → List Change → Option Unfair
changes_fault_at h cat p [] = None
changes_fault_at h cat p (c ∷ cs) = option_or (change_fault_at h cat p c) (changes_fault_at h cat (with_change p c) cs)

abbrev pub item_fault_at : Header → Catalogue → Point → Item → Option Unfair
item_fault_at h cat p (header_item k) = Some second_header
item_fault_at h cat p (change_item c) = change_fault_at h cat p c
item_fault_at h cat p (checkpoint_item t) = when (nat_lt t p.checkpoint) (backward p.checkpoint)
item_fault_at h cat p (batch_item t cs) = changes_fault_at h cat p cs
item_fault_at h cat p (close_item first count) = when (nat_lt p.checkpoint p.greatest) (open_at p.greatest)

unfoldable pub breaks_at : Header → Catalogue → Bool → Point → Item → Option Unfair
breaks_at h cat is_shut p i = option_or (when is_shut after_close) (item_fault_at h cat p i)

-- the point after one more item
abbrev pub point_after : Point → Item → Point
point_after p (header_item h) = p
point_after p (change_item c) = with_change p c
point_after p (checkpoint_item t) = record { checkpoint = t; greatest = p.greatest; window = filter (λ w. nat_lt t w.1) p.window }
point_after p (batch_item t cs) = fold with_change p cs
point_after p (close_item first count) = p

-- a point suffices: it tells what the list tells, and goes on as the list does
pub record PointSuffices : Type 0 where
  pub test : (h : Header) (cat : Catalogue) (items : List Item) (i : Item) → is_fair h cat items ≡ true
      → breaks_at h cat (is_closed items) (point_of h items) i ≡ breaks h cat items i
  pub next : (h : Header) (cat : Catalogue) (items : List Item) (i : Item) → is_fair h cat items ≡ true → breaks h cat items i ≡ None
      → point_of h (items ++ i ∷ []) ≡ point_after (point_of h items) i

-- ---- feeds: the bytes of each stream, by number; no stream has more than 2^63 - 1 bytes

-- a stream begins with the frame of this header, which has its number
pub record HasHeader (feed : Feed) (s : ℕ) (h : Header) : Type 0 where
  pub number : h.stream ≡ s
  pub lawful : IsTrue (is_item h.format (header_item h))
  pub rest : List ℕ
  pub spells : stream_bytes feed s ≡ spelled (header_item h) ++ rest

abbrev pub header_length : Header → ℕ
header_length h = length (spelled (header_item h))

-- Each successor of a close stands in the feed with its own header, which names this stream and begins at its checkpoint;
-- the successors' ranges, by number, tile this stream's range.
abbrev pub tiles_range : Range → List Header → Type 0
tiles_range r [] = ⊥
tiles_range r (h ∷ []) = h.range ≡ r
tiles_range r (h ∷ g ∷ hs) = (h.range.low ≡ r.low) × IsSome h.range.high × (next : List ℕ) × (h.range.high ≡ Some next) × tiles_range (record r { low = next }) (g ∷ hs)

abbrev pub AreSuccessors : Feed → Header → ℕ → ℕ → List Header → Type 0
AreSuccessors feed h t first [] = ⊤
AreSuccessors feed h t first (g ∷ gs) = HasHeader feed first g × (g.format ≡ format.Two) × (g.predecessor ≡ Some h.stream) × (g.from ≡ t) × AreSuccessors feed h t (first + 1) gs

-- of an item after which the checkpoint is t
abbrev pub SuccessorsStand : Feed → Header → ℕ → Item → Type 0
SuccessorsStand feed h t (header_item k) = ⊤
SuccessorsStand feed h t (change_item c) = ⊤
SuccessorsStand feed h t (checkpoint_item u) = ⊤
SuccessorsStand feed h t (batch_item u cs) = ⊤
SuccessorsStand feed h t (close_item first count) = (gs : List Header) × (length gs ≡ count) × AreSuccessors feed h t first gs × tiles_range h.range gs

abbrev pub AllSuccessorsStand : Feed → Header → List Item → List Item → Type 0
AllSuccessorsStand feed h before [] = ⊤
AllSuccessorsStand feed h before (i ∷ items) = SuccessorsStand feed h (checkpoint_of h before) i × AllSuccessorsStand feed h (before ++ i ∷ []) items

-- One successor, with so many behind it: its header stands, its low bound is the one that the tiling needs, and the last one has
-- the closed stream's high bound. Behind one without a high bound the tiling needs a low bound that no stream has.
abbrev pub IsSuccessor : Feed → Header → ℕ → ℕ → ℕ → Option (List ℕ) → Header → Type 0
IsSuccessor feed h t first behind needed g = AreSuccessors feed h t first (g ∷ []) × (needed ≡ Some g.range.low) × (behind ≡ 0 → g.range.high ≡ h.range.high)

-- the first successor that does not stand so; the tiling first needs the closed stream's low bound, and then each successor's high bound
abbrev pub FirstMissing : Feed → Header → ℕ → ℕ → ℕ → Option (List ℕ) → ℕ → Type 0
FirstMissing feed h t first zero needed n = ⊥
FirstMissing feed h t first (suc count) needed n = ((n ≡ first) × ((g : Header) → IsSuccessor feed h t first count needed g → ⊥))
    ⊎ ((g : Header) × IsSuccessor feed h t first count needed g × FirstMissing feed h t (first + 1) count g.range.high n)

-- The longest fair list of whole frames after the header. No frame begins another, so there is one such list. It is said beside
-- HasHeader, which says that the header is lawful and has the stream's number.
pub record IsPrefix (feed : Feed) (cat : Catalogue) (h : Header) (items : List Item) : Type 0 where
  pub lawful : AllByRecursion (λ i. IsTrue (is_item h.format i)) items
  pub fair : is_fair h cat items ≡ true
  pub successors : AllSuccessorsStand feed h [] items
  pub rest : List ℕ
  pub spells : stream_bytes feed h.stream ≡ spelled (header_item h) ++ (flat_map spelled items ++ rest)
  -- the next item, if one stands whole, breaks a rule
  pub longest : (i : Item) (more : List ℕ) → IsTrue (is_item h.format i) → rest ≡ spelled i ++ more → SuccessorsStand feed h (checkpoint_of h items) i → breaks h cat items i ≢ None

-- the place behind the first items
abbrev pub place_after : Header → List Item → ℕ
place_after h items = header_length h + length (flat_map spelled items)
