-- What a session holds in memory, and what a schema, a retirement, a split and a pump make of it. Where a session belongs to a feed, each
-- keeps that it does.
use Rattle.std.specs.Prelude.{IsTrue, List, None, Some, [], filter, flat_map, if◌then◌else◌, not, reverse, zip, ℕ, ◌∷◌, ◌≡◌}
use Rattle.std.specs.List.{AllByRecursion}
use Rattle.lt_world.specs.Feed.{AreShort, Feed, Grows}
use Rattle.lt_terms.specs.Key.{Range, below, in_range}
use Rattle.lt_terms.specs.Log.{Change, Header, Item, change_key, changes_of}
use Rattle.lt_tables.specs.Pump.{StreamAt, Takes}
use Rattle.lt_machine.specs.Machine.{Answer, State, Step, cat_of, fresh, opened, ranges_of, refused, resumes, split_key, stream_at, with_items}
use Rattle.lt_tables.specs.Pump.{is_deliverable}
use Rattle.lt_machine.specs.Outside.{AsksInWindow, BelongsTo}
use Rattle.lt_machine.specs.Sound.{Memory}
use Rattle.lt_tables.specs.Query.{Literal, Query, answer}
use Rattle.lt_tables.specs.Row.{is_in_time, snapshot}
use Rattle.lt_tables.specs.Pump.{Attaches}
use Rattle.lt_tables.specs.Schema.{Registered, Table, registered, table_named}
use Rattle.lt_tables.specs.Query.{do_retire, do_schema, do_split}
use Rattle.lt_machine.specs.Sound.{source_of}
use Rattle.lt_storage.specs.Store.{is_limit}
use Rattle.lt_pump.specs.Given.{all_given}

-- ---- what commands make of it

-- the keys of each partition, and up to when it is durable
abbrev pub partitions : State → List (Range × ℕ)
partitions s = zip (ranges_of s.durable) (resumes s.durable)

-- a split parts what the partition of a key holds
abbrev pub split_memory : List ℕ → Memory → List Range → Memory
split_memory key [] rs = []
split_memory key (cs ∷ rest) [] = cs ∷ rest
split_memory key (cs ∷ rest) (r ∷ rs) = if in_range key r then filter (λ c. below (change_key c) key) cs ∷ filter (λ c. not (below (change_key c) key)) cs ∷ rest else cs ∷ split_memory key rest rs

-- in what order a scan goes over it: in each partition by falling key and rising timestamp
abbrev pub gone_over : Memory → List Change
gone_over mem = flat_map reverse mem

-- ---- laws

-- a fresh session, which has a limit that a store may have and holds nothing, belongs to the feed whose headers it begins with
abbrev pub MemoryBegins : Type 0
MemoryBegins = (f : Feed) (most : ℕ) (hs : List Header) → IsTrue (is_limit most) → AreShort f → Attaches f None hs → BelongsTo f (opened (fresh most hs) hs) ([] ∷ [])

-- a session belongs to each longer feed
abbrev pub MemoryGrows : Type 0
MemoryGrows = (f g : Feed) (s : State) (mem : Memory) → Grows f g → AreShort g → BelongsTo f s mem → BelongsTo g s mem

-- a version that is added or retired leaves what is held
pub record MemoryStays : Type 0 where
  pub added : (f : Feed) (s s' : State) (mem : Memory) (text : List ℕ) (a : Answer) → (b : BelongsTo f s mem) → Step f (source_of b.0) s (do_schema text) a s' → BelongsTo f s' mem
  pub retired : (f : Feed) (s s' : State) (mem : Memory) (name : List ℕ) (v : ℕ) (a : Answer) → (b : BelongsTo f s mem) → Step f (source_of b.0) s (do_retire name v) a s' → BelongsTo f s' mem

-- a split that is not refused parts it as the pending names
abbrev pub MemorySplits : Type 0
MemorySplits = (f : Feed) (s s' : State) (mem : Memory) (name : List ℕ) (ls : List Literal) (t : Table) (a : Answer) → (b : BelongsTo f s mem) → table_named (cat_of s) name ≡ Some t → refused s (do_split name ls) ≡ None
    → Step f (source_of b.0) s (do_split name ls) a s' → BelongsTo f s' (split_memory (split_key t ls) mem (ranges_of s.durable))

-- What a pump takes of a stream is given to the partitions, and the session belongs to the feed as it did.
abbrev pub MemoryPumps : Type 0
MemoryPumps = (f : Feed) (s : State) (mem : Memory) (n : ℕ) (a : StreamAt) (items : List Item) (rest : List ℕ) → (b : BelongsTo f s mem) → stream_at s n ≡ Some a → Takes f (cat_of s) a items rest
    → (c : BelongsTo f (with_items n items s) (all_given (changes_of items) (partitions s) mem)) × (c.0 ≡ b.0)

-- In the window what is held answers as the source does, where nothing is on the shelf: its changes have the shape of their versions, and those of a key rise.
pub record HeldReads (f : Feed) (s : State) (mem : Memory) (source : List Change) (t : Table) (r : Registered) (q : Query) : Type 0 where
  pub shaped : AllByRecursion (λ c. IsTrue (is_deliverable (cat_of s) c)) (gone_over mem)
  pub in_time : (key : List ℕ) → IsTrue (is_in_time key (gone_over mem))
  pub answers : answer t r.columns q (snapshot (gone_over mem) t r.columns q.at) ≡ answer t r.columns q (snapshot source t r.columns q.at)

abbrev pub MemoryReads : Type 0
MemoryReads = (f : Feed) (s : State) (mem : Memory) (q : Query) (t : Table) (r : Registered) → (b : BelongsTo f s mem) → s.durable.shelf ≡ [] → table_named (cat_of s) q.table ≡ Some t → registered t q.version ≡ Some r → AsksInWindow s q
    → HeldReads f s mem (source_of b.0) t r q
