-- A session and the step of it: what it stands on, when it serves a feed, what a start gives, and what a step did.
use Rattle.std.specs.Prelude.{Err, IfErr, IfOk, IfSome, IsTrue, List, None, Option, Result, Some, [], false, flat_map, true, ℕ, ◌++◌, ◌<◌, ◌∷◌, ◌≡◌, ◌≤◌, ◌⊎◌}
use Rattle.lt_terms.specs.Log.{Change, Header, Item}
use Rattle.lt_terms.specs.Value.{Value}
use Rattle.lt_world.specs.Feed.{Feed, FeedState}
use Rattle.lt_world.specs.Disk.{DiskState, LeavesNow, LeftOnly}
use Rattle.lt_tables.specs.Query.{Command}
use Rattle.lt_words.specs.Reply.{Refusal, Reply, out_of_memory}
use Rattle.lt_machine.specs.Sound.{FailedIsLater, FailedIsSound, Fronts, Memory, Session, source_of}
use Rattle.lt_machine.specs.Run.{Answers, CauseOf, Counts, RowsBefore, Shows, StartFault, is_fault, looks_at_bundles, may_end_in, start_disk, start_feed}
use Rattle.lt_machine.specs.Outside.{BelongsTo, GivenUpTo, IsKept, StaysBut, World, counts_at, counts_in}
use Rattle.lt_machine.specs.Machine.{CheckpointsStay, DoesOver, State, cat_of, is_reopen, query_of, refused, replies}

-- ---- what a replica stands on

-- Memory alone, or a store. Where there is no store nothing is said of images.
pub record Base : Type 1 where
  -- what a disk has to be for a feed where a session begins
  pub sound : DiskState → Feed → Type 0
  -- what a session begins as, by what the disk and the feed tell
  pub opens : Option (List ℕ) → Option Feed → Session → Type 0
  -- why none begins, by the same and by the counts before and after
  pub stops : Option (List ℕ) → Option Feed → Counts → Counts → StartFault → Type 0
  -- what may be the cause of a fault in a session that serves its feed
  pub cause : CauseOf
  -- and in any session
  pub any_cause : World → World → Session → Command → Refusal → Type 0
  -- what a disk is between two commands of a session that serves its feed
  pub rests : DiskState → Feed → Session → Type 0
  -- that each image which a crash may leave has all bytes that the session's part names
  pub has : DiskState → Session → Type 0
  -- what a crash may leave of a session
  pub leaves : Feed → Session → List ℕ → Type 0
  -- that some image of those left since a moment has all that a session names
  pub seen : (List ℕ → Type 0) → Feed → Session → Type 0

-- A session serves a feed: it stands where the feed's fair fronts and the disk say, and a crash now leaves its part.
pub record Serves (g : Base) (disk : DiskState) (f : Feed) (x : Session) : Type 0 where
  -- its state and its memory are what the feed's fronts make of them
  pub belongs : BelongsTo f x.state x.memory
  -- its memory lies in its partitions, under the pending names
  pub kept : IsKept x
  -- what a failed command would have left is sound, and no earlier
  pub failed : FailedIsSound f x.state × FailedIsLater x.state
  -- the disk has what the session names, in every image that a crash may leave now
  pub rests : g.rests disk f x
  -- what was acknowledged stands: every image that a crash may leave now has the session's part
  pub stands : LeavesNow disk (g.leaves f x)

-- ---- a start

-- A session began.
pub record Started (g : Base) (disk disk' : DiskState) (feed feed' : FeedState) (x : Session) : Type 0 where
  -- as the disk and the feed say, as they stand on return
  pub opens : g.opens disk'.told feed'.told x
  -- its memory lies in its partitions, under the pending names
  pub kept : IsKept x
  -- from a disk that is sound for the feed it serves the feed: so a list of steps needs no further premise
  pub serves : IfSome feed'.told (λ f. g.sound disk f → Serves g disk' f x)
  -- no call failed
  pub unfailed : (feed'.faults ≡ feed.faults) × (disk'.faults ≡ disk.faults) × (disk'.write_faults ≡ disk.write_faults)

-- No session began: for the cause that is named, or out of memory.
pub record NotStarted (g : Base) (disk disk' : DiskState) (feed feed' : FeedState) (e : Option StartFault) : Type 0 where
  -- the cause that is named is one
  pub cause : IfSome e (g.stops disk'.told feed'.told (counts_in disk feed 0 0) (counts_in disk' feed' 0 0))
  -- a feed that failed is named
  pub feed_failed : feed.faults < feed'.faults → e ≡ Some start_feed
  -- a disk that failed is named
  pub disk_failed : disk.faults < disk'.faults → e ≡ Some start_disk

-- ---- a step

-- the changes that are held in memory
abbrev pub held_changes : Memory → List Change
held_changes mem = flat_map (λ cs. cs) mem

-- the state's refusal, or that memory ran out
abbrev pub RefusesAs : Refusal → Result Reply Refusal → Type 0
RefusesAs e r = (r ≡ Err e) ⊎ (r ≡ Err out_of_memory)

-- why a command may end in a refusal: the state decides it, or it is a fault that the command may end in, with its cause
abbrev pub MayRefuse : Base → World → World → Session → Command → Refusal → Type 0
MayRefuse g w w' x c e = (refused x.state c ≡ Some e) ⊎ (IsTrue (is_fault e) × IsTrue (may_end_in c e) × g.any_cause w w' x c e)

-- rows that were given, and one more, are a front of the answer to a query
abbrev pub BreaksIn : Feed → State → Command → List (List Value) → List Value → Type 0
BreaksIn f s c given row = (fs : List (Header × List Item)) × Fronts f (cat_of s) fs × RowsBefore (source_of fs) s c (given ++ row ∷ [])

-- What a step did in a session that serves its feed.
pub record Served (g : Base) (f : Feed) (w w' : World) (x y : Session) (c : Command) (r : Result Reply Refusal) : Type 0 where
  -- the rows that were given
  pub given : List (List Value)
  -- are what the row sink took, in their order
  pub rows : GivenUpTo w.rows w'.rows given r
  -- these rows and the reply are the machine's answer over the feed as it stands on return, or a fault by its cause
  pub answers : Answers (g.cause (counts_at w) (counts_at w') f x c) f x.state c (record { rows = given; reply = r }) y.state
  -- the session after it serves the feed: so what was acknowledged stands in every image that a crash may leave from now on
  pub serves : Serves g w'.disk f y
  -- where a front of one more row's text stands behind them, it is the answer's next row
  pub next : (rows.broken_off ≡ []) ⊎ BreaksIn f x.state c given rows.next
  -- a crash at any moment of it leaves what stood before it or what stands after it
  pub any_moment : LeftOnly w.disk w'.disk (λ image. g.leaves f x image ⊎ g.leaves f y image)
  -- the minimum does not fall
  pub minimum : x.state.durable.minimum ≤ y.state.durable.minimum
  -- no key's checkpoint falls but at a reopening
  pub checkpoints : is_reopen c ≡ false → CheckpointsStay x.state y.state

-- the disk has the bundles that a command looks at, if it looks at any
abbrev pub Knows : Base → World → Session → Command → Type 0
Knows g w x c = IsTrue (looks_at_bundles c) → g.has w.disk x

-- What a step did: from one session to the next, with the objects as they were and are. Only the first field asks that the feed exposes
-- its contents and that the session serves it; all others hold in any session.
pub record Stepped (g : Base) (w w' : World) (x y : Session) (c : Command) (r : Result Reply Refusal) : Type 0 where
  -- in a session that serves its feed it answers as the machine does, and the next session serves the feed
  pub served : IfSome w'.feed.told (λ f. Serves g w.disk f x → Served g f w w' x y c r)
  -- what the counts show: whose call failed, who was called, and whether the session broke
  pub shows : Shows (counts_at w) (counts_at w') x.state y.state c r
  -- each refusal has its cause
  pub causes : Knows g w x c → IfErr r (MayRefuse g w w' x c)
  -- what the state refuses is refused so, unless memory ran out, and changes nothing
  pub refused : Knows g w x c → IfSome (refused x.state c) (λ e. RefusesAs e r × (y.state ≡ x.state))
  -- a refusal leaves the state, but for a pump that took some records and for a write that failed
  pub stays : IfErr r (λ e. StaysBut c e x.state y.state)
  -- memory stays in its partitions, under the pending names
  pub keeps : IsKept x → IsKept y
  -- a command other than a scan does what the machine does, with the changes in memory as its source
  pub done : IsKept x → Knows g w x c → query_of c ≡ None → IfOk r (λ reply. DoesOver w'.feed.told (held_changes x.memory) x.state c (replies reply) y.state)
  -- a reopening begins a session as a start does
  pub reopened : is_reopen c ≡ true → IfOk r (λ reply. g.opens w'.disk.told w'.feed.told y)
