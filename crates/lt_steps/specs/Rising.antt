-- What never falls: the checkpoint of each key's partition, but at a reopening, and the minimum.
use Rattle.std.specs.Prelude.{Bool, List, None, [], false, ℕ, ⊤, ◌∷◌, ◌≡◌, ◌≤◌, ◌⊎◌}
use Rattle.std.specs.List.{AllByRecursion}
use Rattle.lt_world.specs.Feed.{AreShort, Feed, Grows}
use Rattle.lt_terms.specs.Key.{Range}
use Rattle.lt_machine.specs.Laws.{CheckpointsNeverFall, MinimumNeverFalls}
use Rattle.lt_terms.specs.Log.{Header, Item}
use Rattle.lt_machine.specs.Machine.{Answer, CheckpointsStay, State, Step, cat_of, first_below, is_reopen, opened, refused}
use Rattle.lt_words.specs.Reply.{Refusal, out_of_memory}
use Rattle.lt_machine.specs.Run.{AfterFault, Answers, Moment, Rules, Runs, last_moment}
use Rattle.lt_tables.specs.Query.{Command}
use Rattle.lt_words.specs.Script.{Line, bad_line, skipped, spells_command}
use Rattle.lt_machine.specs.Sound.{FailedIsLater, FailedIsSound, Fronts, IsGood, source_of}
use Rattle.lt_storage.specs.Store.{Durable, IsLawfulPart}

abbrev pub MinimumRises : State → State → Type 0
MinimumRises s s' = s.durable.minimum ≤ s'.durable.minimum

-- ---- laws

pub record NothingFalls : Type 0 where
  -- no command but a reopening lowers a checkpoint, nor does a fault in place of an answer
  pub checkpoints : CheckpointsNeverFall
  -- none lowers the minimum
  pub minimum : MinimumNeverFalls
  pub opens : (d : Durable) (hs : List Header) → FailedIsLater (opened d hs)
  -- what was safe for an interval stays safe
  pub safe : (s s' : State) (r : Range) (t : ℕ) → IsLawfulPart s.durable → IsLawfulPart s'.durable → CheckpointsStay s s' → first_below s r t ≡ None → first_below s' r t ≡ None

-- ---- from one command to the next

-- what is kept of a session from command to command
abbrev pub KeepsFor : Feed → State → Type 0
KeepsFor f s = ((fs : List (Header × List Item)) × IsGood f s fs) × FailedIsSound f s × FailedIsLater s

-- a command is answered by the machine, or by a fault in place of its answer
abbrev pub Moves : Feed → State → Command → State → Type 0
Moves f s c s' = (fs : List (Header × List Item)) × Fronts f (cat_of s) fs
    × (((a : Answer) × Step f (source_of fs) s c a s') ⊎ ((r : Refusal) × ((r ≡ out_of_memory) ⊎ (refused s c ≡ None)) × AfterFault f (source_of fs) s c r s'))

-- where a command was answered: over this feed, and to this state
pub record Moved : Type 0 where
  pub feed : Feed
  pub command : Command
  pub state : State

abbrev pub Path : Feed → State → List Moved → Type 0
Path f s [] = ⊤
Path f s (m ∷ ms) = Grows f m.feed × AreShort m.feed × Moves m.feed s m.command m.state × Path m.feed m.state ms

abbrev pub last_feed : Feed → List Moved → Feed
last_feed f [] = f
last_feed f (m ∷ ms) = last_feed m.feed ms

abbrev pub last_state : State → List Moved → State
last_state s [] = s
last_state s (m ∷ ms) = last_state m.state ms

pub record PathKeeps : Type 0 where
  pub one : (f g : Feed) (s s' : State) (c : Command) → Grows f g → AreShort g → KeepsFor f s → Moves g s c s' → KeepsFor g s' × MinimumRises s s' × (is_reopen c ≡ false → CheckpointsStay s s')
  -- along a path the minimum does not fall, and where none of its commands is a reopening no checkpoint does
  pub all : (f : Feed) (s : State) (ms : List Moved) → KeepsFor f s → Path f s ms → KeepsFor (last_feed f ms) (last_state s ms) × MinimumRises s (last_state s ms) × (AllByRecursion (λ m. is_reopen m.command ≡ false) ms → CheckpointsStay s (last_state s ms))

-- ---- a run

-- a line that spells a reopening
abbrev pub reopens : Line → Bool
reopens skipped = false
reopens bad_line = false
reopens (spells_command c) = is_reopen c

-- So does what is answered over a feed, whatever may be the cause of a fault: of a session that serves its feed it gives that its minimum, and
-- but at a reopening its checkpoints, stay.
abbrev pub AnswersKeep : Type 1
AnswersKeep = (caused : Refusal → Type 0) (f : Feed) (s s' : State) (c : Command) (a : Answer) → KeepsFor f s → Answers caused f s c a s' → KeepsFor f s' × MinimumRises s s' × (is_reopen c ≡ false → CheckpointsStay s s')

-- In a run over feeds that stay short the session stays good, the minimum does not fall, and where no line is a reopening no checkpoint does. No
-- contract can speak of all rules at once, so a caller cites this for its own.
abbrev pub RunsKeep : Type 1
RunsKeep = (rules : Rules) (before : Moment) (lines : List (List ℕ)) (ms : List Moment) → AllByRecursion (λ m. AreShort m.feed) ms → KeepsFor before.feed before.session.state → Runs rules before lines ms
    → KeepsFor (last_moment before ms).feed (last_moment before ms).session.state × MinimumRises before.session.state (last_moment before ms).session.state
    × (AllByRecursion (λ line. reopens (rules.reads line) ≡ false) lines → CheckpointsStay before.session.state (last_moment before ms).session.state)
