-- The program without a store file: which lines it answers, and what it stands on.
use Rattle.std.specs.Prelude.{Bool, IfSome, List, None, Option, [], codes, if◌then◌else◌, ℕ, ⊤, ◌==◌, ◌^◌, ◌||◌, ◌∷◌, ◌≡◌}
use Rattle.lt_terms.specs.Log.{Header}
use Rattle.lt_terms.specs.Conversion.{same_bytes}
use Rattle.lt_world.specs.Disk.{Rose}
use Rattle.lt_world.specs.Feed.{Feed}
use Rattle.lt_tables.specs.Pump.{Attaches, IsMismatch}
use Rattle.lt_words.specs.Lines.{line_read}
use Rattle.lt_words.specs.Script.{words}
use Rattle.lt_machine.specs.Machine.{State, fresh, opened}
use Rattle.lt_machine.specs.Run.{Counts, StartFault, Words, no_words_known, start_feed, start_mismatch, word_run}
use Rattle.lt_machine.specs.Outside.{Causes, caused_by, counts_at}
use Rattle.lt_machine.specs.Sound.{Session}
use Rattle.lt_machine.specs.Step.{Base}
use Rattle.lt_machine.specs.Program.{Program}

-- There is no store: a run begins without tables, behind the headers of the feed's streams. The limit serves for nothing.
abbrev pub session_over : List Header → State
session_over hs = opened (fresh (2 ^ 20) hs) hs

-- ---- lines

-- There is no disk and no room that may be the cause of a fault: the feed's count rose, or the row sink's.
abbrev pub memory_causes : Counts → Counts → Causes
memory_causes n m = record { feed = Rose n.feed m.feed; disk = ⊥; out = Rose n.out m.out; full = λ need room. ⊥; hurt = λ e. ⊥; mismatch = λ k. ⊥ }

-- ---- what it stands on

-- a session begins behind the headers of the feed's streams, and holds nothing
pub record BeginsFresh (told : Option Feed) (x : Session) : Type 0 where
  pub headers : List Header
  pub attaches : IfSome told (λ f. Attaches f None headers)
  pub state : x.state ≡ session_over headers
  pub memory : x.memory ≡ [] ∷ []

-- why none begins: the feed failed, or its headers do not fit
abbrev pub FeedUnfit : Option Feed → Counts → Counts → StartFault → Type 0
FeedUnfit told n m start_feed = Rose n.feed m.feed
FeedUnfit told n m (start_mismatch k) = IfSome told (λ f. IsMismatch f None k)
FeedUnfit told n m e = ⊥

-- nothing is said of a disk
abbrev pub on_memory : Base
on_memory = record {
  sound = λ disk f. ⊤;
  opens = λ image told x. BeginsFresh told x;
  stops = λ image told n m e. FeedUnfit told n m e;
  cause = λ n m f x c r. caused_by (memory_causes n m) r;
  any_cause = λ w w' x c r. caused_by (memory_causes (counts_at w) (counts_at w')) r;
  rests = λ disk f x. ⊤;
  has = λ disk x. ⊤;
  leaves = λ f x image. ⊤;
  seen = λ left f x. ⊤;
}

-- the one word `run`
abbrev pub only_run : List (List ℕ) → Words
only_run [] = no_words_known
only_run (w ∷ []) = if same_bytes w (codes "run") then word_run else no_words_known
only_run (w ∷ v ∷ ws) = no_words_known

-- the statuses that it ends with
abbrev pub is_memory_status : ℕ → Bool
is_memory_status n = n == 0 || n == 2 || n == 3 || n == 4 || n == 7 || n == 8 || n == 9 || n == 10

-- The program without a store file.
abbrev pub in_memory : Program
in_memory = record { base = on_memory; words = only_run; reads = line_read; ends_with = is_memory_status }
