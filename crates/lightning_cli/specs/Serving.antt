-- How far a run of a script has come.
use Rattle.std.specs.Prelude.{IfSome, List, MatchResult, Option, Result, Some, [], length, ℕ, ◌+◌, ◌++◌, ◌∷◌, ◌≡◌, ◌≢◌, ◌⊎◌}
use Rattle.std.specs.Io.KnownBytes.{Appends}
use Rattle.lt_world.specs.Disk.{DiskState, Rose}
use Rattle.lt_world.specs.Object.{BytesState, FailsAt}
use Rattle.lt_world.specs.Feed.{FeedState}
use Rattle.lt_world.specs.Object.{IsFront}
use Rattle.lt_machine.specs.Program.{Outside, RunEnds, Tells, Told, Trace}
use Rattle.lt_machine.specs.Run.{IsOver, Moment, Runs, last_moment, lines_ended, run_text}
use Rattle.lt_words.specs.Script.{script_lines}
use Rattle.lt_script.specs.Lines.{kept_of}
use Rattle.lt_engine.specs.declared.replica.Replica.{Replica}
use Rattle.lightning_cli.specs.Commands.{IsNow, StandsIn, run_rules}
use Rattle.lightning_cli.specs.declared.server.Server.{Server}

-- ---- what was written

-- a front of the bytes was appended
abbrev pub AppendsFront : Option (List ℕ) → Option (List ℕ) → List ℕ → Type 0
AppendsFront old new bytes = (front : List ℕ) × IsFront front bytes × Appends old new front

-- some first replies were appended, and the others are kept
abbrev pub WritesSome : Option (List ℕ) → Option (List ℕ) → List ℕ → List ℕ → Type 0
WritesSome old new replies kept = (first : List ℕ) × Appends old new first × (replies ≡ first ++ kept)

-- no call failed
pub record Unfailed (old new : BytesState) : Type 0 where
  pub faults : new.faults ≡ old.faults
  pub failed_at : new.failed_at ≡ old.failed_at

-- a call failed, and none was made behind it
pub record Failed (old new : BytesState) : Type 0 where
  pub rose : Rose old.faults new.faults
  pub stops : FailsAt new.told old.failed_at new.failed_at

-- A last line was written, and the status that it says is given; or 4, where the sink failed behind a front of it.
abbrev pub Finishes : BytesState → BytesState → List ℕ → ℕ → ℕ → Type 0
Finishes old new line status result = ((result ≡ status) × Appends old.told new.told line × Unfailed old new)
    ⊎ ((result ≡ 4) × AppendsFront old.told new.told line × Failed old new)

-- ---- lines that were answered

-- These lines were answered from a start on, and the server stands in the last moment. Of their text this was written, and these replies
-- are not written yet.
pub record HasRun (m : Moment) (lines : List (List ℕ)) (written : List ℕ) (d : DiskState) (f : FeedState) (replica : Replica) (replies : List ℕ) : Type 0 where
  pub moments : List Moment
  pub runs : Runs run_rules m lines moments
  pub now : IsNow d f m (last_moment m moments)
  pub stands : StandsIn d (last_moment m moments) replica
  pub text : run_text moments ≡ written ++ replies

-- These lines were answered, and a front of their text was written. Behind them nothing was called.
pub record HasRunTo (m : Moment) (lines : List (List ℕ)) (written : List ℕ) (d : DiskState) (f : FeedState) : Type 0 where
  pub moments : List Moment
  pub runs : Runs run_rules m lines moments
  pub now : IsNow d f m (last_moment m moments)
  pub front : IsFront written (run_text moments)

-- the same of the lines that some first ones of these bytes end
pub record HasRunSome (m : Moment) (bytes written : List ℕ) (d : DiskState) (f : FeedState) : Type 0 where
  pub part : List ℕ
  pub begins : IsFront part bytes
  pub run : HasRunTo m (lines_ended part) written d f

-- A line was answered, and some of the replies were written; or the run ends here, with a front of them written.
abbrev pub AnswersLine : {T E : Type 0} → Moment → List (List ℕ) → List ℕ → List ℕ → DiskState → FeedState → Option (List ℕ) → Option (List ℕ) → Server → Result T E → Type 0
AnswersLine m lines line written d f held held' s r = (more : List ℕ) × Appends held held' more
    × MatchResult r (λ _. HasRun m (lines ++ line ∷ []) (written ++ more) d f s.replica s.replies.items)
    (λ _. HasRunTo m lines (written ++ more) d f ⊎ HasRunTo m (lines ++ line ∷ []) (written ++ more) d f)

-- the line that is open behind the bytes
abbrev pub last_of_all : List (List ℕ) → List ℕ
last_of_all [] = []
last_of_all (p ∷ []) = p
last_of_all (p ∷ q ∷ ps) = last_of_all (q ∷ ps)

abbrev pub open_line : List ℕ → List ℕ
open_line bytes = last_of_all (script_lines bytes)

-- The lines that these bytes end were answered, and the first bytes of the open one are kept.
pub record Stands (m : Moment) (bytes written : List ℕ) (d : DiskState) (f : FeedState) (s : Server) : Type 0 where
  pub run : HasRun m (lines_ended bytes) written d f s.replica s.replies.items
  pub line : s.line.items ≡ kept_of (open_line bytes)

-- ---- a run

-- A run from a moment on goes on: of the script so many bytes were taken, and these were read besides.
pub record IsServing (m : Moment) (old : Told) (w : Outside) (count : ℕ) (ahead : List ℕ) (s : Server) : Type 0 where
  pub now : Told
  pub tells : Tells w now
  pub bytes : List ℕ
  pub written : List ℕ
  pub number : length bytes ≡ count
  pub took : old.script ≡ bytes ++ (ahead ++ now.script)
  pub wrote : now.written ≡ old.written ++ written
  pub script : w.script.faults ≡ m.counts.script
  pub out : w.out.faults ≡ m.counts.out
  pub stands : Stands m bytes written w.disk w.feed s

-- A run from a moment on is over, with this status.
pub record HasServed (m : Moment) (old : Told) (w : Outside) (status : ℕ) : Type 0 where
  pub now : Told
  pub tells : Tells w now
  pub trace : Trace
  pub opening : trace.opening ≡ Some m
  pub took : old.script ≡ trace.taken ++ now.script
  pub wrote : now.written ≡ old.written ++ trace.written
  pub ends : RunEnds run_rules m now.counts old.script trace status
  pub over : IsOver (last_moment m trace.moments) status now.feed now.counts

-- so many bytes were taken, as far as they are told
abbrev pub IsTaken : Option (List ℕ) → Option (List ℕ) → ℕ → Type 0
IsTaken told told' n = IfSome told (λ s. IfSome told' (λ t. length s ≡ n + length t))

-- the statuses that a run of a script ends with
abbrev pub IsRunStatus : ℕ → Type 0
IsRunStatus n = (n ≡ 0) ⊎ (n ≡ 3) ⊎ (n ≡ 4) ⊎ (n ≡ 9) ⊎ (n ≡ 10)

-- How a script stands where a run is over: with 3 it failed, with 4 it may have, and nothing was read behind its fault.
pub record ScriptOver (old new : BytesState) (status : ℕ) : Type 0 where
  pub failed : status ≡ 3 → Rose old.faults new.faults
  pub stops : ((status ≢ 3) × Unfailed old new) ⊎ FailsAt new.told old.failed_at new.failed_at
  pub kept : status ≢ 3 → status ≢ 4 → new.faults ≡ old.faults

-- How an output stands: with 4 it failed, and nothing was written behind its fault.
pub record OutOver (old new : BytesState) (status : ℕ) : Type 0 where
  pub failed : status ≡ 4 → Failed old new
  pub kept : status ≢ 4 → Unfailed old new
