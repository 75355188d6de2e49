-- How a turn of a run ends, what taking a piece of the script does, and how a call ends that begins no session.
use Rattle.std.specs.Prelude.{Bool, IsTrue, List, MatchResult, None, Option, Result, Some, false, true, ℕ, ⊤, ◌++◌, ◌≡◌, ◌⊎◌}
use Rattle.std.specs.Io.KnownBytes.{Appends}
use Rattle.lt_world.specs.Disk.{DiskState}
use Rattle.lt_world.specs.Object.{BytesState}
use Rattle.lt_world.specs.Feed.{FeedState}
use Rattle.lt_machine.specs.Run.{Moment, StartFault, start_damaged, start_mismatch, start_status, start_text}
use Rattle.lightning_cli.specs.Serving.{Finishes, HasRunSome, Stands}
use Rattle.lightning_cli.specs.declared.server.Server.{Server}
use Rattle.lightning_cli.specs.declared.server.TakeFault.{TakeFault}
use Rattle.lightning_cli.specs.declared.server.TakeFault.TheVariants as faults
use Rattle.lightning_cli.specs.declared.serve.Turn.{Turn}
use Rattle.lightning_cli.specs.declared.serve.Turn.TheVariants as turns

-- the run goes on with so many bytes more, or is over with a status
abbrev pub MatchTurn : Turn → (ℕ → Type 0) → (ℕ → Type 0) → Type 0
MatchTurn (turns.More n) P Q = P n
MatchTurn (turns.Over status) P Q = Q status

abbrev pub IfMore : Turn → (ℕ → Type 0) → Type 0
IfMore t P = MatchTurn t P (λ status. ⊤)

abbrev pub IfOver : Turn → (ℕ → Type 0) → Type 0
IfOver t Q = MatchTurn t (λ n. ⊤) Q

-- ---- pieces of the script

abbrev pub take_status : TakeFault → ℕ
take_status faults.Memory = 10
take_status faults.Sink = 4

-- Taking ends with the bytes taken; or with a fault, where the lines that some first bytes end were answered. A front of the text of all
-- that was answered is written.
abbrev pub TakesPiece : {E : Type 0} → Moment → List ℕ → List ℕ → DiskState → FeedState → Option (List ℕ) → Option (List ℕ) → Server → Result (Unit {0}) E → Type 0
TakesPiece m bytes written d f held held' s r = (more : List ℕ) × Appends held held' more
    × MatchResult r (λ _. Stands m bytes (written ++ more) d f s) (λ _. HasRunSome m bytes (written ++ more) d f)

-- ---- no session

-- the line that says why takes a number, and so memory
abbrev pub has_number : StartFault → Bool
has_number (start_mismatch n) = true
has_number (start_damaged place len) = true
has_number e = false

-- Why no session began was written, and its status is given; or memory was lacking, and nothing was written.
abbrev pub HasStopped : Option StartFault → BytesState → BytesState → ℕ → Type 0
HasStopped None old new status = (status ≡ 10) × (new ≡ old)
HasStopped (Some e) old new status = Finishes old new (start_text e) (start_status e) status ⊎ (IsTrue (has_number e) × (status ≡ 10) × (new ≡ old))
