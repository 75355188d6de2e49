-- What is written of lines.
use Rattle.std.specs.Prelude.{List, Option, Some, [], flat_map, length, ℕ, ⊤, ◌++◌, ◌==◌, ◌∷◌, ◌≡◌, ◌≢◌, ◌≤◌, ◌⊎◌, false}
use Rattle.std.specs.Io.KnownBytes.{Appends, Consumes, IsAtEnd}
use Rattle.lt_world.specs.Object.{IsFront}
use Rattle.lt_log_text.specs.Lines.{frame_of_line}
use Rattle.lt_log_text.specs.Reading.{Refused}
use Rattle.lt_log_text.specs.declared.refusal.LineRefusal.TheVariants as refusals
use Rattle.lightning_log.specs.declared.encoder.Encoder.{Encoder}
use Rattle.lightning_log.specs.declared.encoder.Stop.{Stop}
use Rattle.lightning_log.specs.declared.encoder.Stop.TheVariants as stops

abbrev pub max_line : ℕ
max_line = 8388608

-- ---- lines

-- no byte ends a line
abbrev pub NoEnd : List ℕ → Type 0
NoEnd [] = ⊤
NoEnd (b ∷ bs) = ((b == 10) ≡ false) × NoEnd bs

-- the line says this frame
pub record SaysFrame (line frame : List ℕ) : Type 0 where
  pub one : NoEnd line
  pub short : length line ≤ max_line
  pub says : frame_of_line line ≡ Some frame

-- the lines say these frames, one after another
abbrev pub Say : List (List ℕ) → List ℕ → Type 0
Say [] out = out ≡ []
Say (l ∷ ls) out = (frame : List ℕ) × (rest : List ℕ) × SaysFrame l frame × Say ls rest × (out ≡ frame ++ rest)

-- lines, each with its end
abbrev pub ended : List (List ℕ) → List ℕ
ended ls = flat_map (λ l. l ++ 10 ∷ []) ls

-- ---- a line that ends the run

-- some first bytes of a line of the text, and why it says no frame
abbrev pub Cause : List ℕ → Stop → Type 0
Cause line stops.TooLong = max_line ≤ length line
Cause line (stops.Refused r) = Refused (frame_of_line line) r
Cause line stops.Memory = ⊤

abbrev pub status_of : Stop → ℕ
status_of stops.TooLong = 1
status_of stops.Memory = 10
status_of (stops.Refused refusals.Memory) = 10
status_of (stops.Refused refusals.NotJson) = 1
status_of (stops.Refused refusals.NotAnObject) = 1
status_of (stops.Refused (refusals.Missing m)) = 1
status_of (stops.Refused (refusals.Wrong m)) = 1
status_of (stops.Refused (refusals.Unlawful r)) = 1
status_of (stops.Refused (refusals.TooLong len)) = 1

-- the open line says a frame, which stands behind the old ones
abbrev pub Said : List ℕ → List ℕ → List ℕ → Type 0
Said line old new = (frame : List ℕ) × (frame_of_line line ≡ Some frame) × (new ≡ old ++ frame)

-- the open line is empty, or says a frame
abbrev pub EndsWith : List ℕ → List ℕ → List ℕ → Type 0
EndsWith line old new = ((line ≡ []) × (new ≡ old)) ⊎ ((line ≢ []) × Said line old new)

-- ---- how far a run has come

-- These bytes were taken; of the frames that their lines say these are written, and the others are kept.
pub record Stands (taken written : List ℕ) (e : Encoder) : Type 0 where
  pub lines : List (List ℕ)
  pub taken_is : taken ≡ ended lines ++ e.line.items
  pub one : NoEnd e.line.items
  pub short : length e.line.items ≤ max_line
  pub say : Say lines (written ++ e.frames.items)

-- A line ended the run. Behind it bytes may have been taken that were not looked at.
pub record Stops (taken written : List ℕ) (e : Encoder) (why : Stop) : Type 0 where
  pub lines : List (List ℕ)
  pub line : List ℕ
  pub rest : List ℕ
  pub taken_is : taken ≡ ended lines ++ (line ++ rest)
  pub one : NoEnd line
  pub cause : Cause line why
  pub say : Say lines (written ++ e.frames.items)

pub record IsWritingTo (taken : List ℕ) (o o' : Option (List ℕ)) (e : Encoder) : Type 0 where
  pub written : List ℕ
  pub appends : Appends o o' written
  pub stands : Stands taken written e
  pub nothing_kept : e.frames.items ≡ []

pub record IsWriting (i i' o o' : Option (List ℕ)) (e : Encoder) : Type 0 where
  pub taken : List ℕ
  pub consumes : Consumes i i' taken
  pub writing : IsWritingTo taken o o' e

-- ---- what a run did

-- a last line need not be ended, and says nothing where it is empty
abbrev pub last_line : List ℕ → List (List ℕ)
last_line [] = []
last_line (b ∷ bs) = (b ∷ bs) ∷ []

-- what was written of these bytes, and the status
pub data Outcome (taken written : List ℕ) (status : ℕ) : Type 0 where
  -- all lines were written
  all_lines : (lines : List (List ℕ)) (last : List ℕ) → status ≡ 0 → taken ≡ ended lines ++ last → NoEnd last → Say (lines ++ last_line last) written → Outcome taken written status
  -- the lines before one that is refused, or for which memory lacks
  refused : (lines : List (List ℕ)) (line rest : List ℕ) (why : Stop) → status ≡ status_of why → taken ≡ ended lines ++ (line ++ rest) → NoEnd line → Cause line why
      → Say lines written → Outcome taken written status
  -- the lines before the input failed
  cut : (lines : List (List ℕ)) (rest : List ℕ) → status ≡ 3 → taken ≡ ended lines ++ rest → Say lines written → Outcome taken written status
  -- a front of the frames of some first lines, where the output failed
  lost : (lines : List (List ℕ)) (frames : List ℕ) → status ≡ 4 → IsFront (ended lines) (taken ++ 10 ∷ []) → Say lines frames → IsFront written frames → Outcome taken written status

pub record HasWritten (i i' o o' : Option (List ℕ)) (status : ℕ) : Type 0 where
  pub taken : List ℕ
  pub written : List ℕ
  pub consumes : Consumes i i' taken
  pub appends : Appends o o' written
  pub outcome : Outcome taken written status
  pub at_end : status ≡ 0 → IsAtEnd i'
