-- What is written of a log.
use Rattle.std.specs.Prelude.{List, [], length, take, ℕ, ⊤, ◌++◌, ◌∷◌, ◌≡◌, ◌≤◌}
use Rattle.lt_terms.specs.declared.Format.TheVariants as format
use Rattle.lt_terms.specs.Log.{IsFound, IsFrame, Item, malformed, partial}
use Rattle.lt_log_text.specs.Lines.{line_of}
use Rattle.lightning_log.specs.declared.decoder.Break.{Break}
use Rattle.lightning_log.specs.declared.decoder.Break.TheVariants as breaks
use Rattle.lightning_log.specs.declared.decoder.Step.{Step}
use Rattle.lightning_log.specs.declared.decoder.Step.TheVariants as step

-- An item's frame stands at the front of the bytes, and its line was added; or the bytes are too few to tell, and nothing was.
abbrev pub Steps : ℕ → List ℕ → List ℕ → List ℕ → Step → Type 0
Steps offset bytes old new (step.Took n) = (i : Item) × (n ≤ length bytes) × IsFrame format.One i (take n bytes) × (new ≡ old ++ line_of offset i ++ 10 ∷ [])
Steps offset bytes old new step.Wants = IsFound format.One bytes partial × (new ≡ old)

-- no frame stands at the front of the bytes; or memory was lacking, or the offset too great
abbrev pub Breaks : List ℕ → Break → Type 0
Breaks bytes (breaks.Malformed bad) = IsFound format.One bytes (malformed bad)
Breaks bytes breaks.Far = ⊤
Breaks bytes breaks.Memory = ⊤
