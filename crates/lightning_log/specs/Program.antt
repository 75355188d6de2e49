-- What the program does by its words.
use Rattle.std.specs.Prelude.{Bool, List, Option, [], codes, false, true, ℕ, ⊤, ◌∷◌, ◌≡◌}
use Rattle.lt_terms.specs.Conversion.{same_bytes}
use Rattle.lightning_log.specs.Writing.{HasWritten}

abbrev pub is_word : List (List ℕ) → List ℕ → Bool
is_word [] wanted = false
is_word (w ∷ []) wanted = same_bytes w wanted
is_word (w ∷ v ∷ ws) wanted = false

abbrev pub Chosen : Bool → Type 0 → Type 0 → Type 0
Chosen true P Q = P
Chosen false P Q = Q

-- `read` says what it does at each frame, in `Steps`. The input before and after, the output before and after, and the status
abbrev pub RunBy : List (List ℕ) → Option (List ℕ) → Option (List ℕ) → Option (List ℕ) → Option (List ℕ) → ℕ → Type 0
RunBy words i i' o o' status = Chosen (is_word words (codes "write")) (HasWritten i i' o o' status)
    (Chosen (is_word words (codes "read")) ⊤ ((status ≡ 2) × (i' ≡ i) × (o' ≡ o)))
