-- How partitions are gone over for their checkpoints, and where one may be split.
use Rattle.std.specs.Prelude.{IsTrue, List, Some, length, slice_get, ℕ, ◌<◌, ◌≡◌, ◌≤◌}
use Rattle.lt_terms.specs.Key.{below}
use Rattle.lt_parts.specs.declared.entry.PartEntry.{PartEntry}
use Rattle.lt_parts.specs.Parts.{HasKey}

-- no partition from the first to before the last has a checkpoint below a timestamp
abbrev pub NoneBelow : List PartEntry → ℕ → ℕ → ℕ → Type 0
NoneBelow es first last at = (n : ℕ) (e : PartEntry) → first ≤ n → n < last → slice_get es n ≡ Some e → at ≤ e.checkpoint

-- the first one that has
pub record IsFirstBelow (es : List PartEntry) (first last at number checkpoint : ℕ) : Type 0 where
  pub entry : PartEntry
  pub from : first ≤ number
  pub to : number < last
  pub here : slice_get es number ≡ Some entry
  pub its : checkpoint ≡ entry.checkpoint
  pub late : checkpoint < at
  pub earlier : NoneBelow es first number at

-- the partition of a key, which begins below it, where one more may stand
pub record IsInner (es : List PartEntry) (key : List ℕ) (number : ℕ) : Type 0 where
  pub entry : PartEntry
  pub here : slice_get es number ≡ Some entry
  pub has : HasKey es key number
  pub inside : IsTrue (below entry.low key)
  pub few : length es < 1024
