-- The partitions and their ranges.
use Rattle.std.specs.Prelude.{IsTrue, List, None, Option, Some, [], find, length, map, nat_le, nat_lt, option_map, slice_get, zip, ℕ, ◌&&◌, ◌+◌, ◌++◌, ◌<◌, ◌∷◌, ◌≡◌, ◌≤◌, ◌↔◌, ◌⊎◌}
use Rattle.std.specs.Borrow.{Bor}
use Rattle.std.specs.List.{AllByRecursion}
use Rattle.std.specs.Option.{option_copied, option_or}
use Rattle.lt_terms.specs.Key.{Range, in_range, meets, ranges_from, same_key, tile}
use Rattle.lt_tables.specs.Pump.{numbered_from}
use Rattle.lt_tables.specs.Schema.{when}
use Rattle.lt_parts.specs.declared.entry.PartEntry.{PartEntry}
use Rattle.lt_parts.specs.declared.refusal.SplitRefusal.{SplitRefusal}
use Rattle.lt_parts.specs.declared.refusal.SplitRefusal.TheVariants as refusals

abbrev pub lows_of : List PartEntry → List (List ℕ)
lows_of es = map (λ e. e.low) es

-- the range of each partition
abbrev pub ranges : List PartEntry → List Range
ranges es = ranges_from (lows_of es)

abbrev pub checkpoints_of : List PartEntry → List ℕ
checkpoints_of es = map (λ e. e.checkpoint) es

-- The partitions tile the keys and are not too many, and none is durable beyond its checkpoint.
pub record AreParts (es : List PartEntry) : Type 0 where
  pub tiled : IsTrue (tile (lows_of es))
  pub few : length es ≤ 1024
  pub times : AllByRecursion (λ e. e.resume ≤ e.checkpoint) es

-- all keys, from the beginning
abbrev pub whole_entry : PartEntry
whole_entry = record { low = []; resume = 0; checkpoint = 0 }

abbrev pub with_times : ℕ → ℕ → PartEntry → PartEntry
with_times resume checkpoint e = record e { resume = resume; checkpoint = checkpoint }

-- the n-th range has the key
abbrev pub HasKey : List PartEntry → List ℕ → ℕ → Type 0
HasKey es key n = (r : Range) × (slice_get (ranges es) n ≡ Some r) × IsTrue (in_range key r)

-- ---- intervals

-- the keys from a bound on, and below another one where there is one
abbrev pub interval : List ℕ → Option (Bor (List ℕ)) → Range
interval low high = record { low = low; high = option_copied high }

-- The partitions from the first to before the last are those that meet an interval; twice 0 where none does.
pub record Meeting (es : List PartEntry) (q : Range) (first last : ℕ) : Type 0 where
  pub exact : (n : ℕ) (r : Range) → slice_get (ranges es) n ≡ Some r → IsTrue (meets r q) ↔ ((first ≤ n) × (n < last))
  pub within : last ≤ length es
  pub none : (first < last) ⊎ ((first ≡ 0) × (last ≡ 0))

-- the first range that meets an interval with a checkpoint below a timestamp: its number and that checkpoint
abbrev pub first_below_in : List Range → List ℕ → Range → ℕ → Option (ℕ × ℕ)
first_below_in rs cs q at = option_map (λ x. (x.0, x.1.1)) (find (λ x. meets x.1.0 q && nat_lt x.1.1 at) (numbered_from 0 (zip rs cs)))

-- ---- splits

-- An entry more stands behind that of the key, with its times. The number is the new one's.
pub record IsSplit (old : List PartEntry) (key : List ℕ) (new : List PartEntry) (number : ℕ) : Type 0 where
  pub before : List PartEntry
  pub lower : PartEntry
  pub after : List PartEntry
  pub were : old ≡ before ++ lower ∷ after
  pub are : new ≡ before ++ lower ∷ record lower { low = key } ∷ after
  pub has : HasKey old key (length before)
  pub counted : number ≡ length before + 1

-- the partition that begins at a key
abbrev pub edge_in : List PartEntry → List ℕ → Option ℕ
edge_in es key = option_map (λ x. x.0) (find (λ x. same_key x.1.low key) (numbered_from 0 es))

-- why there is no split at a key
abbrev pub split_fault : List PartEntry → List ℕ → Option SplitRefusal
split_fault es key = option_or (option_map refusals.AtEdge (edge_in es key)) (when (nat_le 1024 (length es)) refusals.TooManyParts)

-- what a refusal says of the key and the partitions: nothing where memory ran out
abbrev pub view_refusal : SplitRefusal → Option SplitRefusal
view_refusal (refusals.AtEdge part) = Some (refusals.AtEdge part)
view_refusal refusals.TooManyParts = Some refusals.TooManyParts
view_refusal refusals.Memory = None
