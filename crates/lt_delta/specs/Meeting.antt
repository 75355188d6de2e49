-- The bundles of a table that meet a range of keys.
use Rattle.std.specs.Prelude.{IsTrue, List, Option, Some, [], drop, false, filter, find, length, slice_get, take, true, ℕ, ◌-◌, ◌<◌, ◌==◌, ◌≡◌, ◌≤◌, ◌↔◌, ◌⊎◌}
use Rattle.std.specs.Borrow.{Bor}
use Rattle.std.specs.List.Sorted.{IsPartitionPoint}
use Rattle.std.specs.Option.{option_copied, option_map_or}
use Rattle.lt_terms.specs.Key.{Range, below, is_below_high}
use Rattle.lt_storage.specs.Store.{BundleEntry, TableIndex, entry_meets}

-- the entries of a table; an unknown table has none
abbrev pub entries_of : List TableIndex → ℕ → List BundleEntry
entries_of ts table = option_map_or (λ t. t.entries) (find (λ t. t.table == table) ts) []

-- The entries that meet the range are those from the first to before the last; twice 0 where none does.
pub record IsMeeting (es : List BundleEntry) (r : Range) (first last : ℕ) : Type 0 where
  pub exact : (n : ℕ) (e : BundleEntry) → slice_get es n ≡ Some e → IsTrue (entry_meets r e) ↔ ((first ≤ n) × (n < last))
  pub met : filter (entry_meets r) es ≡ take (last - first) (drop first es)
  pub within : last ≤ length es
  pub none : (first < last) ⊎ ((first ≡ 0) × (last ≡ 0))

-- the entries that end below a key are those before a place
abbrev pub EndsAt : List ℕ → List BundleEntry → ℕ → Type 0
EndsAt low es i = IsPartitionPoint (λ e. below e.last low ≡ true) (λ e. below e.last low ≡ false) es i

-- the entries that begin below a bound, if there is one, are those before a place
abbrev pub BeginsAt : Option (List ℕ) → List BundleEntry → ℕ → Type 0
BeginsAt high es i = IsPartitionPoint (λ e. is_below_high e.first high ≡ true) (λ e. is_below_high e.first high ≡ false) es i

-- a range, by its bounds as they are handed in
abbrev pub interval : List ℕ → Option (Bor (List ℕ)) → Range
interval low high = record { low = low; high = option_copied high }
