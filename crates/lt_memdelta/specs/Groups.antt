-- Lists of row versions: without one of them, and the two sides of a key.
use Rattle.std.specs.Prelude.{Bool, List, [], false, filter, not, true, ℕ, ◌&&◌, ◌==◌, ◌∷◌}
use Rattle.lt_terms.specs.Key.{below, same_key}
use Rattle.lt_tables.specs.Version.{RowVersion}

-- whether it is the version of this key and timestamp
abbrev pub has_name : List ℕ → ℕ → RowVersion → Bool
has_name key ts v = same_key key v.key && v.ts == ts

-- the list without the version of this key and timestamp
abbrev pub without : List ℕ → ℕ → List RowVersion → List RowVersion
without key ts vs = filter (λ v. not (has_name key ts v)) vs

-- the versions whose key is below a key, and the others
abbrev pub rows_below : List ℕ → List RowVersion → List RowVersion
rows_below key vs = filter (λ v. below v.key key) vs

abbrev pub rows_from : List ℕ → List RowVersion → List RowVersion
rows_from key vs = filter (λ v. not (below v.key key)) vs

abbrev pub has_rows : List RowVersion → Bool
has_rows [] = false
has_rows (v ∷ vs) = true
