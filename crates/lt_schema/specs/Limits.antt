-- What is counted against the limits.
use Rattle.std.specs.Prelude.{List, None, Option, [], flat_map, fold, length, ℕ, ◌+◌, ◌++◌, ◌∷◌}
use Rattle.std.specs.Option.{option_map_or, option_or}
use Rattle.lt_terms.specs.Kind.{FieldKinds, Kind, enumeration, field_kind, no_kinds, plain, structured}
use Rattle.lt_tables.specs.Schema.{Column, Registered, first_of, joined_all, kinds_given, live_version, over, put_number}

-- rising numbers, with those of columns
abbrev pub with_numbers : List ℕ → List Column → List ℕ
with_numbers numbers columns = fold (λ ns c. put_number c.number ns) numbers columns

-- the numbers of the columns of all versions
abbrev pub numbers_in : List Registered → List ℕ
numbers_in versions = with_numbers [] (flat_map (λ r. r.columns) versions)

-- how many leaves a kind has
abbrev mutual
  pub leaf_total : Kind → ℕ
  leaf_total (plain r) = 1
  leaf_total (enumeration names) = 1
  leaf_total (structured ks) = 1 + leaf_totals ks

  pub leaf_totals : FieldKinds → ℕ
  leaf_totals no_kinds = 0
  leaf_totals (field_kind n name k ks) = leaf_total k + leaf_totals ks

-- how many leaves the carriers of these columns have
abbrev pub leaves_in : List Registered → List ℕ → ℕ
leaves_in versions [] = 0
leaves_in versions (n ∷ ns) = option_map_or leaf_total (joined_all (kinds_given versions n)) 0 + leaves_in versions ns

-- how many names the first enum has that has more than 256
abbrev mutual
  pub long_in : Kind → Option ℕ
  long_in (plain r) = None
  long_in (enumeration names) = over 256 (length names)
  long_in (structured ks) = long_within ks

  pub long_within : FieldKinds → Option ℕ
  long_within no_kinds = None
  long_within (field_kind n name k ks) = option_or (long_in k) (long_within ks)

abbrev pub long_of : List Column → Option ℕ
long_of [] = None
long_of (c ∷ cs) = option_or (long_in c.kind) (long_of cs)

-- the first count that passes its limit, with so many tables and with the columns of one version more
unfoldable pub over_counts : ℕ → List Registered → List Column → Option ℕ
over_counts tables older columns =
    let versions = older ++ live_version columns ∷ [] in
    first_of (over 64 tables ∷ over 256 (length versions) ∷ over 256 (length (numbers_in versions)) ∷ over 1024 (leaves_in versions (numbers_in versions))
    ∷ long_of columns ∷ [])
