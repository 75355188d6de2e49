-- Counts, one item on.
use Rattle.std.proofs.Common.{List, None, Option, Some, [], ap, ap₂, arith, drop, get_or, length, refl, sym, ◌+◌, ◌++◌, ◌<◌, ◌∙◌, ◌∷◌, ◌≡◌, ℕ}
use Rattle.std.specs.Prelude.{find, flat_map, nat_lt, option_map}
use Rattle.std.specs.List.{cons_option}
use Rattle.std.specs.Option.{option_map_or, option_or}
use Rattle.std.specs.Ordering.{nat_cmp}
use Rattle.std.specs.BTreeSet.{insert_key}
use Rattle.std.proofs.lemmas.List.{append-nil, drop_more}
use Rattle.std.proofs.lemmas.List.Elements.{filter_map-append}
use Rattle.std.proofs.lemmas.List.Folds.{find-append}
use Rattle.std.proofs.lemmas.List.Sums.{fold-append}
use Rattle.lt_terms.specs.Kind.{FieldKinds, Kind, enumeration, field_kind, no_kinds, plain, structured}
use Rattle.lt_tables.specs.Schema.{Column, Registered, bare, column_numbered, enum_sizes, enum_sizes_within, joined, joined_all, kinds_given, live_version, put_number}
use Rattle.lt_schema.specs.declared.version.Column as code
use Rattle.lt_schema.specs.Carriers.{joined_more}
use Rattle.lt_schema.specs.Limits.{long_in, long_of, long_within, with_numbers}
use Rattle.lt_schema.specs.View.{view_columns}

-- ---- the names of enums

mutual
  pub long_is : (k : Kind) → find (nat_lt 256) (enum_sizes k) ≡ long_in k
  long_is (plain r) = refl
  long_is (enumeration names) = refl
  long_is (structured ks) = long_within_is ks

  long_within_is : (ks : FieldKinds) → find (nat_lt 256) (enum_sizes_within ks) ≡ long_within ks
  long_within_is no_kinds = refl
  long_within_is (field_kind n name k ks) = find-append (nat_lt 256) (enum_sizes k) (enum_sizes_within ks) ∙ ap₂ option_or (long_is k) (long_within_is ks)

pub long_of_is : (cs : List Column) → find (nat_lt 256) (flat_map (λ c. enum_sizes c.kind) cs) ≡ long_of cs
long_of_is [] = refl
long_of_is (c ∷ cs) = find-append (nat_lt 256) (enum_sizes c.kind) (flat_map (λ c. enum_sizes c.kind) cs) ∙ ap₂ option_or (long_is c.kind) (long_of_is cs)

-- ---- column numbers

-- a set of numbers keeps them as the definitions do
pub put_key : (ns : List ℕ) (n : ℕ) → insert_key nat_cmp ns n ≡ put_number n ns
put_key [] n = refl
put_key (m ∷ ns) n = grind (arith, put_key ns n)

-- one column on
pub numbers_on : (numbers : List ℕ) (columns : List code.Column) (at : ℕ) (c : code.Column) → at < length columns → c ≡ get_or columns at c
    → with_numbers (put_number c.number numbers) (view_columns (drop (at + 1) columns)) ≡ with_numbers numbers (view_columns (drop at columns))
numbers_on numbers columns at c lt is = sym (ap (λ cs. with_numbers numbers (view_columns cs)) (drop_more columns at c lt ∙ ap (λ x. x ∷ drop (at + 1) columns) (sym is)))

-- ---- carriers

-- the carrier after one version more
joined_push : (ks : List Kind) (k : Kind) → joined_all (ks ++ k ∷ []) ≡ Some (joined_more (joined_all ks) k)
joined_push [] k = refl
joined_push (l ∷ ks) k = ap Some (fold-append joined (bare l) ks (k ∷ []))

more_by : (ks : List Kind) (o : Option Column) → joined_all (ks ++ cons_option (option_map (λ c. c.kind) o) []) ≡ option_map_or (λ c. Some (joined_more (joined_all ks) c.kind)) o (joined_all ks)
more_by ks None = ap joined_all (append-nil ks)
more_by ks (Some c) = joined_push ks c.kind

pub given_more : (versions : List Registered) (columns : List Column) (n : ℕ) (o : Option Column) → column_numbered columns n ≡ o
    → joined_all (kinds_given (versions ++ live_version columns ∷ []) n) ≡ option_map_or (λ c. Some (joined_more (joined_all (kinds_given versions n)) c.kind)) o (joined_all (kinds_given versions n))
given_more versions columns n o e =
    let given = λ (r : Registered). option_map (λ (c : Column). c.kind) (column_numbered r.columns n) in
    ap joined_all (filter_map-append given versions (live_version columns ∷ [])) ∙ ap (λ p. joined_all (kinds_given versions n ++ cons_option (option_map (λ c. c.kind) p) [])) e ∙ more_by (kinds_given versions n) o
