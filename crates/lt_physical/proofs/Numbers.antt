-- The numbers of the columns of a table's first versions.
use Rattle.std.proofs.Common.{List, None, Option, Some, [], ap, arith, length, refl, suc, sym, take, take_all, zero, ℕ, ◌+◌, ◌++◌, ◌-◌, ◌<◌, ◌∙◌, ◌∷◌, ◌≡◌, ◌≤◌, append-nil}
use Rattle.std.specs.Prelude.{flat_map, option_and_then, option_map, slice_get}
use Rattle.std.specs.Option.{option_map_or}
use Rattle.std.proofs.lemmas.Grind.{flat_map-append}
use Rattle.std.proofs.lemmas.List.Sums.{fold-append}
use Rattle.lt_tables.specs.Schema.{Column, Registered, SchemaVersion, Table, column_numbers, put_number, registered, whole_version}
use Rattle.lt_schema.specs.Limits.{numbers_in, with_numbers}

-- the numbers in a table's versions before one
abbrev pub numbers_before : ℕ → Option Table → List ℕ
numbers_before v o = option_map_or (λ t. numbers_in (take (v - 1) t.versions)) o []

numbers_more : (rs : List Registered) (r : Registered) → numbers_in (rs ++ r ∷ []) ≡ with_numbers (numbers_in rs) r.columns
numbers_more rs r =
    ap (with_numbers []) (flat_map-append (λ (r : Registered). r.columns) rs (r ∷ []) ∙ ap (λ cs. flat_map (λ (r : Registered). r.columns) rs ++ cs) (append-nil r.columns))
    ∙ fold-append (λ ns (c : Column). put_number c.number ns) [] (flat_map (λ (r : Registered). r.columns) rs) r.columns

take_more : (rs : List Registered) (n : ℕ) (r : Registered) → slice_get rs n ≡ Some r → take (suc n) rs ≡ take n rs ++ r ∷ []
take_more [] n r e = absurd cc
take_more (x ∷ rs) zero r e = let same : x ≡ r = cc in ap (λ y. y ∷ []) same
take_more (x ∷ rs) (suc n) r e = ap (λ ys. x ∷ ys) (take_more rs n r e)

past_end : (rs : List Registered) (n : ℕ) → slice_get rs n ≡ None → length rs ≤ n
past_end [] n e = omega arith
past_end (x ∷ rs) zero e = absurd cc
past_end (x ∷ rs) (suc n) e = omega (arith, past_end rs n e)

-- one version more
pub one_version : (o : Option Table) (v : ℕ) (x : SchemaVersion) → 0 < v → Some x ≡ option_and_then (λ t. option_map (whole_version t v) (registered t v)) o → with_numbers (numbers_before v o) x.columns ≡ numbers_before (v + 1) o
one_version None v x up e = absurd cc
one_version (Some t) zero x up e = absurd (omega (arith, up))
one_version (Some t) (suc v) x up e = let d : suc v - 1 ≡ v = omega arith in let f : (suc v + 1) - 1 ≡ suc v = omega arith in rw d (rw f (by (slice_get t.versions v) refl e))
  where
    by : (r : Option Registered) → slice_get t.versions v ≡ r → Some x ≡ option_map (whole_version t (suc v)) r → with_numbers (numbers_in (take v t.versions)) x.columns ≡ numbers_in (take (suc v) t.versions)
    by None f e = absurd cc
    by (Some r) f e =
        let columns : x.columns ≡ r.columns = ap (λ o. option_map_or (λ (w : SchemaVersion). w.columns) o []) e in
        ap (with_numbers (numbers_in (take v t.versions))) columns ∙ sym (numbers_more (take v t.versions) r) ∙ ap numbers_in (sym (take_more t.versions v r f))

-- no version stands there
pub no_version : (o : Option Table) (v : ℕ) → 0 < v → None ≡ option_and_then (λ t. option_map (whole_version t v) (registered t v)) o → numbers_before v o ≡ option_map_or column_numbers o []
no_version None v up e = refl
no_version (Some t) zero up e = absurd (omega (arith, up))
no_version (Some t) (suc v) up e = let d : suc v - 1 ≡ v = omega arith in rw d (by (slice_get t.versions v) refl e)
  where
    by : (r : Option Registered) → slice_get t.versions v ≡ r → None ≡ option_map (whole_version t (suc v)) r → numbers_in (take v t.versions) ≡ column_numbers t
    by None f e = ap numbers_in (take_all v t.versions (past_end t.versions v f))
    by (Some r) f e = absurd cc

-- all versions
pub all_versions : (o : Option Table) (v : ℕ) → ((t : Table) → o ≡ Some t → length t.versions ≤ v - 1) → numbers_before v o ≡ option_map_or column_numbers o []
all_versions None v few = refl
all_versions (Some t) v few = ap numbers_in (take_all (v - 1) t.versions (few t refl))
