-- The versions of a table.
use Rattle.std.proofs.Common.{List, None, Option, Some, [], ap, arith, false, get_or, length, map, refl, set, suc, sym, zero, ◌-◌, ◌<◌, ◌≤◌, ◌∙◌, ◌∷◌, ◌≡◌, ℕ}
use Rattle.std.specs.Prelude.{IfSome, option_map, slice_get}
use Rattle.std.specs.Borrow.{Bor}
use Rattle.std.specs.Option.{option_copied}
use Rattle.std.proofs.lemmas.Option.{slice_get-map}
use Rattle.lt_tables.specs.Schema as schema
use Rattle.lt_tables.specs.Schema.{change_at, latest, registered, retired_version, whole_version}
use Rattle.lt_schema.specs.declared.table.Registered.{Registered}
use Rattle.lt_schema.specs.declared.table.Table.TheInside.{Inside}
use Rattle.lt_schema.specs.Tables.{AreWhole, view_registered, view_table}
use Rattle.lt_schema.specs.View.{view_columns, view_version}

last_at : (n : ℕ) → suc (suc n) - 1 ≡ suc (suc n - 1)
last_at n = omega arith

-- the columns of the last version
pub latest_is : (rs : List Registered) (r : Registered) → slice_get rs (length rs - 1) ≡ Some r → latest (map view_registered rs) ≡ view_columns r.version.columns
latest_is [] r e = cc
latest_is (q ∷ []) r e = let same : q ≡ r = cc in ap (λ (x : Registered). view_columns x.version.columns) same
latest_is (q ∷ s ∷ rs) r e = latest_is (s ∷ rs) r (ap (slice_get (q ∷ s ∷ rs)) (sym (last_at (length rs))) ∙ e)

-- a version by its number
pub registered_is : (t : Inside) (v place : ℕ) → v ≡ suc place → registered (view_table t) v ≡ option_map view_registered (slice_get t.versions.items place)
registered_is t v place is = ap (registered (view_table t)) is ∙ slice_get-map view_registered t.versions.items place

pub whole_is : (t : Inside) (v place : ℕ) (o : Option (Bor Registered)) → AreWhole t → v ≡ suc place → option_copied o ≡ slice_get t.versions.items place
    → IfSome o (λ r. view_version r.now.version ≡ whole_version (view_table t) v (view_registered r.now))
whole_is t v place None whole is got = tt
whole_is t v place (Some r) whole is got = whole place r.now (sym got) ∙ ap (λ n. whole_version (view_table t) n (view_registered r.now)) (sym is)

-- one version retired, and none
pub retired_at : (rs : List Registered) (i : ℕ) (r : Registered) → i < length rs → r ≡ get_or rs i r → map view_registered (set rs i (record { live = false; version = r.version })) ≡ change_at retired_version i (map view_registered rs)
retired_at [] i r lt is = absurd (omega arith)
retired_at (q ∷ rs) zero r lt is = ap (λ (x : Registered). record { live = false; columns = view_columns x.version.columns } ∷ map view_registered rs) is
retired_at (q ∷ rs) (suc i) r lt is = ap (λ xs. view_registered q ∷ xs) (retired_at rs i r (omega arith) is)

pub retired_past : (rs : List schema.Registered) (i : ℕ) → length rs ≤ i → change_at retired_version i rs ≡ rs
retired_past [] i all = refl
retired_past (q ∷ rs) zero all = absurd (omega arith)
retired_past (q ∷ rs) (suc i) all = ap (λ xs. q ∷ xs) (retired_past rs i (omega arith))
