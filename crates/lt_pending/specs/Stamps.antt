-- Changes as they are kept: those of each key, the latest first.
use Rattle.std.specs.Prelude.{List, [], map, ℕ, ◌++◌, ◌∷◌, ◌≡◌}
use Rattle.std.specs.declared.cmp.Ordering.{Ordering}
use Rattle.std.specs.declared.cmp.Reverse.{Reverse}
use Rattle.std.specs.List.{AllByRecursion}
use Rattle.std.specs.Ordering.{nat_cmp}
use Rattle.std.specs.BTreeMap.{BTreeMap}
use Rattle.lt_terms.specs.Log.{Change, change_key}
use Rattle.lt_records.specs.View.{view_change}
use Rattle.lt_records.specs.declared.record.ChangeRecord.{ChangeRecord}

abbrev pub Stamps : Type 0
Stamps = BTreeMap (Reverse ℕ) ChangeRecord

-- a later timestamp is less
abbrev pub later : Reverse ℕ → Reverse ℕ → Ordering
later a b = nat_cmp b.0 a.0

abbrev pub stamped : ℕ → Reverse ℕ
stamped ts = record { 0 = ts }

abbrev pub change_at : Reverse ℕ × ChangeRecord → Change
change_at s = view_change s.1

abbrev pub changes_at : List (Reverse ℕ × ChangeRecord) → List Change
changes_at stamps = map change_at stamps

-- the changes of the keys, in their order
abbrev pub changes_in : List (List ℕ × Stamps) → List Change
changes_in [] = []
changes_in (e ∷ es) = changes_at e.1.entries ++ changes_in es

-- a change stands under its key and its timestamp
abbrev pub IsNamed : List ℕ → Reverse ℕ × ChangeRecord → Type 0
IsNamed key s = (change_key (change_at s) ≡ key) × (s.1.ts ≡ s.0.0)

abbrev pub AreNamed : List (List ℕ × Stamps) → Type 0
AreNamed es = AllByRecursion (λ e. AllByRecursion (IsNamed e.0) e.1.entries) es
