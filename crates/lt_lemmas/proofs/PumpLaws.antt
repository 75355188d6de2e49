-- Names of changes in the order of their row versions.
use Rattle.std.proofs.Common.{Bool, List, [], ap, refl, ℕ, ◌∷◌, ◌≡◌}
use Rattle.std.specs.Prelude.{map, ◌&&◌}
use Rattle.lt_tables.specs.Version.{RowVersion, is_ordered, stands_before}
use Rattle.lt_tables.specs.Pump.{names_rise}
use Rattle.lt_terms.specs.declared.Op.TheVariants as ops

-- ---- names, by rising key and falling timestamp

abbrev pub Name : Type 0
Name = List ℕ × ℕ

-- a name stands as a version of it would
abbrev pub as_version : Name → RowVersion
as_version n = record { key = n.0; ts = n.1; op = ops.Delete; cells = [] }

pub as_versions : (ns : List Name) → names_rise ns ≡ is_ordered (map as_version ns)
as_versions [] = refl
as_versions (a ∷ []) = refl
as_versions (a ∷ b ∷ ns) = ap (λ (x : Bool). stands_before (as_version a) (as_version b) && x) (as_versions (b ∷ ns))
