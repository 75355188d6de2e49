-- What the catalogue's calls answer, as the catalogue that they leave.
use Rattle.std.proofs.Common.{refl, subst, sym, ℕ, ◌≡◌}
use Rattle.std.specs.Prelude.{Err, None, Ok, Option, Some}
use Rattle.lt_tables.specs.Schema.{Became, Catalogue, RetireFault, SchemaFault, SchemaVersion, added, as_it_was, err_or, retire_fault, retired, schema_fault, then_added, then_retired, with_version, without_version}

answer_ok : {A E : Type 0} (o : Option E) (a b : A) → err_or o a ≡ Ok b → (o ≡ None) × (b ≡ a)
answer_ok None a b e = (refl, cc)
answer_ok (Some f) a b e = absurd cc

pub added_ok : (cat new : Catalogue) (v : SchemaVersion) → added cat v ≡ Ok new → (schema_fault cat v ≡ None) × (new ≡ with_version cat v)
added_ok cat new v e = answer_ok (schema_fault cat v) (with_version cat v) new e

pub retired_ok : (cat new : Catalogue) (n v : ℕ) → retired cat n v ≡ Ok new → (retire_fault cat n v ≡ None) × (new ≡ without_version cat n v)
retired_ok cat new n v e = answer_ok (retire_fault cat n v) (without_version cat n v) new e

answer_err : {A E : Type 0} (o : Option E) (a : A) (f : E) → err_or o a ≡ Err f → o ≡ Some f
answer_err None a f e = absurd cc
answer_err (Some g) a f e = cc

pub added_err : (cat : Catalogue) (v : SchemaVersion) (f : SchemaFault) → added cat v ≡ Err f → schema_fault cat v ≡ Some f
added_err cat v f e = answer_err (schema_fault cat v) (with_version cat v) f e

pub retired_err : (cat : Catalogue) (n v : ℕ) (f : RetireFault) → retired cat n v ≡ Err f → retire_fault cat n v ≡ Some f
retired_err cat n v f e = answer_err (retire_fault cat n v) (without_version cat n v) f e

pub became_added : (cat new : Catalogue) (v : SchemaVersion) → added cat v ≡ Ok new → Became cat new
became_added cat new v e = let a = added_ok cat new v e in subst (Became cat) (sym a.1) (then_added cat v as_it_was a.0)

pub became_retired : (cat new : Catalogue) (n v : ℕ) → retired cat n v ≡ Ok new → Became cat new
became_retired cat new n v e = let a = retired_ok cat new n v e in subst (Became cat) (sym a.1) (then_retired cat n v as_it_was a.0)
