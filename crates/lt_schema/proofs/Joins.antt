-- How kinds are joined.
use Rattle.std.proofs.Common.{List, None, Option, Some, [], ap, length, map, refl, take, ◌∙◌, ◌∷◌, ◌≡◌, ◌≤◌, ℕ}
use Rattle.std.specs.Prelude.{fold}
use Rattle.std.proofs.lemmas.List.{take_all}
use Rattle.lt_core.specs.declared.kind.Kind as code
use Rattle.lt_terms.specs.Kind.{Kind, field_kind, field_kinds_of}
use Rattle.lt_tables.specs.Schema.{bare, bare_fields, joined, joined_all}
use Rattle.lt_schema.specs.View.{view_field, view_fields}

abbrev pub bare_one : ℕ × List ℕ × Kind → ℕ × List ℕ × Kind
bare_one f = (f.0, f.1, bare f.2)

pub bare_each : (fs : List (ℕ × List ℕ × Kind)) → field_kinds_of (map bare_one fs) ≡ bare_fields (field_kinds_of fs)
bare_each [] = refl
bare_each (f ∷ fs) = ap (field_kind f.0 f.1 (bare f.2)) (bare_each fs)

pub bare_done : (copies fields : List (ℕ × List ℕ × code.Kind)) (at : ℕ) → length fields ≤ at → map view_field copies ≡ map bare_one (map view_field (take at fields)) → view_fields copies ≡ bare_fields (view_fields fields)
bare_done copies fields at all e = ap field_kinds_of (e ∙ ap (λ fs. map bare_one (map view_field fs)) (take_all at fields all)) ∙ bare_each (map view_field fields)

-- a carrier so far, joined with the kinds that follow
abbrev pub carried : Option Kind → List Kind → Option Kind
carried None ks = joined_all ks
carried (Some c) ks = Some (fold joined c ks)
