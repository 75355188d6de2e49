-- The names of a key's columns and of a struct's fields.
use Rattle.std.proofs.Common.{List, [], ap, map, refl, ◌∷◌, ◌≡◌, ℕ}
use Rattle.lt_core.specs.declared.kind.Kind.{Kind}
use Rattle.lt_tables.specs.Schema.{field_names}
use Rattle.lt_schema.specs.declared.version.KeyColumn.{KeyColumn}
use Rattle.lt_schema.specs.Names.{key_names}
use Rattle.lt_schema.specs.View.{view_fields, view_key}

pub names_of_key : (key : List KeyColumn) → key_names (view_key key) ≡ map (λ c. c.name) key
names_of_key [] = refl
names_of_key (k ∷ key) = ap (λ ns. k.name ∷ ns) (names_of_key key)

pub names_of_fields : (fields : List (ℕ × List ℕ × Kind)) → field_names (view_fields fields) ≡ map (λ f. f.1) fields
names_of_fields [] = refl
names_of_fields (f ∷ fields) = ap (λ ns. f.1 ∷ ns) (names_of_fields fields)
