-- What the writers of kinds need.
use Rattle.std.specs.Prelude.{IsTrue, List, flat_map, length, ℕ, ◌++◌, ◌<◌, ◌^◌}
use Rattle.std.specs.List.{All}
use Rattle.lt_storage.specs.Store.{kind_bytes}
use Rattle.lt_core.specs.View.{view_kind}
use Rattle.lt_core.specs.declared.kind.Kind.{Kind}
use Rattle.lt_codecs.specs.Codec.{Codec, bytes16, u16}
use Rattle.lt_store_codecs.specs.StoreCodec.{kind_fits}

-- a count, and each of so many
abbrev pub listed : {A : Type 0} → Codec ℕ → (A → List ℕ) → List A → List ℕ
listed count spell xs = count.spell (length xs) ++ flat_map spell xs

-- a kind of some depth has a spelling
abbrev pub HasSpelling : Kind → Type 0
HasSpelling k = (depth : ℕ) × IsTrue (kind_fits depth (view_kind k))

-- so few fields, each with a short name and a spelling
pub record AreFields (fields : List (ℕ × List ℕ × Kind)) : Type 0 where
  pub few : length fields < 2 ^ 16
  pub named : All (λ f. bytes16.Lawful f.1) fields
  pub spelled : All (λ f. HasSpelling f.2) fields

-- number, name and kind of a field
abbrev pub field_bytes : ℕ × List ℕ × Kind → List ℕ
field_bytes f = u16.spell f.0 ++ (bytes16.spell f.1 ++ kind_bytes (view_kind f.2))

-- how many there are, and each of them
abbrev pub fields_bytes : List (ℕ × List ℕ × Kind) → List ℕ
fields_bytes fs = u16.spell (length fs) ++ flat_map field_bytes fs
