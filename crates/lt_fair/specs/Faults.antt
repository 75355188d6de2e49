-- What the tests of a record answer, and the parts that they go by.
use Rattle.std.specs.Prelude.{Bool, List, None, Option, Some, [], false, is_none, nat_le, not, option_and_then, true, ℕ, ⊤, ◌&&◌, ◌∷◌, ◌≡◌}
use Rattle.std.specs.Option.{option_map_or}
use Rattle.std.specs.declared.result.Result.{Result}
use Rattle.std.specs.declared.result.Result.TheVariants.{Err, Ok}
use Rattle.lt_terms.specs.Value.{Value}
use Rattle.lt_terms.specs.Kind.{has_shape}
use Rattle.lt_terms.specs.Key.{is_key_of}
use Rattle.lt_terms.specs.Log.{Change, Header, Item}
use Rattle.lt_tables.specs.Schema.{Catalogue, Column, SchemaVersion, column_numbered, first_of, key_kinds, registered, sets_shape, table_numbered, when}
use Rattle.lt_tables.specs.Fair as fair
use Rattle.lt_tables.specs.Fair.{Point, bad_shape, has_change_shape, is_closed, is_fair, late, out_of_order, point_of, unknown_table_number, unknown_version_number}
use Rattle.lt_fair.specs.View.{view_unfair}
use Rattle.lt_fair.specs.declared.refusal.TakeRefusal.{TakeRefusal}
use Rattle.lt_fair.specs.declared.refusal.TakeRefusal.TheVariants as refusals
use Rattle.lt_fair.specs.declared.refusal.Unfair.{Unfair}

-- the items are fair under the catalogue, no close has ended them, and the point is theirs
pub record HasTaken (h : Header) (cat : Catalogue) (p : Point) (items : List Item) : Type 0 where
  pub fair : is_fair h cat items ≡ true
  pub «open» : is_closed items ≡ false
  pub point : p ≡ point_of h items

-- a test found the rule that is broken, if any
abbrev pub Finds : {A : Type 0} → Option fair.Unfair → Result A Unfair → Type 0
Finds fault (Ok a) = fault ≡ None
Finds fault (Err e) = fault ≡ Some (view_unfair e)

-- the same where memory may run out
abbrev pub Answers : {A : Type 0} → Option fair.Unfair → Result A TakeRefusal → Type 0
Answers fault (Ok a) = fault ≡ None
Answers fault (Err (refusals.Unfair e)) = fault ≡ Some (view_unfair e)
Answers fault (Err refusals.Memory) = ⊤

-- the change has the shape of the version
abbrev pub fits_version : SchemaVersion → Change → Bool
fits_version v c = is_key_of (key_kinds v.key) c.key && sets_shape c.op v.columns c.set

-- what a change breaks of its table and version
abbrev pub version_fault : Catalogue → ℕ → ℕ → Option fair.Unfair
version_fault cat table version = let t = table_numbered cat table in first_of
    (when (is_none t) (unknown_table_number table)
    ∷ when (is_none (option_and_then (λ t. registered t version) t)) (unknown_version_number version)
    ∷ [])

-- and of the version's shape
abbrev pub shape_fault : Catalogue → Change → Option fair.Unfair
shape_fault cat c = let t = table_numbered cat c.table in let r = option_and_then (λ t. registered t c.version) t in first_of
    (when (is_none t) (unknown_table_number c.table)
    ∷ when (is_none r) (unknown_version_number c.version)
    ∷ when (not (option_map_or (λ t. option_map_or (λ r. has_change_shape t r c) r false) t false)) bad_shape
    ∷ [])

-- a timestamp is above the checkpoint, and above the key's last one
abbrev pub time_fault : ℕ → ℕ → ℕ → Option fair.Unfair
time_fault ts checkpoint last = first_of (when (nat_le ts checkpoint) (late checkpoint) ∷ when (nat_le ts last) (out_of_order last) ∷ [])

-- a value may be set in its column
abbrev pub fits_column : List Column → ℕ × Value → Bool
fits_column columns s = option_map_or (λ c. has_shape s.1 c.kind) (column_numbered columns s.0) false
