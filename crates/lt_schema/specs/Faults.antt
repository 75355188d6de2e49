-- Why a version is refused, group by group.
use Rattle.std.specs.Prelude.{Err, IfSome, List, None, Ok, Option, Result, Some, [], length, not, option_map, ℕ, ◌+◌, ◌==◌, ◌∷◌, ◌≡◌}
use Rattle.std.specs.Option.{option_or}
use Rattle.lt_tables.specs.Schema as schema
use Rattle.lt_tables.specs.Schema.{Catalogue, RetireFault, SchemaFault, SchemaVersion, any_bad_name, any_number_fault, any_repeated, bad_default_of, changed_kind, default_again, first_of, is_key_changed, is_mismatch, is_too_deep, reused_column, versions_of, when}
use Rattle.lt_schema.specs.declared.refusal.RetireRefusal.{RetireRefusal}
use Rattle.lt_schema.specs.declared.refusal.RetireRefusal.TheVariants as retire
use Rattle.lt_schema.specs.declared.refusal.SchemaRefusal.{SchemaRefusal}
use Rattle.lt_schema.specs.declared.refusal.SchemaRefusal.TheVariants as refusals
use Rattle.lt_schema.specs.Catalogues.{tables_with}
use Rattle.lt_schema.specs.Limits.{over_counts}

-- what a refusal says of the version; nothing of it where memory ran out
abbrev pub view_refusal : SchemaRefusal → Option SchemaFault
view_refusal (refusals.BadNumber number) = Some (schema.bad_number number)
view_refusal (refusals.BadName name) = Some (schema.bad_name name)
view_refusal (refusals.DuplicateName name) = Some (schema.duplicate_name name)
view_refusal refusals.TooDeep = Some schema.too_deep
view_refusal (refusals.BadDefault column) = Some (schema.bad_default column)
view_refusal (refusals.TableMismatch number) = Some (schema.table_mismatch number)
view_refusal (refusals.VersionNotNext expected) = Some (schema.version_not_next expected)
view_refusal refusals.KeyChanged = Some schema.key_changed
view_refusal (refusals.ColumnReused column) = Some (schema.column_reused column)
view_refusal (refusals.KindChanged column) = Some (schema.kind_changed column)
view_refusal (refusals.DefaultGiven column) = Some (schema.default_given column)
view_refusal (refusals.Limit count) = Some (schema.too_many count)
view_refusal refusals.Memory = None

abbrev pub view_retire : RetireRefusal → RetireFault
view_retire retire.UnknownTable = schema.unknown_table
view_retire retire.UnknownVersion = schema.unknown_version
view_retire retire.AlreadyRetired = schema.already_retired
view_retire retire.LastVersion = schema.last_version

-- a test found the fault that is there, or memory ran out
abbrev pub Finds : {A : Type 0} → Option SchemaFault → Result A SchemaRefusal → Type 0
Finds fault (Ok a) = fault ≡ None
Finds fault (Err e) = IfSome (view_refusal e) (λ f. fault ≡ Some f)

-- the same of a version that is to be retired
abbrev pub Refuses : {A : Type 0} → Option RetireFault → Result A RetireRefusal → Type 0
Refuses fault (Ok a) = fault ≡ None
Refuses fault (Err e) = fault ≡ Some (view_retire e)

-- what is wrong with a version by itself
unfoldable pub fault_alone : SchemaVersion → Option SchemaFault
fault_alone v = first_of
    (option_map schema.bad_number (any_number_fault v)
    ∷ option_map schema.bad_name (any_bad_name v)
    ∷ option_map schema.duplicate_name (any_repeated v)
    ∷ when (is_too_deep v) schema.too_deep
    ∷ option_map schema.bad_default (bad_default_of v)
    ∷ [])

-- what of it does not go with the tables of the catalogue
unfoldable pub fault_among : Catalogue → SchemaVersion → Option SchemaFault
fault_among cat v = let count = length (versions_of cat v.number) in first_of
    (when (is_mismatch cat v) (schema.table_mismatch v.number)
    ∷ when (not (v.version == count + 1)) (schema.version_not_next (count + 1))
    ∷ when (is_key_changed cat v) schema.key_changed
    ∷ [])

-- what of its columns does not go with the older versions
unfoldable pub fault_after : List schema.Registered → List schema.Column → Option SchemaFault
fault_after versions columns = first_of
    (option_map schema.column_reused (reused_column versions columns)
    ∷ option_map schema.kind_changed (changed_kind versions columns)
    ∷ option_map schema.default_given (default_again versions columns)
    ∷ [])

-- and then what passes a limit, with so many tables
abbrev pub fault_of_columns : ℕ → List schema.Registered → List schema.Column → Option SchemaFault
fault_of_columns tables versions columns = option_or (fault_after versions columns) (option_map schema.too_many (over_counts tables versions columns))

abbrev pub fault_against : Catalogue → SchemaVersion → Option SchemaFault
fault_against cat v = option_or (fault_among cat v) (fault_of_columns (tables_with cat v.number) (versions_of cat v.number) v.columns)
