-- The order of the tests, and what a version is that passed them.
use Rattle.std.proofs.Common.{List, None, Option, Some, [], ap, length, lt-ltb, refl, ℕ, ◌+◌, ◌++◌, ◌∙◌, ◌∷◌, ◌≡◌}
use Rattle.std.specs.Prelude.{IfSome, IsTrue, map, nat_lt, not, option_map, ◌==◌}
use Rattle.std.specs.Option.{option_or}
use Rattle.std.proofs.lemmas.Bool.{and_from}
use Rattle.lt_lemmas.proofs.CatalogueLaws.{AllPast, NumbersRise, numbers_rise}
use Rattle.lt_lemmas.proofs.PointLaws.{first_of-append}
use Rattle.lt_tables.specs.Schema.{Catalogue, Column, IsCatalogue, Registered, SchemaFault, SchemaVersion, any_bad_name, any_number_fault, any_repeated, bad_default, bad_default_of, bad_name, bad_number, changed_kind, column_reused, default_again, default_given, duplicate_name, first_of, is_key_changed, is_mismatch, is_too_deep, key_changed, kind_changed, over_limit, reused_column, schema_fault, table_mismatch, too_deep, too_many, version_not_next, versions_of, when, with_version}
use Rattle.lt_terms.specs.Value.{rises_above, rises_strictly}
use Rattle.lt_schema.specs.Faults.{fault_after, fault_against, fault_alone, fault_among}
use Rattle.lt_schema.proofs.LimitLaws.{over_limit_is}
use Rattle.lt_schema.proofs.SeenLaws.{option_or-none}

-- ---- the order of the tests

-- what an earlier test found stays found
pub found_first : (o a b : Option SchemaFault) → IfSome o (λ f. a ≡ Some f) → IfSome o (λ f. option_or a b ≡ Some f)
found_first None a b h = tt
found_first (Some f) a b h = ap (λ x. option_or x b) h

abbrev alone : SchemaVersion → List (Option SchemaFault)
alone v = option_map bad_number (any_number_fault v)
    ∷ option_map bad_name (any_bad_name v)
    ∷ option_map duplicate_name (any_repeated v)
    ∷ when (is_too_deep v) too_deep
    ∷ option_map bad_default (bad_default_of v)
    ∷ []

abbrev among : Catalogue → SchemaVersion → List (Option SchemaFault)
among cat v = let count = length (versions_of cat v.number) in
    when (is_mismatch cat v) (table_mismatch v.number)
    ∷ when (not (v.version == count + 1)) (version_not_next (count + 1))
    ∷ when (is_key_changed cat v) key_changed
    ∷ []

abbrev after : List Registered → List Column → List (Option SchemaFault)
after versions columns = option_map column_reused (reused_column versions columns)
    ∷ option_map kind_changed (changed_kind versions columns)
    ∷ option_map default_given (default_again versions columns)
    ∷ []

-- the tests of the four groups, one after the other
pub fault_parts : (cat : Catalogue) (v : SchemaVersion) → schema_fault cat v ≡ option_or (fault_alone v) (option_or (fault_among cat v) (option_or (fault_after (versions_of cat v.number) v.columns) (option_map too_many (over_limit (with_version cat v) v))))
unfolding schema_fault fault_alone fault_among fault_after
fault_parts cat v =
    let limit = option_map too_many (over_limit (with_version cat v) v) in
    let later = after (versions_of cat v.number) v.columns in
    first_of-append (alone v) (among cat v ++ (later ++ limit ∷ []))
    ∙ ap (option_or (first_of (alone v))) (first_of-append (among cat v) (later ++ limit ∷ []) ∙ ap (option_or (first_of (among cat v))) (first_of-append later (limit ∷ []) ∙ ap (option_or (first_of later)) (option_or-none limit)))

rise_above : (n : ℕ) (ts : Catalogue) → AllPast n ts → NumbersRise ts → IsTrue (rises_above n (map (λ t. t.number) ts))
rise_above n [] past rise = refl
rise_above n (t ∷ ts) past rise = and_from (nat_lt n t.number) (rises_above t.number (map (λ t. t.number) ts)) (lt-ltb n t.number past.0) (rise_above t.number ts rise.0 rise.1)

rise_from : (cat : Catalogue) → NumbersRise cat → IsTrue (rises_strictly (map (λ t. t.number) cat))
rise_from [] rise = refl
rise_from (t ∷ cat) rise = rise_above t.number cat rise.0 rise.1

pub rises : (cat : Catalogue) → IsCatalogue cat → IsTrue (rises_strictly (map (λ t. t.number) cat))
rises cat is = rise_from cat (numbers_rise cat is)

-- the same, with what the code counts
pub fault_is : (cat : Catalogue) (v : SchemaVersion) → IsCatalogue cat
    → schema_fault cat v ≡ option_or (fault_alone v) (fault_against cat v)
fault_is cat v is =
    fault_parts cat v ∙ ap (λ o. option_or (fault_alone v) (option_or (fault_among cat v) (option_or (fault_after (versions_of cat v.number) v.columns) (option_map too_many o)))) (over_limit_is cat v (rises cat is))
