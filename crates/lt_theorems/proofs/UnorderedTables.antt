-- A catalogue that is not lawful, computed: a table made anew hides the one behind it.
use Rattle.std.specs.Str.{chars, is_utf8}
use lib.Utf8.{encode}
use Rattle.std.proofs.Common.{[], false, refl, true, ◌++◌, ◌∷◌, ◌≡◌}
use Rattle.std.specs.Prelude.{None, codes}
use Rattle.lt_terms.specs.Conversion.{at_rank, number_of_text}
use Rattle.lt_terms.specs.Kind.{plain}
use Rattle.lt_terms.specs.Log.{change_item}
use Rattle.lt_tables.specs.Schema.{Catalogue, SchemaVersion, carrier, new_table, schema_fault, with_version}
use Rattle.lt_tables.specs.Fair.{breaks, is_fair}
use Rattle.lt_examples.specs.Examples.{head, inserted, version_one}
use Rattle.lt_terms.specs.declared.Rank.TheVariants as rank

-- ---- only in a lawful catalogue: where the tables' numbers do not rise, a table made anew hides the one behind it

computes : Unit {0}
unfolding is_utf8 chars encode at_rank number_of_text carrier schema_fault breaks
computes = tt

abbrev unordered : Catalogue
unordered = record (new_table version_one) { number = 5; name = codes "u" } ∷ new_table version_one ∷ []

abbrev version_two : SchemaVersion
version_two = record version_one { version = 2; columns = version_one.columns ++ record { number = 3; name = codes "c"; kind = plain rank.Int64; fallback = None } ∷ [] }

unordered_added : schema_fault unordered version_two ≡ None
unfolding computes
unordered_added = refl

unordered_fair : is_fair head unordered (change_item inserted ∷ []) ≡ true
unfolding computes
unordered_fair = refl

unordered_unfair : is_fair head (with_version unordered version_two) (change_item inserted ∷ []) ≡ false
unfolding computes
unordered_unfair = refl
