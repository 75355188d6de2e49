-- The words of a refused schema.
use Rattle.std.proofs.Common.{refl, ◌++◌, ◌∷◌, ◌≡◌}
use Rattle.std.specs.Prelude.{codes}
use Rattle.lt_words.specs.Reply.{Cause, cause_words, of_text, of_version, spaced}
use Rattle.lt_tables.specs.Schema.{bad_default, bad_name, bad_number, column_reused, default_given, duplicate_name, key_changed, kind_changed, table_mismatch, too_deep, too_many, version_not_next}
use Rattle.lt_words.specs.SchemaText.{missing, not_json, unknown_member, wrong}

-- a cause has a word at least
pub cause_follows : (c : Cause) → spaced (codes "refused" ∷ codes "E6 BadSchema" ∷ cause_words c) ≡ codes "refused E6 BadSchema " ++ spaced (cause_words c)
cause_follows (of_text not_json) = refl
cause_follows (of_text (unknown_member n)) = refl
cause_follows (of_text (missing f)) = refl
cause_follows (of_text (wrong f)) = refl
cause_follows (of_version (bad_number n)) = refl
cause_follows (of_version (bad_name n)) = refl
cause_follows (of_version (duplicate_name n)) = refl
cause_follows (of_version too_deep) = refl
cause_follows (of_version (bad_default c)) = refl
cause_follows (of_version (table_mismatch n)) = refl
cause_follows (of_version (version_not_next v)) = refl
cause_follows (of_version key_changed) = refl
cause_follows (of_version (column_reused c)) = refl
cause_follows (of_version (kind_changed c)) = refl
cause_follows (of_version (default_given c)) = refl
cause_follows (of_version (too_many n)) = refl
