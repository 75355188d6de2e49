-- The names of a lawful catalogue are texts.
use Rattle.std.proofs.Common.{List, None, Option, [], arith, false, length, map, refl, suc, zero, ℕ, ◌++◌, ◌+◌, ◌<◌, ◌∷◌, ◌≡◌}
use Rattle.std.specs.Prelude.{IsTrue, nat_lt, not, ◌&&◌}
use Rattle.std.specs.List.{AllByRecursion, list_all}
use Rattle.std.specs.Option.{option_or}
use Rattle.std.specs.Str.{IsAscii, is_utf8}
use Rattle.std.proofs.lemmas.Bool.{and_from, and_parts, not-false}
use Rattle.std.proofs.lemmas.Bool.Decides.{nat_tests}
use Rattle.std.proofs.lemmas.Str.{IsUtf8-from_ascii, is_utf8-from_IsUtf8}
use Rattle.lt_terms.specs.Kind.{FieldKinds, Kind, enumeration, field_kind, no_kinds, plain, structured}
use Rattle.lt_tables.specs.Schema.{Catalogue, Column, IsCatalogue, KeyColumn, Registered, SchemaVersion, Table, any_bad_name, bad_name_in, bad_name_of, bad_name_within, field_names, first_of, is_letter, is_name, is_name_byte, live_version, whole_version}
use Rattle.lt_codecs.proofs.ListFacts.{all_hold, all_map, all_of_map, all_pass, find_none, or_left, or_right}
use Rattle.lt_lemmas.proofs.ListFacts.{all_none}
use Rattle.lt_image_laws.proofs.TableSteps.{StepsFine, TableFine, catalogue_fine, named}
use Rattle.lt_manifest.proofs.TextLaws.{column_texts, key_texts, kind_texts, kinds_texts, table_texts, version_texts}

-- ---- names

abbrev IsSmall : ℕ → Type 0
IsSmall b = b < 128

abbrev IsText : List ℕ → Type 0
IsText name = IsTrue (is_utf8 name)

ascii : (bs : List ℕ) → AllByRecursion IsSmall bs → IsAscii bs
ascii [] a i = omega arith
ascii (b ∷ bs) a zero = a.0
ascii (b ∷ bs) a (suc i) = ascii bs a.1 i

small_letter : (b : ℕ) → IsTrue (is_letter b) → IsSmall b
small_letter b h = grind (arith, nat_tests)

small_byte : (b : ℕ) → IsTrue (is_name_byte b) → IsSmall b
small_byte b h = grind (arith, nat_tests)

name_text : (name : List ℕ) → not (is_name name) ≡ false → IsText name
name_text [] e = cc
name_text (b ∷ bs) e =
    let h = and_parts (is_letter b && list_all is_name_byte bs) (nat_lt (length bs) 64) (not-false (is_name (b ∷ bs)) e) in
    let p = and_parts (is_letter b) (list_all is_name_byte bs) h.0 in
    is_utf8-from_IsUtf8 (b ∷ bs) (IsUtf8-from_ascii (b ∷ bs) (ascii (b ∷ bs) (small_letter b p.0, all_hold is_name_byte IsSmall small_byte bs p.1)))

names_text : (names : List (List ℕ)) → bad_name_of names ≡ None → AllByRecursion IsText names
names_text names e = all_map (λ n. not (is_name n) ≡ false) IsText names name_text (find_none (λ n. not (is_name n)) names e)

-- ---- kinds and columns

mutual
  kind_text : (k : Kind) → bad_name_in k ≡ None → IsTrue (kind_texts k)
  kind_text (plain r) e = refl
  kind_text (enumeration names) e = all_pass (λ n. is_utf8 n.1) (λ n. IsText n.1) (λ n h. h) names (all_of_map IsText (λ n. n.1) names (names_text (map (λ n. n.1) names) e))
  kind_text (structured ks) e = kinds_text ks (names_text (field_names ks) (or_left (bad_name_of (field_names ks)) (bad_name_within ks) e)) (or_right (bad_name_of (field_names ks)) (bad_name_within ks) e)

  kinds_text : (ks : FieldKinds) → AllByRecursion IsText (field_names ks) → bad_name_within ks ≡ None → IsTrue (kinds_texts ks)
  kinds_text no_kinds a e = refl
  kinds_text (field_kind n name k ks) a e =
      and_from _ _ (and_from _ _ a.0 (kind_text k (or_left (bad_name_in k) (bad_name_within ks) e))) (kinds_text ks a.1 (or_right (bad_name_in k) (bad_name_within ks) e))

abbrev name_fault : Column → Option (List ℕ)
name_fault c = option_or (bad_name_of (c.name ∷ [])) (bad_name_in c.kind)

column_text : (c : Column) → name_fault c ≡ None → IsTrue (column_texts c)
column_text c e =
    let name = names_text (c.name ∷ []) (or_left (bad_name_of (c.name ∷ [])) (bad_name_in c.kind) e) in
    and_from _ _ name.0 (kind_text c.kind (or_right (bad_name_of (c.name ∷ [])) (bad_name_in c.kind) e))

-- what a version says of its names
record NamesText (v : SchemaVersion) : Type 0 where
  table : AllByRecursion IsText (v.table ∷ map (λ k. k.name) v.key)
  columns : IsTrue (list_all column_texts v.columns)

version_names : (v : SchemaVersion) → any_bad_name v ≡ None → NamesText v
version_names v e =
    let names = all_none (bad_name_of (v.table ∷ map (λ k. k.name) v.key) ∷ first_of (map name_fault v.columns) ∷ []) e in
    let each = all_of_map (λ o. o ≡ None) name_fault v.columns (all_none (map name_fault v.columns) names.1.0) in
    record { table = names_text (v.table ∷ map (λ k. k.name) v.key) names.0; columns = all_pass column_texts (λ c. name_fault c ≡ None) column_text v.columns each }

-- ---- tables

versions_text : (t : Table) (before rs : List Registered) → StepsFine t before rs → IsTrue (list_all version_texts rs)
versions_text t before [] s = refl
versions_text t before (r ∷ rs) s = and_from _ _ (version_names (whole_version t (length before + 1) r) s.0.names).columns (versions_text t (before ++ live_version r.columns ∷ []) rs s.1)

head_text : (t : Table) (rs : List Registered) → StepsFine t [] rs → 0 < length rs → AllByRecursion IsText (t.name ∷ map (λ k. k.name) t.key)
head_text t [] s some = absurd (omega (arith, some))
head_text t (r ∷ rs) s some = (version_names (whole_version t (length {A = Registered} [] + 1) r) s.0.names).table

table_text : (t : Table) → TableFine t → IsTrue (table_texts t)
table_text t f =
    let head = head_text (named t) t.versions f.steps f.some in
    let key = all_pass key_texts (λ k. IsText k.name) (λ k h. h) t.key (all_of_map IsText (λ (k : KeyColumn). k.name) t.key head.1) in
    and_from _ _ head.0 (and_from _ _ key (versions_text (named t) [] t.versions f.steps))

pub catalogue_text : (cat : Catalogue) → IsCatalogue cat → IsTrue (list_all table_texts cat)
catalogue_text cat is = all_pass table_texts TableFine table_text cat (catalogue_fine cat is).tables
