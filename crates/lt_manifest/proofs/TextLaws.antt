-- Reading names as texts gives what reading them as bytes gives, where they are texts, and nothing else.
use Rattle.std.proofs.Common.{Bool, List, None, Option, Some, [], ap, false, refl, sym, suc, true, zero, ℕ, ◌∙◌, ◌∷◌, ◌≡◌}
use Rattle.std.specs.Prelude.{codes, if◌then◌else◌, ◌&&◌, ◌==◌}
use Rattle.std.specs.List.{list_all}
use Rattle.std.specs.Str.{is_utf8}
use Rattle.lt_terms.specs.declared.Rank.{Rank}
use Rattle.lt_terms.specs.Kind.{FieldKinds, Kind, enumeration, field_kind, field_kinds_of, no_kinds, plain, structured}
use Rattle.lt_tables.specs.Schema.{Column, KeyColumn, Registered, Table}
use Rattle.lt_storage.specs.Store.{Manifest, column_bytes, manifest_bytes, table_bytes, version_bytes}
use Rattle.lt_codecs.specs.Codec as codec
use Rattle.lt_codecs.specs.Codec.{Codec, ◌>>=◌, ◌then◌, byte, bytes16, counted, i32, literal, mapped, of_parts, on_tag, optional, read_times, stated, u16, u32, u64, u8, where_true}
use Rattle.lt_codecs.specs.LogCodec.{flag, log_value}
use Rattle.lt_store_codecs.specs.StoreCodec as store
use Rattle.lt_store_codecs.specs.StoreCodec.{has_lawful_parts, key_kind, rank_behind}
use Rattle.lt_codecs.proofs.Codecs.{retyped}
use Rattle.lt_manifest.specs.Texts as texts

-- what was read, where it passes a test
abbrev pub keep : {A : Type 0} → (A → Bool) → Option (A × List ℕ) → Option (A × List ℕ)
keep test o = o >>= λ x. if test x.0 then Some x else None

-- the first reads what the second does, where it passes the test
abbrev pub ReadsOnly : {A : Type 0} → Codec A → (A → Bool) → Codec A → Type 0
ReadsOnly s test a = (bytes : List ℕ) → s.read bytes ≡ keep test (a.read bytes)

abbrev pair_with : {A B : Type 0} → A → B × List ℕ → Option ((A × B) × List ℕ)
pair_with a y = Some ((a, y.0), y.1)

abbrev cons_with : {A : Type 0} → A → List A × List ℕ → Option (List A × List ℕ)
cons_with a xs = Some (a ∷ xs.0, xs.1)

abbrev pass : {A : Type 0} → Bool → A → Option A
pass b x = if b then Some x else None

bind_same : {A B : Type 0} (o : Option A) (f g : A → Option B) → ((x : A) → f x ≡ g x) → (o >>= f) ≡ (o >>= g)
bind_same None f g h = refl
bind_same (Some x) f g h = h x

passed_to : {A B : Type 0} (to : A → B) (x : A × List ℕ) (b : Bool) → (pass b x >>= retyped to) ≡ pass b (to x.0, x.1)
passed_to to x true = refl
passed_to to x false = refl

keep_mapped : {A B : Type 0} (to : A → B) (f : A → Bool) (g : B → Bool) (o : Option (A × List ℕ)) → ((x : A) → g (to x) ≡ f x) → (keep f o >>= retyped to) ≡ keep g (o >>= retyped to)
keep_mapped to f g None h = refl
keep_mapped {A} {B} to f g (Some x) h = passed_to to x (f x.0) ∙ ap (λ (b : Bool). pass b (to x.0, x.1)) (sym (h x.0))

-- ---- one behind the other

paired_by : {A B : Type 0} (a : A) (y : B × List ℕ) (c : Bool) → (pass c y >>= pair_with a) ≡ pass c ((a, y.0), y.1)
paired_by a y true = refl
paired_by a y false = refl

pair_by : {A B : Type 0} (f : A → Bool) (g : B → Bool) (x : A × List ℕ) (b : Bool) (t : List ℕ → Option (B × List ℕ)) (p : Option (B × List ℕ)) → f x.0 ≡ b → t x.1 ≡ p
    → (pass b x >>= λ (z : A × List ℕ). keep g (t z.1) >>= pair_with z.0) ≡ keep (λ (q : A × B). f q.0 && g q.1) (p >>= pair_with x.0)
pair_by {A} {B} f g x true t None e is = ap (λ (o : Option (B × List ℕ)). keep g o >>= pair_with x.0) is
pair_by {A} {B} f g x true t (Some y) e is = ap (λ (o : Option (B × List ℕ)). keep g o >>= pair_with x.0) is ∙ paired_by x.0 y (g y.0) ∙ ap (λ (b : Bool). pass (b && g y.0) ((x.0, y.0), y.1)) (sym e)
pair_by f g x false t None e is = refl
pair_by f g x false t (Some y) e is = ap (λ (b : Bool). pass (b && g y.0) ((x.0, y.0), y.1)) (sym e)

pairs : {A B : Type 0} (f : A → Bool) (g : B → Bool) (s t : List ℕ → Option (B × List ℕ)) (o : Option (A × List ℕ)) → ((bytes : List ℕ) → s bytes ≡ keep g (t bytes))
    → (keep f o >>= λ (x : A × List ℕ). s x.1 >>= pair_with x.0) ≡ keep (λ (p : A × B). f p.0 && g p.1) (o >>= λ (x : A × List ℕ). t x.1 >>= pair_with x.0)
pairs f g s t None h = refl
pairs {A} {B} f g s t (Some x) h =
    bind_same (keep f (Some x)) (λ (z : A × List ℕ). s z.1 >>= pair_with z.0) (λ (z : A × List ℕ). keep g (t z.1) >>= pair_with z.0) (λ z. ap (λ (o : Option (B × List ℕ)). o >>= pair_with z.0) (h z.1))
    ∙ pair_by f g x (f x.0) t (t x.1) refl refl

then_only : {A B : Type 0} (s a : Codec A) (t b : Codec B) (f : A → Bool) (g : B → Bool) → ReadsOnly s f a → ReadsOnly t g b → ReadsOnly (s then t) (λ p. f p.0 && g p.1) (a then b)
then_only {A} {B} s a t b f g h k bytes = ap (λ (o : Option (A × List ℕ)). o >>= λ (x : A × List ℕ). t.read x.1 >>= pair_with x.0) (h bytes) ∙ pairs f g t.read b.read (a.read bytes) k

kept_all : {A : Type 0} (o : Option (A × List ℕ)) → o ≡ keep (λ _. true) o
kept_all None = refl
kept_all (Some x) = refl

all_only : {A : Type 0} (a : Codec A) → ReadsOnly a (λ _. true) a
all_only a bytes = kept_all (a.read bytes)

behind_only : {A B : Type 0} (a : Codec A) (t b : Codec B) (g : B → Bool) → ReadsOnly t g b → ReadsOnly (a then t) (λ p. g p.1) (a then b)
behind_only a t b g k = then_only a a t b (λ _. true) g (all_only a) k

retested : {A : Type 0} (f g : A → Bool) (o : Option (A × List ℕ)) → ((x : A) → f x ≡ g x) → keep f o ≡ keep g o
retested f g None h = refl
retested f g (Some x) h = ap (λ (b : Bool). if b then Some x else None) (h x.0)

and_true : (b : Bool) → (b && true) ≡ b
and_true true = refl
and_true false = refl

front_only : {A B : Type 0} (s a : Codec A) (b : Codec B) (f : A → Bool) → ReadsOnly s f a → ReadsOnly (s then b) (λ p. f p.0) (a then b)
front_only {A} {B} s a b f h bytes = then_only s a b b f (λ _. true) h (all_only b) bytes ∙ retested (λ (p : A × B). f p.0 && true) (λ p. f p.0) ((a then b).read bytes) (λ p. and_true (f p.0))

-- ---- other types, and tests

mapped_only : {A B : Type 0} (to : A → B) (from : B → A) (s a : Codec A) (f : A → Bool) (g : B → Bool) → ((x : A) → g (to x) ≡ f x) → ReadsOnly s f a → ReadsOnly (mapped to from s) g (mapped to from a)
mapped_only {A} to from s a f g same h bytes = ap (λ (o : Option (A × List ℕ)). o >>= retyped to) (h bytes) ∙ keep_mapped to f g (a.read bytes) same

parts_only : {A B : Type 0} (to : A → B) (from : B → A) (spell : B → List ℕ) (s a : Codec A) (f : A → Bool) (g : B → Bool) → ((x : A) → g (to x) ≡ f x) → ReadsOnly s f a → ReadsOnly (of_parts to from spell s) g (of_parts to from spell a)
parts_only {A} to from spell s a f g same h bytes = ap (λ (o : Option (A × List ℕ)). o >>= retyped to) (h bytes) ∙ keep_mapped to f g (a.read bytes) same

swapped : {A : Type 0} (f g : A → Bool) (o : Option (A × List ℕ)) → keep g (keep f o) ≡ keep f (keep g o)
swapped f g None = refl
swapped {A} f g (Some x) = by (f x.0) (g x.0) refl refl
  where
    by : (b c : Bool) → f x.0 ≡ b → g x.0 ≡ c → keep g (if f x.0 then Some x else None) ≡ keep f (if g x.0 then Some x else None)
    by true true e d = ap (λ (b : Bool). keep g (if b then Some x else None)) e ∙ ap (λ (b : Bool). if b then Some x else None) d ∙ sym (ap (λ (b : Bool). keep f (if b then Some x else None)) d ∙ ap (λ (b : Bool). if b then Some x else None) e)
    by true false e d = ap (λ (b : Bool). keep g (if b then Some x else None)) e ∙ ap (λ (b : Bool). if b then Some x else None) d ∙ sym (ap (λ (b : Bool). keep f (if b then Some x else None)) d)
    by false true e d = ap (λ (b : Bool). keep g (if b then Some x else None)) e ∙ sym (ap (λ (b : Bool). keep f (if b then Some x else None)) d ∙ ap (λ (b : Bool). if b then Some x else None) e)
    by false false e d = ap (λ (b : Bool). keep g (if b then Some x else None)) e ∙ sym (ap (λ (b : Bool). keep f (if b then Some x else None)) d)

tested_only : {A : Type 0} (test : A → Bool) (s a : Codec A) (f : A → Bool) → ReadsOnly s f a → ReadsOnly (where_true test s) f (where_true test a)
tested_only test s a f h bytes = ap (keep test) (h bytes) ∙ swapped f test (a.read bytes)

-- ---- lists

listed_by : {A : Type 0} (a : A) (xs : List A × List ℕ) (c : Bool) → (pass c xs >>= cons_with a) ≡ pass c (a ∷ xs.0, xs.1)
listed_by a xs true = refl
listed_by a xs false = refl

list_by : {A : Type 0} (f : A → Bool) (x : A × List ℕ) (b : Bool) (s t : List ℕ → Option (List A × List ℕ)) (p : Option (List A × List ℕ)) → f x.0 ≡ b → t x.1 ≡ p → ((bytes : List ℕ) → s bytes ≡ keep (list_all f) (t bytes))
    → (pass b x >>= λ (z : A × List ℕ). s z.1 >>= cons_with z.0) ≡ keep (list_all f) (p >>= cons_with x.0)
list_by {A} f x true s t None e is h = ap (λ (o : Option (List A × List ℕ)). o >>= cons_with x.0) (h x.1 ∙ ap (keep (list_all f)) is)
list_by {A} f x true s t (Some xs) e is h =
    ap (λ (o : Option (List A × List ℕ)). o >>= cons_with x.0) (h x.1 ∙ ap (keep (list_all f)) is)
    ∙ listed_by x.0 xs (list_all f xs.0)
    ∙ ap (λ (b : Bool). pass (b && list_all f xs.0) (x.0 ∷ xs.0, xs.1)) (sym e)
list_by f x false s t None e is h = refl
list_by f x false s t (Some xs) e is h = ap (λ (b : Bool). pass (b && list_all f xs.0) (x.0 ∷ xs.0, xs.1)) (sym e)

lists : {A : Type 0} (f : A → Bool) (s t : List ℕ → Option (List A × List ℕ)) (o : Option (A × List ℕ)) → ((bytes : List ℕ) → s bytes ≡ keep (list_all f) (t bytes))
    → (keep f o >>= λ (z : A × List ℕ). s z.1 >>= cons_with z.0) ≡ keep (list_all f) (o >>= λ (z : A × List ℕ). t z.1 >>= cons_with z.0)
lists f s t None h = refl
lists f s t (Some x) h = list_by f x (f x.0) s t (t x.1) refl refl h

times_only : {A : Type 0} (s a : Codec A) (f : A → Bool) → ReadsOnly s f a → (n : ℕ) (bytes : List ℕ) → read_times s.read n bytes ≡ keep (list_all f) (read_times a.read n bytes)
times_only s a f h zero bytes = refl
times_only {A} s a f h (suc n) bytes =
    ap (λ (o : Option (A × List ℕ)). o >>= λ (x : A × List ℕ). read_times s.read n x.1 >>= cons_with x.0) (h bytes)
    ∙ lists f (read_times s.read n) (read_times a.read n) (a.read bytes) (λ bytes. times_only s a f h n bytes)

counted_by : {A : Type 0} (f : A → Bool) (s a : ℕ → List ℕ → Option (List A × List ℕ)) (o : Option (ℕ × List ℕ)) → ((n : ℕ) (bytes : List ℕ) → s n bytes ≡ keep (list_all f) (a n bytes)) → (o >>= λ n. s n.0 n.1) ≡ keep (list_all f) (o >>= λ n. a n.0 n.1)
counted_by f s a None h = refl
counted_by f s a (Some n) h = h n.0 n.1

counted_only : {A : Type 0} (count : Codec ℕ) (s a : Codec A) (f : A → Bool) → ReadsOnly s f a → ReadsOnly (counted count s) (list_all f) (counted count a)
counted_only count s a f h bytes = counted_by f (read_times s.read) (read_times a.read) (count.read bytes) (times_only s a f h)

-- ---- tags

on_tag_only : {A B : Type 0} (k tag : ℕ) (s b : Codec B) (to : B → A) (bytes : List ℕ) (f : B → Bool) (g : A → Bool) (others same : Option (A × List ℕ)) → ((y : B) → g (to y) ≡ f y) → ReadsOnly s f b → others ≡ keep g same
    → on_tag k tag s to bytes others ≡ keep g (on_tag k tag b to bytes same)
on_tag_only {A} {B} k tag s b to bytes f g others same is h rest = by (tag == k)
  where
    by : (c : Bool) → (if c then (s.read bytes >>= retyped to) else others) ≡ keep g (if c then (b.read bytes >>= retyped to) else same)
    by true = ap (λ (o : Option (B × List ℕ)). o >>= retyped to) (h bytes) ∙ keep_mapped to f g (b.read bytes) is
    by false = rest

behind_tag : {A : Type 0} (g : A → Bool) (s a : ℕ → List ℕ → Option (A × List ℕ)) (o : Option (ℕ × List ℕ)) → ((tag : ℕ) (bytes : List ℕ) → s tag bytes ≡ keep g (a tag bytes)) → (o >>= λ t. s t.0 t.1) ≡ keep g (o >>= λ t. a t.0 t.1)
behind_tag g s a None h = refl
behind_tag g s a (Some t) h = h t.0 t.1

-- ---- kinds

abbrev mutual
  pub kind_texts : Kind → Bool
  kind_texts (plain r) = true
  kind_texts (enumeration names) = list_all (λ n. is_utf8 n.1) names
  kind_texts (structured ks) = kinds_texts ks

  pub kinds_texts : FieldKinds → Bool
  kinds_texts no_kinds = true
  kinds_texts (field_kind n name k ks) = (is_utf8 name && kind_texts k) && kinds_texts ks

abbrev field_texts : ℕ × List ℕ × Kind → Bool
field_texts f = is_utf8 f.1 && kind_texts f.2

fields_texts : (fs : List (ℕ × List ℕ × Kind)) → kinds_texts (field_kinds_of fs) ≡ list_all field_texts fs
fields_texts [] = refl
fields_texts (f ∷ fs) = ap (λ (b : Bool). (is_utf8 f.1 && kind_texts f.2) && b) (fields_texts fs)

text_only : ReadsOnly texts.text16 is_utf8 bytes16
unfolding texts.text16
text_only bytes = refl

names_only : ReadsOnly texts.enum_names (list_all (λ n. is_utf8 n.1)) store.enum_names
unfolding texts.enum_names store.enum_names
names_only = counted_only u16 (i32 then texts.text16) (i32 then bytes16) (λ n. is_utf8 n.1) (behind_only i32 texts.text16 bytes16 is_utf8 text_only)

field_only : (s a : Codec Kind) → ReadsOnly s kind_texts a → ReadsOnly (texts.kind_field s) field_texts (store.kind_field a)
field_only s a h = mapped_only (λ p. (p.0, p.1.0, p.1.1)) (λ f. (f.0, (f.1, f.2))) (u16 then (texts.text16 then s)) (u16 then (bytes16 then a)) (λ p. is_utf8 p.1.0 && kind_texts p.1.1) field_texts (λ p. refl)
    (behind_only u16 (texts.text16 then s) (bytes16 then a) (λ p. is_utf8 p.0 && kind_texts p.1) (then_only texts.text16 bytes16 s a is_utf8 kind_texts text_only h))

plain_kept : (o : Option (Rank × List ℕ)) → (o >>= retyped plain) ≡ keep kind_texts (o >>= retyped plain)
plain_kept None = refl
plain_kept (Some r) = refl

holding_only : (depth : ℕ) (s a : Codec (List (ℕ × List ℕ × Kind))) → ReadsOnly s (list_all field_texts) a → ReadsOnly (texts.kind_holding depth s) kind_texts (store.kind_holding depth a)
holding_only depth s a h bytes = behind_tag kind_texts (texts.kind_behind s) (store.kind_behind a) (u8.read bytes) (λ tag bytes.
    on_tag_only 6 tag texts.enum_names store.enum_names enumeration bytes (list_all (λ n. is_utf8 n.1)) kind_texts _ _ (λ names. refl) names_only
    (on_tag_only 7 tag s a (λ fs. structured (field_kinds_of fs)) bytes (list_all field_texts) kind_texts _ _ fields_texts h (plain_kept (rank_behind tag bytes))))

nothing_only : {A : Type 0} (f : A → Bool) → ReadsOnly (codec.nothing {A = A}) f (codec.nothing {A = A})
nothing_only f bytes = refl

fields_only : (depth : ℕ) → ReadsOnly (texts.kind_fields depth) (list_all field_texts) (store.kind_fields depth)
unfolding texts.kind_fields store.kind_fields
fields_only zero = nothing_only (list_all field_texts)
fields_only (suc depth) =
    let s = texts.kind_holding depth (texts.kind_fields depth) in
    let a = store.kind_holding depth (store.kind_fields depth) in
    counted_only u16 (texts.kind_field s) (store.kind_field a) field_texts (field_only s a (holding_only depth (texts.kind_fields depth) (store.kind_fields depth) (fields_only depth)))

kind_only : (depth : ℕ) → ReadsOnly (texts.kind depth) kind_texts (store.kind depth)
unfolding texts.kind store.kind
kind_only depth = holding_only depth (texts.kind_fields depth) (store.kind_fields depth) (fields_only depth)

-- ---- tables

abbrev pub column_texts : Column → Bool
column_texts c = is_utf8 c.name && kind_texts c.kind

abbrev pub version_texts : Registered → Bool
version_texts r = list_all column_texts r.columns

abbrev pub key_texts : KeyColumn → Bool
key_texts k = is_utf8 k.name

abbrev pub table_texts : Table → Bool
table_texts t = is_utf8 t.name && (list_all key_texts t.key && list_all version_texts t.versions)

abbrev pub manifest_texts : Manifest → Bool
manifest_texts m = list_all table_texts m.catalogue

column_only : ReadsOnly texts.column column_texts store.column
unfolding texts.column store.column
column_only =
    let kinds = texts.kind 4 then optional log_value in
    let others = store.kind 4 then optional log_value in
    parts_only store.as_column store.parts_of_column column_bytes (u16 then (texts.text16 then kinds)) (u16 then (bytes16 then others)) (λ p. is_utf8 p.1.0 && kind_texts p.1.1.0) column_texts (λ p. refl)
    (behind_only u16 (texts.text16 then kinds) (bytes16 then others) (λ p. is_utf8 p.0 && kind_texts p.1.0)
    (then_only texts.text16 bytes16 kinds others is_utf8 (λ p. kind_texts p.0) text_only
    (front_only (texts.kind 4) (store.kind 4) (optional log_value) kind_texts (kind_only 4))))

version_only : ReadsOnly texts.version version_texts store.version
unfolding texts.version store.version
version_only =
    let columns = counted u16 texts.column in
    let others = counted u16 store.column in
    parts_only (λ p. record { live = p.0; columns = p.1 }) (λ r. (r.live, r.columns)) version_bytes (flag then columns) (flag then others) (λ p. list_all column_texts p.1) version_texts (λ p. refl)
    (behind_only flag columns others (list_all column_texts) (counted_only u16 texts.column store.column column_texts column_only))

key_only : ReadsOnly texts.key_column key_texts store.key_column
unfolding texts.key_column store.key_column
key_only = mapped_only (λ p. record { name = p.0; kind = p.1 }) (λ k. (k.name, k.kind)) (texts.text16 then key_kind) (bytes16 then key_kind) (λ p. is_utf8 p.0) key_texts (λ p. refl) (front_only texts.text16 bytes16 key_kind is_utf8 text_only)

table_only : ReadsOnly texts.table table_texts store.table
unfolding texts.table store.table
table_only =
    let keys = counted byte texts.key_column in
    let versions = counted u16 texts.version in
    let other_keys = counted byte store.key_column in
    let others = counted u16 store.version in
    parts_only store.as_table store.parts_of_table table_bytes (u32 then (texts.text16 then (keys then versions))) (u32 then (bytes16 then (other_keys then others))) (λ p. is_utf8 p.1.0 && (list_all key_texts p.1.1.0 && list_all version_texts p.1.1.1)) table_texts (λ p. refl)
    (behind_only u32 (texts.text16 then (keys then versions)) (bytes16 then (other_keys then others)) (λ p. is_utf8 p.0 && (list_all key_texts p.1.0 && list_all version_texts p.1.1))
    (then_only texts.text16 bytes16 (keys then versions) (other_keys then others) is_utf8 (λ p. list_all key_texts p.0 && list_all version_texts p.1) text_only
    (then_only keys other_keys versions others (list_all key_texts) (list_all version_texts) (counted_only byte texts.key_column store.key_column key_texts key_only) (counted_only u16 texts.version store.version version_texts version_only))))

catalogue_only : ReadsOnly texts.catalogue (list_all table_texts) store.catalogue
unfolding texts.catalogue store.catalogue
catalogue_only = counted_only u32 texts.table store.table table_texts table_only

pub manifest_only : ReadsOnly texts.manifest manifest_texts store.manifest
unfolding texts.manifest texts.manifest_parts store.manifest
manifest_only =
    let rest = counted u32 store.stream then (counted u32 store.partition then counted u32 store.delta) in
    let s = texts.catalogue then rest in
    let a = store.catalogue then rest in
    tested_only has_lawful_parts
    (of_parts store.as_manifest store.parts_of_manifest manifest_bytes (literal (codes "LTM1") then (u64 then (u64 then (u64 then s)))))
    (of_parts store.as_manifest store.parts_of_manifest manifest_bytes (literal (codes "LTM1") then (u64 then (u64 then (u64 then a))))) manifest_texts
    (parts_only store.as_manifest store.parts_of_manifest manifest_bytes (literal (codes "LTM1") then (u64 then (u64 then (u64 then s)))) (literal (codes "LTM1") then (u64 then (u64 then (u64 then a)))) (λ p. list_all table_texts p.1.1.1.1.0) manifest_texts (λ p. refl)
    (behind_only (literal (codes "LTM1")) (u64 then (u64 then (u64 then s))) (u64 then (u64 then (u64 then a))) (λ p. list_all table_texts p.1.1.1.0)
    (behind_only u64 (u64 then (u64 then s)) (u64 then (u64 then a)) (λ p. list_all table_texts p.1.1.0)
    (behind_only u64 (u64 then s) (u64 then a) (λ p. list_all table_texts p.1.0)
    (behind_only u64 s a (λ p. list_all table_texts p.0)
    (front_only texts.catalogue store.catalogue rest (list_all table_texts) catalogue_only))))))
