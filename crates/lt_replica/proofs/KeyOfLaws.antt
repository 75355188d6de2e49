-- How literals spell a key: the first version of a table, and the parts one after another.
use Rattle.std.proofs.Common.{Bool, List, [], ap, ap₂, cond, drop, false, get_or, length, not, refl, subst, suc, sym, true, zero, ℕ, ◌++◌, ◌<◌, ◌∙◌, ◌∷◌, ◌≡◌, ◌≤◌}
use Rattle.std.specs.Prelude.{IfNone, None, Option, Some, codes, is_none, nat_lt, option_and_then, option_map, slice_get, ◌==◌, ◌-◌}
use Rattle.std.specs.Borrow.{Bor}
use Rattle.std.specs.List.{AllByRecursion}
use Rattle.std.specs.Option.{option_copied, option_map_or, option_or}
use Rattle.lt_terms.specs.declared.KeyKind.{KeyKind}
use Rattle.lt_terms.specs.Key as keys
use Rattle.lt_terms.specs.Key.{max_key}
use Rattle.lt_machine.specs.Machine.{part_misfit}
use Rattle.lt_tables.specs.Query as query
use Rattle.lt_tables.specs.Query.{bound, literal_part, parts_of}
use Rattle.lt_words.specs.Reply as model
use Rattle.lt_words.specs.Reply.{bad_column, key_too_long, no_such_table, wrong_literal}
use Rattle.lt_tables.specs.Schema as schema
use Rattle.lt_tables.specs.Schema.{Catalogue, IsCatalogue, Registered, Table, after_adding, after_retiring, change_at, first_of, key_kinds, live_version, new_table, nothing_yet, registered, retired_version, schema_version, table_named, table_numbered, when, whole_version, with_retired, with_version, without_version}
use Rattle.std.proofs.Math.Seq.{drop-cons}
use Rattle.std.proofs.lemmas.List.{append-nil, drop_all}
use Rattle.lt_core.specs.View.{view_part, view_parts}
use Rattle.lt_core.specs.declared.key.KeyPart.{KeyPart}
use Rattle.lt_laws.proofs.AnswerLaws.{named_is_numbered}
use Rattle.lt_lemmas.proofs.ListFacts.{find_all}
use Rattle.lt_pred.specs.View.{view_literal, view_literals}
use Rattle.lt_pred.specs.declared.literal.Literal.{Literal}
use Rattle.lt_reply.specs.declared.refusal.Refusal.{Refusal}
use Rattle.lt_schema.specs.View.{view_key, view_key_column, view_version}
use Rattle.lt_schema.specs.declared.version.KeyColumn.{KeyColumn}
use Rattle.lt_schema.specs.declared.version.SchemaVersion.{SchemaVersion}
use Rattle.lt_replica.specs.Splitting.{IsOfTable, IsSplitKey, key_fault, named_key_fault}
use Rattle.lt_replica.specs.Steps.{Refuses}
use Rattle.lt_replica.proofs.Results.{numbers, some_named}

-- ---- the first version of a table stands

abbrev HasFirst : Table → Type 0
HasFirst t = (r : Registered) × (slice_get t.versions 0 ≡ Some r)

first_more : (rs : List Registered) (r : Registered) → (x : Registered) × (slice_get (rs ++ r ∷ []) 0 ≡ Some x)
first_more [] r = (r, refl)
first_more (x ∷ rs) r = (x, refl)

first_retired : (rs : List Registered) (k : ℕ) → (x : Registered) × (slice_get rs 0 ≡ Some x) → (x : Registered) × (slice_get (change_at retired_version k rs) 0 ≡ Some x)
first_retired [] k h = h
first_retired (r ∷ rs) zero h = (retired_version r, refl)
first_retired (r ∷ rs) (suc k) h = (r, refl)

added_by : (v : schema.SchemaVersion) (t : Table) (ts more : Catalogue) (b d : Bool) → AllByRecursion HasFirst more → AllByRecursion HasFirst (t ∷ ts)
    → AllByRecursion HasFirst (cond b (record t { versions = t.versions ++ live_version v.columns ∷ [] } ∷ ts) (cond d (new_table v ∷ t ∷ ts) (t ∷ more)))
added_by v t ts more true d m a = (first_more t.versions (live_version v.columns), a.1)
added_by v t ts more false true m a = ((live_version v.columns, refl), a)
added_by v t ts more false false m a = (a.0, m)

added_first : (v : schema.SchemaVersion) (cat : Catalogue) → AllByRecursion HasFirst cat → AllByRecursion HasFirst (with_version cat v)
added_first v [] a = ((live_version v.columns, refl), tt)
added_first v (t ∷ ts) a = added_by v t ts (with_version ts v) (t.number == v.number) (nat_lt v.number t.number) (added_first v ts a.1) a

retired_by : (b : Bool) (v : ℕ) (t : Table) → HasFirst t → HasFirst (cond b (with_retired v t) t)
retired_by true v t h = first_retired t.versions (v - 1) h
retired_by false v t h = h

retired_first : (number v : ℕ) (cat : Catalogue) → AllByRecursion HasFirst cat → AllByRecursion HasFirst (without_version cat number v)
retired_first number v [] a = tt
retired_first number v (t ∷ ts) a = (retired_by (t.number == number) v t a.0, retired_first number v ts a.1)

all_first : (cat : Catalogue) → IsCatalogue cat → AllByRecursion HasFirst cat
all_first _ nothing_yet = tt
all_first _ (after_adding cat v is e) = added_first v cat (all_first cat is)
all_first _ (after_retiring cat number v is e) = retired_first number v cat (all_first cat is)

version_at : (cat : Catalogue) (t : Table) → table_numbered cat t.number ≡ Some t → schema_version cat t.number 1 ≡ option_map (whole_version t 1) (slice_get t.versions 0)
version_at cat t e = ap (option_and_then (λ t. option_map (whole_version t 1) (registered t 1))) e

first_stands : (cat : Catalogue) (name : List ℕ) (number : ℕ) → IsCatalogue cat → numbers cat name number → None ≡ schema_version cat number 1 → ⊥
first_stands cat name number is e d =
    let n = some_named cat name number e in
    let t = n.0 in
    let i = named_is_numbered cat name t is n.1 in
    let f : HasFirst t = (find_all HasFirst (λ u. u.number == t.number) cat t (all_first cat is) i).0 in
    none_of (d ∙ ap (λ (m : ℕ). schema_version cat m 1) (sym n.2) ∙ version_at cat t i ∙ ap (option_map (whole_version t 1)) f.1)
  where
    none_of : {A : Type 0} {a : A} → None ≡ Some a → ⊥
    none_of e = cc

pub first_is : (cat : Catalogue) (name : List ℕ) (number : ℕ) (version : schema.SchemaVersion) → IsCatalogue cat → numbers cat name number → Some version ≡ schema_version cat number 1 → IsOfTable cat name version
first_is cat name number version is e d =
    let n = some_named cat name number e in
    let t = n.0 in
    let i = named_is_numbered cat name t is n.1 in
    by t n.1 (slice_get t.versions 0) (d ∙ ap (λ (m : ℕ). schema_version cat m 1) (sym n.2) ∙ version_at cat t i)
  where
    whole_is : (t : Table) (r : Registered) → version ≡ whole_version t 1 r → table_named cat name ≡ Some t → IsOfTable cat name version
    whole_is t r e n = record { table = t; named = n; numbered = ap (λ (v : schema.SchemaVersion). v.number) e; keyed = ap (λ (v : schema.SchemaVersion). v.key) e }

    by : (t : Table) → table_named cat name ≡ Some t → (o : Option Registered) → Some version ≡ option_map (whole_version t 1) o → IsOfTable cat name version
    by t n None e = absurd cc
    by t n (Some r) e = whole_is t r (cc) n

pub unless_first : (cat : Catalogue) (name : List ℕ) (number : ℕ) (o : Option (Bor SchemaVersion)) → IsCatalogue cat → numbers cat name number → option_map view_version (option_copied o) ≡ schema_version cat number 1 → IfNone o (table_named cat name ≡ None)
unless_first cat name number None is e d = absurd (first_stands cat name number is e d)
unless_first cat name number (Some v) is e d = tt

-- ---- literals one after another

dropped : {A : Type 0} (xs : List A) (n : ℕ) (x : A) → n < length xs → x ≡ get_or xs n x → drop n xs ≡ x ∷ drop (suc n) xs
dropped {A} xs n x l e = drop-cons xs n x l ∙ ap (λ (y : A). y ∷ drop (suc n) xs) (sym e)

-- The first literals fit, and are these parts; the misfit and the other parts are those of the others.
pub record Fit (ks : List KeyColumn) (ls : List Literal) (n : ℕ) (parts : List KeyPart) : Type 0 where
  pub misfit : part_misfit (view_key ks) (view_literals ls) ≡ part_misfit (view_key (drop n ks)) (view_literals (drop n ls))
  pub spelled : parts_of (key_kinds (view_key ks)) (view_literals ls) ≡ view_parts parts ++ parts_of (key_kinds (view_key (drop n ks))) (view_literals (drop n ls))

pub none_fit : (ks : List KeyColumn) (ls : List Literal) → Fit ks ls 0 []
none_fit ks ls = record { misfit = refl; spelled = refl }

misfit_next : (k : schema.KeyColumn) (l : query.Literal) (ks : List schema.KeyColumn) (ls : List query.Literal) (p : keys.KeyPart) → literal_part k.kind l ≡ Some p → part_misfit (k ∷ ks) (l ∷ ls) ≡ part_misfit ks ls
misfit_next k l ks ls p e = ap (λ (o : Option keys.KeyPart). cond (is_none o) (Some k.name) (part_misfit ks ls)) e

parts_next : (k : KeyKind) (l : query.Literal) (ks : List KeyKind) (ls : List query.Literal) (p : keys.KeyPart) → literal_part k l ≡ Some p → parts_of (k ∷ ks) (l ∷ ls) ≡ p ∷ parts_of ks ls
parts_next k l ks ls p e = ap (λ (o : Option keys.KeyPart). option_map_or (λ (p : keys.KeyPart). p ∷ parts_of ks ls) o []) e

append_one : (xs : List KeyPart) (x : KeyPart) (ys : List keys.KeyPart) → view_parts xs ++ view_part x ∷ ys ≡ view_parts (xs ++ x ∷ []) ++ ys
append_one [] x ys = refl
append_one (y ∷ xs) x ys = ap (λ (zs : List keys.KeyPart). view_part y ∷ zs) (append_one xs x ys)

pub fit_more : (ks : List KeyColumn) (ls : List Literal) (n : ℕ) (parts : List KeyPart) (k : KeyColumn) (l : Literal) (p : KeyPart) → Fit ks ls n parts → n < length ks → n < length ls → k ≡ get_or ks n k → l ≡ get_or ls n l
    → literal_part k.kind (view_literal l) ≡ Some (view_part p) → Fit ks ls (suc n) (parts ++ p ∷ [])
fit_more ks ls n parts k l p f a b d e is =
    let cs = dropped ks n k a d in
    let vs = dropped ls n l b e in
    let others = drop (suc n) ks in
    let rest = drop (suc n) ls in record {
      misfit = f.misfit ∙ ap₂ (λ (x : List KeyColumn) (y : List Literal). part_misfit (view_key x) (view_literals y)) cs vs
          ∙ misfit_next (view_key_column k) (view_literal l) (view_key others) (view_literals rest) (view_part p) is;
      spelled = f.spelled ∙ ap (λ (z : List keys.KeyPart). view_parts parts ++ z) (ap₂ (λ (x : List KeyColumn) (y : List Literal). parts_of (key_kinds (view_key x)) (view_literals y)) cs vs
          ∙ parts_next k.kind (view_literal l) (key_kinds (view_key others)) (view_literals rest) (view_part p) is) ∙ append_one parts p (parts_of (key_kinds (view_key others)) (view_literals rest));
    }

pub misfit_at : (ks : List KeyColumn) (ls : List Literal) (n : ℕ) (parts : List KeyPart) (k : KeyColumn) (l : Literal) → Fit ks ls n parts → n < length ks → n < length ls → k ≡ get_or ks n k → l ≡ get_or ls n l
    → literal_part k.kind (view_literal l) ≡ None → part_misfit (view_key ks) (view_literals ls) ≡ Some k.name
misfit_at ks ls n parts k l f a b d e is =
    f.misfit ∙ ap₂ (λ (x : List KeyColumn) (y : List Literal). part_misfit (view_key x) (view_literals y)) (dropped ks n k a d) (dropped ls n l b e)
    ∙ ap (λ (o : Option keys.KeyPart). cond (is_none o) (Some k.name) (part_misfit (view_key (drop (suc n) ks)) (view_literals (drop (suc n) ls)))) is

pub all_fit : (ks : List KeyColumn) (ls : List Literal) (n : ℕ) (parts : List KeyPart) → Fit ks ls n parts → length ks ≤ n
    → (part_misfit (view_key ks) (view_literals ls) ≡ None) × (view_parts parts ≡ parts_of (key_kinds (view_key ks)) (view_literals ls))
all_fit ks ls n parts f l =
    let e = drop_all n ks l in (
      f.misfit ∙ ap (λ (x : List KeyColumn). part_misfit (view_key x) (view_literals (drop n ls))) e,
      sym (f.spelled ∙ ap (λ (x : List KeyColumn). view_parts parts ++ parts_of (key_kinds (view_key x)) (view_literals (drop n ls))) e ∙ append-nil (view_parts parts)),
    )

-- ---- why there is no key

-- the faults by their parts: of the number of literals, of a literal, and of the length
abbrev faults : Bool → Option (List ℕ) → ℕ → Option model.Refusal
faults b misfit n = first_of (option_map bad_column (when (not b) (codes "key")) ∷ option_map wrong_literal misfit ∷ when (nat_lt max_key n) (key_too_long n) ∷ [])

pub not_as_many : (table : ℕ) (ks : List schema.KeyColumn) (ls : List query.Literal) → (length ls == length ks) ≡ false → key_fault table ks ls ≡ Some (bad_column (codes "key"))
not_as_many table ks ls e = ap (λ (b : Bool). faults b (part_misfit ks ls) (length (bound table (key_kinds ks) ls))) e

pub first_misfit : (table : ℕ) (ks : List schema.KeyColumn) (ls : List query.Literal) (r : model.Refusal) → (length ls == length ks) ≡ true → option_map wrong_literal (part_misfit ks ls) ≡ Some r → key_fault table ks ls ≡ Some r
first_misfit table ks ls r e m = ap (λ (b : Bool). faults b (part_misfit ks ls) (length (bound table (key_kinds ks) ls))) e
    ∙ ap (λ (o : Option model.Refusal). option_or o (option_or (when (nat_lt max_key (length (bound table (key_kinds ks) ls))) (key_too_long (length (bound table (key_kinds ks) ls)))) None)) m

fits_but : (table : ℕ) (ks : List schema.KeyColumn) (ls : List query.Literal) (n : ℕ) → (length ls == length ks) ≡ true → part_misfit ks ls ≡ None → n ≡ length (bound table (key_kinds ks) ls) → key_fault table ks ls ≡ option_or (when (nat_lt max_key n) (key_too_long n)) None
fits_but table ks ls n e m l = ap (λ (b : Bool). faults b (part_misfit ks ls) (length (bound table (key_kinds ks) ls))) e ∙ ap (λ (o : Option (List ℕ)). faults true o (length (bound table (key_kinds ks) ls))) m ∙ ap (faults true None) (sym l)

pub too_long : (table : ℕ) (ks : List schema.KeyColumn) (ls : List query.Literal) (n : ℕ) → (length ls == length ks) ≡ true → part_misfit ks ls ≡ None → n ≡ length (bound table (key_kinds ks) ls) → nat_lt max_key n ≡ true → key_fault table ks ls ≡ Some (key_too_long n)
too_long table ks ls n e m l h = fits_but table ks ls n e m l ∙ ap (λ (b : Bool). option_or (when b (key_too_long n)) None) h

pub no_fault : (table : ℕ) (ks : List schema.KeyColumn) (ls : List query.Literal) (n : ℕ) → (length ls == length ks) ≡ true → part_misfit ks ls ≡ None → n ≡ length (bound table (key_kinds ks) ls) → nat_lt max_key n ≡ false → key_fault table ks ls ≡ None
no_fault table ks ls n e m l h = fits_but table ks ls n e m l ∙ ap (λ (b : Bool). option_or (when b (key_too_long n)) None) h

-- ---- by the name of the table

pub fault_unknown : (cat : Catalogue) (name : List ℕ) (ls : List query.Literal) → table_named cat name ≡ None → named_key_fault cat name ls ≡ Some (no_such_table name)
fault_unknown cat name ls e = ap (λ (o : Option Table). option_or (when (is_none o) (no_such_table name)) (option_and_then (λ t. key_fault t.number t.key ls) o)) e

fault_named : (cat : Catalogue) (name : List ℕ) (ls : List query.Literal) (t : Table) → table_named cat name ≡ Some t → named_key_fault cat name ls ≡ key_fault t.number t.key ls
fault_named cat name ls t e = ap (λ (o : Option Table). option_or (when (is_none o) (no_such_table name)) (option_and_then (λ t. key_fault t.number t.key ls) o)) e

pub version_fault : (cat : Catalogue) (name : List ℕ) (ls : List query.Literal) (v : schema.SchemaVersion) → IsOfTable cat name v → named_key_fault cat name ls ≡ key_fault v.number v.key ls
version_fault cat name ls v i = fault_named cat name ls i.table i.named ∙ ap₂ (λ (n : ℕ) (k : List schema.KeyColumn). key_fault n k ls) (sym i.numbered) (sym i.keyed)

pub refuses_by : (o p : Option model.Refusal) → p ≡ o → (e : Refusal) → Refuses o e → Refuses p e
refuses_by o p d e h = subst (λ (x : Option model.Refusal). Refuses x e) (sym d) h

pub version_key : (cat : Catalogue) (name : List ℕ) (ls : List query.Literal) (v : schema.SchemaVersion) (key : List ℕ) → IsOfTable cat name v → key_fault v.number v.key ls ≡ None → key ≡ bound v.number (key_kinds v.key) ls → IsSplitKey cat name ls key
version_key cat name ls v key i f e = record {
  table = i.table;
  named = i.named;
  free = ap₂ (λ (n : ℕ) (k : List schema.KeyColumn). key_fault n k ls) (sym i.numbered) (sym i.keyed) ∙ f;
  is = e ∙ ap₂ (λ (n : ℕ) (k : List schema.KeyColumn). bound n (key_kinds k) ls) i.numbered i.keyed;
}
