-- Entries by rising key: two lists of them agree where each key is found in both alike, and a snapshot is such a list.
use Rattle.std.proofs.Common.{Bool, List, [], ap, ap₂, cond, false, inl, inr, refl, subst, sym, true, ℕ, ◌∙◌, ◌∷◌, ◌≡◌}
use Rattle.std.specs.List.{AllByRecursion, cons_option}
use Rattle.std.specs.Prelude.{None, Option, Some, filter, filter_map, find, option_map, ⊤, ◌||◌}
use Rattle.std.proofs.lemmas.Bool.{false≢true}
use Rattle.lt_terms.specs.Key.{below, same_key}
use Rattle.lt_terms.specs.Log.{Change}
use Rattle.lt_terms.specs.Value.{Value}
use Rattle.lt_tables.specs.Row.{AreKeyed, Entry, entry_of, keys_of, row_at, snapshot}
use Rattle.lt_tables.specs.Schema.{Catalogue, Column, Table}
use Rattle.lt_lemmas.proofs.PointLaws.{above, below_trans, itself, same, swapped}
use Rattle.lt_lemmas.proofs.SnapshotLaws.{AreOver, AreRising, IsNamed, IsOne, Named, all_named, apart, changed_or_found, entry_at, has_key, keys_all, keys_rising, named_once, no_row}
use Rattle.lt_lemmas.proofs.SoundLaws.{pick}
use Rattle.lt_lemmas.proofs.ListFacts.{find_held, mapped_some}
use Rattle.lt_laws.proofs.ListFacts.{all_at, from_filter_map}

-- ---- entries by rising key

abbrev pub AreEntriesOver : List ℕ → List Entry → Type 0
AreEntriesOver key es = AllByRecursion (λ e. below key e.key ≡ true) es

abbrev pub EntriesRise : List Entry → Type 0
EntriesRise [] = ⊤
EntriesRise (e ∷ es) = AreEntriesOver e.key es × EntriesRise es

-- the entry of a key
abbrev pub entry_for : List ℕ → List Entry → Option Entry
entry_for key es = find (λ e. same_key e.key key) es

over_lower : (a b : List ℕ) (es : List Entry) → below a b ≡ true → AreEntriesOver b es → AreEntriesOver a es
over_lower a b [] h o = tt
over_lower a b (e ∷ es) h o = (below_trans a b e.key h o.0, over_lower a b es h o.1)

none_for : (key : List ℕ) (es : List Entry) → AreEntriesOver key es → entry_for key es ≡ None
none_for key [] o = refl
none_for key (e ∷ es) o = ap (λ (b : Bool). cond b (Some e) (entry_for key es)) (swapped e.key key ∙ apart key e.key o.0) ∙ none_for key es o.1

for_first : (key : List ℕ) (e : Entry) (es : List Entry) → same_key e.key key ≡ true → entry_for key (e ∷ es) ≡ Some e
for_first key e es h = ap (λ (b : Bool). cond b (Some e) (entry_for key es)) h

for_later : (key : List ℕ) (e : Entry) (es : List Entry) → same_key e.key key ≡ false → entry_for key (e ∷ es) ≡ entry_for key es
for_later key e es h = ap (λ (b : Bool). cond b (Some e) (entry_for key es)) h

abbrev FoundAlike : (List ℕ → Bool) → List Entry → List Entry → Type 0
FoundAlike within es ds = (key : List ℕ) → within key ≡ true → entry_for key es ≡ entry_for key ds

another : (within : List ℕ → Bool) (e : Entry) (key : List ℕ) (b : Bool) → same_key e.key key ≡ b → within e.key ≡ false → within key ≡ true → b ≡ false
another within e key true s h i = let d : within e.key ≡ true = ap within (same e.key key s) ∙ i in absurd (false≢true (sym h ∙ d))
another within e key false s h i = refl

-- a first entry that is not within says nothing of those within
drop_first : (within : List ℕ → Bool) (e : Entry) (es ds : List Entry) → within e.key ≡ false → FoundAlike within (e ∷ es) ds → FoundAlike within es ds
drop_first within e es ds h f key i = sym (for_later key e es (another within e key (same_key e.key key) refl h i)) ∙ f key i

drop_second : (within : List ℕ → Bool) (d : Entry) (es ds : List Entry) → within d.key ≡ false → FoundAlike within es (d ∷ ds) → FoundAlike within es ds
drop_second within d es ds h f key i = f key i ∙ for_later key d ds (another within d key (same_key d.key key) refl h i)

tails_by : (key : List ℕ) (e d : Entry) (es ds : List Entry) (b : Bool) → same_key e.key key ≡ b → e.key ≡ d.key → AreEntriesOver e.key es → AreEntriesOver d.key ds → entry_for key (e ∷ es) ≡ entry_for key (d ∷ ds) → entry_for key es ≡ entry_for key ds
tails_by key e d es ds true s k o p f = let q : e.key ≡ key = same e.key key s in
    none_for key es (subst (λ (x : List ℕ). AreEntriesOver x es) q o) ∙ sym (none_for key ds (subst (λ (x : List ℕ). AreEntriesOver x ds) (sym k ∙ q) p))
tails_by key e d es ds false s k o p f = sym (for_later key e es s) ∙ f ∙ for_later key d ds (ap (λ (x : List ℕ). same_key x key) (sym k) ∙ s)

kept_same : (b : Bool) (e d : Entry) (xs ys : List Entry) → xs ≡ ys → (b ≡ true → e ≡ d) → cond b (e ∷ xs) xs ≡ cond b (d ∷ ys) ys
kept_same true e d xs ys h f = ap₂ (λ (x : Entry) (l : List Entry). x ∷ l) (f refl) h
kept_same false e d xs ys h f = h

not_within : (within : List ℕ → Bool) (key : List ℕ) (b : Bool) → within key ≡ b → (b ≡ true → ⊥) → within key ≡ false
not_within within key true e f = absurd (f refl)
not_within within key false e f = e

abbrev Kept : (List ℕ → Bool) → List Entry → List Entry
Kept within es = filter (λ e. within e.key) es

skip : (within : List ℕ → Bool) (e : Entry) (es : List Entry) → within e.key ≡ false → Kept within (e ∷ es) ≡ Kept within es
skip within e es h = ap (λ (b : Bool). cond b (e ∷ Kept within es) (Kept within es)) h

-- Two lists of entries by rising key in which each key within some is found alike have the same entries within.
pub same_entries : (within : List ℕ → Bool) (es ds : List Entry) → EntriesRise es → EntriesRise ds → FoundAlike within es ds → filter (λ e. within e.key) es ≡ filter (λ e. within e.key) ds
same_entries within [] [] r s f = refl
same_entries within [] (d ∷ ds) r s f =
    let out : within d.key ≡ false = not_within within d.key (within d.key) refl (λ h. let x : None ≡ Some d = f d.key h ∙ for_first d.key d ds (itself d.key) in cc) in
    same_entries within [] ds r s.1 (drop_second within d [] ds out f) ∙ sym (skip within d ds out)
same_entries within (e ∷ es) [] r s f =
    let out : within e.key ≡ false = not_within within e.key (within e.key) refl (λ h. let x : Some e ≡ None = sym (for_first e.key e es (itself e.key)) ∙ f e.key h in cc) in
    skip within e es out ∙ same_entries within es [] r.1 s (drop_first within e es [] out f)
same_entries within (e ∷ es) (d ∷ ds) r s f = pick (below e.key d.key)
    (λ low.
    let out : within e.key ≡ false = not_within within e.key (within e.key) refl
    (λ h. let x : Some e ≡ None = sym (for_first e.key e es (itself e.key)) ∙ f e.key h ∙ none_for e.key (d ∷ ds) (low, over_lower e.key d.key ds low s.0) in cc) in
    skip within e es out ∙ same_entries within es (d ∷ ds) r.1 s (drop_first within e es (d ∷ ds) out f))
    (λ high. pick (same_key e.key d.key)
    (λ q.
    let k : e.key ≡ d.key = same e.key d.key q in
    ap (λ (b : Bool). cond b (e ∷ Kept within es) (Kept within es)) (ap within k)
    ∙ kept_same (within d.key) e d (Kept within es) (Kept within ds)
    (same_entries within es ds r.1 s.1 (λ key i. tails_by key e d es ds (same_key e.key key) refl k r.0 s.0 (f key i)))
    (λ h. let x : Some e ≡ Some d = sym (for_first d.key e es q) ∙ f d.key h ∙ for_first d.key d ds (itself d.key) in cc))
    (λ n.
    let low : below d.key e.key ≡ true = above e.key d.key high n in
    let out : within d.key ≡ false = not_within within d.key (within d.key) refl
    (λ h. let x : None ≡ Some d = sym (none_for d.key (e ∷ es) (low, over_lower d.key e.key es low r.0)) ∙ f d.key h ∙ for_first d.key d ds (itself d.key) in cc) in
    same_entries within (e ∷ es) ds r s.1 (drop_second within d (e ∷ es) ds out f) ∙ sym (skip within d ds out)))

-- ---- the entries of a snapshot

over_given_by : (a : List ℕ) (o : Option Entry) (es : List Entry) → ((e : Entry) → o ≡ Some e → below a e.key ≡ true) → AreEntriesOver a es → AreEntriesOver a (cons_option o es)
over_given_by a None es f h = h
over_given_by a (Some e) es f h = (f e refl, h)

-- what is given for a key has the key
abbrev HasKeys : (Named → Option Entry) → Type 0
HasKeys f = (x : Named) (e : Entry) → f x ≡ Some e → e.key ≡ x.0

over_given : (f : Named → Option Entry) → HasKeys f → (a : List ℕ) (ks : List Named) → AreOver a ks → AreEntriesOver a (filter_map f ks)
over_given f k a [] o = tt
over_given f k a (x ∷ ks) o = over_given_by a (f x) (filter_map f ks) (λ e h. ap (below a) (k x e h) ∙ o.0) (over_given f k a ks o.1)

rise_given_by : (o : Option Entry) (es : List Entry) → ((e : Entry) → o ≡ Some e → AreEntriesOver e.key es) → EntriesRise es → EntriesRise (cons_option o es)
rise_given_by None es f r = r
rise_given_by (Some e) es f r = (f e refl, r)

rise_given : (f : Named → Option Entry) → HasKeys f → (ks : List Named) → AreRising ks → EntriesRise (filter_map f ks)
rise_given f k [] r = tt
rise_given f k (x ∷ ks) r = rise_given_by (f x) (filter_map f ks) (λ e h. subst (λ (a : List ℕ). AreEntriesOver a (filter_map f ks)) (sym (k x e h)) (over_given f k x.0 ks r.0)) (rise_given f k ks r.1)

entry_keys : (table : Table) (columns : List Column) (source : List Change) (t : ℕ) → HasKeys (entry_at table columns source t)
entry_keys table columns source t x e h = let m = mapped_some (entry_of table columns x) (row_at source x.0 t) e h in ap (λ (d : Entry). d.key) (sym m.2)

pub snapshot_rises : (source : List Change) (table : Table) (columns : List Column) (t : ℕ) → EntriesRise (snapshot source table columns t)
unfolding snapshot
snapshot_rises source table columns t = rise_given (entry_at table columns source t) (entry_keys table columns source t) (keys_of table.number source) (keys_rising table.number [] source tt)

given_later : (f : Named → Option Entry) (x k : Named) (ks : List Named) (e : Entry) (o : Option Entry) → f k ≡ o → HasKeys f → same_key x.0 k.0 ≡ false → entry_for x.0 (filter_map f ks) ≡ Some e → entry_for x.0 (cons_option o (filter_map f ks)) ≡ Some e
given_later f x k ks e None d keys s h = h
given_later f x k ks e (Some z) d keys s h = for_later x.0 z (filter_map f ks) (ap (λ (a : List ℕ). same_key a x.0) (keys k z d) ∙ swapped k.0 x.0 ∙ s) ∙ h

given_first_by : (P : Named → Type 0) (f : Named → Option Entry) (x k : Named) (ks : List Named) (e : Entry) (b : Bool) → IsOne P → P x → P k → HasKeys f → same_key x.0 k.0 ≡ b → f x ≡ Some e → (b || has_key x.0 ks) ≡ true
    → (has_key x.0 ks ≡ true → entry_for x.0 (filter_map f ks) ≡ Some e) → entry_for x.0 (cons_option (f k) (filter_map f ks)) ≡ Some e
given_first_by P f x k ks e true one p q keys s g h ih =
    let d : f k ≡ Some e = ap f (sym (one x k p q (same x.0 k.0 s))) ∙ g in
    ap (λ (o : Option Entry). entry_for x.0 (cons_option o (filter_map f ks))) d ∙ for_first x.0 e (filter_map f ks) (ap (λ (a : List ℕ). same_key a x.0) (keys x e g) ∙ itself x.0)
given_first_by P f x k ks e false one p q keys s g h ih = given_later f x k ks e (f k) refl keys s (ih h)

given_first : (P : Named → Type 0) (f : Named → Option Entry) (x : Named) (ks : List Named) (e : Entry) → IsOne P → P x → AllByRecursion P ks → HasKeys f → f x ≡ Some e → has_key x.0 ks ≡ true → entry_for x.0 (filter_map f ks) ≡ Some e
given_first P f x [] e one p q keys g h = cc
given_first P f x (k ∷ ks) e one p q keys g h = given_first_by P f x k ks e (same_key x.0 k.0) one p q.0 keys refl g h (λ i. given_first P f x ks e one p q.1 keys g i)

has_changes : (cat : Catalogue) (source : List Change) (table : Table) (t : ℕ) (x : Named) (set : List (ℕ × Value)) → AreKeyed cat source → IsNamed cat table.number x → row_at source x.0 t ≡ Some set → has_key x.0 (keys_of table.number source) ≡ true
has_changes cat source table t x set keyed named e = elim (changed_or_found cat table.number x source [] named keyed) [
  | inl n ↦ (let d : None ≡ Some set = sym (no_row source x.0 t n) ∙ e in cc)
  | inr h ↦ h
]

-- a key of the table with a row has its entry
pub snapshot_found : (cat : Catalogue) (source : List Change) (table : Table) (columns : List Column) (t : ℕ) (x : Named) (set : List (ℕ × Value)) → AreKeyed cat source → IsNamed cat table.number x → row_at source x.0 t ≡ Some set
    → entry_for x.0 (snapshot source table columns t) ≡ Some (entry_of table columns x set)
unfolding snapshot
snapshot_found cat source table columns t x set keyed named e =
    given_first (IsNamed cat table.number) (entry_at table columns source t) x (keys_of table.number source) (entry_of table columns x set) (named_once cat table.number) named
    (keys_all (IsNamed cat table.number) table.number [] source tt (all_named cat table.number source keyed)) (entry_keys table columns source t) (ap (option_map (entry_of table columns x)) e)
    (has_changes cat source table t x set keyed named e)

-- and each entry is of such a key
pub record EntryFrom (cat : Catalogue) (source : List Change) (table : Table) (t : ℕ) (key : List ℕ) : Type 0 where
  pub name : Named
  pub known : IsNamed cat table.number name
  pub is_key : name.0 ≡ key
  pub set : List (ℕ × Value)
  pub row : row_at source key t ≡ Some set

pub snapshot_from : (cat : Catalogue) (source : List Change) (table : Table) (columns : List Column) (t : ℕ) (key : List ℕ) (d : Entry) → AreKeyed cat source → entry_for key (snapshot source table columns t) ≡ Some d → EntryFrom cat source table t key
unfolding snapshot
snapshot_from cat source table columns t key d keyed e =
    let a = find_held (λ e. same_key e.key key) (snapshot source table columns t) d e in
    let b = from_filter_map (entry_at table columns source t) (keys_of table.number source) d a.0 in
    let m = mapped_some (entry_of table columns b.0) (row_at source b.0.0 t) d b.2 in
    let k : b.0.0 ≡ key = sym (entry_keys table columns source t b.0 d b.2) ∙ same d.key key a.1 in record {
      name = b.0;
      known = all_at (IsNamed cat table.number) (keys_of table.number source) b.0 (keys_all (IsNamed cat table.number) table.number [] source tt (all_named cat table.number source keyed)) b.1;
      is_key = k;
      set = m.0;
      row = ap (λ (x : List ℕ). row_at source x t) (sym k) ∙ m.1;
    }
