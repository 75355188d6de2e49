-- What putting a change under a key makes of the list of versions.
use Rattle.std.proofs.Common.{◌≡◌, ℕ, List, [], ◌∷◌, ◌++◌, refl, sym, ap, subst, ◌∙◌, true, false, Ordering, Less, Equal, Greater, arith, eqb-true}
use Rattle.std.specs.Prelude.{Bool, Err, None, Ok, OnErr, OnOk, Result, Option, Some, cond, nat_lt, ◌==◌, ◌&&◌, ◌||◌}
use Rattle.std.specs.List.{AllByRecursion}
use Rattle.std.specs.List.Sorted.{IsStrictlySortedBy}
use Rattle.std.specs.Map.{keys_of, lookup, set_value}
use Rattle.std.specs.BTreeMap.{insert_entry, is_at}
use Rattle.std.specs.Ordering.{is_eq, is_lt, nat_cmp, match_ordering}
use Rattle.std.specs.declared.cmp.Reverse.{Reverse}
use Rattle.std.proofs.lemmas.Bool.Decides.{nat_tests}
use Rattle.std.proofs.lemmas.Cmp.{nat_list_cmp_total, tied_itself}
use Rattle.lt_terms.specs.Key.{bytes_cmp}
use Rattle.lt_tables.specs.Version.{RowVersion, put_version, same_name, stands_before}
use Rattle.lt_lemmas.proofs.MergeLaws.{same-key}
use Rattle.lt_memdelta.specs.Stamps.{Stamps, later, rows_of, stamped, version_at, versions_at}
use Rattle.lt_memdelta.specs.declared.change.Change.{Change}

abbrev pub Held : Type 0
Held = List ℕ × Stamps

-- ---- keys in order

abbrev pub KeysAbove : List ℕ → List Held → Type 0
KeysAbove key es = AllByRecursion (λ k. bytes_cmp key k ≡ Less) (keys_of es)

abbrev pub AreSorted : List Held → Type 0
AreSorted es = IsStrictlySortedBy bytes_cmp (keys_of es)

pub sorted-above : (e : Held) (es : List Held) → AreSorted (e ∷ es) → KeysAbove e.0 es
unfolding IsStrictlySortedBy
sorted-above e es h = h.0

pub sorted-tail : (e : Held) (es : List Held) → AreSorted (e ∷ es) → AreSorted es
unfolding IsStrictlySortedBy
sorted-tail e es h = h.1

pub above-less : (a b : List ℕ) (es : List Held) → bytes_cmp a b ≡ Less → KeysAbove b es → KeysAbove a es
above-less a b [] h i = tt
above-less a b (e ∷ es) h i = (nat_list_cmp_total.trans a b e.0 h i.0, above-less a b es h i.1)

pub key-itself : (key : List ℕ) → bytes_cmp key key ≡ Equal
key-itself key = tied_itself nat_list_cmp_total key

pub key-equal : (a b : List ℕ) → bytes_cmp a b ≡ Equal → a ≡ b
key-equal a b h = same-key a b (ap is_eq h)

abbrev pub held : List ℕ → List Held → Option Stamps
held key es = lookup (is_at (bytes_cmp key)) es

pub held-above : (key : List ℕ) (es : List Held) → KeysAbove key es → held key es ≡ None
held-above key [] h = refl
held-above key (e ∷ es) h = ap (λ o. cond (is_eq o) (Some e.1) (held key es)) h.0 ∙ held-above key es h.1

-- what is held at a list's first key, by how a key stands to it
pub held-by : (key : List ℕ) (e : Held) (es : List Held) (o : Ordering) → bytes_cmp key e.0 ≡ o → held key (e ∷ es) ≡ cond (is_eq o) (Some e.1) (held key es)
held-by key e es o h = ap (λ o. cond (is_eq o) (Some e.1) (held key es)) h

pub set-by : (key : List ℕ) (e : Held) (es : List Held) (s : Stamps) (o : Ordering) → bytes_cmp key e.0 ≡ o
    → set_value (is_at (bytes_cmp key)) (e ∷ es) s ≡ cond (is_eq o) ((e.0, s) ∷ es) (e ∷ set_value (is_at (bytes_cmp key)) es s)
set-by key e es s o h = ap (λ o. cond (is_eq o) ((e.0, s) ∷ es) (e ∷ set_value (is_at (bytes_cmp key)) es s)) h

pub some-is : (a b : Stamps) → Some a ≡ Some b → a ≡ b
some-is a b h = cc

none-some : (s : Stamps) → None ≡ Some s → ⊥
none-some s h = cc

-- ---- one step of putting

chosen : (o : Ordering) (a b c : List RowVersion) → cond (is_lt o) a (cond (is_eq o) b c) ≡ match_ordering o a b c
chosen Less a b c = refl
chosen Equal a b c = refl
chosen Greater a b c = refl

put-by : (v w : RowVersion) (ws : List RowVersion) (o : Ordering) → stands_before v w ≡ is_lt o → same_name v w ≡ is_eq o
    → put_version v (w ∷ ws) ≡ match_ordering o (v ∷ w ∷ ws) (v ∷ ws) (w ∷ put_version v ws)
put-by v w ws o h i = ap (λ b. cond b (v ∷ w ∷ ws) (cond (same_name v w) (v ∷ ws) (w ∷ put_version v ws))) h
    ∙ ap (λ b. cond (is_lt o) (v ∷ w ∷ ws) (cond b (v ∷ ws) (w ∷ put_version v ws))) i
    ∙ chosen o (v ∷ w ∷ ws) (v ∷ ws) (w ∷ put_version v ws)

put-before : (v w : RowVersion) (ws : List RowVersion) → bytes_cmp v.key w.key ≡ Less → put_version v (w ∷ ws) ≡ v ∷ w ∷ ws
put-before v w ws h = put-by v w ws Less (ap (λ o. is_lt o || (is_eq o && nat_lt w.ts v.ts)) h) (ap (λ o. is_eq o && v.ts == w.ts) h)

put-behind : (v w : RowVersion) (ws : List RowVersion) → bytes_cmp v.key w.key ≡ Greater → put_version v (w ∷ ws) ≡ w ∷ put_version v ws
put-behind v w ws h = put-by v w ws Greater (ap (λ o. is_lt o || (is_eq o && nat_lt w.ts v.ts)) h) (ap (λ o. is_eq o && v.ts == w.ts) h)

-- a version goes behind those of a lesser key
put-past : (v : RowVersion) (key : List ℕ) (ss : List (Reverse ℕ × Change)) (ws : List RowVersion) → bytes_cmp v.key key ≡ Greater
    → put_version v (versions_at key ss ++ ws) ≡ versions_at key ss ++ put_version v ws
put-past v key [] ws h = refl
put-past v key (s ∷ ss) ws h = put-behind v (version_at key s) (versions_at key ss ++ ws) h ∙ ap (λ r. version_at key s ∷ r) (put-past v key ss ws h)

-- and before those of greater keys
put-ahead : (v : RowVersion) (key : List ℕ) (ss : List (Reverse ℕ × Change)) (ws : List RowVersion) → bytes_cmp v.key key ≡ Less → put_version v ws ≡ v ∷ ws
    → put_version v (versions_at key ss ++ ws) ≡ v ∷ (versions_at key ss ++ ws)
put-ahead v key [] ws h i = i
put-ahead v key (s ∷ ss) ws h i = put-before v (version_at key s) (versions_at key ss ++ ws) h

pub put-above : (v : RowVersion) (es : List Held) → KeysAbove v.key es → put_version v (rows_of es) ≡ v ∷ rows_of es
put-above v [] h = refl
put-above v (e ∷ es) h = put-ahead v e.0 e.1.entries (rows_of es) h.0 (put-above v es h.1)

-- ---- among the versions of its key

nat-lt : (a b : ℕ) → is_lt (nat_cmp a b) ≡ nat_lt a b
nat-lt a b = grind (arith, nat_tests)

nat-eq : (a b : ℕ) → is_eq (nat_cmp a b) ≡ (b == a)
nat-eq a b = grind (arith, nat_tests)

pub stamp-equal : (a b : ℕ) → nat_cmp a b ≡ Equal → b ≡ a
stamp-equal a b h = eqb-true b a (sym (nat-eq a b) ∙ ap is_eq h)

put-own : (key : List ℕ) (ts : ℕ) (c : Change) (s : Reverse ℕ × Change) (ws : List RowVersion) (o : Ordering) → nat_cmp s.0.0 ts ≡ o
    → put_version (version_at key (stamped ts, c)) (version_at key s ∷ ws)
    ≡ match_ordering o (version_at key (stamped ts, c) ∷ version_at key s ∷ ws) (version_at key (stamped ts, c) ∷ ws) (version_at key s ∷ put_version (version_at key (stamped ts, c)) ws)
put-own key ts c s ws o h = put-by (version_at key (stamped ts, c)) (version_at key s) ws o
    (ap (λ p. is_lt p || (is_eq p && nat_lt s.0.0 ts)) (key-itself key) ∙ sym (nat-lt s.0.0 ts) ∙ ap is_lt h)
    (ap (λ p. is_eq p && ts == s.0.0) (key-itself key) ∙ sym (nat-eq s.0.0 ts) ∙ ap is_eq h)

put-among-by : (key : List ℕ) (ts : ℕ) (c : Change) (s : Reverse ℕ × Change) (ss : List (Reverse ℕ × Change)) (ws : List RowVersion) (o : Ordering) → nat_cmp s.0.0 ts ≡ o
    → put_version (version_at key (stamped ts, c)) (versions_at key ss ++ ws) ≡ versions_at key (insert_entry later ss (stamped ts) c) ++ ws
    → match_ordering o (version_at key (stamped ts, c) ∷ version_at key s ∷ (versions_at key ss ++ ws)) (version_at key (stamped ts, c) ∷ (versions_at key ss ++ ws)) (version_at key s ∷ put_version (version_at key (stamped ts, c)) (versions_at key ss ++ ws))
    ≡ versions_at key (match_ordering o ((stamped ts, c) ∷ s ∷ ss) ((s.0, c) ∷ ss) (s ∷ insert_entry later ss (stamped ts) c)) ++ ws
put-among-by key ts c s ss ws Less h i = refl
put-among-by key ts c s ss ws Equal h i = ap (λ t. version_at key (stamped t, c) ∷ (versions_at key ss ++ ws)) (stamp-equal s.0.0 ts h)
put-among-by key ts c s ss ws Greater h i = ap (λ r. version_at key s ∷ r) i

put-among : (key : List ℕ) (ts : ℕ) (c : Change) (ss : List (Reverse ℕ × Change)) (ws : List RowVersion)
    → put_version (version_at key (stamped ts, c)) ws ≡ version_at key (stamped ts, c) ∷ ws
    → put_version (version_at key (stamped ts, c)) (versions_at key ss ++ ws) ≡ versions_at key (insert_entry later ss (stamped ts) c) ++ ws
put-among key ts c [] ws h = h
put-among key ts c (s ∷ ss) ws h = put-own key ts c s (versions_at key ss ++ ws) (nat_cmp s.0.0 ts) refl
    ∙ put-among-by key ts c s ss ws (nat_cmp s.0.0 ts) refl (put-among key ts c ss ws h)

-- ---- among all versions

module _ (key : List ℕ) (ts : ℕ) (c : Change) where
  abbrev one : RowVersion
  one = version_at key (stamped ts, c)

  put-here : (k : List ℕ) (s : Stamps) (es : List Held) (n : Stamps) → key ≡ k → KeysAbove k es → n.entries ≡ insert_entry later s.entries (stamped ts) c
      → versions_at k n.entries ++ rows_of es ≡ put_version one (versions_at k s.entries ++ rows_of es)
  put-here k s es n p h i =
      let P : List ℕ → Type 0 = λ q. KeysAbove q es → versions_at q n.entries ++ rows_of es ≡ put_version one (versions_at q s.entries ++ rows_of es) in
      subst P p (λ a. ap (λ ss. versions_at key ss ++ rows_of es) i ∙ sym (put-among key ts c s.entries (rows_of es) (put-above one es a))) h

  put-old-by : (e : Held) (es : List Held) (s n : Stamps) (o : Ordering) → bytes_cmp key e.0 ≡ o → KeysAbove e.0 es → cond (is_eq o) (Some e.1) (held key es) ≡ Some s
      → n.entries ≡ insert_entry later s.entries (stamped ts) c
      → (held key es ≡ Some s → rows_of (set_value (is_at (bytes_cmp key)) es n) ≡ put_version one (rows_of es))
      → rows_of (cond (is_eq o) ((e.0, n) ∷ es) (e ∷ set_value (is_at (bytes_cmp key)) es n)) ≡ put_version one (rows_of (e ∷ es))
  put-old-by e es s n Less h a l i rest = let none : held key es ≡ None = held-above key es (above-less key e.0 es h a) in absurd (none-some s (sym none ∙ l))
  put-old-by e es s n Equal h a l i rest = put-here e.0 e.1 es n (key-equal key e.0 h) a (i ∙ ap (λ (x : Stamps). insert_entry later x.entries (stamped ts) c) (sym (some-is e.1 s l)))
  put-old-by e es s n Greater h a l i rest = ap (λ r. versions_at e.0 e.1.entries ++ r) (rest l) ∙ sym (put-past one e.0 e.1.entries (rows_of es) h)

  -- under a key that is held
  pub put-old : (es : List Held) (s n : Stamps) → AreSorted es → held key es ≡ Some s → n.entries ≡ insert_entry later s.entries (stamped ts) c
      → rows_of (set_value (is_at (bytes_cmp key)) es n) ≡ put_version one (rows_of es)
  put-old [] s n h l i = cc
  put-old (e ∷ es) s n h l i = ap rows_of (set-by key e es n (bytes_cmp key e.0) refl)
      ∙ put-old-by e es s n (bytes_cmp key e.0) refl (sorted-above e es h) l i (λ m. put-old es s n (sorted-tail e es h) m i)

  put-new-by : (e : Held) (es : List Held) (n : Stamps) (o : Ordering) → bytes_cmp key e.0 ≡ o → KeysAbove e.0 es → cond (is_eq o) (Some e.1) (held key es) ≡ None
      → n.entries ≡ (stamped ts, c) ∷ []
      → (held key es ≡ None → rows_of (insert_entry bytes_cmp es key n) ≡ put_version one (rows_of es))
      → rows_of (match_ordering o ((key, n) ∷ e ∷ es) ((e.0, n) ∷ es) (e ∷ insert_entry bytes_cmp es key n)) ≡ put_version one (rows_of (e ∷ es))
  put-new-by e es n Less h a l i rest = ap (λ ss. versions_at key ss ++ rows_of (e ∷ es)) i ∙ sym (put-above one (e ∷ es) (h, above-less key e.0 es h a))
  put-new-by e es n Equal h a l i rest = absurd (none-some e.1 (sym l))
  put-new-by e es n Greater h a l i rest = ap (λ r. versions_at e.0 e.1.entries ++ r) (rest l) ∙ sym (put-past one e.0 e.1.entries (rows_of es) h)

  -- under a new key
  pub put-new : (es : List Held) (n : Stamps) → AreSorted es → held key es ≡ None → n.entries ≡ (stamped ts, c) ∷ []
      → rows_of (insert_entry bytes_cmp es key n) ≡ put_version one (rows_of es)
  put-new [] n h l i = ap (λ ss. versions_at key ss ++ []) i
  put-new (e ∷ es) n h l i = put-new-by e es n (bytes_cmp key e.0) refl (sorted-above e es h) l i (λ m. put-new es n (sorted-tail e es h) m i)

-- ---- a key with as many versions as before

put-same-by : (test : List ℕ → Bool) (e : Held) (es : List Held) (s n : Stamps) (b : Bool) → cond b (Some e.1) (lookup test es) ≡ Some s → n.entries ≡ s.entries
    → (lookup test es ≡ Some s → rows_of (set_value test es n) ≡ rows_of es)
    → rows_of (cond b ((e.0, n) ∷ es) (e ∷ set_value test es n)) ≡ rows_of (e ∷ es)
put-same-by test e es s n true l i rest = ap (λ ss. versions_at e.0 ss ++ rows_of es) (i ∙ ap (λ (x : Stamps). x.entries) (sym (some-is e.1 s l)))
put-same-by test e es s n false l i rest = ap (λ r. versions_at e.0 e.1.entries ++ r) (rest l)

pub put-same : (test : List ℕ → Bool) (es : List Held) (s n : Stamps) → lookup test es ≡ Some s → n.entries ≡ s.entries → rows_of (set_value test es n) ≡ rows_of es
put-same test [] s n l i = cc
put-same test (e ∷ es) s n l i = put-same-by test e es s n (test e.0) l i (λ m. put-same test es s n m i)

-- ---- an answer that may lack memory

pub on-ok : {X E P Q : Type 0} → (r : Result X E) → (P → Q) → OnOk r P → OnOk r Q
on-ok (Ok x) f h = f h
on-ok (Err e) f h = h

pub on-err : {X E P Q : Type 0} → (r : Result X E) → (P → Q) → OnErr r P → OnErr r Q
on-err (Ok x) f h = h
on-err (Err e) f h = f h
