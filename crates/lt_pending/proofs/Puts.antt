-- What putting a change under a key makes of the list of changes.
use Rattle.std.proofs.Common.{◌≡◌, ℕ, List, [], ◌∷◌, ◌++◌, refl, sym, ap, subst, ◌∙◌, true, false, Ordering, Less, Equal, Greater, arith, eqb-true}
use Rattle.std.specs.Prelude.{Bool, Err, None, Ok, OnErr, OnOk, Result, Option, Some, cond, length, nat_lt, ◌==◌, ◌&&◌, ◌||◌, ◌+◌}
use Rattle.std.specs.List.{AllByRecursion}
use Rattle.std.specs.List.Sorted.{IsStrictlySortedBy}
use Rattle.std.specs.Map.{keys_of, lookup, set_value}
use Rattle.std.specs.BTreeMap.{insert_entry, is_at}
use Rattle.std.specs.Ordering.{is_eq, is_lt, nat_cmp, match_ordering}
use Rattle.std.specs.declared.cmp.Reverse.{Reverse}
use Rattle.std.proofs.lemmas.Bool.Decides.{nat_tests}
use Rattle.std.proofs.lemmas.Cmp.{nat_list_cmp_total, tied_itself}
use Rattle.lt_terms.specs.Key.{below, bytes_cmp, same_key}
use Rattle.lt_terms.specs.Log.{Change, change_key}
use Rattle.lt_tables.specs.Pump.{put_change}
use Rattle.lt_codecs.proofs.ListFacts.{all_front, all_rest}
use Rattle.lt_lemmas.proofs.MergeLaws.{same-key}
use Rattle.lt_records.specs.View.{view_change}
use Rattle.lt_records.specs.declared.record.ChangeRecord.{ChangeRecord}
use Rattle.lt_pending.specs.Stamps.{AreNamed, IsNamed, Stamps, change_at, changes_at, changes_in, later, stamped}

abbrev pub Held : Type 0
Held = List ℕ × Stamps

abbrev pub Stamped : Type 0
Stamped = Reverse ℕ × ChangeRecord

abbrev pub Named : List ℕ → List Stamped → Type 0
Named key ss = AllByRecursion (IsNamed key) ss

-- ---- keys in order

abbrev pub KeysAbove : List ℕ → List Held → Type 0
KeysAbove key es = AllByRecursion (λ k. bytes_cmp key k ≡ Less) (keys_of es)

abbrev pub AreSorted : List Held → Type 0
AreSorted es = IsStrictlySortedBy bytes_cmp (keys_of es)

pub sorted-above : (e : Held) (es : List Held) → AreSorted (e ∷ es) → KeysAbove e.0 es
unfolding IsStrictlySortedBy
sorted-above e es h = h.0

pub sorted-tail : (e : Held) (es : List Held) → AreSorted (e ∷ es) → AreSorted es
unfolding IsStrictlySortedBy
sorted-tail e es h = h.1

pub above-less : (a b : List ℕ) (es : List Held) → bytes_cmp a b ≡ Less → KeysAbove b es → KeysAbove a es
above-less a b [] h i = tt
above-less a b (e ∷ es) h i = (nat_list_cmp_total.trans a b e.0 h i.0, above-less a b es h i.1)

pub key-itself : (key : List ℕ) → bytes_cmp key key ≡ Equal
key-itself key = tied_itself nat_list_cmp_total key

pub key-equal : (a b : List ℕ) → bytes_cmp a b ≡ Equal → a ≡ b
key-equal a b h = same-key a b (ap is_eq h)

abbrev pub held : List ℕ → List Held → Option Stamps
held key es = lookup (is_at (bytes_cmp key)) es

pub held-above : (key : List ℕ) (es : List Held) → KeysAbove key es → held key es ≡ None
held-above key [] h = refl
held-above key (e ∷ es) h = ap (λ o. cond (is_eq o) (Some e.1) (held key es)) h.0 ∙ held-above key es h.1

pub set-by : (key : List ℕ) (e : Held) (es : List Held) (s : Stamps) (o : Ordering) → bytes_cmp key e.0 ≡ o
    → set_value (is_at (bytes_cmp key)) (e ∷ es) s ≡ cond (is_eq o) ((e.0, s) ∷ es) (e ∷ set_value (is_at (bytes_cmp key)) es s)
set-by key e es s o h = ap (λ o. cond (is_eq o) ((e.0, s) ∷ es) (e ∷ set_value (is_at (bytes_cmp key)) es s)) h

pub some-is : (a b : Stamps) → Some a ≡ Some b → a ≡ b
some-is a b h = cc

none-some : (s : Stamps) → None ≡ Some s → ⊥
none-some s h = cc

-- ---- one step of putting

-- whether a change goes before another
abbrev goes_before : Change → Change → Bool
goes_before c d = below (change_key c) (change_key d) || (same_key (change_key c) (change_key d) && nat_lt d.ts c.ts)

put-by : (c d : Change) (ds : List Change) (b : Bool) → goes_before c d ≡ b → put_change c (d ∷ ds) ≡ cond b (c ∷ d ∷ ds) (d ∷ put_change c ds)
put-by c d ds b h = ap (λ b. cond b (c ∷ d ∷ ds) (d ∷ put_change c ds)) h

put-before : (c d : Change) (ds : List Change) → bytes_cmp (change_key c) (change_key d) ≡ Less → put_change c (d ∷ ds) ≡ c ∷ d ∷ ds
put-before c d ds h = put-by c d ds true (ap (λ o. is_lt o || (is_eq o && nat_lt d.ts c.ts)) h)

put-behind : (c d : Change) (ds : List Change) → bytes_cmp (change_key c) (change_key d) ≡ Greater → put_change c (d ∷ ds) ≡ d ∷ put_change c ds
put-behind c d ds h = put-by c d ds false (ap (λ o. is_lt o || (is_eq o && nat_lt d.ts c.ts)) h)

module _ (c : Change) where
  -- a change goes behind those of a lesser key
  put-past : (key : List ℕ) (ss : List Stamped) (ds : List Change) → Named key ss → bytes_cmp (change_key c) key ≡ Greater
      → put_change c (changes_at ss ++ ds) ≡ changes_at ss ++ put_change c ds
  put-past key [] ds n h = refl
  put-past key (s ∷ ss) ds n h = put-behind c (change_at s) (changes_at ss ++ ds) (ap (bytes_cmp (change_key c)) n.0.0 ∙ h) ∙ ap (λ r. change_at s ∷ r) (put-past key ss ds n.1 h)

  -- and before those of greater keys
  put-ahead : (key : List ℕ) (ss : List Stamped) (ds : List Change) → Named key ss → bytes_cmp (change_key c) key ≡ Less → put_change c ds ≡ c ∷ ds
      → put_change c (changes_at ss ++ ds) ≡ c ∷ (changes_at ss ++ ds)
  put-ahead key [] ds n h i = i
  put-ahead key (s ∷ ss) ds n h i = put-before c (change_at s) (changes_at ss ++ ds) (ap (bytes_cmp (change_key c)) n.0.0 ∙ h)

  put-above : (es : List Held) → AreNamed es → KeysAbove (change_key c) es → put_change c (changes_in es) ≡ c ∷ changes_in es
  put-above [] n h = refl
  put-above (e ∷ es) n h = put-ahead e.0 e.1.entries (changes_in es) n.0 h.0 (put-above es n.1 h.1)

-- ---- among the changes of its key

nat-lt : (a b : ℕ) → is_lt (nat_cmp a b) ≡ nat_lt a b
nat-lt a b = grind (arith, nat_tests)

nat-eq : (a b : ℕ) → is_eq (nat_cmp a b) ≡ (b == a)
nat-eq a b = grind (arith, nat_tests)

pub stamp-equal : (a b : ℕ) → nat_cmp a b ≡ Equal → b ≡ a
stamp-equal a b h = eqb-true b a (sym (nat-eq a b) ∙ ap is_eq h)

module _ (r : ChangeRecord) where
  abbrev one : Change
  one = view_change r

  abbrev key : List ℕ
  key = change_key one

  abbrev entry : Stamped
  entry = (stamped r.ts, r)

  -- no other change has its name
  abbrev pub IsFresh : List Change → Type 0
  IsFresh cs = AllByRecursion (λ d. (change_key d ≡ key) → d.ts ≡ r.ts → ⊥) cs

  own-step : (s : Stamped) (o : Ordering) → IsNamed key s → nat_cmp s.0.0 r.ts ≡ o → goes_before one (change_at s) ≡ is_lt o
  own-step s o n h = ap (λ k. below key k || (same_key key k && nat_lt s.1.ts r.ts)) n.0
      ∙ ap (λ p. is_lt p || (is_eq p && nat_lt s.1.ts r.ts)) (key-itself key) ∙ ap (λ t. nat_lt t r.ts) n.1 ∙ sym (nat-lt s.0.0 r.ts) ∙ ap is_lt h

  put-among-by : (s : Stamped) (ss : List Stamped) (ds : List Change) (o : Ordering) → nat_cmp s.0.0 r.ts ≡ o → IsNamed key s → ((change_key (change_at s) ≡ key) → s.1.ts ≡ r.ts → ⊥)
      → put_change one (changes_at ss ++ ds) ≡ changes_at (insert_entry later ss (stamped r.ts) r) ++ ds
      → cond (is_lt o) (one ∷ change_at s ∷ (changes_at ss ++ ds)) (change_at s ∷ put_change one (changes_at ss ++ ds))
      ≡ changes_at (match_ordering o (entry ∷ s ∷ ss) ((s.0, r) ∷ ss) (s ∷ insert_entry later ss (stamped r.ts) r)) ++ ds
  put-among-by s ss ds Less h n f i = refl
  put-among-by s ss ds Equal h n f i = absurd (f n.0 (n.1 ∙ sym (stamp-equal s.0.0 r.ts h)))
  put-among-by s ss ds Greater h n f i = ap (λ l. change_at s ∷ l) i

  put-among : (ss : List Stamped) (ds : List Change) → Named key ss → IsFresh (changes_at ss) → put_change one ds ≡ one ∷ ds
      → put_change one (changes_at ss ++ ds) ≡ changes_at (insert_entry later ss (stamped r.ts) r) ++ ds
  put-among [] ds n f h = h
  put-among (s ∷ ss) ds n f h = put-by one (change_at s) (changes_at ss ++ ds) (is_lt (nat_cmp s.0.0 r.ts)) (own-step s (nat_cmp s.0.0 r.ts) n.0 refl)
      ∙ put-among-by s ss ds (nat_cmp s.0.0 r.ts) refl n.0 f.0 (put-among ss ds n.1 f.1 h)

  -- ---- among all changes

  put-here : (k : List ℕ) (s : Stamps) (es : List Held) (n : Stamps) → key ≡ k → KeysAbove k es → Named k s.entries → AreNamed es → IsFresh (changes_at s.entries)
      → n.entries ≡ insert_entry later s.entries (stamped r.ts) r
      → changes_at n.entries ++ changes_in es ≡ put_change one (changes_at s.entries ++ changes_in es)
  put-here k s es n p h m ms f i =
      let P : List ℕ → Type 0 = λ q. KeysAbove q es → Named q s.entries → changes_at n.entries ++ changes_in es ≡ put_change one (changes_at s.entries ++ changes_in es) in
      subst P p (λ a b. ap (λ ss. changes_at ss ++ changes_in es) i ∙ sym (put-among s.entries (changes_in es) b f (put-above one es ms a))) h m

  put-old-by : (e : Held) (es : List Held) (s n : Stamps) (o : Ordering) → bytes_cmp key e.0 ≡ o → KeysAbove e.0 es → AreNamed (e ∷ es) → IsFresh (changes_at e.1.entries)
      → cond (is_eq o) (Some e.1) (held key es) ≡ Some s → n.entries ≡ insert_entry later s.entries (stamped r.ts) r
      → (held key es ≡ Some s → changes_in (set_value (is_at (bytes_cmp key)) es n) ≡ put_change one (changes_in es))
      → changes_in (cond (is_eq o) ((e.0, n) ∷ es) (e ∷ set_value (is_at (bytes_cmp key)) es n)) ≡ put_change one (changes_in (e ∷ es))
  put-old-by e es s n Less h a m f l i rest = let none : held key es ≡ None = held-above key es (above-less key e.0 es h a) in absurd (none-some s (sym none ∙ l))
  put-old-by e es s n Equal h a m f l i rest = put-here e.0 e.1 es n (key-equal key e.0 h) a m.0 m.1 f (i ∙ ap (λ (x : Stamps). insert_entry later x.entries (stamped r.ts) r) (sym (some-is e.1 s l)))
  put-old-by e es s n Greater h a m f l i rest = ap (λ x. changes_at e.1.entries ++ x) (rest l) ∙ sym (put-past one e.0 e.1.entries (changes_in es) m.0 h)

  -- under a key that is held
  pub put-old : (es : List Held) (s n : Stamps) → AreSorted es → AreNamed es → IsFresh (changes_in es) → held key es ≡ Some s → n.entries ≡ insert_entry later s.entries (stamped r.ts) r
      → changes_in (set_value (is_at (bytes_cmp key)) es n) ≡ put_change one (changes_in es)
  put-old [] s n h m f l i = cc
  put-old (e ∷ es) s n h m f l i = ap changes_in (set-by key e es n (bytes_cmp key e.0) refl)
      ∙ put-old-by e es s n (bytes_cmp key e.0) refl (sorted-above e es h) m (all_front _ (changes_at e.1.entries) (changes_in es) f) l i
      (λ g. put-old es s n (sorted-tail e es h) m.1 (all_rest _ (changes_at e.1.entries) (changes_in es) f) g i)

  put-new-by : (e : Held) (es : List Held) (n : Stamps) (o : Ordering) → bytes_cmp key e.0 ≡ o → KeysAbove e.0 es → AreNamed (e ∷ es) → cond (is_eq o) (Some e.1) (held key es) ≡ None
      → n.entries ≡ entry ∷ []
      → (held key es ≡ None → changes_in (insert_entry bytes_cmp es key n) ≡ put_change one (changes_in es))
      → changes_in (match_ordering o ((key, n) ∷ e ∷ es) ((e.0, n) ∷ es) (e ∷ insert_entry bytes_cmp es key n)) ≡ put_change one (changes_in (e ∷ es))
  put-new-by e es n Less h a m l i rest = ap (λ ss. changes_at ss ++ changes_in (e ∷ es)) i ∙ sym (put-above one (e ∷ es) m (h, above-less key e.0 es h a))
  put-new-by e es n Equal h a m l i rest = absurd (none-some e.1 (sym l))
  put-new-by e es n Greater h a m l i rest = ap (λ x. changes_at e.1.entries ++ x) (rest l) ∙ sym (put-past one e.0 e.1.entries (changes_in es) m.0 h)

  -- under a new key
  pub put-new : (es : List Held) (n : Stamps) → AreSorted es → AreNamed es → held key es ≡ None → n.entries ≡ entry ∷ []
      → changes_in (insert_entry bytes_cmp es key n) ≡ put_change one (changes_in es)
  put-new [] n h m l i = ap (λ ss. changes_at ss ++ []) i
  put-new (e ∷ es) n h m l i = put-new-by e es n (bytes_cmp key e.0) refl (sorted-above e es h) m l i (λ g. put-new es n (sorted-tail e es h) m.1 g i)

  -- the same for a key that is that of the change

  pub put-old-at : (k : List ℕ) (es : List Held) (s n : Stamps) → k ≡ key → AreSorted es → AreNamed es → AllByRecursion (λ d. (change_key d ≡ k) → d.ts ≡ r.ts → ⊥) (changes_in es)
      → held k es ≡ Some s → n.entries ≡ insert_entry later s.entries (stamped r.ts) r → changes_in (set_value (is_at (bytes_cmp k)) es n) ≡ put_change one (changes_in es)
  put-old-at k es s n p h m f l i =
      let P : List ℕ → Type 0 = λ q. AllByRecursion (λ d. (change_key d ≡ q) → d.ts ≡ r.ts → ⊥) (changes_in es) → held q es ≡ Some s → changes_in (set_value (is_at (bytes_cmp q)) es n) ≡ put_change one (changes_in es) in
      subst P (sym p) (λ fresh found. put-old es s n h m fresh found i) f l

  pub put-new-at : (k : List ℕ) (es : List Held) (n : Stamps) → k ≡ key → AreSorted es → AreNamed es → held k es ≡ None → n.entries ≡ entry ∷ []
      → changes_in (insert_entry bytes_cmp es k n) ≡ put_change one (changes_in es)
  put-new-at k es n p h m l i =
      let P : List ℕ → Type 0 = λ q. held q es ≡ None → changes_in (insert_entry bytes_cmp es q n) ≡ put_change one (changes_in es) in
      subst P (sym p) (λ none. put-new es n h m none i) l

-- ---- how many there are

put-length-by : (c d : Change) (ds : List Change) (b : Bool) → length (put_change c ds) ≡ length ds + 1 → length (cond b (c ∷ d ∷ ds) (d ∷ put_change c ds)) ≡ length (d ∷ ds) + 1
put-length-by c d ds true h = omega arith
put-length-by c d ds false h = omega (arith, h)

pub put-length : (c : Change) (ds : List Change) → length (put_change c ds) ≡ length ds + 1
put-length c [] = refl
put-length c (d ∷ ds) = put-length-by c d ds (goes_before c d) (put-length c ds)

-- ---- a key with the same changes as before

put-same-by : (test : List ℕ → Bool) (e : Held) (es : List Held) (s n : Stamps) (b : Bool) → cond b (Some e.1) (lookup test es) ≡ Some s → n.entries ≡ s.entries
    → (lookup test es ≡ Some s → changes_in (set_value test es n) ≡ changes_in es)
    → changes_in (cond b ((e.0, n) ∷ es) (e ∷ set_value test es n)) ≡ changes_in (e ∷ es)
put-same-by test e es s n true l i rest = ap (λ ss. changes_at ss ++ changes_in es) (i ∙ ap (λ (x : Stamps). x.entries) (sym (some-is e.1 s l)))
put-same-by test e es s n false l i rest = ap (λ x. changes_at e.1.entries ++ x) (rest l)

pub put-same : (test : List ℕ → Bool) (es : List Held) (s n : Stamps) → lookup test es ≡ Some s → n.entries ≡ s.entries → changes_in (set_value test es n) ≡ changes_in es
put-same test [] s n l i = cc
put-same test (e ∷ es) s n l i = put-same-by test e es s n (test e.0) l i (λ m. put-same test es s n m i)

-- ---- an answer that may lack memory

pub on-ok : {X E P Q : Type 0} → (r : Result X E) → (P → Q) → OnOk r P → OnOk r Q
on-ok (Ok x) f h = f h
on-ok (Err e) f h = h

pub on-err : {X E P Q : Type 0} → (r : Result X E) → (P → Q) → OnErr r P → OnErr r Q
on-err (Ok x) f h = h
on-err (Err e) f h = f h

pub on-each : {X E P Q R : Type 0} → (r : Result X E) → (P → R) → (Q → R) → OnOk r P → OnErr r Q → R
on-each (Ok x) f g h i = f h
on-each (Err e) f g h i = g i
