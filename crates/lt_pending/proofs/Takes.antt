-- What taking a change out makes of the list of changes.
use Rattle.std.proofs.Common.{◌≡◌, ℕ, List, [], ◌∷◌, ◌++◌, refl, sym, ap, subst, ◌∙◌, true, false, Less, arith, zero-add}
use Rattle.std.specs.Prelude.{Bool, IfSome, None, Some, cond, length, not, ◌==◌, ◌&&◌, ◌+◌}
use Rattle.std.specs.List.{AllByRecursion}
use Rattle.std.specs.List.Sorted.{IsStrictlySortedBy}
use Rattle.std.specs.Map.{keys_of, lookup, remove_entry, set_value}
use Rattle.std.specs.BTreeMap.{is_at}
use Rattle.std.specs.Ordering.{is_eq, nat_cmp}
use Rattle.std.proofs.lemmas.Bool.Decides.{nat_tests}
use Rattle.lt_terms.specs.Key.{bytes_cmp, same_key}
use Rattle.lt_terms.specs.Log.{Change, change_key}
use Rattle.lt_tables.specs.Pump.{without_change}
use Rattle.lt_lemmas.proofs.MergeLaws.{same-back, same-itself, same-key}
use Rattle.lt_pending.specs.Stamps.{AreNamed, IsNamed, Stamps, change_at, changes_at, changes_in, later, stamped}
use Rattle.lt_pending.proofs.Puts.{AreSorted, Held, KeysAbove, Named, Stamped, held, held-above, some-is, sorted-above, sorted-tail}

abbrev StampsSorted : List Stamped → Type 0
StampsSorted ss = IsStrictlySortedBy later (keys_of ss)

-- all of these are earlier
abbrev AreEarlier : ℕ → List Stamped → Type 0
AreEarlier t ss = AllByRecursion (λ k. nat_cmp k.0 t ≡ Less) (keys_of ss)

stamps-above : (s : Stamped) (ss : List Stamped) → StampsSorted (s ∷ ss) → AreEarlier s.0.0 ss
unfolding IsStrictlySortedBy
stamps-above s ss h = h.0

stamps-tail : (s : Stamped) (ss : List Stamped) → StampsSorted (s ∷ ss) → StampsSorted ss
unfolding IsStrictlySortedBy
stamps-tail s ss h = h.1

less-other : (a b t : ℕ) → nat_cmp a b ≡ Less → is_eq (nat_cmp b t) ≡ true → (a == t) ≡ false
less-other a b t h i = grind (arith, nat_tests)

stamp-is : (a t : ℕ) → is_eq (nat_cmp a t) ≡ (a == t)
stamp-is a t = grind (arith, nat_tests)

and-false : (b c : Bool) → c ≡ false → (b && c) ≡ false
and-false true c h = h
and-false false c h = refl

module _ (key : List ℕ) (ts : ℕ) where
  abbrev has_name : Change → Bool
  has_name c = same_key (change_key c) key && c.ts == ts

  kept-one : (c : Change) (cs : List Change) (b : Bool) → has_name c ≡ b → without_change key ts (c ∷ cs) ≡ cond (not b) (c ∷ without_change key ts cs) (without_change key ts cs)
  kept-one c cs b h = ap (λ b. cond (not b) (c ∷ without_change key ts cs) (without_change key ts cs)) h

  -- ---- changes of other keys stay

  without-other : (k : List ℕ) (ss : List Stamped) (cs : List Change) → Named k ss → same_key key k ≡ false → without_change key ts (changes_at ss ++ cs) ≡ changes_at ss ++ without_change key ts cs
  without-other k [] cs n h = refl
  without-other k (s ∷ ss) cs n h =
      kept-one (change_at s) (changes_at ss ++ cs) false (ap (λ x. same_key x key && s.1.ts == ts) n.0.0 ∙ ap (λ b. b && s.1.ts == ts) (same-back k key ∙ h))
      ∙ ap (λ r. change_at s ∷ r) (without-other k ss cs n.1 h)

  without-keys-by : (e : Held) (es : List Held) (b : Bool) → same_key key e.0 ≡ b → AreNamed (e ∷ es) → cond b (Some e.1) (held key es) ≡ None
      → (held key es ≡ None → without_change key ts (changes_in es) ≡ changes_in es) → without_change key ts (changes_in (e ∷ es)) ≡ changes_in (e ∷ es)
  without-keys-by e es true h m l rest = cc
  without-keys-by e es false h m l rest = without-other e.0 e.1.entries (changes_in es) m.0 h ∙ ap (λ r. changes_at e.1.entries ++ r) (rest l)

  without-keys : (es : List Held) → AreNamed es → held key es ≡ None → without_change key ts (changes_in es) ≡ changes_in es
  without-keys [] m l = refl
  without-keys (e ∷ es) m l = without-keys-by e es (same_key key e.0) refl m l (without-keys es m.1)

  pub take-none : (es : List Held) → AreNamed es → held key es ≡ None → changes_in es ≡ without_change key ts (changes_in es)
  take-none es m l = sym (without-keys es m l)

  -- ---- among the changes of its key

  named-own : (s : Stamped) → IsNamed key s → has_name (change_at s) ≡ is_eq (nat_cmp s.0.0 ts)
  named-own s n = ap (λ x. same_key x key && s.1.ts == ts) n.0 ∙ ap (λ b. b && s.1.ts == ts) (same-itself key) ∙ ap (λ t. t == ts) n.1 ∙ sym (stamp-is s.0.0 ts)

  -- what stands behind the one of the name has another
  without-earlier : (t : ℕ) (ss : List Stamped) (cs : List Change) → Named key ss → AreEarlier t ss → is_eq (nat_cmp t ts) ≡ true → without_change key ts cs ≡ cs
      → without_change key ts (changes_at ss ++ cs) ≡ changes_at ss ++ cs
  without-earlier t [] cs n a h i = i
  without-earlier t (s ∷ ss) cs n a h i =
      kept-one (change_at s) (changes_at ss ++ cs) false (and-false (same_key (change_key (change_at s)) key) (s.1.ts == ts) (ap (λ x. x == ts) n.0.1 ∙ less-other s.0.0 t ts a.0 h))
      ∙ ap (λ r. change_at s ∷ r) (without-earlier t ss cs n.1 a.1 h i)

  take-among-by : (s : Stamped) (ss : List Stamped) (cs : List Change) (b : Bool) → is_eq (nat_cmp s.0.0 ts) ≡ b → Named key ss → AreEarlier s.0.0 ss → without_change key ts cs ≡ cs
      → changes_at (remove_entry (is_at (later (stamped ts))) ss) ++ cs ≡ without_change key ts (changes_at ss ++ cs)
      → changes_at (cond b ss (s ∷ remove_entry (is_at (later (stamped ts))) ss)) ++ cs
      ≡ cond (not b) (change_at s ∷ without_change key ts (changes_at ss ++ cs)) (without_change key ts (changes_at ss ++ cs))
  take-among-by s ss cs true e n a i rest = sym (without-earlier s.0.0 ss cs n a e i)
  take-among-by s ss cs false e n a i rest = ap (λ r. change_at s ∷ r) rest

  take-among : (ss : List Stamped) (cs : List Change) → StampsSorted ss → Named key ss → without_change key ts cs ≡ cs
      → changes_at (remove_entry (is_at (later (stamped ts))) ss) ++ cs ≡ without_change key ts (changes_at ss ++ cs)
  take-among [] cs h n i = sym i
  take-among (s ∷ ss) cs h n i =
      take-among-by s ss cs (is_eq (nat_cmp s.0.0 ts)) refl n.1 (stamps-above s ss h) i (take-among ss cs (stamps-tail s ss h) n.1 i)
      ∙ sym (kept-one (change_at s) (changes_at ss ++ cs) (is_eq (nat_cmp s.0.0 ts)) (named-own s n.0))

  -- ---- among all changes

  take-here : (k : List ℕ) (s : Stamps) (es : List Held) (n : Stamps) → key ≡ k → KeysAbove k es → Named k s.entries → AreNamed es → StampsSorted s.entries
      → n.entries ≡ remove_entry (is_at (later (stamped ts))) s.entries → changes_at n.entries ++ changes_in es ≡ without_change key ts (changes_at s.entries ++ changes_in es)
  take-here k s es n p a m ms o i =
      let P : List ℕ → Type 0 = λ q. KeysAbove q es → Named q s.entries → changes_at n.entries ++ changes_in es ≡ without_change key ts (changes_at s.entries ++ changes_in es) in
      subst P p (λ above named. ap (λ ss. changes_at ss ++ changes_in es) i ∙ take-among s.entries (changes_in es) o named (without-keys es ms (held-above key es above))) a m

  take-old-by : (e : Held) (es : List Held) (s n : Stamps) (b : Bool) → same_key key e.0 ≡ b → KeysAbove e.0 es → AreNamed (e ∷ es) → cond b (Some e.1) (held key es) ≡ Some s
      → StampsSorted s.entries → n.entries ≡ remove_entry (is_at (later (stamped ts))) s.entries
      → (held key es ≡ Some s → changes_in (set_value (is_at (bytes_cmp key)) es n) ≡ without_change key ts (changes_in es))
      → changes_in (cond b ((e.0, n) ∷ es) (e ∷ set_value (is_at (bytes_cmp key)) es n)) ≡ without_change key ts (changes_in (e ∷ es))
  take-old-by e es s n true h a m l o i rest =
      let P : Stamps → Type 0 = λ x. StampsSorted x.entries in
      take-here e.0 e.1 es n (same-key key e.0 h) a m.0 m.1 (subst P (sym (some-is e.1 s l)) o) (i ∙ ap (λ (x : Stamps). remove_entry (is_at (later (stamped ts))) x.entries) (sym (some-is e.1 s l)))
  take-old-by e es s n false h a m l o i rest = ap (λ r. changes_at e.1.entries ++ r) (rest l) ∙ sym (without-other e.0 e.1.entries (changes_in es) m.0 h)

  -- under a key that is held
  pub take-old : (es : List Held) (s n : Stamps) → AreSorted es → AreNamed es → held key es ≡ Some s → IsStrictlySortedBy later (keys_of s.entries) → n.entries ≡ remove_entry (is_at (later (stamped ts))) s.entries
      → changes_in (set_value (is_at (bytes_cmp key)) es n) ≡ without_change key ts (changes_in es)
  take-old [] s n h m l o i = cc
  take-old (e ∷ es) s n h m l o i = take-old-by e es s n (same_key key e.0) refl (sorted-above e es h) m l o i (λ g. take-old es s n (sorted-tail e es h) m.1 g o i)

-- ---- how many there are

pub changes-length : (ss : List Stamped) (cs : List Change) → length (changes_at ss ++ cs) ≡ length ss + length cs
changes-length [] cs = sym (zero-add (length cs))
changes-length (s ∷ ss) cs = let i : length (changes_at ss ++ cs) ≡ length ss + length cs = changes-length ss cs in omega (arith, i)

count-by : (test : List ℕ → Bool) (e : Held) (es : List Held) (s n : Stamps) (d : ℕ) (b : Bool) → cond b (Some e.1) (lookup test es) ≡ Some s → length n.entries + d ≡ length s.entries
    → (lookup test es ≡ Some s → length (changes_in (set_value test es n)) + d ≡ length (changes_in es))
    → length (changes_in (cond b ((e.0, n) ∷ es) (e ∷ set_value test es n))) + d ≡ length (changes_in (e ∷ es))
count-by test e es s n d true l i rest =
    let own : length n.entries + d ≡ length e.1.entries = i ∙ ap (λ (x : Stamps). length x.entries) (sym (some-is e.1 s l)) in
    let new : length (changes_at n.entries ++ changes_in es) ≡ length n.entries + length (changes_in es) = changes-length n.entries (changes_in es) in
    let old : length (changes_at e.1.entries ++ changes_in es) ≡ length e.1.entries + length (changes_in es) = changes-length e.1.entries (changes_in es) in
    omega (arith, own, new, old)
count-by test e es s n d false l i rest =
    let tail : length (changes_in (set_value test es n)) + d ≡ length (changes_in es) = rest l in
    let new : length (changes_at e.1.entries ++ changes_in (set_value test es n)) ≡ length e.1.entries + length (changes_in (set_value test es n)) = changes-length e.1.entries (changes_in (set_value test es n)) in
    let old : length (changes_at e.1.entries ++ changes_in es) ≡ length e.1.entries + length (changes_in es) = changes-length e.1.entries (changes_in es) in
    omega (arith, tail, new, old)

-- as many go as of the changes of the key
pub take-count : (test : List ℕ → Bool) (es : List Held) (s n : Stamps) (d : ℕ) → lookup test es ≡ Some s → length n.entries + d ≡ length s.entries
    → length (changes_in (set_value test es n)) + d ≡ length (changes_in es)
take-count test [] s n d l i = cc
take-count test (e ∷ es) s n d l i = count-by test e es s n d (test e.0) l i (λ m. take-count test es s n d m i)

-- ---- a key without changes

bare-by : (test : List ℕ → Bool) (e : Held) (es : List Held) (b : Bool) → IfSome (cond b (Some e.1) (lookup test es)) (λ s. s.entries ≡ [])
    → (IfSome (lookup test es) (λ s. s.entries ≡ []) → changes_in (remove_entry test es) ≡ changes_in es)
    → changes_in (cond b es (e ∷ remove_entry test es)) ≡ changes_in (e ∷ es)
bare-by test e es true h rest = ap (λ ss. changes_at ss ++ changes_in es) (sym h)
bare-by test e es false h rest = ap (λ r. changes_at e.1.entries ++ r) (rest h)

pub drop-bare : (test : List ℕ → Bool) (es : List Held) → IfSome (lookup test es) (λ s. s.entries ≡ []) → changes_in (remove_entry test es) ≡ changes_in es
drop-bare test [] h = refl
drop-bare test (e ∷ es) h = bare-by test e es (test e.0) h (drop-bare test es)
