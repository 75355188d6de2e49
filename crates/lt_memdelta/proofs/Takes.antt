-- What taking a version out makes of the list of versions.
use Rattle.std.proofs.Common.{◌≡◌, ℕ, List, [], ◌∷◌, ◌++◌, refl, sym, ap, subst, ◌∙◌, true, false, arith, eq-eqb, zero-add}
use Rattle.std.specs.Prelude.{Bool, IfSome, IsTrue, None, Some, cond, length, not, ◌==◌, ◌&&◌, ◌+◌}
use Rattle.std.specs.Map.{lookup, remove_entry, set_value}
use Rattle.std.specs.BTreeMap.{is_at}
use Rattle.std.specs.Ordering.{is_eq, nat_cmp}
use Rattle.std.specs.declared.cmp.Reverse.{Reverse}
use Rattle.std.proofs.lemmas.Bool.{and_from}
use Rattle.std.proofs.lemmas.Bool.Decides.{nat_tests}
use Rattle.lt_terms.specs.Key.{bytes_cmp, same_key}
use Rattle.lt_tables.specs.Version.{RowVersion, is_ordered, stands_before}
use Rattle.lt_lemmas.proofs.MergeLaws.{Above, named-key, named-ts, ordered-above, ordered-tail, same-itself, same-key, same-not-before}
use Rattle.lt_memdelta.specs.Groups.{has_name, without}
use Rattle.lt_memdelta.specs.Stamps.{Stamps, later, rows_of, stamped, version_at, versions_at}
use Rattle.lt_memdelta.specs.declared.change.Change.{Change}
use Rattle.lt_memdelta.proofs.Puts.{AreSorted, Held, KeysAbove, held, held-above, some-is, sorted-above, sorted-tail}

module _ (key : List ℕ) (ts : ℕ) where
  -- ---- versions of other names stay

  unnamed-by : (u w : RowVersion) (b : Bool) → has_name key ts w ≡ b → has_name key ts u ≡ true → IsTrue (stands_before u w) → b ≡ false
  unnamed-by u w false e h i = refl
  unnamed-by u w true e h i = sym i ∙ same-not-before u w (and_from (same_key u.key w.key) (u.ts == w.ts)
      (ap (λ x. same_key x w.key) (sym (named-key key ts u h)) ∙ ap (same_key key) (sym (named-key key ts w e)) ∙ same-itself key)
      (eq-eqb u.ts w.ts (named-ts key ts u h ∙ sym (named-ts key ts w e))))

  kept-one : (w : RowVersion) (ws : List RowVersion) → has_name key ts w ≡ false → without key ts (w ∷ ws) ≡ w ∷ without key ts ws
  kept-one w ws h = ap (λ b. cond (not b) (w ∷ without key ts ws) (without key ts ws)) h

  -- what stands behind the one of the name has another
  without-above : (u : RowVersion) (ws : List RowVersion) → has_name key ts u ≡ true → Above u ws → without key ts ws ≡ ws
  without-above u [] h a = refl
  without-above u (w ∷ ws) h a = kept-one w ws (unnamed-by u w (has_name key ts w) refl h a.0) ∙ ap (λ r. w ∷ r) (without-above u ws h a.1)

  without-other : (k : List ℕ) (ss : List (Reverse ℕ × Change)) (ws : List RowVersion) → same_key key k ≡ false → without key ts (versions_at k ss ++ ws) ≡ versions_at k ss ++ without key ts ws
  without-other k [] ws h = refl
  without-other k (s ∷ ss) ws h = kept-one (version_at k s) (versions_at k ss ++ ws) (ap (λ b. b && s.0.0 == ts) h) ∙ ap (λ r. version_at k s ∷ r) (without-other k ss ws h)

  without-keys-by : (e : Held) (es : List Held) (b : Bool) → same_key key e.0 ≡ b → cond b (Some e.1) (held key es) ≡ None → (held key es ≡ None → without key ts (rows_of es) ≡ rows_of es)
      → without key ts (rows_of (e ∷ es)) ≡ rows_of (e ∷ es)
  without-keys-by e es true h l rest = cc
  without-keys-by e es false h l rest = without-other e.0 e.1.entries (rows_of es) h ∙ ap (λ r. versions_at e.0 e.1.entries ++ r) (rest l)

  without-keys : (es : List Held) → held key es ≡ None → without key ts (rows_of es) ≡ rows_of es
  without-keys [] l = refl
  without-keys (e ∷ es) l = without-keys-by e es (same_key key e.0) refl l (without-keys es)

  pub take-none : (es : List Held) → held key es ≡ None → rows_of es ≡ without key ts (rows_of es)
  take-none es l = sym (without-keys es l)

  -- ---- among the versions of its key

  stamp-is : (a : ℕ) → is_eq (nat_cmp a ts) ≡ (a == ts)
  stamp-is a = grind (arith, nat_tests)

  named-own : (s : Reverse ℕ × Change) → has_name key ts (version_at key s) ≡ is_eq (nat_cmp s.0.0 ts)
  named-own s = ap (λ b. b && s.0.0 == ts) (same-itself key) ∙ sym (stamp-is s.0.0)

  take-among-by : (s : Reverse ℕ × Change) (ss : List (Reverse ℕ × Change)) (ws : List RowVersion) (b : Bool) → has_name key ts (version_at key s) ≡ b
      → Above (version_at key s) (versions_at key ss ++ ws)
      → versions_at key (remove_entry (is_at (later (stamped ts))) ss) ++ ws ≡ without key ts (versions_at key ss ++ ws)
      → versions_at key (cond b ss (s ∷ remove_entry (is_at (later (stamped ts))) ss)) ++ ws ≡ cond (not b) (version_at key s ∷ without key ts (versions_at key ss ++ ws)) (without key ts (versions_at key ss ++ ws))
  take-among-by s ss ws true e a i = sym (without-above (version_at key s) (versions_at key ss ++ ws) e a)
  take-among-by s ss ws false e a i = ap (λ r. version_at key s ∷ r) i

  take-among : (ss : List (Reverse ℕ × Change)) (ws : List RowVersion) → IsTrue (is_ordered (versions_at key ss ++ ws)) → without key ts ws ≡ ws
      → versions_at key (remove_entry (is_at (later (stamped ts))) ss) ++ ws ≡ without key ts (versions_at key ss ++ ws)
  take-among [] ws h i = sym i
  take-among (s ∷ ss) ws h i =
      ap (λ b. versions_at key (cond b ss (s ∷ remove_entry (is_at (later (stamped ts))) ss)) ++ ws) (sym (named-own s))
      ∙ take-among-by s ss ws (has_name key ts (version_at key s)) refl (ordered-above (version_at key s) (versions_at key ss ++ ws) h)
      (take-among ss ws (ordered-tail (version_at key s) (versions_at key ss ++ ws) h) i)

  -- ---- among all versions

  ordered-behind : (k : List ℕ) (ss : List (Reverse ℕ × Change)) (ws : List RowVersion) → IsTrue (is_ordered (versions_at k ss ++ ws)) → IsTrue (is_ordered ws)
  ordered-behind k [] ws h = h
  ordered-behind k (s ∷ ss) ws h = ordered-behind k ss ws (ordered-tail (version_at k s) (versions_at k ss ++ ws) h)

  take-here : (k : List ℕ) (s : Stamps) (es : List Held) (n : Stamps) → key ≡ k → KeysAbove k es → IsTrue (is_ordered (versions_at k s.entries ++ rows_of es))
      → n.entries ≡ remove_entry (is_at (later (stamped ts))) s.entries
      → versions_at k n.entries ++ rows_of es ≡ without key ts (versions_at k s.entries ++ rows_of es)
  take-here k s es n p a o i =
      let P : List ℕ → Type 0 = λ q. KeysAbove q es → IsTrue (is_ordered (versions_at q s.entries ++ rows_of es)) → versions_at q n.entries ++ rows_of es ≡ without key ts (versions_at q s.entries ++ rows_of es) in
      subst P p (λ above ordered. ap (λ ss. versions_at key ss ++ rows_of es) i ∙ take-among s.entries (rows_of es) ordered (without-keys es (held-above key es above))) a o

  take-old-by : (e : Held) (es : List Held) (s n : Stamps) (b : Bool) → same_key key e.0 ≡ b → KeysAbove e.0 es → cond b (Some e.1) (held key es) ≡ Some s
      → IsTrue (is_ordered (rows_of (e ∷ es))) → n.entries ≡ remove_entry (is_at (later (stamped ts))) s.entries
      → (held key es ≡ Some s → rows_of (set_value (is_at (bytes_cmp key)) es n) ≡ without key ts (rows_of es))
      → rows_of (cond b ((e.0, n) ∷ es) (e ∷ set_value (is_at (bytes_cmp key)) es n)) ≡ without key ts (rows_of (e ∷ es))
  take-old-by e es s n true h a l o i rest = take-here e.0 e.1 es n (same-key key e.0 h) a o (i ∙ ap (λ (x : Stamps). remove_entry (is_at (later (stamped ts))) x.entries) (sym (some-is e.1 s l)))
  take-old-by e es s n false h a l o i rest = ap (λ r. versions_at e.0 e.1.entries ++ r) (rest l) ∙ sym (without-other e.0 e.1.entries (rows_of es) h)

  -- under a key that is held
  pub take-old : (es : List Held) (s n : Stamps) → AreSorted es → IsTrue (is_ordered (rows_of es)) → held key es ≡ Some s → n.entries ≡ remove_entry (is_at (later (stamped ts))) s.entries
      → rows_of (set_value (is_at (bytes_cmp key)) es n) ≡ without key ts (rows_of es)
  take-old [] s n h o l i = cc
  take-old (e ∷ es) s n h o l i = take-old-by e es s n (same_key key e.0) refl (sorted-above e es h) l o i
      (λ m. take-old es s n (sorted-tail e es h) (ordered-behind e.0 e.1.entries (rows_of es) o) m i)

-- ---- how many there are

versions-length : (k : List ℕ) (ss : List (Reverse ℕ × Change)) (ws : List RowVersion) → length (versions_at k ss ++ ws) ≡ length ss + length ws
versions-length k [] ws = sym (zero-add (length ws))
versions-length k (s ∷ ss) ws = let i : length (versions_at k ss ++ ws) ≡ length ss + length ws = versions-length k ss ws in omega (arith, i)

count-by : (test : List ℕ → Bool) (e : Held) (es : List Held) (s n : Stamps) (d : ℕ) (b : Bool) → cond b (Some e.1) (lookup test es) ≡ Some s → length n.entries + d ≡ length s.entries
    → (lookup test es ≡ Some s → length (rows_of (set_value test es n)) + d ≡ length (rows_of es))
    → length (rows_of (cond b ((e.0, n) ∷ es) (e ∷ set_value test es n))) + d ≡ length (rows_of (e ∷ es))
count-by test e es s n d true l i rest =
    let own : length n.entries + d ≡ length e.1.entries = i ∙ ap (λ (x : Stamps). length x.entries) (sym (some-is e.1 s l)) in
    let new : length (versions_at e.0 n.entries ++ rows_of es) ≡ length n.entries + length (rows_of es) = versions-length e.0 n.entries (rows_of es) in
    let old : length (versions_at e.0 e.1.entries ++ rows_of es) ≡ length e.1.entries + length (rows_of es) = versions-length e.0 e.1.entries (rows_of es) in
    omega (arith, own, new, old)
count-by test e es s n d false l i rest =
    let tail : length (rows_of (set_value test es n)) + d ≡ length (rows_of es) = rest l in
    let new : length (versions_at e.0 e.1.entries ++ rows_of (set_value test es n)) ≡ length e.1.entries + length (rows_of (set_value test es n)) = versions-length e.0 e.1.entries (rows_of (set_value test es n)) in
    let old : length (versions_at e.0 e.1.entries ++ rows_of es) ≡ length e.1.entries + length (rows_of es) = versions-length e.0 e.1.entries (rows_of es) in
    omega (arith, tail, new, old)

-- as many go as of the versions of the key
pub take-count : (test : List ℕ → Bool) (es : List Held) (s n : Stamps) (d : ℕ) → lookup test es ≡ Some s → length n.entries + d ≡ length s.entries
    → length (rows_of (set_value test es n)) + d ≡ length (rows_of es)
take-count test [] s n d l i = cc
take-count test (e ∷ es) s n d l i = count-by test e es s n d (test e.0) l i (λ m. take-count test es s n d m i)

-- ---- a key without versions

bare-by : (test : List ℕ → Bool) (e : Held) (es : List Held) (b : Bool) → IfSome (cond b (Some e.1) (lookup test es)) (λ s. s.entries ≡ [])
    → (IfSome (lookup test es) (λ s. s.entries ≡ []) → rows_of (remove_entry test es) ≡ rows_of es)
    → rows_of (cond b es (e ∷ remove_entry test es)) ≡ rows_of (e ∷ es)
bare-by test e es true h rest = ap (λ ss. versions_at e.0 ss ++ rows_of es) (sym h)
bare-by test e es false h rest = ap (λ r. versions_at e.0 e.1.entries ++ r) (rest h)

pub drop-bare : (test : List ℕ → Bool) (es : List Held) → IfSome (lookup test es) (λ s. s.entries ≡ []) → rows_of (remove_entry test es) ≡ rows_of es
drop-bare test [] h = refl
drop-bare test (e ∷ es) h = bare-by test e es (test e.0) h (drop-bare test es)
