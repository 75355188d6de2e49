-- What a session holds of a key: its partition's stored versions and its pending changes, merged, make its row at each safe moment.
use Rattle.std.proofs.Common.{Bool, List, [], ap, arith, inl, inr, leb-true, ltb-true, refl, subst, suc, sym, true, zero, ℕ, ◌<◌, ◌∙◌, ◌∷◌, ◌≡◌, ◌≤◌}
use Rattle.std.specs.Prelude.{Contains, IsTrue, None, Option, Some, find, map, nat_le, nat_lt, option_map, ◌&&◌, ◌⊎◌}
use Rattle.std.proofs.lemmas.Bool.{and_parts}
use Rattle.lt_terms.specs.Value.{rises_above, rises_strictly}
use Rattle.lt_terms.specs.Log.{Change, change_key}
use Rattle.lt_terms.specs.Key.{same_key}
use Rattle.lt_tables.specs.Fair.{changes_to}
use Rattle.lt_tables.specs.Row.{is_in_time, row_at}
use Rattle.lt_tables.specs.Schema.{Catalogue, first_of}
use Rattle.lt_tables.specs.Version.{RowVersion, asof, effect_of, is_ordered, seen}
use Rattle.lt_machine.specs.Sound.{row_cells, up_to_ts}
use Rattle.lt_lemmas.proofs.PointLaws.{itself, same}
use Rattle.lt_lemmas.proofs.MergeLaws.{filter-ordered, named, named-key, named-ts}
use Rattle.lt_laws.proofs.ScanLemmas.{AreOf, found-held, from-filter, held-found, in-filter, key-reads, same-held, seen-key, seen-ts}
use Rattle.lt_laws.proofs.MergeLaws.{named-itself}
use Rattle.lt_laws.proofs.ListFacts.{held_is_found}

-- ---- a change of a source is known by its key and timestamp

rising_above : (low : ℕ) (cs : List Change) → IsTrue (rises_above low (map (λ c. c.ts) cs)) → (c : Change) → Contains cs c → low < c.ts
rising_above low [] r c h = absurd (omega (arith, h.1))
rising_above low (d ∷ cs) r c (zero, l, e) = let p = and_parts (nat_lt low d.ts) (rises_above d.ts (map (λ c. c.ts) cs)) r in subst (λ (x : Change). low < x.ts) e (ltb-true low d.ts p.0)
rising_above low (d ∷ cs) r c (suc k, l, e) = let p = and_parts (nat_lt low d.ts) (rises_above d.ts (map (λ c. c.ts) cs)) r in
    let h : d.ts < c.ts = rising_above d.ts cs p.1 c (k, omega (arith, l), e) in let m : low < d.ts = ltb-true low d.ts p.0 in omega (arith, h, m)

pub rises_tail : (n : ℕ) (ns : List ℕ) → IsTrue (rises_above n ns) → IsTrue (rises_strictly ns)
rises_tail n [] r = refl
rises_tail n (m ∷ ms) r = (and_parts (nat_lt n m) (rises_above m ms) r).1

once_above : (cs : List Change) → IsTrue (rises_strictly (map (λ c. c.ts) cs)) → (c d : Change) → Contains cs c → Contains cs d → c.ts ≡ d.ts → c ≡ d
once_above [] r c d h i e = absurd (omega (arith, h.1))
once_above (x ∷ cs) r c d (zero, l, f) (zero, m, g) e = sym f ∙ g
once_above (x ∷ cs) r c d (zero, l, f) (suc j, m, g) e = let h : x.ts < d.ts = rising_above x.ts cs r d (j, omega (arith, m), g) in let t : x.ts ≡ c.ts = ap (λ (y : Change). y.ts) f in absurd (omega (arith, h, e, t))
once_above (x ∷ cs) r c d (suc i, l, f) (zero, m, g) e = let h : x.ts < c.ts = rising_above x.ts cs r c (i, omega (arith, l), f) in let t : x.ts ≡ d.ts = ap (λ (y : Change). y.ts) g in absurd (omega (arith, h, e, t))
once_above (x ∷ cs) r c d (suc i, l, f) (suc j, m, g) e = once_above cs (rises_tail (x.ts) (map (λ c. c.ts) cs) r) c d (i, omega (arith, l), f) (j, omega (arith, m), g) e

in_changes : (key : List ℕ) (source : List Change) (c : Change) → Contains source c → change_key c ≡ key → Contains (changes_to key source) c
in_changes key source c h e = in-filter (λ c. same_key (change_key c) key) source c h (ap (λ (k : List ℕ). same_key k key) e ∙ itself key)

pub once : (key : List ℕ) (source : List Change) → IsTrue (is_in_time key source) → (c d : Change) → Contains source c → Contains source d → change_key c ≡ key → change_key d ≡ key → c.ts ≡ d.ts → c ≡ d
once key source r c d h i e f t = once_above (changes_to key source) r c d (in_changes key source c h e) (in_changes key source d i f) t

-- ---- pending versions over stored ones

-- what is held of a key: pending versions, each a change of the source above where its partition is durable, over stored ones
pub record KeyHeld (cat : Catalogue) (source : List Change) (table : ℕ) (key : List ℕ) (m r t : ℕ) (held pend store : List RowVersion) : Type 0 where
  pub ordered : IsTrue (is_ordered held)
  pub sorted : IsTrue (is_ordered store)
  pub found : (u : ℕ) → find (named key u) held ≡ first_of (find (named key u) pend ∷ find (named key u) store ∷ [])
  pub pending : (v : RowVersion) → Contains pend v → v.key ≡ key → (c : Change) × Contains source c × (v ≡ seen cat c) × (r < c.ts)
  pub only : (v : RowVersion) → Contains store v → v.key ≡ key → m < v.ts → (c : Change) × Contains source c × (v ≡ seen cat c)
  pub all : (c : Change) → Contains source c → change_key c ≡ key → m < c.ts → c.ts ≤ t → Contains pend (seen cat c) ⊎ Contains store (seen cat c)
  pub row : effect_of (up_to_ts key m store) ≡ row_cells cat table (row_at source key m)
  pub durable : m ≤ r

abbrev FoundIn : List RowVersion → List RowVersion → RowVersion → Type 0
FoundIn pend store v = Contains pend v ⊎ Contains store v

first_is : (o p : Option RowVersion) (v : RowVersion) → first_of (o ∷ p ∷ []) ≡ Some v → (o ≡ Some v) ⊎ (p ≡ Some v)
first_is (Some w) p v e = inl e
first_is None (Some w) v e = inr e
first_is None None v e = cc

held_in : (cat : Catalogue) (source : List Change) (table : ℕ) (key : List ℕ) (m r t : ℕ) (held pend store : List RowVersion) → KeyHeld cat source table key m r t held pend store → (v : RowVersion) → Contains held v → v.key ≡ key → FoundIn pend store v
held_in cat source table key m r t held pend store k v h e =
    let f : find (named v.key v.ts) held ≡ Some v = held-found held v k.ordered h in
    let g : first_of (find (named key v.ts) pend ∷ find (named key v.ts) store ∷ []) ≡ Some v = sym (k.found v.ts) ∙ ap (λ (x : List ℕ). find (named x v.ts) held) (sym e) ∙ f in
    elim (first_is (find (named key v.ts) pend) (find (named key v.ts) store) v g) [ inl a ↦ inl (found-held (named key v.ts) pend v a).0 | inr b ↦ inr (found-held (named key v.ts) store v b).0 ]

named_own : (key : List ℕ) (v : RowVersion) → v.key ≡ key → named key v.ts v ≡ true
named_own key v e = ap (λ (k : List ℕ). named k v.ts v) (sym e) ∙ named-itself v

-- the change that a pending version of a name is, where the source has a change of that name
pending_same : (cat : Catalogue) (source : List Change) (table : ℕ) (key : List ℕ) (m r t : ℕ) (held pend store : List RowVersion) → KeyHeld cat source table key m r t held pend store → IsTrue (is_in_time key source)
    → (c : Change) → Contains source c → change_key c ≡ key → (w : RowVersion) → find (named key c.ts) pend ≡ Some w → w ≡ seen cat c
pending_same cat source table key m r t held pend store k time c h e w f =
    let g = found-held (named key c.ts) pend w f in
    let wk : w.key ≡ key = sym (named-key key c.ts w g.1) in
    let p = k.pending w g.0 wk in
    let dk : change_key p.0 ≡ key = sym (seen-key cat p.0) ∙ ap (λ (v : RowVersion). v.key) (sym p.2) ∙ wk in
    let dt : p.0.ts ≡ c.ts = sym (seen-ts cat p.0) ∙ ap (λ (v : RowVersion). v.ts) (sym p.2) ∙ named-ts key c.ts w g.1 in
    p.2 ∙ ap (seen cat) (once key source time p.0 c p.1 h dk e dt)

held_first : (o p : Option RowVersion) (v : RowVersion) → ((w : RowVersion) → o ≡ Some w → w ≡ v) → (o ≡ None → p ≡ Some v) → first_of (o ∷ p ∷ []) ≡ Some v
held_first (Some w) p v f g = ap Some (f w refl)
held_first None p v f g = ap (λ (x : Option RowVersion). first_of (None ∷ x ∷ [])) (g refl)

seen_held : (cat : Catalogue) (source : List Change) (table : ℕ) (key : List ℕ) (m r t : ℕ) (held pend store : List RowVersion) → KeyHeld cat source table key m r t held pend store → IsTrue (is_in_time key source)
    → (c : Change) → Contains source c → change_key c ≡ key → FoundIn pend store (seen cat c) → Contains held (seen cat c)
seen_held cat source table key m r t held pend store k time c h e f =
    let named_it : named key c.ts (seen cat c) ≡ true = ap (λ (u : ℕ). named key u (seen cat c)) (sym (seen-ts cat c)) ∙ named_own key (seen cat c) (seen-key cat c ∙ e) in
    let at : find (named key c.ts) held ≡ Some (seen cat c) = k.found c.ts ∙ held_first (find (named key c.ts) pend) (find (named key c.ts) store) (seen cat c)
    (λ w g. pending_same cat source table key m r t held pend store k time c h e w g)
    (λ n. elim f [
      | inl a ↦ (let s : (w : RowVersion) × (find (named key c.ts) pend ≡ Some w) = held_is_found (named key c.ts) pend (seen cat c) a named_it in let d : None ≡ Some s.0 = sym n ∙ s.1 in cc)
      | inr b ↦ ap (λ (x : List ℕ). find (named x c.ts) store) (sym (seen-key cat c ∙ e)) ∙ ap (λ (u : ℕ). find (named (seen cat c).key u) store) (sym (seen-ts cat c)) ∙ held-found store (seen cat c) k.sorted b
    ]) in
    (found-held (named key c.ts) held (seen cat c) at).0

abbrev is_up_to : List ℕ → ℕ → RowVersion → Bool
is_up_to key m v = same_key v.key key && nat_le v.ts m

-- no pending version stands up to the minimum
pending_late : (cat : Catalogue) (source : List Change) (table : ℕ) (key : List ℕ) (m r t : ℕ) (held pend store : List RowVersion) → KeyHeld cat source table key m r t held pend store → (v : RowVersion) → Contains pend v → v.key ≡ key → v.ts ≤ m → ⊥
pending_late cat source table key m r t held pend store k v h e l =
    let p = k.pending v h e in
    let d : v.ts ≡ p.0.ts = ap (λ (x : RowVersion). x.ts) p.2 ∙ seen-ts cat p.0 in
    let a : r < p.0.ts = p.3 in
    let b : m ≤ r = k.durable in absurd (omega (arith, l, d, a, b))

up_to_from : (cat : Catalogue) (source : List Change) (table : ℕ) (key : List ℕ) (m r t : ℕ) (held pend store : List RowVersion) → KeyHeld cat source table key m r t held pend store
    → (v : RowVersion) → Contains (up_to_ts key m held) v → Contains (up_to_ts key m store) v
up_to_from cat source table key m r t held pend store k v h =
    let g = from-filter (is_up_to key m) held v h in
    let p = and_parts (same_key v.key key) (nat_le v.ts m) g.1 in
    let e : v.key ≡ key = same v.key key p.0 in
    elim (held_in cat source table key m r t held pend store k v g.0 e) [
      | inl a ↦ absurd (pending_late cat source table key m r t held pend store k v a e (leb-true v.ts m p.1))
      | inr b ↦ in-filter (is_up_to key m) store v b g.1
    ]

up_to_in : (cat : Catalogue) (source : List Change) (table : ℕ) (key : List ℕ) (m r t : ℕ) (held pend store : List RowVersion) → KeyHeld cat source table key m r t held pend store
    → (v : RowVersion) → Contains (up_to_ts key m store) v → Contains (up_to_ts key m held) v
up_to_in cat source table key m r t held pend store k v h =
    let g = from-filter (is_up_to key m) store v h in
    let p = and_parts (same_key v.key key) (nat_le v.ts m) g.1 in
    let e : v.key ≡ key = same v.key key p.0 in
    let at : find (named key v.ts) held ≡ Some v = k.found v.ts ∙ held_first (find (named key v.ts) pend) (find (named key v.ts) store) v
    (λ w f. let i = found-held (named key v.ts) pend w f in
    let u : w.ts ≡ v.ts = named-ts key v.ts w i.1 in
    let l : v.ts ≤ m = leb-true v.ts m p.1 in absurd (pending_late cat source table key m r t held pend store k w i.0 (sym (named-key key v.ts w i.1)) (omega (arith, u, l))))
    (λ n. ap (λ (x : List ℕ). find (named x v.ts) store) (sym e) ∙ held-found store v k.sorted g.0) in
    in-filter (is_up_to key m) held v (found-held (named key v.ts) held v at).0 g.1

-- So at a safe moment what is held of the key reads as its row, in cells.
pub held_reads : (cat : Catalogue) (source : List Change) (table : ℕ) (key : List ℕ) (m r t : ℕ) (held pend store : List RowVersion) → m ≤ t → IsTrue (is_in_time key source) → AreOf table (changes_to key source)
    → KeyHeld cat source table key m r t held pend store → option_map (λ (v : RowVersion). v.cells) (find (λ v. same_key v.key key) (asof t held)) ≡ row_cells cat table (row_at source key t)
held_reads cat source table key m r t held pend store l time of k = key-reads cat table source key m t held l k.ordered time of
    (ap effect_of (same-held (up_to_ts key m held) (up_to_ts key m store) (filter-ordered (is_up_to key m) held k.ordered) (filter-ordered (is_up_to key m) store k.sorted)
    (up_to_from cat source table key m r t held pend store k) (up_to_in cat source table key m r t held pend store k)) ∙ k.row)
    (λ v h e a b. elim (held_in cat source table key m r t held pend store k v h e) [ inl x ↦ (let p = k.pending v x e in (p.0, p.1, p.2)) | inr y ↦ k.only v y e a ])
    (λ c h e a b. seen_held cat source table key m r t held pend store k time c h e (k.all c h e a b))
