-- The two sides of a key, and copies of versions.
use Rattle.std.proofs.Common.{◌≡◌, ℕ, List, [], ◌∷◌, ◌++◌, refl, sym, ap, subst, ◌∙◌, true, false, Ordering, Less, Equal, Greater, append_assoc, arith, eq-eqb, eqb-true, get_or, length, length-append, suc}
use Rattle.std.specs.Prelude.{Bool, IfNone, IfSome, IsTrue, None, Option, Some, cond, slice_get, ◌+◌, ◌-◌, ◌==◌}
use Rattle.std.specs.List.{All}
use Rattle.std.specs.Map.{keys_of}
use Rattle.std.specs.Ordering.{is_lt, ordering_reverse}
use Rattle.lt_terms.specs.Key.{below, bytes_cmp, same_key}
use Rattle.lt_tables.specs.Version.{RowVersion, is_ordered, put_version, same_name, stands_before}
use Rattle.std.proofs.Math.Seq.{get_or-append_seam}
use Rattle.std.proofs.lemmas.Bool.{and_from, and_parts}
use Rattle.std.proofs.lemmas.Cmp.{nat_list_cmp_total}
use Rattle.std.proofs.lemmas.Option.{get_or_from_slice_get}
use Rattle.lt_lemmas.proofs.MergeLaws.{Above, before-not, ordered-above, ordered-tail, same-back, same-not-before}
use Rattle.lt_memdelta.specs.Groups.{rows_below}
use Rattle.lt_memdelta.specs.Stamps.{rows_of, versions_at}
use Rattle.lt_lemmas.proofs.ClipLaws.{key-trans}
use Rattle.lt_memdelta.proofs.Clips.{test-own}
use Rattle.lt_memdelta.proofs.Puts.{Held, key-equal}

-- ---- a version put behind all others

behind-by : (v w : RowVersion) (ws : List RowVersion) (b c : Bool) → b ≡ false → c ≡ false → put_version v ws ≡ ws ++ v ∷ [] → cond b (v ∷ w ∷ ws) (cond c (v ∷ ws) (w ∷ put_version v ws)) ≡ w ∷ (ws ++ v ∷ [])
behind-by v w ws b c h i e = ap (λ b. cond b (v ∷ w ∷ ws) (cond c (v ∷ ws) (w ∷ put_version v ws))) h ∙ ap (λ c. cond c (v ∷ ws) (w ∷ put_version v ws)) i ∙ ap (λ r. w ∷ r) e

-- two versions of one name do not stand one before the other
same-swap : (v w : RowVersion) → same_name v w ≡ true → same_name w v ≡ true
same-swap v w h =
    let p = and_parts (same_key v.key w.key) (v.ts == w.ts) h in
    and_from (same_key w.key v.key) (w.ts == v.ts) (same-back w.key v.key ∙ p.0) (eq-eqb w.ts v.ts (sym (eqb-true v.ts w.ts p.1)))

not-same : (v w : RowVersion) (b : Bool) → same_name v w ≡ b → IsTrue (stands_before w v) → b ≡ false
not-same v w true h i = sym i ∙ same-not-before w v (same-swap v w h)
not-same v w false h i = refl

above-last : (w v : RowVersion) (ws rest : List RowVersion) → Above w (ws ++ v ∷ rest) → IsTrue (stands_before w v)
above-last w v [] rest h = h.0
above-last w v (u ∷ ws) rest h = above-last w v ws rest h.1

pub put-last : (v : RowVersion) (ws rest : List RowVersion) → IsTrue (is_ordered (ws ++ v ∷ rest)) → put_version v ws ≡ ws ++ v ∷ []
put-last v [] rest h = refl
put-last v (w ∷ ws) rest h =
    let before : IsTrue (stands_before w v) = above-last w v ws rest (ordered-above w (ws ++ v ∷ rest) h) in
    behind-by v w ws (stands_before v w) (same_name v w) (before-not w v before) (not-same v w (same_name v w) refl before) (put-last v ws rest (ordered-tail w (ws ++ v ∷ rest) h))

-- one version more is copied
pub copied-next : (v w : RowVersion) (rows rows' left left' all : List RowVersion) → v ≡ w → left ≡ w ∷ left' → rows' ≡ put_version v rows → IsTrue (is_ordered all) → rows ++ left ≡ all
    → (rows' ++ left' ≡ all) × (length rows' ≡ length rows + 1)
copied-next v w rows rows' left left' all p q e o h =
    let whole : rows ++ v ∷ left' ≡ all = ap (λ x. rows ++ x ∷ left') p ∙ ap (λ l. rows ++ l) (sym q) ∙ h in
    let Ordered : List RowVersion → Type 0 = λ vs. IsTrue (is_ordered vs) in
    let last : rows' ≡ rows ++ v ∷ [] = e ∙ put-last v rows left' (subst Ordered (sym whole) o) in
    (ap (λ r. r ++ left') last ∙ append_assoc rows (v ∷ []) left' ∙ whole, ap length last ∙ length-append rows (v ∷ []))

-- ---- the last key goes

below-by : (k last low : List ℕ) (o : Ordering) → bytes_cmp last k ≡ o → is_lt o ≡ false → below last low ≡ true → below k low ≡ true
below-by k last low Less h i b = cc
below-by k last low Equal h i b = ap (λ x. below x low) (sym (key-equal last k h)) ∙ b
below-by k last low Greater h i b = key-trans k last low (ap is_lt (nat_list_cmp_total.antisymm k last ∙ ap ordering_reverse h)) b

-- all are below, where the greatest is
pub all-below : (low last : List ℕ) (es : List Held) → below last low ≡ true → All (λ q. is_lt (bytes_cmp last q) ≡ false) (keys_of es) → rows_of es ≡ rows_below low (rows_of es)
all-below low last [] h a = refl
all-below low last (e ∷ es) h a =
    let b : below e.0 low ≡ true = below-by e.0 last low (bytes_cmp last e.0) refl (a 0 e.0 (omega arith)) h in
    ap (λ vs. versions_at e.0 e.1.entries ++ vs) (all-below low last es h (λ k d l. a (suc k) d (omega arith))) ∙ sym (test-own (λ k. below k low) e.0 e.1.entries (rows_of es) true b)

popped-last : (low : List ℕ) (es : List Held) (p : Held) → below p.0 low ≡ false → rows_below low (rows_of es) ≡ rows_below low (rows_of (es ++ p ∷ []))
popped-last low [] p h = sym (test-own (λ k. below k low) p.0 p.1.entries [] false h)
popped-last low (e ∷ es) p h =
    let own : (ws : List RowVersion) → rows_below low (versions_at e.0 e.1.entries ++ ws) ≡ cond (below e.0 low) (versions_at e.0 e.1.entries ++ rows_below low ws) (rows_below low ws)
    = λ ws. test-own (λ k. below k low) e.0 e.1.entries ws (below e.0 low) refl in
    own (rows_of es) ∙ ap (λ vs. cond (below e.0 low) (versions_at e.0 e.1.entries ++ vs) vs) (popped-last low es p h) ∙ sym (own (rows_of (es ++ p ∷ [])))

last-is : (es : List Held) (p last : Held) (n : ℕ) → n ≡ length es → slice_get (es ++ p ∷ []) n ≡ Some last → p ≡ last
last-is es p last n h e = sym (get_or-append_seam es p [] p) ∙ ap (λ i. get_or (es ++ p ∷ []) i p) (sym h) ∙ get_or_from_slice_get (es ++ p ∷ []) n last p e

pub popped : (low : List ℕ) (o : Option Held) (old new : List Held) (last : Held) → IfSome o (λ p. old ≡ new ++ p ∷ []) → IfNone o (new ≡ old) → slice_get old (length old - 1) ≡ Some last
    → below last.0 low ≡ false → rows_below low (rows_of new) ≡ rows_below low (rows_of old)
popped low None old new last h i e b = ap (λ es. rows_below low (rows_of es)) i
popped low (Some p) old new last h i e b =
    let more : length old ≡ length new + 1 = ap length h ∙ length-append new (p ∷ []) in
    let same : p ≡ last = last-is new p last (length old - 1) (omega (arith, more)) (ap (λ es. slice_get es (length old - 1)) (sym h) ∙ e) in
    popped-last low new p (ap (λ (x : Held). below x.0 low) same ∙ b) ∙ ap (λ es. rows_below low (rows_of es)) (sym h)
