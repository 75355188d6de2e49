-- A place of a stream is within its bytes, and the point that is kept there is lawful but for the size of its window.
use Rattle.std.proofs.Common.{Bool, List, [], ap, arith, cond, drop, eqb-true, false, length, lt-ltb, ltb-true, refl, subst, suc, sym, take, true, zero, ℕ, ◌++◌, ◌+◌, ◌<◌, ◌∙◌, ◌∷◌, ◌≡◌}
use Rattle.std.specs.Prelude.{IsTrue, flat_map, fold, is_some, map, max, nat_le, nat_lt, slice_get, unwrap_or, ◌&&◌, ◌==◌, ◌^◌}
use Rattle.std.proofs.lemmas.Bool.{and_from, and_parts}
use Rattle.std.specs.List.{AllByRecursion}
use Rattle.std.proofs.lemmas.List.{length-append, take-append-drop}
use Rattle.lt_terms.specs.Key.{below, max_key, rise, same_key}
use Rattle.lt_terms.specs.Log.{Change, Header, Item, batch_item, change_item, change_key, changes_of, checkpoint_item, close_item, header_item, is_change, is_item, spelled}
use Rattle.lt_terms.specs.declared.Format.{Format}
use Rattle.lt_world.specs.Feed.{AreShort, Feed, stream_bytes}
use Rattle.lt_tables.specs.Fair.{HasHeader, IsPrefix, checkpoint_of, greatest_of, header_length, is_fair, last_checkpoint, place_after, point_of, put_key, window_above}
use Rattle.lt_tables.specs.Schema.{Catalogue}
use Rattle.lt_storage.specs.Store.{fits_63, is_point}
use Rattle.lt_codecs.proofs.ListFacts.{all_front}
use Rattle.lt_lemmas.proofs.TakenLaws.{spelled_length}
use Rattle.lt_lemmas.proofs.PointLaws.{Ordered, fair_windows, left, right}
use Rattle.lt_laws.proofs.FrontLaws.{fair_front}
use Rattle.lt_laws.proofs.NewDelta.{tests_hold}
use Rattle.lt_laws.proofs.TakenLaws.{lawful_changes}

-- ---- what a window holds

change_fits : (c : Change) → IsTrue (is_change c) → (c.ts < 2 ^ 63) × IsTrue (nat_le (length (change_key c)) max_key)
change_fits c l =
    let key = right _ (nat_le (length (change_key c)) max_key) (left _ _ (left _ _ (left _ _ l))) in
    let ts = left _ _ (left _ _ (left _ _ (left _ _ (left _ _ (left _ _ (left _ _ (left _ _ (left _ _ (left _ _ l))))))))) in
    (ltb-true c.ts (2 ^ 63) (and_parts (nat_lt 0 c.ts) (nat_lt c.ts (2 ^ 63)) ts).1, key)

abbrev IsKept : List ℕ × ℕ → Type 0
IsKept w = IsTrue (fits_63 w.1 && nat_le (length w.0) max_key)

kept_put_by : (key : List ℕ) (t : ℕ) (w : List ℕ × ℕ) (ws : List (List ℕ × ℕ)) (b c : Bool) → IsKept (key, t) → AllByRecursion IsKept (w ∷ ws) → AllByRecursion IsKept (put_key key t ws)
    → AllByRecursion IsKept (cond b ((key, t) ∷ w ∷ ws) (cond c ((key, t) ∷ ws) (w ∷ put_key key t ws)))
kept_put_by key t w ws true c k a i = (k, a)
kept_put_by key t w ws false true k a i = (k, a.1)
kept_put_by key t w ws false false k a i = (a.0, i)

kept_put : (key : List ℕ) (t : ℕ) (ws : List (List ℕ × ℕ)) → IsKept (key, t) → AllByRecursion IsKept ws → AllByRecursion IsKept (put_key key t ws)
kept_put key t [] k a = (k, tt)
kept_put key t (w ∷ ws) k a = kept_put_by key t w ws (below key w.0) (same_key key w.0) k a (kept_put key t ws k a.1)

kept_by : (b : Bool) (xs ys : List (List ℕ × ℕ)) → AllByRecursion IsKept xs → AllByRecursion IsKept ys → AllByRecursion IsKept (cond b xs ys)
kept_by true xs ys a b = a
kept_by false xs ys a b = b

window_kept : (t : ℕ) (ws : List (List ℕ × ℕ)) (cs : List Change) → AllByRecursion IsKept ws → AllByRecursion (λ c. IsTrue (is_change c)) cs → AllByRecursion IsKept (fold (λ ws c. cond (nat_lt t c.ts) (put_key (change_key c) c.ts ws) ws) ws cs)
window_kept t ws [] k a = k
window_kept t ws (c ∷ cs) k a =
    let f = change_fits c a.0 in
    window_kept t (cond (nat_lt t c.ts) (put_key (change_key c) c.ts ws) ws) cs
    (kept_by (nat_lt t c.ts) (put_key (change_key c) c.ts ws) ws (kept_put (change_key c) c.ts ws (and_from _ _ (lt-ltb c.ts (2 ^ 63) f.0) f.1) k) k) a.1

window_rises : (ws : List (List ℕ × ℕ)) → Ordered ws → IsTrue (rise (map (λ w. w.0) ws))
window_rises [] o = refl
window_rises (w ∷ []) o = refl
window_rises (w ∷ v ∷ ws) o = and_from _ _ o.0.0 (window_rises (v ∷ ws) o.1)

-- ---- timestamps fit

greatest_fits : (t : ℕ) (cs : List Change) → t < 2 ^ 63 → AllByRecursion (λ c. IsTrue (is_change c)) cs → fold (λ t c. max t c.ts) t cs < 2 ^ 63
greatest_fits t [] l a = l
greatest_fits t (c ∷ cs) l a = let f = (change_fits c a.0).0 in greatest_fits (max t c.ts) cs (omega (arith, l, f)) a.1

checkpoint_fits : (f : Format) (t : ℕ) (items : List Item) → t < 2 ^ 63 → AllByRecursion (λ i. IsTrue (is_item f i)) items → last_checkpoint t items < 2 ^ 63
checkpoint_fits f t [] l a = l
checkpoint_fits f t (checkpoint_item u ∷ items) l a =
    let h = left _ _ a.0 in checkpoint_fits f u items (ltb-true u (2 ^ 63) (and_parts (nat_lt 0 u) (nat_lt u (2 ^ 63)) h).1) a.1
checkpoint_fits f t (header_item h ∷ items) l a = checkpoint_fits f t items l a.1
checkpoint_fits f t (change_item c ∷ items) l a = checkpoint_fits f t items l a.1
checkpoint_fits f t (batch_item u cs ∷ items) l a = checkpoint_fits f t items l a.1
checkpoint_fits f t (close_item first count ∷ items) l a = checkpoint_fits f t items l a.1

from_by : (t : ℕ) (b : Bool) → cond b (nat_lt t (2 ^ 63)) (t == 0) ≡ true → t < 2 ^ 63
from_by t true h = ltb-true t (2 ^ 63) h
from_by t false h = let e = eqb-true t 0 h in omega (arith, e)

from_fits : (f : Format) (h : Header) → IsTrue (is_item f (header_item h)) → h.from < 2 ^ 63
from_fits f h l = from_by h.from (is_some h.predecessor) (right _ (cond (is_some h.predecessor) (nat_lt h.from (2 ^ 63)) (h.from == 0)) (left _ _ l))

-- ---- the first items of a front

abbrev pub first_items : ℕ → Header × List Item → List Item
first_items n f = take n f.1

lawful_first : (f : Format) (items : List Item) (n : ℕ) → AllByRecursion (λ i. IsTrue (is_item f i)) items → AllByRecursion (λ i. IsTrue (is_item f i)) (take n items)
lawful_first f items n a = all_front (λ i. IsTrue (is_item f i)) (take n items) (drop n items) (subst (AllByRecursion (λ i. IsTrue (is_item f i))) (sym (take-append-drop n items)) a)

-- the checkpoint at a place of a front fits, and so does the greatest timestamp there
pub place_checkpoint : (feed : Feed) (cat : Catalogue) (k n : ℕ) (f : Header × List Item) → HasHeader feed k f.0 → IsPrefix feed cat f.0 f.1 → checkpoint_of f.0 (take n f.1) < 2 ^ 63
place_checkpoint feed cat k n f h p = checkpoint_fits f.0.format f.0.from (take n f.1) (from_fits f.0.format f.0 h.lawful) (lawful_first f.0.format f.1 n p.lawful)

-- the point there is lawful where its window is not too large
pub place_point : (feed : Feed) (cat : Catalogue) (k n : ℕ) (f : Header × List Item) → HasHeader feed k f.0 → IsPrefix feed cat f.0 f.1 → IsTrue (nat_le (length (point_of f.0 (take n f.1)).window) 1024) → IsTrue (is_point (point_of f.0 (take n f.1)))
unfolding point_of
place_point feed cat k n f h p few =
    let items = take n f.1 in
    let lawful = lawful_first f.0.format f.1 n p.lawful in
    let changes = lawful_changes f.0.format items lawful in
    let fair : is_fair f.0 cat items ≡ true = (fair_front f.0 cat items (drop n f.1) (ap (is_fair f.0 cat) (take-append-drop n f.1) ∙ p.fair)).0 in
    let t = checkpoint_of f.0 items in
    let window = window_above t (changes_of items) in
    and_from _ _ (and_from _ _ (and_from _ _ (and_from _ _ (lt-ltb t (2 ^ 63) (place_checkpoint feed cat k n f h p)) (lt-ltb (greatest_of items) (2 ^ 63) (greatest_fits 0 (changes_of items) (omega arith) changes))) few)
    (window_rises window ((fair_windows f.0 cat items fair).ordered t)))
    (tests_hold (λ w. fits_63 w.1 && nat_le (length w.0) max_key) window (window_kept t [] (changes_of items) tt changes))

short_stream : (feed : Feed) (n : ℕ) → AreShort feed → length (unwrap_or (slice_get feed n) []) < 2 ^ 63
short_stream [] n a = omega arith
short_stream (b ∷ feed) zero a = a.0
short_stream (b ∷ feed) (suc n) a = short_stream feed n a.1

-- the place is within the stream
pub place_within : (feed : Feed) (cat : Catalogue) (n : ℕ) (f : Header × List Item) → AreShort feed → IsPrefix feed cat f.0 f.1 → place_after f.0 (take n f.1) < 2 ^ 63
place_within feed cat n f short p =
    let a : length (flat_map spelled (take n f.1 ++ drop n f.1)) ≡ length (flat_map spelled (take n f.1)) + length (flat_map spelled (drop n f.1)) = spelled_length (take n f.1) (drop n f.1) in
    let b : length (flat_map spelled (take n f.1 ++ drop n f.1)) ≡ length (flat_map spelled f.1) = ap (λ (l : List Item). length (flat_map spelled l)) (take-append-drop n f.1) in
    let c : length (stream_bytes feed f.0.stream) ≡ length (spelled (header_item f.0) ++ (flat_map spelled f.1 ++ p.rest)) = ap length p.spells in
    let d : length (spelled (header_item f.0) ++ (flat_map spelled f.1 ++ p.rest)) ≡ header_length f.0 + length (flat_map spelled f.1 ++ p.rest) = length-append (spelled (header_item f.0)) (flat_map spelled f.1 ++ p.rest) in
    let e : length (flat_map spelled f.1 ++ p.rest) ≡ length (flat_map spelled f.1) + length p.rest = length-append (flat_map spelled f.1) p.rest in
    let g : length (stream_bytes feed f.0.stream) < 2 ^ 63 = short_stream feed f.0.stream short in
    omega (arith, a, b, c, d, e, g)
