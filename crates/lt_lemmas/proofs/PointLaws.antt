-- What a check of a stream keeps of its items suffices: a point tells what the list tells, and goes on as it does.
use Rattle.std.proofs.Common.{Bool, List, [], ap, append-nil, append_assoc, ap₂, arith, cond, false, le-ltb, lt-ltb, ltb-false, ltb-true, refl, subst, sym, true, ℕ, ◌++◌, ◌<◌, ◌∙◌, ◌∷◌, ◌≡◌, ◌≤◌}
use Rattle.std.specs.Ordering.{is_eq, is_lt, ordering_reverse}
use Rattle.std.specs.declared.cmp.Ordering.{Ordering}
use Rattle.std.specs.declared.cmp.Ordering.TheVariants.{Equal, Greater, Less}
use Rattle.std.proofs.lemmas.Map.Lookups.{exact_bytes}
use Rattle.std.proofs.lemmas.Cmp.{eq_by_cmp_equiv, nat_list_cmp_total, tied_itself}
use Rattle.std.specs.Prelude.{None, Option, Some, filter, fold, if◌then◌else◌, is_none, map, max, nat_le, nat_lt, not, option_and_then, ⊤, ◌&&◌}
use Rattle.std.proofs.lemmas.List.Elements.{filter-append}
use Rattle.std.proofs.lemmas.List.Sums.{fold-append, fold_push}
use Rattle.std.proofs.lemmas.Bool.Decides.{nat_tests}
use Rattle.std.proofs.lemmas.Bool.{and_from, leb-false, lt-leb}
use Rattle.std.specs.Option.{option_map_or, option_or}
use Rattle.std.proofs.lemmas.List.Concat.{flat_map-append}
use Rattle.std.specs.List.{AllByRecursion}
use Rattle.lt_terms.specs.Key.{below, bytes_cmp, in_range, same_key}
use Rattle.lt_terms.specs.Log.{Change, Header, Item, batch_item, change_item, change_key, changes_in, changes_of, checkpoint_item, close_item, header_item}
use Rattle.lt_terms.specs.Value.{rises_above, rises_strictly}
use Rattle.lt_tables.specs.Fair.{Point, PointSuffices, Unfair, after_close, backward, bad_shape, breaks, breaks_at, change_fault, change_fault_at, changes_fault, changes_fault_at, changes_to, checkpoint_of, fair_after, greatest_of, has_change_shape, is_closed, is_fair, item_fault, item_fault_at, last_checkpoint, last_ts, late, out_of_order, out_of_range, point_after, point_of, put_key, unknown_table_number, unknown_version_number, window_above, window_ts, with_change}
use Rattle.lt_tables.specs.Row.{is_in_time}
use Rattle.lt_tables.specs.Schema.{Catalogue, first_of, registered, table_numbered, when}
pub use Rattle.lt_codecs.proofs.ListFacts.{or_left, or_right}
pub use Rattle.lt_lemmas.proofs.ListFacts.{when_none}
use Rattle.lt_lemmas.proofs.MergeLaws.{is_equal, less}

-- ---- keys

pub same : (a b : List ℕ) → same_key a b ≡ true → a ≡ b
same a b h = exact_bytes a b (is_equal (bytes_cmp a b) h)

pub itself : (a : List ℕ) → same_key a a ≡ true
itself a = ap is_eq (tied_itself nat_list_cmp_total a)

pub swapped : (a b : List ℕ) → same_key a b ≡ same_key b a
swapped a b = (eq_by_cmp_equiv nat_list_cmp_total).symm a b

pub below_trans : (a b c : List ℕ) → below a b ≡ true → below b c ≡ true → below a c ≡ true
below_trans a b c h i = ap is_lt (nat_list_cmp_total.trans a b c (less (bytes_cmp a b) h) (less (bytes_cmp b c) i))

above_by : (o p : Ordering) → p ≡ ordering_reverse o → is_lt o ≡ false → is_eq o ≡ false → is_lt p ≡ true
above_by Less p e h i = cc
above_by Equal p e h i = cc
above_by Greater p e h i = ap is_lt e

-- neither below nor the same is above
pub above : (a b : List ℕ) → below a b ≡ false → same_key a b ≡ false → below b a ≡ true
above a b h i = above_by (bytes_cmp a b) (bytes_cmp b a) (nat_list_cmp_total.antisymm b a) h i

-- ---- a key's time in a window, and after a change is put there

cond_collapse : (a b : Bool) (x y z : ℕ) → a ≡ b → cond a x z ≡ cond a x (cond b y z)
cond_collapse true b x y z e = refl
cond_collapse false true x y z e = cc
cond_collapse false false x y z e = refl

cond_exchange : (a b : Bool) (x y z : ℕ) → (a ≡ true → b ≡ true → ⊥) → cond a x (cond b y z) ≡ cond b y (cond a x z)
cond_exchange true true x y z h = absurd (h refl refl)
cond_exchange true false x y z h = refl
cond_exchange false true x y z h = refl
cond_exchange false false x y z h = refl

two_keys : (key a b : List ℕ) → same_key a b ≡ false → same_key key b ≡ true → same_key key a ≡ true → ⊥
two_keys key a b n p q = let e : a ≡ b = sym (same key a q) ∙ same key b p in let t : same_key a b ≡ true = ap (same_key a) (sym e) ∙ itself a in cc

put_ts_by : (key k : List ℕ) (t : ℕ) (w : List ℕ × ℕ) (ws : List (List ℕ × ℕ)) (b s : Bool) → same_key k w.0 ≡ s → window_ts key (put_key k t ws) ≡ cond (same_key key k) t (window_ts key ws)
    → window_ts key (cond b ((k, t) ∷ w ∷ ws) (cond s ((k, t) ∷ ws) (w ∷ put_key k t ws))) ≡ cond (same_key key k) t (cond (same_key key w.0) w.1 (window_ts key ws))
put_ts_by key k t w ws true s e ih = refl
put_ts_by key k t w ws false true e ih = cond_collapse (same_key key k) (same_key key w.0) t w.1 (window_ts key ws) (ap (same_key key) (same k w.0 e))
put_ts_by key k t w ws false false e ih = ap (cond (same_key key w.0) w.1) ih ∙ cond_exchange (same_key key w.0) (same_key key k) w.1 t (window_ts key ws) (two_keys key k w.0 e)

pub window_ts-put : (key k : List ℕ) (t : ℕ) (ws : List (List ℕ × ℕ)) → window_ts key (put_key k t ws) ≡ cond (same_key key k) t (window_ts key ws)
window_ts-put key k t [] = refl
window_ts-put key k t (w ∷ ws) = put_ts_by key k t w ws (below k w.0) (same_key k w.0) refl (window_ts-put key k t ws)

-- ---- windows stand by rising key

abbrev pub AllAbove : List ℕ → List (List ℕ × ℕ) → Type 0
AllAbove a [] = ⊤
AllAbove a (w ∷ ws) = (below a w.0 ≡ true) × AllAbove a ws

abbrev pub Ordered : List (List ℕ × ℕ) → Type 0
Ordered [] = ⊤
Ordered (w ∷ ws) = AllAbove w.0 ws × Ordered ws

all_above_trans : (a b : List ℕ) → below a b ≡ true → (ws : List (List ℕ × ℕ)) → AllAbove b ws → AllAbove a ws
all_above_trans a b h [] i = tt
all_above_trans a b h (w ∷ ws) i = (below_trans a b w.0 h i.0, all_above_trans a b h ws i.1)

above_put_by : (a k : List ℕ) (t : ℕ) (w : List ℕ × ℕ) (ws : List (List ℕ × ℕ)) (b s : Bool) → below a k ≡ true → AllAbove a (w ∷ ws) → AllAbove a (put_key k t ws)
    → AllAbove a (cond b ((k, t) ∷ w ∷ ws) (cond s ((k, t) ∷ ws) (w ∷ put_key k t ws)))
above_put_by a k t w ws true s h i ih = (h, i)
above_put_by a k t w ws false true h i ih = (h, i.1)
above_put_by a k t w ws false false h i ih = (i.0, ih)

above_put : (a k : List ℕ) (t : ℕ) (ws : List (List ℕ × ℕ)) → below a k ≡ true → AllAbove a ws → AllAbove a (put_key k t ws)
above_put a k t [] h i = (h, tt)
above_put a k t (w ∷ ws) h i = above_put_by a k t w ws (below k w.0) (same_key k w.0) h i (above_put a k t ws h i.1)

ordered_put_by : (k : List ℕ) (t : ℕ) (w : List ℕ × ℕ) (ws : List (List ℕ × ℕ)) (b s : Bool) → below k w.0 ≡ b → same_key k w.0 ≡ s → Ordered (w ∷ ws) → Ordered (put_key k t ws)
    → Ordered (cond b ((k, t) ∷ w ∷ ws) (cond s ((k, t) ∷ ws) (w ∷ put_key k t ws)))
ordered_put_by k t w ws true s e d o ih = ((e, all_above_trans k w.0 e ws o.0), o)
ordered_put_by k t w ws false true e d o ih = (subst (λ (a : List ℕ). AllAbove a ws) (sym (same k w.0 d)) o.0, o.1)
ordered_put_by k t w ws false false e d o ih = (above_put w.0 k t ws (above k w.0 e d) o.0, ih)

pub ordered_put : (k : List ℕ) (t : ℕ) (ws : List (List ℕ × ℕ)) → Ordered ws → Ordered (put_key k t ws)
ordered_put k t [] o = (tt, tt)
ordered_put k t (w ∷ ws) o = ordered_put_by k t w ws (below k w.0) (same_key k w.0) refl refl o (ordered_put k t ws o.1)

-- ---- what is left of a window above a later checkpoint

abbrev pub later : ℕ → List (List ℕ × ℕ) → List (List ℕ × ℕ)
later t ws = filter (λ w. nat_lt t w.1) ws

put_front : (k : List ℕ) (s : ℕ) (ws : List (List ℕ × ℕ)) → AllAbove k ws → put_key k s ws ≡ (k, s) ∷ ws
put_front k s [] a = refl
put_front k s (w ∷ ws) a = ap (λ b. cond b ((k, s) ∷ w ∷ ws) (cond (same_key k w.0) ((k, s) ∷ ws) (w ∷ put_key k s ws))) a.0

above_later_by : (a : List ℕ) (t : ℕ) (w : List ℕ × ℕ) (ws : List (List ℕ × ℕ)) (b : Bool) → below a w.0 ≡ true → AllAbove a (later t ws) → AllAbove a (cond b (w ∷ later t ws) (later t ws))
above_later_by a t w ws true h i = (h, i)
above_later_by a t w ws false h i = i

above_later : (a : List ℕ) (t : ℕ) (ws : List (List ℕ × ℕ)) → AllAbove a ws → AllAbove a (later t ws)
above_later a t [] i = tt
above_later a t (w ∷ ws) i = above_later_by a t w ws (nat_lt t w.1) i.0 (above_later a t ws i.1)

kept_front : (t s : ℕ) (k : List ℕ) (ws : List (List ℕ × ℕ)) → t < s → later t ((k, s) ∷ ws) ≡ (k, s) ∷ later t ws
kept_front t s k ws h = ap (λ b. cond b ((k, s) ∷ later t ws) (later t ws)) (lt-ltb t s h)

dropped_front : (t s : ℕ) (k : List ℕ) (ws : List (List ℕ × ℕ)) → s ≤ t → later t ((k, s) ∷ ws) ≡ later t ws
dropped_front t s k ws h = ap (λ b. cond b ((k, s) ∷ later t ws) (later t ws)) (le-ltb t s h)

put_over : (k : List ℕ) (s : ℕ) (w : List ℕ × ℕ) (ws : List (List ℕ × ℕ)) → below k w.0 ≡ false → same_key k w.0 ≡ false → put_key k s (w ∷ ws) ≡ w ∷ put_key k s ws
put_over k s w ws e d = ap (λ b. cond b ((k, s) ∷ w ∷ ws) (cond (same_key k w.0) ((k, s) ∷ ws) (w ∷ put_key k s ws))) e ∙ ap (λ b. cond b ((k, s) ∷ ws) (w ∷ put_key k s ws)) d

put_same : (k : List ℕ) (s : ℕ) (w : List ℕ × ℕ) (ws : List (List ℕ × ℕ)) → below k w.0 ≡ false → same_key k w.0 ≡ true → put_key k s (w ∷ ws) ≡ (k, s) ∷ ws
put_same k s w ws e d = ap (λ b. cond b ((k, s) ∷ w ∷ ws) (cond (same_key k w.0) ((k, s) ∷ ws) (w ∷ put_key k s ws))) e ∙ ap (λ b. cond b ((k, s) ∷ ws) (w ∷ put_key k s ws)) d

high_same : (k : List ℕ) (t s : ℕ) (w : List ℕ × ℕ) (ws : List (List ℕ × ℕ)) (b : Bool) → below k w.0 ≡ false → same_key k w.0 ≡ true → AllAbove w.0 ws → (k, s) ∷ later t ws ≡ put_key k s (cond b (w ∷ later t ws) (later t ws))
high_same k t s w ws true e d o = sym (put_same k s w (later t ws) e d)
high_same k t s w ws false e d o = sym (put_front k s (later t ws) (above_later k t ws (subst (λ (a : List ℕ). AllAbove a ws) (sym (same k w.0 d)) o)))

high_over : (k : List ℕ) (t s : ℕ) (w : List ℕ × ℕ) (ws : List (List ℕ × ℕ)) (b : Bool) → below k w.0 ≡ false → same_key k w.0 ≡ false → later t (put_key k s ws) ≡ put_key k s (later t ws)
    → cond b (w ∷ later t (put_key k s ws)) (later t (put_key k s ws)) ≡ put_key k s (cond b (w ∷ later t ws) (later t ws))
high_over k t s w ws true e d ih = ap (λ x. w ∷ x) ih ∙ sym (put_over k s w (later t ws) e d)
high_over k t s w ws false e d ih = ih

later_high_by : (k : List ℕ) (t s : ℕ) (w : List ℕ × ℕ) (ws : List (List ℕ × ℕ)) (b q : Bool) → t < s → below k w.0 ≡ b → same_key k w.0 ≡ q → Ordered (w ∷ ws) → later t (put_key k s ws) ≡ put_key k s (later t ws)
    → later t (cond b ((k, s) ∷ w ∷ ws) (cond q ((k, s) ∷ ws) (w ∷ put_key k s ws))) ≡ put_key k s (later t (w ∷ ws))
later_high_by k t s w ws true q h e d o ih = kept_front t s k (w ∷ ws) h ∙ sym (put_front k s (later t (w ∷ ws)) (above_later k t (w ∷ ws) (e, all_above_trans k w.0 e ws o.0)))
later_high_by k t s w ws false true h e d o ih = kept_front t s k ws h ∙ high_same k t s w ws (nat_lt t w.1) e d o.0
later_high_by k t s w ws false false h e d o ih = high_over k t s w ws (nat_lt t w.1) e d ih

-- above it, the change is put in what is left
pub later_high : (k : List ℕ) (t s : ℕ) (ws : List (List ℕ × ℕ)) → t < s → Ordered ws → later t (put_key k s ws) ≡ put_key k s (later t ws)
later_high k t s [] h o = kept_front t s k [] h
later_high k t s (w ∷ ws) h o = later_high_by k t s w ws (below k w.0) (same_key k w.0) h refl refl o (later_high k t s ws h o.1)

later_low_by : (k : List ℕ) (t s : ℕ) (w : List ℕ × ℕ) (ws : List (List ℕ × ℕ)) (b q : Bool) → s ≤ t → cond q w.1 (window_ts k ws) ≤ t → (window_ts k ws ≤ t → later t (put_key k s ws) ≡ later t ws)
    → later t (cond b ((k, s) ∷ w ∷ ws) (cond q ((k, s) ∷ ws) (w ∷ put_key k s ws))) ≡ later t (w ∷ ws)
later_low_by k t s w ws true q h i ih = dropped_front t s k (w ∷ ws) h
later_low_by k t s w ws false true h i ih = dropped_front t s k ws h ∙ sym (dropped_front t w.1 w.0 ws i)
later_low_by k t s w ws false false h i ih = ap (λ x. cond (nat_lt t w.1) (w ∷ x) x) (ih i)

-- at or below it, the change and what it replaces are both gone
pub later_low : (k : List ℕ) (t s : ℕ) (ws : List (List ℕ × ℕ)) → s ≤ t → window_ts k ws ≤ t → later t (put_key k s ws) ≡ later t ws
later_low k t s [] h i = dropped_front t s k [] h
later_low k t s (w ∷ ws) h i = later_low_by k t s w ws (below k w.0) (same_key k w.0) h i (later_low k t s ws h)

-- ---- parts of a test

pub left : (a b : Bool) → (a && b) ≡ true → a ≡ true
left true b h = refl
left false b h = h

pub right : (a b : Bool) → (a && b) ≡ true → b ≡ true
right true b h = h
right false b h = cc

-- ---- the last timestamp of a key's changes

abbrev last_of : List ℕ → List Change → ℕ
last_of key cs = fold (λ t c. c.ts) 0 (changes_to key cs)

last_one : (b : Bool) (c : Change) (l : ℕ) → fold (λ t c. c.ts) l (cond b (c ∷ []) []) ≡ cond b c.ts l
last_one true c l = refl
last_one false c l = refl

pub last_push : (key : List ℕ) (cs : List Change) (c : Change) → last_of key (cs ++ c ∷ []) ≡ cond (same_key (change_key c) key) c.ts (last_of key cs)
last_push key cs c = ap (fold (λ t c. c.ts) 0) (filter-append (λ c. same_key (change_key c) key) cs (c ∷ []))
    ∙ fold-append (λ t c. c.ts) 0 (changes_to key cs) (changes_to key (c ∷ []))
    ∙ last_one (same_key (change_key c) key) c (last_of key cs)

pub window_push : (t : ℕ) (cs : List Change) (c : Change) → window_above t (cs ++ c ∷ []) ≡ cond (nat_lt t c.ts) (put_key (change_key c) c.ts (window_above t cs)) (window_above t cs)
window_push t cs c = fold_push (λ ws c. if nat_lt t c.ts then put_key (change_key c) c.ts ws else ws) [] cs c

-- ---- what holds of the changes of a fair list

-- At any checkpoint a window tells a key's last timestamp where that is above the checkpoint, and else nothing; it stands by rising
-- key; and a window narrows to that of a later checkpoint. Each key's changes rise in time.
pub record WindowsOf (cs : List Change) : Type 0 where
  pub tells : (t : ℕ) (key : List ℕ) → window_ts key (window_above t cs) ≡ cond (nat_lt t (last_of key cs)) (last_of key cs) 0
  pub ordered : (t : ℕ) → Ordered (window_above t cs)
  pub narrows : (t u : ℕ) → t ≤ u → later u (window_above t cs) ≡ window_above u cs
  pub rises : (key : List ℕ) → is_in_time key cs ≡ true

above_cond : (t l : ℕ) (x y : ℕ) → l ≤ t → cond (nat_lt t l) x y ≡ y
above_cond t l x y h = ap (λ b. cond b x y) (le-ltb t l h)

within_cond : (t l : ℕ) (x y : ℕ) → t < l → cond (nat_lt t l) x y ≡ x
within_cond t l x y h = ap (λ b. cond b x y) (lt-ltb t l h)

windows_of_none : WindowsOf []
windows_of_none = record { tells = λ t key. sym (above_cond t 0 0 0 (omega arith)); ordered = λ t. tt; narrows = λ t u h. refl; rises = λ key. refl }

tells_by : (t : ℕ) (key k : List ℕ) (s : ℕ) (ws : List (List ℕ × ℕ)) (old mine : ℕ) (b d : Bool) → nat_lt t s ≡ b → same_key key k ≡ d → (d ≡ true → mine ≡ old) → mine < s
    → window_ts key ws ≡ cond (nat_lt t old) old 0
    → cond b (cond d s (window_ts key ws)) (window_ts key ws) ≡ cond (nat_lt t (cond d s old)) (cond d s old) 0
tells_by t key k s ws old mine true true e q alike rises ih = sym (within_cond t s s 0 (ltb-true t s e))
tells_by t key k s ws old mine true false e q alike rises ih = ih
tells_by t key k s ws old mine false true e q alike rises ih = ih ∙ above_cond t old old 0 (omega (arith, ltb-false t s e, alike refl, rises)) ∙ sym (above_cond t s s 0 (ltb-false t s e))
tells_by t key k s ws old mine false false e q alike rises ih = ih

put_cond : (key k : List ℕ) (s : ℕ) (ws : List (List ℕ × ℕ)) (b : Bool) → window_ts key (cond b (put_key k s ws) ws) ≡ cond b (cond (same_key key k) s (window_ts key ws)) (window_ts key ws)
put_cond key k s ws true = window_ts-put key k s ws
put_cond key k s ws false = refl

ordered_cond : (k : List ℕ) (s : ℕ) (ws : List (List ℕ × ℕ)) (b : Bool) → Ordered ws → Ordered (cond b (put_key k s ws) ws)
ordered_cond k s ws true o = ordered_put k s ws o
ordered_cond k s ws false o = o

narrows_by : (t u : ℕ) (k : List ℕ) (s mine : ℕ) (ws us : List (List ℕ × ℕ)) (b d : Bool) → nat_lt t s ≡ b → nat_lt u s ≡ d → t ≤ u → Ordered ws → window_ts k ws ≡ cond (nat_lt t mine) mine 0 → mine < s
    → later u ws ≡ us → later u (cond b (put_key k s ws) ws) ≡ cond d (put_key k s us) us
narrows_by t u k s mine ws us true true e f h o tell rises ih = later_high k u s ws (ltb-true u s f) o ∙ ap (put_key k s) ih
narrows_by t u k s mine ws us true false e f h o tell rises ih = later_low k u s ws (ltb-false u s f) (grind (arith, nat_tests, tell, rises, ltb-false u s f)) ∙ ih
narrows_by t u k s mine ws us false true e f h o tell rises ih = absurd (omega (arith, ltb-false t s e, ltb-true u s f))
narrows_by t u k s mine ws us false false e f h o tell rises ih = ih

rises_more : (low : ℕ) (cs : List Change) (c : Change) → rises_above low (map (λ c. c.ts) cs) ≡ true → fold (λ t c. c.ts) low cs < c.ts → rises_above low (map (λ c. c.ts) (cs ++ c ∷ [])) ≡ true
rises_more low [] c r h = and_from _ _ (lt-ltb low c.ts h) refl
rises_more low (d ∷ cs) c r h = and_from _ _ (left (nat_lt low d.ts) _ r) (rises_more d.ts cs c (right (nat_lt low d.ts) _ r) h)

rises_on : (cs : List Change) (c : Change) → rises_strictly (map (λ c. c.ts) cs) ≡ true → fold (λ t c. c.ts) 0 cs < c.ts → rises_strictly (map (λ c. c.ts) (cs ++ c ∷ [])) ≡ true
rises_on [] c r h = refl
rises_on (d ∷ cs) c r h = rises_more d.ts cs c r h

rises_by : (cs : List Change) (c : Change) (b : Bool) → rises_strictly (map (λ c. c.ts) cs) ≡ true → (b ≡ true → fold (λ t c. c.ts) 0 cs < c.ts) → rises_strictly (map (λ c. c.ts) (cs ++ cond b (c ∷ []) [])) ≡ true
rises_by cs c true r h = rises_on cs c r (h refl)
rises_by cs c false r h = ap (λ x. rises_strictly (map (λ c. c.ts) x)) (append-nil cs) ∙ r

pub windows_push : (cs : List Change) (c : Change) → WindowsOf cs → last_of (change_key c) cs < c.ts → WindowsOf (cs ++ c ∷ [])
windows_push cs c w rises = record {
  tells = λ t key. ap (window_ts key) (window_push t cs c) ∙ put_cond key (change_key c) c.ts (window_above t cs) (nat_lt t c.ts)
      ∙ tells_by t key (change_key c) c.ts (window_above t cs) (last_of key cs) (last_of (change_key c) cs) (nat_lt t c.ts) (same_key key (change_key c)) refl refl
      (λ q. ap (λ k. last_of k cs) (sym (same key (change_key c) q))) rises (w.tells t key)
      ∙ ap (λ b. cond (nat_lt t (cond b c.ts (last_of key cs))) (cond b c.ts (last_of key cs)) 0) (swapped key (change_key c))
      ∙ ap (λ l. cond (nat_lt t l) l 0) (sym (last_push key cs c));
  ordered = λ t. subst Ordered (sym (window_push t cs c)) (ordered_cond (change_key c) c.ts (window_above t cs) (nat_lt t c.ts) (w.ordered t));
  narrows = λ t u h. ap (later u) (window_push t cs c)
      ∙ narrows_by t u (change_key c) c.ts (last_of (change_key c) cs) (window_above t cs) (window_above u cs) (nat_lt t c.ts) (nat_lt u c.ts) refl refl h (w.ordered t) (w.tells t (change_key c)) rises (w.narrows t u h)
      ∙ sym (window_push u cs c);
  rises = λ key. ap (λ x. rises_strictly (map (λ c. c.ts) x)) (filter-append (λ c. same_key (change_key c) key) cs (c ∷ []))
      ∙ rises_by (changes_to key cs) c (same_key (change_key c) key) (w.rises key) (λ q. subst (λ (k : List ℕ). last_of k cs < c.ts) (same (change_key c) key q) rises);
}

-- ---- what fairness of an item gives

pub none : {A : Type 0} (o : Option A) → is_none o ≡ true → o ≡ None
none None h = refl
none (Some a) h = cc

-- the faults of a change that its place in the list does not matter for
abbrev pub shape_faults : Header → Catalogue → Change → List (Option Unfair)
shape_faults h cat c = let t = table_numbered cat c.table in let r = option_and_then (λ t. registered t c.version) t in
    (when (not (in_range (change_key c) h.range)) out_of_range
    ∷ when (is_none t) (unknown_table_number c.table)
    ∷ when (is_none r) (unknown_version_number c.version)
    ∷ when (not (option_map_or (λ t. option_map_or (λ r. has_change_shape t r c) r false) t false)) bad_shape
    ∷ [])

-- and those that it matters for
abbrev pub time_faults : ℕ → ℕ → ℕ → List (Option Unfair)
time_faults s t l = when (nat_le s t) (late t) ∷ when (nat_le s l) (out_of_order l) ∷ []

pub first_of-append : {A : Type 0} (os ps : List (Option A)) → first_of (os ++ ps) ≡ option_or (first_of os) (first_of ps)
first_of-append [] ps = refl
first_of-append (None ∷ os) ps = first_of-append os ps
first_of-append (Some a ∷ os) ps = refl

time_none : (s t l : ℕ) → first_of (time_faults s t l) ≡ None → (t < s) × (l < s)
time_none s t l h = (leb-false s t (when_none (nat_le s t) (late t) (or_left _ _ h)), leb-false s l (when_none (nat_le s l) (out_of_order l) (or_left _ _ (or_right (when (nat_le s t) (late t)) _ h))))

pub change_rises : (h : Header) (cat : Catalogue) (before : List Item) (c : Change) → change_fault h cat before c ≡ None → (checkpoint_of h before < c.ts) × (last_ts (change_key c) before < c.ts)
change_rises h cat before c e = time_none c.ts (checkpoint_of h before) (last_ts (change_key c) before)
    (or_right (first_of (shape_faults h cat c)) _ (sym (first_of-append (shape_faults h cat c) (time_faults c.ts (checkpoint_of h before) (last_ts (change_key c) before))) ∙ e))

-- ---- a list with one item more

pub last_checkpoint-append : (t : ℕ) (items more : List Item) → last_checkpoint t (items ++ more) ≡ last_checkpoint (last_checkpoint t items) more
last_checkpoint-append t [] more = refl
last_checkpoint-append t (header_item h ∷ items) more = last_checkpoint-append t items more
last_checkpoint-append t (change_item c ∷ items) more = last_checkpoint-append t items more
last_checkpoint-append t (checkpoint_item u ∷ items) more = last_checkpoint-append u items more
last_checkpoint-append t (batch_item u cs ∷ items) more = last_checkpoint-append t items more
last_checkpoint-append t (close_item first count ∷ items) more = last_checkpoint-append t items more

pub changes_of-append : (items more : List Item) → changes_of (items ++ more) ≡ changes_of items ++ changes_of more
changes_of-append items more = flat_map-append changes_in items more

windows_change : (items : List Item) (c : Change) → WindowsOf (changes_of items) → last_ts (change_key c) items < c.ts → WindowsOf (changes_of (items ++ change_item c ∷ []))
windows_change items c w rises = subst WindowsOf (sym (changes_of-append items (change_item c ∷ []))) (windows_push (changes_of items) c w rises)

-- the point of a checkpoint and of changes
abbrev point_at : ℕ → List Change → Point
point_at t cs = record { checkpoint = t; greatest = fold (λ t c. max t c.ts) 0 cs; window = window_above t cs }

point_push : (t : ℕ) (cs : List Change) (c : Change) → t < c.ts → point_at t (cs ++ c ∷ []) ≡ with_change (point_at t cs) c
point_push t cs c h = ap₂ (λ (g : ℕ) (w : List (List ℕ × ℕ)). let p : Point = record { checkpoint = t; greatest = g; window = w } in p)
    (fold_push (λ t c. max t c.ts) 0 cs c)
    (window_push t cs c ∙ ap (λ b. cond b (put_key (change_key c) c.ts (window_above t cs)) (window_above t cs)) (lt-ltb t c.ts h))

pub point_of_change : (h : Header) (items : List Item) (c : Change) → checkpoint_of h items < c.ts → point_of h (items ++ change_item c ∷ []) ≡ with_change (point_of h items) c
unfolding point_of
point_of_change h items c e = ap₂ point_at (last_checkpoint-append h.from items (change_item c ∷ [])) (changes_of-append items (change_item c ∷ [])) ∙ point_push (checkpoint_of h items) (changes_of items) c e

-- ---- the tests by the point are those by the list

time_same_by : (s t l w : ℕ) (b d : Bool) → nat_le s t ≡ b → nat_lt t l ≡ d → w ≡ cond d l 0 → option_or (when b (late t)) (first_of (when (nat_le s w) (out_of_order w) ∷ [])) ≡ option_or (when b (late t)) (first_of (when (nat_le s l) (out_of_order l) ∷ []))
time_same_by s t l w true d e f g = refl
time_same_by s t l w false true e f g = ap (λ x. first_of (when (nat_le s x) (out_of_order x) ∷ [])) g
time_same_by s t l w false false e f g = ap (λ b. first_of (when b (out_of_order w) ∷ [])) (lt-leb s w (omega (arith, g, leb-false s t e)))
    ∙ sym (ap (λ b. first_of (when b (out_of_order l) ∷ [])) (lt-leb s l (omega (arith, ltb-false t l f, leb-false s t e))))

time_same : (s t l w : ℕ) → w ≡ cond (nat_lt t l) l 0 → first_of (time_faults s t w) ≡ first_of (time_faults s t l)
time_same s t l w g = time_same_by s t l w (nat_le s t) (nat_lt t l) refl refl g

change_test : (h : Header) (cat : Catalogue) (items : List Item) (c : Change) → WindowsOf (changes_of items) → change_fault_at h cat (point_of h items) c ≡ change_fault h cat items c
unfolding point_of
change_test h cat items c w = first_of-append (shape_faults h cat c) (time_faults c.ts (checkpoint_of h items) (window_ts (change_key c) (window_above (checkpoint_of h items) (changes_of items))))
    ∙ ap (option_or (first_of (shape_faults h cat c))) (time_same c.ts (checkpoint_of h items) (last_ts (change_key c) items) _ (w.tells (checkpoint_of h items) (change_key c)))
    ∙ sym (first_of-append (shape_faults h cat c) (time_faults c.ts (checkpoint_of h items) (last_ts (change_key c) items)))

or_same : {A : Type 0} (o p q : Option A) → (o ≡ None → p ≡ q) → option_or o p ≡ option_or o q
or_same None p q e = e refl
or_same (Some a) p q e = refl

changes_test : (h : Header) (cat : Catalogue) (items : List Item) (cs : List Change) → WindowsOf (changes_of items) → changes_fault_at h cat (point_of h items) cs ≡ changes_fault h cat items cs
changes_test h cat items [] w = refl
changes_test h cat items (c ∷ cs) w = ap (λ o. option_or o (changes_fault_at h cat (with_change (point_of h items) c) cs)) (change_test h cat items c w)
    ∙ or_same (change_fault h cat items c) (changes_fault_at h cat (with_change (point_of h items) c) cs) (changes_fault h cat (items ++ change_item c ∷ []) cs) (λ e. let r = change_rises h cat items c e in
    ap (λ p. changes_fault_at h cat p cs) (sym (point_of_change h items c r.0)) ∙ changes_test h cat (items ++ change_item c ∷ []) cs (windows_change items c w r.1))

item_test : (h : Header) (cat : Catalogue) (items : List Item) (i : Item) → WindowsOf (changes_of items) → item_fault_at h cat (point_of h items) i ≡ item_fault h cat items i
unfolding point_of
item_test h cat items (header_item k) w = refl
item_test h cat items (change_item c) w = change_test h cat items c w
item_test h cat items (checkpoint_item t) w = refl
item_test h cat items (batch_item t cs) w = changes_test h cat items cs w
item_test h cat items (close_item first count) w = refl

-- ---- the changes of a fair list

pub item_fair : (h : Header) (cat : Catalogue) (before : List Item) (i : Item) → breaks h cat before i ≡ None → item_fault h cat before i ≡ None
unfolding breaks
item_fair h cat before i e = or_right (when (is_closed before) after_close) (item_fault h cat before i) e

changes_one : (items : List Item) (i : Item) → changes_of (items ++ i ∷ []) ≡ changes_of items ++ changes_in i
changes_one items i = changes_of-append items (i ∷ []) ∙ ap (λ x. changes_of items ++ x) (append-nil (changes_in i))

changes_windows : (h : Header) (cat : Catalogue) (before : List Item) (cs : List Change) → changes_fault h cat before cs ≡ None → WindowsOf (changes_of before) → WindowsOf (changes_of before ++ cs)
changes_windows h cat before [] e w = subst WindowsOf (sym (append-nil (changes_of before))) w
changes_windows h cat before (c ∷ cs) e w =
    let r = change_rises h cat before c (or_left _ _ e) in
    let d : changes_of (before ++ change_item c ∷ []) ++ cs ≡ changes_of before ++ c ∷ cs = ap (λ x. x ++ cs) (changes_one before (change_item c)) ∙ append_assoc (changes_of before) (c ∷ []) cs in
    subst WindowsOf d (changes_windows h cat (before ++ change_item c ∷ []) cs (or_right (change_fault h cat before c) _ e) (windows_change before c w r.1))

no_changes : (items : List Item) (i : Item) → changes_in i ≡ [] → WindowsOf (changes_of items) → WindowsOf (changes_of items ++ changes_in i)
no_changes items i e w = subst WindowsOf (sym (ap (λ x. changes_of items ++ x) e ∙ append-nil (changes_of items))) w

item_windows : (h : Header) (cat : Catalogue) (before : List Item) (i : Item) → item_fault h cat before i ≡ None → WindowsOf (changes_of before) → WindowsOf (changes_of before ++ changes_in i)
item_windows h cat before (header_item k) e w = no_changes before (header_item k) refl w
item_windows h cat before (change_item c) e w = windows_push (changes_of before) c w (change_rises h cat before c e).1
item_windows h cat before (checkpoint_item t) e w = no_changes before (checkpoint_item t) refl w
item_windows h cat before (batch_item t cs) e w = changes_windows h cat before cs e w
item_windows h cat before (close_item first count) e w = no_changes before (close_item first count) refl w

windows_after : (h : Header) (cat : Catalogue) (before items : List Item) → fair_after h cat before items ≡ true → WindowsOf (changes_of before) → WindowsOf (changes_of (before ++ items))
windows_after h cat before [] f w = subst (λ (x : List Item). WindowsOf (changes_of x)) (sym (append-nil before)) w
windows_after h cat before (i ∷ items) f w =
    let e = item_fair h cat before i (none (breaks h cat before i) (left (is_none (breaks h cat before i)) _ f)) in
    let one : WindowsOf (changes_of (before ++ i ∷ [])) = subst WindowsOf (sym (changes_one before i)) (item_windows h cat before i e w) in
    subst (λ (x : List Item). WindowsOf (changes_of x)) (append_assoc before (i ∷ []) items) (windows_after h cat (before ++ i ∷ []) items (right (is_none (breaks h cat before i)) _ f) one)

pub fair_windows : (h : Header) (cat : Catalogue) (items : List Item) → is_fair h cat items ≡ true → WindowsOf (changes_of items)
fair_windows h cat items f = windows_after h cat [] items f windows_of_none

-- ---- the point after one more item

point_all : (t : ℕ) (cs more : List Change) → AllByRecursion (λ c. t < c.ts) more → point_at t (cs ++ more) ≡ fold with_change (point_at t cs) more
point_all t cs [] a = ap (point_at t) (append-nil cs)
point_all t cs (c ∷ more) a = ap (point_at t) (sym (append_assoc cs (c ∷ []) more)) ∙ point_all t (cs ++ c ∷ []) more a.1 ∙ ap (λ p. fold with_change p more) (point_push t cs c a.0)

pub changes_above : (h : Header) (cat : Catalogue) (before : List Item) (cs : List Change) → changes_fault h cat before cs ≡ None → AllByRecursion (λ c. checkpoint_of h before < c.ts) cs
changes_above h cat before [] e = tt
changes_above h cat before (c ∷ cs) e = (
  (change_rises h cat before c (or_left _ _ e)).0,
  subst (λ (t : ℕ). AllByRecursion (λ c. t < c.ts) cs) (last_checkpoint-append h.from before (change_item c ∷ [])) (changes_above h cat (before ++ change_item c ∷ []) cs (or_right (change_fault h cat before c) _ e)),
)

point_one : (h : Header) (items : List Item) (i : Item) → point_of h (items ++ i ∷ []) ≡ point_at (last_checkpoint (checkpoint_of h items) (i ∷ [])) (changes_of items ++ changes_in i)
unfolding point_of
point_one h items i = ap₂ point_at (last_checkpoint-append h.from items (i ∷ [])) (changes_one items i)

point_next : (h : Header) (cat : Catalogue) (items : List Item) (i : Item) → WindowsOf (changes_of items) → item_fault h cat items i ≡ None
    → point_at (last_checkpoint (checkpoint_of h items) (i ∷ [])) (changes_of items ++ changes_in i) ≡ point_after (point_of h items) i
unfolding point_of
point_next h cat items (header_item k) w e = ap (point_at (checkpoint_of h items)) (append-nil (changes_of items))
point_next h cat items (change_item c) w e = point_push (checkpoint_of h items) (changes_of items) c (change_rises h cat items c e).0
point_next h cat items (checkpoint_item t) w e = ap (point_at t) (append-nil (changes_of items))
    ∙ ap (λ ws. let p : Point = record { checkpoint = t; greatest = greatest_of items; window = ws } in p)
    (sym (w.narrows (checkpoint_of h items) t (ltb-false t (checkpoint_of h items) (when_none (nat_lt t (checkpoint_of h items)) (backward (checkpoint_of h items)) e))))
point_next h cat items (batch_item t cs) w e = point_all (checkpoint_of h items) (changes_of items) cs (changes_above h cat items cs e)
point_next h cat items (close_item first count) w e = ap (point_at (checkpoint_of h items)) (append-nil (changes_of items))

pub point_suffices : PointSuffices
unfolding breaks breaks_at
point_suffices = record {
  test = λ h cat items i f. ap (option_or (when (is_closed items) after_close)) (item_test h cat items i (fair_windows h cat items f));
  next = λ h cat items i f e. point_one h items i ∙ point_next h cat items i (fair_windows h cat items f) (item_fair h cat items i e);
}
