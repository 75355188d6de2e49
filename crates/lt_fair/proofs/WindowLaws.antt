-- The kept keys as a map and as a list.
use Rattle.std.proofs.Common.{Bool, List, None, Option, Ordering, Less, Equal, Greater, Some, [], ap, ap₂, append-nil, append_assoc, arith, cond, drop, false, get_or, inl, inr, length, refl, set, sym, take, true, ℕ, ◌++◌, ◌+◌, ◌<◌, ◌∙◌, ◌∷◌, ◌≡◌, ◌≤◌}
use Rattle.std.specs.Prelude.{insert, slice_get, unwrap_or}
use Rattle.std.specs.List.{AllByRecursion}
use Rattle.std.specs.Option.{option_map_or}
use Rattle.std.specs.Ordering.{is_eq, is_lt, match_ordering, ordering_reverse}
use Rattle.std.specs.BTreeMap.{insert_entry, is_at}
use Rattle.std.specs.Map.{keys_of, lookup}
use Rattle.std.proofs.lemmas.Cmp.{nat_list_cmp_total}
use Rattle.std.proofs.lemmas.Map.Lookups.{exact_bytes}
use Rattle.std.proofs.lemmas.List.{drop-set-lt, drop_all, take-append-drop, take_more, take_more_set}
use Rattle.lt_schema.proofs.Shapes.{drop_got, got_past}
use Rattle.std.proofs.lemmas.Option.{get_or_from_slice_get, slice_get_cases}
use Rattle.lt_terms.specs.Key.{below, bytes_cmp, same_key}
use Rattle.lt_tables.specs.Fair.{put_key, window_ts}
use Rattle.lt_fair.specs.Windows.{AllBelow, IsPutPlace, stands_at}

abbrev Timed : Type 0
Timed = List (List ℕ × ℕ)

-- ---- looking up

found_by : (b : Bool) (t : ℕ) (o : Option ℕ) (n : ℕ) → unwrap_or o 0 ≡ n → unwrap_or (cond b (Some t) o) 0 ≡ cond b t n
found_by true t o n e = refl
found_by false t o n e = e

-- what a map has at a key, or 0
pub last_found : (key : List ℕ) (ws : Timed) → unwrap_or (lookup (is_at (bytes_cmp key)) ws) 0 ≡ window_ts key ws
last_found key [] = refl
last_found key (w ∷ ws) = found_by (same_key key w.0) w.1 (lookup (is_at (bytes_cmp key)) ws) (window_ts key ws) (last_found key ws)

-- ---- putting

put_by : (key : List ℕ) (t : ℕ) (w : List ℕ × ℕ) (ws : Timed) (o : Ordering) → bytes_cmp key w.0 ≡ o → insert_entry bytes_cmp ws key t ≡ put_key key t ws
    → match_ordering o ((key, t) ∷ w ∷ ws) ((w.0, t) ∷ ws) (w ∷ insert_entry bytes_cmp ws key t) ≡ cond (is_lt o) ((key, t) ∷ w ∷ ws) (cond (is_eq o) ((key, t) ∷ ws) (w ∷ put_key key t ws))
put_by key t w ws Less e ih = refl
put_by key t w ws Equal e ih = ap (λ (k : List ℕ). (k, t) ∷ ws) (sym (exact_bytes key w.0 e))
put_by key t w ws Greater e ih = ap (λ ws. w ∷ ws) ih

-- a map's entries after an insertion
pub put_entry : (key : List ℕ) (t : ℕ) (ws : Timed) → insert_entry bytes_cmp ws key t ≡ put_key key t ws
put_entry key t [] = refl
put_entry key t (w ∷ ws) = put_by key t w ws (bytes_cmp key w.0) refl (put_entry key t ws)

pub is_less : (o : Ordering) → is_lt o ≡ true → o ≡ Less
is_less Less h = refl
is_less Equal h = cc
is_less Greater h = cc

is_equal : (o : Ordering) → is_eq o ≡ true → o ≡ Equal
is_equal Less h = cc
is_equal Equal h = refl
is_equal Greater h = cc

is_greater : (o : Ordering) → is_lt o ≡ false → is_eq o ≡ false → o ≡ Greater
is_greater Less h i = cc
is_greater Equal h i = cc
is_greater Greater h i = refl

turned : (a b : List ℕ) (o : Ordering) → bytes_cmp a b ≡ o → bytes_cmp b a ≡ ordering_reverse o
turned a b o e = nat_list_cmp_total.antisymm b a ∙ ap ordering_reverse e

put_cases : (key : List ℕ) (t : ℕ) (w : List ℕ × ℕ) (ws : Timed) (o : Ordering) → bytes_cmp key w.0 ≡ o → put_key key t (w ∷ ws) ≡ cond (is_lt o) ((key, t) ∷ w ∷ ws) (cond (is_eq o) ((key, t) ∷ ws) (w ∷ put_key key t ws))
put_cases key t w ws o e = ap (λ o. cond (is_lt o) ((key, t) ∷ w ∷ ws) (cond (is_eq o) ((key, t) ∷ ws) (w ∷ put_key key t ws))) e

-- behind keys that are below it
pub put_behind : (key : List ℕ) (t : ℕ) (front rest : Timed) → AllBelow key front → put_key key t (front ++ rest) ≡ front ++ put_key key t rest
put_behind key t [] rest a = refl
put_behind key t (w ∷ front) rest a = put_cases key t w (front ++ rest) Greater (turned w.0 key Less (is_less (bytes_cmp w.0 key) a.0)) ∙ ap (λ ws. w ∷ ws) (put_behind key t front rest a.1)

-- at the end
pub put_last : (key : List ℕ) (t : ℕ) (ws : Timed) → AllBelow key ws → put_key key t ws ≡ ws ++ (key, t) ∷ []
put_last key t ws a = ap (put_key key t) (sym (append-nil ws)) ∙ put_behind key t ws [] a

-- before a greater key, and in the place of the same one
pub put_before : (key : List ℕ) (t : ℕ) (w : List ℕ × ℕ) (ws : Timed) → bytes_cmp w.0 key ≡ Greater → put_key key t (w ∷ ws) ≡ (key, t) ∷ w ∷ ws
put_before key t w ws e = put_cases key t w ws Less (turned w.0 key Greater e)

pub put_over : (key : List ℕ) (t : ℕ) (w : List ℕ × ℕ) (ws : Timed) → bytes_cmp w.0 key ≡ Equal → put_key key t (w ∷ ws) ≡ (w.0, t) ∷ ws
put_over key t w ws e = put_cases key t w ws Equal (turned w.0 key Equal e) ∙ ap (λ (k : List ℕ). (k, t) ∷ ws) (sym (exact_bytes w.0 key e))

-- ---- keys below a key

below_by : (a last key : List ℕ) (o : Ordering) → bytes_cmp last a ≡ o → is_lt o ≡ false → bytes_cmp last key ≡ Less → bytes_cmp a key ≡ Less
below_by a last key Less e h l = cc
below_by a last key Equal e h l = ap (λ k. bytes_cmp k key) (sym (exact_bytes last a e)) ∙ l
below_by a last key Greater e h l = nat_list_cmp_total.trans a last key (turned last a Greater e) l

pub below_last : (last key : List ℕ) (ws : Timed) → AllByRecursion (λ q. is_lt (bytes_cmp last q) ≡ false) (keys_of ws) → below last key ≡ true → AllBelow key ws
below_last last key [] a l = tt
below_last last key (w ∷ ws) a l = (ap is_lt (below_by w.0 last key (bytes_cmp last w.0) refl a.0 (is_less (bytes_cmp last key) l)), below_last last key ws a.1 l)

pub below_more : (key : List ℕ) (front : Timed) (w : List ℕ × ℕ) → AllBelow key front → below w.0 key ≡ true → AllBelow key (front ++ w ∷ [])
below_more key [] w a e = (e, tt)
below_more key (v ∷ front) w a e = (a.0, below_more key front w a.1 e)

-- ---- a list with a key put in its place

-- the place is the end
pub place_end : (key : List ℕ) (t : ℕ) (ws : Timed) (at : ℕ) → IsPutPlace key ws at → length ws ≤ at → insert ws at (key, t) ≡ put_key key t ws
place_end key t ws at p h = sym (ap (put_key key t) (sym (take-append-drop at ws)) ∙ put_behind key t (take at ws) (drop at ws) p.before
    ∙ ap (λ rest. take at ws ++ put_key key t rest) (drop_all at ws h) ∙ ap (λ rest. take at ws ++ (key, t) ∷ rest) (sym (drop_all at ws h)))

got_is : {A : Type 0} (xs : List A) (i : ℕ) (d : A) → i < length xs → slice_get xs i ≡ Some (get_or xs i d)
got_is xs i d h = elim (slice_get_cases xs i).1 [ inl f ↦ f.2 ∙ ap Some (sym (get_or_from_slice_get xs i f.0 d f.2)) | inr p ↦ absurd (omega (arith, p.0, h)) ]

set_is : (ws : Timed) (at : ℕ) (w : List ℕ × ℕ) → at < length ws → set ws at w ≡ take at ws ++ w ∷ drop (at + 1) ws
set_is ws at w h = sym (take-append-drop (at + 1) (set ws at w)) ∙ ap₂ (λ (xs ys : Timed). xs ++ ys) (take_more_set ws at w h) (drop-set-lt (at + 1) ws at w (omega arith)) ∙ append_assoc (take at ws) (w ∷ []) (drop (at + 1) ws)

-- at its place the list goes on from there
put_at : (key : List ℕ) (t : ℕ) (ws : Timed) (at : ℕ) → IsPutPlace key ws at → put_key key t ws ≡ take at ws ++ put_key key t (drop at ws)
put_at key t ws at p = ap (put_key key t) (sym (take-append-drop at ws)) ∙ put_behind key t (take at ws) (drop at ws) p.before

place_before : (key : List ℕ) (t : ℕ) (ws : Timed) (at : ℕ) (w : List ℕ × ℕ) → IsPutPlace key ws at → slice_get ws at ≡ Some w → same_key w.0 key ≡ false → insert ws at (key, t) ≡ put_key key t ws
place_before key t ws at w p g ne = let d : drop at ws ≡ w ∷ drop (at + 1) ws = drop_got ws at w g in
    sym (put_at key t ws at p ∙ ap (λ rest. take at ws ++ put_key key t rest) d ∙ ap (λ rest. take at ws ++ rest) (put_before key t w (drop (at + 1) ws) (is_greater (bytes_cmp w.0 key) (p.stops w g) ne))
    ∙ ap (λ rest. take at ws ++ (key, t) ∷ rest) (sym d))

insert_by : (key : List ℕ) (t : ℕ) (ws : Timed) (at : ℕ) (o : Option (List ℕ × ℕ)) → slice_get ws at ≡ o → IsPutPlace key ws at → option_map_or (λ w. same_key w.0 key) o false ≡ false → insert ws at (key, t) ≡ put_key key t ws
insert_by key t ws at None e p f = place_end key t ws at p (got_past ws at e)
insert_by key t ws at (Some w) e p f = place_before key t ws at w p e f

-- another key, or none, stands at the place
pub insert_there : (key : List ℕ) (t : ℕ) (ws : Timed) (at : ℕ) → IsPutPlace key ws at → stands_at key ws at ≡ false → insert ws at (key, t) ≡ put_key key t ws
insert_there key t ws at p f = insert_by key t ws at (slice_get ws at) refl p f

-- the key itself stands at the place
pub set_there : (key : List ℕ) (t : ℕ) (ws : Timed) (at : ℕ) (w : List ℕ × ℕ) → IsPutPlace key ws at → at < length ws → w ≡ get_or ws at w → stands_at key ws at ≡ true → set ws at (w.0, t) ≡ put_key key t ws
set_there key t ws at w p h is f =
    let g : slice_get ws at ≡ Some w = got_is ws at w h ∙ ap Some (sym is) in
    let e : same_key w.0 key ≡ true = ap (λ o. option_map_or (λ w. same_key w.0 key) o false) (sym g) ∙ f in
    set_is ws at (w.0, t) h ∙ sym (put_at key t ws at p ∙ ap (λ rest. take at ws ++ put_key key t rest) (drop_got ws at w g)
    ∙ ap (λ rest. take at ws ++ rest) (put_over key t w (drop (at + 1) ws) (is_equal (bytes_cmp w.0 key) e)))

-- ---- a map that is filled from a list

pub filled_more : (ws es : Timed) (i : ℕ) (w : List ℕ × ℕ) (key : List ℕ) → key ≡ w.0 → i < length ws → w ≡ get_or ws i w → es ≡ take i ws → AllBelow w.0 es → insert_entry bytes_cmp es key w.1 ≡ take (i + 1) ws
filled_more ws es i w key k h is e a = ap (λ k. insert_entry bytes_cmp es k w.1) k ∙ put_entry w.0 w.1 es ∙ put_last w.0 w.1 es a ∙ ap₂ (λ (xs : Timed) (x : List ℕ × ℕ). xs ++ x ∷ []) e is ∙ sym (take_more ws i w h)
