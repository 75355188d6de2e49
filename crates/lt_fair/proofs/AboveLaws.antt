-- The keys above a bound, of a list that also holds others.
use Rattle.std.proofs.Common.{Bool, Less, List, None, Option, Some, [], ap, cond, false, lt-ltb, ltb-true, refl, sym, true, ℕ, ◌++◌, ◌∙◌, ◌∷◌, ◌≡◌}
use Rattle.std.specs.Prelude.{filter, nat_lt, unwrap_or, ◌&&◌}
use Rattle.std.specs.List.{AllByRecursion}
use Rattle.std.specs.List.Sorted.{IsStrictlySortedBy}
use Rattle.std.specs.Ordering.{is_lt}
use Rattle.std.specs.BTreeMap.{insert_entry, is_at}
use Rattle.std.specs.Map.{keys_of, lookup}
use Rattle.std.proofs.lemmas.Cmp.{eq_by_cmp_equiv, nat_list_cmp_total}
use Rattle.std.proofs.lemmas.Map.Entries.{lookup-filter-values, option_filter}
use Rattle.std.proofs.lemmas.Map.Keys.{IsDistinct-from_sorted}
use Rattle.std.proofs.lemmas.List.Elements.{filter-append}
use Rattle.lt_lemmas.proofs.PointLaws.{AllAbove, Ordered, later_high}
use Rattle.lt_terms.specs.Key.{bytes_cmp}
use Rattle.lt_tables.specs.Fair.{put_key, window_ts}
use Rattle.lt_fair.specs.Windows.{is_above, keys_above}
use Rattle.lt_fair.proofs.WindowLaws.{last_found, put_entry}

abbrev Timed : Type 0
Timed = List (List ℕ × ℕ)

abbrev pub AreSorted : Timed → Type 0
AreSorted ws = IsStrictlySortedBy bytes_cmp (keys_of ws)

-- ---- with no bound, and with a bound again

pub above_none : (ws : Timed) → keys_above None ws ≡ ws
above_none [] = refl
above_none (w ∷ ws) = ap (λ (xs : Timed). w ∷ xs) (above_none ws)

again_by : (bound : Option ℕ) (b : Bool) (w : List ℕ × ℕ) (xs : Timed) → is_above bound w.1 ≡ b → keys_above bound xs ≡ xs → keys_above bound (cond b (w ∷ xs) xs) ≡ cond b (w ∷ xs) xs
again_by bound true w xs e ih = ap (λ (b : Bool). cond b (w ∷ keys_above bound xs) (keys_above bound xs)) e ∙ ap (λ (xs : Timed). w ∷ xs) ih
again_by bound false w xs e ih = ih

pub above_again : (bound : Option ℕ) (ws : Timed) → keys_above bound (keys_above bound ws) ≡ keys_above bound ws
above_again bound [] = refl
above_again bound (w ∷ ws) = again_by bound (is_above bound w.1) w (keys_above bound ws) refl (above_again bound ws)

-- ---- with a higher bound

raised_by : (t : ℕ) (a c : Bool) (w : List ℕ × ℕ) (xs ys : Timed) → c ≡ (a && nat_lt t w.1) → xs ≡ filter (λ w. nat_lt t w.1) ys → cond c (w ∷ xs) xs ≡ filter (λ w. nat_lt t w.1) (cond a (w ∷ ys) ys)
raised_by t true c w xs ys e ih = ap (λ (b : Bool). cond b (w ∷ xs) xs) e ∙ ap (λ (xs : Timed). cond (nat_lt t w.1) (w ∷ xs) xs) ih
raised_by t false c w xs ys e ih = ap (λ (b : Bool). cond b (w ∷ xs) xs) e ∙ ih

pub above_raised : (old : Option ℕ) (new t : ℕ) → ((ts : ℕ) → nat_lt new ts ≡ (is_above old ts && nat_lt t ts)) → (ws : Timed) → keys_above (Some new) ws ≡ filter (λ w. nat_lt t w.1) (keys_above old ws)
above_raised old new t h [] = refl
above_raised old new t h (w ∷ ws) = raised_by t (is_above old w.1) (nat_lt new w.1) w (keys_above (Some new) ws) (keys_above old ws) (h w.1) (above_raised old new t h ws)

-- ---- keys in order

all_above : (key : List ℕ) (ws : Timed) → AllByRecursion (λ k. bytes_cmp key k ≡ Less) (keys_of ws) → AllAbove key ws
all_above key [] a = tt
all_above key (w ∷ ws) a = (ap is_lt a.0, all_above key ws a.1)

ordered : (ws : Timed) → AreSorted ws → Ordered ws
unfolding IsStrictlySortedBy
ordered [] s = tt
ordered (w ∷ ws) s = (all_above w.0 ws s.0, ordered ws s.1)

-- a key above the bound is put among those above it
high : (bound : Option ℕ) (key : List ℕ) (ts : ℕ) (ws : Timed) → is_above bound ts ≡ true → AreSorted ws → keys_above bound (put_key key ts ws) ≡ put_key key ts (keys_above bound ws)
high None key ts ws h s = above_none (put_key key ts ws) ∙ ap (put_key key ts) (sym (above_none ws))
high (Some t) key ts ws h s = later_high key t ts ws (ltb-true t ts h) (ordered ws s)

pub put_above : (bound : Option ℕ) (key : List ℕ) (ts : ℕ) (ws new : Timed) → is_above bound ts ≡ true → AreSorted ws → new ≡ insert_entry bytes_cmp ws key ts → keys_above bound new ≡ put_key key ts (keys_above bound ws)
put_above bound key ts ws new h s e = ap (keys_above bound) (e ∙ put_entry key ts ws) ∙ high bound key ts ws h s

-- ---- looking up

same_both : (b : Bool) (n : ℕ) → n ≡ cond b n n
same_both true n = refl
same_both false n = refl

some_by : (b : Bool) (n : ℕ) → unwrap_or (cond b (Some n) None) 0 ≡ cond b n 0
some_by true n = refl
some_by false n = refl

filtered : (p : ℕ → Bool) (o : Option ℕ) → unwrap_or (option_filter p o) 0 ≡ cond (p (unwrap_or o 0)) (unwrap_or o 0) 0
filtered p None = same_both (p 0) 0
filtered p (Some n) = some_by (p n) n

-- a key's timestamp counts where it is above the bound
pub ts_above : (bound : Option ℕ) (key : List ℕ) (ws : Timed) (o : Option ℕ) (last : ℕ) → AreSorted ws → o ≡ lookup (is_at (bytes_cmp key)) ws → last ≡ unwrap_or o 0
    → window_ts key (keys_above bound ws) ≡ cond (is_above bound last) last 0
ts_above bound key ws o last s e l = sym (last_found key (keys_above bound ws))
    ∙ ap (λ (o : Option ℕ). unwrap_or o 0) (lookup-filter-values (eq_by_cmp_equiv nat_list_cmp_total) (is_above bound) key ws (IsDistinct-from_sorted bytes_cmp (keys_of ws) s) ∙ ap (option_filter (is_above bound)) (sym e))
    ∙ filtered (is_above bound) o ∙ ap (λ (n : ℕ). cond (is_above bound n) n 0) (sym l)

-- ---- one more

pub above_more : (bound : Option ℕ) (ws : Timed) (w : List ℕ × ℕ) → keys_above bound ws ++ keys_above bound (w ∷ []) ≡ keys_above bound (ws ++ w ∷ [])
above_more bound ws w = sym (filter-append (λ w. is_above bound w.1) ws (w ∷ []))
