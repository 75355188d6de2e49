-- Entries that are set, and one that is put behind another.
use Rattle.std.proofs.Common.{List, Some, [], add-one, ap, arith, drop, get_or, length, refl, set, subst, suc, sym, take, true, zero, ℕ, ◌+◌, ◌++◌, ◌<◌, ◌∙◌, ◌∷◌, ◌≡◌, ◌≤◌}
use Rattle.std.specs.Prelude.{IsTrue, insert, slice_get, ◌==◌}
use Rattle.std.specs.List.{AllByRecursion}
use Rattle.std.proofs.lemmas.Bool.{and_from, and_parts}
use Rattle.std.proofs.lemmas.List.{length-set, length-take-le}
use Rattle.std.proofs.lemmas.List.Edits.{length-insert}
use Rattle.std.proofs.lemmas.Option.{none-some, same_Some, slice_get_within}
use Rattle.lt_terms.specs.Key.{below, first_bound, is_below_high, rise, tile}
use Rattle.lt_tables.specs.Schema.{change_at}
use Rattle.lt_lemmas.proofs.SplitLaws.{rise_first, rise_rest}
use Rattle.lt_parts.specs.declared.entry.PartEntry.{PartEntry}
use Rattle.lt_parts.specs.Parts.{AreParts, HasKey, IsSplit, lows_of, with_times}
use Rattle.lt_parts.specs.Search.{IsInner}
use Rattle.lt_parts.proofs.Ranges.{first_is, high_at, key_between}

-- ---- times that are set

abbrev pub timed : PartEntry → ℕ → ℕ → PartEntry
timed e resume checkpoint = record { low = e.low; resume = resume; checkpoint = checkpoint }

pub set_is : (es : List PartEntry) (n resume checkpoint : ℕ) (e : PartEntry) → n < length es → e ≡ get_or es n e → set es n (timed e resume checkpoint) ≡ change_at (with_times resume checkpoint) n es
set_is [] n resume checkpoint e l is = absurd (omega arith)
set_is (x ∷ es) zero resume checkpoint e l is = ap (λ (y : PartEntry). timed y resume checkpoint ∷ es) is
set_is (x ∷ es) (suc n) resume checkpoint e l is = ap (λ (ys : List PartEntry). x ∷ ys) (set_is es n resume checkpoint e (omega (arith, l)) is)

lows_set : (es : List PartEntry) (n : ℕ) (e y : PartEntry) → e ≡ get_or es n e → y.low ≡ e.low → lows_of (set es n y) ≡ lows_of es
lows_set [] n e y is low = refl
lows_set (x ∷ es) zero e y is low = ap (λ (k : List ℕ). k ∷ lows_of es) (low ∙ ap (λ (z : PartEntry). z.low) is)
lows_set (x ∷ es) (suc n) e y is low = ap (λ (ks : List (List ℕ)). x.low ∷ ks) (lows_set es n e y is low)

abbrev InTime : PartEntry → Type 0
InTime e = e.resume ≤ e.checkpoint

all_set : (es : List PartEntry) (n : ℕ) (y : PartEntry) → AllByRecursion InTime es → InTime y → AllByRecursion InTime (set es n y)
all_set [] n y a h = tt
all_set (x ∷ es) zero y a h = (h, a.1)
all_set (x ∷ es) (suc n) y a h = (a.0, all_set es n y a.1 h)

pub set_parts : (es : List PartEntry) (n resume checkpoint : ℕ) (e : PartEntry) → AreParts es → e ≡ get_or es n e → resume ≤ checkpoint → AreParts (set es n (timed e resume checkpoint))
set_parts es n resume checkpoint e p is h =
    let few = p.few in record {
      tiled = subst (λ (ks : List (List ℕ)). IsTrue (tile ks)) (sym (lows_set es n e (timed e resume checkpoint) is refl)) p.tiled;
      few = omega (arith, few, length-set es n (timed e resume checkpoint));
      times = all_set es n (timed e resume checkpoint) p.times h;
    }

-- ---- an entry behind another

rise_cons : (k : List ℕ) (ks : List (List ℕ)) → ((m : List ℕ) → first_bound ks ≡ Some m → below k m ≡ true) → IsTrue (rise ks) → IsTrue (rise (k ∷ ks))
rise_cons k [] f r = refl
rise_cons k (m ∷ ks) f r = and_from _ _ (f m refl) r

first_stays : (es : List PartEntry) (n : ℕ) (e y : PartEntry) → slice_get es n ≡ Some e → first_bound (lows_of (insert es (suc n) y)) ≡ first_bound (lows_of es)
first_stays [] n e y h = absurd (none-some e h)
first_stays (x ∷ es) n e y h = refl

rise_insert : (es : List PartEntry) (n : ℕ) (e y : PartEntry) → slice_get es n ≡ Some e → below e.low y.low ≡ true → is_below_high y.low (high_at es n) ≡ true → IsTrue (rise (lows_of es)) → IsTrue (rise (lows_of (insert es (suc n) y)))
rise_insert [] n e y h b u r = absurd (none-some e h)
rise_insert (x ∷ es) zero e y h b u r = and_from _ _ (subst (λ (z : PartEntry). below z.low y.low ≡ true) (sym (same_Some x e h)) b)
    (rise_cons y.low (lows_of es) (λ k f. ap (is_below_high y.low) (sym f ∙ first_is es) ∙ u) (rise_rest x.low (lows_of es) r))
rise_insert (x ∷ es) (suc n) e y h b u r = rise_cons x.low (lows_of (insert es (suc n) y)) (λ k f. rise_first x.low k (lows_of es) r (sym (first_stays es n e y h) ∙ f)) (rise_insert es n e y h b u (rise_rest x.low (lows_of es) r))

tile_insert : (es : List PartEntry) (n : ℕ) (e y : PartEntry) → slice_get es n ≡ Some e → below e.low y.low ≡ true → is_below_high y.low (high_at es n) ≡ true → IsTrue (tile (lows_of es)) → IsTrue (tile (lows_of (insert es (suc n) y)))
tile_insert [] n e y h b u t = absurd (none-some e h)
tile_insert (x ∷ es) n e y h b u t = let p = and_parts (length x.low == 0) (rise (lows_of (x ∷ es))) t in and_from _ _ p.0 (rise_insert (x ∷ es) n e y h b u p.1)

all_insert : (es : List PartEntry) (n : ℕ) (y : PartEntry) → AllByRecursion InTime es → InTime y → AllByRecursion InTime (insert es n y)
all_insert [] zero y a h = (h, tt)
all_insert [] (suc n) y a h = (h, tt)
all_insert (x ∷ es) zero y a h = (h, a)
all_insert (x ∷ es) (suc n) y a h = (a.0, all_insert es n y a.1 h)

time_at : (es : List PartEntry) (n : ℕ) (e : PartEntry) → AllByRecursion InTime es → slice_get es n ≡ Some e → InTime e
time_at [] n e a h = absurd (none-some e h)
time_at (x ∷ es) zero e a h = subst InTime (same_Some x e h) a.0
time_at (x ∷ es) (suc n) e a h = time_at es n e a.1 h

abbrev pub upper : PartEntry → List ℕ → PartEntry
upper e key = record { low = key; resume = e.resume; checkpoint = e.checkpoint }

split_parts : (es : List PartEntry) (key : List ℕ) (n : ℕ) (i : IsInner es key n) → AreParts es → AreParts (insert es (suc n) (upper i.entry key))
split_parts es key n i p =
    let e = i.entry in
    let z = key_between es key n i.has in
    let few = i.few in
    let l : n < length es = slice_get_within es n e i.here in record {
      tiled = tile_insert es n e (upper e key) i.here i.inside z.3 p.tiled;
      few = omega (arith, few, length-insert es (suc n) (upper e key) (omega (arith, l)));
      times = all_insert es (suc n) (upper e key) p.times (time_at es n e p.times i.here);
    }

front_of : (es : List PartEntry) (n : ℕ) (e : PartEntry) → slice_get es n ≡ Some e → es ≡ take n es ++ e ∷ drop (suc n) es
front_of [] n e h = absurd (none-some e h)
front_of (x ∷ es) zero e h = ap (λ (z : PartEntry). z ∷ es) (same_Some x e h)
front_of (x ∷ es) (suc n) e h = ap (λ (zs : List PartEntry). x ∷ zs) (front_of es n e h)

behind : (es : List PartEntry) (n : ℕ) (e y : PartEntry) → slice_get es n ≡ Some e → insert es (suc n) y ≡ take n es ++ e ∷ y ∷ drop (suc n) es
behind [] n e y h = absurd (none-some e h)
behind (x ∷ es) zero e y h = ap (λ (z : PartEntry). z ∷ y ∷ es) (same_Some x e h)
behind (x ∷ es) (suc n) e y h = ap (λ (zs : List PartEntry). x ∷ zs) (behind es n e y h)

split_is : (es : List PartEntry) (key : List ℕ) (n : ℕ) (i : IsInner es key n) → IsSplit es key (insert es (suc n) (upper i.entry key)) (n + 1)
split_is es key n i =
    let l : n < length es = slice_get_within es n i.entry i.here in
    let count : length (take n es) ≡ n = length-take-le n es (omega (arith, l)) in record {
      before = take n es;
      lower = i.entry;
      after = drop (suc n) es;
      were = front_of es n i.entry i.here;
      are = behind es n i.entry (upper i.entry key) i.here;
      has = subst (HasKey es key) (sym count) i.has;
      counted = omega (arith, count);
    }

-- the same with the list that an insertion left, and the entry that was read
pub parts_left : (es new : List PartEntry) (key : List ℕ) (n : ℕ) (e : PartEntry) → IsInner es key n → AreParts es → slice_get es n ≡ Some e → new ≡ insert es (n + 1) (upper e key) → AreParts new
parts_left es new key n e i p h is =
    let s : i.entry ≡ e = same_Some i.entry e (sym i.here ∙ h) in
    subst AreParts (ap (λ (k : ℕ). insert es k (upper i.entry key)) (sym (add-one n)) ∙ ap (λ (x : PartEntry). insert es (n + 1) (upper x key)) s ∙ sym is) (split_parts es key n i p)

pub split_left : (es new : List PartEntry) (key : List ℕ) (n : ℕ) (e : PartEntry) → IsInner es key n → slice_get es n ≡ Some e → new ≡ insert es (n + 1) (upper e key) → IsSplit es key new (n + 1)
split_left es new key n e i h is =
    let s : i.entry ≡ e = same_Some i.entry e (sym i.here ∙ h) in
    subst (λ (l : List PartEntry). IsSplit es key l (n + 1)) (ap (λ (k : ℕ). insert es k (upper i.entry key)) (sym (add-one n)) ∙ ap (λ (x : PartEntry). insert es (n + 1) (upper x key)) s ∙ sym is) (split_is es key n i)
