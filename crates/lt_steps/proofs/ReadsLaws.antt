-- What a session holds in memory, gone over partition by partition, answers in the window as the source does, where nothing is on the shelf.
use Rattle.std.proofs.Common.{Bool, List, [], ap, append-nil, arith, cond, eqb-true, false, fold, inl, inr, le-leb, le-ltb, leb-true, lt-ltb, ltb-true, refl, reverse, subst, suc, sym, true, zero, ℕ, ◌++◌, ◌<◌, ◌∙◌, ◌∷◌, ◌≡◌, ◌≤◌}
use Rattle.std.specs.Prelude.{Contains, IsTrue, None, Option, Some, filter, flat_map, map, nat_le, nat_lt, option_and_then, zip, ◌&&◌, ◌==◌, ◌||◌, ◌⊎◌}
use Rattle.std.specs.Int.{to_be_bytes, w32}
use Rattle.std.specs.List.{AllByRecursion, list_any}
use Rattle.std.specs.Option.{option_map_or}
use Rattle.std.proofs.lemmas.Bool.{and_from, and_parts, false≢true, lt-leb, or_cases}
use Rattle.std.proofs.lemmas.List.{reverse-append, take_at}
use Rattle.std.proofs.lemmas.List.Elements.{filter-append}
use Rattle.lt_terms.specs.Value.{rises_above, rises_strictly}
use Rattle.lt_terms.specs.Key.{KeyPart, Range, below, in_range, key_bytes, meets, part_bytes, same_key, tile}
use Rattle.lt_terms.specs.Conversion.{same_bytes}
use Rattle.lt_tables.specs.Schema.{Catalogue, Table, registered, table_numbered}
use Rattle.lt_terms.specs.Log.{Change, Header, Item, change_key, u32}
use Rattle.lt_world.specs.Feed.{Feed}
use Rattle.lt_tables.specs.Fair.{changes_to, has_change_shape}
use Rattle.lt_tables.specs.Row.{Row, after_change, changes_up_to, is_in_time, row_after, row_at}
use Rattle.lt_storage.specs.Bundle.{has_table}
use Rattle.lt_tables.specs.Row.{IsKeyed}
use Rattle.lt_machine.specs.Machine.{State, cat_of, checkpoint_at, checkpoints_meeting, first_below, least, query_interval, ranges_of}
use Rattle.lt_tables.specs.Pump.{is_deliverable, name_of}
use Rattle.lt_machine.specs.Sound.{Memory}
use Rattle.lt_machine.specs.Sound.{IsGood, PendingOf, PendingOfAll, SoundPart, SoundParts, passed, source_of, up_to_ts}
use Rattle.lt_tables.specs.Pump.{Part}
use Rattle.lt_storage.specs.Store.{Delta, Durable, carried_versions, deltas_of, stored}
use Rattle.lt_tables.specs.Version.{RowVersion, clip, effect_of, is_ordered, merge, seen}
use Rattle.lt_laws.proofs.AnswerLaws.{IsSound, sound_from}
use Rattle.lt_lemmas.proofs.ConversionLemmas.{same_bytes-self}
use Rattle.lt_laws.proofs.FairLaws.{none_to}
use Rattle.lt_laws.proofs.HeldLaws.{once, rises_tail}
use Rattle.lt_codecs.proofs.ListFacts.{all_append, all_map, none_mapped}
use Rattle.lt_lemmas.proofs.ListFacts.{all_from}
use Rattle.lt_laws.proofs.ListFacts.{all_at, contains_cons, contains_front, contains_rest, from_map, held_either, held_one, in_map}
use Rattle.lt_lemmas.proofs.MergeLaws.{Above, ordered-above, ordered-tail}
use Rattle.lt_lemmas.proofs.PointLaws.{itself, same}
use Rattle.lt_lemmas.proofs.PumpLaws.{Name, as_version, as_versions}
use Rattle.lt_lemmas.proofs.RangeLaws.{IsOutOf, IsSole, tile_sole}
use Rattle.lt_laws.proofs.RangeLaws.{source_in_time}
use Rattle.lt_lemmas.proofs.RowLemmas.{reads_in_order, rises_filtered}
use Rattle.lt_laws.proofs.ScanLaws.{IsPassed, in_a_part, passed_all, safe_parts, tiles_of}
use Rattle.lt_laws.proofs.ScanLemmas.{from-filter, in-filter}
use Rattle.lt_lemmas.proofs.SnapshotLaws.{apart, no_row, or_rest}
use Rattle.lt_laws.proofs.SnapshotLaws.{answer_by_rows}
use Rattle.lt_lemmas.proofs.SoundLaws.{meets-by, pick}
use Rattle.lt_laws.proofs.SoundLaws.{le-false, le-true, least-all, max-other}
use Rattle.lt_laws.proofs.TakenLaws.{change_shaped, source_keyed}
use Rattle.lt_lemmas.proofs.VersionGrowth.{its_number}
use Rattle.lt_laws.proofs.WidenedRows.{sound_shape}
use Rattle.lt_steps.specs.Memory.{MemoryReads, gone_over}

-- ---- with nothing on the shelf nothing is stored

none_of : (ids : List ℕ) → deltas_of [] ids ≡ []
none_of [] = refl
none_of (i ∷ ids) = none_of ids

none_stored : (d : Durable) (p : Part) (r : Range) (table : ℕ) → d.shelf ≡ [] → stored d p r table ≡ []
unfolding merge
none_stored d p r table e = ap (λ (shelf : List Delta). clip r (merge (map (carried_versions d.catalogue table) (deltas_of shelf p.ids)))) e
    ∙ ap (λ (ds : List Delta). clip r (merge (map (carried_versions d.catalogue table) ds))) (none_of p.ids)

not_in_none : {A : Type 0} (xs : List A) (x : A) → xs ≡ [] → Contains xs x → ⊥
not_in_none xs x e h = let k : Contains [] x = subst (λ ys. Contains ys x) e h in absurd (omega (arith, k.1))

-- ---- lists from behind

in_reverse : {A : Type 0} (xs : List A) (x : A) → Contains xs x → Contains (reverse xs) x
in_reverse [] x h = h
in_reverse (y ∷ xs) x (zero, l, e) = subst (λ ys. Contains ys x) (sym (reverse-append (y ∷ []) xs)) (contains_rest (reverse xs) (y ∷ []) x (zero, omega arith, e))
in_reverse (y ∷ xs) x (suc k, l, e) = subst (λ ys. Contains ys x) (sym (reverse-append (y ∷ []) xs)) (contains_front (reverse xs) (y ∷ []) x (in_reverse xs x (k, omega (arith, l), e)))

from_reverse : {A : Type 0} (xs : List A) (x : A) → Contains (reverse xs) x → Contains xs x
from_reverse [] x h = h
from_reverse (y ∷ xs) x h = elim (held_either (reverse xs) (y ∷ []) x (subst (λ ys. Contains ys x) (reverse-append (y ∷ []) xs) h)) [
  | inl a ↦ contains_cons y xs x (from_reverse xs x a)
  | inr b ↦ (zero, omega arith, held_one y x b)
]

all_back : {A : Type 0} (P : A → Type 0) (xs : List A) → AllByRecursion P xs → AllByRecursion P (reverse xs)
all_back P xs a = all_from P (reverse xs) (λ x h. all_at P xs x a (from_reverse xs x h))

all_over : (P : Change → Type 0) (mem : Memory) → AllByRecursion (AllByRecursion P) mem → AllByRecursion P (gone_over mem)
all_over P [] a = tt
all_over P (cs ∷ mem) a = all_append P (reverse cs) (gone_over mem) (all_back P cs a.0) (all_over P mem a.1)

-- ---- lists of changes that rise by timestamp

abbrev times : List Change → List ℕ
times cs = map (λ c. c.ts) cs

later : (low : ℕ) (cs : List Change) → IsTrue (rises_above low (times cs)) → (c : Change) → Contains cs c → low < c.ts
later low [] r c h = absurd (omega (arith, h.1))
later low (d ∷ cs) r c (zero, l, e) = let p = and_parts (nat_lt low d.ts) (rises_above d.ts (times cs)) r in subst (λ (x : Change). low < x.ts) e (ltb-true low d.ts p.0)
later low (d ∷ cs) r c (suc k, l, e) =
    let p = and_parts (nat_lt low d.ts) (rises_above d.ts (times cs)) r in
    let h : d.ts < c.ts = later d.ts cs p.1 c (k, omega (arith, l), e) in
    let m : low < d.ts = ltb-true low d.ts p.0 in omega (arith, h, m)

-- at the end a later one rises too
rises_on : (low : ℕ) (cs : List Change) (c : Change) → IsTrue (rises_above low (times cs)) → AllByRecursion (λ d. d.ts < c.ts) cs → low < c.ts → IsTrue (rises_above low (times (cs ++ c ∷ [])))
rises_on low [] c r a l = and_from (nat_lt low c.ts) true (lt-ltb low c.ts l) refl
rises_on low (d ∷ cs) c r a l = let p = and_parts (nat_lt low d.ts) (rises_above d.ts (times cs)) r in and_from (nat_lt low d.ts) _ p.0 (rises_on d.ts cs c p.1 a.1 a.0)

rises_to : (cs : List Change) (c : Change) → IsTrue (rises_strictly (times cs)) → AllByRecursion (λ d. d.ts < c.ts) cs → IsTrue (rises_strictly (times (cs ++ c ∷ [])))
rises_to [] c r a = refl
rises_to (d ∷ cs) c r a = rises_on d.ts cs c r a.1 a.0

-- what is left of them rises
rises_left_by : (p : Change → Bool) (low : ℕ) (c : Change) (cs : List Change) (b : Bool) → IsTrue (nat_lt low c.ts) → IsTrue (rises_above c.ts (times (filter p cs))) → IsTrue (rises_above low (times (filter p cs)))
    → IsTrue (rises_above low (times (cond b (c ∷ filter p cs) (filter p cs))))
rises_left_by p low c cs true l r s = and_from (nat_lt low c.ts) _ l r
rises_left_by p low c cs false l r s = s

rises_lower : (low high : ℕ) (cs : List Change) → low < high → IsTrue (rises_above high (times cs)) → IsTrue (rises_above low (times cs))
rises_lower low high [] l r = refl
rises_lower low high (c ∷ cs) l r =
    let p = and_parts (nat_lt high c.ts) (rises_above c.ts (times cs)) r in
    let h : high < c.ts = ltb-true high c.ts p.0 in and_from (nat_lt low c.ts) _ (lt-ltb low c.ts (omega (arith, l, h))) p.1

left_by : (p : Change → Bool) (c : Change) (cs : List Change) (b : Bool) → IsTrue (rises_above c.ts (times (filter p cs))) → IsTrue (rises_strictly (times (cond b (c ∷ filter p cs) (filter p cs))))
left_by p c cs true r = r
left_by p c cs false r = rises_tail c.ts (times (filter p cs)) r

some_rise : (p : Change → Bool) (cs : List Change) → IsTrue (rises_strictly (times cs)) → IsTrue (rises_strictly (times (filter p cs)))
some_rise p [] r = refl
some_rise p (c ∷ cs) r = left_by p c cs (p c) (rises_filtered p c.ts cs r)

in_cases : (d : Change) (cs : List Change) (c : Change) → Contains (d ∷ cs) c → (d ≡ c) ⊎ Contains cs c
in_cases d cs c (zero, l, e) = inl e
in_cases d cs c (suc k, l, e) = inr (k, omega (arith, l), e)

-- two that rise are one list where each has what the other has
first_alike : (x y : Change) (xs ys : List Change) → IsTrue (rises_above x.ts (times xs)) → IsTrue (rises_above y.ts (times ys)) → Contains (y ∷ ys) x → Contains (x ∷ xs) y → x ≡ y
first_alike x y xs ys r s h i = elim (in_cases y ys x h) [
  | inl e ↦ sym e
  | inr a ↦ elim (in_cases x xs y i) [ inl e ↦ e | inr b ↦ (let l : y.ts < x.ts = later y.ts ys s x a in let m : x.ts < y.ts = later x.ts xs r y b in absurd (omega (arith, l, m))) ]
]

rest_within : (x y c : Change) (xs ys : List Change) → x ≡ y → IsTrue (rises_above x.ts (times xs)) → Contains xs c → Contains (y ∷ ys) c → Contains ys c
rest_within x y c xs ys e r h i = elim (in_cases y ys c i) [
  | inl d ↦ (let l : x.ts < c.ts = later x.ts xs r c h in let t : x.ts ≡ c.ts = ap (λ (z : Change). z.ts) (e ∙ d) in absurd (omega (arith, l, t)))
  | inr k ↦ k
]

alike : (xs ys : List Change) → IsTrue (rises_strictly (times xs)) → IsTrue (rises_strictly (times ys)) → ((c : Change) → Contains xs c → Contains ys c) → ((c : Change) → Contains ys c → Contains xs c) → xs ≡ ys
alike [] [] r s f g = refl
alike [] (y ∷ ys) r s f g = let h = g y (zero, omega arith, refl) in absurd (omega (arith, h.1))
alike (x ∷ xs) [] r s f g = let h = f x (zero, omega arith, refl) in absurd (omega (arith, h.1))
alike (x ∷ xs) (y ∷ ys) r s f g =
    let e : x ≡ y = first_alike x y xs ys r s (f x (zero, omega arith, refl)) (g y (zero, omega arith, refl)) in
    ap (λ (z : Change). z ∷ xs) e ∙ ap (λ (zs : List Change). y ∷ zs) (alike xs ys (rises_tail x.ts (times xs) r) (rises_tail y.ts (times ys) s)
    (λ c h. rest_within x y c xs ys e r h (f c (contains_cons x xs c h))) (λ c h. rest_within y x c ys xs (sym e) s h (g c (contains_cons y ys c h))))

-- ---- a row that is absent at a moment is made by what comes after

abbrev is_between : ℕ → ℕ → Change → Bool
is_between m t c = nat_lt m c.ts && nat_le c.ts t

none_early : (m : ℕ) (cs : List Change) → AllByRecursion (λ c. m < c.ts) cs → filter (λ c. nat_le c.ts m) cs ≡ []
none_early m [] a = refl
none_early m (c ∷ cs) a = ap (λ (b : Bool). cond b (c ∷ filter (λ c. nat_le c.ts m) cs) (filter (λ c. nat_le c.ts m) cs)) (lt-leb c.ts m a.0) ∙ none_early m cs a.1

all_late : (m t : ℕ) (cs : List Change) → AllByRecursion (λ c. m < c.ts) cs → filter (λ c. nat_le c.ts t) cs ≡ filter (is_between m t) cs
all_late m t [] a = refl
all_late m t (c ∷ cs) a =
    ap (λ (xs : List Change). cond (nat_le c.ts t) (c ∷ xs) xs) (all_late m t cs a.1)
    ∙ ap (λ (b : Bool). cond (b && nat_le c.ts t) (c ∷ filter (is_between m t) cs) (filter (is_between m t) cs)) (sym (lt-ltb m c.ts a.0))

late_rows : (m t : ℕ) (row : Row) (cs : List Change) → AllByRecursion (λ c. m < c.ts) cs → fold after_change row (filter (λ c. nat_le c.ts m) cs) ≡ None → fold after_change row (filter (λ c. nat_le c.ts t) cs) ≡ fold after_change None (filter (is_between m t) cs)
late_rows m t row cs a e =
    let none : row ≡ None = ap (λ (xs : List Change). fold after_change row xs) (sym (none_early m cs a)) ∙ e in
    ap (λ (x : Row). fold after_change x (filter (λ c. nat_le c.ts t) cs)) none ∙ ap (λ (xs : List Change). fold after_change None xs) (all_late m t cs a)

early_row : (m t : ℕ) (row : Row) (c : Change) (cs : List Change) → c.ts ≤ m → m ≤ t → fold after_change (after_change row c) (filter (λ c. nat_le c.ts t) cs) ≡ fold after_change None (filter (is_between m t) cs)
    → fold after_change row (filter (λ c. nat_le c.ts t) (c ∷ cs)) ≡ fold after_change None (filter (is_between m t) (c ∷ cs))
early_row m t row c cs l n e =
    ap (λ (b : Bool). fold after_change row (cond b (c ∷ filter (λ c. nat_le c.ts t) cs) (filter (λ c. nat_le c.ts t) cs))) (le-leb c.ts t (omega (arith, l, n)))
    ∙ e ∙ ap (λ (b : Bool). fold after_change None (cond (b && nat_le c.ts t) (c ∷ filter (is_between m t) cs) (filter (is_between m t) cs))) (sym (le-ltb m c.ts l))

rows_after : (m t : ℕ) (row : Row) (cs : List Change) → m ≤ t → IsTrue (rises_strictly (times cs)) → fold after_change row (filter (λ c. nat_le c.ts m) cs) ≡ None → fold after_change row (filter (λ c. nat_le c.ts t) cs) ≡ fold after_change None (filter (is_between m t) cs)
rows_after m t row [] n r e = e
rows_after m t row (c ∷ cs) n r e = pick (nat_le c.ts m)
    (λ h. early_row m t row c cs (le-true c.ts m h) n
    (rows_after m t (after_change row c) cs n (rises_tail c.ts (times cs) r) (ap (λ (b : Bool). fold after_change row (cond b (c ∷ filter (λ c. nat_le c.ts m) cs) (filter (λ c. nat_le c.ts m) cs))) (sym h) ∙ e)))
    (λ h. let l : m < c.ts = le-false c.ts m h in late_rows m t row (c ∷ cs) (l, all_from (λ d. m < d.ts) cs (λ d i. let k : c.ts < d.ts = later c.ts cs r d i in omega (arith, l, k))) e)

-- ---- a key's changes in memory, from behind, rise

falls_by : (key : List ℕ) (c d : Change) → below (change_key c) (change_key d) || (same_key (change_key c) (change_key d) && nat_lt d.ts c.ts) ≡ true → change_key c ≡ key → change_key d ≡ key → d.ts < c.ts
falls_by key c d h e f = elim (or_cases (below (change_key c) (change_key d)) _ h) [
  | inl b ↦ (let x : same_key (change_key c) (change_key d) ≡ true = ap (same_key (change_key c)) (f ∙ sym e) ∙ itself (change_key c) in absurd (false≢true (sym (apart (change_key c) (change_key d) b) ∙ x)))
  | inr s ↦ ltb-true d.ts c.ts (and_parts (same_key (change_key c) (change_key d)) (nat_lt d.ts c.ts) s).1
]

abbrev of_names : List Change → List RowVersion
of_names cs = map as_version (map name_of cs)

above_in : (c : Change) (cs : List Change) (d : Change) → Above (as_version (name_of c)) (of_names cs) → Contains cs d → below (change_key c) (change_key d) || (same_key (change_key c) (change_key d) && nat_lt d.ts c.ts) ≡ true
above_in c [] d a h = absurd (omega (arith, h.1))
above_in c (x ∷ cs) d a (zero, l, e) = subst (λ (y : Change). below (change_key c) (change_key y) || (same_key (change_key c) (change_key y) && nat_lt y.ts c.ts) ≡ true) e a.0
above_in c (x ∷ cs) d a (suc k, l, e) = above_in c cs d a.1 (k, omega (arith, l), e)

back_by : (key : List ℕ) (c : Change) (cs : List Change) (b : Bool) → same_key (change_key c) key ≡ b → IsTrue (is_ordered (of_names (c ∷ cs))) → IsTrue (rises_strictly (times (changes_to key (reverse cs))))
    → IsTrue (rises_strictly (times (changes_to key (reverse cs) ++ cond b (c ∷ []) [])))
back_by key c cs false e o r = subst (λ (xs : List Change). IsTrue (rises_strictly (times xs))) (sym (append-nil (changes_to key (reverse cs)))) r
back_by key c cs true e o r = rises_to (changes_to key (reverse cs)) c r (all_from (λ d. d.ts < c.ts) (changes_to key (reverse cs)) (λ d h.
    let f = from-filter (λ (x : Change). same_key (change_key x) key) (reverse cs) d h in
    falls_by key c d (above_in c cs d (ordered-above (as_version (name_of c)) (of_names cs) o) (from_reverse cs d f.0)) (same (change_key c) key e) (same (change_key d) key f.1)))

rise_back : (key : List ℕ) (cs : List Change) → IsTrue (is_ordered (of_names cs)) → IsTrue (rises_strictly (times (changes_to key (reverse cs))))
rise_back key [] o = refl
rise_back key (c ∷ cs) o = subst (λ (xs : List Change). IsTrue (rises_strictly (times xs)))
    (sym (ap (changes_to key) (reverse-append (c ∷ []) cs) ∙ filter-append (λ (x : Change). same_key (change_key x) key) (reverse cs) (c ∷ [])))
    (back_by key c cs (same_key (change_key c) key) refl o (rise_back key cs (ordered-tail (as_version (name_of c)) (of_names cs) o)))

-- ---- the partition of a key

abbrev names_of : Memory → List (List Name)
names_of mem = map (λ cs. map name_of cs) mem

-- what is held in a partition lies in its range, above where it is durable
held_there : (cat : Catalogue) (d : Durable) (cs : List Change) (p : Part) (r : Range) (held : List Change) → PendingOf cat d cs p r (map name_of held) → (c : Change) → Contains held c → (in_range (change_key c) r ≡ true) × (p.resume < c.ts)
held_there cat d cs p r held pending c h =
    let g = pending.are_changes (name_of c) (in_map name_of held c h) in
    let n = and_parts (same_key (change_key g.0) (change_key c)) (g.0.ts == c.ts) g.2 in
    (ap (λ (k : List ℕ). in_range k r) (sym (same (change_key g.0) (change_key c) n.0)) ∙ g.3, subst (λ (t : ℕ). p.resume < t) (eqb-true g.0.ts c.ts n.1) g.4)

none_here : (cat : Catalogue) (d : Durable) (cs : List Change) (key : List ℕ) (p : Part) (r : Range) (held : List Change) → PendingOf cat d cs p r (map name_of held) → in_range key r ≡ false → changes_to key (reverse held) ≡ []
none_here cat d cs key p r held pending out = none_to key r (reverse held) out (all_back (λ c. in_range (change_key c) r ≡ true) held (all_from (λ c. in_range (change_key c) r ≡ true) held (λ c h. (held_there cat d cs p r held pending c h).0)))

none_behind : (cat : Catalogue) (d : Durable) (cs : List Change) (key : List ℕ) (ps : List Part) (rs : List Range) (mem : Memory) → PendingOfAll cat d cs ps rs (names_of mem) → IsOutOf key rs → changes_to key (gone_over mem) ≡ []
none_behind cat d cs key [] rs [] a o = refl
none_behind cat d cs key [] rs (m ∷ mem) a o = absurd a
none_behind cat d cs key (p ∷ ps) [] mem a o = absurd a
none_behind cat d cs key (p ∷ ps) (r ∷ rs) [] a o = absurd a
none_behind cat d cs key (p ∷ ps) (r ∷ rs) (m ∷ mem) a o = filter-append (λ (x : Change). same_key (change_key x) key) (reverse m) (gone_over mem)
    ∙ ap (λ (xs : List Change). xs ++ changes_to key (gone_over mem)) (none_here cat d cs key p r m a.0 o.0) ∙ none_behind cat d cs key ps rs mem a.1 o.1

-- the partition that the key lies in, with what is held there: it alone has changes of the key
record PartWith (fs : List (Header × List Item)) (s : State) (cs : List Change) (key : List ℕ) (mem : Memory) (ps : List (Part × Range)) : Type 0 where
  part : Part
  range : Range
  held : List Change
  listed : Contains ps (part, range)
  sound : SoundPart s.durable fs part range
  pending : PendingOf (cat_of s) s.durable cs part range (map name_of held)
  known : AllByRecursion (Contains (source_of fs)) held
  within : in_range key range ≡ true
  alone : changes_to key (gone_over mem) ≡ changes_to key (reverse held)

part_here : (fs : List (Header × List Item)) (s : State) (cs : List Change) (key : List ℕ) (p : Part) (r : Range) (m : List Change) (ps : List Part) (rs : List Range) (mem : Memory) → SoundPart s.durable fs p r → PendingOf (cat_of s) s.durable cs p r (map name_of m)
    → AllByRecursion (Contains (source_of fs)) m → PendingOfAll (cat_of s) s.durable cs ps rs (names_of mem) → IsOutOf key rs → in_range key r ≡ true → PartWith fs s cs key (m ∷ mem) ((p, r) ∷ zip ps rs)
part_here fs s cs key p r m ps rs mem sound pending known behind o e = record {
  part = p;
  range = r;
  held = m;
  listed = (zero, omega arith, refl);
  sound = sound;
  pending = pending;
  known = known;
  within = e;
  alone = filter-append (λ (x : Change). same_key (change_key x) key) (reverse m) (gone_over mem)
      ∙ ap (λ (xs : List Change). changes_to key (reverse m) ++ xs) (none_behind (cat_of s) s.durable cs key ps rs mem behind o) ∙ append-nil (changes_to key (reverse m));
}

part_later : (fs : List (Header × List Item)) (s : State) (cs : List Change) (key : List ℕ) (p : Part) (r : Range) (m : List Change) (ps : List (Part × Range)) (mem : Memory) → PendingOf (cat_of s) s.durable cs p r (map name_of m) → in_range key r ≡ false
    → PartWith fs s cs key mem ps → PartWith fs s cs key (m ∷ mem) ((p, r) ∷ ps)
part_later fs s cs key p r m ps mem pending e h = record {
  part = h.part;
  range = h.range;
  held = h.held;
  listed = contains_cons (p, r) ps (h.part, h.range) h.listed;
  sound = h.sound;
  pending = h.pending;
  known = h.known;
  within = h.within;
  alone = filter-append (λ (x : Change). same_key (change_key x) key) (reverse m) (gone_over mem)
      ∙ ap (λ (xs : List Change). xs ++ changes_to key (gone_over mem)) (none_here (cat_of s) s.durable cs key p r m pending e) ∙ h.alone;
}

part_of_key : (fs : List (Header × List Item)) (s : State) (cs : List Change) (key : List ℕ) (ps : List Part) (rs : List Range) (mem : Memory) → SoundParts s.durable fs ps rs → PendingOfAll (cat_of s) s.durable cs ps rs (names_of mem)
    → AllByRecursion (AllByRecursion (Contains (source_of fs))) mem → IsSole key rs → list_any (λ x. in_range key x.1) (zip ps rs) ≡ true → PartWith fs s cs key mem (zip ps rs)
part_of_key fs s cs key [] rs mem a b k o e = absurd (false≢true e)
part_of_key fs s cs key (p ∷ ps) [] mem a b k o e = absurd a
part_of_key fs s cs key (p ∷ ps) (r ∷ rs) [] a b k o e = absurd b
part_of_key fs s cs key (p ∷ ps) (r ∷ rs) (m ∷ mem) a b k o e = pick (in_range key r)
    (λ h. part_here fs s cs key p r m ps rs mem a.0 b.0 k.0 b.1 (o.0 h) h)
    (λ h. part_later fs s cs key p r m (zip ps rs) mem b.0 h (part_of_key fs s cs key ps rs mem a.1 b.1 k.1 o.1 (or_rest (in_range key r) (list_any (λ (x : Part × Range). in_range key x.1) (zip ps rs)) h e)))

-- a session that belongs to fronts, with what it holds in memory
record Belongs (f : Feed) (s : State) (fs : List (Header × List Item)) (mem : Memory) : Type 0 where
  good : IsGood f s fs
  names : names_of mem ≡ s.pending
  known : AllByRecursion (AllByRecursion (Contains (source_of fs))) mem

abbrev KeyPlace : State → List (Header × List Item) → Memory → List ℕ → Type 0
KeyPlace s fs mem key = PartWith fs s (passed fs s.streams) key mem (zip s.durable.parts (ranges_of s.durable))

place_of : (f : Feed) (s : State) (fs : List (Header × List Item)) (mem : Memory) (key : List ℕ) → Belongs f s fs mem → KeyPlace s fs mem key
place_of f s fs mem key b =
    let ps = s.durable.parts in
    let rs = ranges_of s.durable in
    let tiles : IsTrue (tile (map (λ p. p.low) ps)) = tiles_of s.durable b.good.lawful in
    let pending = subst (λ (names : List (List Name)). PendingOfAll (cat_of s) s.durable (passed fs s.streams) ps rs names) (sym b.names) b.good.ready.pending in
    part_of_key fs s (passed fs s.streams) key ps rs mem b.good.sound.parts pending b.known (tile_sole key (map (λ p. p.low) ps) tiles) (in_a_part key ps tiles)

-- so each key's changes in memory rise
memory_in_time : (f : Feed) (s : State) (fs : List (Header × List Item)) (mem : Memory) (key : List ℕ) → Belongs f s fs mem → IsTrue (is_in_time key (gone_over mem))
memory_in_time f s fs mem key b =
    let p = place_of f s fs mem key b in
    subst (λ (xs : List Change). IsTrue (rises_strictly (times xs))) (sym p.alone) (rise_back key p.held (sym (as_versions (map name_of p.held)) ∙ p.pending.ordered))

-- ---- a safe partition holds each change above the minimum

abbrev IsSafe : State → Range → ℕ → Part × Range → Type 0
IsSafe s i t x = IsTrue (meets x.1 i) → t ≤ checkpoint_at s.streams x.0 x.1

-- the change of a pending name is held
named_held : (source : List Change) (held : List Change) (c : Change) → IsTrue (is_in_time (change_key c) source) → AllByRecursion (Contains source) held → Contains source c → Contains (map name_of held) (change_key c, c.ts) → Contains held c
named_held source held c time known h n =
    let d = from_map name_of held (change_key c, c.ts) n in
    let k : change_key d.0 ≡ change_key c = ap (λ (x : Name). x.0) d.2 in
    let t : d.0.ts ≡ c.ts = ap (λ (x : Name). x.1) d.2 in
    subst (Contains held) (once (change_key c) source time d.0 c (all_at (Contains source) held d.0 known d.1) h k refl t) d.1

held_change : (f : Feed) (s : State) (fs : List (Header × List Item)) (mem : Memory) (key : List ℕ) (i : Range) (at : ℕ) → Belongs f s fs mem → s.durable.shelf ≡ [] → first_below s i at ≡ None → in_range key i ≡ true
    → (p : KeyPlace s fs mem key) → (c : Change) → Contains (source_of fs) c → change_key c ≡ key → s.durable.minimum < c.ts → c.ts ≤ at → Contains p.held c
held_change f s fs mem key i at b bare safe inside p c h e low up =
    let good = b.good in
    let source = source_of fs in
    let within : in_range (change_key c) p.range ≡ true = ap (λ (k : List ℕ). in_range k p.range) e ∙ p.within in
    let not_stored : Contains (stored s.durable p.part p.range c.table) (seen (cat_of s) c) → ⊥ = λ x. not_in_none (stored s.durable p.part p.range c.table) (seen (cat_of s) c) (none_stored s.durable p.part p.range c.table bare) x in
    pick (nat_le c.ts p.part.resume)
    (λ d. absurd (not_stored (p.sound.all_changes c h within low (le-true c.ts p.part.resume d))))
    (λ d.
    let late : p.part.resume < c.ts = le-false c.ts p.part.resume d in
    let parts = safe_parts s i at 0 s.durable.parts (ranges_of s.durable) (none_mapped (λ x. (x.0, x.1.1)) _ safe) in
    let passes : at ≤ checkpoint_at s.streams p.part p.range = all_at (IsSafe s i at) (zip s.durable.parts (ranges_of s.durable)) (p.part, p.range) parts p.listed (meets-by key p.range i p.within inside) in
    let behind : at ≤ least (checkpoints_meeting s.streams p.range) = max-other at p.part.resume (least (checkpoints_meeting s.streams p.range)) passes (omega (arith, late, up)) in
    let was : Contains (passed fs s.streams) c = all_at (IsPassed p.range at (passed fs s.streams)) source c
    (passed_all f (cat_of s) p.range at 0 fs s.streams good.fronts.each good.ready.places (least-all at (checkpoints_meeting s.streams p.range) behind)) h within up in
    elim (p.pending.none_lost c was within late) [
      | inl n ↦ named_held source p.held c (source_in_time f (cat_of s) fs (change_key c) good.fronts) p.known h n
      | inr x ↦ absurd (not_stored x)
    ])

-- ---- up to the minimum no row is present

key_has_table : (table : ℕ) (parts : List KeyPart) → IsTrue (has_table table (key_bytes table parts))
key_has_table table parts = ap (λ (b : List ℕ). same_bytes b (u32 table)) (take_at (to_be_bytes w32 table) (flat_map part_bytes parts) 4 refl) ∙ same_bytes-self (u32 table)

no_early_row : (f : Feed) (s : State) (fs : List (Header × List Item)) (p : Part) (r : Range) (key : List ℕ) (cs : List Change) → IsGood f s fs → s.durable.shelf ≡ [] → SoundPart s.durable fs p r → in_range key r ≡ true
    → changes_to key (source_of fs) ≡ cs → row_at (source_of fs) key s.durable.minimum ≡ None
no_early_row f s fs p r key [] good bare sound within e = no_row (source_of fs) key s.durable.minimum e
no_early_row f s fs p r key (c ∷ cs) good bare sound within e =
    let source = source_of fs in
    let g = from-filter (λ (x : Change). same_key (change_key x) key) source c (subst (λ (xs : List Change). Contains xs c) (sym e) (zero, omega arith, refl)) in
    let k : change_key c ≡ key = same (change_key c) key g.1 in
    let x = sound_shape (cat_of s) c (all_at (IsSound (cat_of s)) source c (sound_from f (cat_of s) 0 fs good.fronts.each) g.0) in
    let n : x.table.number ≡ c.table = its_number (cat_of s) c.table x.table x.known in
    let has : IsTrue (has_table x.table.number key) = subst (λ (y : List ℕ). IsTrue (has_table x.table.number y)) k (subst (λ (m : ℕ). IsTrue (has_table m (change_key c))) (sym n) (key_has_table c.table c.key)) in
    let row = sound.rows x.table key (ap (table_numbered (cat_of s)) n ∙ x.known) within has in
    none_mapped _ (row_at source key s.durable.minimum) (sym row ∙ ap (λ (vs : List RowVersion). effect_of (up_to_ts key s.durable.minimum vs)) (none_stored s.durable p r x.table.number bare))

-- ---- so the rows agree

same_changes : (f : Feed) (s : State) (fs : List (Header × List Item)) (mem : Memory) (key : List ℕ) (i : Range) (at : ℕ) → Belongs f s fs mem → s.durable.shelf ≡ [] → first_below s i at ≡ None → in_range key i ≡ true → (p : KeyPlace s fs mem key)
    → changes_up_to key at (reverse p.held) ≡ filter (is_between s.durable.minimum at) (changes_to key (source_of fs))
same_changes f s fs mem key i at b bare safe inside p =
    let source = source_of fs in
    let of_key : Change → Bool = λ c. same_key (change_key c) key in
    let m = s.durable.minimum in
    alike (changes_up_to key at (reverse p.held)) (filter (is_between m at) (changes_to key source))
    (some_rise (λ c. nat_le c.ts at) (changes_to key (reverse p.held)) (rise_back key p.held (sym (as_versions (map name_of p.held)) ∙ p.pending.ordered)))
    (some_rise (is_between m at) (changes_to key source) (source_in_time f (cat_of s) fs key b.good.fronts))
    (λ c h.
    let u = from-filter (λ (c : Change). nat_le c.ts at) (changes_to key (reverse p.held)) c h in
    let k = from-filter of_key (reverse p.held) c u.0 in
    let held = from_reverse p.held c k.0 in
    let late : p.part.resume < c.ts = (held_there (cat_of s) s.durable (passed fs s.streams) p.part p.range p.held p.pending c held).1 in
    let low : m ≤ p.part.resume = p.sound.minimum in
    in-filter (is_between m at) (changes_to key source) c (in-filter of_key source c (all_at (Contains source) p.held c p.known held) k.1) (and_from _ _ (lt-ltb m c.ts (omega (arith, late, low))) u.1))
    (λ c h.
    let u = from-filter (is_between m at) (changes_to key source) c h in
    let k = from-filter of_key source c u.0 in
    let w = and_parts (nat_lt m c.ts) (nat_le c.ts at) u.1 in
    let held = held_change f s fs mem key i at b bare safe inside p c k.0 (same (change_key c) key k.1) (ltb-true m c.ts w.0) (leb-true c.ts at w.1) in
    in-filter (λ (c : Change). nat_le c.ts at) (changes_to key (reverse p.held)) c (in-filter of_key (reverse p.held) c (in_reverse p.held c held) k.1) w.1)

same_row : (f : Feed) (s : State) (fs : List (Header × List Item)) (mem : Memory) (key : List ℕ) (i : Range) (at : ℕ) → Belongs f s fs mem → s.durable.shelf ≡ [] → s.durable.minimum ≤ at → first_below s i at ≡ None → in_range key i ≡ true
    → row_at (gone_over mem) key at ≡ row_at (source_of fs) key at
same_row f s fs mem key i at b bare low safe inside =
    let source = source_of fs in
    let m = s.durable.minimum in
    let p = place_of f s fs mem key b in
    let time : IsTrue (is_in_time key source) = source_in_time f (cat_of s) fs key b.good.fronts in
    let none : row_after (changes_up_to key m source) ≡ None = sym (reads_in_order source key m time) ∙ no_early_row f s fs p.part p.range key (changes_to key source) b.good bare p.sound p.within refl in
    reads_in_order (gone_over mem) key at (memory_in_time f s fs mem key b)
    ∙ ap (λ (xs : List Change). row_after (filter (λ c. nat_le c.ts at) xs)) p.alone
    ∙ ap row_after (same_changes f s fs mem key i at b bare safe inside p)
    ∙ sym (rows_after m at None (changes_to key source) low time none)
    ∙ sym (reads_in_order source key at time)

-- ---- what is held has the shape of its version

shape_known : (o : Option Table) (c : Change) → option_map_or (λ t. option_map_or (λ r. has_change_shape t r c) (option_and_then (λ t. registered t c.version) o) false) o false ≡ true
    → option_map_or (λ t. option_map_or (λ x. has_change_shape t x c) (registered t c.version) false) o false ≡ true
shape_known None c h = h
shape_known (Some t) c h = h

deliverable : (cat : Catalogue) (c : Change) → IsSound cat c → IsTrue (is_deliverable cat c)
deliverable cat c s = and_from _ _ s.2 (shape_known (table_numbered cat c.table) c (change_shaped s.0 cat s.1.0 c s.1.1))

-- ---- the law

all_known : (P : Change → Type 0) (source : List Change) (mem : Memory) → AllByRecursion P source → AllByRecursion (AllByRecursion (Contains source)) mem → AllByRecursion P (gone_over mem)
all_known P source mem a known = all_over P mem (all_map (AllByRecursion (Contains source)) (AllByRecursion P) mem (λ cs h. all_map (Contains source) P cs (λ c i. all_at P source c a i) h) known)

pub memory_reads : MemoryReads
memory_reads f s mem q t r b bare named version asks =
    let fs = b.0 in
    let cat = cat_of s in
    let source = source_of fs in
    let has : Belongs f s fs mem = record { good = b.1; names = b.2; known = b.3 } in
    let w = asks t r named version in
    let keyed = source_keyed f cat fs b.1.fronts in record {
      shaped = all_known (λ c. IsTrue (is_deliverable cat c)) source mem (all_map (IsSound cat) (λ c. IsTrue (is_deliverable cat c)) source (deliverable cat) (sound_from f cat 0 fs b.1.fronts.each)) b.3;
      in_time = λ key. memory_in_time f s fs mem key has;
      answers = answer_by_rows cat (gone_over mem) source t r.columns q q.at (all_known (IsKeyed cat) source mem keyed b.3) keyed
          (λ key inside. same_row f s fs mem key (query_interval t q) q.at has bare w.1 w.2 inside);
    }
