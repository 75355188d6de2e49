-- The durable part that a compaction leaves is lawful: its shelf has what its partitions list, and no more deltas than it may.
use Rattle.std.proofs.Common.{Bool, List, [], ap, append-nil, ap₂, arith, cond, eq-eqb, eqb-true, false, inl, inr, le-leb, leb-true, length, lt-ltb, ltb-false, ltb-true, ne_eqb, refl, subst, suc, sym, true, zero, ℕ, ◌++◌, ◌+◌, ◌<◌, ◌∙◌, ◌∷◌, ◌≡◌, ◌≤◌}
use Rattle.std.specs.Prelude.{Contains, IsTrue, None, Option, Some, filter, is_some, map, nat_le, nat_lt, not, zip, ◌&&◌, ◌==◌, ◌^◌, ◌||◌, ◌⊎◌}
use Rattle.std.specs.List.{AllByRecursion, list_all, list_any}
use Rattle.std.proofs.lemmas.Bool.{and_from, and_parts, false≢true, or_parts}
use Rattle.std.proofs.lemmas.List.{length-append, map-append}
use Rattle.lt_terms.specs.Value.{rises_above, rises_strictly}
use Rattle.lt_terms.specs.Key.{Range, lies_in, tile}
use Rattle.lt_tables.specs.Pump.{Part}
use Rattle.lt_tables.specs.Version.{RowVersion, collapse, merge}
use Rattle.lt_tables.specs.Schema.{Catalogue}
use Rattle.lt_storage.specs.Store.{AreLawfulTables, Delta, Durable, IsLawfulPart, bare_manifest, delta_with, fits_63, is_delta_entry, is_part_entry, merged_in}
use Rattle.lt_machine.specs.Machine.{Job, frees_nothing, is_listed, job_output, kept_outside, not_empty, parts_replaced, ranges_of, replaced, table_numbers}
use Rattle.lt_codecs.proofs.ListFacts.{all_append, all_map}
use Rattle.lt_lemmas.proofs.ListFacts.{all_filter, all_from, find_held}
use Rattle.lt_lemmas.proofs.SoundLaws.{not-true}
use Rattle.lt_lemmas.proofs.TakenLaws.{any_append}
use Rattle.lt_session_laws.proofs.CompactedParts.{compact_of, is_other, new_ones, next_after, others, output_delta, shelf_keeps}
use Rattle.lt_laws.proofs.DurableFacts.{IsKnown, listed_known, map_tests, mapped_any, named_at, part_entries, shelf_below}
use Rattle.lt_laws.proofs.ShelfGrowth.{known_stays, new_named}
use Rattle.lt_session_laws.proofs.AddedSession.{PartEntry, entry_made, entry_parts, found_any, ids_of, mapped_tests, named_length, rises_push}
use Rattle.lt_session_laws.proofs.PointsAfter.{filter_short, strictly_kept}
use Rattle.lt_session_laws.proofs.SplitLaws.{lows_of}
use Rattle.lt_session_laws.proofs.JobLaws.{any_from, as_many, lists_id}
use Rattle.lt_laws.proofs.ScanLaws.{any_of}
use Rattle.lt_laws.proofs.ListFacts.{all_at, contains_front}
use Rattle.lt_laws.proofs.NewDelta.{tests_hold}
use Rattle.lt_laws.proofs.HeldLaws.{rises_tail}
use Rattle.lt_session_laws.proofs.JobOutput.{settled}
use Rattle.lt_laws.proofs.SoundLaws.{filter-all}
use Rattle.lt_lemmas.proofs.SnapshotLaws.{or_false}

-- the id of the output, or none where the output is empty
abbrev pub IsId : Durable → Job → Option ℕ → Type 0
IsId d j o = ((o ≡ None) × (job_output d.shelf j ≡ [])) ⊎ (o ≡ Some d.next_id)

abbrev pub shelf_before : Durable → Job → Option ℕ → List Delta
shelf_before d j o = d.shelf ++ new_ones o (output_delta d j)

-- ---- the ids that the partitions list

abbrev IsKnownAfter : Durable → Job → Option ℕ → ℕ → Type 0
IsKnownAfter d j o i = IsTrue (is_some (delta_with (shelf_before d j o) i)) × (i < next_after o d)

below_after : (d : Durable) (o : Option ℕ) (i : ℕ) → (o ≡ None) ⊎ (o ≡ Some d.next_id) → i < d.next_id → i < next_after o d
below_after d o i (inl h) l = subst (λ (o : Option ℕ). i < next_after o d) (sym h) l
below_after d o i (inr h) l = subst (λ (o : Option ℕ). i < next_after o d) (sym h) (omega (arith, l))

which : (d : Durable) (j : Job) (o : Option ℕ) → IsId d j o → (o ≡ None) ⊎ (o ≡ Some d.next_id)
which d j o (inl h) = inl h.0
which d j o (inr h) = inr h

known_after : (d : Durable) (j : Job) (o : Option ℕ) (i : ℕ) → IsId d j o → IsKnown d i → IsKnownAfter d j o i
known_after d j o i h k = (ap is_some (known_stays d.shelf (new_ones o (output_delta d j)) i k.0) ∙ k.0, below_after d o i (which d j o h) k.1)

-- what one partition lists after the compaction
record Lists (d : Durable) (j : Job) (o : Option ℕ) (q : Part) : Type 0 where
  rise : IsTrue (rises_strictly q.ids)
  known : AllByRecursion (IsKnownAfter d j o) q.ids

lists_other : (d : Durable) (j : Job) (o : Option ℕ) (p : Part) → IsId d j o → IsTrue (rises_strictly p.ids) → AllByRecursion (IsKnown d) p.ids → Lists d j o p
lists_other d j o p h r k = record { rise = r; known = all_map (IsKnown d) (IsKnownAfter d j o) p.ids (λ i a. known_after d j o i h a) k }

lists_replaced : (d : Durable) (j : Job) (o : Option ℕ) (p : Part) → IsId d j o → AllByRecursion (λ y. y.id < d.next_id) d.shelf → IsTrue (rises_strictly p.ids) → AllByRecursion (IsKnown d) p.ids → Lists d j o (replaced j o p)
lists_replaced d j o p (inl h) b r k = subst (λ (o : Option ℕ). Lists d j o (replaced j o p)) (sym h.0) (record {
  rise = strictly_kept (is_other j) p.ids r;
  known = all_filter (IsKnownAfter d j None) (is_other j) p.ids (all_map (IsKnown d) (IsKnownAfter d j None) p.ids (λ i a. known_after d j None i (inl (refl, h.1)) a) k);
})
lists_replaced d j o p (inr h) b r k = subst (λ (o : Option ℕ). Lists d j o (replaced j o p)) (sym h) (let u : Option ℕ = Some d.next_id in record {
  rise = rises_push (others j p) d.next_id (strictly_kept (is_other j) p.ids r) (all_filter (λ i. i < d.next_id) (is_other j) p.ids (all_map (IsKnown d) (λ i. i < d.next_id) p.ids (λ i a. a.1) k));
  known = all_append (IsKnownAfter d j u) (others j p) (d.next_id ∷ []) (all_filter (IsKnownAfter d j u) (is_other j) p.ids (all_map (IsKnown d) (IsKnownAfter d j u) p.ids (λ i a. known_after d j u i (inr refl) a) k))
      ((ap is_some (new_named d.shelf (output_delta d j) b), omega arith), tt);
})

-- what holds of each partition afterwards
replaced_by : (Q : Part → Type 0) (j : Job) (o : Option ℕ) (p : Part) (b : Bool) → Q (replaced j o p) → Q p → Q (cond b (replaced j o p) p)
replaced_by Q j o p true x y = x
replaced_by Q j o p false x y = y

pub all_replaced : (P Q : Part → Type 0) (j : Job) (o : Option ℕ) (rs : List Range) (ps : List Part) → ((p : Part) → P p → Q (replaced j o p)) → ((p : Part) → P p → Q p) → AllByRecursion P ps → AllByRecursion Q (parts_replaced j o rs ps)
all_replaced P Q j o [] ps f g a = all_map P Q ps g a
all_replaced P Q j o (r ∷ rs) [] f g a = tt
all_replaced P Q j o (r ∷ rs) (p ∷ ps) f g a = (replaced_by Q j o p (lies_in r j.range) (f p a.0) (g p a.0), all_replaced P Q j o rs ps f g a.1)

replaced_low : (j : Job) (o : Option ℕ) (p : Part) (b : Bool) → (cond b (replaced j o p) p).low ≡ p.low
replaced_low j None p true = refl
replaced_low j (Some id) p true = refl
replaced_low j o p false = refl

pub lows_replaced : (j : Job) (o : Option ℕ) (rs : List Range) (ps : List Part) → lows_of (parts_replaced j o rs ps) ≡ lows_of ps
lows_replaced j o [] ps = refl
lows_replaced j o (r ∷ rs) [] = refl
lows_replaced j o (r ∷ rs) (p ∷ ps) = ap₂ (λ (l : List ℕ) (ls : List (List ℕ)). l ∷ ls) (replaced_low j o p (lies_in r j.range)) (lows_replaced j o rs ps)

parts_length : (j : Job) (o : Option ℕ) (rs : List Range) (ps : List Part) → length (parts_replaced j o rs ps) ≡ length ps
parts_length j o [] ps = refl
parts_length j o (r ∷ rs) [] = refl
parts_length j o (r ∷ rs) (p ∷ ps) = ap suc (parts_length j o rs ps)

-- ---- the entries

listed_in_manifest : (d : Durable) (j : Job) (o : Option ℕ) (q : Part) (i : ℕ) → Contains (compact_of o d j).parts q → Contains q.ids i → IsKnownAfter d j o i
    → IsTrue (list_any (λ x. x.0 == i) (bare_manifest (compact_of o d j)).deltas && nat_lt i (next_after o d))
listed_in_manifest d j o q i h k a =
    let e = compact_of o d j in
    let listed : list_any (λ (p : Part). lists_id p.ids i) e.parts ≡ true = any_of (λ (p : Part). lists_id p.ids i) e.parts q h (any_from q.ids i k) in
    and_from _ _ (mapped_any i e.shelf ∙ found_any (λ (y : Delta). y.id == i) e.shelf (ap is_some (shelf_keeps e.parts (shelf_before d j o) i listed) ∙ a.0)) (lt-ltb i (next_after o d) a.1)

record IsEntryAfter (d : Durable) (j : Job) (o : Option ℕ) (q : Part) : Type 0 where
  was : Part
  entry : PartEntry (bare_manifest d) was
  low : q.low ≡ was.low
  resume : q.resume ≡ was.resume
  lists : Lists d j o q

entry_after : (d : Durable) (j : Job) (o : Option ℕ) (q : Part) → Contains (compact_of o d j).parts q → IsEntryAfter d j o q → IsTrue (is_part_entry (bare_manifest (compact_of o d j)) q)
entry_after d j o q h a = entry_made (bare_manifest (compact_of o d j)) q (record {
  low = ap (λ (l : List ℕ). nat_le (length l) _) a.low ∙ a.entry.low;
  fits = ap fits_63 a.resume ∙ a.entry.fits;
  above = ap (nat_le d.minimum) a.resume ∙ a.entry.above;
  rise = a.lists.rise;
  listed = tests_hold _ q.ids (all_from _ q.ids (λ i k. listed_in_manifest d j o q i h k (all_at (IsKnownAfter d j o) q.ids i a.lists.known k)));
})

abbrev IsEntry : Durable → Part → Type 0
IsEntry d p = PartEntry (bare_manifest d) p × AllByRecursion (IsKnown d) p.ids

resume_replaced : (j : Job) (o : Option ℕ) (p : Part) → ((replaced j o p).resume ≡ p.resume) × ((replaced j o p).low ≡ p.low)
resume_replaced j None p = (refl, refl)
resume_replaced j (Some id) p = (refl, refl)

entries_of : (d : Durable) (j : Job) (o : Option ℕ) → IsLawfulPart d → IsId d j o → AllByRecursion (IsEntryAfter d j o) (compact_of o d j).parts
entries_of d j o l h = all_replaced (IsEntry d) (IsEntryAfter d j o) j o (ranges_of d) d.parts
    (λ p e. let s = resume_replaced j o p in record { was = p; entry = e.0; low = s.1; resume = s.0; lists = lists_replaced d j o p h (shelf_below d l) e.0.rise e.1 })
    (λ p e. record { was = p; entry = e.0; low = refl; resume = refl; lists = lists_other d j o p h e.0.rise e.1 })
    (all_from (IsEntry d) d.parts (λ p k. (entry_parts (bare_manifest d) p (all_at (λ p. IsTrue (is_part_entry (bare_manifest d) p)) d.parts p (part_entries d l) k), listed_known d p l k)))

-- ---- the shelf

above_kept_by : (test : Delta → Bool) (low : ℕ) (y : Delta) (xs : List Delta) (b : Bool) → low < y.id → IsTrue (rises_above y.id (map (λ (x : Delta). x.id) xs)) → IsTrue (rises_above low (map (λ (x : Delta). x.id) xs)) → IsTrue (rises_above low (map (λ (x : Delta). x.id) (cond b (y ∷ xs) xs)))
above_kept_by test low y xs true l r s = and_from _ _ (lt-ltb low y.id l) r
above_kept_by test low y xs false l r s = s

above_kept : (test : Delta → Bool) (low : ℕ) (xs : List Delta) → IsTrue (rises_above low (map (λ (x : Delta). x.id) xs)) → IsTrue (rises_above low (map (λ (x : Delta). x.id) (filter test xs)))
above_kept test low [] r = refl
above_kept test low (y ∷ xs) r =
    let p = and_parts (nat_lt low y.id) (rises_above y.id (map (λ (x : Delta). x.id) xs)) r in
    let l : low < y.id = ltb-true low y.id p.0 in
    above_kept_by test low y (filter test xs) (test y) l (above_kept test y.id xs p.1) (above_kept test low xs (rises_low low y.id (map (λ (x : Delta). x.id) xs) l p.1))
  where
    rises_low : (a b : ℕ) (ns : List ℕ) → a < b → IsTrue (rises_above b ns) → IsTrue (rises_above a ns)
    rises_low a b [] l r = refl
    rises_low a b (n ∷ ns) l r = let p = and_parts (nat_lt b n) (rises_above n ns) r in let h : b < n = ltb-true b n p.0 in and_from _ _ (lt-ltb a n (omega (arith, l, h))) p.1

rise_kept : (test : Delta → Bool) (xs : List Delta) → IsTrue (rises_strictly (map (λ (x : Delta). x.id) xs)) → IsTrue (rises_strictly (map (λ (x : Delta). x.id) (filter test xs)))
rise_kept test [] r = refl
rise_kept test (y ∷ xs) r = by_test (test y)
  where
    by_test : (b : Bool) → IsTrue (rises_strictly (map (λ (x : Delta). x.id) (cond b (y ∷ filter test xs) (filter test xs))))
    by_test true = above_kept test y.id xs r
    by_test false = rises_tail y.id (map (λ (x : Delta). x.id) (filter test xs)) (above_kept test y.id xs r)

ids_below : (n : ℕ) (xs : List Delta) → AllByRecursion (λ y. y.id < n) xs → AllByRecursion (λ k. k < n) (map (λ (y : Delta). y.id) xs)
ids_below n [] a = tt
ids_below n (y ∷ xs) a = (a.0, ids_below n xs a.1)

shelf_rises : (d : Durable) (j : Job) (o : Option ℕ) → IsId d j o → AllByRecursion (λ y. y.id < d.next_id) d.shelf → IsTrue (rises_strictly (map (λ (y : Delta). y.id) d.shelf)) → IsTrue (rises_strictly (map (λ (y : Delta). y.id) (shelf_before d j o)))
shelf_rises d j o (inl h) b r = subst (λ (o : Option ℕ). IsTrue (rises_strictly (map (λ (y : Delta). y.id) (shelf_before d j o)))) (sym h.0) (ap (λ (xs : List Delta). rises_strictly (map (λ (y : Delta). y.id) xs)) (append-nil d.shelf) ∙ r)
shelf_rises d j o (inr h) b r = subst (λ (o : Option ℕ). IsTrue (rises_strictly (map (λ (y : Delta). y.id) (shelf_before d j o)))) (sym h)
    (ap rises_strictly (map-append (λ (y : Delta). y.id) d.shelf (output_delta d j ∷ [])) ∙ rises_push (map (λ (y : Delta). y.id) d.shelf) d.next_id r (ids_below d.next_id d.shelf b))

new_all : (P : Delta → Type 0) (o : Option ℕ) (x : Delta) → P x → AllByRecursion P (new_ones o x)
new_all P None x h = tt
new_all P (Some id) x h = (h, tt)

-- ---- how many deltas there are

less_by : {A : Type 0} (x : A) (xs ys : List A) (b : Bool) → length ys < length xs → length (cond b (x ∷ ys) ys) < suc (length xs)
less_by x xs ys true h = omega (arith, h)
less_by x xs ys false h = omega (arith, h)

filter_less : {A : Type 0} (test : A → Bool) (xs : List A) (y : A) → Contains xs y → test y ≡ false → length (filter test xs) < length xs
filter_less test [] y h e = absurd (omega (arith, h.1))
filter_less test (x ∷ xs) y (zero, n, d) e = let s : length (filter test xs) ≤ length xs = filter_short test xs in
    let t : length (cond (test x) (x ∷ filter test xs) (filter test xs)) ≡ length (filter test xs) = ap (λ (b : Bool). length (cond b (x ∷ filter test xs) (filter test xs))) (ap test d ∙ e) in omega (arith, s, t)
filter_less test (x ∷ xs) y (suc k, n, d) e = less_by x xs (filter test xs) (test x) (filter_less test xs y (k, omega (arith, n), d) e)

-- an input that no partition outside the range lists is listed no more
unlisted_by : (j : Job) (o : Option ℕ) (d : Durable) (p : Part) (i : ℕ) (b : Bool) → (o ≡ None) ⊎ (o ≡ Some d.next_id) → list_any (λ k. k == i) j.inputs ≡ true → i < d.next_id → (b ≡ false → lists_id p.ids i ≡ false) → lists_id (cond b (replaced j o p) p).ids i ≡ false
unlisted_by j o d p i false h e l f = f refl
unlisted_by j o d p i true h e l f = by_id h
  where
    gone : (ids : List ℕ) → lists_id (filter (is_other j) ids) i ≡ false
    gone [] = refl
    gone (k ∷ ids) = by_other (is_other j k) refl (gone ids)
      where
        by_other : (t : Bool) → is_other j k ≡ t → lists_id (filter (is_other j) ids) i ≡ false → lists_id (cond t (k ∷ filter (is_other j) ids) (filter (is_other j) ids)) i ≡ false
        by_other false u r = r
        by_other true u r = by_same (k == i) refl
          where
            by_same : (s : Bool) → (k == i) ≡ s → (s || lists_id (filter (is_other j) ids) i) ≡ false
            by_same false v = r
            by_same true v = let w : list_any (λ n. n == k) j.inputs ≡ true = ap (λ (m : ℕ). list_any (λ n. n == m) j.inputs) (eqb-true k i v) ∙ e in absurd (false≢true (sym (not-true (list_any (λ n. n == k) j.inputs) u) ∙ w))

    apart : (d.next_id == i) ≡ false
    apart = ne_eqb d.next_id i (λ z. omega (arith, z, l))

    by_id : (o ≡ None) ⊎ (o ≡ Some d.next_id) → lists_id (replaced j o p).ids i ≡ false
    by_id (inl n) = subst (λ (o : Option ℕ). lists_id (replaced j o p).ids i ≡ false) (sym n) (gone p.ids)
    by_id (inr n) = subst (λ (o : Option ℕ). lists_id (replaced j o p).ids i ≡ false) (sym n) (any_append (λ k. k == i) (others j p) (d.next_id ∷ []) ∙ ap₂ (λ (x y : Bool). x || (y || false)) (gone p.ids) apart)

outside_only : (a b : Bool) → (a && not b) ≡ false → b ≡ false → a ≡ false
outside_only true true h i = absurd (false≢true (sym i))
outside_only true false h i = h
outside_only false b h i = refl

unlisted : (d : Durable) (j : Job) (o : Option ℕ) (i : ℕ) (ps : List Part) (rs : List Range) → (o ≡ None) ⊎ (o ≡ Some d.next_id) → list_any (λ k. k == i) j.inputs ≡ true → i < d.next_id → length ps ≡ length rs
    → list_any (λ x. lists_id x.0.ids i && not (lies_in x.1 j.range)) (zip ps rs) ≡ false → list_any (λ p. lists_id p.ids i) (parts_replaced j o rs ps) ≡ false
unlisted d j o i [] [] h e l n f = refl
unlisted d j o i [] (r ∷ rs) h e l n f = refl
unlisted d j o i (p ∷ ps) [] h e l n f = absurd (omega (arith, n))
unlisted d j o i (p ∷ ps) (r ∷ rs) h e l n f =
    let a = or_parts (lists_id p.ids i && not (lies_in r j.range)) (list_any (λ x. lists_id x.0.ids i && not (lies_in x.1 j.range)) (zip ps rs)) f in
    or_false _ _ (unlisted_by j o d p i (lies_in r j.range) h e l (λ b. outside_only (lists_id p.ids i) (lies_in r j.range) a.0 b)) (unlisted d j o i ps rs h e l (omega (arith, n)) a.1)

-- some element fails
fails : {A : Type 0} (test : A → Bool) (xs : List A) → list_all test xs ≡ false → (x : A) × Contains xs x × (test x ≡ false)
fails test [] h = absurd (false≢true (sym h))
fails test (x ∷ xs) h = by_test (test x) refl h (fails test xs)
  where
    by_test : (b : Bool) → test x ≡ b → (b && list_all test xs) ≡ false → (list_all test xs ≡ false → (y : _) × Contains xs y × (test y ≡ false)) → (y : _) × Contains (x ∷ xs) y × (test y ≡ false)
    by_test false e g f = (x, (zero, omega arith, refl), e)
    by_test true e g f = let r = f g in (r.0, (let k = r.1 in (suc k.0, omega (arith, k.1), k.2)), r.2)

-- an input that may go leaves the shelf
one_less : (d : Durable) (j : Job) (o : Option ℕ) (i : ℕ) → IsLawfulPart d → (o ≡ None) ⊎ (o ≡ Some d.next_id) → Contains j.inputs i → IsKnown d i → kept_outside d j.range i ≡ false → length (compact_of o d j).shelf < length (shelf_before d j o)
one_less d j o i l h c k f =
    let e = compact_of o d j in
    let y = found_some (delta_with d.shelf i) k.0 in
    let g = find_held (λ (x : Delta). x.id == i) d.shelf y.0 y.1 in
    let gone : list_any (λ p. lists_id p.ids i) e.parts ≡ false = unlisted d j o i d.parts (ranges_of d) h (any_of (λ n. n == i) j.inputs i c (eq-eqb i i refl)) k.1 (as_many d.parts) f in
    filter_less (is_listed e.parts) (shelf_before d j o) y.0 (contains_front d.shelf (new_ones o (output_delta d j)) y.0 g.0) (ap (λ (n : ℕ). list_any (λ (p : Part). lists_id p.ids n) e.parts) (eqb-true y.0.id i g.1) ∙ gone)
  where
    found_some : (q : Option Delta) → is_some q ≡ true → (y : Delta) × (q ≡ Some y)
    found_some None z = absurd (false≢true z)
    found_some (Some y) z = (y, refl)

new_few : (o : Option ℕ) (x : Delta) → length (new_ones o x) ≤ 1
new_few None x = omega arith
new_few (Some id) x = omega arith

-- no inputs, no output
none_settled : (b : Bool) (m : ℕ) → settled b m [] ≡ []
unfolding collapse
none_settled true m = refl
none_settled false m = refl

empty_lists : (ns : List ℕ) (g : ℕ → List RowVersion) → ((n : ℕ) → g n ≡ []) → filter not_empty (map (λ n. let x : ℕ × List RowVersion = (n, g n) in x) ns) ≡ []
empty_lists [] g f = refl
empty_lists (n ∷ ns) g f = ap (λ (l : List RowVersion). let x : ℕ × List RowVersion = (n, l) in cond (nat_lt 0 (length l)) (x ∷ filter not_empty (map (λ n. let x : ℕ × List RowVersion = (n, g n) in x) ns)) (filter not_empty (map (λ n. let x : ℕ × List RowVersion = (n, g n) in x) ns))) (f n) ∙ empty_lists ns g f

none_merged : (cat : Catalogue) (shelf : List Delta) (ids : List ℕ) (r : Range) (n : ℕ) → ids ≡ [] → merged_in cat shelf ids r n ≡ []
unfolding merge
none_merged cat shelf ids r n e = ap (λ (l : List ℕ). merged_in cat shelf l r n) e

no_output : (shelf : List Delta) (j : Job) → j.inputs ≡ [] → job_output shelf j ≡ []
no_output shelf j e = empty_lists (table_numbers j.catalogue) (λ n. settled j.is_major j.minimum (merged_in j.catalogue shelf j.inputs j.range n))
    (λ n. ap (settled j.is_major j.minimum) (none_merged j.catalogue shelf j.inputs j.range n e) ∙ none_settled j.is_major j.minimum)

-- there is room for the output
abbrev pub HasRoom : Durable → Job → Type 0
HasRoom d j = (length d.shelf < 4096) ⊎ (frees_nothing d j ≡ false)

few_by : (d : Durable) (j : Job) (o : Option ℕ) → IsLawfulPart d → IsId d j o → AllByRecursion (IsKnown d) j.inputs → length d.shelf ≤ 4096 → (o ≡ Some d.next_id → 0 < length (job_output d.shelf j)) → HasRoom d j → length (compact_of o d j).shelf ≤ 4096
few_by d j o l h k few full (inl room) =
    let s : length (compact_of o d j).shelf ≤ length (shelf_before d j o) = filter_short (is_listed (compact_of o d j).parts) (shelf_before d j o) in
    let n : length (shelf_before d j o) ≡ length d.shelf + length (new_ones o (output_delta d j)) = length-append d.shelf (new_ones o (output_delta d j)) in
    let one = new_few o (output_delta d j) in omega (arith, s, n, one, room)
few_by d j o l h k few full (inr frees) = by_inputs (nat_lt 0 (length j.inputs)) refl frees
  where
    more : length (shelf_before d j o) ≤ length d.shelf + 1
    more = let n : length (shelf_before d j o) ≡ length d.shelf + length (new_ones o (output_delta d j)) = length-append d.shelf (new_ones o (output_delta d j)) in let one = new_few o (output_delta d j) in omega (arith, n, one)

    no_inputs : {A : Type 0} (xs : List A) → nat_lt 0 (length xs) ≡ false → xs ≡ []
    no_inputs [] z = refl
    no_inputs (x ∷ xs) z = let w : length (x ∷ xs) ≤ 0 = ltb-false 0 (length (x ∷ xs)) z in absurd (omega (arith, w))

    none_new : IsId d j o → j.inputs ≡ [] → length (compact_of o d j).shelf ≤ 4096
    none_new (inl z) e = subst (λ (o : Option ℕ). length (compact_of o d j).shelf ≤ 4096) (sym z.0)
        (let s : length (compact_of None d j).shelf ≤ length (shelf_before d j None) = filter_short (is_listed (compact_of None d j).parts) (shelf_before d j None) in
        let n : length (d.shelf ++ []) ≡ length d.shelf = ap length (append-nil d.shelf) in omega (arith, s, n, few))
    none_new (inr z) e = let f : 0 < length (job_output d.shelf j) = full z in let n : length (job_output d.shelf j) ≡ 0 = ap length (no_output d.shelf j e) in absurd (omega (arith, f, n))

    by_inputs : (b : Bool) → nat_lt 0 (length j.inputs) ≡ b → (b && list_all (kept_outside d j.range) j.inputs) ≡ false → length (compact_of o d j).shelf ≤ 4096
    by_inputs false e f = none_new h (no_inputs j.inputs e)
    by_inputs true e f =
        let i = fails (kept_outside d j.range) j.inputs f in
        let s = one_less d j o i.0 l (which d j o h) i.1 (all_at (IsKnown d) j.inputs i.0 k i.1) i.2 in omega (arith, s, more, few)

-- ---- the durable part

shelf_fits : (d : Durable) (y : Delta) → IsTrue (is_delta_entry (bare_manifest d) (named_at y)) → y.id < 2 ^ 64
shelf_fits d y h =
    let e = named_at y in
    let a = and_parts (nat_lt e.0 (2 ^ 64) && nat_lt e.1.place (2 ^ 64) && nat_lt e.1.length (2 ^ 64)) (list_any (λ p. list_any (λ id. id == e.0) p.ids) d.parts) h in
    ltb-true y.id (2 ^ 64) (and_parts (nat_lt e.0 (2 ^ 64)) (nat_lt e.1.place (2 ^ 64)) (and_parts (nat_lt e.0 (2 ^ 64) && nat_lt e.1.place (2 ^ 64)) (nat_lt e.1.length (2 ^ 64)) a.0).0).0

next_fits : (d : Durable) (j : Job) (o : Option ℕ) → IsId d j o → d.next_id + 1 < 2 ^ 64 → next_after o d < 2 ^ 64
next_fits d j o (inl h) l = subst (λ (o : Option ℕ). next_after o d < 2 ^ 64) (sym h.0) (omega (arith, l))
next_fits d j o (inr h) l = subst (λ (o : Option ℕ). next_after o d < 2 ^ 64) (sym h) l

pub lawful_compacted : (d : Durable) (j : Job) (o : Option ℕ) → IsLawfulPart d → IsId d j o → (o ≡ Some d.next_id → 0 < length (job_output d.shelf j)) → AllByRecursion (IsKnown d) j.inputs → HasRoom d j → AreLawfulTables d.catalogue (output_delta d j) → d.next_id + 1 < 2 ^ 64
    → IsLawfulPart (compact_of o d j)
lawful_compacted d j o l h full known room made next =
    let e = compact_of o d j in
    let m = bare_manifest d in
    let k = bare_manifest e in
    let x = output_delta d j in
    let before = shelf_before d j o in
    let parts = and_parts (tile (lows_of d.parts) && nat_le (length d.parts) 1024) (list_all (is_part_entry m) d.parts) l.manifest.parts in
    let tiled = and_parts (tile (lows_of d.parts)) (nat_le (length d.parts) 1024) parts.0 in
    let deltas = and_parts (rises_strictly (map (λ d. d.0) m.deltas) && nat_le (length m.deltas) 4096) (list_all (is_delta_entry m) m.deltas) l.manifest.deltas in
    let old = and_parts (rises_strictly (map (λ d. d.0) m.deltas)) (nat_le (length m.deltas) 4096) deltas.0 in
    let below = shelf_below d l in
    let few : length d.shelf ≤ 4096 = (let n = named_length d.shelf in let f : length (map named_at d.shelf) ≤ 4096 = leb-true (length (map named_at d.shelf)) 4096 old.1 in omega (arith, n, f)) in
    let count = few_by d j o l h known few full room in
    let small : AllByRecursion (λ y. y.id < 2 ^ 64) before = all_append (λ y. y.id < 2 ^ 64) d.shelf (new_ones o x)
    (all_map (λ y. IsTrue (is_delta_entry m (named_at y))) (λ y. y.id < 2 ^ 64) d.shelf (λ y a. shelf_fits d y a) (map_tests (is_delta_entry m) d.shelf deltas.1)) (new_all (λ y. y.id < 2 ^ 64) o x (omega (arith, next))) in record {
      generation = l.generation;
      manifest = record {
        limit = l.manifest.limit;
        numbers = and_from _ _ (and_parts (nat_lt d.minimum (2 ^ 64)) (nat_lt d.next_id (2 ^ 64)) l.manifest.numbers).0 (lt-ltb (next_after o d) (2 ^ 64) (next_fits d j o h next));
        catalogue = l.manifest.catalogue;
        streams = l.manifest.streams;
        parts = and_from _ _ (and_from _ _ (ap tile (lows_replaced j o (ranges_of d) d.parts) ∙ tiled.0) (ap (λ (n : ℕ). nat_le n 1024) (parts_length j o (ranges_of d) d.parts) ∙ tiled.1))
            (tests_hold (is_part_entry k) e.parts (all_from (λ q. IsTrue (is_part_entry k q)) e.parts (λ q i. entry_after d j o q i (all_at (IsEntryAfter d j o) e.parts q (entries_of d j o l h) i))));
        deltas = and_from _ _ (and_from _ _
            (ap rises_strictly (ids_of e.shelf) ∙ rise_kept (is_listed e.parts) before (shelf_rises d j o h below (ap rises_strictly (sym (ids_of d.shelf)) ∙ old.0)))
            (le-leb (length (map named_at e.shelf)) 4096 (let n = named_length e.shelf in omega (arith, n, count))))
            (mapped_tests (is_delta_entry k) e.shelf (all_map (λ y. (y.id < 2 ^ 64) × (is_listed e.parts y ≡ true)) (λ y. IsTrue (is_delta_entry k (named_at y))) e.shelf
            (λ y a. and_from _ _ (and_from _ _ (and_from _ _ (lt-ltb y.id (2 ^ 64) a.0) refl) refl) a.1) (filter-all (λ y. y.id < 2 ^ 64) (is_listed e.parts) before small)));
      };
      shelf = all_filter (AreLawfulTables d.catalogue) (is_listed e.parts) before (all_append (AreLawfulTables d.catalogue) d.shelf (new_ones o x) l.shelf (new_all (AreLawfulTables d.catalogue) o x made));
    }
