-- A partition whose inputs gave way to a compaction's output: what it has stored, and that it stays sound.
use Rattle.std.proofs.Common.{Bool, List, [], ap, append-nil, ap₂, arith, cond, eqb-true, false, inl, inr, refl, subst, sym, true, zero, ℕ, ◌++◌, ◌+◌, ◌<◌, ◌∙◌, ◌∷◌, ◌≡◌, ◌≤◌}
use Rattle.std.specs.Prelude.{Contains, IsTrue, None, Option, Some, filter, find, is_some, map, not, option_map, ◌==◌, ◌⊎◌}
use Rattle.std.proofs.lemmas.Bool.{false≢true}
use Rattle.std.specs.List.{AllByRecursion, cons_option, list_any}
use Rattle.std.proofs.lemmas.List.{map-append}
use Rattle.lt_terms.specs.Key.{Range, in_range, lies_in, same_key}
use Rattle.lt_terms.specs.Log.{Change, Header, Item}
use Rattle.lt_tables.specs.Version.{RowVersion, clip, collapse, effect_of, is_ordered, merge, put_versions, same_name, seen}
use Rattle.lt_tables.specs.Pump.{Part}
use Rattle.lt_storage.specs.Store.{Delta, Durable, carried_versions, delta_with, deltas_of, stored}
use Rattle.lt_machine.specs.Sound.{ListsAll, PendingOf, SoundPart, up_to_ts}
use Rattle.lt_machine.specs.Machine.{Job, delta_of, is_listed, job_output, on_shelf, parts_replaced, ranges_of, replaced, with_delta}
use Rattle.lt_codecs.proofs.ListFacts.{all_map}
use Rattle.lt_lemmas.proofs.ListFacts.{all_filter, all_from, filter_map-append}
use Rattle.lt_lemmas.proofs.MergeLaws.{clip-ordered, named}
use Rattle.lt_lemmas.proofs.SoundLaws.{not-true, pick}
use Rattle.lt_laws.proofs.CollapseLaws.{collapse_from, collapse_in}
use Rattle.lt_session_laws.proofs.JobOutput.{OutputIn, merged_from_delta, merged_of, settled, settled_ordered}
use Rattle.lt_laws.proofs.ListLaws.{asof-effect}
use Rattle.lt_laws.proofs.MomentLaws.{asof-collapse, collapse-clip, collapse-newer, collapse-ordered}
use Rattle.lt_session_laws.proofs.JobLaws.{any_from, lists_id}
use Rattle.lt_laws.proofs.ScanLaws.{any_of}
use Rattle.lt_session_laws.proofs.DeltaAdded.{Rest, is_same_name, listed_stored, merge_has}
use Rattle.lt_laws.proofs.DurableFacts.{IsKnown}
use Rattle.lt_laws.proofs.ShelfGrowth.{merged_from, merged_new, merged_old, named_stay, new_named}
use Rattle.lt_laws.proofs.ListFacts.{all_at, any_held, from_filter_map, from_map, held_either, held_one, in_filter_map, in_map}
use Rattle.lt_laws.proofs.ScanLemmas.{from-filter, held-found, in-filter, same-held, seen-ts}
use Rattle.lt_laws.proofs.MergeLaws.{clip-merge, merge-alone, merge-ordered, merge-within, merged_member, same_names}
use Rattle.lt_session_laws.proofs.SplitLaws.{in_lies}

-- ---- settled lists

pub settled_from : (b : Bool) (m : ℕ) (vs : List RowVersion) (v : RowVersion) → (b ≡ true → m < v.ts) → Contains (settled b m vs) v → Contains vs v
settled_from true m vs v f h = collapse_from m vs v (f refl) h
settled_from false m vs v f h = h

pub settled_in : (b : Bool) (m : ℕ) (vs : List RowVersion) (v : RowVersion) → IsTrue (is_ordered vs) → m < v.ts → Contains vs v → Contains (settled b m vs) v
settled_in true m vs v o l h = collapse_in m vs v o l h
settled_in false m vs v o l h = h

settled_rows : (b : Bool) (m t : ℕ) (key : List ℕ) (vs : List RowVersion) → IsTrue (is_ordered vs) → m ≤ t → effect_of (up_to_ts key t (settled b m vs)) ≡ effect_of (up_to_ts key t vs)
settled_rows true m t key vs o l = sym (asof-effect t key (collapse m vs) (collapse-ordered m vs o)) ∙ ap (λ (ws : List RowVersion). option_map (λ (v : RowVersion). v.cells) (find (λ v. same_key v.key key) ws)) (asof-collapse m t vs o l) ∙ asof-effect t key vs o
settled_rows false m t key vs o l = refl

-- ---- what a partition names on the shelf

listed_by : (y : Delta) (i : ℕ) (xs ys : List Delta) (b c : Bool) → (y.id == i) ≡ b → (b ≡ true → c ≡ true) → delta_with xs i ≡ delta_with ys i → delta_with (cond c (y ∷ xs) xs) i ≡ cond b (Some y) (delta_with ys i)
listed_by y i xs ys b true e h d = ap₂ (λ (x : Bool) (o : Option Delta). cond x (Some y) o) e d
listed_by y i xs ys true false e h d = absurd (false≢true (h refl))
listed_by y i xs ys false false e h d = d

is_listed_as : (ps : List Part) (y : Delta) (i : ℕ) → (y.id == i) ≡ true → list_any (λ p. lists_id p.ids i) ps ≡ true → is_listed ps y ≡ true
is_listed_as ps y i e h = ap (λ (k : ℕ). list_any (λ p. lists_id p.ids k) ps) (eqb-true y.id i e) ∙ h

pub shelf_keeps : (ps : List Part) (shelf : List Delta) (i : ℕ) → list_any (λ p. lists_id p.ids i) ps ≡ true → delta_with (on_shelf ps shelf) i ≡ delta_with shelf i
shelf_keeps ps [] i h = refl
shelf_keeps ps (y ∷ shelf) i h = listed_by y i (on_shelf ps shelf) shelf (y.id == i) (is_listed ps y) refl (λ e. is_listed_as ps y i e h) (shelf_keeps ps shelf i h)

shelf_names : (ps : List Part) (shelf : List Delta) (ids : List ℕ) → AllByRecursion (λ i. IsTrue (list_any (λ p. lists_id p.ids i) ps)) ids → deltas_of (on_shelf ps shelf) ids ≡ deltas_of shelf ids
shelf_names ps shelf [] a = refl
shelf_names ps shelf (i ∷ ids) a = ap₂ cons_option (shelf_keeps ps shelf i a.0) (shelf_names ps shelf ids a.1)

-- the ids that a partition lists stay named on the shelf of what the partitions list
pub listed_names : (ps : List Part) (shelf : List Delta) (q : Part) → Contains ps q → deltas_of (on_shelf ps shelf) q.ids ≡ deltas_of shelf q.ids
listed_names ps shelf q h = shelf_names ps shelf q.ids (all_from (λ i. IsTrue (list_any (λ p. lists_id p.ids i) ps)) q.ids (λ i k. any_of (λ p. lists_id p.ids i) ps q h (any_from q.ids i k)))

-- ---- a compaction

-- the ids that are no inputs
abbrev pub is_other : Job → ℕ → Bool
is_other j i = not (list_any (λ k. k == i) j.inputs)

abbrev pub others : Job → Part → List ℕ
others j p = filter (is_other j) p.ids

abbrev pub output_delta : Durable → Job → Delta
output_delta d j = delta_of d.next_id j.catalogue (job_output d.shelf j)

abbrev pub new_ones : Option ℕ → Delta → List Delta
new_ones None x = []
new_ones (Some id) x = x ∷ []

-- the durable part that it leaves, with the id of its output or none
abbrev pub compacted_by : Option ℕ → Durable → Job → Durable
compacted_by o d j =
    let e = with_delta o j.catalogue (job_output d.shelf j) d in
    let parts = parts_replaced j o (ranges_of d) d.parts in
    record e { parts = parts; shelf = on_shelf parts e.shelf }

abbrev pub inputs_of_job : Durable → Job → List Delta
inputs_of_job d j = deltas_of d.shelf j.inputs

-- What is given of a partition in the job's range.
pub record InJob (d : Durable) (fs : List (Header × List Item)) (j : Job) (o : Option ℕ) (p : Part) (r : Range) : Type 0 where
  pub sound : SoundPart d fs p r
  pub within : lies_in r j.range ≡ true
  pub listed : ListsAll p.ids j.inputs
  pub rest : IsTrue j.is_major → AllByRecursion (Rest d j r) p.ids
  pub known : AllByRecursion (IsKnown d) p.ids
  pub below : AllByRecursion (λ y. y.id < d.next_id) d.shelf
  pub output : OutputIn d.catalogue (inputs_of_job d j) (output_delta d j) j.range j.is_major j.minimum
  pub id : ((o ≡ None) × (job_output d.shelf j ≡ [])) ⊎ (o ≡ Some d.next_id)
  pub minimum : j.minimum ≤ d.minimum
  pub kept : Contains (compacted_by o d j).parts (replaced j o p)

some_known : (d : Durable) (ids : List ℕ) → AllByRecursion (IsKnown d) ids → AllByRecursion (λ i. IsTrue (is_some (delta_with d.shelf i))) ids
some_known d ids a = all_map (IsKnown d) (λ i. IsTrue (is_some (delta_with d.shelf i))) ids (λ i k. k.0) a

deltas_by : (d : Durable) (j : Job) (o : Option ℕ) (p : Part) → AllByRecursion (IsKnown d) (others j p) → AllByRecursion (λ y. y.id < d.next_id) d.shelf → ((o ≡ None) × (job_output d.shelf j ≡ [])) ⊎ (o ≡ Some d.next_id)
    → deltas_of (with_delta o j.catalogue (job_output d.shelf j) d).shelf (replaced j o p).ids ≡ deltas_of d.shelf (others j p) ++ new_ones o (output_delta d j)
deltas_by d j o p known below (inl h) = subst (λ (o : Option ℕ). deltas_of (with_delta o j.catalogue (job_output d.shelf j) d).shelf (replaced j o p).ids ≡ deltas_of d.shelf (others j p) ++ new_ones o (output_delta d j)) (sym h.0) (sym (append-nil (deltas_of d.shelf (others j p))))
deltas_by d j o p known below (inr h) = let x = output_delta d j in
    subst (λ (o : Option ℕ). deltas_of (with_delta o j.catalogue (job_output d.shelf j) d).shelf (replaced j o p).ids ≡ deltas_of d.shelf (others j p) ++ new_ones o (output_delta d j)) (sym h)
    (filter_map-append (delta_with (d.shelf ++ x ∷ [])) (others j p) (d.next_id ∷ [])
    ∙ ap₂ (λ (a b : List Delta). a ++ b) (named_stay d.shelf (x ∷ []) (others j p) (some_known d (others j p) known)) (ap (λ (o : Option Delta). cons_option o []) (new_named d.shelf x below)))

deltas_after : (d : Durable) (fs : List (Header × List Item)) (j : Job) (o : Option ℕ) (p : Part) (r : Range) → InJob d fs j o p r → deltas_of (compacted_by o d j).shelf (replaced j o p).ids ≡ deltas_of d.shelf (others j p) ++ new_ones o (output_delta d j)
deltas_after d fs j o p r a = listed_names (compacted_by o d j).parts (with_delta o j.catalogue (job_output d.shelf j) d).shelf (replaced j o p) a.kept
    ∙ deltas_by d j o p (all_filter (IsKnown d) (is_other j) p.ids a.known) a.below a.id

-- ---- what the partition has stored

abbrev carry : Durable → ℕ → Delta → List RowVersion
carry d n = carried_versions d.catalogue n

abbrev other_lists : Durable → Job → Part → ℕ → List (List RowVersion)
other_lists d j p n = map (carry d n) (deltas_of d.shelf (others j p))

abbrev input_list : Durable → Job → ℕ → List RowVersion
input_list d j n = merged_of d.catalogue (inputs_of_job d j) j.range n

abbrev output_list : Durable → Job → ℕ → List RowVersion
output_list d j n = settled j.is_major j.minimum (input_list d j n)

merge_end : (xs : List (List RowVersion)) → merge (xs ++ [] ∷ []) ≡ merge xs
unfolding merge
merge_end [] = refl
merge_end (vs ∷ xs) = ap (put_versions vs) (merge_end xs)

-- an output without versions
none_carried : (d : Durable) (j : Job) (n : ℕ) → job_output d.shelf j ≡ [] → carry d n (output_delta d j) ≡ []
none_carried d j n e = ap (λ (l : List (ℕ × List RowVersion)). carry d n (delta_of d.next_id j.catalogue l)) e

lists_by : (d : Durable) (j : Job) (o : Option ℕ) (p : Part) (n : ℕ) → ((o ≡ None) × (job_output d.shelf j ≡ [])) ⊎ (o ≡ Some d.next_id) → carry d n (output_delta d j) ≡ output_list d j n
    → merge (map (carry d n) (deltas_of d.shelf (others j p) ++ new_ones o (output_delta d j))) ≡ merge (other_lists d j p n ++ output_list d j n ∷ [])
lists_by d j o p n (inl h) e = subst (λ (o : Option ℕ). merge (map (carry d n) (deltas_of d.shelf (others j p) ++ new_ones o (output_delta d j))) ≡ merge (other_lists d j p n ++ output_list d j n ∷ [])) (sym h.0)
    (ap (λ (ds : List Delta). merge (map (carry d n) ds)) (append-nil (deltas_of d.shelf (others j p))) ∙ sym (merge_end (other_lists d j p n)) ∙ ap (λ (l : List RowVersion). merge (other_lists d j p n ++ l ∷ [])) (sym (none_carried d j n h.1) ∙ e))
lists_by d j o p n (inr h) e = subst (λ (o : Option ℕ). merge (map (carry d n) (deltas_of d.shelf (others j p) ++ new_ones o (output_delta d j))) ≡ merge (other_lists d j p n ++ output_list d j n ∷ [])) (sym h)
    (ap merge (map-append (carry d n) (deltas_of d.shelf (others j p)) (output_delta d j ∷ [])) ∙ ap (λ (l : List RowVersion). merge (other_lists d j p n ++ l ∷ [])) e)

stored_after : (d : Durable) (fs : List (Header × List Item)) (j : Job) (o : Option ℕ) (p : Part) (r : Range) (n : ℕ) → InJob d fs j o p r → stored (compacted_by o d j) (replaced j o p) r n ≡ clip r (merge (other_lists d j p n ++ output_list d j n ∷ []))
stored_after d fs j o p r n a = same_catalogue o ∙ ap (λ (ds : List Delta). clip r (merge (map (carry d n) ds))) (deltas_after d fs j o p r a) ∙ ap (clip r) (lists_by d j o p n a.id (a.output.is n))
  where
    same_catalogue : (u : Option ℕ) → clip r (merge (map (carried_versions (compacted_by u d j).catalogue n) (deltas_of (compacted_by o d j).shelf (replaced j o p).ids))) ≡ clip r (merge (map (carry d n) (deltas_of (compacted_by o d j).shelf (replaced j o p).ids)))
    same_catalogue None = refl
    same_catalogue (Some id) = refl

-- a delta that an id of the partition names
other_named : (d : Durable) (j : Job) (p : Part) (y : Delta) → Contains (deltas_of d.shelf (others j p)) y → Contains (deltas_of d.shelf p.ids) y × ((i : ℕ) × Contains p.ids i × (is_other j i ≡ true) × (delta_with d.shelf i ≡ Some y))
other_named d j p y h =
    let f = from_filter_map (delta_with d.shelf) (others j p) y h in
    let g = from-filter (is_other j) p.ids f.0 f.1 in
    (in_filter_map (delta_with d.shelf) p.ids f.0 y g.0 f.2, (f.0, g.0, g.1, f.2))

input_named : (d : Durable) (j : Job) (p : Part) (y : Delta) → ListsAll p.ids j.inputs → Contains (inputs_of_job d j) y → Contains (deltas_of d.shelf p.ids) y
input_named d j p y l h =
    let f = from_filter_map (delta_with d.shelf) j.inputs y h in
    let g = any_held (λ x. x == f.0) p.ids (all_at (λ i. IsTrue (list_any (λ x. x == i) p.ids)) j.inputs f.0 l f.1) in
    in_filter_map (delta_with d.shelf) p.ids f.0 y (subst (Contains p.ids) (eqb-true g.0 f.0 g.2) g.1) f.2

-- equal names in the partition's deltas are equal versions
same_in : (d : Durable) (fs : List (Header × List Item)) (p : Part) (r : Range) (n : ℕ) (y z : Delta) (v w : RowVersion) → SoundPart d fs p r → Contains (deltas_of d.shelf p.ids) y → Contains (deltas_of d.shelf p.ids) z → Contains (carry d n y) v → Contains (carry d n z) w
    → in_range v.key r ≡ true → v.key ≡ w.key → v.ts ≡ w.ts → v ≡ w
same_in d fs p r n y z v w s h i a b u k t = s.agree y z n v w h i (in-filter (λ v. in_range v.key r) (carry d n y) v a u) (in-filter (λ v. in_range v.key r) (carry d n z) w b (ap (λ (x : List ℕ). in_range x r) (sym k) ∙ u)) (is_same_name v w k t)

-- a version of one of some deltas of the partition is in their merge
in_merge : (d : Durable) (fs : List (Header × List Item)) (p : Part) (r : Range) (n : ℕ) (xs : List Delta) (y : Delta) (v : RowVersion) → SoundPart d fs p r → ((x : Delta) → Contains xs x → Contains (deltas_of d.shelf p.ids) x) → Contains xs y → Contains (carry d n y) v
    → in_range v.key r ≡ true → Contains (merge (map (carry d n) xs)) v
in_merge d fs p r n xs y v s sub h i u =
    let m = merge_has (map (carry d n) xs) (carry d n y) v (in_map (carry d n) xs y h) i in
    let z = from_map (carry d n) xs m.list m.known in
    let e : v ≡ m.version = same_in d fs p r n y z.0 v m.version s (sub y h) (sub z.0 z.1) i (subst (λ (l : List RowVersion). Contains l m.version) (sym z.2) m.held) u m.key (sym m.ts) in
    subst (Contains (merge (map (carry d n) xs))) (sym e) m.merged

-- the inputs merged beside the others hold what the partition had
stored_plain : (d : Durable) (fs : List (Header × List Item)) (j : Job) (o : Option ℕ) (p : Part) (r : Range) (n : ℕ) → InJob d fs j o p r → clip r (merge (other_lists d j p n ++ input_list d j n ∷ [])) ≡ stored d p r n
stored_plain d fs j o p r n a =
    let os = other_lists d j p n in
    let mj = input_list d j n in
    let test : RowVersion → Bool = λ v. in_range v.key r in
    let alone : merge (mj ∷ []) ≡ mj = merge-alone mj (clip-ordered j.range (merge (map (carry d n) (inputs_of_job d j))) (merge-ordered (map (carry d n) (inputs_of_job d j)))) in
    let old = merge (map (carry d n) (deltas_of d.shelf p.ids)) in
    same-held (clip r (merge (os ++ mj ∷ []))) (stored d p r n) (clip-ordered r (merge (os ++ mj ∷ [])) (merge-ordered (os ++ mj ∷ []))) (clip-ordered r old (merge-ordered (map (carry d n) (deltas_of d.shelf p.ids))))
    (λ v h. let f = from-filter test (merge (os ++ mj ∷ [])) v h in elim (merged_from os (mj ∷ []) v f.0) [
      | inl i ↦ (let m = merged_member os v i in let y = from_map (carry d n) (deltas_of d.shelf (others j p)) m.0 m.1 in
          listed_stored d fs p r n y.0 v a.sound (other_named d j p y.0 y.1).0 (in-filter test (carry d n y.0) v (subst (λ (l : List RowVersion). Contains l v) (sym y.2) m.2) f.1))
      | inr i ↦ (let y = merged_from_delta d.catalogue (inputs_of_job d j) j.range n v (subst (λ (l : List RowVersion). Contains l v) alone i) in
          listed_stored d fs p r n y.0 v a.sound (input_named d j p y.0 a.listed y.1) (in-filter test (carry d n y.0) v y.2 f.1))
    ])
    (λ v h.
    let f = from-filter test old v h in
    let m = merged_member (map (carry d n) (deltas_of d.shelf p.ids)) v f.0 in
    let y = from_map (carry d n) (deltas_of d.shelf p.ids) m.0 m.1 in
    let mine : Contains (carry d n y.0) v = subst (λ (l : List RowVersion). Contains l v) (sym y.2) m.2 in
    let i = from_filter_map (delta_with d.shelf) p.ids y.0 y.1 in
    in-filter test (merge (os ++ mj ∷ [])) v (pick (list_any (λ k. k == i.0) j.inputs)
    (λ e. let k = any_held (λ k. k == i.0) j.inputs e in
    let input : Contains (inputs_of_job d j) y.0 = in_filter_map (delta_with d.shelf) j.inputs i.0 y.0 (subst (Contains j.inputs) (eqb-true k.0 i.0 k.2) k.1) i.2 in
    let merged = in_merge d fs p r n (inputs_of_job d j) y.0 v a.sound (λ x b. input_named d j p x a.listed b) input mine f.1 in
    let here : Contains mj v = in-filter (λ v. in_range v.key j.range) (merge (map (carry d n) (inputs_of_job d j))) v merged (in_lies v.key r j.range a.within f.1) in
    merged_new os (mj ∷ []) v (subst (λ (l : List RowVersion). Contains l v) (sym alone) here)
    (λ w b s t. let q = merged_member os w b in let z = from_map (carry d n) (deltas_of d.shelf (others j p)) q.0 q.1 in
    sym (same_in d fs p r n y.0 z.0 v w a.sound y.1 (other_named d j p z.0 z.1).0 mine (subst (λ (l : List RowVersion). Contains l w) (sym z.2) q.2) f.1 (sym s) (sym t))))
    (λ e. let other : Contains (deltas_of d.shelf (others j p)) y.0 = in_filter_map (delta_with d.shelf) (others j p) i.0 y.0 (in-filter (is_other j) p.ids i.0 i.1 (ap not e)) i.2 in
    merged_old os (mj ∷ []) v (in_merge d fs p r n (deltas_of d.shelf (others j p)) y.0 v a.sound (λ x b. (other_named d j p x b).0) other mine f.1))) f.1)

-- for a major job the other deltas' versions are above its minimum
other_late : (d : Durable) (fs : List (Header × List Item)) (j : Job) (o : Option ℕ) (p : Part) (r : Range) (n : ℕ) (y : Delta) (v : RowVersion) → InJob d fs j o p r → j.is_major ≡ true → Contains (deltas_of d.shelf (others j p)) y → Contains (carry d n y) v → in_range v.key r ≡ true → j.minimum < v.ts
other_late d fs j o p r n y v a major h i w =
    let x = (other_named d j p y h).1 in
    elim (all_at (Rest d j r) p.ids x.0 (a.rest major) x.1) [
      | inl e ↦ absurd (false≢true (sym (not-true (list_any (λ k. k == x.0) j.inputs) x.2) ∙ e))
      | inr f ↦ (let late : AllByRecursion (λ v. j.minimum < v.ts) (clip r (merge (carry d n y ∷ []))) = subst (λ (q : Option Delta). AllByRecursion (λ v. j.minimum < v.ts) (clip r (merge (map (carry d n) (cons_option q []))))) x.3 (f n) in
          let m = merge_has (carry d n y ∷ []) (carry d n y) v (zero, omega arith, refl) i in
          let l : j.minimum < m.version.ts = all_at (λ v. j.minimum < v.ts) (clip r (merge (carry d n y ∷ []))) m.version late (in-filter (λ v. in_range v.key r) (merge (carry d n y ∷ [])) m.version m.merged (ap (λ (k : List ℕ). in_range k r) (sym m.key) ∙ w)) in
          let t = m.ts in omega (arith, l, t))
    ]

-- one list beside others, clipped
beside_clipped : (r : Range) (os : List (List RowVersion)) (ys : List RowVersion) → clip r (merge (os ++ ys ∷ [])) ≡ merge (clip r (merge os) ∷ clip r ys ∷ [])
beside_clipped r os ys = clip-merge r (os ++ ys ∷ []) ∙ ap merge (map-append (clip r) os (ys ∷ [])) ∙ sym (merge-within [] (map (clip r) os) (clip r ys ∷ [])) ∙ ap (λ (l : List RowVersion). merge (l ∷ clip r ys ∷ [])) (sym (clip-merge r os))

settled_by : (d : Durable) (fs : List (Header × List Item)) (j : Job) (o : Option ℕ) (p : Part) (r : Range) (n : ℕ) (b : Bool) → j.is_major ≡ b → InJob d fs j o p r
    → clip r (merge (other_lists d j p n ++ settled b j.minimum (input_list d j n) ∷ [])) ≡ settled b j.minimum (stored d p r n)
settled_by d fs j o p r n false e a = stored_plain d fs j o p r n a
settled_by d fs j o p r n true e a =
    let m = j.minimum in
    let os = other_lists d j p n in
    let mj = input_list d j n in
    let ordered = clip-ordered j.range (merge (map (carry d n) (inputs_of_job d j))) (merge-ordered (map (carry d n) (inputs_of_job d j))) in
    let newer = clip r (merge os) in
    let late : AllByRecursion (λ v. m < v.ts) newer = all_from (λ v. m < v.ts) newer (λ v h.
    let f = from-filter (λ v. in_range v.key r) (merge os) v h in
    let q = merged_member os v f.0 in
    let y = from_map (carry d n) (deltas_of d.shelf (others j p)) q.0 q.1 in
    other_late d fs j o p r n y.0 v a e y.1 (subst (λ (l : List RowVersion). Contains l v) (sym y.2) q.2) f.1) in
    beside_clipped r os (collapse m mj)
    ∙ ap (λ (l : List RowVersion). merge (newer ∷ l ∷ [])) (sym (collapse-clip m r mj ordered) ∙ ap (collapse m) (sym (merge-alone (clip r mj) (clip-ordered r mj ordered))))
    ∙ sym (collapse-newer m newer (clip r mj ∷ []) late) ∙ ap (collapse m) (sym (beside_clipped r os mj) ∙ stored_plain d fs j o p r n a)

-- What the partition has stored is what it had, settled.
pub store_settled : (d : Durable) (fs : List (Header × List Item)) (j : Job) (o : Option ℕ) (p : Part) (r : Range) (n : ℕ) → InJob d fs j o p r → stored (compacted_by o d j) (replaced j o p) r n ≡ settled j.is_major j.minimum (stored d p r n)
store_settled d fs j o p r n a = stored_after d fs j o p r n a ∙ settled_by d fs j o p r n j.is_major refl a

-- ---- the durable part that a compaction leaves

abbrev pub next_after : Option ℕ → Durable → ℕ
next_after None d = d.next_id
next_after (Some id) d = id + 1

abbrev pub compact_of : Option ℕ → Durable → Job → Durable
compact_of o d j = let parts = parts_replaced j o (ranges_of d) d.parts in record d { next_id = next_after o d; parts = parts; shelf = on_shelf parts (d.shelf ++ new_ones o (output_delta d j)) }

pub compacted_is : (d : Durable) (j : Job) (o : Option ℕ) → (o ≡ None) ⊎ (o ≡ Some d.next_id) → compacted_by o d j ≡ compact_of o d j
compacted_is d j o (inl h) = subst (λ (o : Option ℕ). compacted_by o d j ≡ compact_of o d j) (sym h)
    (ap (λ (shelf : List Delta). let e : Durable = record d { parts = parts_replaced j None (ranges_of d) d.parts; shelf = on_shelf (parts_replaced j None (ranges_of d) d.parts) shelf } in e) (sym (append-nil d.shelf)))
compacted_is d j o (inr h) = subst (λ (o : Option ℕ). compacted_by o d j ≡ compact_of o d j) (sym h) refl

pub only_id : (d : Durable) (j : Job) (o : Option ℕ) → ((o ≡ None) × (job_output d.shelf j ≡ [])) ⊎ (o ≡ Some d.next_id) → (o ≡ None) ⊎ (o ≡ Some d.next_id)
only_id d j o (inl h) = inl h.0
only_id d j o (inr h) = inr h

-- the partition with its other ids
abbrev pub changed : Job → Option ℕ → Part → Part
changed j o p = record p { ids = (replaced j o p).ids }

pub changed_is : (j : Job) (o : Option ℕ) (p : Part) → replaced j o p ≡ changed j o p
changed_is j None p = refl
changed_is j (Some id) p = refl

pub stored_settled : (d : Durable) (fs : List (Header × List Item)) (j : Job) (o : Option ℕ) (p : Part) (r : Range) (n : ℕ) → InJob d fs j o p r → stored (compact_of o d j) (changed j o p) r n ≡ settled j.is_major j.minimum (stored d p r n)
stored_settled d fs j o p r n a = ap (λ (e : Durable). stored e (changed j o p) r n) (sym (compacted_is d j o (only_id d j o a.id))) ∙ store_settled d fs j o p r n a

stored_ordered : (d : Durable) (p : Part) (r : Range) (n : ℕ) → IsTrue (is_ordered (stored d p r n))
stored_ordered d p r n = clip-ordered r (merge (map (carry d n) (deltas_of d.shelf p.ids))) (merge-ordered (map (carry d n) (deltas_of d.shelf p.ids)))

new_held : (o : Option ℕ) (x y : Delta) → Contains (new_ones o x) y → x ≡ y
new_held None x y h = absurd (omega (arith, h.1))
new_held (Some id) x y h = held_one x y h

-- a version of the output with the name of another delta's is it
agree_other : (d : Durable) (fs : List (Header × List Item)) (j : Job) (o : Option ℕ) (p : Part) (r : Range) (n : ℕ) (z : Delta) (v w : RowVersion) → InJob d fs j o p r → Contains (deltas_of d.shelf (others j p)) z → Contains (clip r (carry d n (output_delta d j))) v
    → Contains (clip r (carry d n z)) w → v.key ≡ w.key → v.ts ≡ w.ts → v ≡ w
agree_other d fs j o p r n z v w a h i k key ts =
    let test : RowVersion → Bool = λ v. in_range v.key r in
    let f = from-filter test (carry d n (output_delta d j)) v i in
    let g = from-filter test (carry d n z) w k in
    let out : Contains (output_list d j n) v = subst (λ (l : List RowVersion). Contains l v) (a.output.is n) f.0 in
    let mine : Contains (input_list d j n) v = settled_from j.is_major j.minimum (input_list d j n) v (λ major. (let l : j.minimum < w.ts = other_late d fs j o p r n z w a major h g.0 g.1 in omega (arith, l, ts))) out in
    let y = merged_from_delta d.catalogue (inputs_of_job d j) j.range n v mine in
    same_in d fs p r n y.0 z v w a.sound (input_named d j p y.0 a.listed y.1) (other_named d j p z h).0 y.2 g.0 f.1 key ts

agree_output : (d : Durable) (fs : List (Header × List Item)) (j : Job) (o : Option ℕ) (p : Part) (r : Range) (n : ℕ) (v w : RowVersion) → InJob d fs j o p r → Contains (clip r (carry d n (output_delta d j))) v → Contains (clip r (carry d n (output_delta d j))) w
    → v.key ≡ w.key → v.ts ≡ w.ts → v ≡ w
agree_output d fs j o p r n v w a i k key ts =
    let test : RowVersion → Bool = λ v. in_range v.key r in
    let out = output_list d j n in
    let ordered = settled_ordered j.is_major j.minimum (input_list d j n) (clip-ordered j.range (merge (map (carry d n) (inputs_of_job d j))) (merge-ordered (map (carry d n) (inputs_of_job d j)))) in
    let hv : Contains out v = subst (λ (l : List RowVersion). Contains l v) (a.output.is n) (from-filter test (carry d n (output_delta d j)) v i).0 in
    let hw : Contains out w = subst (λ (l : List RowVersion). Contains l w) (a.output.is n) (from-filter test (carry d n (output_delta d j)) w k).0 in
    let e : Some v ≡ Some w = sym (held-found out v ordered hv) ∙ ap₂ (λ (x : List ℕ) (t : ℕ). find (named x t) out) key ts ∙ held-found out w ordered hw in cc

agree_after : (d : Durable) (fs : List (Header × List Item)) (j : Job) (o : Option ℕ) (p : Part) (r : Range) (n : ℕ) (y z : Delta) (v w : RowVersion) → InJob d fs j o p r → Contains (deltas_of d.shelf (others j p) ++ new_ones o (output_delta d j)) y → Contains (deltas_of d.shelf (others j p) ++ new_ones o (output_delta d j)) z
    → Contains (clip r (carry d n y)) v → Contains (clip r (carry d n z)) w → IsTrue (same_name v w) → v ≡ w
agree_after d fs j o p r n y z v w a b c i k e =
    let s = same_names v w e in
    let ds = deltas_of d.shelf (others j p) in
    let x = output_delta d j in
    elim (held_either ds (new_ones o x) y b) [
      | inl old ↦ elim (held_either ds (new_ones o x) z c) [
        | inl other ↦ a.sound.agree y z n v w (other_named d j p y old).0 (other_named d j p z other).0 i k e
        | inr new ↦ sym (agree_other d fs j o p r n y w v a old (subst (λ (u : Delta). Contains (clip r (carry d n u)) w) (sym (new_held o x z new)) k) i (sym s.0) (sym s.1))
      ]
      | inr new ↦ (let mine : Contains (clip r (carry d n x)) v = subst (λ (u : Delta). Contains (clip r (carry d n u)) v) (sym (new_held o x y new)) i in elim (held_either ds (new_ones o x) z c) [
        | inl other ↦ agree_other d fs j o p r n z v w a other mine k s.0 s.1
        | inr also ↦ agree_output d fs j o p r n v w a mine (subst (λ (u : Delta). Contains (clip r (carry d n u)) w) (sym (new_held o x z also)) k) s.0 s.1
      ])
    ]

shelf_after : (d : Durable) (fs : List (Header × List Item)) (j : Job) (o : Option ℕ) (p : Part) (r : Range) → InJob d fs j o p r → deltas_of (compact_of o d j).shelf (changed j o p).ids ≡ deltas_of d.shelf (others j p) ++ new_ones o (output_delta d j)
shelf_after d fs j o p r a = ap (λ (e : Durable). deltas_of e.shelf (changed j o p).ids) (sym (compacted_is d j o (only_id d j o a.id))) ∙ deltas_after d fs j o p r a

-- The partition stays sound.
pub part_compacted : (d : Durable) (fs : List (Header × List Item)) (j : Job) (o : Option ℕ) (p : Part) (r : Range) → InJob d fs j o p r → SoundPart (compact_of o d j) fs (changed j o p) r
part_compacted d fs j o p r a =
    let low = a.minimum in
    let b = j.is_major in
    let m = j.minimum in
    let more = shelf_after d fs j o p r a in record {
      only_changes = λ table v h l. a.sound.only_changes table v (settled_from b m (stored d p r table) v (λ major. omega (arith, low, l)) (subst (λ (vs : List RowVersion). Contains vs v) (stored_settled d fs j o p r table a) h)) l;
      all_changes = λ c h w l u. subst (λ (vs : List RowVersion). Contains vs (seen d.catalogue c)) (sym (stored_settled d fs j o p r c.table a))
          (settled_in b m (stored d p r c.table) (seen d.catalogue c) (stored_ordered d p r c.table) (let t = seen-ts d.catalogue c in omega (arith, t, low, l)) (a.sound.all_changes c h w l u));
      rows = λ t key k w h. ap (λ (vs : List RowVersion). effect_of (up_to_ts key d.minimum vs)) (stored_settled d fs j o p r t.number a) ∙ settled_rows b m d.minimum key (stored d p r t.number) (stored_ordered d p r t.number) low ∙ a.sound.rows t key k w h;
      agree = λ y z table v w b c i k e. agree_after d fs j o p r table y z v w a (subst (λ (ds : List Delta). Contains ds y) more b) (subst (λ (ds : List Delta). Contains ds z) more c) i k e;
      minimum = a.sound.minimum;
      resume = a.sound.resume;
    }

-- what is pending there stays so, or is stored
pub pending_compacted : (d : Durable) (fs : List (Header × List Item)) (cs : List Change) (j : Job) (o : Option ℕ) (p : Part) (r : Range) (names : List (List ℕ × ℕ)) → InJob d fs j o p r → PendingOf d.catalogue d cs p r names → PendingOf d.catalogue (compact_of o d j) cs (changed j o p) r names
pending_compacted d fs cs j o p r names a h = record {
  are_changes = h.are_changes;
  none_lost = λ c i w l. elim (h.none_lost c i w l) [
    | inl n ↦ inl n
    | inr k ↦ inr (subst (λ (vs : List RowVersion). Contains vs (seen d.catalogue c)) (sym (stored_settled d fs j o p r c.table a))
        (settled_in j.is_major j.minimum (stored d p r c.table) (seen d.catalogue c) (stored_ordered d p r c.table) (let t = seen-ts d.catalogue c in let low = a.minimum in let min = a.sound.minimum in omega (arith, t, low, min, l)) k))
  ];
  ordered = h.ordered;
}

-- ---- the other partitions

some_shelf : (d : Durable) (j : Job) (o : Option ℕ) (p : Part) → AllByRecursion (IsKnown d) p.ids → Contains (compact_of o d j).parts p → deltas_of (compact_of o d j).shelf p.ids ≡ deltas_of d.shelf p.ids
some_shelf d j o p known h = listed_names (compact_of o d j).parts (d.shelf ++ new_ones o (output_delta d j)) p h ∙ named_stay d.shelf (new_ones o (output_delta d j)) p.ids (some_known d p.ids known)

pub part_beside : (d : Durable) (fs : List (Header × List Item)) (j : Job) (o : Option ℕ) (p : Part) (r : Range) → AllByRecursion (IsKnown d) p.ids → Contains (compact_of o d j).parts p → SoundPart d fs p r → SoundPart (compact_of o d j) fs p r
part_beside d fs j o p r known h s =
    let same_deltas = some_shelf d j o p known h in
    let same_store = λ (n : ℕ). ap (λ (ds : List Delta). clip r (merge (map (carry d n) ds))) same_deltas in record {
      only_changes = λ table v h l. s.only_changes table v (subst (λ (vs : List RowVersion). Contains vs v) (same_store table) h) l;
      all_changes = λ c h w l m. subst (λ (vs : List RowVersion). Contains vs (seen d.catalogue c)) (sym (same_store c.table)) (s.all_changes c h w l m);
      rows = λ t key k w h. ap (λ (vs : List RowVersion). effect_of (up_to_ts key d.minimum vs)) (same_store t.number) ∙ s.rows t key k w h;
      agree = λ y z table v w b c i j k. s.agree y z table v w (subst (λ (ds : List Delta). Contains ds y) same_deltas b) (subst (λ (ds : List Delta). Contains ds z) same_deltas c) i j k;
      minimum = s.minimum;
      resume = s.resume;
    }

pub pending_beside : (d : Durable) (cs : List Change) (j : Job) (o : Option ℕ) (p : Part) (r : Range) (names : List (List ℕ × ℕ)) → AllByRecursion (IsKnown d) p.ids → Contains (compact_of o d j).parts p → PendingOf d.catalogue d cs p r names → PendingOf d.catalogue (compact_of o d j) cs p r names
pending_beside d cs j o p r names known h a = record {
  are_changes = a.are_changes;
  none_lost = λ c i w l. elim (a.none_lost c i w l) [ inl n ↦ inl n | inr k ↦ inr (subst (λ (ds : List Delta). Contains (clip r (merge (map (carry d c.table) ds))) (seen d.catalogue c)) (sym (some_shelf d j o p known h)) k) ];
  ordered = a.ordered;
}
