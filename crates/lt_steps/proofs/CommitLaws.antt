-- What each command writes: the bundles of its new delta, their index, and the manifest.
use Rattle.std.proofs.Common.{Bool, List, [], ap, arith, cond, false, leb-false, leb-true, length, refl, sym, true, ℕ, ◌++◌, ◌<◌, ◌∙◌, ◌∷◌, ◌≡◌, ◌≤◌}
use Rattle.std.specs.Prelude.{None, Option, Some, filter, flat_map, if◌then◌else◌, nat_le, nat_lt, slice_get, ◌==◌, ◌||◌}
use Rattle.std.specs.List.{AllByRecursion, list_any}
use Rattle.std.proofs.lemmas.Bool.{false≢true}
use Rattle.std.proofs.lemmas.List.Elements.{filter-append}
use Rattle.lt_world.specs.Feed.{Feed}
use Rattle.lt_terms.specs.Key.{Range, lies_in}
use Rattle.lt_terms.specs.Log.{Change}
use Rattle.lt_machine.specs.Machine.{Answer, Does, Job, State, cat_of, compacted, flush_id, flushed_lists, is_listed, job_output, on_shelf, output_id, part_job, parts_replaced, pending_of, ranges_of, replaced, with_delta}
use Rattle.lt_machine.specs.Outside.{commit_lengths, new_deltas, writes_bundles}
use Rattle.lt_tables.specs.Schema.{when}
use Rattle.lt_tables.specs.Query.{Command, Mode, do_compact, do_flush, do_job_finish, do_retain, do_retire, do_schema, do_split}
use Rattle.lt_machine.specs.Sound.{HasPart, source_of}
use Rattle.lt_tables.specs.Pump.{Part}
use Rattle.lt_storage.specs.Store.{Delta, Durable, bundle_lengths, index_length, manifest_length}
use Rattle.lt_laws.proofs.DurableFacts.{shelf_below}
use Rattle.lt_session_laws.proofs.JobLaws.{any_from, as_many, part_job_is}
use Rattle.lt_lemmas.proofs.ListFacts.{all_filter}
use Rattle.lt_laws.proofs.ListFacts.{contains_rest}
use Rattle.lt_session_laws.proofs.PartsChanged.{any_there}
use Rattle.lt_lemmas.proofs.SoundLaws.{pick}
use Rattle.lt_session_laws.proofs.SplitLaws.{lies_itself}
use Rattle.lt_steps.specs.Rooms.{CommitLengths, flush_delta, job_delta}
use Rattle.lt_lemmas.proofs.SnapshotLaws.{or_left, or_right}

-- ---- the new deltas

abbrev is_new : ℕ → Delta → Bool
is_new n x = nat_le n x.id

old_by : (n : ℕ) (x : Delta) (xs : List Delta) (b : Bool) → is_new n x ≡ b → x.id < n → xs ≡ [] → cond b (x ∷ xs) xs ≡ []
old_by n x xs true e l f = let h : n ≤ x.id = leb-true n x.id e in absurd (omega (arith, h, l))
old_by n x xs false e l f = f

none_new : (n : ℕ) (xs : List Delta) → AllByRecursion (λ x. x.id < n) xs → filter (is_new n) xs ≡ []
none_new n [] a = refl
none_new n (x ∷ xs) a = old_by n x (filter (is_new n) xs) (is_new n x) refl a.0 (none_new n xs a.1)

new_one_by : (x : Delta) (b : Bool) → b ≡ true → cond b (x ∷ []) [] ≡ x ∷ []
new_one_by x true e = refl
new_one_by x false e = absurd (false≢true e)

is_itself : (n m : ℕ) → n ≡ m → nat_le n m ≡ true
is_itself n m e = pick (nat_le n m) (λ h. h) (λ h. let l : m < n = leb-false n m h in absurd (omega (arith, l, e)))

one_new : (n : ℕ) (xs : List Delta) (x : Delta) → AllByRecursion (λ x. x.id < n) xs → x.id ≡ n → filter (is_new n) (xs ++ x ∷ []) ≡ x ∷ []
one_new n xs x a e = filter-append (is_new n) xs (x ∷ []) ∙ ap (λ (ys : List Delta). ys ++ filter (is_new n) (x ∷ [])) (none_new n xs a) ∙ new_one_by x (is_new n x) (is_itself n x.id (sym e))

-- the lengths that go with them
abbrev lengths_for : Command → List Delta → Durable → List ℕ
lengths_for c xs d = flat_map (λ x. (if writes_bundles c then bundle_lengths x else []) ++ index_length x ∷ []) xs ++ manifest_length d ∷ []

lengths_none : (c : Command) (s s' : State) → new_deltas s s' ≡ [] → commit_lengths c s s' ≡ manifest_length s'.durable ∷ []
lengths_none c s s' e = ap (λ (xs : List Delta). lengths_for c xs s'.durable) e

lengths_one : (c : Command) (s s' : State) (x : Delta) → new_deltas s s' ≡ x ∷ [] → commit_lengths c s s' ≡ lengths_for c (x ∷ []) s'.durable
lengths_one c s s' x e = ap (λ (xs : List Delta). lengths_for c xs s'.durable) e

-- behind bundles stand the index and the manifest
joined : (ns : List ℕ) (i m : ℕ) → ((ns ++ i ∷ []) ++ []) ++ m ∷ [] ≡ ns ++ i ∷ m ∷ []
joined [] i m = refl
joined (n ∷ ns) i m = ap (λ (l : List ℕ). n ∷ l) (joined ns i m)

-- ---- a flush

abbrev below_next : State → Type 0
below_next s = AllByRecursion (λ x. x.id < s.durable.next_id) s.durable.shelf

shelf_same : (s s' : State) → below_next s → s'.durable.shelf ≡ s.durable.shelf → new_deltas s s' ≡ []
shelf_same s s' a e = ap (filter (is_new s.durable.next_id)) e ∙ none_new s.durable.next_id s.durable.shelf a

id_by : (b : Bool) (n id : ℕ) → when b n ≡ Some id → id ≡ n
id_by true n id e = cc
id_by false n id e = cc

flush_shelf : (f : Feed) (source : List Change) (s s' : State) (p : ℕ) (a : Answer) (o : Option ℕ) → flush_id s p ≡ o → Does f source s (do_flush p) a s' → s'.durable.shelf ≡ (with_delta o (cat_of s) (flushed_lists source (cat_of s) (pending_of s p)) s.durable).shelf
flush_shelf f source s s' p a o e d = ap (λ (x : State). x.durable.shelf) d.1 ∙ ap (λ (o : Option ℕ). (with_delta o (cat_of s) (flushed_lists source (cat_of s) (pending_of s p)) s.durable).shelf) e

flush_adds : (f : Feed) (source : List Change) (s s' : State) (p id : ℕ) (a : Answer) → below_next s → flush_id s p ≡ Some id → Does f source s (do_flush p) a s' → new_deltas s s' ≡ flush_delta source s p id ∷ []
flush_adds f source s s' p id a below e d =
    ap (filter (is_new s.durable.next_id)) (flush_shelf f source s s' p a (Some id) e d) ∙ one_new s.durable.next_id s.durable.shelf (flush_delta source s p id) below (id_by (nat_lt 0 (length (pending_of s p))) s.durable.next_id id e)

-- ---- a compaction

compact_shelf : (s s' : State) (j : Job) (o : Option ℕ) → output_id s.durable j ≡ o → s'.durable.shelf ≡ (compacted s.durable j).shelf
    → s'.durable.shelf ≡ on_shelf (parts_replaced j o (ranges_of s.durable) s.durable.parts) (with_delta o j.catalogue (job_output s.durable.shelf j) s.durable).shelf
compact_shelf s s' j o e f = f ∙ ap (λ (o : Option ℕ). on_shelf (parts_replaced j o (ranges_of s.durable) s.durable.parts) (with_delta o j.catalogue (job_output s.durable.shelf j) s.durable).shelf) e

compact_adds_none : (s s' : State) (j : Job) → below_next s → output_id s.durable j ≡ None → s'.durable.shelf ≡ (compacted s.durable j).shelf → new_deltas s s' ≡ []
compact_adds_none s s' j below e f =
    let ps = parts_replaced j None (ranges_of s.durable) s.durable.parts in
    ap (filter (is_new s.durable.next_id)) (compact_shelf s s' j None e f) ∙ none_new s.durable.next_id (on_shelf ps s.durable.shelf) (all_filter (λ x. x.id < s.durable.next_id) (is_listed ps) s.durable.shelf below)

-- a partition within the job's range lists the new delta
abbrev lists : ℕ → Part → Bool
lists id p = list_any (λ i. i == id) p.ids

lists_new : (j : Job) (id : ℕ) (p : Part) → lists id (replaced j (Some id) p) ≡ true
lists_new j id p = any_from (replaced j (Some id) p).ids id (contains_rest _ (id ∷ []) id (0, omega arith, refl))

listed_by : (j : Job) (id : ℕ) (p : Part) (ps : List Part) (b : Bool) (rest : Bool) → b || rest ≡ true → (rest ≡ true → list_any (lists id) ps ≡ true) → lists id (cond b (replaced j (Some id) p) p) || list_any (lists id) ps ≡ true
listed_by j id p ps true rest h f = or_left (lists id (replaced j (Some id) p)) (list_any (lists id) ps) (lists_new j id p)
listed_by j id p ps false rest h f = or_right (lists id p) (list_any (lists id) ps) (f h)

listed_in : (j : Job) (id : ℕ) (rs : List Range) (ps : List Part) → length ps ≡ length rs → list_any (λ r. lies_in r j.range) rs ≡ true → list_any (lists id) (parts_replaced j (Some id) rs ps) ≡ true
listed_in j id [] ps l h = absurd (false≢true h)
listed_in j id (r ∷ rs) [] l h = absurd (omega (arith, l))
listed_in j id (r ∷ rs) (p ∷ ps) l h = listed_by j id p (parts_replaced j (Some id) rs ps) (lies_in r j.range) (list_any (λ r. lies_in r j.range) rs) h (λ k. listed_in j id rs ps (omega (arith, l)) k)

-- filters one after the other
kept_two : (test : Delta → Bool) (n : ℕ) (xs : List Delta) (x : Delta) → AllByRecursion (λ x. x.id < n) xs → x.id ≡ n → test x ≡ true → filter (is_new n) (filter test (xs ++ x ∷ [])) ≡ x ∷ []
kept_two test n xs x a e t =
    ap (filter (is_new n)) (filter-append test xs (x ∷ []) ∙ ap (λ (ys : List Delta). filter test xs ++ ys) (new_one_by x (test x) t)) ∙ one_new n (filter test xs) x (all_filter (λ x. x.id < n) test xs a) e

compact_adds : (s s' : State) (j : Job) (id : ℕ) → below_next s → HasPart s.durable j → output_id s.durable j ≡ Some id → s'.durable.shelf ≡ (compacted s.durable j).shelf → new_deltas s s' ≡ job_delta s.durable j id ∷ []
compact_adds s s' j id below part e f =
    let ps = parts_replaced j (Some id) (ranges_of s.durable) s.durable.parts in
    let is : id ≡ s.durable.next_id = id_by (nat_lt 0 (length (job_output s.durable.shelf j))) s.durable.next_id id e in
    ap (filter (is_new s.durable.next_id)) (compact_shelf s s' j (Some id) e f)
    ∙ kept_two (is_listed ps) s.durable.next_id s.durable.shelf (job_delta s.durable j id) below is (listed_in j id (ranges_of s.durable) s.durable.parts (as_many s.durable.parts) part)

-- the partition of a compaction lies in its range
pub has_part : (d : Durable) (p : ℕ) (m : Mode) (j : Job) → part_job d p m ≡ Some j → HasPart d j
has_part d p m j e =
    let k = part_job_is d p m (slice_get d.parts p) (slice_get (ranges_of d) p) j refl refl e in
    any_there (λ r. lies_in r j.range) p (ranges_of d) k.1 k.3 (ap (λ (x : Job). lies_in k.1 x.range) (sym k.4) ∙ lies_itself k.1)

same_job : (x y : Job) (o : Option Job) → o ≡ Some x → o ≡ Some y → x ≡ y
same_job x y o e f = cc

compact_left : (f : Feed) (source : List Change) (s s' : State) (p : ℕ) (m : Mode) (j : Job) (a : Answer) → part_job s.durable p m ≡ Some j → Does f source s (do_compact p m) a s' → s'.durable.shelf ≡ (compacted s.durable j).shelf
compact_left f source s s' p m j a e d = ap (λ (x : State). x.durable.shelf) d.3 ∙ ap (λ (k : Job). (compacted s.durable k).shelf) (same_job d.0 j (part_job s.durable p m) d.1 e)

finish_left : (f : Feed) (source : List Change) (s s' : State) (j : Job) (a : Answer) → s.job ≡ Some j → Does f source s do_job_finish a s' → s'.durable.shelf ≡ (compacted s.durable j).shelf
finish_left f source s s' j a e d = ap (λ (x : State). x.durable.shelf) d.3 ∙ ap (λ (k : Job). (compacted s.durable k).shelf) (same_job d.0 j s.job d.1 e)

pub commit_laws : CommitLengths
commit_laws = record {
  flush_none = λ f fs s s' p a good e d. lengths_none (do_flush p) s s' (shelf_same s s' (shelf_below s.durable good.lawful) (flush_shelf f (source_of fs) s s' p a None e d));
  flush_some = λ f fs s s' p id a good e d. let x = flush_delta (source_of fs) s p id in
      lengths_one (do_flush p) s s' x (flush_adds f (source_of fs) s s' p id a (shelf_below s.durable good.lawful) e d) ∙ joined (bundle_lengths x) (index_length x) (manifest_length s'.durable);
  compact_none = λ f fs s s' p m j a good k e d. lengths_none (do_compact p m) s s' (compact_adds_none s s' j (shelf_below s.durable good.lawful) e (compact_left f (source_of fs) s s' p m j a k d));
  compact_some = λ f fs s s' p m j id a good k e d. let x = job_delta s.durable j id in
      lengths_one (do_compact p m) s s' x (compact_adds s s' j id (shelf_below s.durable good.lawful) (has_part s.durable p m j k) e (compact_left f (source_of fs) s s' p m j a k d)) ∙ joined (bundle_lengths x) (index_length x) (manifest_length s'.durable);
  finish_none = λ f fs s s' j a good k e d. lengths_none do_job_finish s s' (compact_adds_none s s' j (shelf_below s.durable good.lawful) e (finish_left f (source_of fs) s s' j a k d));
  finish_some = λ f fs s s' j id a good k part e d. lengths_one do_job_finish s s' (job_delta s.durable j id) (compact_adds s s' j id (shelf_below s.durable good.lawful) part e (finish_left f (source_of fs) s s' j a k d));
  schema = λ f fs s s' text a good d. lengths_none (do_schema text) s s' (shelf_same s s' (shelf_below s.durable good.lawful) (ap (λ (x : State). x.durable.shelf) d.3));
  retire = λ f fs s s' name v a good d. lengths_none (do_retire name v) s s' (shelf_same s s' (shelf_below s.durable good.lawful) (ap (λ (x : State). x.durable.shelf) d.3));
  split = λ f fs s s' name ls a good d. lengths_none (do_split name ls) s s' (shelf_same s s' (shelf_below s.durable good.lawful) (ap (λ (x : State). x.durable.shelf) d.3));
  retain = λ f fs s s' t a good d. lengths_none (do_retain t) s s' (shelf_same s s' (shelf_below s.durable good.lawful) (ap (λ (x : State). x.durable.shelf) d.1));
}
