-- A partition lists one delta more, which holds the changes that were pending there: the session stays good.
use Rattle.std.proofs.Common.{Bool, List, [], ap, arith, eq-eqb, eqb-true, inl, inr, leb-true, refl, subst, suc, sym, true, zero, ℕ, ◌++◌, ◌+◌, ◌<◌, ◌∙◌, ◌∷◌, ◌≡◌, ◌≤◌}
use Rattle.std.specs.Prelude.{Contains, IsTrue, None, Option, Some, find, is_some, map, nat_le, ◌&&◌, ◌==◌, ◌⊎◌}
use Rattle.std.specs.List.{AllByRecursion, cons_option, list_any}
use Rattle.std.proofs.lemmas.Bool.{and_from, and_parts}
use Rattle.std.proofs.lemmas.List.{map-append}
use Rattle.lt_terms.specs.Log.{Change, Header, Item, change_key}
use Rattle.lt_terms.specs.Key.{Range, common, in_range, same_key}
use Rattle.lt_tables.specs.Schema.{Catalogue, IsCatalogue, change_at, first_of}
use Rattle.lt_tables.specs.Row.{is_in_time}
use Rattle.lt_tables.specs.Version.{RowVersion, clip, effect_of, is_ordered, merge, same_name, seen}
use Rattle.lt_tables.specs.Pump.{Part}
use Rattle.lt_storage.specs.Store.{Delta, Durable, carried_versions, delta_with, deltas_of, merged_in, stored}
use Rattle.lt_machine.specs.Machine.{Job, seen_pending, with_id}
use Rattle.lt_machine.specs.Sound.{ListsAll, PendingOf, SoundPart, source_of, up_to_ts}
use Rattle.lt_codecs.proofs.ListFacts.{all_append, all_map}
use Rattle.lt_lemmas.proofs.PointLaws.{itself, same}
use Rattle.lt_lemmas.proofs.PumpLaws.{Name}
use Rattle.lt_lemmas.proofs.MergeLaws.{clip-ordered, filter-ordered, named, named-key, named-ts}
use Rattle.lt_lemmas.proofs.TakenLaws.{any_append}
use Rattle.lt_lemmas.proofs.ListFacts.{all_from}
use Rattle.lt_laws.proofs.AnswerLaws.{IsSound}
use Rattle.lt_laws.proofs.HeldLaws.{once}
use Rattle.lt_laws.proofs.ScanLemmas.{found-held, from-filter, in-filter, same-held, seen-key, seen-ts}
use Rattle.lt_laws.proofs.ScanLaws.{seen_from}
use Rattle.lt_laws.proofs.MergeLaws.{merge-alone, merge-first, merge-ordered, named-itself, same_names}
use Rattle.lt_laws.proofs.ShelfGrowth.{merged_from, merged_new, merged_old, named_stay, new_named, pending_ordered, with_new}
use Rattle.lt_laws.proofs.ListFacts.{from_map, held_either, held_is_found, held_one, in_map}
use Rattle.lt_laws.proofs.DurableFacts.{IsKnown}
use Rattle.lt_session_laws.proofs.SplitLaws.{RestsIn, StandsAt}
use Rattle.lt_lemmas.proofs.SnapshotLaws.{or_left}

-- ---- what a source is

pub record IsSource (cat : Catalogue) (source : List Change) : Type 0 where
  pub catalogue : IsCatalogue cat
  pub sound : AllByRecursion (IsSound cat) source
  pub time : (key : List ℕ) → IsTrue (is_in_time key source)

pub same_change : (cat : Catalogue) (source : List Change) (c d : Change) → IsSource cat source → Contains source c → Contains source d → change_key c ≡ change_key d → c.ts ≡ d.ts → c ≡ d
same_change cat source c d s h i k t = once (change_key c) source (s.time (change_key c)) c d h i refl (sym k) t

-- what is seen of two changes with one name is one version
pub seen_once : (cat : Catalogue) (source : List Change) (c d : Change) → IsSource cat source → Contains source c → Contains source d → (seen cat c).key ≡ (seen cat d).key → (seen cat c).ts ≡ (seen cat d).ts → seen cat c ≡ seen cat d
seen_once cat source c d s h i k t = ap (seen cat) (same_change cat source c d s h i (sym (seen-key cat c) ∙ k ∙ seen-key cat d) (sym (seen-ts cat c) ∙ t ∙ seen-ts cat d))

-- a pending version of a table: a change of the partition, above where it is durable
pub record Pended (cat : Catalogue) (source : List Change) (p : Part) (r : Range) (table : ℕ) (v : RowVersion) : Type 0 where
  pub change : Change
  pub held : Contains source change
  pub of_table : change.table ≡ table
  pub is : v ≡ seen cat change
  pub late : p.resume < change.ts
  pub within : in_range (change_key change) r ≡ true

pub pended : (cat : Catalogue) (d : Durable) (source cs : List Change) (p : Part) (r : Range) (names : List Name) (table : ℕ) (v : RowVersion) → PendingOf cat d cs p r names → Contains (seen_pending source cat names table) v → Pended cat source p r table v
pended cat d source cs p r names table v a h =
    let f = seen_from cat source names table v h in
    let g = a.are_changes f.name f.known in
    let x = and_parts (same_key (change_key f.change) f.name.0) (f.change.ts == f.name.1) f.fits in
    let y = and_parts (same_key (change_key g.0) f.name.0) (g.0.ts == f.name.1) g.2 in
    let k : change_key g.0 ≡ change_key f.change = same (change_key g.0) f.name.0 y.0 ∙ sym (same (change_key f.change) f.name.0 x.0) in
    let t : g.0.ts ≡ f.change.ts = eqb-true g.0.ts f.name.1 y.1 ∙ sym (eqb-true f.change.ts f.name.1 x.1) in
    record { change = f.change; held = f.held; of_table = f.of_table; is = f.is; late = omega (arith, t, g.4); within = ap (λ (key : List ℕ). in_range key r) (sym k) ∙ g.3 }

-- ---- what is stored with some versions more

pub record IsStoreGrown (old new pend : List RowVersion) (r : Range) : Type 0 where
  pub from : (v : RowVersion) → Contains new v → Contains old v ⊎ (Contains pend v × (in_range v.key r ≡ true))
  pub kept : (v : RowVersion) → Contains old v → Contains new v
  pub added : (v : RowVersion) → Contains pend v → in_range v.key r ≡ true → ((w : RowVersion) → Contains old w → w.key ≡ v.key → w.ts ≡ v.ts → w ≡ v) → Contains new v

grown : (r : Range) (xs : List (List RowVersion)) (pend : List RowVersion) → IsTrue (is_ordered pend) → IsStoreGrown (clip r (merge xs)) (clip r (merge (xs ++ pend ∷ []))) pend r
grown r xs pend o = let test : RowVersion → Bool = λ v. in_range v.key r in record {
  from = λ v h. let f = from-filter test (merge (xs ++ pend ∷ [])) v h in elim (merged_from xs (pend ∷ []) v f.0) [
    | inl i ↦ inl (in-filter test (merge xs) v i f.1)
    | inr i ↦ inr (subst (λ (vs : List RowVersion). Contains vs v) (merge-alone pend o) i, f.1)
  ];
  kept = λ v h. let f = from-filter test (merge xs) v h in in-filter test (merge (xs ++ pend ∷ [])) v (merged_old xs (pend ∷ []) v f.0) f.1;
  added = λ v h w only. in-filter test (merge (xs ++ pend ∷ [])) v
      (merged_new xs (pend ∷ []) v (subst (λ (vs : List RowVersion). Contains vs v) (sym (merge-alone pend o)) h) (λ u i k t. only u (in-filter test (merge xs) u i (ap (λ (key : List ℕ). in_range key r) k ∙ w)) k t)) w;
}

-- ---- what a delta of a sound partition holds is stored

pub record HasNamed (lists : List (List RowVersion)) (w : RowVersion) : Type 0 where
  pub list : List RowVersion
  pub known : Contains lists list
  pub version : RowVersion
  pub held : Contains list version
  pub merged : Contains (merge lists) version
  pub key : w.key ≡ version.key
  pub ts : version.ts ≡ w.ts

record FirstOf (n : RowVersion → Bool) (lists : List (List RowVersion)) : Type 0 where
  list : List RowVersion
  known : Contains lists list
  version : RowVersion
  found : find n list ≡ Some version
  first : first_of (map (find n) lists) ≡ Some version

first_has : (n : RowVersion → Bool) (lists : List (List RowVersion)) (l : List RowVersion) (w : RowVersion) → Contains lists l → Contains l w → n w ≡ true → FirstOf n lists
first_has n [] l w h i e = absurd (omega (arith, h.1))
first_has n (k ∷ lists) l w h i e = by_first (find n k) refl h (λ a. first_has n lists l w a i e)
  where
    by_first : (o : Option RowVersion) → find n k ≡ o → Contains (k ∷ lists) l → (Contains lists l → FirstOf n lists) → FirstOf n (k ∷ lists)
    by_first (Some v) f a ih = record { list = k; known = (zero, omega arith, refl); version = v; found = f; first = ap (λ (o : Option RowVersion). first_of (o ∷ map (find n) lists)) f }
    by_first None f (zero, m, d) ih = let g = held_is_found n k w (subst (λ (x : List RowVersion). Contains x w) (sym d) i) e in let z : None ≡ Some g.0 = sym f ∙ g.1 in cc
    by_first None f (suc j, m, d) ih =
        let g = ih (j, omega (arith, m), d) in
        record { list = g.list; known = (let a = g.known in (suc a.0, omega (arith, a.1), a.2)); version = g.version; found = g.found; first = ap (λ (o : Option RowVersion). first_of (o ∷ map (find n) lists)) f ∙ g.first }

pub merge_has : (lists : List (List RowVersion)) (l : List RowVersion) (w : RowVersion) → Contains lists l → Contains l w → HasNamed lists w
merge_has lists l w h i =
    let n = named w.key w.ts in
    let f = first_has n lists l w h i (named-itself w) in
    let g = found-held n f.list f.version f.found in
    record { list = f.list; known = f.known; version = f.version; held = g.0; merged = (found-held n (merge lists) f.version (merge-first w.key w.ts lists ∙ f.first)).0; key = named-key w.key w.ts f.version g.1; ts = named-ts w.key w.ts f.version g.1 }

pub is_same_name : (v w : RowVersion) → v.key ≡ w.key → v.ts ≡ w.ts → same_name v w ≡ true
is_same_name v w k t = and_from (same_key v.key w.key) (v.ts == w.ts) (ap (λ (x : List ℕ). same_key x w.key) k ∙ itself w.key) (eq-eqb v.ts w.ts t)

pub listed_stored : (d : Durable) (fs : List (Header × List Item)) (p : Part) (r : Range) (table : ℕ) (y : Delta) (w : RowVersion) → SoundPart d fs p r → Contains (deltas_of d.shelf p.ids) y → Contains (clip r (carried_versions d.catalogue table y)) w → Contains (stored d p r table) w
listed_stored d fs p r table y w s h i =
    let test : RowVersion → Bool = λ v. in_range v.key r in
    let ds = deltas_of d.shelf p.ids in
    let lists = map (carried_versions d.catalogue table) ds in
    let f = from-filter test (carried_versions d.catalogue table y) w i in
    let m = merge_has lists (carried_versions d.catalogue table y) w (in_map (carried_versions d.catalogue table) ds y h) f.0 in
    let z = from_map (carried_versions d.catalogue table) ds m.list m.known in
    let within : in_range m.version.key r ≡ true = ap (λ (k : List ℕ). in_range k r) (sym m.key) ∙ f.1 in
    let e : w ≡ m.version = s.agree y z.0 table w m.version h z.1 i (in-filter test (carried_versions d.catalogue table z.0) m.version (subst (λ (l : List RowVersion). Contains l m.version) (sym z.2) m.held) within) (is_same_name w m.version m.key (sym m.ts)) in
    subst (Contains (stored d p r table)) (sym e) (in-filter test (merge lists) m.version m.merged within)

-- ---- a partition that lists the delta too

-- the durable part with one delta more, listed by the partition at a place
abbrev pub with_one : Durable → ℕ → Delta → Durable
with_one d n x = record d { next_id = d.next_id + 1; shelf = d.shelf ++ x ∷ []; parts = change_at (λ p. with_id (Some x.id) p) n d.parts }

abbrev pub lists_too : Delta → Part → Part
lists_too x p = with_id (Some x.id) p

-- what is given: the partition is sound, and the delta holds what is pending there
pub record Adds (d : Durable) (fs : List (Header × List Item)) (cs : List Change) (p : Part) (r : Range) (names : List Name) (x : Delta) : Type 0 where
  pub source : IsSource d.catalogue (source_of fs)
  pub sound : SoundPart d fs p r
  pub pending : PendingOf d.catalogue d cs p r names
  pub known : AllByRecursion (IsKnown d) p.ids
  pub below : AllByRecursion (λ y. y.id < x.id) d.shelf
  pub carries : (table : ℕ) → carried_versions d.catalogue table x ≡ seen_pending (source_of fs) d.catalogue names table

some_known : (d : Durable) (ids : List ℕ) → AllByRecursion (IsKnown d) ids → AllByRecursion (λ i. IsTrue (is_some (delta_with d.shelf i))) ids
some_known d ids a = all_map (IsKnown d) (λ i. IsTrue (is_some (delta_with d.shelf i))) ids (λ i k. k.0) a

deltas_more : (d : Durable) (fs : List (Header × List Item)) (cs : List Change) (p : Part) (r : Range) (names : List Name) (n : ℕ) (x : Delta) → Adds d fs cs p r names x → deltas_of (with_one d n x).shelf (lists_too x p).ids ≡ deltas_of d.shelf p.ids ++ x ∷ []
deltas_more d fs cs p r names n x a = with_new d.shelf x p.ids a.below (some_known d p.ids a.known)

pub store_grown : (d : Durable) (fs : List (Header × List Item)) (cs : List Change) (p : Part) (r : Range) (names : List Name) (n : ℕ) (x : Delta) (table : ℕ) → Adds d fs cs p r names x
    → IsStoreGrown (stored d p r table) (stored (with_one d n x) (lists_too x p) r table) (seen_pending (source_of fs) d.catalogue names table) r
store_grown d fs cs p r names n x table a =
    let pend = seen_pending (source_of fs) d.catalogue names table in
    let carry = carried_versions d.catalogue table in
    let e : stored (with_one d n x) (lists_too x p) r table ≡ clip r (merge (map carry (deltas_of d.shelf p.ids) ++ pend ∷ []))
    = ap (λ (ds : List Delta). clip r (merge (map carry ds))) (deltas_more d fs cs p r names n x a) ∙ ap (λ (l : List (List RowVersion)). clip r (merge l)) (map-append carry (deltas_of d.shelf p.ids) (x ∷ []))
    ∙ ap (λ (vs : List RowVersion). clip r (merge (map carry (deltas_of d.shelf p.ids) ++ vs ∷ []))) (a.carries table) in
    subst (λ (vs : List RowVersion). IsStoreGrown (stored d p r table) vs pend r) (sym e) (grown r (map carry (deltas_of d.shelf p.ids)) pend (pending_ordered (source_of fs) d.catalogue names table a.pending.ordered))

late_version : (cat : Catalogue) (source : List Change) (p : Part) (r : Range) (table : ℕ) (v : RowVersion) → Pended cat source p r table v → p.resume < v.ts
late_version cat source p r table v h = let t : v.ts ≡ h.change.ts = ap (λ (w : RowVersion). w.ts) h.is ∙ seen-ts cat h.change in let l = h.late in omega (arith, t, l)

-- a stored version with a pending one's name is it
stored_same : (d : Durable) (fs : List (Header × List Item)) (cs : List Change) (p : Part) (r : Range) (names : List Name) (x : Delta) (table : ℕ) (v w : RowVersion) → Adds d fs cs p r names x → Contains (seen_pending (source_of fs) d.catalogue names table) v
    → Contains (stored d p r table) w → w.key ≡ v.key → w.ts ≡ v.ts → w ≡ v
stored_same d fs cs p r names x table v w a h i k t =
    let f = pended d.catalogue d (source_of fs) cs p r names table v a.pending h in
    let late : p.resume < v.ts = late_version d.catalogue (source_of fs) p r table v f in
    let low : d.minimum ≤ p.resume = a.sound.minimum in
    let c = a.sound.only_changes table w i (omega (arith, late, low, t)) in
    c.3 ∙ seen_once d.catalogue (source_of fs) c.0 f.change a.source c.1 f.held (ap (λ (u : RowVersion). u.key) (sym c.3) ∙ k ∙ ap (λ (u : RowVersion). u.key) f.is) (ap (λ (u : RowVersion). u.ts) (sym c.3) ∙ t ∙ ap (λ (u : RowVersion). u.ts) f.is) ∙ sym f.is

abbrev is_up_to : List ℕ → ℕ → RowVersion → Bool
is_up_to key m v = same_key v.key key && nat_le v.ts m

rows_grown : (d : Durable) (fs : List (Header × List Item)) (cs : List Change) (p : Part) (r : Range) (names : List Name) (n : ℕ) (x : Delta) (table : ℕ) (key : List ℕ) → Adds d fs cs p r names x
    → up_to_ts key d.minimum (stored (with_one d n x) (lists_too x p) r table) ≡ up_to_ts key d.minimum (stored d p r table)
rows_grown d fs cs p r names n x table key a =
    let g = store_grown d fs cs p r names n x table a in
    let old = stored d p r table in
    let new = stored (with_one d n x) (lists_too x p) r table in
    let test = is_up_to key d.minimum in
    let ordered : (ds : List Delta) → IsTrue (is_ordered (clip r (merge (map (carried_versions d.catalogue table) ds)))) = λ ds. clip-ordered r (merge (map (carried_versions d.catalogue table) ds)) (merge-ordered (map (carried_versions d.catalogue table) ds)) in
    same-held (up_to_ts key d.minimum new) (up_to_ts key d.minimum old) (filter-ordered test new (ordered (deltas_of (with_one d n x).shelf (lists_too x p).ids))) (filter-ordered test old (ordered (deltas_of d.shelf p.ids)))
    (λ v h. let f = from-filter test new v h in elim (g.from v f.0) [
      | inl i ↦ in-filter test old v i f.1
      | inr i ↦ (let late : p.resume < v.ts = late_version d.catalogue (source_of fs) p r table v (pended d.catalogue d (source_of fs) cs p r names table v a.pending i.0) in
          let low : d.minimum ≤ p.resume = a.sound.minimum in
          let l : v.ts ≤ d.minimum = leb-true v.ts d.minimum (and_parts (same_key v.key key) (nat_le v.ts d.minimum) f.1).1 in absurd (omega (arith, late, low, l)))
    ])
    (λ v h. let f = from-filter test old v h in in-filter test new v (g.kept v f.0) f.1)

-- equal names, equal versions, with the new delta among them
agree_new : (d : Durable) (fs : List (Header × List Item)) (cs : List Change) (p : Part) (r : Range) (names : List Name) (x y : Delta) (table : ℕ) (v w : RowVersion) → Adds d fs cs p r names x → Contains (deltas_of d.shelf p.ids) y
    → Contains (clip r (carried_versions d.catalogue table x)) v → Contains (clip r (carried_versions d.catalogue table y)) w → v.key ≡ w.key → v.ts ≡ w.ts → v ≡ w
agree_new d fs cs p r names x y table v w a h i j k t =
    let f = from-filter (λ v. in_range v.key r) (carried_versions d.catalogue table x) v i in
    sym (stored_same d fs cs p r names x table v w a (subst (λ (l : List RowVersion). Contains l v) (a.carries table) f.0) (listed_stored d fs p r table y w a.sound h j) (sym k) (sym t))

agree_both : (d : Durable) (fs : List (Header × List Item)) (cs : List Change) (p : Part) (r : Range) (names : List Name) (x : Delta) (table : ℕ) (v w : RowVersion) → Adds d fs cs p r names x
    → Contains (clip r (carried_versions d.catalogue table x)) v → Contains (clip r (carried_versions d.catalogue table x)) w → v.key ≡ w.key → v.ts ≡ w.ts → v ≡ w
agree_both d fs cs p r names x table v w a i j k t =
    let test : RowVersion → Bool = λ v. in_range v.key r in
    let source = source_of fs in
    let f = pended d.catalogue d source cs p r names table v a.pending (subst (λ (l : List RowVersion). Contains l v) (a.carries table) (from-filter test (carried_versions d.catalogue table x) v i).0) in
    let g = pended d.catalogue d source cs p r names table w a.pending (subst (λ (l : List RowVersion). Contains l w) (a.carries table) (from-filter test (carried_versions d.catalogue table x) w j).0) in
    f.is ∙ seen_once d.catalogue source f.change g.change a.source f.held g.held (ap (λ (u : RowVersion). u.key) (sym f.is) ∙ k ∙ ap (λ (u : RowVersion). u.key) g.is) (ap (λ (u : RowVersion). u.ts) (sym f.is) ∙ t ∙ ap (λ (u : RowVersion). u.ts) g.is) ∙ sym g.is

agree_grown : (d : Durable) (fs : List (Header × List Item)) (cs : List Change) (p : Part) (r : Range) (names : List Name) (x y z : Delta) (table : ℕ) (v w : RowVersion) → Adds d fs cs p r names x → Contains (deltas_of d.shelf p.ids ++ x ∷ []) y → Contains (deltas_of d.shelf p.ids ++ x ∷ []) z
    → Contains (clip r (carried_versions d.catalogue table y)) v → Contains (clip r (carried_versions d.catalogue table z)) w → IsTrue (same_name v w) → v ≡ w
agree_grown d fs cs p r names x y z table v w a h i j k e =
    let s = same_names v w e in
    let ds = deltas_of d.shelf p.ids in
    elim (held_either ds (x ∷ []) y h) [
      | inl old ↦ elim (held_either ds (x ∷ []) z i) [
        | inl other ↦ a.sound.agree y z table v w old other j k e
        | inr new ↦ sym (agree_new d fs cs p r names x y table w v a old (subst (λ (u : Delta). Contains (clip r (carried_versions d.catalogue table u)) w) (sym (held_one x z new)) k) j (sym s.0) (sym s.1))
      ]
      | inr new ↦ (let mine : Contains (clip r (carried_versions d.catalogue table x)) v = subst (λ (u : Delta). Contains (clip r (carried_versions d.catalogue table u)) v) (sym (held_one x y new)) j in elim (held_either ds (x ∷ []) z i) [
        | inl other ↦ agree_new d fs cs p r names x z table v w a other mine k s.0 s.1
        | inr also ↦ agree_both d fs cs p r names x table v w a mine (subst (λ (u : Delta). Contains (clip r (carried_versions d.catalogue table u)) w) (sym (held_one x z also)) k) s.0 s.1
      ])
    ]

-- The partition stays sound.
pub part_added : (d : Durable) (fs : List (Header × List Item)) (cs : List Change) (p : Part) (r : Range) (names : List Name) (n : ℕ) (x : Delta) → Adds d fs cs p r names x → SoundPart (with_one d n x) fs (lists_too x p) r
part_added d fs cs p r names n x a =
    let e = with_one d n x in
    let q = lists_too x p in
    let more = deltas_more d fs cs p r names n x a in record {
      only_changes = λ table v h l. elim ((store_grown d fs cs p r names n x table a).from v h) [
        | inl i ↦ a.sound.only_changes table v i l
        | inr i ↦ (let f = pended d.catalogue d (source_of fs) cs p r names table v a.pending i.0 in (f.change, f.held, f.of_table, f.is))
      ];
      all_changes = λ c h w l m. (store_grown d fs cs p r names n x c.table a).kept (seen d.catalogue c) (a.sound.all_changes c h w l m);
      rows = λ t key k w h. ap effect_of (rows_grown d fs cs p r names n x t.number key a) ∙ a.sound.rows t key k w h;
      agree = λ y z table v w b c i j k. agree_grown d fs cs p r names x y z table v w a (subst (λ (ds : List Delta). Contains ds y) more b) (subst (λ (ds : List Delta). Contains ds z) more c) i j k;
      minimum = a.sound.minimum;
      resume = a.sound.resume;
    }

-- and what was pending there is stored
pub pending_stored : (d : Durable) (fs : List (Header × List Item)) (cs : List Change) (p : Part) (r : Range) (names : List Name) (n : ℕ) (x : Delta) (c : Change) → Adds d fs cs p r names x → Contains (seen_pending (source_of fs) d.catalogue names c.table) (seen d.catalogue c)
    → in_range (change_key c) r ≡ true → Contains (stored (with_one d n x) (lists_too x p) r c.table) (seen d.catalogue c)
pending_stored d fs cs p r names n x c a h w = (store_grown d fs cs p r names n x c.table a).added (seen d.catalogue c) h (ap (λ (k : List ℕ). in_range k r) (seen-key d.catalogue c) ∙ w)
    (λ u i k t. stored_same d fs cs p r names x c.table (seen d.catalogue c) u a h i k t)

pub pending_grown : (d e : Durable) (cs : List Change) (p q : Part) (r : Range) (names : List Name) → q.resume ≡ p.resume → ((table : ℕ) (v : RowVersion) → Contains (stored d p r table) v → Contains (stored e q r table) v) → PendingOf d.catalogue d cs p r names → PendingOf d.catalogue e cs q r names
pending_grown d e cs p q r names same_resume f h = record {
  are_changes = λ n k. let c = h.are_changes n k in (c.0, c.1, c.2, c.3, (let l = c.4 in omega (arith, l, same_resume)));
  none_lost = λ c k w l. elim (h.none_lost c k w (omega (arith, l, same_resume))) [ inl n ↦ inl n | inr i ↦ inr (f c.table (seen d.catalogue c) i) ];
  ordered = h.ordered;
}

-- ---- the other partitions

named_same : (d : Durable) (n : ℕ) (x : Delta) (p : Part) → AllByRecursion (IsKnown d) p.ids → deltas_of (with_one d n x).shelf p.ids ≡ deltas_of d.shelf p.ids
named_same d n x p known = named_stay d.shelf (x ∷ []) p.ids (some_known d p.ids known)

pub stored_as : (d : Durable) (n : ℕ) (x : Delta) (p : Part) (r : Range) (table : ℕ) → AllByRecursion (IsKnown d) p.ids → stored (with_one d n x) p r table ≡ stored d p r table
stored_as d n x p r table known = ap (λ (ds : List Delta). clip r (merge (map (carried_versions d.catalogue table) ds))) (named_same d n x p known)

pub part_other : (d : Durable) (fs : List (Header × List Item)) (n : ℕ) (x : Delta) (p : Part) (r : Range) → AllByRecursion (IsKnown d) p.ids → SoundPart d fs p r → SoundPart (with_one d n x) fs p r
part_other d fs n x p r known s =
    let same_store = λ (table : ℕ). stored_as d n x p r table known in
    let same_deltas = named_same d n x p known in record {
      only_changes = λ table v h l. s.only_changes table v (subst (λ (vs : List RowVersion). Contains vs v) (same_store table) h) l;
      all_changes = λ c h w l m. subst (λ (vs : List RowVersion). Contains vs (seen d.catalogue c)) (sym (same_store c.table)) (s.all_changes c h w l m);
      rows = λ t key k w h. ap (λ (vs : List RowVersion). effect_of (up_to_ts key d.minimum vs)) (same_store t.number) ∙ s.rows t key k w h;
      agree = λ y z table v w b c i j k. s.agree y z table v w (subst (λ (ds : List Delta). Contains ds y) same_deltas b) (subst (λ (ds : List Delta). Contains ds z) same_deltas c) i j k;
      minimum = s.minimum;
      resume = s.resume;
    }

-- ---- an open job

abbrev pub Rest : Durable → Job → Range → ℕ → Type 0
Rest d j r id = RestsIn d j r id

rest_same : (d : Durable) (n : ℕ) (x : Delta) (j : Job) (r : Range) (id : ℕ) → IsKnown d id → Rest d j r id → Rest (with_one d n x) j r id
rest_same d n x j r id known (inl i) = inl i
rest_same d n x j r id known (inr f) = inr (λ table. subst (AllByRecursion (λ v. j.minimum < v.ts)) (ap (λ (ds : List Delta). clip r (merge (map (carried_versions d.catalogue table) ds))) (sym (named_stay d.shelf (x ∷ []) (id ∷ []) (known.0, tt)))) (f table))

all_rest : (d : Durable) (n : ℕ) (x : Delta) (j : Job) (r : Range) (ids : List ℕ) → AllByRecursion (IsKnown d) ids → AllByRecursion (Rest d j r) ids → AllByRecursion (Rest (with_one d n x) j r) ids
all_rest d n x j r [] known a = tt
all_rest d n x j r (id ∷ ids) known a = (rest_same d n x j r id known.0 a.0, all_rest d n x j r ids known.1 a.1)

pub stands_other : (d : Durable) (n : ℕ) (x : Delta) (j : Job) (p : Part) (r : Range) → AllByRecursion (IsKnown d) p.ids → StandsAt d j p r → StandsAt (with_one d n x) j p r
stands_other d n x j p r known h l = let a = h l in (a.0, (λ m. all_rest d n x j (common r j.range) p.ids known (a.1 m)))

lists_more : (ids more inputs : List ℕ) → ListsAll ids inputs → ListsAll (ids ++ more) inputs
lists_more ids more inputs a = all_map (λ i. IsTrue (list_any (λ x. x == i) ids)) (λ i. IsTrue (list_any (λ x. x == i) (ids ++ more))) inputs (λ i h. any_append (λ x. x == i) ids more ∙ or_left (list_any (λ x. x == i) ids) (list_any (λ x. x == i) more) h) a

-- the new delta's versions are above the job's minimum, whichever of the partition's keys are looked at
new_late : (d : Durable) (fs : List (Header × List Item)) (cs : List Change) (p : Part) (r q : Range) (names : List Name) (n : ℕ) (x : Delta) (j : Job) (table : ℕ) → Adds d fs cs p r names x → j.minimum ≤ d.minimum
    → AllByRecursion (λ v. j.minimum < v.ts) (merged_in d.catalogue (with_one d n x).shelf (x.id ∷ []) q table)
new_late d fs cs p r q names n x j table a low =
    let pend = seen_pending (source_of fs) d.catalogue names table in
    let e : merged_in d.catalogue (with_one d n x).shelf (x.id ∷ []) q table ≡ clip q pend
    = ap (λ (o : Option Delta). clip q (merge (map (carried_versions d.catalogue table) (cons_option o [])))) (new_named d.shelf x a.below) ∙ ap (λ (vs : List RowVersion). clip q (merge (vs ∷ []))) (a.carries table)
    ∙ ap (clip q) (merge-alone pend (pending_ordered (source_of fs) d.catalogue names table a.pending.ordered)) in
    subst (AllByRecursion (λ v. j.minimum < v.ts)) (sym e) (all_from (λ v. j.minimum < v.ts) (clip q pend) (λ v h.
    let late : p.resume < v.ts = late_version d.catalogue (source_of fs) p r table v (pended d.catalogue d (source_of fs) cs p r names table v a.pending (from-filter (λ v. in_range v.key q) pend v h).0) in
    let min : d.minimum ≤ p.resume = a.sound.minimum in omega (arith, late, min, low)))

pub stands_added : (d : Durable) (fs : List (Header × List Item)) (cs : List Change) (p : Part) (r : Range) (names : List Name) (n : ℕ) (x : Delta) (j : Job) → Adds d fs cs p r names x → j.minimum ≤ d.minimum → StandsAt d j p r → StandsAt (with_one d n x) j (lists_too x p) r
stands_added d fs cs p r names n x j a low h l = let k = h l in (
  lists_more p.ids (x.id ∷ []) j.inputs k.0,
  (λ m. all_append (Rest (with_one d n x) j (common r j.range)) p.ids (x.id ∷ []) (all_rest d n x j (common r j.range) p.ids a.known (k.1 m)) (inr (λ table. new_late d fs cs p r (common r j.range) names n x j table a low), tt)),
)
