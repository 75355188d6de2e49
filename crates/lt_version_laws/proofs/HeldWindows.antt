-- What a session holds in a range, partition after partition.
use Rattle.std.proofs.Common.{Bool, List, [], ap, ap₂, cond, false, refl, subst, sym, true, ℕ, ◌++◌, ◌∙◌, ◌∷◌, ◌≡◌}
use Rattle.std.specs.Prelude.{IsTrue, Some, filter, flat_map, length, map, nat_le, nat_lt, not, zip, ⊤, ◌&&◌}
use Rattle.std.specs.List.{AllByRecursion, list_all}
use Rattle.std.proofs.lemmas.Bool.{and_parts, false≢true}
use Rattle.lt_terms.specs.Key.{Range, below, common, in_range, is_below_high, is_empty_range, meets, ranges_from, rise, same_key, tile}
use Rattle.lt_terms.specs.Log.{Change}
use Rattle.lt_machine.specs.Machine.{State, cat_of, ranges_of}
use Rattle.lt_machine.specs.Sound.{Memory}
use Rattle.lt_machine.specs.Outside.{held_with, memory_versions}
use Rattle.lt_tables.specs.Pump.{Part}
use Rattle.lt_storage.specs.Store.{IsLawfulPart, bare_manifest, carried_versions, deltas_of, is_part_entry, stored}
use Rattle.lt_tables.specs.Version.{RowVersion, asof, clip, is_ordered, merge, stands_before}
use Rattle.lt_lemmas.proofs.SnapshotLaws.{apart, or_left}
use Rattle.lt_lemmas.proofs.ClipLaws.{below-upto, key-trans}
use Rattle.lt_laws.proofs.ClipLaws.{clip-clip, filter-swap}
use Rattle.lt_codecs.proofs.ListFacts.{all_append, all_map}
use Rattle.lt_lemmas.proofs.ListFacts.{all_from}
use Rattle.lt_lemmas.proofs.MergeLaws.{Above, ordered-above, ordered-cons, ordered-tail}
use Rattle.lt_laws.proofs.MergeLaws.{clip-merge, merge-ordered}
use Rattle.lt_laws.proofs.MomentLaws.{asof-clip}
use Rattle.lt_lemmas.proofs.RangeLaws.{tile_rises}
use Rattle.lt_laws.proofs.WidenedStore.{named_lawful}
use Rattle.lt_version_laws.specs.MemoryLists.{AreLogged, HaveVersions}
use Rattle.lt_version_laws.specs.Steps.{BeginsApart}
use Rattle.lt_version_laws.specs.Windows.{AreGrouped, PartHeld, group_window, held_window, parts_held, parts_met, window}
use Rattle.lt_version_laws.proofs.WindowLaws.{asof_appended, clip_none, clip_part, empty_out, merge_appended}

-- ---- partitions that a range does not meet

not_true : (b : Bool) → not b ≡ false → b ≡ true
not_true true h = refl
not_true false h = absurd (false≢true (sym h))

pub unmet : (within r : Range) (vs : List RowVersion) → meets within r ≡ false → clip r (clip within vs) ≡ []
unmet within r vs h =
    filter-swap (λ v. in_range v.key r) (λ v. in_range v.key within) vs ∙ clip-clip within r vs
    ∙ clip_none (common within r) vs (all_from (λ v. in_range v.key (common within r) ≡ false) vs (λ v i. empty_out (common within r) v.key (not_true (is_empty_range (common within r)) h)))

-- ---- ranges one behind the other

-- the keys of one range are below those of another
abbrev pub IsUnder : Range → Range → Type 0
IsUnder r s = (k l : List ℕ) → in_range k r ≡ true → in_range l s ≡ true → below k l ≡ true

abbrev InTurn : List Range → Type 0
InTurn [] = ⊤
InTurn (r ∷ rs) = AllByRecursion (IsUnder r) rs × InTurn rs

-- below the first of some bounds that rise is below the low bound of each of their ranges
bounds_above : (next : List ℕ) (more : List (List ℕ)) → IsTrue (rise (next ∷ more)) → AllByRecursion (λ (s : Range). (k : List ℕ) → below k next ≡ true → below k s.low ≡ true) (ranges_from (next ∷ more))
bounds_above next [] h = ((λ k b. b), tt)
bounds_above next (low ∷ more) h =
    let p = and_parts (below next low) (rise (low ∷ more)) h in
    ((λ k b. b), all_map (λ (s : Range). (k : List ℕ) → below k low ≡ true → below k s.low ≡ true) (λ s. (k : List ℕ) → below k next ≡ true → below k s.low ≡ true) (ranges_from (low ∷ more)) (λ s f k b. f k (key-trans k next low b p.0)) (bounds_above low more p.1))

parts_in : (key : List ℕ) (r : Range) → in_range key r ≡ true → (below key r.low ≡ false) × (is_below_high key r.high ≡ true)
parts_in key r h = let p = and_parts (not (below key r.low)) (is_below_high key r.high) h in (no (below key r.low) p.0, p.1)
  where
    no : (b : Bool) → not b ≡ true → b ≡ false
    no true h = sym h
    no false h = refl

first_under : (low next : List ℕ) (more : List (List ℕ)) → IsTrue (rise (next ∷ more)) → AllByRecursion (IsUnder (record { low = low; high = Some next })) (ranges_from (next ∷ more))
first_under low next more h = all_map (λ (s : Range). (k : List ℕ) → below k next ≡ true → below k s.low ≡ true) (IsUnder (record { low = low; high = Some next })) (ranges_from (next ∷ more))
    (λ s f k l i j. below-upto k s.low l (f k (parts_in k (record { low = low; high = Some next }) i).1) (parts_in l s j).0) (bounds_above next more h)

in_turn : (lows : List (List ℕ)) → IsTrue (rise lows) → InTurn (ranges_from lows)
in_turn [] h = tt
in_turn (low ∷ []) h = (tt, tt)
in_turn (low ∷ next ∷ more) h = let p = and_parts (below low next) (rise (next ∷ more)) h in (first_under low next more p.1, in_turn (next ∷ more) p.1)

-- ---- lists that lie in such ranges

under_before : (v w : RowVersion) → below v.key w.key ≡ true → stands_before v w ≡ true
under_before v w h = or_left (below v.key w.key) (same_key v.key w.key && nat_lt w.ts v.ts) h

ordered_both : (vs ws : List RowVersion) → IsTrue (is_ordered vs) → IsTrue (is_ordered ws) → AllByRecursion (λ v. Above v ws) vs → IsTrue (is_ordered (vs ++ ws))
ordered_both [] ws o p a = p
ordered_both (v ∷ vs) ws o p a = ordered-cons v (vs ++ ws) (all_append (λ w. IsTrue (stands_before v w)) vs ws (ordered-above v vs o) a.0) (ordered_both vs ws (ordered-tail v vs o) p a.1)

pub begins_apart : (key : List ℕ) (ws : List RowVersion) → AllByRecursion (λ w. below key w.key ≡ true) ws → BeginsApart key ws
begins_apart key [] a = tt
begins_apart key (w ∷ ws) a = apart key w.key a.0

all_pass : (p : RowVersion → Bool) (vs : List RowVersion) → AllByRecursion (λ v. p v ≡ true) (filter p vs)
all_pass p [] = tt
all_pass p (v ∷ vs) = by_test (p v) refl (all_pass p vs)
  where
    by_test : (b : Bool) → p v ≡ b → AllByRecursion (λ v. p v ≡ true) (filter p vs) → AllByRecursion (λ v. p v ≡ true) (cond b (v ∷ filter p vs) (filter p vs))
    by_test true e a = (e, a)
    by_test false e a = a

module _ {X : Type 0} (range : X → Range) (rows : X → List RowVersion) where
  abbrev pub Lies : X → Type 0
  Lies z = IsTrue (is_ordered (rows z)) × AllByRecursion (λ w. in_range w.key (range z) ≡ true) (rows z)

  abbrev pub Turns : List X → Type 0
  Turns [] = ⊤
  Turns (z ∷ zs) = AllByRecursion (λ y. IsUnder (range z) (range y)) zs × Turns zs

  all_under : (r : Range) (zs : List X) → AllByRecursion Lies zs → AllByRecursion (λ y. IsUnder r (range y)) zs → AllByRecursion (λ w. (k : List ℕ) → in_range k r ≡ true → below k w.key ≡ true) (flat_map rows zs)
  all_under r [] a u = tt
  all_under r (z ∷ zs) a u = all_append (λ w. (k : List ℕ) → in_range k r ≡ true → below k w.key ≡ true) (rows z) (flat_map rows zs)
      (all_map (λ w. in_range w.key (range z) ≡ true) (λ w. (k : List ℕ) → in_range k r ≡ true → below k w.key ≡ true) (rows z) (λ w i k j. u.0 k w.key j i) a.0.1) (all_under r zs a.1 u.1)

  rest_under : (z : X) (zs : List X) → AllByRecursion Lies (z ∷ zs) → Turns (z ∷ zs) → AllByRecursion (λ v. AllByRecursion (λ w. below v.key w.key ≡ true) (flat_map rows zs)) (rows z)
  rest_under z zs a t = all_map (λ v. in_range v.key (range z) ≡ true) (λ v. AllByRecursion (λ w. below v.key w.key ≡ true) (flat_map rows zs)) (rows z)
      (λ v i. all_map (λ w. (k : List ℕ) → in_range k (range z) ≡ true → below k w.key ≡ true) (λ w. below v.key w.key ≡ true) (flat_map rows zs) (λ w f. f v.key i) (all_under (range z) zs a.1 t.0)) a.0.1

  flat_ordered : (zs : List X) → AllByRecursion Lies zs → Turns zs → IsTrue (is_ordered (flat_map rows zs))
  flat_ordered [] a t = refl
  flat_ordered (z ∷ zs) a t = ordered_both (rows z) (flat_map rows zs) a.0.0 (flat_ordered zs a.1 t.1)
      (all_map (λ v. AllByRecursion (λ w. below v.key w.key ≡ true) (flat_map rows zs)) (λ v. Above v (flat_map rows zs)) (rows z)
      (λ v b. all_map (λ w. below v.key w.key ≡ true) (λ w. IsTrue (stands_before v w)) (flat_map rows zs) (λ w h. under_before v w h) b) (rest_under z zs a t))

  flat_moment : (t : ℕ) (zs : List X) → AllByRecursion Lies zs → Turns zs → asof t (flat_map rows zs) ≡ flat_map (λ z. asof t (rows z)) zs
  unfolding asof
  flat_moment t [] a u = refl
  flat_moment t (z ∷ zs) a u = asof_appended t (rows z) (flat_map rows zs)
      (all_map (λ v. AllByRecursion (λ w. below v.key w.key ≡ true) (flat_map rows zs)) (λ v. BeginsApart v.key (flat_map rows zs)) (rows z) (λ v b. begins_apart v.key (flat_map rows zs) b) (rest_under z zs a u))
      ∙ ap (λ (l : List RowVersion). asof t (rows z) ++ l) (flat_moment t zs a.1 u.1)

  flat_of_map : (zs : List X) → flat_map (λ vs. vs) (map rows zs) ≡ flat_map rows zs
  flat_of_map [] = refl
  flat_of_map (z ∷ zs) = ap (λ (l : List RowVersion). rows z ++ l) (flat_of_map zs)

flat_filter : {X : Type 0} (test : X → Bool) (rows : X → List RowVersion) (zs : List X) → AllByRecursion (λ z. test z ≡ false → rows z ≡ []) zs → flat_map rows zs ≡ flat_map rows (filter test zs)
flat_filter test rows [] a = refl
flat_filter test rows (z ∷ zs) a = by_test (test z) refl (flat_filter test rows zs a.1)
  where
    by_test : (b : Bool) → test z ≡ b → flat_map rows zs ≡ flat_map rows (filter test zs) → rows z ++ flat_map rows zs ≡ flat_map rows (cond b (z ∷ filter test zs) (filter test zs))
    by_test true e i = ap (λ (l : List RowVersion). rows z ++ l) i
    by_test false e i = ap (λ (l : List RowVersion). l ++ flat_map rows zs) (a.0 e) ∙ i

-- ---- the partitions of a session

under_zip : (r : Range) (ps : List Part) (rs : List Range) (mem : Memory) → AllByRecursion (IsUnder r) rs → AllByRecursion (λ (x : PartHeld). IsUnder r x.0.1) (zip (zip ps rs) mem)
under_zip r [] rs mem a = tt
under_zip r (p ∷ ps) [] mem a = tt
under_zip r (p ∷ ps) (s ∷ rs) [] a = tt
under_zip r (p ∷ ps) (s ∷ rs) (m ∷ mem) a = (a.0, under_zip r ps rs mem a.1)

module _ (rows : PartHeld → List RowVersion) where
  turn_zip : (ps : List Part) (rs : List Range) (mem : Memory) → InTurn rs → Turns (λ (x : PartHeld). x.0.1) rows (zip (zip ps rs) mem)
  turn_zip [] rs mem t = tt
  turn_zip (p ∷ ps) [] mem t = tt
  turn_zip (p ∷ ps) (s ∷ rs) [] t = tt
  turn_zip (p ∷ ps) (s ∷ rs) (m ∷ mem) t = (under_zip s ps rs mem t.0, turn_zip ps rs mem t.1)

pub memory_zip : (P : List Change → Type 0) (ps : List Part) (rs : List Range) (mem : Memory) → AllByRecursion P mem → AllByRecursion (λ (x : PartHeld). P x.1) (zip (zip ps rs) mem)
memory_zip P [] rs mem a = tt
memory_zip P (p ∷ ps) [] mem a = tt
memory_zip P (p ∷ ps) (s ∷ rs) [] a = tt
memory_zip P (p ∷ ps) (s ∷ rs) (m ∷ mem) a = (a.0, memory_zip P ps rs mem a.1)

module _ (s : State) (mem : Memory) (versions : List Change → List ℕ) (table : ℕ) (r : Range) (lawful : IsLawfulPart s.durable) (grouped : AreGrouped (cat_of s) versions table mem) where
  abbrev pub part_rows : PartHeld → List RowVersion
  part_rows x = merge (stored s.durable x.0.0 x.0.1 table ∷ clip x.0.1 (memory_versions (cat_of s) x.1 table) ∷ [])

  abbrev pub its_window : PartHeld → List RowVersion
  its_window x = held_window s versions table r x

  abbrev all_of : PartHeld → List RowVersion
  all_of x = merge (merge (map (carried_versions (cat_of s) table) (deltas_of s.durable.shelf x.0.0.ids)) ∷ memory_versions (cat_of s) x.1 table ∷ [])

  each_grouped : AllByRecursion (λ (x : PartHeld). AreLogged (cat_of s) x.1 × HaveVersions x.1 table (versions x.1)) (parts_held s mem)
  each_grouped = memory_zip (λ cs. AreLogged (cat_of s) cs × HaveVersions cs table (versions cs)) s.durable.parts (ranges_of s.durable) mem grouped

  one_window : (x : PartHeld) → AreLogged (cat_of s) x.1 × HaveVersions x.1 table (versions x.1) → clip r (part_rows x) ≡ its_window x
  one_window x g = clip_part (cat_of s) s.durable.shelf x.0.0.ids x.1 (versions x.1) x.0.1 r table lawful.manifest.catalogue (named_lawful (cat_of s) s.durable.shelf x.0.0.ids lawful.shelf) g.0 g.1

  -- a partition's rows are those of its range
  part_clipped : (x : PartHeld) → part_rows x ≡ clip x.0.1 (all_of x)
  part_clipped x = sym (clip-merge x.0.1 (merge (map (carried_versions (cat_of s) table) (deltas_of s.durable.shelf x.0.0.ids)) ∷ memory_versions (cat_of s) x.1 table ∷ []))

  windows_of : (zs : List PartHeld) → AllByRecursion (λ (x : PartHeld). AreLogged (cat_of s) x.1 × HaveVersions x.1 table (versions x.1)) zs → map (clip r) (map part_rows zs) ≡ map its_window zs
  windows_of [] a = refl
  windows_of (x ∷ zs) a = ap₂ (λ (y : List RowVersion) (ys : List (List RowVersion)). y ∷ ys) (one_window x a.0) (windows_of zs a.1)

  window_lies : (x : PartHeld) → AreLogged (cat_of s) x.1 × HaveVersions x.1 table (versions x.1) → Lies (λ (x : PartHeld). x.0.1) its_window x
  window_lies x g = (
    merge-ordered (map (window (cat_of s) table (common r x.0.1)) (deltas_of s.durable.shelf x.0.0.ids) ++ map (group_window (cat_of s) x.1 table (common r x.0.1)) (versions x.1)),
    subst (AllByRecursion (λ w. in_range w.key x.0.1 ≡ true)) (filter-swap (λ v. in_range v.key x.0.1) (λ v. in_range v.key r) (all_of x) ∙ ap (clip r) (sym (part_clipped x)) ∙ one_window x g) (all_pass (λ v. in_range v.key x.0.1) (clip r (all_of x))),
  )

  all_lie : AllByRecursion (Lies (λ (x : PartHeld). x.0.1) its_window) (parts_held s mem)
  all_lie = all_map (λ (x : PartHeld). AreLogged (cat_of s) x.1 × HaveVersions x.1 table (versions x.1)) (Lies (λ (x : PartHeld). x.0.1) its_window) (parts_held s mem) window_lies each_grouped

  pub all_turn : Turns (λ (x : PartHeld). x.0.1) its_window (parts_held s mem)
  all_turn =
      let lows = map (λ (p : Part). p.low) s.durable.parts in
      let p = and_parts (tile lows && nat_le (length s.durable.parts) 1024) (list_all (is_part_entry (bare_manifest s.durable)) s.durable.parts) lawful.manifest.parts in
      let q = and_parts (tile lows) (nat_le (length s.durable.parts) 1024) p.0 in
      turn_zip its_window s.durable.parts (ranges_of s.durable) mem (in_turn lows (tile_rises lows q.0))

  none_where : AllByRecursion (λ (x : PartHeld). meets x.0.1 r ≡ false → its_window x ≡ []) (parts_held s mem)
  none_where = all_map (λ (x : PartHeld). AreLogged (cat_of s) x.1 × HaveVersions x.1 table (versions x.1)) (λ (x : PartHeld). meets x.0.1 r ≡ false → its_window x ≡ []) (parts_held s mem)
      (λ x g h. sym (one_window x g) ∙ ap (clip r) (part_clipped x) ∙ unmet x.0.1 r (all_of x) h) each_grouped

  pub held_flat : clip r (held_with s mem table) ≡ flat_map its_window (parts_held s mem)
  held_flat = clip-merge r (map part_rows (parts_held s mem)) ∙ ap merge (windows_of (parts_held s mem) each_grouped)
      ∙ merge_appended (map its_window (parts_held s mem)) (subst (λ (l : List RowVersion). IsTrue (is_ordered l)) (sym (flat_of_map (λ (x : PartHeld). x.0.1) its_window (parts_held s mem))) (flat_ordered (λ (x : PartHeld). x.0.1) its_window (parts_held s mem) all_lie all_turn))
      ∙ flat_of_map (λ (x : PartHeld). x.0.1) its_window (parts_held s mem)

  pub held_window_rows : clip r (held_with s mem table) ≡ flat_map (held_window s versions table r) (parts_met r s mem)
  held_window_rows = held_flat ∙ flat_filter (λ (x : PartHeld). meets x.0.1 r) its_window (parts_held s mem) none_where

  none_at : (t : ℕ) → AllByRecursion (λ (x : PartHeld). meets x.0.1 r ≡ false → asof t (its_window x) ≡ []) (parts_held s mem)
  unfolding asof
  none_at t = all_map (λ (x : PartHeld). meets x.0.1 r ≡ false → its_window x ≡ []) (λ (x : PartHeld). meets x.0.1 r ≡ false → asof t (its_window x) ≡ []) (parts_held s mem) (λ x f h. ap (asof t) (f h)) none_where

  pub held_window_moment : (t : ℕ) → clip r (asof t (held_with s mem table)) ≡ flat_map (λ x. asof t (held_window s versions table r x)) (parts_met r s mem)
  held_window_moment t = sym (asof-clip t r (held_with s mem table) (merge-ordered (map part_rows (parts_held s mem)))) ∙ ap (asof t) held_flat
      ∙ flat_moment (λ (x : PartHeld). x.0.1) its_window t (parts_held s mem) all_lie all_turn
      ∙ flat_filter (λ (x : PartHeld). meets x.0.1 r) (λ (x : PartHeld). asof t (its_window x)) (parts_held s mem) (none_at t)
