-- What a lawful durable part says of its ids: each that a partition lists stands on the shelf, and all are below the next one.
use Rattle.std.proofs.Common.{Bool, List, [], arith, cond, eqb-true, false, ltb-true, refl, subst, suc, sym, true, zero, ℕ, ◌<◌, ◌∙◌, ◌∷◌, ◌≡◌}
use Rattle.std.specs.Prelude.{Contains, IsTrue, Option, Some, find, is_some, length, map, nat_le, nat_lt, slice_get, ◌&&◌, ◌==◌, ◌^◌, ◌||◌}
use Rattle.std.specs.List.{AllByRecursion, list_all, list_any}
use Rattle.std.proofs.lemmas.Bool.{and_parts, false≢true}
use Rattle.lt_terms.specs.declared.Extent.{Extent}
use Rattle.lt_terms.specs.Value.{rises_strictly}
use Rattle.lt_terms.specs.Key.{max_key, tile}
use Rattle.lt_tables.specs.Pump.{Part}
use Rattle.lt_storage.specs.Store.{Delta, Durable, IsLawfulPart, bare_manifest, delta_with, fits_63, is_delta_entry, is_part_entry}
use Rattle.lt_machine.specs.Sound.{ListsAll}
use Rattle.lt_codecs.proofs.ListFacts.{all_map}
use Rattle.lt_laws.proofs.ListFacts.{all_at, any_held, any_mapped}
use Rattle.lt_laws.proofs.ReadLaws.{all_tests}

some_by : {A : Type 0} (x : A) (o : Option A) (b c : Bool) → (c ≡ true → is_some o ≡ true) → (b || c) ≡ true → is_some (cond b (Some x) o) ≡ true
some_by x o true c f h = refl
some_by x o false c f h = f h

pub any_found : {A : Type 0} (test : A → Bool) (xs : List A) → list_any test xs ≡ true → is_some (find test xs) ≡ true
any_found test [] h = absurd (false≢true h)
any_found test (x ∷ xs) h = some_by x (find test xs) (test x) (list_any test xs) (any_found test xs) h

abbrev pub named_at : Delta → ℕ × Extent
named_at x = (x.id, record { place = 0; length = 0 })

pub mapped_any : (id : ℕ) (xs : List Delta) → list_any (λ e. e.0 == id) (map named_at xs) ≡ list_any (λ x. x.id == id) xs
mapped_any id xs = sym (any_mapped (λ (e : ℕ × Extent). e.0 == id) named_at xs)

-- the id stands on the shelf, and is below the next one
abbrev pub IsKnown : Durable → ℕ → Type 0
IsKnown d id = IsTrue (is_some (delta_with d.shelf id)) × (id < d.next_id)

entry_ids : (d : Durable) (p : Part) → IsTrue (is_part_entry (bare_manifest d) p) → AllByRecursion (IsKnown d) p.ids
entry_ids d p e =
    let m = bare_manifest d in
    let listed = and_parts (nat_le (length p.low) max_key && fits_63 p.resume && nat_le m.minimum p.resume && rises_strictly p.ids) (list_all (λ id. list_any (λ d. d.0 == id) m.deltas && nat_lt id m.next_id) p.ids) e in
    all_map (λ id. IsTrue (list_any (λ d. d.0 == id) m.deltas && nat_lt id m.next_id)) (IsKnown d) p.ids
    (λ id h. let q = and_parts (list_any (λ d. d.0 == id) m.deltas) (nat_lt id m.next_id) h in (any_found (λ (x : Delta). x.id == id) d.shelf (sym (mapped_any id d.shelf) ∙ q.0), ltb-true id d.next_id q.1))
    (all_tests (λ id. list_any (λ d. d.0 == id) m.deltas && nat_lt id m.next_id) p.ids listed.1)

-- all partitions' entries
pub part_entries : (d : Durable) → IsLawfulPart d → AllByRecursion (λ p. IsTrue (is_part_entry (bare_manifest d) p)) d.parts
part_entries d l = all_tests (is_part_entry (bare_manifest d)) d.parts (and_parts (tile (map (λ p. p.low) d.parts) && nat_le (length d.parts) 1024) (list_all (is_part_entry (bare_manifest d)) d.parts) l.manifest.parts).1

pub listed_known : (d : Durable) (p : Part) → IsLawfulPart d → Contains d.parts p → AllByRecursion (IsKnown d) p.ids
listed_known d p l h = entry_ids d p (all_at (λ p. IsTrue (is_part_entry (bare_manifest d) p)) d.parts p (part_entries d l) h)

-- the shelf's deltas have ids below the next one
delta_below : (d : Durable) (x : Delta) → IsLawfulPart d → IsTrue (is_delta_entry (bare_manifest d) (named_at x)) → x.id < d.next_id
delta_below d x l h =
    let e = named_at x in
    let listed = and_parts (nat_lt e.0 (2 ^ 64) && nat_lt e.1.place (2 ^ 64) && nat_lt e.1.length (2 ^ 64)) (list_any (λ p. list_any (λ id. id == e.0) p.ids) d.parts) h in
    let p = any_held (λ (p : Part). list_any (λ id. id == e.0) p.ids) d.parts listed.1 in
    let i = any_held (λ (id : ℕ). id == e.0) p.0.ids p.2 in
    let k = all_at (IsKnown d) p.0.ids i.0 (listed_known d p.0 l p.1) i.1 in
    let same : i.0 ≡ x.id = eqb-true i.0 x.id i.2 in
    omega (arith, same, k.1)

pub map_tests : (test : ℕ × Extent → Bool) (xs : List Delta) → list_all test (map named_at xs) ≡ true → AllByRecursion (λ x. IsTrue (test (named_at x))) xs
map_tests test [] h = tt
map_tests test (x ∷ xs) h = let p = and_parts (test (named_at x)) (list_all test (map named_at xs)) h in (p.0, map_tests test xs p.1)

pub shelf_below : (d : Durable) → IsLawfulPart d → AllByRecursion (λ x. x.id < d.next_id) d.shelf
shelf_below d l =
    let m = bare_manifest d in
    let each = and_parts (rises_strictly (map (λ d. d.0) m.deltas) && nat_le (length m.deltas) 4096) (list_all (is_delta_entry m) m.deltas) l.manifest.deltas in
    all_map (λ x. IsTrue (is_delta_entry m (named_at x))) (λ x. x.id < d.next_id) d.shelf (λ x h. delta_below d x l h) (map_tests (is_delta_entry m) d.shelf each.1)

pub got_is_held : {A : Type 0} (xs : List A) (n : ℕ) (x : A) → slice_get xs n ≡ Some x → Contains xs x
got_is_held [] n x e = cc
got_is_held (y ∷ xs) zero x e = let d : y ≡ x = cc in (zero, omega arith, d)
got_is_held (y ∷ xs) (suc n) x e = let r = got_is_held xs n x e in (suc r.0, omega (arith, r.1), r.2)

-- what a partition lists of inputs is known
pub inputs_known : (d : Durable) (n : ℕ) (p : Part) (inputs : List ℕ) → IsLawfulPart d → slice_get d.parts n ≡ Some p → ListsAll p.ids inputs → AllByRecursion (IsKnown d) inputs
inputs_known d n p inputs l e h =
    let known = listed_known d p l (got_is_held d.parts n p e) in
    all_map (λ i. IsTrue (list_any (λ x. x == i) p.ids)) (IsKnown d) inputs
    (λ i a. let k = any_held (λ (x : ℕ). x == i) p.ids a in subst (IsKnown d) (eqb-true k.0 i k.2) (all_at (IsKnown d) p.ids k.0 known k.1)) h
