-- What one step of a walk makes of what is left.
use Rattle.std.proofs.Common.{◌≡◌, ℕ, List, [], ◌∷◌, sym, ap, subst, ◌∙◌, length, drop, arith, true, false}
use Rattle.std.specs.Prelude.{Bool, IsTrue, MatchOption, None, Option, Some, cond, option_map, slice_get, unwrap_or, ◌<◌}
use Rattle.std.specs.List.{AllByRecursion}
use Rattle.lt_terms.specs.Key.{Range, in_range}
use Rattle.std.proofs.lemmas.Option.{slice_get-map}
use Rattle.lt_core.specs.View.{view_scalar}
use Rattle.lt_core.specs.declared.leaf.Scalar.{Scalar}
use Rattle.lt_terms.specs.Layout.{Leaf, unset}
use Rattle.lt_tables.specs.Version.{AreVersions, RowVersion, clip, is_ordered, is_version}
use Rattle.lt_lemmas.proofs.MergeLaws.{clip-ordered, ordered-tail}
use Rattle.lt_version.specs.View.{first_cell}
use Rattle.lt_memdelta.specs.Walks.{items_rest, view_item, walk_rest}
use Rattle.lt_memdelta.specs.declared.change.Item.{Item}
use Rattle.lt_memdelta.specs.declared.walk.Walk.{Walk}

-- what a step answers
abbrev pub Steps : Walk → Option Item → Walk → Type 0
Steps old first new = MatchOption first ((walk_rest old ≡ []) × (walk_rest new ≡ [])) (λ item. walk_rest old ≡ view_item item ∷ walk_rest new)

pub items_are : (first : Option Item) (old new : Walk) → Steps old first new → items_rest first new ≡ walk_rest old
items_are None old new h = sym h.0
items_are (Some item) old new h = sym h

pub lawful_first : (layout : List Leaf) (first : Option Item) (old new : Walk) → Steps old first new → AreVersions layout (walk_rest old) → AreVersions layout (items_rest first new)
lawful_first layout first old new h l = let P : List RowVersion → Type 0 = λ vs. AreVersions layout vs in subst P (sym (items_are first old new h)) l

pub advanced : (first next : Option Item) (old new : Walk) → Steps old next new → 0 < length (items_rest first old) → items_rest next new ≡ drop 1 (items_rest first old)
advanced None next old new h l = let z : ⊥ = omega (arith, l) in absurd z
advanced (Some item) next old new h l = items_are next old new h

lawful_tail : (layout : List Leaf) (v : RowVersion) (vs : List RowVersion) → AreVersions layout (v ∷ vs) → AreVersions layout vs
lawful_tail layout v vs h = record { ordered = ordered-tail v vs h.ordered; each = h.each.1 }

pub lawful_next : (layout : List Leaf) (first next : Option Item) (old new : Walk) → Steps old next new → 0 < length (items_rest first old) → AreVersions layout (items_rest first old)
    → AreVersions layout (items_rest next new)
lawful_next layout None next old new h l a = let z : ⊥ = omega (arith, l) in absurd z
lawful_next layout (Some item) next old new h l a = lawful_first layout next old new h (lawful_tail layout (view_item item) (walk_rest old) a)

-- ---- a lawful group, clipped

abbrev Each : List Leaf → List RowVersion → Type 0
Each layout vs = AllByRecursion (λ v. IsTrue (is_version layout v)) vs

each_by : (layout : List Leaf) (v : RowVersion) (vs : List RowVersion) (b : Bool) → IsTrue (is_version layout v) → Each layout vs → Each layout (cond b (v ∷ vs) vs)
each_by layout v vs true h i = (h, i)
each_by layout v vs false h i = i

each_clipped : (layout : List Leaf) (r : Range) (vs : List RowVersion) → Each layout vs → Each layout (clip r vs)
each_clipped layout r [] h = tt
each_clipped layout r (v ∷ vs) h = each_by layout v (clip r vs) (in_range v.key r) h.0 (each_clipped layout r vs h.1)

pub lawful_clip : (layout : List Leaf) (r : Range) (vs ws : List RowVersion) → ws ≡ clip r vs → IsTrue (is_ordered vs) → AllByRecursion (λ v. IsTrue (is_version layout v)) vs → AreVersions layout ws
lawful_clip layout r vs ws e o h =
    let P : List RowVersion → Type 0 = λ xs. AreVersions layout xs in
    subst P (sym e) (record { ordered = clip-ordered r vs o; each = each_clipped layout r vs h })

-- ---- a cell of the first version

pub cell_got : (first : Option Item) (walk : Walk) (item : Item) (leaf : ℕ) (cell : Option Scalar) → first ≡ Some item → cell ≡ slice_get item.change.now.cells leaf
    → first_cell (items_rest first walk) leaf ≡ unwrap_or (option_map view_scalar cell) unset
cell_got first walk item leaf cell e d = ap (λ o. first_cell (items_rest o walk) leaf) e
    ∙ ap (λ o. unwrap_or o unset) (slice_get-map view_scalar item.change.now.cells leaf ∙ ap (option_map view_scalar) (sym d))
