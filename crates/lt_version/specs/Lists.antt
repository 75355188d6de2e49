-- What the plain iterator has.
use Rattle.std.specs.Prelude.{IsTrue, List, [], drop, map, suc, zero, ℕ, ◌∷◌}
use Rattle.std.proofs.lemmas.Bool.{and_parts}
use Rattle.lt_core.specs.declared.leaf.Leaf.{Leaf as CodeLeaf}
use Rattle.lt_core.specs.View.{view_layout}
use Rattle.lt_terms.specs.Layout.{Leaf}
use Rattle.lt_tables.specs.Version.{AreVersions, RowVersion, is_ordered, stands_before}
use Rattle.lt_version.specs.View.{view_version}
use Rattle.lt_version.specs.declared.row_version.RowVersion.{RowVersion as CodeVersion}
use Rattle.lt_version.specs.declared.list_versions.ListVersions.{ListVersions}

abbrev pub leaves_of : ListVersions → List Leaf
leaves_of it = view_layout it.layout

abbrev pub list_rest : ListVersions → List RowVersion
list_rest it = drop it.at (map view_version it.list)

-- ---- what is left of a lawful list is lawful

ordered_tail : (v : RowVersion) (vs : List RowVersion) → IsTrue (is_ordered (v ∷ vs)) → IsTrue (is_ordered vs)
ordered_tail v [] h = h
ordered_tail v (w ∷ ws) h = (and_parts (stands_before v w) (is_ordered (w ∷ ws)) h).1

lawful_drop : (layout : List Leaf) (vs : List RowVersion) (n : ℕ) → AreVersions layout vs → AreVersions layout (drop n vs)
lawful_drop layout vs zero h = h
lawful_drop layout [] (suc n) h = h
lawful_drop layout (v ∷ vs) (suc n) h = lawful_drop layout vs n (record { ordered = ordered_tail v vs h.ordered; each = h.each.1 })

pub lawful_rest : (layout : List CodeLeaf) (list : List CodeVersion) (n : ℕ) → AreVersions (view_layout layout) (map view_version list) → AreVersions (view_layout layout) (drop n (map view_version list))
lawful_rest layout list n h = lawful_drop (view_layout layout) (map view_version list) n h
