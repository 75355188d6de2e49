-- From one layout to another by way of a third, and the carriers as a layout.
use Rattle.std.proofs.Common.{List, [], ap, ap₂, refl, subst, sym, ℕ, ◌∙◌, ◌≡◌}
use Rattle.std.specs.Prelude.{Contains, IsTrue, None, Option, Some}
use Rattle.std.specs.Option.{option_map_or}
use Rattle.lt_terms.specs.Layout.{Cell, Leaf, are_lawful, coerce, layout_of, same_leaf, with_cells}
use Rattle.lt_tables.specs.Schema.{Became, Catalogue, IsCatalogue, Table, carrier_layout, carriers, table_numbered}
use Rattle.lt_tables.specs.Version.{coerce_all}
use Rattle.lt_storage.specs.Store.{AreLawfulTables, Delta, IsLayout, carried_versions}
use Rattle.lt_machine.specs.Laws.{StandsBetween}
use Rattle.lt_lemmas.proofs.ListFacts.{all_from, find_held}
use Rattle.lt_laws.proofs.CoerceLaws.{IsServed, coerce_twice}
use Rattle.lt_laws.proofs.TableGrowth.{layout_columns}
use Rattle.lt_laws.proofs.LeafLaws.{AreColumns, IsMarked, all_marked, leaf_found, leaf_in, leaf_is}
use Rattle.lt_laws.proofs.ListFacts.{all_at}
use Rattle.lt_laws.proofs.WidenedStore.{delta_goes, in_layout, lawful_fit}
use Rattle.lt_laws.proofs.NewDelta.{carriers_layout}
use Rattle.lt_laws.proofs.VersionGrowth.{grew}

-- a leaf of the last layout, for cells under the first, by way of the columns between
served_by : (from via to : List Leaf) (cells : List Cell) (s : StandsBetween from via to) (b : Leaf) → Contains to b → IsServed (with_cells from cells) s.layout.0 b
served_by from via to cells s b h =
    let cs = s.layout.0 in
    let columns : AreColumns cs = layout_columns via s.layout in (
      (λ a i e.
          let w = s.wide a.0 b (in_layout from cells a i) h e in
          let place = leaf_is w.0 a.0 w.2 in
          let mark = all_at (IsMarked cs) (layout_of cs) w.0 (all_marked cs columns) (subst (λ (x : List Leaf). Contains x w.0) s.layout.1 w.1) in
          ((w.0.rank, w.0.presence), ap₂ (leaf_in cs) (sym place.0) (sym place.1) ∙ mark, w.4, w.3)),
      (λ m f.
          let g = leaf_found cs b m columns f in
          let l = find_held (λ l. same_leaf l b) (layout_of cs) g.0 g.1 in
          let k = s.marked g.0 b (subst (λ (x : List Leaf). Contains x g.0) (sym s.layout.1) l.0) h l.1 in
          (sym g.5 ∙ k.0, λ p. let q = k.1 p in (q.0, sym g.4 ∙ q.1))),
    )

-- by way of a layout between, lawful cells are as at once
pub between_twice : (from via to : List Leaf) (cells : List Cell) → StandsBetween from via to → IsTrue (are_lawful from cells) → coerce via to (coerce from via cells) ≡ coerce from to cells
between_twice from via to cells s l =
    let cs = s.layout.0 in
    subst (λ (v : List Leaf). coerce v to (coerce from v cells) ≡ coerce from to cells) (sym s.layout.1)
    (coerce_twice from to cs cells (lawful_fit from cells l) (layout_columns via s.layout) (all_from (IsServed (with_cells from cells) cs) to (λ b h. served_by from via to cells s b h)))

-- the carriers of a table are a layout; an unknown table has none
carriers_by : (cat : Catalogue) (n : ℕ) (o : Option Table) → table_numbered cat n ≡ o → IsCatalogue cat → IsLayout (carriers cat n)
carriers_by cat n (Some t) e is = carriers_layout cat n t is e
carriers_by cat n None e is = subst IsLayout (sym (ap (λ (o : Option Table). option_map_or carrier_layout o []) e)) ([], refl, refl)

pub carriers_stand : (cat : Catalogue) (n : ℕ) → IsCatalogue cat → IsLayout (carriers cat n)
carriers_stand cat n is = carriers_by cat n (table_numbered cat n) refl is

-- what a lawful delta holds, under the carriers of a longer catalogue
pub delta_carried : (cat wide : Catalogue) (n : ℕ) (x : Delta) → IsCatalogue cat → Became cat wide → AreLawfulTables cat x → carried_versions wide n x ≡ coerce_all (carriers cat n) (carriers wide n) (carried_versions cat n x)
delta_carried cat wide n x is b l = delta_goes cat wide n x (grew cat wide is b) l
