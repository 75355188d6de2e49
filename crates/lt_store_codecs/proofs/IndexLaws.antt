-- Lawful indexes are what their codec spells.
use Rattle.std.proofs.Common.{Bool, List, [], ap, arith, leb-true, length, length-append, lt-ltb, ltb-true, map, refl, subst, sym, ℕ, ◌++◌, ◌+◌, ◌<◌, ◌^◌, ◌∙◌, ◌∷◌, ◌≡◌, ◌≤◌}
use Rattle.std.specs.List.{AllByRecursion, list_all}
use Rattle.std.specs.Prelude.{IsTrue, nat_le, nat_lt, ◌&&◌}
use Rattle.std.proofs.lemmas.Bool.{and_from, and_parts}
use Rattle.std.proofs.lemmas.Bool.Decides.{nat_tests}
use Rattle.lt_terms.specs.Layout.{Leaf, field_leaves, layout_of, leaves}
use Rattle.lt_terms.specs.Value.{is_number, rises_above, rises_strictly}
use Rattle.lt_terms.specs.Kind.{FieldKinds, Kind, enumeration, field_kind, nesting, nestings, no_kinds, plain, structured}
use Rattle.lt_terms.specs.Key.{below}
use Rattle.lt_storage.specs.Store.{BundleEntry, IsIndex, IsLayout, IsTableIndex, TableIndex, are_store_kinds, entries_rise, index_bytes, is_entry, is_store_kind}
use Rattle.lt_codecs.proofs.ListFacts.{all_append, all_both, all_hold, all_map, all_pass}
use Rattle.lt_codecs.proofs.LogTests.{number_below}
use Rattle.lt_codecs.specs.Codec.{byte, bytes16, u16, u32, u64}
use Rattle.lt_codecs.specs.LogCodec.{flag}
use Rattle.lt_codecs.proofs.Codecs.{spell_apart}
use Rattle.lt_store_codecs.specs.StoreCodec.{entry, index, leaf, rank, table_index}
use Rattle.lt_store_codecs.specs.StoreFront.{AreIndexesPrefixFree, DecidesIndexes}
use Rattle.lt_store_codecs.proofs.IndexCodecs.{index_is}

-- ---- layouts

-- a leaf whose numbers fit their bytes
abbrev FitsLeaf : Leaf → Type 0
FitsLeaf l = (l.column < 2 ^ 16) × ((length l.path < 2 ^ 8) × AllByRecursion (λ n. n < 2 ^ 16) l.path)

mutual
  leaves_fit : (c : ℕ) (p : List ℕ) (k : Kind) → c < 2 ^ 16 → AllByRecursion (λ n. n < 2 ^ 16) p → length p + nesting k ≤ 4 → IsTrue (is_store_kind k) → AllByRecursion FitsLeaf (leaves c p k)
  leaves_fit c p (plain r) l h d s = ((l, (omega (arith, d), h)), tt)
  leaves_fit c p (enumeration names) l h d s = absurd cc
  leaves_fit c p (structured ks) l h d s = ((l, (omega (arith, d), h)), fields_fit c p ks 0 l h (omega (arith, d)) s)

  fields_fit : (c : ℕ) (p : List ℕ) (ks : FieldKinds) (low : ℕ) → c < 2 ^ 16 → AllByRecursion (λ n. n < 2 ^ 16) p → length p + nestings ks ≤ 3 → IsTrue (are_store_kinds low ks) → AllByRecursion FitsLeaf (field_leaves c p ks)
  fields_fit c p no_kinds low l h d s = tt
  fields_fit c p (field_kind n name k ks) low l h d s =
      let u = and_parts (is_number n && nat_lt low n && is_store_kind k) (are_store_kinds n ks) s in
      let w = and_parts (is_number n && nat_lt low n) (is_store_kind k) u.0 in
      let path : AllByRecursion (λ n. n < 2 ^ 16) (p ++ n ∷ []) = all_append (λ n. n < 2 ^ 16) p (n ∷ []) h (number_below n (and_parts (is_number n) (nat_lt low n) w.0).0, tt) in
      all_append FitsLeaf (leaves c (p ++ n ∷ []) k) (field_leaves c p ks)
      (leaves_fit c (p ++ n ∷ []) k l path (omega (arith, d, length-append p (n ∷ []))) w.1)
      (fields_fit c p ks n l h (omega (arith, d)) u.1)

abbrev is_column_kind : ℕ × Kind → Bool
is_column_kind c = is_number c.0 && is_store_kind c.1 && nat_le (nesting c.1) 4

columns_fit : (columns : List (ℕ × Kind)) → IsTrue (list_all is_column_kind columns) → AllByRecursion FitsLeaf (layout_of columns)
columns_fit [] h = tt
columns_fit (c ∷ cs) h =
    let u = and_parts (is_column_kind c) (list_all is_column_kind cs) h in
    let w = and_parts (is_number c.0 && is_store_kind c.1) (nat_le (nesting c.1) 4) u.0 in
    let v = and_parts (is_number c.0) (is_store_kind c.1) w.0 in
    all_append FitsLeaf (leaves c.0 [] c.1) (layout_of cs) (leaves_fit c.0 [] c.1 (number_below c.0 v.0) tt (omega (arith, leb-true (nesting c.1) 4 w.1)) v.1) (columns_fit cs u.1)

leaf_lawful : (l : Leaf) → FitsLeaf l → leaf.Lawful l
unfolding leaf u16 byte rank flag
leaf_lawful l h = (h.0, (h.1, (tt, tt)))

layout_lawful : (layout : List Leaf) → IsLayout layout → AllByRecursion leaf.Lawful layout
layout_lawful layout h =
    let c = h.0 in
    let tests = and_parts (rises_above 0 (map (λ c. c.0) c)) (list_all is_column_kind c) h.2 in
    all_map FitsLeaf leaf.Lawful layout leaf_lawful (subst (AllByRecursion FitsLeaf) (sym h.1) (columns_fit c tests.1))

-- ---- entries

entry_lawful : (e : BundleEntry) → IsTrue (is_entry e) → entry.Lawful e
unfolding entry u64 bytes16 u16
entry_lawful e h =
    let place : e.place < 2 ^ 64 = grind (arith, nat_tests) in
    let size : e.length < 2 ^ 64 = grind (arith, nat_tests) in
    let versions : e.versions < 2 ^ 64 = grind (arith, nat_tests) in
    let first : length e.first < 2 ^ 16 = grind (arith, nat_tests) in
    let last : length e.last < 2 ^ 16 = grind (arith, nat_tests) in
    let least : e.least < 2 ^ 64 = grind (arith, nat_tests) in
    let greatest : e.greatest < 2 ^ 64 = grind (arith, nat_tests) in
    (place, (size, (versions, (first, (last, (least, greatest))))))

-- ---- indexes

table_lawful : (t : TableIndex) → IsTrue (nat_lt t.table (2 ^ 32)) → IsTableIndex t → table_index.Lawful t
unfolding table_index u32 u64
table_lawful t below h =
    let a = nat_lt 0 (length t.entries) && nat_lt (length t.entries) (2 ^ 64) in
    let rise = and_parts (a && list_all is_entry t.entries) (entries_rise t.entries) h.entries in
    let each = and_parts a (list_all is_entry t.entries) rise.0 in
    let few = (and_parts (nat_lt 0 (length t.entries)) (nat_lt (length t.entries) (2 ^ 64)) each.0).1 in
    ((ltb-true t.table (2 ^ 32) below, ((ltb-true (length t.layout) (2 ^ 32) h.few, layout_lawful t.layout h.layout), (ltb-true (length t.entries) (2 ^ 64) few, all_hold is_entry entry.Lawful entry_lawful t.entries each.1))), h.entries)

lawful_table : (t : TableIndex) → table_index.Lawful t → IsLayout t.layout → IsTrue (nat_lt t.table (2 ^ 32)) × IsTableIndex t
unfolding table_index u32 u64
lawful_table t h layout = (lt-ltb t.table (2 ^ 32) h.0.0, record { layout = layout; few = lt-ltb (length t.layout) (2 ^ 32) h.0.1.0.0; entries = h.1 })

index_lawful : (ts : List TableIndex) (bytes : List ℕ) → IsIndex ts bytes → index.Lawful ts
unfolding index u32
index_lawful ts bytes h =
    let below = λ (t : TableIndex). nat_lt t.table (2 ^ 32) in
    let rise = rises_strictly (map (λ t. t.table) ts) in
    let u = and_parts (rise && nat_lt (length ts) (2 ^ 32)) (list_all below ts) h.tables in
    let w = and_parts rise (nat_lt (length ts) (2 ^ 32)) u.0 in
    let tables = all_hold below (λ t. IsTrue (below t)) (λ t b. b) ts u.1 in
    ((tt, (ltb-true (length ts) (2 ^ 32) w.1, all_both (λ t. IsTrue (below t)) IsTableIndex table_index.Lawful ts table_lawful tables h.each)), w.0)

lawful_index : (ts : List TableIndex) → index.Lawful ts → AllByRecursion (λ t. IsLayout t.layout) ts → IsIndex ts (index_bytes ts)
unfolding index u32
lawful_index ts h layouts =
    let below = λ (t : TableIndex). nat_lt t.table (2 ^ 32) in
    let both = all_both table_index.Lawful (λ t. IsLayout t.layout) (λ t. IsTrue (below t) × IsTableIndex t) ts lawful_table h.0.1.1 layouts in
    record {
      tables = and_from _ _ (and_from _ _ h.1 (lt-ltb (length ts) (2 ^ 32) h.0.1.0)) (all_pass below (λ t. IsTrue (below t) × IsTableIndex t) (λ t b. b.0) ts both);
      each = all_map (λ t. IsTrue (below t) × IsTableIndex t) IsTableIndex ts (λ t b. b.1) both;
      spells = refl;
    }

pub decides : DecidesIndexes
decides ts = (
  λ h. (index_lawful ts (index_bytes ts) h, all_map IsTableIndex (λ t. IsLayout t.layout) ts (λ t i. i.layout) h.each),
  λ h. lawful_index ts h.0 h.1,
)

-- ---- their bytes

pub index_spells : (ts : List TableIndex) → index.spell ts ≡ index_bytes ts
unfolding index
index_spells ts = refl

pub prefix_free : AreIndexesPrefixFree
prefix_free ts us b c x y h k e = spell_apart index index_is ts us x y (index_lawful ts b h) (index_lawful us c k)
    (ap (λ (t : List ℕ). t ++ x) (index_spells ts ∙ sym h.spells) ∙ e ∙ ap (λ (t : List ℕ). t ++ y) (k.spells ∙ sym (index_spells us)))
