-- Bundles of fewer than 2^64 bytes are what their codec spells, and so they tell their versions.
use Rattle.std.proofs.Common.{Bool, List, [], ap, ap₂, arith, eqb-true, false, length, length-append, refl, subst, sym, true, ℕ, ℤ, ◌++◌, ◌+◌, ◌<◌, ◌^◌, ◌∙◌, ◌∷◌, ◌≡◌}
use Rattle.std.specs.List.{AllByRecursion, concat, list_all}
use Rattle.std.specs.Prelude.{IsTrue, codes, drop, flat_map, map, replicate, ⊤, ◌&&◌, ◌==◌, ◌||◌}
use Rattle.std.proofs.lemmas.List.{length-map}
use Rattle.std.proofs.lemmas.Bool.{and_parts}
use Rattle.std.proofs.lemmas.Bool.Decides.{nat_tests}
use Rattle.std.proofs.lemmas.Simd.{map-map}
use Rattle.std.proofs.lemmas.List.Concat.{flat_map-cons}
use Rattle.std.proofs.lemmas.List.Folds.{flat_map-map}
use Rattle.lt_terms.specs.Log.{op_byte, u64}
use Rattle.lt_terms.specs.declared.Rank.{Rank}
use Rattle.lt_terms.specs.Kind.{same_rank}
use Rattle.lt_terms.specs.Layout.{Cell, Leaf, agree, are_lawful, bool_cell, bytes_cell, int_cell, null_cell, suits, unset, with_cells}
use Rattle.lt_terms.specs.Value.{fits_32, fits_64}
use Rattle.lt_terms.specs.declared.Op.{Op}
use Rattle.lt_tables.specs.Version.{RowVersion, is_version}
use Rattle.lt_storage.specs.Bundle.{bundle_bytes, cell_bit, cell_bytes, cell_number, first_cell, leaf_bytes, leaf_values, leaves_bytes, offsets_from, state_byte, with_offsets}
use Rattle.lt_codecs.specs.Codec.{Codec, byte, times}
use Rattle.lt_codecs.proofs.ListFacts.{all_map, all_to_map, all_true}
use Rattle.lt_codecs.proofs.Codecs.{spell_apart}
use Rattle.lt_store_codecs.specs.BundleCodec.{HasCell, OfRank, after_key, bit_byte, bundle, bundled_rows, bundled_versions, cells_of_leaf, pairs_of, strings, told, told_values}
use Rattle.lt_store_codecs.proofs.BundleCodecs.{bundle_is, offsets_length}
use Rattle.lt_store_codecs.specs.StoreFront.{BundlesAreLawful, SpellOneList}
use Rattle.lt_terms.specs.declared.Rank.TheVariants as rank
use Rattle.lt_codecs.specs.Codec as codec
use Rattle.lt_codecs.specs.LogCodec as log

-- ---- how much an offset counts

-- fewer bytes than a number of eight bytes can count
abbrev Counts : List ℕ → Type 0
Counts bytes = length bytes < 2 ^ 64

counts_front : (s x : List ℕ) → Counts (s ++ x) → Counts s
counts_front s x h = omega (arith, h, length-append s x)

counts_rest : (s x : List ℕ) → Counts (s ++ x) → Counts x
counts_rest s x h = omega (arith, h, length-append s x)

offsets_count : (n : ℕ) (bs : List (List ℕ)) → n + length (concat bs) < 2 ^ 64 → AllByRecursion (λ m. m < 2 ^ 64) (offsets_from n bs)
offsets_count n [] h = (omega (arith, h), tt)
offsets_count n (b ∷ bs) h = (omega (arith, h), offsets_count (n + length b) bs (omega (arith, h, length-append b (concat bs))))

strings_lawful : (n : ℕ) (bs : List (List ℕ)) → length bs ≡ n → Counts (with_offsets bs) → (strings n).Lawful bs
unfolding codec.u64
strings_lawful n bs l few = ((omega (arith, l, offsets_length 0 bs), offsets_count 0 bs (omega (arith, counts_rest (flat_map u64 (offsets_from 0 bs)) (concat bs) few))), refl)

times_lawful : {A B : Type 0} (n : ℕ) (a : Codec B) (f : A → B) (P : A → Type 0) → ((x : A) → P x → a.Lawful (f x)) → (xs : List A) → length xs ≡ n → AllByRecursion P xs → (times n a).Lawful (map f xs)
times_lawful n a f P one xs l h = (length-map xs f ∙ l, all_to_map a.Lawful f xs (all_map P (λ x. a.Lawful (f x)) xs one h))

-- ---- the cells of a leaf

bool_of : (r : Rank) (b : Bool) → IsTrue (same_rank r rank.Bool) → OfRank r (bool_cell b)
bool_of rank.Bool b h = tt
bool_of rank.Int32 b h = absurd cc
bool_of rank.Int64 b h = absurd cc
bool_of rank.Text b h = absurd cc
bool_of rank.Bytes b h = absurd cc

number_of : (r : Rank) (z : ℤ) → IsTrue ((same_rank r rank.Int32 && fits_32 z) || (same_rank r rank.Int64 && fits_64 z)) → OfRank r (int_cell z)
number_of rank.Bool z h = absurd cc
number_of rank.Int32 z h = or_first (fits_32 z) h
  where
    or_first : (b : Bool) → b || false ≡ true → b ≡ true
    or_first true h = refl
    or_first false h = h
number_of rank.Int64 z h = h
number_of rank.Text z h = absurd cc
number_of rank.Bytes z h = absurd cc

string_of : (r : Rank) (b : List ℕ) (text : Bool) → IsTrue ((same_rank r rank.Text && text) || same_rank r rank.Bytes) → OfRank r (bytes_cell b)
string_of rank.Bool b text h = absurd cc
string_of rank.Int32 b text h = absurd cc
string_of rank.Int64 b text h = absurd cc
string_of rank.Text b text h = tt
string_of rank.Bytes b text h = tt

cell_of_rank : (l : Leaf) (c : Cell) → IsTrue (suits l c) → OfRank l.rank c
cell_of_rank l unset h = tt
cell_of_rank l null_cell h = tt
cell_of_rank l (bool_cell b) h = bool_of l.rank b h
cell_of_rank l (int_cell z) h = number_of l.rank z h
cell_of_rank l (bytes_cell b) h = string_of l.rank b _ h

fits_32_told : (c : Cell) → OfRank rank.Int32 c → IsTrue (fits_32 (cell_number c))
fits_32_told unset h = refl
fits_32_told null_cell h = refl
fits_32_told (int_cell z) h = h
fits_32_told (bool_cell b) h = absurd h
fits_32_told (bytes_cell b) h = absurd h

fits_64_told : (c : Cell) → OfRank rank.Int64 c → IsTrue (fits_64 (cell_number c))
fits_64_told unset h = refl
fits_64_told null_cell h = refl
fits_64_told (int_cell z) h = h
fits_64_told (bool_cell b) h = absurd h
fits_64_told (bytes_cell b) h = absurd h

bit_lawful : (c : Cell) → OfRank rank.Bool c → bit_byte.Lawful (cell_bit c)
unfolding byte
bit_lawful unset h = (omega arith, refl)
bit_lawful null_cell h = (omega arith, refl)
bit_lawful (bool_cell true) h = (omega arith, refl)
bit_lawful (bool_cell false) h = (omega arith, refl)
bit_lawful (int_cell z) h = absurd h
bit_lawful (bytes_cell b) h = absurd h

state_lawful : (c : Cell) → ⊤ → byte.Lawful (state_byte c)
unfolding byte
state_lawful unset h = omega arith
state_lawful null_cell h = omega arith
state_lawful (bool_cell b) h = omega arith
state_lawful (int_cell z) h = omega arith
state_lawful (bytes_cell b) h = omega arith

told_lawful : (r : Rank) (n : ℕ) (cs : List Cell) → length cs ≡ n → AllByRecursion (OfRank r) cs → Counts (leaf_values r cs) → (told_values r n).Lawful (map (told r) cs)
unfolding codec.i32 codec.i64
told_lawful rank.Bool n cs l h few = times_lawful n bit_byte cell_bit (OfRank rank.Bool) bit_lawful cs l h
told_lawful rank.Int32 n cs l h few = times_lawful n codec.i32 cell_number (OfRank rank.Int32) fits_32_told cs l h
told_lawful rank.Int64 n cs l h few = times_lawful n codec.i64 cell_number (OfRank rank.Int64) fits_64_told cs l h
told_lawful rank.Text n cs l h few = strings_lawful n (map cell_bytes cs) (length-map cs cell_bytes ∙ l) few
told_lawful rank.Bytes n cs l h few = strings_lawful n (map cell_bytes cs) (length-map cs cell_bytes ∙ l) few

leaf_lawful : (r : Rank) (n : ℕ) (cs : List Cell) → length cs ≡ n → AllByRecursion (OfRank r) cs → Counts (leaf_bytes r cs) → (cells_of_leaf r n).Lawful cs
leaf_lawful r n cs l h few = (h, (times_lawful n byte state_byte (λ c. ⊤) state_lawful cs l (all_true cs), told_lawful r n cs l h (counts_rest (map state_byte cs) (leaf_values r cs) few)))

-- ---- the cells of each version, leaf by leaf

-- a cell for each leaf, of its rank
abbrev IsRow : List Leaf → List Cell → Type 0
IsRow [] [] = ⊤
IsRow (l ∷ layout) (c ∷ cells) = OfRank l.rank c × IsRow layout cells
IsRow layout cells = ⊥

row_of : (layout : List Leaf) (cells : List Cell) → length layout ≡ length cells → IsTrue (list_all (λ c. suits c.0 c.1) (with_cells layout cells)) → IsRow layout cells
row_of [] [] l h = tt
row_of [] (c ∷ cells) l h = absurd (omega (arith, l))
row_of (f ∷ layout) [] l h = absurd (omega (arith, l))
row_of (f ∷ layout) (c ∷ cells) l h = let p = and_parts (suits f c) (list_all (λ c. suits c.0 c.1) (with_cells layout cells)) h in (cell_of_rank f c p.0, row_of layout cells (omega (arith, l)) p.1)

first_cells : (l : Leaf) (layout : List Leaf) (rows : List (List Cell)) → AllByRecursion (IsRow (l ∷ layout)) rows → AllByRecursion (OfRank l.rank) (map first_cell rows)
first_cells l layout [] h = tt
first_cells l layout ([] ∷ rows) h = absurd h.0
first_cells l layout ((c ∷ cs) ∷ rows) h = (h.0.0, first_cells l layout rows h.1)

other_cells : (l : Leaf) (layout : List Leaf) (rows : List (List Cell)) → AllByRecursion (IsRow (l ∷ layout)) rows → AllByRecursion (IsRow layout) (map (drop 1) rows)
other_cells l layout [] h = tt
other_cells l layout ([] ∷ rows) h = absurd h.0
other_cells l layout ((c ∷ cs) ∷ rows) h = (h.0.1, other_cells l layout rows h.1)

row_has_cell : (l : Leaf) (layout : List Leaf) (cs : List Cell) → IsRow (l ∷ layout) cs → HasCell cs
row_has_cell l layout [] h = absurd h
row_has_cell l layout (c ∷ cs) h = tt

empty_rows : (rows : List (List Cell)) → AllByRecursion (IsRow []) rows → rows ≡ replicate (length rows) []
empty_rows [] h = refl
empty_rows ([] ∷ rows) h = ap (λ (zs : List (List Cell)). [] ∷ zs) (empty_rows rows h.1)
empty_rows ((c ∷ cs) ∷ rows) h = absurd h.0

rows_lawful : (layout : List Leaf) (n : ℕ) (rows : List (List Cell)) → length rows ≡ n → AllByRecursion (IsRow layout) rows → Counts (leaves_bytes layout rows) → (bundled_rows layout n).Lawful rows
rows_lawful [] n rows l h few = empty_rows rows h ∙ ap (λ (k : ℕ). replicate k []) l
rows_lawful (f ∷ layout) n rows l h few =
    let cells = map first_cell rows in
    let others = leaves_bytes layout (map (drop 1) rows) in (
      all_map (IsRow (f ∷ layout)) HasCell rows (row_has_cell f layout) h,
      (
        leaf_lawful f.rank n cells (length-map rows first_cell ∙ l) (first_cells f layout rows h) (counts_front (leaf_bytes f.rank cells) others few),
        rows_lawful layout n (map (drop 1) rows) (length-map rows (drop 1) ∙ l) (other_cells f layout rows h) (counts_rest (leaf_bytes f.rank cells) others few),
      ),
    )

-- ---- versions

-- what the parts of a bundle need of a version
abbrev FitsBundle : List Leaf → RowVersion → Type 0
FitsBundle layout v = (v.ts < 2 ^ 64) × IsRow layout v.cells

version_fits : (layout : List Leaf) (v : RowVersion) → IsTrue (is_version layout v) → FitsBundle layout v
version_fits layout v h =
    let both = with_cells layout v.cells in
    let moment : v.ts < 2 ^ 64 = grind (arith, nat_tests) in
    let lawful : IsTrue (are_lawful layout v.cells) = grind (arith, nat_tests) in
    let tests = and_parts (length layout == length v.cells) (list_all (λ c. suits c.0 c.1) both) (and_parts ((length layout == length v.cells) && list_all (λ c. suits c.0 c.1) both) (list_all (λ a. list_all (agree a) both) both) lawful).0 in
    (moment, row_of layout v.cells (eqb-true (length layout) (length v.cells) tests.0) tests.1)

ops_lawful : (n : ℕ) (vs : List RowVersion) → length vs ≡ n → (times n log.op).Lawful (map (λ v. v.op) vs)
unfolding log.op
ops_lawful n vs l = times_lawful n log.op (λ v. v.op) (λ v. ⊤) (λ v h. tt) vs l (all_true vs)

abbrev after_ts : RowVersion → Op × List Cell
after_ts v = (v.op, v.cells)

-- the parts of parts of versions are parts of versions
ts_of : (vs : List RowVersion) → map (λ p. p.0) (map after_key vs) ≡ map (λ v. v.ts) vs
ts_of vs = map-map (λ p. p.0) after_key vs

afters_of : (vs : List RowVersion) → map (λ p. p.1) (map after_key vs) ≡ map after_ts vs
afters_of vs = map-map (λ p. p.1) after_key vs

ops_of : (vs : List RowVersion) → map (λ p. p.0) (map after_ts vs) ≡ map (λ v. v.op) vs
ops_of vs = map-map (λ p. p.0) after_ts vs

cells_of : (vs : List RowVersion) → map (λ p. p.1) (map after_ts vs) ≡ map (λ v. v.cells) vs
cells_of vs = map-map (λ p. p.1) after_ts vs

versions_lawful : (layout : List Leaf) (n : ℕ) (vs : List RowVersion) → length vs ≡ n → AllByRecursion (FitsBundle layout) vs → Counts (with_offsets (map (λ v. v.key) vs)) → Counts (leaves_bytes layout (map (λ v. v.cells) vs)) → (bundled_versions layout n).Lawful vs
unfolding codec.u64
versions_lawful layout n vs l h keys leaves =
    let cells = rows_lawful layout n (map (λ v. v.cells) vs) (length-map vs (λ v. v.cells) ∙ l) (all_to_map (IsRow layout) (λ v. v.cells) vs (all_map (FitsBundle layout) (λ v. IsRow layout v.cells) vs (λ v f. f.1) h)) leaves in
    let beside_ops = pairs_of (codec.times n log.op) (bundled_rows layout n) in
    let inner : beside_ops.Lawful (map after_ts vs) = (all_true (map after_ts vs), (subst (codec.times n log.op).Lawful (sym (ops_of vs)) (ops_lawful n vs l), subst (bundled_rows layout n).Lawful (sym (cells_of vs)) cells)) in
    let times = times_lawful n codec.u64 (λ v. v.ts) (FitsBundle layout) (λ v f. f.0) vs l h in
    let outer : (pairs_of (codec.times n codec.u64) beside_ops).Lawful (map after_key vs) = (all_true (map after_key vs), (subst (codec.times n codec.u64).Lawful (sym (ts_of vs)) times, subst beside_ops.Lawful (sym (afters_of vs)) inner)) in
    (all_true vs, (strings_lawful n (map (λ v. v.key) vs) (length-map vs (λ v. v.key) ∙ l) keys, outer))

bundle_lawful : (layout : List Leaf) (vs : List RowVersion) → AllByRecursion (FitsBundle layout) vs → Counts (bundle_bytes layout vs) → (bundle layout).Lawful vs
unfolding bundle bundle_bytes codec.u64
bundle_lawful layout vs h few =
    let strings = with_offsets (map (λ v. v.key) vs) in
    let times = flat_map (λ v. u64 v.ts) vs in
    let ops = map (λ v. op_byte v.op) vs in
    let leaves = leaves_bytes layout (map (λ v. v.cells) vs) in
    let keyed = counts_rest (u64 (length vs)) (strings ++ (times ++ (ops ++ leaves))) (counts_rest (codes "LTB1") (u64 (length vs) ++ (strings ++ (times ++ (ops ++ leaves)))) few) in
    let opened = counts_rest times (ops ++ leaves) (counts_rest strings (times ++ (ops ++ leaves)) keyed) in
    let count : length vs < 2 ^ 64 = omega (arith, length-map vs (λ v. op_byte v.op), counts_front ops leaves opened) in
    (tt, (count, versions_lawful layout (length vs) vs refl h (counts_front strings (times ++ (ops ++ leaves)) keyed) (counts_rest ops leaves opened)))

pub bundles_lawful : BundlesAreLawful
bundles_lawful table layout vs bytes few h = bundle_lawful layout vs (all_map (λ v. IsTrue (is_version layout v)) (FitsBundle layout) vs (version_fits layout) h.lawful.lawful.each) (subst Counts h.spells few)

-- ---- their bytes

ones : (ns : List ℕ) → flat_map (λ n. n ∷ []) ns ≡ ns
ones [] = refl
ones (n ∷ ns) = flat_map-cons (λ n. n ∷ []) n ns ∙ ap (λ (ms : List ℕ). n ∷ ms) (ones ns)

told_spell : (r : Rank) (n : ℕ) (cs : List Cell) → (told_values r n).spell (map (told r) cs) ≡ leaf_values r cs
unfolding byte codec.i32 codec.i64 codec.u32 codec.u64
told_spell rank.Bool n cs = ones (map cell_bit cs)
told_spell rank.Int32 n cs = flat_map-map codec.i32.spell cell_number cs
told_spell rank.Int64 n cs = flat_map-map codec.i64.spell cell_number cs
told_spell rank.Text n cs = refl
told_spell rank.Bytes n cs = refl

leaf_spells : (r : Rank) (n : ℕ) (cs : List Cell) → (cells_of_leaf r n).spell cs ≡ leaf_bytes r cs
unfolding byte
leaf_spells r n cs = ap₂ (λ (x y : List ℕ). x ++ y) (ones (map state_byte cs)) (told_spell r n cs)

rows_spell : (layout : List Leaf) (n : ℕ) (rows : List (List Cell)) → (bundled_rows layout n).spell rows ≡ leaves_bytes layout rows
rows_spell [] n rows = refl
rows_spell (l ∷ layout) n rows = ap₂ (λ (x y : List ℕ). x ++ y) (leaf_spells l.rank n (map first_cell rows)) (rows_spell layout n (map (drop 1) rows))

ops_spell : (vs : List RowVersion) → flat_map log.op.spell (map (λ p. p.0) (map after_ts vs)) ≡ map (λ v. op_byte v.op) vs
unfolding log.op
ops_spell vs =
    ap (flat_map log.op.spell) (ops_of vs)
    ∙ flat_map-map log.op.spell (λ v. v.op) vs
    ∙ sym (flat_map-map (λ n. n ∷ []) (λ v. op_byte v.op) vs)
    ∙ ones (map (λ v. op_byte v.op) vs)

pub bundle_spells : (layout : List Leaf) (vs : List RowVersion) → (bundle layout).spell vs ≡ bundle_bytes layout vs
unfolding bundle bundle_bytes codec.u64
bundle_spells layout vs =
    let n = length vs in
    let front = λ (rest : List ℕ). codes "LTB1" ++ (u64 n ++ (with_offsets (map (λ v. v.key) vs) ++ rest)) in
    let times = ap (flat_map codec.u64.spell) (ts_of vs) ∙ flat_map-map codec.u64.spell (λ v. v.ts) vs in
    let inner = λ (ps : List (Op × List Cell)). flat_map log.op.spell (map (λ p. p.0) ps) ++ (bundled_rows layout n).spell (map (λ p. p.1) ps) in
    let cells = ap (bundled_rows layout n).spell (cells_of vs) ∙ rows_spell layout n (map (λ v. v.cells) vs) in
    ap front (ap₂ (λ (x y : List ℕ). x ++ y) times (ap inner (afters_of vs) ∙ ap₂ (λ (x y : List ℕ). x ++ y) (ops_spell vs) cells))

pub one_list : SpellOneList
one_list table layout vs ws bytes few h k =
    let spelled = λ (us : List RowVersion). ap (λ (t : List ℕ). t ++ []) (bundle_spells layout us) in
    let same = ap (λ (t : List ℕ). t ++ []) (sym h.spells ∙ k.spells) in
    (spell_apart (bundle layout) (bundle_is layout) vs ws [] [] (bundles_lawful table layout vs bytes few h) (bundles_lawful table layout ws bytes few k) (spelled vs ∙ same ∙ sym (spelled ws))).0
