-- The codec of bundles keeps the laws, and spells as the store's grammar does.
use Rattle.std.proofs.Common.{Bool, List, None, Option, Some, [], ap, append_assoc, ap₂, arith, cond, drop, eqb-true, false, le-leb, leb-true, length, length-append, ltb-true, map, negsuc, pos, refl, subst, suc, sym, take, true, zero, ℕ, ℤ, ◌++◌, ◌+◌, ◌-◌, ◌∙◌, ◌∷◌, ◌≡◌, ◌≤◌}
use Rattle.std.specs.Prelude.{IsTrue, codes, get_or, nat_le, nat_lt, replicate, ⊤, ◌&&◌, ◌==◌}
use Rattle.std.specs.List.{AllByRecursion, concat}
use Rattle.std.proofs.lemmas.Bool.{and_from, and_parts, false≢true}
use Rattle.std.proofs.lemmas.List.{drop_at, length-map, length-replicate, length-take, nil_from_length, take-append-drop, take_at}
use Rattle.lt_terms.specs.declared.Rank.{Rank}
use Rattle.lt_terms.specs.Layout.{Cell, Leaf, bool_cell, bytes_cell, int_cell, null_cell, unset}
use Rattle.lt_storage.specs.Bundle.{first_cell, offsets_from, state_byte}
use Rattle.lt_codecs.specs.Codec.{Codec, IsBytes, IsCodec, Takes, byte, times, ◌>>=◌}
use Rattle.lt_codecs.specs.CodecLaws.{States}
use Rattle.lt_codecs.proofs.Codecs.{IsBytes-drop, Takes-then, bind_some, byte_is, guard_then, i32_is, i64_is, literal_is, mapped_is, some_is, stated_is, then_by_is, then_is, times_is, u64_is, where_true_is}
use Rattle.lt_codecs.proofs.ValueCodecs.{bit_again}
use Rattle.lt_codecs.proofs.ItemCodecs.{op_is}
use Rattle.lt_store_codecs.specs.BundleCodec.{HasCell, OfRank, Told, after_key, all_beside, beside, bit_byte, bundle, bundled_rows, bundled_versions, cell_from, cells_of_leaf, is_blank, is_cell, is_zero, no_leaves, pairs_of, read_strings, strings, strings_at, told, told_values, version_from, zip_by}
use Rattle.lt_terms.specs.declared.Rank.TheVariants as rank
use Rattle.lt_codecs.specs.Codec as codec
use Rattle.lt_codecs.specs.LogCodec as log

-- ---- two lists beside each other

-- a codec of lists of so many items
pub record IsColumn {A : Type 0} (n : ℕ) (c : Codec (List A)) : Type 0 where
  pub is_codec : IsCodec c
  pub long : (xs : List A) → c.Lawful xs → length xs ≡ n

-- two parts that pass make an item of these parts, and each item that was made is made of its parts, which pass
record IsBeside {A B C : Type 0} (left : A → B) (right : A → C) (make : B → C → A) (test : B → C → Bool) (Made : A → Type 0) : Type 0 where
  made : (b : B) (c : C) → IsTrue (test b c) → (left (make b c) ≡ b) × ((right (make b c) ≡ c) × Made (make b c))
  comes : (a : A) → Made a → (make (left a) (right a) ≡ a) × IsTrue (test (left a) (right a))

zipped : {A B C : Type 0} (left : A → B) (right : A → C) (make : B → C → A) (test : B → C → Bool) (Made : A → Type 0) → IsBeside left right make test Made → (bs : List B) (cs : List C) → length bs ≡ length cs → IsTrue (all_beside test bs cs)
    → (map left (zip_by make bs cs) ≡ bs) × ((map right (zip_by make bs cs) ≡ cs) × AllByRecursion Made (zip_by make bs cs))
zipped left right make test Made p [] [] l h = (refl, (refl, tt))
zipped left right make test Made p [] (c ∷ cs) l h = absurd (omega (arith, l))
zipped left right make test Made p (b ∷ bs) [] l h = absurd (omega (arith, l))
zipped {A} {B} {C} left right make test Made p (b ∷ bs) (c ∷ cs) l h =
    let t = and_parts (test b c) (all_beside test bs cs) h in
    let one = p.made b c t.0 in
    let others = zipped left right make test Made p bs cs (omega (arith, l)) t.1 in
    (ap₂ (λ (z : B) (zs : List B). z ∷ zs) one.0 others.0, (ap₂ (λ (z : C) (zs : List C). z ∷ zs) one.1.0 others.1.0, (one.1.1, others.1.1)))

unzipped : {A B C : Type 0} (left : A → B) (right : A → C) (make : B → C → A) (test : B → C → Bool) (Made : A → Type 0) → IsBeside left right make test Made → (xs : List A) → AllByRecursion Made xs
    → (zip_by make (map left xs) (map right xs) ≡ xs) × IsTrue (all_beside test (map left xs) (map right xs))
unzipped left right make test Made p [] h = (refl, refl)
unzipped {A} left right make test Made p (x ∷ xs) h =
    let one = p.comes x h.0 in
    let others = unzipped left right make test Made p xs h.1 in
    (ap₂ (λ (z : A) (zs : List A). z ∷ zs) one.0 others.0, and_from _ _ one.1 others.1)

abbrev beside_spell : {A B C : Type 0} → (A → B) → (A → C) → Codec (List B) → Codec (List C) → List A → List ℕ
beside_spell left right b c xs = b.spell (map left xs) ++ c.spell (map right xs)

abbrev BesideLawful : {A B C : Type 0} → (A → B) → (A → C) → (A → Type 0) → Codec (List B) → Codec (List C) → List A → Type 0
BesideLawful left right Made b c xs = AllByRecursion Made xs × (b.Lawful (map left xs) × c.Lawful (map right xs))

beside_states : {A B C : Type 0} (left : A → B) (right : A → C) (make : B → C → A) (test : B → C → Bool) (Made : A → Type 0) (b : Codec (List B)) (c : Codec (List C)) (n : ℕ) → IsBeside left right make test Made → IsColumn n b → IsColumn n c
    → States (λ y. zip_by make y.0 y.1) (beside_spell left right b c) (BesideLawful left right Made b c) (codec.where_true (λ y. all_beside test y.0 y.1) (codec.◌then◌ b c))
beside_states {A} {B} {C} left right make test Made b c n p q r = record {
  made = λ y h.
      let z = zipped left right make test Made p y.0 y.1 (q.long y.0 h.0.0 ∙ sym (r.long y.1 h.0.1)) h.1 in (
        (z.1.1, (subst b.Lawful (sym z.0) h.0.0, subst c.Lawful (sym z.1.0) h.0.1)),
        sym (ap₂ (λ (bs : List B) (cs : List C). b.spell bs ++ c.spell cs) z.0 z.1.0),
      );
  comes = λ xs h. let u = unzipped left right make test Made p xs h.0 in ((map left xs, map right xs), u.0, (h.1, u.1));
}

beside_is : {A B C : Type 0} (left : A → B) (right : A → C) (make : B → C → A) (test : B → C → Bool) (Made : A → Type 0) (b : Codec (List B)) (c : Codec (List C)) (n : ℕ)
    → IsBeside left right make test Made → IsColumn n b → IsColumn n c → IsColumn n (beside left right make test Made b c)
beside_is left right make test Made b c n p q r = record {
  is_codec = stated_is (λ y. zip_by make y.0 y.1) (beside_spell left right b c) (BesideLawful left right Made b c) _ (beside_states left right make test Made b c n p q r)
      (where_true_is (λ y. all_beside test y.0 y.1) (codec.◌then◌ b c) (then_is b c q.is_codec r.is_codec));
  long = λ xs h. sym (length-map xs left) ∙ q.long (map left xs) h.1.0;
}

times_column : {A : Type 0} (n : ℕ) (a : Codec A) → IsCodec a → IsColumn n (times n a)
times_column n a p = record { is_codec = times_is n a p; long = λ xs h. h.0 }

-- ---- byte strings behind their offsets

pub offsets_length : (n : ℕ) (bs : List (List ℕ)) → length (offsets_from n bs) ≡ length bs + 1
offsets_length n [] = refl
offsets_length n (b ∷ bs) = omega (arith, offsets_length (n + length b) bs)

strings_take : (n : ℕ) (os bytes : List ℕ) (bs : List (List ℕ)) (rest : List ℕ) → IsBytes bytes → read_strings (n ∷ os) bytes ≡ Some (bs, rest) → Takes bytes (concat bs) rest × (offsets_from n bs ≡ n ∷ os)
strings_take n [] bytes bs rest fits e =
    subst (λ (z : List (List ℕ) × List ℕ). Takes bytes (concat z.0) z.1 × (offsets_from n z.0 ≡ n ∷ [])) (some_is ([], bytes) (bs, rest) e) (record { parts = refl; rest_fits = fits }, refl)
strings_take n (m ∷ os) bytes bs rest fits e =
    let k = m - n in
    let tail : Option (List (List ℕ) × List ℕ) = read_strings (m ∷ os) (drop k bytes) >>= λ r. Some (take k bytes ∷ r.0, r.1) in
    let g = guard_then (nat_le n m && nat_le k (length bytes)) tail (bs, rest) e in
    let t = and_parts (nat_le n m) (nat_le k (length bytes)) g.0 in
    let up : n ≤ m = leb-true n m t.0 in
    let long : k ≤ length bytes = leb-true k (length bytes) t.1 in
    let two = bind_some (read_strings (m ∷ os) (drop k bytes)) (λ r. Some (take k bytes ∷ r.0, r.1)) (bs, rest) g.1 in
    let u = strings_take m os (drop k bytes) two.0.0 two.0.1 (IsBytes-drop k bytes fits) two.1 in
    let len : length (take k bytes) ≡ k = omega (arith, length-take k bytes, long) in
    let front : Takes bytes (take k bytes) (drop k bytes) = record { parts = sym (take-append-drop k bytes); rest_fits = IsBytes-drop k bytes fits } in
    let both = Takes-then bytes (take k bytes) (drop k bytes) (concat two.0.0) two.0.1 front u.0 in
    let at : n + length (take k bytes) ≡ m = omega (arith, len, up) in
    let offsets : offsets_from n (take k bytes ∷ two.0.0) ≡ n ∷ m ∷ os = ap (λ (i : ℕ). n ∷ offsets_from i two.0.0) at ∙ ap (λ (is : List ℕ). n ∷ is) u.1 in
    subst (λ (z : List (List ℕ) × List ℕ). Takes bytes (concat z.0) z.1 × (offsets_from n z.0 ≡ n ∷ m ∷ os)) (some_is (take k bytes ∷ two.0.0, two.0.1) (bs, rest) two.2) (both, offsets)

headed : (n : ℕ) (bs : List (List ℕ)) → offsets_from n bs ≡ n ∷ drop 1 (offsets_from n bs)
headed n [] = refl
headed n (b ∷ bs) = refl

strings_again : (n : ℕ) (bs : List (List ℕ)) (rest : List ℕ) → read_strings (offsets_from n bs) (concat bs ++ rest) ≡ Some (bs, rest)
strings_again n [] rest = refl
strings_again n (b ∷ bs) rest =
    let m = n + length b in
    let os = drop 1 (offsets_from m bs) in
    let tail = concat bs ++ rest in
    let ih : read_strings (m ∷ os) tail ≡ Some (bs, rest) = ap (λ (is : List ℕ). read_strings is tail) (sym (headed m bs)) ∙ strings_again m bs rest in
    let k : m - n ≡ length b = omega arith in
    let up : nat_le n m ≡ true = le-leb n m (omega arith) in
    let long : nat_le (length b) (length (b ++ tail)) ≡ true = le-leb _ _ (omega (arith, length-append b tail)) in
    ap (λ (is : List ℕ). read_strings (n ∷ is) ((b ++ concat bs) ++ rest)) (headed m bs)
    ∙ ap (read_strings (n ∷ m ∷ os)) (append_assoc b (concat bs) rest)
    ∙ rw (k, up, long, take_at b tail (length b) refl, drop_at b tail (length b) refl, ih) refl

strings_at_is : (os : List ℕ) → IsCodec (strings_at os)
strings_at_is os = record { takes = λ bytes bs rest fits e. taken os bytes bs rest fits e; again = λ bs rest h. again_of os bs rest h }
  where
    taken : (os bytes : List ℕ) (bs : List (List ℕ)) (rest : List ℕ) → IsBytes bytes → cond (get_or os 0 1 == 0) (read_strings os bytes) None ≡ Some (bs, rest) → Takes bytes (concat bs) rest × (offsets_from 0 bs ≡ os)
    taken [] bytes bs rest fits e = absurd cc
    taken (n ∷ os) bytes bs rest fits e =
        let g = guard_then (n == 0) (read_strings (n ∷ os) bytes) (bs, rest) e in
        let t = strings_take n os bytes bs rest fits g.1 in
        (t.0, subst (λ (k : ℕ). offsets_from k bs ≡ n ∷ os) (eqb-true n 0 g.0) t.1)

    at_first : (bs : List (List ℕ)) → get_or (offsets_from 0 bs) 0 1 ≡ 0
    at_first [] = refl
    at_first (b ∷ bs) = refl

    again_of : (os : List ℕ) (bs : List (List ℕ)) (rest : List ℕ) → offsets_from 0 bs ≡ os → cond (get_or os 0 1 == 0) (read_strings os (concat bs ++ rest)) None ≡ Some (bs, rest)
    again_of os bs rest h =
        ap (λ (is : List ℕ). cond (get_or is 0 1 == 0) (read_strings is (concat bs ++ rest)) None) (sym h)
        ∙ ap (λ (k : ℕ). cond (k == 0) (read_strings (offsets_from 0 bs) (concat bs ++ rest)) None) (at_first bs)
        ∙ strings_again 0 bs rest

strings_column : (n : ℕ) → IsColumn n (strings n)
strings_column n = record {
  is_codec = mapped_is (λ p. p.1) (λ bs. (offsets_from 0 bs, bs)) (codec.then_by (times (suc n) codec.u64) strings_at) (λ x h. λ i. (h.1 i, x.1)) (λ y h. refl)
      (then_by_is (times (suc n) codec.u64) strings_at (times_is (suc n) codec.u64 u64_is) (λ os h. strings_at_is os));
  long = λ bs h. omega (arith, h.0.0, offsets_length 0 bs);
}

-- ---- the cells of a leaf

told_column : (r : Rank) (n : ℕ) → IsColumn n (told_values r n)
told_column rank.Bool n = times_column n bit_byte (where_true_is (λ b. nat_lt b 2) byte byte_is)
told_column rank.Int32 n = times_column n codec.i32 i32_is
told_column rank.Int64 n = times_column n codec.i64 i64_is
told_column rank.Text n = strings_column n
told_column rank.Bytes n = strings_column n

zero_is : (z : ℤ) → IsTrue (is_zero z) → pos 0 ≡ z
zero_is (pos zero) h = refl
zero_is (pos (suc n)) h = absurd (false≢true h)
zero_is (negsuc n) h = absurd (false≢true h)

blank_is : (r : Rank) (v : Told r) → IsTrue (is_blank r v) → (told r unset ≡ v) × (told r null_cell ≡ v)
blank_is rank.Bool v h = let e : 0 ≡ v = sym (eqb-true v 0 h) in (e, e)
blank_is rank.Int32 v h = (zero_is v h, zero_is v h)
blank_is rank.Int64 v h = (zero_is v h, zero_is v h)
blank_is rank.Text v h = let e : [] ≡ v = sym (nil_from_length v (eqb-true (length v) 0 h)) in (e, e)
blank_is rank.Bytes v h = let e : [] ≡ v = sym (nil_from_length v (eqb-true (length v) 0 h)) in (e, e)

cell_made : (r : Rank) (n : ℕ) (v : Told r) → IsTrue (is_cell r n v) → (state_byte (cell_from r n v) ≡ n) × ((told r (cell_from r n v) ≡ v) × OfRank r (cell_from r n v))
cell_made r zero v h = (refl, ((blank_is r v h).0, tt))
cell_made r (suc zero) v h = (refl, ((blank_is r v h).1, tt))
cell_made rank.Bool (suc (suc zero)) v h = (refl, (bit_again v (ltb-true v 2 h), tt))
cell_made rank.Int32 (suc (suc zero)) v h = (refl, (refl, h))
cell_made rank.Int64 (suc (suc zero)) v h = (refl, (refl, h))
cell_made rank.Text (suc (suc zero)) v h = (refl, (refl, tt))
cell_made rank.Bytes (suc (suc zero)) v h = (refl, (refl, tt))
cell_made r (suc (suc (suc n))) v h = absurd (false≢true h)

blank_cells : (r : Rank) → IsTrue (is_blank r (told r unset)) × IsTrue (is_blank r (told r null_cell))
blank_cells rank.Bool = (refl, refl)
blank_cells rank.Int32 = (refl, refl)
blank_cells rank.Int64 = (refl, refl)
blank_cells rank.Text = (refl, refl)
blank_cells rank.Bytes = (refl, refl)

cell_comes : (r : Rank) (c : Cell) → OfRank r c → (cell_from r (state_byte c) (told r c) ≡ c) × IsTrue (is_cell r (state_byte c) (told r c))
cell_comes r unset h = (refl, (blank_cells r).0)
cell_comes r null_cell h = (refl, (blank_cells r).1)
cell_comes rank.Bool (bool_cell true) h = (refl, refl)
cell_comes rank.Bool (bool_cell false) h = (refl, refl)
cell_comes rank.Int32 (int_cell z) h = (refl, h)
cell_comes rank.Int64 (int_cell z) h = (refl, h)
cell_comes rank.Text (bytes_cell b) h = (refl, refl)
cell_comes rank.Bytes (bytes_cell b) h = (refl, refl)
cell_comes rank.Bool (int_cell z) h = absurd h
cell_comes rank.Bool (bytes_cell b) h = absurd h
cell_comes rank.Int32 (bool_cell b) h = absurd h
cell_comes rank.Int32 (bytes_cell b) h = absurd h
cell_comes rank.Int64 (bool_cell b) h = absurd h
cell_comes rank.Int64 (bytes_cell b) h = absurd h
cell_comes rank.Text (bool_cell b) h = absurd h
cell_comes rank.Text (int_cell z) h = absurd h
cell_comes rank.Bytes (bool_cell b) h = absurd h
cell_comes rank.Bytes (int_cell z) h = absurd h

leaf_column : (r : Rank) (n : ℕ) → IsColumn n (cells_of_leaf r n)
leaf_column r n = beside_is state_byte (told r) (cell_from r) (is_cell r) (OfRank r) (times n byte) (told_values r n) n (record { made = cell_made r; comes = cell_comes r }) (times_column n byte byte_is) (told_column r n)

-- ---- rows and versions

no_leaves_column : (n : ℕ) → IsColumn n (no_leaves n)
no_leaves_column n = record {
  is_codec = record {
    takes = λ bytes rows rest fits e.
        let made : List (List Cell) × List ℕ = (replicate n [], bytes) in
        subst (λ (z : List (List Cell) × List ℕ). Takes bytes [] z.1 × (z.0 ≡ replicate n [])) (some_is made (rows, rest) e) (record { parts = refl; rest_fits = fits }, refl);
    again = λ rows rest h. ap (λ (rs : List (List Cell)). Some (rs, rest)) (sym h);
  };
  long = λ rows h. ap length h ∙ length-replicate n [];
}

row_comes : (cs : List Cell) → HasCell cs → (first_cell cs ∷ drop 1 cs ≡ cs) × (true ≡ true)
row_comes [] h = absurd h
row_comes (c ∷ cs) h = (refl, refl)

rows_column : (layout : List Leaf) (n : ℕ) → IsColumn n (bundled_rows layout n)
rows_column [] n = no_leaves_column n
rows_column (l ∷ layout) n =
    beside_is first_cell (drop 1) (λ c cs. c ∷ cs) (λ c cs. true) HasCell (cells_of_leaf l.rank n) (bundled_rows layout n) n (record { made = λ c cs h. (refl, (refl, tt)); comes = row_comes }) (leaf_column l.rank n) (rows_column layout n)

pairs_column : {A B : Type 0} (n : ℕ) (a : Codec (List A)) (b : Codec (List B)) → IsColumn n a → IsColumn n b → IsColumn n (pairs_of a b)
pairs_column n a b p q = beside_is (λ p. p.0) (λ p. p.1) (λ x y. (x, y)) (λ x y. true) (λ p. ⊤) a b n (record { made = λ x y h. (refl, (refl, tt)); comes = λ p h. (refl, refl) }) p q

versions_column : (layout : List Leaf) (n : ℕ) → IsColumn n (bundled_versions layout n)
versions_column layout n =
    beside_is (λ v. v.key) after_key version_from (λ k p. true) (λ v. ⊤) (strings n) _ n (record { made = λ k p h. (refl, (refl, tt)); comes = λ v h. (refl, refl) }) (strings_column n)
    (pairs_column n (times n codec.u64) _ (times_column n codec.u64 u64_is) (pairs_column n (times n log.op) (bundled_rows layout n) (times_column n log.op op_is) (rows_column layout n)))

pub bundle_is : (layout : List Leaf) → IsCodec (bundle layout)
unfolding bundle
bundle_is layout = mapped_is (λ p. p.1.1) (λ vs. (tt, (length vs, vs))) _ (λ x h. let l = (versions_column layout x.1.0).long x.1.1 h.1.1 in λ i. (tt, (l i, x.1.1))) (λ y h. refl)
    (then_is (codec.literal (codes "LTB1")) _ (literal_is (codes "LTB1")) (then_by_is codec.u64 (bundled_versions layout) u64_is (λ n h. (versions_column layout n).is_codec)))
