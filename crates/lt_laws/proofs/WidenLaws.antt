-- Kinds that grew: what was set under the narrower carrier is, leaf by leaf, what it would be under the wider one.
use Rattle.std.proofs.Common.{Bool, List, [], ap, ap₂, arith, cond, false, refl, subst, sym, true, ℕ, ◌∙◌, ◌∷◌, ◌≡◌, ◌≤◌}
use Rattle.std.specs.Prelude.{IsTrue, None, Option, Some, option_and_then}
use Rattle.std.specs.Option.{option_map_or}
use Rattle.std.proofs.lemmas.Bool.{and_parts, false≢true}
use Rattle.std.specs.Str.{is_utf8}
use Rattle.lt_terms.specs.Value.{Value, bool_value, bytes_value, fits_64, int_value, null_value, struct_value, text_value, value_at}
use Rattle.lt_terms.specs.Layout.{Leaf, bool_cell, cell_of, cell_to, field_of, is_structure, leaf_cell, null_cell, value_along}
use Rattle.lt_terms.specs.Kind.{FieldKinds, Kind, enumeration, has_shape, is_struct, kind_at, kinds_of, no_kinds, plain, rank_number, structured}
use Rattle.lt_terms.specs.Conversion.{at_rank, conv}
use Rattle.lt_terms.specs.declared.Rank.{Rank}
use Rattle.lt_tables.specs.Schema.{clash, clash_within, joined, joined_fields}
use Rattle.lt_machine.specs.Laws.{fields_within, lies_within}
use Rattle.lt_lemmas.proofs.WidenLaws.{conv_null}
use Rattle.lt_lemmas.proofs.ConversionLemmas.{at_rank-null}
use Rattle.lt_laws.proofs.ConversionLemmas.{IsAtField, bit_fits, bytes_shape, field_within, int_shape, step_bool, text_shape, through_rank, value_at-conv}
use Rattle.lt_laws.proofs.LeafLaws.{Mark, leaf_of, mark_of}
use Rattle.lt_laws.proofs.CarrierLaws.{clash_at, kind_at-joined, onto_older, prim_up, rank_low}
use Rattle.lt_laws.proofs.CoerceLaws.{cell_as, cell_set}
use Rattle.lt_laws.proofs.FlattenLemmas.{cell_back}
use Rattle.lt_terms.specs.declared.Rank.TheVariants as rank

-- ---- a value along a path, converted

pub along_none : (q : List ℕ) → value_along q null_value ≡ null_value
along_none [] = refl
along_none (n ∷ q) = along_none q

-- the field of a converted struct
field_conv : (n : ℕ) (v : Value) (ks : FieldKinds) (k : Kind) → kind_at n ks ≡ Some k → field_of n (conv v (structured ks)) ≡ conv (field_of n v) k
field_conv n null_value ks k e = sym (conv_null k)
field_conv n (bool_value b) ks k e = sym (conv_null k)
field_conv n (int_value z) ks k e = sym (conv_null k)
field_conv n (text_value t) ks k e = sym (conv_null k)
field_conv n (bytes_value t) ks k e = sym (conv_null k)
field_conv n (struct_value fs) ks k e = value_at-conv n fs ks ∙ ap (λ (o : Option Kind). option_map_or (conv (value_at n fs)) o null_value) e

root_struct : (v : Value) (ks : FieldKinds) → is_structure (conv v (structured ks)) ≡ is_structure v
root_struct null_value ks = refl
root_struct (bool_value b) ks = refl
root_struct (int_value z) ks = refl
root_struct (text_value t) ks = refl
root_struct (bytes_value t) ks = refl
root_struct (struct_value fs) ks = refl

-- what is converted at a leaf's place is the value there: at its rank, or a struct where it is one
pub record AlongAs (k : Kind) (q : List ℕ) (m : Mark) (v : Value) : Type 0 where
  pub plainly : m.1 ≡ false → value_along q (conv v k) ≡ at_rank m.0 (value_along q v)
  pub present : m.1 ≡ true → is_structure (value_along q (conv v k)) ≡ is_structure (value_along q v)

pub next_kind : (q : List ℕ) (m : Mark) (o : Option Kind) → option_and_then (λ k. leaf_of k q) o ≡ Some m → (k : Kind) × (o ≡ Some k) × (leaf_of k q ≡ Some m)
next_kind q m None e = cc
next_kind q m (Some k) e = (k, refl, e)

pub along : (q : List ℕ) (k : Kind) (m : Mark) (v : Value) → leaf_of k q ≡ Some m → AlongAs k q m v
along [] (plain r) m v e = let d : (r, false) ≡ m = cc in subst (λ (x : Mark). AlongAs (plain r) [] x v) d (record { plainly = λ h. refl; present = λ h. absurd (false≢true h) })
along [] (enumeration names) m v e = let d : (rank.Int32, false) ≡ m = cc in subst (λ (x : Mark). AlongAs (enumeration names) [] x v) d (record { plainly = λ h. refl; present = λ h. absurd (false≢true h) })
along [] (structured ks) m v e = let d : (rank.Bool, true) ≡ m = cc in subst (λ (x : Mark). AlongAs (structured ks) [] x v) d (record { plainly = λ h. absurd (false≢true (sym h)); present = λ h. root_struct v ks })
along (n ∷ q) (plain r) m v e = cc
along (n ∷ q) (enumeration names) m v e = cc
along (n ∷ q) (structured ks) m v e =
    let k = next_kind q m (kind_at n ks) e in
    let r = along q k.0 m (field_of n v) k.2 in
    let f = field_conv n v ks k.0 k.1 in
    record { plainly = λ h. ap (value_along q) f ∙ r.plainly h; present = λ h. ap (λ (x : Value). is_structure (value_along q x)) f ∙ r.present h }

-- ---- what lies within a kind lies, along a path, within its leaf

field_lies : (n : ℕ) (v : Value) (ks : FieldKinds) (k : Kind) → kind_at n ks ≡ Some k → IsTrue (lies_within v (structured ks)) → IsTrue (lies_within (field_of n v) k)
field_lies n null_value ks k e h = refl
field_lies n (bool_value b) ks k e h = refl
field_lies n (int_value z) ks k e h = refl
field_lies n (text_value t) ks k e h = refl
field_lies n (bytes_value t) ks k e h = refl
field_lies n (struct_value fs) ks k e h = subst (IsAtField (value_at n fs)) e (field_within n fs ks (and_parts (fields_within fs ks) true h).0)

field_lacks : (n : ℕ) (v : Value) (k : Kind) → kind_at n (kinds_of k) ≡ None → IsTrue (lies_within v k) → field_of n v ≡ null_value
field_lacks n null_value k e h = refl
field_lacks n (bool_value b) k e h = refl
field_lacks n (int_value z) k e h = refl
field_lacks n (text_value t) k e h = refl
field_lacks n (bytes_value t) k e h = refl
field_lacks n (struct_value fs) k e h = subst (IsAtField (value_at n fs)) e (field_within n fs (kinds_of k) (and_parts (fields_within fs (kinds_of k)) (is_struct k) h).0)

pub lies_along : (q : List ℕ) (k : Kind) (m : Mark) (v : Value) → leaf_of k q ≡ Some m → m.1 ≡ false → IsTrue (lies_within v k) → IsTrue (lies_within (value_along q v) (plain m.0))
lies_along [] (plain r) m v e p h = let d : (r, false) ≡ m = cc in subst (λ (x : Mark). IsTrue (lies_within v (plain x.0))) d h
lies_along [] (enumeration names) m v e p h = let d : (rank.Int32, false) ≡ m = cc in subst (λ (x : Mark). IsTrue (lies_within v (plain x.0))) d (prim_up v (enumeration names) (plain rank.Int32) refl refl (omega arith) h)
lies_along [] (structured ks) m v e p h = let d : (rank.Bool, true) ≡ m = cc in absurd (false≢true (sym p ∙ ap (λ (x : Mark). x.1) (sym d)))
lies_along (n ∷ q) (plain r) m v e p h = cc
lies_along (n ∷ q) (enumeration names) m v e p h = cc
lies_along (n ∷ q) (structured ks) m v e p h = let k = next_kind q m (kind_at n ks) e in lies_along q k.0 m (field_of n v) k.2 p (field_lies n v ks k.0 k.1 h)

field_lies_in : (n : ℕ) (v : Value) (k j : Kind) → kind_at n (kinds_of k) ≡ Some j → IsTrue (lies_within v k) → IsTrue (lies_within (field_of n v) j)
field_lies_in n v (plain r) j e h = cc
field_lies_in n v (enumeration names) j e h = cc
field_lies_in n v (structured ks) j e h = field_lies n v ks j e h

lacks_by : (n : ℕ) (q : List ℕ) (k : Kind) (v : Value) (o : Option Kind) → kind_at n (kinds_of k) ≡ o → option_and_then (λ k. leaf_of k q) o ≡ None → IsTrue (lies_within v k)
    → ((j : Kind) (w : Value) → leaf_of j q ≡ None → IsTrue (lies_within w j) → value_along q w ≡ null_value) → value_along q (field_of n v) ≡ null_value
lacks_by n q k v None d e h f = ap (value_along q) (field_lacks n v k d h) ∙ along_none q
lacks_by n q k v (Some j) d e h f = f j (field_of n v) e (field_lies_in n v k j d h)

-- where the kind has no leaf, the value has nothing
pub lacks_along : (q : List ℕ) (k : Kind) (v : Value) → leaf_of k q ≡ None → IsTrue (lies_within v k) → value_along q v ≡ null_value
lacks_along [] k v e h = cc
lacks_along (n ∷ q) k v e h = lacks_by n q k v (kind_at n (kinds_of k)) refl e h (lacks_along q)

-- ---- a value within a leaf's rank, at that rank

pub lies_shape : (r : Rank) (u : Value) → IsTrue (lies_within u (plain r)) → IsTrue (has_shape (at_rank r u) (plain r))
lies_shape r null_value h = subst (λ (v : Value). IsTrue (has_shape v (plain r))) (sym (at_rank-null r)) refl
lies_shape r (bool_value b) h = subst (λ (v : Value). IsTrue (has_shape v (plain r))) (step_bool b r) (int_shape r _ (bit_fits b))
lies_shape r (int_value z) h = int_shape r z (and_parts (fits_64 z) _ h).0
lies_shape r (text_value t) h = text_shape r t (and_parts (is_utf8 t) _ h).0
lies_shape r (bytes_value t) h = bytes_shape r t (is_utf8 t) refl
lies_shape r (struct_value fs) h = absurd (false≢true (and_parts (fields_within fs no_kinds) false h).1)

-- at one rank, and then at another
pub plain_twice : (r s : Rank) (u : Value) → IsTrue (lies_within u (plain r)) → cell_to r s (cell_of (at_rank r u)) ≡ cell_of (at_rank s u)
plain_twice r s u h = cell_as r s (cell_of (at_rank r u)) (cell_set (at_rank r u)) ∙ ap (λ (v : Value). cell_of (at_rank s v)) (cell_back r (at_rank r u) (lies_shape r u h)) ∙ ap cell_of (through_rank u r s h)

-- ---- leaves of kinds that grew

-- each leaf of the first is one of the second, of at least its rank and the same presence
abbrev pub LeavesUp : Kind → Kind → Type 0
LeavesUp k wide = (q : List ℕ) (m : Mark) → leaf_of k q ≡ Some m → (n : Mark) × (leaf_of wide q ≡ Some n) × (rank_number m.0 ≤ rank_number n.0) × (n.1 ≡ m.1)

pub same_leaves : (k : Kind) → LeavesUp k k
same_leaves k q m e = (m, e, omega arith, refl)

root_up : (older k : Kind) (m : Mark) → clash older k ≡ false → mark_of older ≡ m → (rank_number m.0 ≤ rank_number (mark_of (joined older k)).0) × ((mark_of (joined older k)).1 ≡ m.1)
root_up (plain a) (plain r) m c e = subst (λ (x : Mark). (rank_number x.0 ≤ rank_number (mark_of (joined (plain a) (plain r))).0) × ((mark_of (joined (plain a) (plain r))).1 ≡ x.1)) e (rank_low a r, refl)
root_up (plain a) (enumeration names) m c e = subst (λ (x : Mark). (rank_number x.0 ≤ rank_number (mark_of (joined (plain a) (enumeration names))).0) × ((mark_of (joined (plain a) (enumeration names))).1 ≡ x.1)) e (rank_low a rank.Int32, refl)
root_up (enumeration os) (plain r) m c e = subst (λ (x : Mark). (rank_number x.0 ≤ rank_number (mark_of (joined (enumeration os) (plain r))).0) × ((mark_of (joined (enumeration os) (plain r))).1 ≡ x.1)) e (rank_low rank.Int32 r, refl)
root_up (enumeration os) (enumeration names) m c e = subst (λ (x : Mark). (rank_number x.0 ≤ rank_number (mark_of (joined (enumeration os) (enumeration names))).0) × ((mark_of (joined (enumeration os) (enumeration names))).1 ≡ x.1)) e (rank_low rank.Int32 rank.Int32, refl)
root_up (structured os) (structured ks) m c e = subst (λ (x : Mark). (rank_number x.0 ≤ 1) × (true ≡ x.1)) e (omega arith, refl)
root_up (plain a) (structured ks) m c e = absurd (false≢true (sym c))
root_up (enumeration os) (structured ks) m c e = absurd (false≢true (sym c))
root_up (structured os) (plain r) m c e = absurd (false≢true (sym c))
root_up (structured os) (enumeration names) m c e = absurd (false≢true (sym c))

abbrev IsUp : Kind → List ℕ → Mark → Type 0
IsUp wide q m = (n : Mark) × (leaf_of wide q ≡ Some n) × (rank_number m.0 ≤ rank_number n.0) × (n.1 ≡ m.1)

field_up : (os ks : FieldKinds) (n : ℕ) (q : List ℕ) (m : Mark) (o : Kind) (x : Option Kind) → kind_at n os ≡ Some o → kind_at n ks ≡ x → clash_within os ks ≡ false → leaf_of o q ≡ Some m
    → ((a : Kind) → clash o a ≡ false → IsUp (joined o a) q m) → IsUp (structured (joined_fields os ks)) (n ∷ q) m
field_up os ks n q m o None e d c l f = (m, ap (option_and_then (λ k. leaf_of k q)) (kind_at-joined n os ks ∙ ap (λ (x : Option Kind). option_map_or (λ k. Some (onto_older (kind_at n os) k)) x (kind_at n os)) d ∙ e) ∙ l, omega arith, refl)
field_up os ks n q m o (Some a) e d c l f =
    let r = f a (clash_at os ks c n a o d e) in
    let at : kind_at n (joined_fields os ks) ≡ Some (joined o a) = kind_at-joined n os ks ∙ ap (λ (x : Option Kind). option_map_or (λ k. Some (onto_older (kind_at n os) k)) x (kind_at n os)) d ∙ ap (λ (x : Option Kind). Some (onto_older x a)) e in
    (r.0, ap (option_and_then (λ k. leaf_of k q)) at ∙ r.1, r.2, r.3)

leaf_up : (q : List ℕ) (older k : Kind) (m : Mark) → clash older k ≡ false → leaf_of older q ≡ Some m → IsUp (joined older k) q m
leaf_up [] older k m c e = let d : mark_of older ≡ m = cc in let r = root_up older k m c d in (mark_of (joined older k), refl, r.0, r.1)
leaf_up (n ∷ q) (plain r) k m c e = cc
leaf_up (n ∷ q) (enumeration names) k m c e = cc
leaf_up (n ∷ q) (structured os) (plain r) m c e = absurd (false≢true (sym c))
leaf_up (n ∷ q) (structured os) (enumeration names) m c e = absurd (false≢true (sym c))
leaf_up (n ∷ q) (structured os) (structured ks) m c e =
    let o = next_kind q m (kind_at n os) e in
    field_up os ks n q m o.0 (kind_at n ks) o.1 refl c o.2 (λ a d. leaf_up q o.0 a m d o.2)

-- what is joined to a kind keeps its leaves
pub leaves_up : (older k : Kind) → clash older k ≡ false → LeavesUp older (joined older k)
leaves_up older k c q m e = leaf_up q older k m c e

-- a presence leaf is a Bool
pub presence_bool : (q : List ℕ) (k : Kind) (m : Mark) → leaf_of k q ≡ Some m → m.1 ≡ true → m.0 ≡ rank.Bool
presence_bool [] (plain r) m e t = let d : (r, false) ≡ m = cc in absurd (false≢true (ap (λ (x : Mark). x.1) d ∙ t))
presence_bool [] (enumeration names) m e t = let d : (rank.Int32, false) ≡ m = cc in absurd (false≢true (ap (λ (x : Mark). x.1) d ∙ t))
presence_bool [] (structured ks) m e t = let d : (rank.Bool, true) ≡ m = cc in ap (λ (x : Mark). x.0) (sym d)
presence_bool (n ∷ q) k m e t = let j = next_kind q m (kind_at n (kinds_of k)) e in presence_bool q j.0 m j.2 t

pub bool_to : (x : Bool) → cell_to rank.Bool rank.Bool (bool_cell x) ≡ bool_cell x
unfolding cell_to at_rank
bool_to x = refl

-- ---- what was set, under both

-- a value's cell at a leaf of the wider kind is the narrower kind's cell there
pub cell_widens : (k wide : Kind) (v : Value) (b a : Leaf) → LeavesUp k wide → IsTrue (lies_within v k) → leaf_of wide b.path ≡ Some (b.rank, b.presence) → leaf_of k b.path ≡ Some (a.rank, a.presence) → a.path ≡ b.path
    → cell_to a.rank b.rank (leaf_cell a (conv v k)) ≡ leaf_cell b (conv v wide)
cell_widens k wide v b a up h eb ea p =
    let n = up b.path (a.rank, a.presence) ea in
    let d : Some n.0 ≡ Some (b.rank, b.presence) = sym n.1 ∙ eb in
    let x : n.0 ≡ (b.rank, b.presence) = cc in
    let same_presence : b.presence ≡ a.presence = ap (λ (m : Mark). m.1) (sym x) ∙ n.3 in
    ap (λ (q : List ℕ). cell_to a.rank b.rank (cond a.presence (bool_cell (is_structure (value_along q (conv v k)))) (cell_of (value_along q (conv v k))))) p
    ∙ by_presence a.presence refl same_presence (along b.path k (a.rank, a.presence) v ea) (along b.path wide (b.rank, b.presence) v eb)
  where
    by_presence : (t : Bool) → a.presence ≡ t → b.presence ≡ a.presence → AlongAs k b.path (a.rank, a.presence) v → AlongAs wide b.path (b.rank, b.presence) v
        → cell_to a.rank b.rank (cond t (bool_cell (is_structure (value_along b.path (conv v k)))) (cell_of (value_along b.path (conv v k)))) ≡ cond b.presence (bool_cell (is_structure (value_along b.path (conv v wide)))) (cell_of (value_along b.path (conv v wide)))
    by_presence true t same r s =
        let u : b.presence ≡ true = same ∙ t in
        ap₂ (λ (x y : Rank). cell_to x y (bool_cell (is_structure (value_along b.path (conv v k))))) (presence_bool b.path k (a.rank, a.presence) ea t) (presence_bool b.path wide (b.rank, b.presence) eb u)
        ∙ bool_to (is_structure (value_along b.path (conv v k))) ∙ ap bool_cell (r.present t ∙ sym (s.present u))
        ∙ sym (ap (λ (z : Bool). cond z (bool_cell (is_structure (value_along b.path (conv v wide)))) (cell_of (value_along b.path (conv v wide)))) u)
    by_presence false t same r s =
        let u : b.presence ≡ false = same ∙ t in
        ap (λ (w : Value). cell_to a.rank b.rank (cell_of w)) (r.plainly t) ∙ plain_twice a.rank b.rank (value_along b.path v) (lies_along b.path k (a.rank, a.presence) v ea t h) ∙ ap cell_of (sym (s.plainly u))
        ∙ sym (ap (λ (z : Bool). cond z (bool_cell (is_structure (value_along b.path (conv v wide)))) (cell_of (value_along b.path (conv v wide)))) u)

-- where the narrower kind has no leaf, it is null, or no struct
pub cell_lacks : (k wide : Kind) (v : Value) (b : Leaf) → IsTrue (lies_within v k) → leaf_of wide b.path ≡ Some (b.rank, b.presence) → leaf_of k b.path ≡ None → cond b.presence (bool_cell false) null_cell ≡ leaf_cell b (conv v wide)
cell_lacks k wide v b h eb none = by_presence b.presence refl (along b.path wide (b.rank, b.presence) v eb) (lacks_along b.path k v none h)
  where
    by_presence : (t : Bool) → b.presence ≡ t → AlongAs wide b.path (b.rank, b.presence) v → value_along b.path v ≡ null_value
        → cond t (bool_cell false) null_cell ≡ cond t (bool_cell (is_structure (value_along b.path (conv v wide)))) (cell_of (value_along b.path (conv v wide)))
    by_presence true t s e = ap bool_cell (sym (s.present t ∙ ap is_structure e))
    by_presence false t s e = ap cell_of (sym (s.plainly t ∙ ap (at_rank b.rank) e ∙ at_rank-null b.rank))
