-- Carriers: what lies within one of the kinds that they join lies within them, and they keep what those kinds have in common.
use Rattle.std.proofs.Common.{Bool, List, ap, ap₂, arith, cond, eq-eqb, eqb-true, false, le-leb, leb-true, lt-ltb, ltb-false, ltb-true, ne_eqb, refl, subst, sym, true, ℕ, ◌+◌, ◌-◌, ◌<◌, ◌∙◌, ◌≡◌, ◌≤◌}
use Rattle.std.specs.Prelude.{IsTrue, None, Option, Some, max, nat_le, nat_lt, not, option_map, ◌&&◌, ◌==◌}
use Rattle.std.specs.Str.{is_utf8}
use Rattle.std.proofs.lemmas.Bool.{and_from, and_parts, eqb-false, false≢true, or_parts}
use Rattle.std.specs.Option.{option_map_or}
use Rattle.lt_terms.specs.declared.Rank.{Rank}
use Rattle.lt_terms.specs.Kind.{FieldKinds, Kind, enumeration, field_kind, greater_rank, has_shape, have_shapes, is_struct, kind_at, kinds_of, nesting, nestings, no_kinds, plain, rank_number, rank_of, structured}
use Rattle.lt_terms.specs.Value.{Fields, Value, bool_value, bytes_value, field_value, fits_64, int_value, no_fields, null_value, struct_value, text_value}
use Rattle.lt_tables.specs.Schema.{bare, bare_fields, clash, clash_within, joined, joined_fields, put_kind}
use Rattle.lt_machine.specs.Laws.{fields_within, lies_within, own_rank}
use Rattle.lt_lemmas.proofs.ConversionLemmas.{are_rising, is_rising}
use Rattle.lt_laws.proofs.ConversionLemmas.{rank_within}
use Rattle.lt_terms.specs.declared.Rank.TheVariants as rank
use Rattle.lt_lemmas.proofs.SnapshotLaws.{or_false}

-- ---- ranks

rank_low_by : (a b : Rank) (t : Bool) → nat_lt (rank_number a) (rank_number b) ≡ t → rank_number a ≤ rank_number (cond t b a)
rank_low_by a b true e = let l : rank_number a < rank_number b = ltb-true (rank_number a) (rank_number b) e in omega (arith, l)
rank_low_by a b false e = omega arith

rank_high_by : (a b : Rank) (t : Bool) → nat_lt (rank_number a) (rank_number b) ≡ t → rank_number b ≤ rank_number (cond t b a)
rank_high_by a b true e = omega arith
rank_high_by a b false e = ltb-false (rank_number a) (rank_number b) e

pub rank_low : (a b : Rank) → rank_number a ≤ rank_number (greater_rank a b)
rank_low a b = rank_low_by a b (nat_lt (rank_number a) (rank_number b)) refl

pub rank_high : (a b : Rank) → rank_number b ≤ rank_number (greater_rank a b)
rank_high a b = rank_high_by a b (nat_lt (rank_number a) (rank_number b)) refl

not_struct : (k : Kind) → is_struct k ≡ false → not (is_struct k) ≡ true
not_struct k e = ap not e

le_up : (n a b : ℕ) → a ≤ b → nat_le n a ≡ true → nat_le n b ≡ true
le_up n a b h e = le-leb n b (let l : n ≤ a = leb-true n a e in omega (arith, l, h))

-- what lies within a primitive kind lies within each of at least its rank
pub prim_up : (v : Value) (a b : Kind) → is_struct a ≡ false → is_struct b ≡ false → rank_number (rank_of a) ≤ rank_number (rank_of b) → IsTrue (lies_within v a) → IsTrue (lies_within v b)
prim_up null_value a b p q le h = refl
prim_up (bool_value x) a b p q le h = not_struct b q
prim_up (int_value z) a b p q le h =
    let x = and_parts (not (is_struct a) && fits_64 z) (nat_le (rank_number (own_rank (int_value z))) (rank_number (rank_of a))) h in
    and_from _ _ (and_from _ _ (not_struct b q) (and_parts (not (is_struct a)) (fits_64 z) x.0).1) (le_up (rank_number (own_rank (int_value z))) (rank_number (rank_of a)) (rank_number (rank_of b)) le x.1)
prim_up (text_value t) a b p q le h =
    let x = and_parts (not (is_struct a) && is_utf8 t) (nat_le 4 (rank_number (rank_of a))) h in
    and_from _ _ (and_from _ _ (not_struct b q) (and_parts (not (is_struct a)) (is_utf8 t) x.0).1) (le_up 4 (rank_number (rank_of a)) (rank_number (rank_of b)) le x.1)
prim_up (bytes_value t) a b p q le h =
    let x = and_parts (not (is_struct a)) (nat_le 5 (rank_number (rank_of a))) h in
    and_from _ _ (not_struct b q) (le_up 5 (rank_number (rank_of a)) (rank_number (rank_of b)) le x.1)
prim_up (struct_value fs) a b p q le h = absurd (false≢true (sym p ∙ (and_parts (fields_within fs (kinds_of a)) (is_struct a) h).1))

-- ---- the fields of a carrier

cond_same : (b c : Bool) (x y z : Option Kind) → b ≡ c → cond b x z ≡ cond b x (cond c y z)
cond_same true c x y z e = refl
cond_same false true x y z e = absurd (false≢true e)
cond_same false false x y z e = refl

cond_swap : (b c : Bool) (x y z : Option Kind) → (b ≡ true → c ≡ true → ⊥) → cond c y (cond b x z) ≡ cond b x (cond c y z)
cond_swap true true x y z h = absurd (h refl refl)
cond_swap true false x y z h = refl
cond_swap false c x y z h = refl

apart : (m n l : ℕ) → (n == l) ≡ false → (m == n) ≡ true → (m == l) ≡ true → ⊥
apart m n l e p q = let d : n ≡ l = sym (eqb-true m n p) ∙ eqb-true m l q in absurd (false≢true (sym e ∙ eq-eqb n l d))

kind_put_by : (m n l : ℕ) (name other : List ℕ) (k o : Kind) (ks : FieldKinds) (b d : Bool) → (n == l) ≡ b → kind_at m (put_kind n name k ks) ≡ cond (m == n) (Some k) (kind_at m ks)
    → kind_at m (cond b (field_kind n name k ks) (cond d (field_kind n name k (field_kind l other o ks)) (field_kind l other o (put_kind n name k ks)))) ≡ cond (m == n) (Some k) (cond (m == l) (Some o) (kind_at m ks))
kind_put_by m n l name other k o ks true d e h = cond_same (m == n) (m == l) (Some k) (Some o) (kind_at m ks) (ap (λ j. m == j) (eqb-true n l e))
kind_put_by m n l name other k o ks false true e h = refl
kind_put_by m n l name other k o ks false false e h = ap (cond (m == l) (Some o)) h ∙ cond_swap (m == n) (m == l) (Some k) (Some o) (kind_at m ks) (apart m n l e)

-- the field that was put is found, and each other one as before
pub kind_at-put : (m n : ℕ) (name : List ℕ) (k : Kind) (ks : FieldKinds) → kind_at m (put_kind n name k ks) ≡ cond (m == n) (Some k) (kind_at m ks)
kind_at-put m n name k no_kinds = refl
kind_at-put m n name k (field_kind l other o ks) = kind_put_by m n l name other k o ks (n == l) (nat_lt n l) refl (kind_at-put m n name k ks)

bare_by : (b : Bool) (k : Kind) (o p : Option Kind) → o ≡ option_map bare p → cond b (Some (bare k)) o ≡ option_map bare (cond b (Some k) p)
bare_by true k o p e = refl
bare_by false k o p e = e

pub kind_at-bare : (m : ℕ) (ks : FieldKinds) → kind_at m (bare_fields ks) ≡ option_map bare (kind_at m ks)
kind_at-bare m no_kinds = refl
kind_at-bare m (field_kind n name k ks) = bare_by (m == n) k (kind_at m (bare_fields ks)) (kind_at m ks) (kind_at-bare m ks)

-- a kind after what an older struct had in its place
abbrev pub onto_older : Option Kind → Kind → Kind
onto_older o k = option_map_or (λ o. joined o k) o (bare k)

joined_by : (m n : ℕ) (k : Kind) (older : FieldKinds) (o p : Option Kind) (b : Bool) → (m == n) ≡ b → o ≡ option_map_or (λ k. Some (onto_older (kind_at m older) k)) p (kind_at m older)
    → cond b (Some (onto_older (kind_at n older) k)) o ≡ option_map_or (λ k. Some (onto_older (kind_at m older) k)) (cond b (Some k) p) (kind_at m older)
joined_by m n k older o p true e h = ap (λ j. Some (onto_older (kind_at j older) k)) (sym (eqb-true m n e))
joined_by m n k older o p false e h = h

-- a field of two structs that were joined: as both have it, else as the one has it
pub kind_at-joined : (m : ℕ) (older ks : FieldKinds) → kind_at m (joined_fields older ks) ≡ option_map_or (λ k. Some (onto_older (kind_at m older) k)) (kind_at m ks) (kind_at m older)
kind_at-joined m older no_kinds = refl
kind_at-joined m older (field_kind n name k ks) = kind_at-put m n name (onto_older (kind_at n older) k) (joined_fields older ks)
    ∙ joined_by m n k older (kind_at m (joined_fields older ks)) (kind_at m ks) (m == n) refl (kind_at-joined m older ks)

-- ---- what lies within

-- all that lies within the first lies within the second
abbrev pub Within : Kind → Kind → Type 0
Within a b = (v : Value) → IsTrue (lies_within v a) → IsTrue (lies_within v b)

-- each field of the first is one of the second, and all that lies within it lies within that
abbrev FieldsWithin : FieldKinds → FieldKinds → Type 0
FieldsWithin olds news = (n : ℕ) (a : Kind) → kind_at n olds ≡ Some a → (b : Kind) × (kind_at n news ≡ Some b) × Within a b

field_up : (v : Value) (n : ℕ) (olds news : FieldKinds) (o : Option Kind) → FieldsWithin olds news → kind_at n olds ≡ o → IsTrue (option_map_or (lies_within v) o false) → IsTrue (option_map_or (lies_within v) (kind_at n news) false)
field_up v n olds news None f e h = absurd (false≢true h)
field_up v n olds news (Some a) f e h = let r = f n a e in subst (λ (o : Option Kind). IsTrue (option_map_or (lies_within v) o false)) (sym r.1) (r.2 v h)

fields_up : (fs : Fields) (olds news : FieldKinds) → FieldsWithin olds news → IsTrue (fields_within fs olds) → IsTrue (fields_within fs news)
fields_up no_fields olds news f h = refl
fields_up (field_value n v fs) olds news f h = let p = and_parts (option_map_or (lies_within v) (kind_at n olds) false) (fields_within fs olds) h in
    and_from _ _ (field_up v n olds news (kind_at n olds) f refl p.0) (fields_up fs olds news f p.1)

struct_up : (olds news : FieldKinds) → FieldsWithin olds news → Within (structured olds) (structured news)
struct_up olds news f null_value h = refl
struct_up olds news f (bool_value b) h = absurd (false≢true h)
struct_up olds news f (int_value z) h = absurd (false≢true h)
struct_up olds news f (text_value t) h = absurd (false≢true h)
struct_up olds news f (bytes_value b) h = absurd (false≢true h)
struct_up olds news f (struct_value fs) h = and_from _ _ (fields_up fs olds news f (and_parts (fields_within fs olds) true h).0) refl

pub found_one : (b : Bool) (k a : Kind) (o : Option Kind) (X : Type 0) → cond b (Some k) o ≡ Some a → (b ≡ true → k ≡ a → X) → (o ≡ Some a → X) → X
found_one true k a o X e f g = f refl (cc)
found_one false k a o X e f g = g e

mutual
  pub within_bare : (k : Kind) → Within k (bare k)
  within_bare (plain r) v h = h
  within_bare (enumeration names) v h = prim_up v (enumeration names) (plain rank.Int32) refl refl (omega arith) h
  within_bare (structured ks) v h = struct_up ks (bare_fields ks) (λ n a e. (bare a, kind_at-bare n ks ∙ ap (option_map bare) e, bare_at ks n a e)) v h

  bare_at : (ks : FieldKinds) (n : ℕ) (a : Kind) → kind_at n ks ≡ Some a → Within a (bare a)
  bare_at no_kinds n a e = cc
  bare_at (field_kind m name k ks) n a e = found_one (n == m) k a (kind_at n ks) (Within a (bare a)) e (λ b d. subst (λ (x : Kind). Within x (bare x)) d (within_bare k)) (bare_at ks n a)

new_one : (o : Option Kind) (k : Kind) → ((a : Kind) → clash a k ≡ false → Within k (joined a k)) → option_map_or (λ o. clash o k) o false ≡ false → Within k (onto_older o k)
new_one None k f e = within_bare k
new_one (Some a) k f e = f a e

mutual
  -- what lies within a kind lies within what it is joined to
  pub within_new : (older k : Kind) → clash older k ≡ false → Within k (joined older k)
  within_new older (plain r) e v h = prim_up v (plain r) (plain (greater_rank (rank_of older) r)) refl refl (rank_high (rank_of older) r) h
  within_new older (enumeration names) e v h = prim_up v (enumeration names) (plain (greater_rank (rank_of older) rank.Int32)) refl refl (rank_high (rank_of older) rank.Int32) h
  within_new (plain r) (structured ks) e v h = absurd (false≢true (sym e))
  within_new (enumeration names) (structured ks) e v h = absurd (false≢true (sym e))
  within_new (structured os) (structured ks) e v h = struct_up ks (joined_fields os ks)
      (λ n a d. (onto_older (kind_at n os) a, kind_at-joined n os ks ∙ ap (λ (o : Option Kind). option_map_or (λ k. Some (onto_older (kind_at n os) k)) o (kind_at n os)) d, new_at os ks e n a d)) v h

  new_at : (os ks : FieldKinds) → clash_within os ks ≡ false → (n : ℕ) (a : Kind) → kind_at n ks ≡ Some a → Within a (onto_older (kind_at n os) a)
  new_at os no_kinds e n a d = cc
  new_at os (field_kind m name k ks) e n a d =
      let p = or_parts (option_map_or (λ o. clash o k) (kind_at m os) false) (clash_within os ks) e in
      found_one (n == m) k a (kind_at n ks) (Within a (onto_older (kind_at n os) a)) d
      (λ b c. subst (λ (x : Kind). Within x (onto_older (kind_at n os) x)) c (subst (λ (j : ℕ). Within k (onto_older (kind_at j os) k)) (sym (eqb-true n m b)) (new_one (kind_at m os) k (λ a. within_new a k) p.0)))
      (new_at os ks p.1 n a)

old_field : (os ks : FieldKinds) (n : ℕ) (o : Kind) → kind_at n os ≡ Some o → (x : Option Kind) → kind_at n ks ≡ x → ((a : Kind) → kind_at n ks ≡ Some a → Within o (joined o a))
    → (b : Kind) × (kind_at n (joined_fields os ks) ≡ Some b) × Within o b
old_field os ks n o d None e f = (o, kind_at-joined n os ks ∙ ap (λ (x : Option Kind). option_map_or (λ k. Some (onto_older (kind_at n os) k)) x (kind_at n os)) e ∙ d, λ v h. h)
old_field os ks n o d (Some a) e f = (
  joined o a,
  kind_at-joined n os ks ∙ ap (λ (x : Option Kind). option_map_or (λ k. Some (onto_older (kind_at n os) k)) x (kind_at n os)) e ∙ ap (λ (x : Option Kind). Some (onto_older x a)) d,
  f a e,
)

mutual
  pub within_old : (older k : Kind) → clash older k ≡ false → Within older (joined older k)
  within_old older (plain r) e v h = prim_up v older (plain (greater_rank (rank_of older) r)) e refl (rank_low (rank_of older) r) h
  within_old older (enumeration names) e v h = prim_up v older (plain (greater_rank (rank_of older) rank.Int32)) e refl (rank_low (rank_of older) rank.Int32) h
  within_old (plain r) (structured ks) e v h = absurd (false≢true (sym e))
  within_old (enumeration names) (structured ks) e v h = absurd (false≢true (sym e))
  within_old (structured os) (structured ks) e v h = struct_up os (joined_fields os ks) (λ n o d. old_field os ks n o d (kind_at n ks) refl (λ a f. old_at ks os e n a o f d)) v h

  old_at : (ks os : FieldKinds) → clash_within os ks ≡ false → (n : ℕ) (a o : Kind) → kind_at n ks ≡ Some a → kind_at n os ≡ Some o → Within o (joined o a)
  old_at no_kinds os e n a o d f = cc
  old_at (field_kind m name k ks) os e n a o d f =
      let p = or_parts (option_map_or (λ o. clash o k) (kind_at m os) false) (clash_within os ks) e in
      found_one (n == m) k a (kind_at n ks) (Within o (joined o a)) d
      (λ b c. let g : kind_at m os ≡ Some o = ap (λ (j : ℕ). kind_at j os) (sym (eqb-true n m b)) ∙ f in
      let q : clash o k ≡ false = sym (ap (λ (x : Option Kind). option_map_or (λ o. clash o k) x false) g) ∙ p.0 in
      subst (λ (x : Kind). Within o (joined o x)) c (within_old o k q))
      (λ c. old_at ks os p.1 n a o c f)

-- ---- kinds that do not clash

pub clash_at : (os ks : FieldKinds) → clash_within os ks ≡ false → (n : ℕ) (a o : Kind) → kind_at n ks ≡ Some a → kind_at n os ≡ Some o → clash o a ≡ false
clash_at os no_kinds e n a o d f = cc
clash_at os (field_kind m name k ks) e n a o d f =
    let p = or_parts (option_map_or (λ o. clash o k) (kind_at m os) false) (clash_within os ks) e in
    found_one (n == m) k a (kind_at n ks) (clash o a ≡ false) d
    (λ b c. let g : kind_at m os ≡ Some o = ap (λ (j : ℕ). kind_at j os) (sym (eqb-true n m b)) ∙ f in
    subst (λ (x : Kind). clash o x ≡ false) c (sym (ap (λ (x : Option Kind). option_map_or (λ o. clash o k) x false) g) ∙ p.0))
    (λ c. clash_at os ks p.1 n a o c f)

bare_struct : (k : Kind) → is_struct (bare k) ≡ is_struct k
bare_struct (plain r) = refl
bare_struct (enumeration names) = refl
bare_struct (structured ks) = refl

clash_bare_one : (o : Option Kind) (k : Kind) → ((b : Kind) → clash b k ≡ false → clash (bare b) k ≡ false) → option_map_or (λ o. clash o k) o false ≡ false → option_map_or (λ o. clash o k) (option_map bare o) false ≡ false
clash_bare_one None k f e = refl
clash_bare_one (Some b) k f e = f b e

mutual
  pub clash_bare : (b c : Kind) → clash b c ≡ false → clash (bare b) c ≡ false
  clash_bare b (plain r) e = bare_struct b ∙ e
  clash_bare b (enumeration names) e = bare_struct b ∙ e
  clash_bare (plain r) (structured ks) e = e
  clash_bare (enumeration names) (structured ks) e = e
  clash_bare (structured bs) (structured ks) e = clash_bare_within bs ks e

  clash_bare_within : (bs ks : FieldKinds) → clash_within bs ks ≡ false → clash_within (bare_fields bs) ks ≡ false
  clash_bare_within bs no_kinds e = refl
  clash_bare_within bs (field_kind n name k ks) e = let p = or_parts (option_map_or (λ o. clash o k) (kind_at n bs) false) (clash_within bs ks) e in
      or_false _ _ (ap (λ (o : Option Kind). option_map_or (λ o. clash o k) o false) (kind_at-bare n bs) ∙ clash_bare_one (kind_at n bs) k (λ b. clash_bare b k) p.0) (clash_bare_within bs ks p.1)

joined_struct : (a b : Kind) → is_struct (joined a b) ≡ is_struct b
joined_struct a (plain r) = refl
joined_struct a (enumeration names) = refl
joined_struct a (structured ks) = refl

clash_joined_one : (o p : Option Kind) (k : Kind) → ((a b : Kind) → clash a k ≡ false → clash b k ≡ false → clash (joined a b) k ≡ false) → option_map_or (λ o. clash o k) o false ≡ false → option_map_or (λ o. clash o k) p false ≡ false
    → option_map_or (λ o. clash o k) (option_map_or (λ b. Some (onto_older o b)) p o) false ≡ false
clash_joined_one o None k f d e = d
clash_joined_one None (Some b) k f d e = clash_bare b k e
clash_joined_one (Some a) (Some b) k f d e = f a b d e

mutual
  -- what clashes with neither of two kinds does not clash with them joined
  pub clash_joined : (a b c : Kind) → clash a c ≡ false → clash b c ≡ false → clash (joined a b) c ≡ false
  clash_joined a b (plain r) d e = joined_struct a b ∙ e
  clash_joined a b (enumeration names) d e = joined_struct a b ∙ e
  clash_joined a (plain r) (structured ks) d e = e
  clash_joined a (enumeration names) (structured ks) d e = e
  clash_joined (plain r) (structured bs) (structured ks) d e = absurd (false≢true (sym d))
  clash_joined (enumeration names) (structured bs) (structured ks) d e = absurd (false≢true (sym d))
  clash_joined (structured os) (structured bs) (structured ks) d e = clash_joined_within os bs ks d e

  clash_joined_within : (os bs ks : FieldKinds) → clash_within os ks ≡ false → clash_within bs ks ≡ false → clash_within (joined_fields os bs) ks ≡ false
  clash_joined_within os bs no_kinds d e = refl
  clash_joined_within os bs (field_kind n name k ks) d e =
      let p = or_parts (option_map_or (λ o. clash o k) (kind_at n os) false) (clash_within os ks) d in
      let q = or_parts (option_map_or (λ o. clash o k) (kind_at n bs) false) (clash_within bs ks) e in
      or_false _ _ (ap (λ (o : Option Kind). option_map_or (λ o. clash o k) o false) (kind_at-joined n os bs) ∙ clash_joined_one (kind_at n os) (kind_at n bs) k (λ a b. clash_joined a b k) p.0 q.0) (clash_joined_within os bs ks p.1 q.1)

-- from a number on the fields of a struct are these
abbrev pub TailOf : ℕ → FieldKinds → FieldKinds → Type 0
TailOf low all ks = (n : ℕ) → low < n → kind_at n all ≡ kind_at n ks

pub tail_here : (low n : ℕ) (name : List ℕ) (k : Kind) (all ks : FieldKinds) → TailOf low all (field_kind n name k ks) → low < n → kind_at n all ≡ Some k
tail_here low n name k all ks t l = t n l ∙ ap (λ (b : Bool). cond b (Some k) (kind_at n ks)) (eq-eqb n n refl)

pub tail_next : (low n : ℕ) (name : List ℕ) (k : Kind) (all ks : FieldKinds) → TailOf low all (field_kind n name k ks) → low < n → TailOf n all ks
tail_next low n name k all ks t l m h = t m (omega (arith, l, h)) ∙ ap (λ (b : Bool). cond b (Some k) (kind_at m ks)) (ne_eqb m n (λ e. absurd (omega (arith, e, h))))

clash_swap_one : (o : Option Kind) (k : Kind) → ((b : Kind) → clash k b ≡ false → clash b k ≡ false) → ((b : Kind) → o ≡ Some b → clash k b ≡ false) → option_map_or (λ o. clash o k) o false ≡ false
clash_swap_one None k g f = refl
clash_swap_one (Some b) k g f = g b (f b refl)

mutual
  pub clash_swap : (a b : Kind) → IsTrue (is_rising a) → clash a b ≡ false → clash b a ≡ false
  clash_swap (plain r) (plain s) up e = refl
  clash_swap (plain r) (enumeration names) up e = refl
  clash_swap (plain r) (structured ks) up e = absurd (false≢true (sym e))
  clash_swap (enumeration others) (plain s) up e = refl
  clash_swap (enumeration others) (enumeration names) up e = refl
  clash_swap (enumeration others) (structured ks) up e = absurd (false≢true (sym e))
  clash_swap (structured ks) (plain s) up e = absurd (false≢true (sym e))
  clash_swap (structured ks) (enumeration names) up e = absurd (false≢true (sym e))
  clash_swap (structured ks) (structured bs) up e = clash_swap_within ks ks bs 0 up (λ n l. refl) e

  clash_swap_within : (all ks bs : FieldKinds) (low : ℕ) → IsTrue (are_rising low ks) → TailOf low all ks → clash_within all bs ≡ false → clash_within bs ks ≡ false
  clash_swap_within all no_kinds bs low up t e = refl
  clash_swap_within all (field_kind n name k ks) bs low up t e =
      let u = and_parts (nat_lt low n && is_rising k) (are_rising n ks) up in
      let w = and_parts (nat_lt low n) (is_rising k) u.0 in
      let l : low < n = ltb-true low n w.0 in
      or_false _ _ (clash_swap_one (kind_at n bs) k (λ b. clash_swap k b w.1) (λ b f. clash_at all bs e n b k f (tail_here low n name k all ks t l))) (clash_swap_within all ks bs n u.1 (tail_next low n name k all ks t l) e)

mutual
  pub clash_self : (k : Kind) → IsTrue (is_rising k) → clash k k ≡ false
  clash_self (plain r) up = refl
  clash_self (enumeration names) up = refl
  clash_self (structured ks) up = clash_self_within ks ks 0 up (λ n l. refl)

  clash_self_within : (all ks : FieldKinds) (low : ℕ) → IsTrue (are_rising low ks) → TailOf low all ks → clash_within all ks ≡ false
  clash_self_within all no_kinds low up t = refl
  clash_self_within all (field_kind n name k ks) low up t =
      let u = and_parts (nat_lt low n && is_rising k) (are_rising n ks) up in
      let w = and_parts (nat_lt low n) (is_rising k) u.0 in
      let l : low < n = ltb-true low n w.0 in
      or_false _ _ (ap (λ (o : Option Kind). option_map_or (λ o. clash o k) o false) (tail_here low n name k all ks t l) ∙ clash_self k w.1) (clash_self_within all ks n u.1 (tail_next low n name k all ks t l))

-- ---- a value of a kind's shape lies within the kind

mutual
  pub shape_within : (v : Value) (k : Kind) → IsTrue (is_rising k) → IsTrue (has_shape v k) → IsTrue (lies_within v k)
  shape_within null_value k up h = refl
  shape_within (bool_value b) (plain r) up h = rank_within r r (bool_value b) h (omega arith)
  shape_within (int_value z) (plain r) up h = rank_within r r (int_value z) h (omega arith)
  shape_within (text_value t) (plain r) up h = rank_within r r (text_value t) h (omega arith)
  shape_within (bytes_value b) (plain r) up h = rank_within r r (bytes_value b) h (omega arith)
  shape_within (int_value z) (enumeration names) up h = rank_within rank.Int32 rank.Int32 (int_value z) h (omega arith)
  shape_within (struct_value fs) (structured ks) up h = and_from _ _ (shapes_within fs ks ks 0 up (λ n l. refl) h) refl
  shape_within v k up h = absurd (false≢true h)

  shapes_within : (fs : Fields) (all ks : FieldKinds) (low : ℕ) → IsTrue (are_rising low ks) → TailOf low all ks → IsTrue (have_shapes fs ks) → IsTrue (fields_within fs all)
  shapes_within no_fields all ks low up t h = refl
  shapes_within (field_value n v fs) all no_kinds low up t h = absurd (false≢true h)
  shapes_within (field_value n v fs) all (field_kind m name k ks) low up t h =
      let u = and_parts (nat_lt low m && is_rising k) (are_rising m ks) up in
      let w = and_parts (nat_lt low m) (is_rising k) u.0 in
      let l : low < m = ltb-true low m w.0 in
      let p = and_parts (n == m && has_shape v k) (have_shapes fs ks) h in
      let q = and_parts (n == m) (has_shape v k) p.0 in
      let at : kind_at n all ≡ Some k = ap (λ (j : ℕ). kind_at j all) (eqb-true n m q.0) ∙ tail_here low m name k all ks t l in
      and_from _ _ (subst (λ (o : Option Kind). IsTrue (option_map_or (lies_within v) o false)) (sym at) (shape_within v k w.1 q.1)) (shapes_within fs all ks m u.1 (tail_next low m name k all ks t l) p.1)

-- ---- carriers rise and nest as their kinds do

rising_at : (ks : FieldKinds) (low : ℕ) (n : ℕ) (k : Kind) → IsTrue (are_rising low ks) → kind_at n ks ≡ Some k → IsTrue (is_rising k)
rising_at no_kinds low n k up e = cc
rising_at (field_kind m name a ks) low n k up e =
    let u = and_parts (nat_lt low m && is_rising a) (are_rising m ks) up in
    found_one (n == m) a k (kind_at n ks) (IsTrue (is_rising k)) e (λ b d. subst (λ (x : Kind). IsTrue (is_rising x)) d (and_parts (nat_lt low m) (is_rising a) u.0).1) (rising_at ks m n k u.1)

rising_put_by : (low n m : ℕ) (name other : List ℕ) (k o : Kind) (ks : FieldKinds) (b d : Bool) → (n == m) ≡ b → nat_lt n m ≡ d → low < n → IsTrue (is_rising k) → IsTrue (are_rising low (field_kind m other o ks))
    → (m < n → IsTrue (are_rising m (put_kind n name k ks)))
    → IsTrue (are_rising low (cond b (field_kind n name k ks) (cond d (field_kind n name k (field_kind m other o ks)) (field_kind m other o (put_kind n name k ks)))))
rising_put_by low n m name other k o ks true d e f l r up ih = let u = and_parts (nat_lt low m && is_rising o) (are_rising m ks) up in
    and_from _ _ (and_from _ _ (lt-ltb low n l) r) (subst (λ (j : ℕ). IsTrue (are_rising j ks)) (sym (eqb-true n m e)) u.1)
rising_put_by low n m name other k o ks false true e f l r up ih = let u = and_parts (nat_lt low m && is_rising o) (are_rising m ks) up in
    and_from _ _ (and_from _ _ (lt-ltb low n l) r) (and_from _ _ (and_from _ _ f (and_parts (nat_lt low m) (is_rising o) u.0).1) u.1)
rising_put_by low n m name other k o ks false false e f l r up ih = let u = and_parts (nat_lt low m && is_rising o) (are_rising m ks) up in
    and_from _ _ u.0 (ih (omega (arith, eqb-false n m e, ltb-false n m f)))

rising_put : (low n : ℕ) (name : List ℕ) (k : Kind) (ks : FieldKinds) → low < n → IsTrue (is_rising k) → IsTrue (are_rising low ks) → IsTrue (are_rising low (put_kind n name k ks))
rising_put low n name k no_kinds l r up = and_from _ _ (and_from _ _ (lt-ltb low n l) r) refl
rising_put low n name k (field_kind m other o ks) l r up = rising_put_by low n m name other k o ks (n == m) (nat_lt n m) refl refl l r up
    (λ h. rising_put m n name k ks h r (and_parts (nat_lt low m && is_rising o) (are_rising m ks) up).1)

mutual
  pub rising_bare : (k : Kind) → IsTrue (is_rising k) → IsTrue (is_rising (bare k))
  rising_bare (plain r) up = refl
  rising_bare (enumeration names) up = refl
  rising_bare (structured ks) up = rising_bare_fields ks 0 up

  rising_bare_fields : (ks : FieldKinds) (low : ℕ) → IsTrue (are_rising low ks) → IsTrue (are_rising low (bare_fields ks))
  rising_bare_fields no_kinds low up = refl
  rising_bare_fields (field_kind n name k ks) low up =
      let u = and_parts (nat_lt low n && is_rising k) (are_rising n ks) up in
      let w = and_parts (nat_lt low n) (is_rising k) u.0 in
      and_from _ _ (and_from _ _ w.0 (rising_bare k w.1)) (rising_bare_fields ks n u.1)

rising_kinds : (k : Kind) → IsTrue (is_rising k) → IsTrue (are_rising 0 (kinds_of k))
rising_kinds (plain r) up = refl
rising_kinds (enumeration names) up = refl
rising_kinds (structured ks) up = up

rising_onto : (o : Option Kind) (k : Kind) → ((a : Kind) → IsTrue (is_rising a) → IsTrue (is_rising (joined a k))) → ((a : Kind) → o ≡ Some a → IsTrue (is_rising a)) → IsTrue (is_rising k) → IsTrue (is_rising (onto_older o k))
rising_onto None k g f up = rising_bare k up
rising_onto (Some a) k g f up = g a (f a refl)

mutual
  pub rising_joined : (older k : Kind) → IsTrue (is_rising older) → IsTrue (is_rising k) → IsTrue (is_rising (joined older k))
  rising_joined older (plain r) o up = refl
  rising_joined older (enumeration names) o up = refl
  rising_joined older (structured ks) o up = rising_joined_fields (kinds_of older) ks 0 (rising_kinds older o) up

  rising_joined_fields : (os ks : FieldKinds) (low : ℕ) → IsTrue (are_rising 0 os) → IsTrue (are_rising low ks) → IsTrue (are_rising 0 (joined_fields os ks))
  rising_joined_fields os no_kinds low o up = o
  rising_joined_fields os (field_kind n name k ks) low o up =
      let u = and_parts (nat_lt low n && is_rising k) (are_rising n ks) up in
      let w = and_parts (nat_lt low n) (is_rising k) u.0 in
      let l : low < n = ltb-true low n w.0 in
      rising_put 0 n name (onto_older (kind_at n os) k) (joined_fields os ks) (omega (arith, l)) (rising_onto (kind_at n os) k (λ a h. rising_joined a k h w.1) (λ a e. rising_at os 0 n a o e) w.1) (rising_joined_fields os ks n o u.1)

nest_at : (ks : FieldKinds) (d n : ℕ) (k : Kind) → nestings ks ≤ d → kind_at n ks ≡ Some k → nesting k ≤ d
nest_at no_kinds d n k h e = cc
nest_at (field_kind m name a ks) d n k h e = found_one (n == m) a k (kind_at n ks) (nesting k ≤ d) e (λ b c. subst (λ (x : Kind). nesting x ≤ d) c (omega (arith, h))) (nest_at ks d n k (omega (arith, h)))

nest_put_by : (d n m : ℕ) (name other : List ℕ) (k o : Kind) (ks : FieldKinds) (b c : Bool) → nesting k ≤ d → max (nesting o) (nestings ks) ≤ d → nestings (put_kind n name k ks) ≤ d
    → nestings (cond b (field_kind n name k ks) (cond c (field_kind n name k (field_kind m other o ks)) (field_kind m other o (put_kind n name k ks)))) ≤ d
nest_put_by d n m name other k o ks true c h i ih = omega (arith, h, i)
nest_put_by d n m name other k o ks false true h i ih = omega (arith, h, i)
nest_put_by d n m name other k o ks false false h i ih = omega (arith, h, i, ih)

nest_put : (d n : ℕ) (name : List ℕ) (k : Kind) (ks : FieldKinds) → nesting k ≤ d → nestings ks ≤ d → nestings (put_kind n name k ks) ≤ d
nest_put d n name k no_kinds h i = omega (arith, h)
nest_put d n name k (field_kind m other o ks) h i = nest_put_by d n m name other k o ks (n == m) (nat_lt n m) h i (nest_put d n name k ks h (omega (arith, i)))

mutual
  pub nest_bare : (k : Kind) → nesting (bare k) ≡ nesting k
  nest_bare (plain r) = refl
  nest_bare (enumeration names) = refl
  nest_bare (structured ks) = ap (λ (n : ℕ). 1 + n) (nest_bare_fields ks)

  nest_bare_fields : (ks : FieldKinds) → nestings (bare_fields ks) ≡ nestings ks
  nest_bare_fields no_kinds = refl
  nest_bare_fields (field_kind n name k ks) = ap₂ max (nest_bare k) (nest_bare_fields ks)

nest_kinds : (k : Kind) (d : ℕ) → nesting k ≤ d → nestings (kinds_of k) ≤ d - 1
nest_kinds (plain r) d h = omega arith
nest_kinds (enumeration names) d h = omega arith
nest_kinds (structured ks) d h = omega (arith, h)

nest_onto : (o : Option Kind) (k : Kind) (d : ℕ) → ((a : Kind) → nesting a ≤ d → nesting (joined a k) ≤ d) → ((a : Kind) → o ≡ Some a → nesting a ≤ d) → nesting k ≤ d → nesting (onto_older o k) ≤ d
nest_onto None k d g f h = subst (λ (n : ℕ). n ≤ d) (sym (nest_bare k)) h
nest_onto (Some a) k d g f h = g a (f a refl)

mutual
  pub nest_joined : (older k : Kind) (d : ℕ) → nesting older ≤ d → nesting k ≤ d → nesting (joined older k) ≤ d
  nest_joined older (plain r) d o h = omega arith
  nest_joined older (enumeration names) d o h = omega arith
  nest_joined older (structured ks) d o h = let i : nestings (joined_fields (kinds_of older) ks) ≤ d - 1 = nest_joined_fields (kinds_of older) ks (d - 1) (nest_kinds older d o) (omega (arith, h)) in omega (arith, i, h)

  nest_joined_fields : (os ks : FieldKinds) (d : ℕ) → nestings os ≤ d → nestings ks ≤ d → nestings (joined_fields os ks) ≤ d
  nest_joined_fields os no_kinds d o h = o
  nest_joined_fields os (field_kind n name k ks) d o h = nest_put d n name (onto_older (kind_at n os) k) (joined_fields os ks) (nest_onto (kind_at n os) k d (λ a i. nest_joined a k d i (omega (arith, h))) (λ a e. nest_at os d n a o e) (omega (arith, h))) (nest_joined_fields os ks d o (omega (arith, h)))
