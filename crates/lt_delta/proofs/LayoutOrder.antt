-- Leaves that stand in order are those of columns, and the leaves of columns stand in order.
use Rattle.std.proofs.Common.{Bool, List, [], ap, append_assoc, arith, eqb-true, false, leb-true, le-leb, length, length-append, lt-ltb, ltb-true, map, ne_eqb, refl, subst, sym, true, ℕ, ◌+◌, ◌++◌, ◌<◌, ◌^◌, ◌∙◌, ◌∷◌, ◌≡◌, ◌≤◌}
use Rattle.std.specs.Prelude.{IsTrue, cond, nat_le, nat_lt, ◌&&◌, ◌==◌}
use Rattle.std.specs.List.{AllByRecursion, list_all}
use Rattle.std.proofs.lemmas.Bool.{and_from, and_parts, eq-eqb, false≢true}
use Rattle.lt_terms.specs.declared.Rank.{Rank}
use Rattle.lt_terms.specs.declared.Rank.TheVariants as rank
use Rattle.lt_terms.specs.Value.{is_number, rises_above}
use Rattle.lt_terms.specs.Kind.{FieldKinds, Kind, enumeration, field_kind, nesting, nestings, no_kinds, plain, same_rank, structured}
use Rattle.lt_terms.specs.Layout.{Leaf, field_leaves, layout_of, leaves}
use Rattle.lt_storage.specs.Store.{IsLayout, are_store_kinds, is_store_kind}
use Rattle.lt_codecs.specs.Codec.{byte, u16}
use Rattle.lt_codecs.specs.LogCodec.{flag}
use Rattle.lt_store_codecs.specs.StoreCodec.{leaf, rank as rank_codec}
use Rattle.lt_delta.specs.Layouts.{are_in_order, cursor, is_column_path, is_leaf, passes, stands_behind}

abbrev a_leaf : ℕ → List ℕ → Rank → Bool → Leaf
a_leaf c p r b = record { column = c; path = p; rank = r; presence = b }

-- the numbers of a leaf fit their bytes
abbrev AreSmall : List ℕ → Type 0
AreSmall p = AllByRecursion (λ n. n < 2 ^ 16) p

abbrev pub IsSmall : Leaf → Type 0
IsSmall l = (l.column < 2 ^ 16) × AreSmall l.path

pub small_leaf : (l : Leaf) → leaf.Lawful l → IsSmall l
unfolding leaf u16 byte rank_codec flag
small_leaf l h = (h.0, h.1.0.1)

-- ---- from leaves in order to columns

-- The leaves end the structs along a path from the outside in, by what is left of their fields behind the numbers of the cursor, and go on with the rest.
Ends : ℕ → List ℕ → List ℕ → List Leaf → List Leaf → Type 0
Ends c p [] ls rest = ls ≡ rest
Ends c p (m ∷ at) ls rest = (mid : List Leaf) × (ks : FieldKinds) × Ends c (p ++ m ∷ []) at ls mid × (mid ≡ field_leaves c p ks ++ rest) × IsTrue (are_store_kinds m ks) × (length p + 1 + nestings ks ≤ 4)

-- with no fields left
closed : (c : ℕ) (p at : List ℕ) (ls : List Leaf) → length p + length at ≤ 4 → Ends c p at ls ls
unfolding Ends
closed c p [] ls deep = refl
closed c p (m ∷ at) ls deep = (ls, no_kinds, closed c (p ++ m ∷ []) at ls (omega (arith, deep, length-append p (m ∷ []))), refl, refl, omega (arith, deep))

of_bool : (r : Rank) → IsTrue (same_rank r rank.Bool) → r ≡ rank.Bool
of_bool rank.Bool h = refl
of_bool rank.Int32 h = absurd (false≢true h)
of_bool rank.Int64 h = absurd (false≢true h)
of_bool rank.Text h = absurd (false≢true h)
of_bool rank.Bytes h = absurd (false≢true h)

field_fits : (m n : ℕ) (k : Kind) (ks : FieldKinds) → m < n → n < 2 ^ 16 → IsTrue (is_store_kind k) → IsTrue (are_store_kinds n ks) → IsTrue (is_number n && nat_lt m n && is_store_kind k && are_store_kinds n ks)
field_fits m n k ks up small kind kinds =
    and_from (is_number n && nat_lt m n && is_store_kind k) (are_store_kinds n ks) (and_from (is_number n && nat_lt m n) (is_store_kind k)
    (and_from (is_number n) (nat_lt m n) (and_from (nat_lt 0 n) (nat_lt n (2 ^ 16)) (lt-ltb 0 n (omega (arith, up))) (lt-ltb n (2 ^ 16) small)) (lt-ltb m n up)) kind) kinds

-- a leaf behind the cursor, and what follows it
placed : (c : ℕ) (p at q : List ℕ) (r : Rank) (b : Bool) (path : List ℕ) (xs rest : List Leaf) → path ≡ p ++ q → IsTrue (is_leaf (a_leaf c path r b)) → AreSmall q → length p + length at ≤ 4 → IsTrue (passes at q) → Ends c p (cursor q b) xs rest
    → Ends c p at (a_leaf c path r b ∷ xs) rest
unfolding Ends
placed c p [] [] r b path xs rest same fine small deep pass ends = absurd (false≢true pass)
placed c p (m ∷ at) [] r b path xs rest same fine small deep pass ends = absurd (false≢true pass)
placed c p [] (n ∷ q) r b path xs rest same fine small deep pass ends = absurd (false≢true pass)
placed c p (m ∷ at) (n ∷ []) r false path xs rest same fine small deep pass (mid, ks, first, second, kinds, nested) =
    let x = a_leaf c path r false in (
      x ∷ xs,
      field_kind n [] (plain r) ks,
      closed c (p ++ m ∷ []) at (x ∷ xs) (omega (arith, deep, length-append p (m ∷ []))),
      ap (λ z. a_leaf c z r false ∷ xs) same ∙ ap (λ t. a_leaf c (p ++ n ∷ []) r false ∷ t) (first ∙ second),
      field_fits m n (plain r) ks (ltb-true m n pass) small.0 refl kinds,
      omega (arith, nested),
    )
placed c p (m ∷ at) (n ∷ []) r true path xs rest same fine small deep pass (mid, ks, (inner, js, zeroth, first, inside, deeper), second, kinds, nested) =
    let x = a_leaf c path r true in
    let here = a_leaf c (p ++ n ∷ []) rank.Bool true in
    let bool = of_bool r (and_parts (same_rank r rank.Bool) (nat_le (length path) 3) fine).0 in
    let below = field_leaves c (p ++ n ∷ []) js in
    let beside = field_leaves c p ks in (
      x ∷ xs,
      field_kind n [] (structured js) ks,
      closed c (p ++ m ∷ []) at (x ∷ xs) (omega (arith, deep, length-append p (m ∷ []))),
      ap (λ z. a_leaf c z r true ∷ xs) same ∙ ap (λ s. a_leaf c (p ++ n ∷ []) s true ∷ xs) bool ∙ ap (λ t. here ∷ t) (zeroth ∙ first ∙ ap (λ t. below ++ t) second ∙ sym (append_assoc below beside rest)),
      field_fits m n (structured js) ks (ltb-true m n pass) small.0 inside kinds,
      omega (arith, nested, deeper, length-append p (n ∷ [])),
    )
placed c p (m ∷ at) (n ∷ k ∷ q) r b path xs rest same fine small deep pass (mid, ks, inner, second, kinds, nested) =
    let both = and_parts (m == n) (passes at (k ∷ q)) pass in
    let is : n ≡ m = sym (eqb-true m n both.0) in
    let on = placed c (p ++ n ∷ []) at (k ∷ q) r b path xs mid (same ∙ sym (append_assoc p (n ∷ []) (k ∷ q))) fine small.1 (omega (arith, deep, length-append p (n ∷ []))) both.1 inner in
    (mid, ks, subst (λ i. Ends c (p ++ i ∷ []) at (a_leaf c path r b ∷ xs) mid) is on, second, subst (λ i. IsTrue (are_store_kinds i ks)) is kinds, nested)

abbrev is_column : ℕ × Kind → Bool
is_column c = is_number c.0 && is_store_kind c.1 && nat_le (nesting c.1) 4

-- columns above a number, of which the leaves go on
abbrev HasColumns : ℕ → List ℕ → List Leaf → Type 0
HasColumns c at ls = (columns : List (ℕ × Kind)) × Ends c [] at ls (layout_of columns) × IsTrue (rises_above c (map (λ k. k.0) columns) && list_all is_column columns)

-- the first leaf of a column says its kind, by what follows
pub record Begins (n : ℕ) (x : Leaf) (xs rest : List Leaf) : Type 0 where
  pub kind : Kind
  pub are : x ∷ xs ≡ leaves n [] kind ++ rest
  pub stored : IsTrue (is_store_kind kind)
  pub nested : nesting kind ≤ 4

begins : (n : ℕ) (r : Rank) (b : Bool) (xs rest : List Leaf) → IsTrue (is_leaf (a_leaf n [] r b)) → Ends n [] (cursor [] b) xs rest → Begins n (a_leaf n [] r b) xs rest
unfolding Ends
begins n r false xs rest fine ends = record { kind = plain r; are = ap (λ t. a_leaf n [] r false ∷ t) ends; stored = refl; nested = omega arith }
begins n r true xs rest fine (mid, ks, first, second, kinds, nested) =
    let bool = of_bool r (and_parts (same_rank r rank.Bool) (nat_le 0 3) fine).0 in
    record { kind = structured ks; are = ap (λ s. a_leaf n [] s true ∷ xs) bool ∙ ap (λ t. a_leaf n [] rank.Bool true ∷ t) (first ∙ second); stored = kinds; nested = omega (arith, nested) }

-- a new column stands before the others
new_column : (c n : ℕ) (at : List ℕ) (x : Leaf) (xs : List Leaf) (columns : List (ℕ × Kind)) → c < n → n < 2 ^ 16 → length at ≤ 4 → Begins n x xs (layout_of columns) → IsTrue (rises_above n (map (λ k. k.0) columns) && list_all is_column columns)
    → HasColumns c at (x ∷ xs)
new_column c n at x xs columns up small deep b fine =
    let both = and_parts (rises_above n (map (λ k. k.0) columns)) (list_all is_column columns) fine in
    let number = and_from (nat_lt 0 n) (nat_lt n (2 ^ 16)) (lt-ltb 0 n (omega (arith, up))) (lt-ltb n (2 ^ 16) small) in
    let one = and_from (is_number n && is_store_kind b.kind) (nat_le (nesting b.kind) 4) (and_from (is_number n) (is_store_kind b.kind) number b.stored) (le-leb (nesting b.kind) 4 b.nested) in (
      (n, b.kind) ∷ columns,
      subst (λ t. Ends c [] at (x ∷ xs) t) b.are (closed c [] at (x ∷ xs) (omega (arith, deep))),
      and_from (nat_lt c n && rises_above n (map (λ k. k.0) columns)) (is_column (n, b.kind) && list_all is_column columns)
          (and_from (nat_lt c n) (rises_above n (map (λ k. k.0) columns)) (lt-ltb c n up) both.0) (and_from (is_column (n, b.kind)) (list_all is_column columns) one both.1),
    )

cursor_short : (c : ℕ) (p : List ℕ) (r : Rank) (b : Bool) → IsTrue (is_leaf (a_leaf c p r b)) → length (cursor p b) ≤ 4
cursor_short c p r true fine = omega (arith, length-append p (0 ∷ []), leb-true (length p) 3 (and_parts (same_rank r rank.Bool) (nat_le (length p) 3) fine).1)
cursor_short c p r false fine = omega (arith, length-append p [], leb-true (length p) 4 fine)

begins_column : (c n : ℕ) (at p : List ℕ) (r : Rank) (b : Bool) (xs : List Leaf) → IsTrue (is_leaf (a_leaf n p r b)) → n < 2 ^ 16 → length at ≤ 4 → IsTrue (nat_lt c n && is_column_path p) → HasColumns n (cursor p b) xs → HasColumns c at (a_leaf n p r b ∷ xs)
begins_column c n at [] r b xs fine small deep stands (columns, ends, are) =
    new_column c n at (a_leaf n [] r b) xs columns (ltb-true c n (and_parts (nat_lt c n) true stands).0) small deep (begins n r b xs (layout_of columns) fine ends) are
begins_column c n at (k ∷ p) r b xs fine small deep stands columns = absurd (false≢true (and_parts (nat_lt c n) false stands).1)

-- either it goes on with the column or begins one
one_more : (c : ℕ) (at : List ℕ) (x : Leaf) (xs : List Leaf) (same : Bool) → (c == x.column) ≡ same → IsSmall x → IsTrue (is_leaf x) → length at ≤ 4 → IsTrue (stands_behind c at x) → HasColumns x.column (cursor x.path x.presence) xs → HasColumns c at (x ∷ xs)
one_more c at x xs true is small fine deep stands (columns, ends, are) =
    let e : x.column ≡ c = sym (eqb-true c x.column is) in
    let pass : IsTrue (passes at x.path) = subst (λ b. IsTrue (cond b (passes at x.path) (nat_lt c x.column && is_column_path x.path))) is stands in
    let on = placed x.column [] at x.path x.rank x.presence x.path xs (layout_of columns) refl fine small.1 (omega (arith, deep)) pass ends in
    (columns, subst (λ i. Ends i [] at (x ∷ xs) (layout_of columns)) e on, subst (λ i. IsTrue (rises_above i (map (λ k. k.0) columns) && list_all is_column columns)) e are)
one_more c at x xs false is small fine deep stands columns =
    let begin = subst (λ b. IsTrue (cond b (passes at x.path) (nat_lt c x.column && is_column_path x.path))) is stands in
    begins_column c x.column at x.path x.rank x.presence xs fine small.0 deep begin columns

of_columns : (c : ℕ) (at : List ℕ) (ls : List Leaf) → AllByRecursion IsSmall ls → length at ≤ 4 → IsTrue (are_in_order c at ls) → HasColumns c at ls
of_columns c at [] small deep order = ([], closed c [] at [] (omega (arith, deep)), refl)
of_columns c at (x ∷ xs) small deep order =
    let behind = and_parts (is_leaf x && stands_behind c at x) (are_in_order x.column (cursor x.path x.presence) xs) order in
    let here = and_parts (is_leaf x) (stands_behind c at x) behind.0 in
    one_more c at x xs (c == x.column) refl small.0 here.0 deep here.1 (of_columns x.column (cursor x.path x.presence) xs small.1 (cursor_short x.column x.path x.rank x.presence here.0) behind.1)

pub is_layout : (ls : List Leaf) → AllByRecursion IsSmall ls → IsTrue (are_in_order 0 [] ls) → IsLayout ls
unfolding Ends
is_layout ls small order = of_columns 0 [] ls small (omega arith) order

-- ---- from columns to leaves in order

passes_on : (p : List ℕ) (m n : ℕ) (more : List ℕ) → m < n → IsTrue (passes (p ++ m ∷ more) (p ++ n ∷ []))
passes_on [] m n more up = lt-ltb m n up
passes_on (a ∷ []) m n more up = and_from (a == a) (passes (m ∷ more) (n ∷ [])) (eq-eqb a a refl) (passes_on [] m n more up)
passes_on (a ∷ b ∷ p) m n more up = and_from (a == a) (passes ((b ∷ p) ++ m ∷ more) ((b ∷ p) ++ n ∷ [])) (eq-eqb a a refl) (passes_on (b ∷ p) m n more up)

stands_beside : (c : ℕ) (p : List ℕ) (m n : ℕ) (more : List ℕ) → m < n → IsTrue (stands_behind c (p ++ m ∷ more) (a_leaf c (p ++ n ∷ []) rank.Bool true))
stands_beside c p m n more up = rw (eq-eqb c c refl) (passes_on p m n more up)

-- what stands behind each leaf at a path or below it
abbrev GoesOn : ℕ → List ℕ → List Leaf → Type 0
GoesOn c p rest = (more : List ℕ) → IsTrue (are_in_order c (p ++ more) rest)

mutual
  leaves_go : (from c : ℕ) (at p : List ℕ) (k : Kind) (rest : List Leaf) → IsTrue (is_store_kind k) → length p + nesting k ≤ 4 → IsTrue (stands_behind from at (a_leaf c p rank.Bool true)) → GoesOn c p rest → IsTrue (are_in_order from at (leaves c p k ++ rest))
  leaves_go from c at p (plain r) rest stored deep stands on =
      let x = a_leaf c p r false in
      and_from (is_leaf x && stands_behind from at x) (are_in_order c (cursor p false) rest) (and_from (is_leaf x) (stands_behind from at x) (le-leb (length p) 4 (omega (arith, deep))) stands) (on [])
  leaves_go from c at p (enumeration names) rest stored deep stands on = absurd (false≢true stored)
  leaves_go from c at p (structured ks) rest stored deep stands on =
      let x = a_leaf c p rank.Bool true in
      and_from (is_leaf x && stands_behind from at x) (are_in_order c (cursor p true) (field_leaves c p ks ++ rest)) (and_from (is_leaf x) (stands_behind from at x) (le-leb (length p) 3 (omega (arith, deep))) stands)
      (fields_go c p 0 [] ks rest stored (omega (arith, deep)) on)

  fields_go : (c : ℕ) (p : List ℕ) (m : ℕ) (more : List ℕ) (ks : FieldKinds) (rest : List Leaf) → IsTrue (are_store_kinds m ks) → length p + 1 + nestings ks ≤ 4 → GoesOn c p rest → IsTrue (are_in_order c (p ++ m ∷ more) (field_leaves c p ks ++ rest))
  fields_go c p m more no_kinds rest stored deep on = on (m ∷ more)
  fields_go c p m more (field_kind n name k ks) rest stored deep on =
      let u = and_parts (is_number n && nat_lt m n && is_store_kind k) (are_store_kinds n ks) stored in
      let w = and_parts (is_number n && nat_lt m n) (is_store_kind k) u.0 in
      let up = ltb-true m n (and_parts (is_number n) (nat_lt m n) w.0).1 in
      let one = leaves c (p ++ n ∷ []) k in
      let others = field_leaves c p ks in
      let behind : GoesOn c (p ++ n ∷ []) (others ++ rest) = λ deeper. subst (λ at. IsTrue (are_in_order c at (others ++ rest))) (sym (append_assoc p (n ∷ []) deeper)) (fields_go c p n deeper ks rest u.1 (omega (arith, deep)) on) in
      subst (λ ls. IsTrue (are_in_order c (p ++ m ∷ more) ls)) (sym (append_assoc one others rest))
      (leaves_go c c (p ++ m ∷ more) (p ++ n ∷ []) k (others ++ rest) w.1 (omega (arith, deep, length-append p (n ∷ []))) (stands_beside c p m n more up) behind)

stands_above : (c n : ℕ) (at : List ℕ) → c < n → IsTrue (stands_behind c at (a_leaf n [] rank.Bool true))
stands_above c n at up = rw (ne_eqb c n (λ e. absurd (omega (arith, up, e)))) (and_from (nat_lt c n) true (lt-ltb c n up) refl)

columns_go : (c : ℕ) (at : List ℕ) (columns : List (ℕ × Kind)) → IsTrue (rises_above c (map (λ k. k.0) columns)) → IsTrue (list_all is_column columns) → IsTrue (are_in_order c at (layout_of columns))
columns_go c at [] rise are = refl
columns_go c at (x ∷ xs) rise are =
    let up = and_parts (nat_lt c x.0) (rises_above x.0 (map (λ k. k.0) xs)) rise in
    let each = and_parts (is_column x) (list_all is_column xs) are in
    let fine = and_parts (is_number x.0 && is_store_kind x.1) (nat_le (nesting x.1) 4) each.0 in
    leaves_go c x.0 at [] x.1 (layout_of xs) (and_parts (is_number x.0) (is_store_kind x.1) fine.0).1 (omega (arith, leb-true (nesting x.1) 4 fine.1)) (stands_above c x.0 at (ltb-true c x.0 up.0)) (λ more. columns_go x.0 more xs up.1 each.1)

pub in_order : (ls : List Leaf) → IsLayout ls → IsTrue (are_in_order 0 [] ls)
in_order ls (columns, are, fine) =
    let both = and_parts (rises_above 0 (map (λ c. c.0) columns)) (list_all is_column columns) fine in
    subst (λ (l : List Leaf). IsTrue (are_in_order 0 [] l)) (sym are) (columns_go 0 [] columns both.0 both.1)
