-- Where a group stands, and what putting and taking make of the groups.
use Rattle.std.proofs.Common.{◌≡◌, ℕ, suc, zero, List, [], ◌∷◌, ◌++◌, refl, sym, ap, ◌∙◌, true, false, get_or, set, take, length, arith}
use Rattle.std.specs.Prelude.{Bool, IsTrue, None, Some, cond, filter, find, map, nat_lt, not, ◌+◌, ◌<◌, ◌≤◌, ◌&&◌}
use Rattle.std.specs.List.{AllByRecursion, list_all, position, position_or_len}
use Rattle.std.specs.Option.{option_map_or}
use Rattle.std.proofs.lemmas.Bool.Decides.{nat_tests}
use Rattle.std.proofs.lemmas.List.Quantifiers.{position-Some}
use Rattle.lt_terms.specs.Key.{below}
use Rattle.lt_tables.specs.Version.{RowVersion, put_version, same_name, stands_before}
use Rattle.lt_memdelta.specs.Deltas.{group_rows, is_group, is_kept, put_in, total, with_rows}
use Rattle.lt_memdelta.specs.Groups.{has_rows, rows_below, rows_from}
use Rattle.lt_memdelta.specs.declared.group.Group.{Group}

module _ (table version : ℕ) where
  -- ---- the place of a group

  -- one at this place, and none before it
  abbrev pub StandsAt : ℕ → List Group → Type 0
  StandsAt i [] = ⊥
  StandsAt zero (g ∷ gs) = is_group table version g ≡ true
  StandsAt (suc i) (g ∷ gs) = (is_group table version g ≡ false) × StandsAt i gs

  abbrev pub StandsNowhere : List Group → Type 0
  StandsNowhere gs = AllByRecursion (λ g. is_group table version g ≡ false) gs

  stands-by : (gs : List Group) (i : ℕ) (d : Group) → i < length gs → is_group table version (get_or gs i d) ≡ true
      → ((k : ℕ) → k < i → is_group table version (get_or gs k d) ≡ false) → StandsAt i gs
  stands-by [] i d h e f = omega arith
  stands-by (g ∷ gs) zero d h e f = e
  stands-by (g ∷ gs) (suc i) d h e f = (f 0 (omega arith), stands-by gs i d (omega arith) e (λ k l. f (suc k) (omega arith)))

  pub stands-at : (gs : List Group) (i : ℕ) (d : Group) → position (is_group table version) gs ≡ Some i → StandsAt i gs
  stands-at gs i d h = let p = position-Some (is_group table version) gs i d h in stands-by gs i d p.0 p.1 p.2

  bound-by : (a b : ℕ) (c : Bool) → nat_lt a b ≡ c → cond c (Some a) None ≡ None → b ≤ a
  bound-by a b true e h = let z : ⊥ = cc in absurd z
  bound-by a b false e h = grind (arith, nat_tests)

  nowhere-step : (g : Group) (gs : List Group) (b : Bool) → is_group table version g ≡ b → length (g ∷ gs) ≤ cond (not b) (1 + position_or_len (is_group table version) gs) 0
      → (length gs ≤ position_or_len (is_group table version) gs → StandsNowhere gs) → StandsNowhere (g ∷ gs)
  nowhere-step g gs true e h rest = let z : ⊥ = omega (arith, h) in absurd z
  nowhere-step g gs false e h rest = (e, rest (omega (arith, h)))

  nowhere-by : (gs : List Group) → length gs ≤ position_or_len (is_group table version) gs → StandsNowhere gs
  nowhere-by [] h = tt
  nowhere-by (g ∷ gs) h = nowhere-step g gs (is_group table version g) refl h (nowhere-by gs)

  pub stands-nowhere : (gs : List Group) → position (is_group table version) gs ≡ None → StandsNowhere gs
  stands-nowhere gs h = nowhere-by gs (bound-by (position_or_len (is_group table version) gs) (length gs) (nat_lt (position_or_len (is_group table version) gs) (length gs)) refl h)

  -- ---- its rows

  pub rows-by : (g : Group) (gs : List Group) (b : Bool) → is_group table version g ≡ b → group_rows table version (g ∷ gs) ≡ cond b g.rows (group_rows table version gs)
  rows-by g gs true e = ap (λ b. option_map_or (λ (x : Group). x.rows) (cond b (Some g) (find (is_group table version) gs)) []) e
  rows-by g gs false e = ap (λ b. option_map_or (λ (x : Group). x.rows) (cond b (Some g) (find (is_group table version) gs)) []) e

  pub rows-at : (gs : List Group) (i : ℕ) (g : Group) → StandsAt i gs → g ≡ get_or gs i g → group_rows table version gs ≡ g.rows
  rows-at [] i g h e = absurd h
  rows-at (x ∷ gs) zero g h e = rows-by x gs true h ∙ ap (λ (y : Group). y.rows) (sym e)
  rows-at (x ∷ gs) (suc i) g h e = rows-by x gs false h.0 ∙ rows-at gs i g h.1 e

  pub rows-nowhere : (gs : List Group) → StandsNowhere gs → group_rows table version gs ≡ []
  rows-nowhere [] h = refl
  rows-nowhere (x ∷ gs) h = rows-by x gs false h.0 ∙ rows-nowhere gs h.1

  -- ---- a version in its group

  module _ (v : RowVersion) where
    put-step : (g : Group) (gs : List Group) (b : Bool) → is_group table version g ≡ b
        → put_in table version v (g ∷ gs) ≡ cond b (record g { rows = put_version v g.rows } ∷ gs) (g ∷ put_in table version v gs)
    put-step g gs b e = ap (λ b. cond b (record g { rows = put_version v g.rows } ∷ gs) (g ∷ put_in table version v gs)) e

    changed : (g h : Group) (rows : List RowVersion) → g ≡ h → rows ≡ put_version v g.rows → record g { rows = rows } ≡ record h { rows = put_version v h.rows }
    changed g h rows e i = ap (λ (r : List RowVersion). record g { rows = r }) i ∙ ap (λ (x : Group). record x { rows = put_version v x.rows }) e

    pub put-at : (gs : List Group) (i : ℕ) (g : Group) (rows : List RowVersion) → StandsAt i gs → g ≡ get_or gs i g → rows ≡ put_version v g.rows
        → set gs i (record g { rows = rows }) ≡ put_in table version v gs
    put-at [] i g rows h e p = absurd h
    put-at (x ∷ gs) zero g rows h e p = ap (λ y. y ∷ gs) (changed g x rows e p) ∙ sym (put-step x gs true h)
    put-at (x ∷ gs) (suc i) g rows h e p = ap (λ r. x ∷ r) (put-at gs i g rows h.1 e p) ∙ sym (put-step x gs false h.0)

    pub put-end : (gs : List Group) → StandsNowhere gs → gs ++ record { table = table; version = version; rows = v ∷ [] } ∷ [] ≡ put_in table version v gs
    put-end [] h = refl
    put-end (x ∷ gs) h = ap (λ r. x ∷ r) (put-end gs h.1) ∙ sym (put-step x gs false h.0)

    -- ---- how many there are then

    fresh-by : (w : RowVersion) (ws : List RowVersion) (b c : Bool) → IsTrue (not c && list_all (λ w. not (same_name v w)) ws)
        → (IsTrue (list_all (λ w. not (same_name v w)) ws) → length (put_version v ws) ≡ 1 + length ws)
        → length (cond b (v ∷ w ∷ ws) (cond c (v ∷ ws) (w ∷ put_version v ws))) ≡ 1 + length (w ∷ ws)
    fresh-by w ws true c h rest = omega arith
    fresh-by w ws false true h rest = cc
    fresh-by w ws false false h rest = let i : length (put_version v ws) ≡ 1 + length ws = rest h in omega (arith, i)

    fresh-length : (ws : List RowVersion) → IsTrue (list_all (λ w. not (same_name v w)) ws) → length (put_version v ws) ≡ 1 + length ws
    fresh-length [] h = omega arith
    fresh-length (w ∷ ws) h = fresh-by w ws (stands_before v w) (same_name v w) h (fresh-length ws)

    put-total-by : (g : Group) (gs : List Group) (b : Bool) → IsTrue (list_all (λ w. not (same_name v w)) (cond b g.rows (group_rows table version gs)))
        → (IsTrue (list_all (λ w. not (same_name v w)) (group_rows table version gs)) → total (put_in table version v gs) ≡ 1 + total gs)
        → total (cond b (record g { rows = put_version v g.rows } ∷ gs) (g ∷ put_in table version v gs)) ≡ 1 + total (g ∷ gs)
    put-total-by g gs true h rest = let i : length (put_version v g.rows) ≡ 1 + length g.rows = fresh-length g.rows h in omega (arith, i)
    put-total-by g gs false h rest = let i : total (put_in table version v gs) ≡ 1 + total gs = rest h in omega (arith, i)

    pub put-total : (gs : List Group) → IsTrue (list_all (λ w. not (same_name v w)) (group_rows table version gs)) → total (put_in table version v gs) ≡ 1 + total gs
    put-total [] h = omega arith
    put-total (g ∷ gs) h = put-total-by g gs (is_group table version g) (ap (list_all (λ w. not (same_name v w))) (sym (rows-by g gs (is_group table version g) refl)) ∙ h) (put-total gs)

-- ---- a list changed as far as a place

abbrev pub partly : (Group → Group) → ℕ → List Group → List Group
partly f zero gs = gs
partly f (suc i) [] = []
partly f (suc i) (g ∷ gs) = f g ∷ partly f i gs

pub partly-all : (f : Group → Group) (gs : List Group) → partly f (length gs) gs ≡ map f gs
partly-all f [] = refl
partly-all f (g ∷ gs) = ap (λ r. f g ∷ r) (partly-all f gs)

pub partly-next : (f : Group → Group) (gs : List Group) (i : ℕ) (g n : Group) → i < length gs → g ≡ get_or (partly f i gs) i g → n ≡ f g → set (partly f i gs) i n ≡ partly f (suc i) gs
partly-next f [] i g n h e p = let z : ⊥ = omega (arith, h) in absurd z
partly-next f (x ∷ gs) zero g n h e p = ap (λ y. y ∷ gs) (p ∙ ap f e)
partly-next f (x ∷ gs) (suc i) g n h e p = ap (λ r. f x ∷ r) (partly-next f gs i g n (omega arith) e p)

pub total-set : (gs : List Group) (i : ℕ) (g n : Group) → i < length gs → g ≡ get_or gs i g → total (set gs i n) + length g.rows ≡ total gs + length n.rows
total-set [] i g n h e = let z : ⊥ = omega (arith, h) in absurd z
total-set (x ∷ gs) zero g n h e = let p : length g.rows ≡ length x.rows = ap (λ (y : Group). length y.rows) e in omega (arith, p)
total-set (x ∷ gs) (suc i) g n h e = let p : total (set gs i n) + length g.rows ≡ total gs + length n.rows = total-set gs i g n (omega arith) e in omega (arith, p)

pub total-at : (gs : List Group) (i : ℕ) (g : Group) → i < length gs → g ≡ get_or gs i g → length g.rows ≤ total gs
total-at [] i g h e = let z : ⊥ = omega (arith, h) in absurd z
total-at (x ∷ gs) zero g h e = let p : length g.rows ≡ length x.rows = ap (λ (y : Group). length y.rows) e in omega (arith, p)
total-at (x ∷ gs) (suc i) g h e = let p : length g.rows ≤ total gs = total-at gs i g (omega arith) e in omega (arith, p)

pub partly-length : (f : Group → Group) (i : ℕ) (gs : List Group) → length (partly f i gs) ≡ length gs
partly-length f zero gs = refl
partly-length f (suc i) [] = refl
partly-length f (suc i) (g ∷ gs) = ap suc (partly-length f i gs)

-- one group more loses what it has of a name
pub taken-next : (f : List RowVersion → List RowVersion) (gs old : List Group) (i removed removed' d : ℕ) (g : Group) (rows : List RowVersion) → i < length old → g ≡ get_or gs i g → rows ≡ f (get_or gs i g).rows
    → length rows + d ≡ length (get_or gs i g).rows → removed' ≡ removed + d → (gs ≡ partly (with_rows f) i old) × (total gs + removed ≡ total old)
    → (set gs i (record { table = (get_or gs i g).table; version = (get_or gs i g).version; rows = rows }) ≡ partly (with_rows f) (i + 1) old)
    × (total (set gs i (record { table = (get_or gs i g).table; version = (get_or gs i g).version; rows = rows })) + removed' ≡ total old)
taken-next f gs old i removed removed' d g rows h e r c t p =
    let n : Group = record { table = (get_or gs i g).table; version = (get_or gs i g).version; rows = rows } in
    let within : i < length gs = let same : length gs ≡ length old = ap length p.0 ∙ partly-length (with_rows f) i old in omega (arith, same, h) in
    let place : g ≡ get_or (partly (with_rows f) i old) i g = e ∙ ap (λ xs. get_or xs i g) p.0 in
    let made : n ≡ with_rows f g = ap (λ (rs : List RowVersion). let x : Group = record { table = (get_or gs i g).table; version = (get_or gs i g).version; rows = rs } in x) r ∙ ap (with_rows f) (sym e) in
    let next : i + 1 ≡ suc i = omega arith in
    let fewer : total (set gs i n) + length g.rows ≡ total gs + length rows = total-set gs i g n within e in
    let had : length g.rows ≡ length (get_or gs i g).rows = ap (λ (x : Group). length x.rows) e in
    (ap (λ xs. set xs i n) p.0 ∙ partly-next (with_rows f) old i g n h place made ∙ ap (λ j. partly (with_rows f) j old) (sym next), omega (arith, fewer, had, c, t, p.1))

pub taken-fits : (gs old : List Group) (i removed d : ℕ) (g : Group) (rows : List RowVersion) → i < length gs → g ≡ get_or gs i g → length rows + 1 ≡ length (get_or gs i g).rows → total gs + removed ≡ total old → removed + 1 ≤ total old
taken-fits gs old i removed d g rows h e c p =
    let one : length g.rows ≤ total gs = total-at gs i g h e in
    let had : length g.rows ≡ length (get_or gs i g).rows = ap (λ (x : Group). length x.rows) e in
    omega (arith, one, had, c, p)

-- ---- groups without rows

kept-by : (g : Group) (gs : List Group) (rows : List RowVersion) → g.rows ≡ rows → total (filter is_kept gs) ≡ total gs → total (cond (has_rows rows) (g ∷ filter is_kept gs) (filter is_kept gs)) ≡ total (g ∷ gs)
kept-by g gs [] e h = let p : length g.rows ≡ 0 = ap length e in omega (arith, p, h)
kept-by g gs (v ∷ vs) e h = ap (λ n. length g.rows + n) h

pub kept-total : (gs : List Group) → total (filter is_kept gs) ≡ total gs
kept-total [] = refl
kept-total (g ∷ gs) = kept-by g gs g.rows refl (kept-total gs)

-- ---- copies, and the two sides of a key

map-next : (f : Group → Group) (gs : List Group) (i : ℕ) (g : Group) → i < length gs → g ≡ get_or gs i g → map f (take i gs) ++ f g ∷ [] ≡ map f (take (suc i) gs)
map-next f [] i g h e = let z : ⊥ = omega (arith, h) in absurd z
map-next f (x ∷ gs) zero g h e = ap (λ y. f y ∷ []) e
map-next f (x ∷ gs) (suc i) g h e = ap (λ r. f x ∷ r) (map-next f gs i g (omega arith) e)

total-end : (gs : List Group) (g : Group) → total (gs ++ g ∷ []) ≡ total gs + length g.rows
total-end [] g = omega arith
total-end (x ∷ gs) g = let i : total (gs ++ g ∷ []) ≡ total gs + length g.rows = total-end gs g in omega (arith, i)

-- one group more is copied
pub copied-group : (f : List RowVersion → List RowVersion) (gs copies copies' : List Group) (i count count' : ℕ) (g n : Group) → i < length gs → g ≡ get_or gs i g → n ≡ with_rows f g → copies' ≡ copies ++ n ∷ []
    → count' ≡ count + length n.rows → (copies ≡ map (with_rows f) (take i gs)) × (count ≡ total copies)
    → (copies' ≡ map (with_rows f) (take (i + 1) gs)) × (count' ≡ total copies')
copied-group f gs copies copies' i count count' g n h e m p c q =
    let next : i + 1 ≡ suc i = omega arith in
    let all : copies ++ n ∷ [] ≡ map (with_rows f) (take (suc i) gs) = ap (λ xs. xs ++ n ∷ []) q.0 ∙ ap (λ x. map (with_rows f) (take i gs) ++ x ∷ []) m ∙ map-next (with_rows f) gs i g h e in
    let more : total (copies ++ n ∷ []) ≡ total copies + length n.rows = total-end copies n in
    let sum : count' ≡ total (copies ++ n ∷ []) = omega (arith, c, more, q.1) in
    (p ∙ all ∙ ap (λ j. map (with_rows f) (take j gs)) (sym next), sum ∙ ap total (sym p))

-- one group more is cut
pub cut-next : (f : List RowVersion → List RowVersion) (gs old : List Group) (i : ℕ) (g : Group) (rows : List RowVersion) → i < length old → g ≡ get_or gs i g → rows ≡ f (get_or gs i g).rows → gs ≡ partly (with_rows f) i old
    → set gs i (record { table = (get_or gs i g).table; version = (get_or gs i g).version; rows = rows }) ≡ partly (with_rows f) (i + 1) old
cut-next f gs old i g rows h e r p =
    let n : Group = record { table = (get_or gs i g).table; version = (get_or gs i g).version; rows = rows } in
    let place : g ≡ get_or (partly (with_rows f) i old) i g = e ∙ ap (λ xs. get_or xs i g) p in
    let made : n ≡ with_rows f g = ap (λ (rs : List RowVersion). let x : Group = record { table = (get_or gs i g).table; version = (get_or gs i g).version; rows = rs } in x) r ∙ ap (with_rows f) (sym e) in
    let next : i + 1 ≡ suc i = omega arith in
    ap (λ xs. set xs i n) p ∙ partly-next (with_rows f) old i g n h place made ∙ ap (λ j. partly (with_rows f) j old) (sym next)

sides-by : (key : List ℕ) (v : RowVersion) (vs : List RowVersion) (b : Bool) → length (rows_below key vs) + length (rows_from key vs) ≡ length vs
    → length (cond b (v ∷ rows_below key vs) (rows_below key vs)) + length (cond (not b) (v ∷ rows_from key vs) (rows_from key vs)) ≡ length (v ∷ vs)
sides-by key v vs true h = omega (arith, h)
sides-by key v vs false h = omega (arith, h)

sides-length : (key : List ℕ) (vs : List RowVersion) → length (rows_below key vs) + length (rows_from key vs) ≡ length vs
sides-length key [] = omega arith
sides-length key (v ∷ vs) = sides-by key v vs (below v.key key) (sides-length key vs)

-- each row is on one side
pub sides-total : (key : List ℕ) (gs : List Group) → total (map (with_rows (rows_below key)) gs) + total (map (with_rows (rows_from key)) gs) ≡ total gs
sides-total key [] = omega arith
sides-total key (g ∷ gs) =
    let own : length (rows_below key g.rows) + length (rows_from key g.rows) ≡ length g.rows = sides-length key g.rows in
    let rest : total (map (with_rows (rows_below key)) gs) + total (map (with_rows (rows_from key)) gs) ≡ total gs = sides-total key gs in
    omega (arith, own, rest)

-- no key is below the empty one
least-by : (v : RowVersion) (vs : List RowVersion) (k : List ℕ) → v.key ≡ k → rows_from [] vs ≡ vs → rows_from [] (v ∷ vs) ≡ v ∷ vs
least-by v vs [] h i = ap (λ k. cond (not (below k [])) (v ∷ rows_from [] vs) (rows_from [] vs)) h ∙ ap (λ r. v ∷ r) i
least-by v vs (b ∷ bs) h i = ap (λ k. cond (not (below k [])) (v ∷ rows_from [] vs) (rows_from [] vs)) h ∙ ap (λ r. v ∷ r) i

from-least : (vs : List RowVersion) → rows_from [] vs ≡ vs
from-least [] = refl
from-least (v ∷ vs) = least-by v vs v.key refl (from-least vs)

pub all-from-least : (gs : List Group) → map (with_rows (rows_from [])) gs ≡ gs
all-from-least [] = refl
all-from-least (g ∷ gs) = ap (λ (rs : List RowVersion). let x : Group = record { table = g.table; version = g.version; rows = rs } in x ∷ map (with_rows (rows_from [])) gs) (from-least g.rows) ∙ ap (λ r. g ∷ r) (all-from-least gs)
