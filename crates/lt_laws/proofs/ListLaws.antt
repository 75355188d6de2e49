-- The laws of lists of row versions, all together: the effect of a key's versions, bundles and claims as well.
use Rattle.std.proofs.Common.{List, [], ap, append_assoc, arith, eqb-true, false, le-leb, ltb-false, ltb-true, refl, subst, sym, true, ℕ, ◌++◌, ◌∙◌, ◌∷◌, ◌≡◌}
use Rattle.std.specs.Prelude.{Bool, IsTrue, None, Option, Some, cond, find, flat_map, length, map, nat_le, nat_lt, not, option_map, ◌&&◌, ◌==◌}
use Rattle.std.proofs.lemmas.Bool.{lt-leb}
use Rattle.std.specs.List.{cons_option}
use Rattle.std.specs.Option.{option_map_or}
use Rattle.lt_terms.specs.Key.{Range, same_key}
use Rattle.lt_terms.specs.Layout.{Cell, Leaf, null_cell, unset}
use Rattle.lt_terms.specs.declared.Op.{Op}
use Rattle.lt_tables.specs.Version.{RowVersion, asof, clip, compose, effect_by, effect_of, is_ordered, merge, overlay, put_versions}
use Rattle.lt_tables.specs.Schema.{Catalogue}
use Rattle.lt_storage.specs.Bundle.{bundle_bytes, cut, cut_groups, full_size, grouped, with_group}
use Rattle.lt_storage.specs.Store.{Delta, carried_versions, delta_with, deltas_of}
use Rattle.lt_machine.specs.Sound.{up_to_ts}
use Rattle.lt_machine.specs.Claims.{WholeClaims, claimed, whole_claims}
use Rattle.lt_lemmas.proofs.MergeLaws.{same-back, same-itself, same-key}
use Rattle.lt_laws.proofs.MomentLaws.{asof-rows, laid, laid_by, lay, lay-as, lay-key, of_key, rows_at, without}
use Rattle.lt_laws.proofs.MergeLaws.{clip-merge}
use Rattle.lt_terms.specs.declared.Op.TheVariants as ops

-- ---- the effect of a key's versions

abbrev cells_of : List ℕ → List RowVersion → Option (List Cell)
cells_of key vs = option_map (λ (v : RowVersion). v.cells) (find (λ v. same_key v.key key) vs)

no-cells : Option (List Cell)
no-cells = None

cells-cons : (key : List ℕ) (z : RowVersion) (zs : List RowVersion) (b : Bool) → same_key z.key key ≡ b → cells_of key (z ∷ zs) ≡ cond b (Some z.cells) (cells_of key zs)
cells-cons key z zs true e = ap (λ b. option_map (λ (v : RowVersion). v.cells) (cond b (Some z) (find (λ v. same_key v.key key) zs))) e
cells-cons key z zs false e = ap (λ b. option_map (λ (v : RowVersion). v.cells) (cond b (Some z) (find (λ v. same_key v.key key) zs))) e

-- a key's rows apart from another's
apart-key : (k l z : List ℕ) (b : Bool) → same_key k l ≡ false → same_key k z ≡ true → same_key z l ≡ b → b ≡ false
apart-key k l z b h i e = sym e ∙ ap (λ x. same_key x l) (sym (same-key k z i)) ∙ h

cells-without-by : (key k : List ℕ) (z : RowVersion) (zs : List RowVersion) (b : Bool) → same_key k z.key ≡ b → same_key k key ≡ false → cells_of key (without k zs) ≡ cells_of key zs
    → cells_of key (cond (not b) (z ∷ without k zs) (without k zs)) ≡ cells_of key (z ∷ zs)
cells-without-by key k z zs true e h i = i ∙ sym (cells-cons key z zs false (apart-key k key z.key (same_key z.key key) h e refl))
cells-without-by key k z zs false e h i = cells-cons key z (without k zs) (same_key z.key key) refl ∙ ap (cond (same_key z.key key) (Some z.cells)) i ∙ sym (cells-cons key z zs (same_key z.key key) refl)

cells-without : (key k : List ℕ) (zs : List RowVersion) → same_key k key ≡ false → cells_of key (without k zs) ≡ cells_of key zs
unfolding without
cells-without key k [] h = refl
cells-without key k (z ∷ zs) h = cells-without-by key k z zs (same_key k z.key) refl h (cells-without key k zs h)

cells-lay-by : (key : List ℕ) (v z : RowVersion) (zs : List RowVersion) (b : Bool) → same_key v.key z.key ≡ b → same_key v.key key ≡ false → cells_of key (map (lay v) zs) ≡ cells_of key zs
    → cells_of key (lay v z ∷ map (lay v) zs) ≡ cells_of key (z ∷ zs)
cells-lay-by key v z zs true e h i = let n = apart-key v.key key z.key (same_key z.key key) h e refl in
    cells-cons key (lay v z) (map (lay v) zs) false (ap (λ k. same_key k key) (lay-key v z) ∙ n) ∙ i ∙ sym (cells-cons key z zs false n)
cells-lay-by key v z zs false e h i = ap (λ x. cells_of key (x ∷ map (lay v) zs)) (lay-as v z false e) ∙ cells-cons key z (map (lay v) zs) (same_key z.key key) refl
    ∙ ap (cond (same_key z.key key) (Some z.cells)) i ∙ sym (cells-cons key z zs (same_key z.key key) refl)

cells-lay : (key : List ℕ) (v : RowVersion) (zs : List RowVersion) → same_key v.key key ≡ false → cells_of key (map (lay v) zs) ≡ cells_of key zs
cells-lay key v [] h = refl
cells-lay key v (z ∷ zs) h = cells-lay-by key v z zs (same_key v.key z.key) refl h (cells-lay key v zs h)

cells-other : (o : Op) (key : List ℕ) (v : RowVersion) (zs : List RowVersion) → same_key v.key key ≡ false → cells_of key (laid_by o v zs) ≡ cells_of key zs
unfolding laid_by
cells-other ops.Insert key v zs h = cells-cons key v (without v.key zs) false h ∙ cells-without key v.key zs h
cells-other ops.Update key v zs h = cells-lay key v zs h
cells-other ops.Delete key v zs h = cells-without key v.key zs h

-- and of the key itself
none-left-by : (key : List ℕ) (z : RowVersion) (zs : List RowVersion) (b : Bool) → same_key key z.key ≡ b → cells_of key (without key zs) ≡ no-cells → cells_of key (cond (not b) (z ∷ without key zs) (without key zs)) ≡ no-cells
none-left-by key z zs true e h = h
none-left-by key z zs false e h = cells-cons key z (without key zs) false (same-back z.key key ∙ e) ∙ h

none-left : (key : List ℕ) (zs : List RowVersion) → cells_of key (without key zs) ≡ no-cells
unfolding without no-cells
none-left key [] = refl
none-left key (z ∷ zs) = none-left-by key z zs (same_key key z.key) refl (none-left key zs)

overlaid-by : (v z : RowVersion) (zs : List RowVersion) (b : Bool) → same_key v.key z.key ≡ b → cells_of v.key (map (lay v) zs) ≡ option_map (λ older. overlay older v.cells) (cells_of v.key zs)
    → cells_of v.key (lay v z ∷ map (lay v) zs) ≡ option_map (λ older. overlay older v.cells) (cells_of v.key (z ∷ zs))
overlaid-by v z zs true e h = ap (λ x. cells_of v.key (x ∷ map (lay v) zs)) (lay-as v z true e) ∙ cells-cons v.key (record z { ts = v.ts; cells = overlay z.cells v.cells }) (map (lay v) zs) true (same-back z.key v.key ∙ e)
    ∙ ap (option_map (λ older. overlay older v.cells)) (sym (cells-cons v.key z zs true (same-back z.key v.key ∙ e)))
overlaid-by v z zs false e h = ap (λ x. cells_of v.key (x ∷ map (lay v) zs)) (lay-as v z false e) ∙ cells-cons v.key z (map (lay v) zs) false (same-back z.key v.key ∙ e)
    ∙ h ∙ ap (option_map (λ older. overlay older v.cells)) (sym (cells-cons v.key z zs false (same-back z.key v.key ∙ e)))

overlaid : (v : RowVersion) (zs : List RowVersion) → cells_of v.key (map (lay v) zs) ≡ option_map (λ older. overlay older v.cells) (cells_of v.key zs)
overlaid v [] = refl
overlaid v (z ∷ zs) = overlaid-by v z zs (same_key v.key z.key) refl (overlaid v zs)

cells-own : (o : Op) (v : RowVersion) (zs : List RowVersion) → cells_of v.key (laid_by o v zs) ≡ effect_by o v.cells (cells_of v.key zs)
unfolding laid_by no-cells
cells-own ops.Insert v zs = cells-cons v.key v (without v.key zs) true (same-itself v.key)
cells-own ops.Update v zs = overlaid v zs
cells-own ops.Delete v zs = none-left v.key zs

cells-laid : (key : List ℕ) (v : RowVersion) (zs : List RowVersion) → same_key v.key key ≡ true → cells_of key (laid v zs) ≡ effect_by v.op v.cells (cells_of key zs)
cells-laid key v zs h = subst (λ k. cells_of k (laid v zs) ≡ effect_by v.op v.cells (cells_of k zs)) (same-key v.key key h) (cells-own v.op v zs)

effect-rows-by : (t : ℕ) (key : List ℕ) (v : RowVersion) (zs some : List RowVersion) (b c : Bool) → same_key v.key key ≡ b → nat_lt t v.ts ≡ c → cells_of key zs ≡ effect_of some
    → cells_of key (cond c zs (laid v zs)) ≡ effect_of (cond (b && nat_le v.ts t) (v ∷ some) some)
effect-rows-by t key v zs some false true e f h = h
effect-rows-by t key v zs some false false e f h = cells-other v.op key v zs e ∙ h
effect-rows-by t key v zs some true true e f h = let l = ltb-true t v.ts f in h ∙ ap (λ b. effect_of (cond b (v ∷ some) some)) (sym (lt-leb v.ts t (omega arith)))
effect-rows-by t key v zs some true false e f h = cells-laid key v zs e ∙ ap (effect_by v.op v.cells) h ∙ ap (λ b. effect_of (cond b (v ∷ some) some)) (sym (le-leb v.ts t (ltb-false t v.ts f)))

-- of any list, ordered or not
effect-rows : (t : ℕ) (key : List ℕ) (vs : List RowVersion) → cells_of key (rows_at t vs) ≡ effect_of (up_to_ts key t vs)
effect-rows t key [] = refl
effect-rows t key (v ∷ vs) = effect-rows-by t key v (rows_at t vs) (up_to_ts key t vs) (same_key v.key key) (nat_lt t v.ts) refl refl (effect-rows t key vs)

-- what is read of a key at a moment is the effect of its versions up to then
pub asof-effect : (t : ℕ) (key : List ℕ) (vs : List RowVersion) → IsTrue (is_ordered vs)
    → option_map (λ (v : RowVersion). v.cells) (find (λ v. same_key v.key key) (asof t vs)) ≡ effect_of (up_to_ts key t vs)
asof-effect t key vs h = ap (cells_of key) (asof-rows t vs h) ∙ effect-rows t key vs

-- of a list without order it may be another: here the update of key 1 is not laid over its insert
abbrev mixed : List RowVersion
mixed = of_key 1 2 ops.Update (null_cell ∷ []) ∷ of_key 2 1 ops.Insert [] ∷ of_key 1 1 ops.Insert (unset ∷ []) ∷ []

mixed_read : (cells_of (1 ∷ []) (asof 2 mixed) ≡ Some (unset ∷ [])) × (effect_of (up_to_ts (1 ∷ []) 2 mixed) ≡ Some (null_cell ∷ []))
unfolding asof compose
mixed_read = (refl, refl)

-- ---- bundles are the list

no-length : (vs : List RowVersion) (b : Bool) → (length vs == 0) ≡ b → flat_map (λ b. b) (cond b [] (vs ∷ [])) ≡ vs ++ []
no-length [] true e = refl
no-length [] false e = refl
no-length (v ∷ vs) true e = let z = eqb-true (length (v ∷ vs)) 0 e in absurd (omega arith)
no-length (v ∷ vs) false e = refl

with-group-by : (v w : RowVersion) (ws : List RowVersion) (gs : List (List RowVersion)) (b : Bool) → flat_map (λ b. b) (cond b ((v ∷ w ∷ ws) ∷ gs) ((v ∷ []) ∷ ((w ∷ ws) ∷ gs))) ≡ v ∷ flat_map (λ b. b) ((w ∷ ws) ∷ gs)
with-group-by v w ws gs true = refl
with-group-by v w ws gs false = refl

with-group : (v : RowVersion) (gs : List (List RowVersion)) → flat_map (λ b. b) (with_group v gs) ≡ v ∷ flat_map (λ b. b) gs
with-group v [] = refl
with-group v ([] ∷ gs) = refl
with-group v ((w ∷ ws) ∷ gs) = with-group-by v w ws gs (same_key v.key w.key)

pub grouped-flat : (vs : List RowVersion) → flat_map (λ b. b) (grouped vs) ≡ vs
grouped-flat [] = refl
grouped-flat (v ∷ vs) = with-group v (grouped vs) ∙ ap (λ l. v ∷ l) (grouped-flat vs)

cut-flat-by : (begun g rest : List RowVersion) (closed more : List (List RowVersion)) (b : Bool) → flat_map (λ b. b) closed ≡ rest → flat_map (λ b. b) more ≡ (begun ++ g) ++ rest
    → flat_map (λ b. b) (cond b ((begun ++ g) ∷ closed) more) ≡ begun ++ (g ++ rest)
cut-flat-by begun g rest closed more true h i = ap (λ l. (begun ++ g) ++ l) h ∙ append_assoc begun g rest
cut-flat-by begun g rest closed more false h i = i ∙ append_assoc begun g rest

cut-flat : (layout : List Leaf) (begun : List RowVersion) (gs : List (List RowVersion)) → flat_map (λ b. b) (cut_groups layout begun gs) ≡ begun ++ flat_map (λ b. b) gs
cut-flat layout begun [] = no-length begun (length begun == 0) refl
cut-flat layout begun (g ∷ gs) = cut-flat-by begun g (flat_map (λ b. b) gs) (cut_groups layout [] gs) (cut_groups layout (begun ++ g) gs) (nat_le full_size (length (bundle_bytes layout (begun ++ g)))) (cut-flat layout [] gs) (cut-flat layout (begun ++ g) gs)

pub cut-whole : (layout : List Leaf) (vs : List RowVersion) → flat_map (λ b. b) (cut layout vs) ≡ vs
unfolding cut
cut-whole layout vs = cut-flat layout [] (grouped vs) ∙ grouped-flat vs

-- ---- claims of whole ranges are the lists of ids

whole-by : (cat : Catalogue) (r : Range) (table : ℕ) (o : Option Delta) (ds : List Delta) (lists : List (List RowVersion)) → merge lists ≡ merge (map (clip r) (map (carried_versions cat table) ds))
    → merge (option_map_or (λ d. clip r (carried_versions cat table d)) o [] ∷ lists) ≡ merge (map (clip r) (map (carried_versions cat table) (cons_option o ds)))
unfolding merge
whole-by cat r table None ds lists h = h
whole-by cat r table (Some d) ds lists h = ap (put_versions (clip r (carried_versions cat table d))) h

whole : (cat : Catalogue) (shelf : List Delta) (ids : List ℕ) (r : Range) (table : ℕ) → claimed cat shelf (whole_claims r ids) table ≡ merge (map (clip r) (map (carried_versions cat table) (deltas_of shelf ids)))
whole cat shelf [] r table = refl
whole cat shelf (id ∷ ids) r table = whole-by cat r table (delta_with shelf id) (deltas_of shelf ids) (map (λ c. option_map_or (λ d. clip c.range (carried_versions cat table d)) (delta_with shelf c.id) []) (whole_claims r ids)) (whole cat shelf ids r table)

pub whole-claims : WholeClaims
whole-claims cat shelf ids r table = whole cat shelf ids r table ∙ sym (clip-merge r (map (carried_versions cat table) (deltas_of shelf ids)))
