-- Cells laid over cells, one after another.
use Rattle.std.proofs.Common.{List, [], add-one, ap, ap₂, arith, get_or, if◌then◌else◌, length, refl, sym, take, take-suc, ℕ, ◌++◌, ◌+◌, ◌<◌, ◌∙◌, ◌∷◌, ◌≡◌}
use Rattle.std.proofs.lemmas.List.{length-map, length-take-le, map-append}
use Rattle.lt_core.specs.View.{view_cells, view_scalar}
use Rattle.lt_core.specs.declared.leaf.Scalar.{Scalar}
use Rattle.lt_terms.specs.Layout.{Cell, is_unset}
use Rattle.lt_tables.specs.Version.{overlay}

abbrev pub over : Cell → Cell → Cell
over a b = if is_unset b then a else b

pub one_more : (xs ys : List Cell) (x y : Cell) → length xs ≡ length ys → overlay (xs ++ x ∷ []) (ys ++ y ∷ []) ≡ overlay xs ys ++ over x y ∷ []
one_more [] [] x y e = refl
one_more [] (b ∷ ys) x y e = absurd (omega (arith, e))
one_more (a ∷ xs) [] x y e = absurd (omega (arith, e))
one_more (a ∷ xs) (b ∷ ys) x y e = ap (λ l. over a b ∷ l) (one_more xs ys x y (omega (arith, e)))

-- the first cells laid over, with one more
pub laid_more : (older newer : List Scalar) (n : ℕ) (a b : Scalar) → n < length older → n < length newer → a ≡ get_or older n a → b ≡ get_or newer n b
    → overlay (view_cells (take (n + 1) older)) (view_cells (take (n + 1) newer)) ≡ overlay (view_cells (take n older)) (view_cells (take n newer)) ++ over (view_scalar a) (view_scalar b) ∷ []
laid_more older newer n a b l k e f =
    ap₂ overlay (taken older n a l e) (taken newer n b k f)
    ∙ one_more (view_cells (take n older)) (view_cells (take n newer)) (view_scalar a) (view_scalar b) (length-map (take n older) view_scalar ∙ length-take-le n older (omega (arith, l)) ∙ sym (length-map (take n newer) view_scalar ∙ length-take-le n newer (omega (arith, k))))
  where
    taken : (cells : List Scalar) (n : ℕ) (a : Scalar) → n < length cells → a ≡ get_or cells n a → view_cells (take (n + 1) cells) ≡ view_cells (take n cells) ++ view_scalar a ∷ []
    taken cells n a l e = ap view_cells (ap (λ m. take m cells) (add-one n) ∙ take-suc cells n a l) ∙ map-append view_scalar (take n cells) (get_or cells n a ∷ []) ∙ ap (λ x. view_cells (take n cells) ++ view_scalar x ∷ []) (sym e)
