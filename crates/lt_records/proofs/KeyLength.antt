-- How many bytes the parts of a key take.
use Rattle.std.proofs.Common.{◌≡◌, sym, refl, ap, Bool, false, List, [], ◌∷◌, ℕ, zero, suc, ◌+◌, ◌<◌, ◌≤◌, length, get_or, take, flat_map, cond, eqb, ne_eqb, leb, arith}
use Rattle.std.specs.List.{count_by}
use Rattle.std.proofs.lemmas.Bool.{lt-leb}
use Rattle.std.proofs.lemmas.List.Folds.{flat_map-map, length-flat_map-take}
use Rattle.std.proofs.lemmas.List.Sums.{sum_by-cons}
use Rattle.lt_terms.specs.Key.{escaped, part_bytes}
use Rattle.lt_core.specs.View.{view_part, view_parts}
use Rattle.lt_core.specs.declared.key.KeyPart.{KeyPart}

-- a byte 00 takes one byte more
pub escaped_length : (text : List ℕ) → length (escaped text) ≡ length text + count_by (λ b. eqb b 0) text
escaped_length [] = refl
escaped_length (zero ∷ text) = omega (arith, escaped_length text, sum_by-cons (λ (b : ℕ). cond (eqb b 0) 1 0) 0 text)
escaped_length (suc b ∷ text) =
    let zero_of : Bool → ℕ = λ t. cond t 1 0 in
    let other : zero_of (eqb (suc b) 0) ≡ zero_of false = ap zero_of (ne_eqb (suc b) 0 (λ e. absurd (omega (arith, e)))) in
    omega (arith, escaped_length text, sum_by-cons (λ (c : ℕ). cond (eqb c 0) 1 0) (suc b) text, other)

-- how many bytes the parts take
abbrev pub bytes_of : List KeyPart → ℕ
bytes_of ps = length (flat_map part_bytes (view_parts ps))

-- where the first parts leave too few bytes for the next one, all of them are too long
pub too_long : (all items : List KeyPart) (p : KeyPart) (i left : ℕ) → items ≡ all → i < length items → p ≡ get_or items i p → left + bytes_of (take i items) ≡ 4092
    → (length (part_bytes (view_part p)) ≤ left → ⊥) → false ≡ leb (4 + bytes_of all) 4096
too_long all items p i left same within is so_far more =
    let spelled = λ (q : KeyPart). part_bytes (view_part q) in
    let front : bytes_of (take i items) ≡ length (flat_map spelled (take i items)) = ap length (flat_map-map part_bytes view_part (take i items)) in
    let whole : bytes_of items ≡ length (flat_map spelled items) = ap length (flat_map-map part_bytes view_part items) in
    let next : length (part_bytes (view_part p)) ≡ length (spelled (get_or items i p)) = ap (λ (q : KeyPart). length (spelled q)) is in
    sym (lt-leb (4 + bytes_of all) 4096 (omega (arith, length-flat_map-take spelled items i p within, front, whole, next, so_far, more, ap bytes_of same)))
