-- Texts as parts of keys, byte by byte.
use Rattle.std.proofs.Common.{◌≡◌, ◌∙◌, refl, ap, List, [], ◌∷◌, ◌++◌, ℕ, zero, suc, ◌≤◌, length, take, ne_eqb, arith, append_assoc}
use Rattle.std.proofs.lemmas.List.{take_all}
use Rattle.std.specs.Prelude.{flat_map, if◌then◌else◌}
use Rattle.lt_terms.specs.Key.{bytes_cmp, escaped, key_bytes}
use Rattle.lt_codecs.proofs.KeyLaws.{keeps_order}
use Rattle.lt_core.specs.declared.key.Key.{Key}
use Rattle.lt_core.specs.View.{view_parts}
use Rattle.lt_core.specs.Keys.{KeepsOrder, encoded, escaped_byte}

byte_suc : (b : ℕ) → escaped_byte (suc b) ≡ suc b ∷ []
byte_suc b = ap (λ t. if t then 0 ∷ 255 ∷ [] else suc b ∷ []) (ne_eqb (suc b) 0 (λ e. absurd (omega (arith, e))))

pub escaped_is : (bs : List ℕ) → flat_map escaped_byte bs ≡ escaped bs
escaped_is [] = refl
escaped_is (zero ∷ bs) = ap (λ t. 0 ∷ 255 ∷ t) (escaped_is bs)
escaped_is (suc b ∷ bs) = ap (λ t. t ++ flat_map escaped_byte bs) (byte_suc b) ∙ ap (λ t. suc b ∷ t) (escaped_is bs)

-- a text's bytes are escaped one after another, and then comes the end
pub ended : (before out text : List ℕ) (i : ℕ) → out ≡ before ++ flat_map escaped_byte (take i text) → length text ≤ i → out ++ 0 ∷ 1 ∷ [] ≡ before ++ (escaped text ++ 0 ∷ 1 ∷ [])
ended before out text i e h =
    let all : take i text ≡ text = take_all i text h in
    ap (λ t. t ++ 0 ∷ 1 ∷ []) (e ∙ ap (λ t. before ++ flat_map escaped_byte t) all ∙ ap (λ t. before ++ t) (escaped_is text))
    ∙ append_assoc before (escaped text) (0 ∷ 1 ∷ [])

-- the bytes of a key are in the order of its parts
pub in_order : (k : Key) (bytes : List ℕ) → bytes ≡ encoded k → KeepsOrder k bytes
in_order k bytes e kinds parts h i = ap (λ t. bytes_cmp t (key_bytes k.table parts)) e ∙ keeps_order k.table kinds (view_parts k.parts) parts h i
