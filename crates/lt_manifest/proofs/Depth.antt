-- What a struct holds, by the level.
use Rattle.std.proofs.Common.{List, None, ap, arith, suc, zero, ℕ, ◌-◌, ◌<◌, ◌≡◌}
use Rattle.lt_codecs.specs.Codec.{counted, u16}
use Rattle.lt_manifest.specs.Texts.{kind, kind_field, kind_fields}

-- at the innermost level a struct holds nothing that can be read
pub no_fields : (depth : ℕ) (bytes : List ℕ) → depth ≡ 0 → (kind_fields depth).read bytes ≡ None
unfolding kind_fields
no_fields depth bytes e = ap (λ d. (kind_fields d).read bytes) e

pub fields_below : (depth : ℕ) → 0 < depth → kind_fields depth ≡ counted u16 (kind_field (kind (depth - 1)))
unfolding kind_fields kind
fields_below zero up = absurd (omega arith)
fields_below (suc depth) up = let one : depth ≡ suc depth - 1 = omega arith in ap (λ d. counted u16 (kind_field (kind d))) one
