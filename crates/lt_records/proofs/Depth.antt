-- What a struct holds, by the level.
use Rattle.std.proofs.Common.{◌≡◌, ℕ, zero, suc, ◌-◌, ◌<◌, ap, arith}
use Rattle.std.proofs.Common.{List, None}
use Rattle.lt_codecs.specs.LogCodec.{fields, settings_of, value}

-- at the innermost level a struct holds nothing that can be read
pub no_fields : (depth : ℕ) (bytes : List ℕ) → depth ≡ 0 → (fields depth).read bytes ≡ None
unfolding fields
no_fields depth bytes e = ap (λ d. (fields d).read bytes) e

pub fields_below : (depth : ℕ) → 0 < depth → fields depth ≡ settings_of (value (depth - 1))
unfolding fields value
fields_below zero up = absurd (omega arith)
fields_below (suc depth) up = let one : depth ≡ suc depth - 1 = omega arith in ap (λ d. settings_of (value d)) one
