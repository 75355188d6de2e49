-- Null is null at each kind.
use Rattle.std.proofs.Common.{refl, ◌≡◌}
use Rattle.lt_terms.specs.Value.{null_value}
use Rattle.lt_terms.specs.Kind.{Kind, enumeration, plain, structured}
use Rattle.lt_terms.specs.Conversion.{conv}
use Rattle.lt_lemmas.proofs.ConversionLemmas.{at_rank-null}
use Rattle.lt_terms.specs.declared.Rank.TheVariants as rank

pub conv_null : (k : Kind) → conv null_value k ≡ null_value
conv_null (plain r) = at_rank-null r
conv_null (enumeration names) = at_rank-null rank.Int32
conv_null (structured ks) = refl
