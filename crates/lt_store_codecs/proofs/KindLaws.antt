-- No kind begins another, and no column.
use Rattle.lt_codecs.proofs.Codecs.{spell_apart}
use Rattle.lt_store_codecs.specs.StoreCodec.{column, kind}
use Rattle.lt_store_codecs.specs.StoreFront.{AreColumnsPrefixFree, AreKindsPrefixFree}
use Rattle.lt_store_codecs.proofs.KindCodecs.{column_is, kind_is}

pub kinds_apart : AreKindsPrefixFree
unfolding kind
kinds_apart depth k l x y h i e = spell_apart (kind depth) (kind_is depth) k l x y h i e

pub columns_apart : AreColumnsPrefixFree
unfolding column
columns_apart c d x y h i e = spell_apart column column_is c d x y h i e
