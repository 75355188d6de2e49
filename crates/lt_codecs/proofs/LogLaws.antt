-- Values and frames of logs: none begins another.
use Rattle.lt_terms.specs.Log.{AreValuesPrefixFree, IsPrefixFree}
use Rattle.lt_codecs.specs.LogCodec.{item, log_value, value}
use Rattle.lt_codecs.proofs.Codecs.{spell_apart}
use Rattle.lt_codecs.proofs.ValueCodecs.{log_value_is}
use Rattle.lt_codecs.proofs.ItemCodecs.{item_is}
pub use Rattle.lt_codecs.proofs.ListFacts.{first, second}
pub use Rattle.lt_codecs.proofs.LogTests.{IsShort, change_fits, few_fields, header_is, is_setting}

pub values_prefix_free : AreValuesPrefixFree
unfolding log_value value
values_prefix_free v w x y h i e = spell_apart log_value log_value_is v w x y h i e

pub frames_prefix_free : IsPrefixFree
unfolding item
frames_prefix_free f i j x y p q e = spell_apart (item f) (item_is f) i j x y p q e
