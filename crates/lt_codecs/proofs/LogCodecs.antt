-- Each codec of the log reads what the log's grammar spells.
use Rattle.std.proofs.Common.{refl}
use Rattle.lt_codecs.specs.Codec.{u64}
use Rattle.lt_codecs.specs.Front.{LogCodecs}
use Rattle.lt_codecs.proofs.ItemCodecs.{change_is, header_of_is, item_body_is, item_is, part_is}
use Rattle.lt_codecs.proofs.ValueCodecs.{value_is}
use Rattle.lt_codecs.specs.LogCodec as log

pub log_codecs : LogCodecs
unfolding log.value log.part log.change log.header log.item_body log.item u64
log_codecs = record {
  values = λ depth. record { spells = λ v. refl; is_codec = value_is depth };
  key_parts = record { spells = λ p. refl; is_codec = part_is };
  changes = record { spells = λ c. refl; is_codec = change_is };
  headers = λ f. record { spells = λ h. refl; is_codec = header_of_is f };
  bodies = λ f kind. record { spells = λ i. refl; is_codec = item_body_is f kind };
  frames = λ f. record { spells = λ i. refl; is_codec = item_is f };
}
