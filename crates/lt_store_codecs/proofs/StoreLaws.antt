-- The codecs of the log and of the store read what their grammars spell.
use Rattle.std.proofs.Common.{refl}
use Rattle.lt_codecs.specs.Codec.{u32}
use Rattle.lt_store_codecs.specs.StoreCodec.{catalogue, column, delta, entry, index, kind, leaf, manifest, partition, point, slot, stream, table, table_index, version}
use Rattle.lt_store_codecs.specs.StoreFront.{StoreCodecs}
use Rattle.lt_store_codecs.proofs.BundleCodecs.{bundle_is}
use Rattle.lt_store_codecs.proofs.BundleLaws.{bundle_spells}
use Rattle.lt_store_codecs.proofs.IndexCodecs.{entry_is, index_is, leaf_is, table_index_is}
use Rattle.lt_store_codecs.proofs.KindCodecs.{catalogue_is, column_is, kind_is, table_is, version_is}
use Rattle.lt_store_codecs.proofs.ManifestCodecs.{delta_is, manifest_is, partition_is, point_is, slot_is, stream_is}

pub store_codecs : StoreCodecs
unfolding slot kind column version table catalogue u32 point stream partition delta manifest leaf entry table_index index
store_codecs = record {
  slots = record { spells = λ r. refl; is_codec = slot_is };
  kinds = λ depth. record { spells = λ k. refl; is_codec = kind_is depth };
  columns = record { spells = λ c. refl; is_codec = column_is };
  versions = record { spells = λ r. refl; is_codec = version_is };
  tables = record { spells = λ t. refl; is_codec = table_is };
  catalogues = record { spells = λ ts. refl; is_codec = catalogue_is };
  points = record { spells = λ p. refl; is_codec = point_is };
  streams = record { spells = λ s. refl; is_codec = stream_is };
  partitions = record { spells = λ p. refl; is_codec = partition_is };
  deltas = record { spells = λ d. refl; is_codec = delta_is };
  manifests = record { spells = λ m. refl; is_codec = manifest_is };
  leaves = record { spells = λ l. refl; is_codec = leaf_is };
  entries = record { spells = λ e. refl; is_codec = entry_is };
  table_indexes = record { spells = λ t. refl; is_codec = table_index_is };
  indexes = record { spells = λ ts. refl; is_codec = index_is };
  bundles = λ layout. record { spells = bundle_spells layout; is_codec = bundle_is layout };
}
