-- The codecs of root slots, of a manifest and of its parts keep the laws, and what they read and spell is the store's grammar.
use Rattle.std.proofs.Common.{arith, refl, ℕ, ◌<◌, ◌^◌}
use Rattle.std.specs.Prelude.{IsTrue, codes}
use Rattle.std.proofs.lemmas.Bool.Decides.{nat_tests}
use Rattle.lt_world.specs.Disk.{zeros}
use Rattle.lt_storage.specs.Store.{delta_entry_bytes, manifest_bytes, part_entry_bytes, point_bytes, stream_entry_bytes}
use Rattle.lt_codecs.specs.Codec.{Codec, IsCodec, byte, bytes16, u16, u32, u64}
use Rattle.lt_codecs.specs.CodecLaws.{States}
use Rattle.lt_codecs.proofs.Codecs.{byte_is, bytes16_is, counted_is, literal_is, of_parts_is, stated_is, then_is, u32_is, u64_is, where_true_is}
use Rattle.lt_store_codecs.specs.StoreCodec.{SlotParts, as_manifest, as_point, catalogue, delta, has_lawful_parts, in_slot, is_lawful_slot, manifest, partition, parts_of_manifest, parts_of_point, point, slot, slot_bytes, stream, table}
use Rattle.lt_store_codecs.proofs.KindCodecs.{catalogue_is}
use Rattle.lt_codecs.specs.Codec as codec

-- ---- root slots

abbrev slot_layout : Codec (Unit {0} × (ℕ × (ℕ × (ℕ × Unit {0}))))
slot_layout = codec.◌then◌ (codec.literal (codes "LTROOT")) (codec.◌then◌ u64 (codec.◌then◌ u64 (codec.◌then◌ u64 (codec.literal (zeros 481)))))

slot_states : States in_slot slot_bytes (λ r. IsTrue (is_lawful_slot r)) (codec.where_true (λ p. is_lawful_slot (in_slot p)) slot_layout)
unfolding u64
slot_states = record {
  made = λ p h. (h.1, refl);
  comes = λ r h. ((tt, (r.0, (r.1.0, (r.1.1, tt)))), refl, (fits r h, h));
} where
  fits : (r : SlotParts) → IsTrue (is_lawful_slot r) → Unit {0} × ((r.0 < 2 ^ 64) × ((r.1.0 < 2 ^ 64) × ((r.1.1 < 2 ^ 64) × Unit {0})))
  fits r h =
      let generation : r.0 < 2 ^ 64 = grind (arith, nat_tests) in
      let place : r.1.0 < 2 ^ 64 = grind (arith, nat_tests) in
      let long : r.1.1 < 2 ^ 64 = grind (arith, nat_tests) in
      (tt, (generation, (place, (long, tt))))

pub slot_is : IsCodec slot
unfolding slot
slot_is = stated_is in_slot slot_bytes (λ r. IsTrue (is_lawful_slot r)) _ slot_states
    (where_true_is (λ p. is_lawful_slot (in_slot p)) slot_layout
    (then_is (codec.literal (codes "LTROOT")) _ (literal_is (codes "LTROOT")) (then_is u64 _ u64_is (then_is u64 _ u64_is (then_is u64 _ u64_is (literal_is (zeros 481)))))))

-- ---- manifests

pub point_is : IsCodec point
unfolding point u64 u32 bytes16 u16
point_is = of_parts_is as_point parts_of_point point_bytes _ (λ p. refl) (λ p. refl) (λ p h. refl)
    (then_is u64 _ u64_is (then_is u64 _ u64_is (then_is u64 _ u64_is (counted_is u32 (codec.◌then◌ bytes16 u64) u32_is (then_is bytes16 u64 bytes16_is u64_is)))))

pub stream_is : IsCodec stream
unfolding stream bytes16 u16 byte point
stream_is = of_parts_is _ _ stream_entry_bytes _ (λ s. refl) (λ p. refl) (λ p h. refl) (then_is bytes16 _ bytes16_is (counted_is byte point byte_is point_is))

pub partition_is : IsCodec partition
unfolding partition bytes16 u16 u64 u32
partition_is = of_parts_is _ _ part_entry_bytes _ (λ p. refl) (λ p. refl) (λ p h. refl) (then_is bytes16 _ bytes16_is (then_is u64 _ u64_is (counted_is u32 u64 u32_is u64_is)))

pub delta_is : IsCodec delta
unfolding delta u64
delta_is = of_parts_is _ _ delta_entry_bytes _ (λ d. refl) (λ p. refl) (λ p h. refl) (then_is u64 _ u64_is (then_is u64 u64 u64_is u64_is))

pub manifest_is : IsCodec manifest
unfolding manifest manifest_bytes u64 u32 catalogue table stream partition delta
manifest_is = where_true_is has_lawful_parts _
    (of_parts_is as_manifest parts_of_manifest manifest_bytes _ (λ m. refl) (λ p. refl) (λ p h. refl)
    (then_is (codec.literal (codes "LTM1")) _ (literal_is (codes "LTM1"))
    (then_is u64 _ u64_is
    (then_is u64 _ u64_is
    (then_is u64 _ u64_is
    (then_is catalogue _ catalogue_is
    (then_is (codec.counted u32 stream) _ (counted_is u32 stream u32_is stream_is)
    (then_is (codec.counted u32 partition) (codec.counted u32 delta) (counted_is u32 partition u32_is partition_is) (counted_is u32 delta u32_is delta_is)))))))))
