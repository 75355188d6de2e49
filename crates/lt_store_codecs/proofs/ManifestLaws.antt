-- Lawful manifests are what their codec spells, where the catalogue is lawful.
use Rattle.std.proofs.Common.{Bool, List, [], ap, arith, eqb-true, false, inl, inr, leb-true, length, lt-ltb, ltb-true, refl, sym, true, ℕ, ◌++◌, ◌<◌, ◌^◌, ◌∙◌, ◌∷◌, ◌≡◌, ◌≤◌}
use Rattle.std.specs.Prelude.{IsTrue, map, nat_le, nat_lt, ◌&&◌, ◌==◌}
use Rattle.std.proofs.lemmas.Bool.{and_from, and_parts, false≢true, or_cases}
use Rattle.std.specs.List.{AllByRecursion, list_all, list_any}
use Rattle.std.proofs.lemmas.Bool.Decides.{nat_tests}
use Rattle.lt_terms.specs.Key.{max_key, tile}
use Rattle.lt_terms.specs.declared.Extent.{Extent}
use Rattle.lt_terms.specs.Value.{rises_above, rises_strictly}
use Rattle.lt_tables.specs.Fair.{Point}
use Rattle.lt_tables.specs.Pump.{Part}
use Rattle.lt_tables.specs.Schema.{IsCatalogue}
use Rattle.lt_storage.specs.Store.{IsLawfulManifest, Manifest, Stream, fits_63, is_delta_entry, is_limit, is_part_entry, is_point, is_stream_entry, manifest_bytes}
use Rattle.lt_codecs.specs.Codec.{byte, bytes16, u16, u32, u64}
use Rattle.lt_codecs.proofs.ListFacts.{all_both, all_hold, all_map}
use Rattle.lt_codecs.proofs.Codecs.{spell_apart}
use Rattle.lt_store_codecs.specs.StoreCodec.{delta, manifest, partition, point, stream}
use Rattle.lt_store_codecs.proofs.SpelledCatalogue.{catalogue_spelled}
use Rattle.lt_store_codecs.specs.StoreFront.{AreManifestsPrefixFree, DecidesManifests}
use Rattle.lt_store_codecs.proofs.ManifestCodecs.{manifest_is}

-- ---- streams and their points

abbrev is_window : List ℕ × ℕ → Bool
is_window w = fits_63 w.1 && nat_le (length w.0) max_key

abbrev is_placed : ℕ × Point → Bool
is_placed p = nat_lt p.0 (2 ^ 64) && is_point p.1

window_fits : (w : List ℕ × ℕ) → IsTrue (is_window w) → (length w.0 < 2 ^ 16) × (w.1 < 2 ^ 64)
window_fits w h =
    let p = and_parts (fits_63 w.1) (nat_le (length w.0) max_key) h in
    (omega (arith, leb-true (length w.0) max_key p.1), omega (arith, ltb-true w.1 (2 ^ 63) p.0))

point_lawful : (p : ℕ × Point) → IsTrue (is_placed p) → point.Lawful p
unfolding point u64 u32 bytes16 u16
point_lawful p h =
    let offset : p.0 < 2 ^ 64 = grind (arith, nat_tests) in
    let checkpoint : p.1.checkpoint < 2 ^ 64 = grind (arith, nat_tests) in
    let greatest : p.1.greatest < 2 ^ 64 = grind (arith, nat_tests) in
    let few : length p.1.window < 2 ^ 32 = grind (arith, nat_tests) in
    let window : IsTrue (list_all is_window p.1.window) = grind (arith, nat_tests) in
    (offset, (checkpoint, (greatest, (few, all_hold is_window (λ w. (length w.0 < 2 ^ 16) × (w.1 < 2 ^ 64)) window_fits p.1.window window))))

stream_lawful : (s : Stream) → IsTrue (is_stream_entry s) → stream.Lawful s
unfolding stream bytes16 u16 byte
stream_lawful s h =
    let low : length s.low < 2 ^ 16 = grind (arith, nat_tests) in
    let few : length s.points < 2 ^ 8 = grind (arith, nat_tests) in
    let points : IsTrue (list_all is_placed s.points) = grind (arith, nat_tests) in
    (low, (few, all_hold is_placed point.Lawful point_lawful s.points points))

-- ---- the deltas that a partition lists

abbrev is_listed : List (ℕ × Extent) → ℕ → Bool
is_listed ds id = list_any (λ d. d.0 == id) ds

above_rises : (low : ℕ) (ns : List ℕ) → IsTrue (rises_above low ns) → IsTrue (rises_strictly ns)
above_rises low [] h = refl
above_rises low (n ∷ ns) h = (and_parts (nat_lt low n) (rises_above n ns) h).1

pub all_above : (low : ℕ) (ns : List ℕ) → IsTrue (rises_above low ns) → AllByRecursion (λ n. low < n) ns
all_above low [] h = tt
all_above low (n ∷ ns) h =
    let p = and_parts (nat_lt low n) (rises_above n ns) h in
    let up : low < n = ltb-true low n p.0 in
    (up, all_map (λ m. n < m) (λ m. low < m) ns (λ m l. omega (arith, up, l)) (all_above n ns p.1))

listed_above : (low id : ℕ) (ds : List (ℕ × Extent)) → IsTrue (rises_above low (map (λ d. d.0) ds)) → IsTrue (is_listed ds id) → low < id
listed_above low id [] h l = absurd (false≢true l)
listed_above low id (d ∷ ds) h l =
    let p = and_parts (nat_lt low d.0) (rises_above d.0 (map (λ d. d.0) ds)) h in
    let up : low < d.0 = ltb-true low d.0 p.0 in
    elim (or_cases (d.0 == id) (is_listed ds id) l) [
      | inl e ↦ omega (arith, up, eqb-true d.0 id e)
      | inr i ↦ omega (arith, up, listed_above d.0 id ds p.1 i)
    ]

-- what is listed and above the first is listed behind it
listed_behind : (d : ℕ × Extent) (ds : List (ℕ × Extent)) (id : ℕ) → IsTrue (is_listed (d ∷ ds) id) → d.0 < id → IsTrue (is_listed ds id)
listed_behind d ds id l up = elim (or_cases (d.0 == id) (is_listed ds id) l) [ inl e ↦ absurd (omega (arith, up, eqb-true d.0 id e)) | inr i ↦ i ]

abbrev AreListed : List (ℕ × Extent) → List ℕ → Type 0
AreListed ds ids = AllByRecursion (λ id. IsTrue (is_listed ds id)) ids

all_behind : (d : ℕ × Extent) (ds : List (ℕ × Extent)) (low : ℕ) (ids : List ℕ) → d.0 ≤ low → IsTrue (rises_above low ids) → AreListed (d ∷ ds) ids → AreListed ds ids
all_behind d ds low ids le up l = all_both (λ j. low < j) (λ j. IsTrue (is_listed (d ∷ ds) j)) (λ j. IsTrue (is_listed ds j)) ids (λ j a i. listed_behind d ds j i (omega (arith, le, a))) (all_above low ids up) l

few_by : (i : ℕ) (ids : List ℕ) (d : ℕ × Extent) (ds : List (ℕ × Extent)) (b : Bool) → (d.0 == i) ≡ b → IsTrue (rises_above i ids) → IsTrue (rises_above d.0 (map (λ d. d.0) ds)) → AreListed (d ∷ ds) (i ∷ ids)
    → ((js : List ℕ) → IsTrue (rises_strictly js) → AreListed ds js → length js ≤ length ds) → length (i ∷ ids) ≤ length (d ∷ ds)
few_by i ids d ds true e h k l few = omega (arith, few ids (above_rises i ids h) (all_behind d ds i ids (omega (arith, eqb-true d.0 i e)) h l.1))
few_by i ids d ds false e h k l few =
    let here : IsTrue (is_listed ds i) = elim (or_cases (d.0 == i) (is_listed ds i) l.0) [ inl t ↦ absurd (false≢true (sym e ∙ t)) | inr t ↦ t ] in
    let up = listed_above d.0 i ds k here in
    omega (arith, few (i ∷ ids) h (here, all_behind d ds i ids (omega (arith, up)) h l.1))

-- a rising list of ids, each of a delta, is no longer than the list of deltas
few_ids : (ids : List ℕ) (ds : List (ℕ × Extent)) → IsTrue (rises_strictly ids) → IsTrue (rises_strictly (map (λ d. d.0) ds)) → AreListed ds ids → length ids ≤ length ds
few_ids [] ds h k l = omega arith
few_ids (i ∷ ids) [] h k l = absurd (false≢true l.0)
few_ids (i ∷ ids) (d ∷ ds) h k l = few_by i ids d ds (d.0 == i) refl h k l (λ js up m. few_ids js ds up (above_rises d.0 (map (λ d. d.0) ds) k) m)

-- ---- partitions and deltas

abbrev is_known : Manifest → ℕ → Bool
is_known m id = is_listed m.deltas id && nat_lt id m.next_id

part_lawful : (m : Manifest) (p : Part) → m.next_id < 2 ^ 64 → IsTrue (rises_strictly (map (λ d. d.0) m.deltas)) → length m.deltas ≤ 4096 → IsTrue (is_part_entry m p) → partition.Lawful p
unfolding partition bytes16 u16 u64 u32
part_lawful m p next deltas few h =
    let low : length p.low < 2 ^ 16 = grind (arith, nat_tests) in
    let resume : p.resume < 2 ^ 64 = grind (arith, nat_tests) in
    let rises : IsTrue (rises_strictly p.ids) = grind (arith, nat_tests) in
    let known : IsTrue (list_all (is_known m) p.ids) = grind (arith, nat_tests) in
    let ids = all_hold (is_known m) (λ id. IsTrue (is_listed m.deltas id) × (id < 2 ^ 64)) (λ id k. let q = and_parts (is_listed m.deltas id) (nat_lt id m.next_id) k in (q.0, omega (arith, next, ltb-true id m.next_id q.1))) p.ids known in
    let listed = all_map (λ id. IsTrue (is_listed m.deltas id) × (id < 2 ^ 64)) (λ id. IsTrue (is_listed m.deltas id)) p.ids (λ id k. k.0) ids in
    (low, (resume, (omega (arith, few, few_ids p.ids m.deltas rises deltas listed), all_map (λ id. IsTrue (is_listed m.deltas id) × (id < 2 ^ 64)) (λ id. id < 2 ^ 64) p.ids (λ id k. k.1) ids)))

delta_lawful : (m : Manifest) (d : ℕ × Extent) → IsTrue (is_delta_entry m d) → delta.Lawful d
unfolding delta u64
delta_lawful m d h =
    let id : d.0 < 2 ^ 64 = grind (arith, nat_tests) in
    let place : d.1.place < 2 ^ 64 = grind (arith, nat_tests) in
    let size : d.1.length < 2 ^ 64 = grind (arith, nat_tests) in
    (id, (place, size))

-- ---- manifests

manifest_lawful : (m : Manifest) → IsLawfulManifest m → manifest.Lawful m
unfolding manifest u64 u32
manifest_lawful m h =
    let streams = and_parts (nat_lt 0 (length m.streams) && nat_le (length m.streams) 64) (list_all is_stream_entry m.streams) h.streams in
    let few_streams = leb-true (length m.streams) 64 (and_parts (nat_lt 0 (length m.streams)) (nat_le (length m.streams) 64) streams.0).1 in
    let parts = and_parts (tile (map (λ p. p.low) m.parts) && nat_le (length m.parts) 1024) (list_all (is_part_entry m) m.parts) h.parts in
    let few_parts = leb-true (length m.parts) 1024 (and_parts (tile (map (λ p. p.low) m.parts)) (nat_le (length m.parts) 1024) parts.0).1 in
    let rise = rises_strictly (map (λ d. d.0) m.deltas) in
    let deltas = and_parts (rise && nat_le (length m.deltas) 4096) (list_all (is_delta_entry m) m.deltas) h.deltas in
    let rises = and_parts rise (nat_le (length m.deltas) 4096) deltas.0 in
    let few_deltas = leb-true (length m.deltas) 4096 rises.1 in
    let limit = and_parts (nat_le (2 ^ 20) m.limit) (nat_le m.limit (2 ^ 40)) h.limit in
    let numbers = and_parts (nat_lt m.minimum (2 ^ 64)) (nat_lt m.next_id (2 ^ 64)) h.numbers in
    let next = ltb-true m.next_id (2 ^ 64) numbers.1 in
    let spelled_parts = all_hold (is_part_entry m) partition.Lawful (λ p k. part_lawful m p next rises.0 few_deltas k) m.parts parts.1 in
    let each_stream = all_hold is_stream_entry stream.Lawful stream_lawful m.streams streams.1 in
    let each_delta = all_hold (is_delta_entry m) delta.Lawful (delta_lawful m) m.deltas deltas.1 in
    let tests = and_from _ _ (and_from _ _ (and_from _ _ h.limit h.streams) h.parts) h.deltas in (
      (
        tt,
        (
          omega (arith, leb-true m.limit (2 ^ 40) limit.1),
          (
            ltb-true m.minimum (2 ^ 64) numbers.0,
            (
              next,
              (
                catalogue_spelled m.catalogue h.catalogue,
                ((omega (arith, few_streams), each_stream), ((omega (arith, few_parts), spelled_parts), (omega (arith, few_deltas), each_delta))),
              ),
            ),
          ),
        ),
      ),
      tests,
    )

lawful_manifest : (m : Manifest) → manifest.Lawful m → IsCatalogue m.catalogue → IsLawfulManifest m
unfolding manifest u64
lawful_manifest m h is =
    let has_streams = nat_lt 0 (length m.streams) && nat_le (length m.streams) 64 && list_all is_stream_entry m.streams in
    let has_parts = tile (map (λ p. p.low) m.parts) && nat_le (length m.parts) 1024 && list_all (is_part_entry m) m.parts in
    let has_deltas = rises_strictly (map (λ d. d.0) m.deltas) && nat_le (length m.deltas) 4096 && list_all (is_delta_entry m) m.deltas in
    let all = and_parts (is_limit m.limit && has_streams && has_parts) has_deltas h.1 in
    let most = and_parts (is_limit m.limit && has_streams) has_parts all.0 in
    let some = and_parts (is_limit m.limit) has_streams most.0 in
    record {
      limit = some.0;
      numbers = and_from _ _ (lt-ltb m.minimum (2 ^ 64) h.0.1.1.0) (lt-ltb m.next_id (2 ^ 64) h.0.1.1.1.0);
      catalogue = is;
      streams = some.1;
      parts = most.1;
      deltas = all.1;
    }

pub decides : DecidesManifests
decides m = ((λ h. (manifest_lawful m h, h.catalogue)), (λ h. lawful_manifest m h.0 h.1))

-- ---- their bytes

pub manifest_spells : (m : Manifest) → manifest.spell m ≡ manifest_bytes m
unfolding manifest
manifest_spells m = refl

pub prefix_free : AreManifestsPrefixFree
prefix_free m n x y h k e = spell_apart manifest manifest_is m n x y (manifest_lawful m h) (manifest_lawful n k)
    (ap (λ (t : List ℕ). t ++ x) (manifest_spells m) ∙ e ∙ ap (λ (t : List ℕ). t ++ y) (sym (manifest_spells n)))
