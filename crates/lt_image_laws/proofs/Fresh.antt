-- A fresh store holds the fresh part.
use Rattle.std.proofs.Common.{List, [], arith, length, le-leb, leb-true, refl, ℕ, ◌*◌, ◌++◌, ◌+◌, ◌∙◌, ◌∷◌, ◌≡◌, ◌≤◌}
use Rattle.std.specs.Prelude.{IsTrue, flat_map, map, nat_le, nat_lt, ◌&&◌, ◌^◌}
use Rattle.std.specs.List.{list_all}
use Rattle.std.proofs.lemmas.Bool.{and_from, and_parts}
use Rattle.std.proofs.lemmas.List.{length-append, length-map}
use Rattle.lt_world.specs.Disk.{StaysOutside}
use Rattle.lt_world.specs.Feed.{Feed}
use Rattle.lt_terms.specs.Key.{max_key}
use Rattle.lt_terms.specs.Log.{Header, u16}
use Rattle.lt_machine.specs.Machine.{fresh, opened}
use Rattle.lt_world.specs.Slots.{HasRoot}
use Rattle.lt_machine.specs.Outside.{BelongsTo}
use Rattle.lt_machine.specs.Sound.{Memory}
use Rattle.lt_world.specs.Extents.{are_apart}
use Rattle.lt_storage.specs.Store.{HasPlaced, HoldsAt, IsLawfulPart, Stream, are_within, bare_manifest, counted32, delta_entry_bytes, extents_of, is_stream_entry, manifest_bytes, part_entry_bytes, stream_entry_bytes}
use Rattle.lt_root.specs.Roots.{first_root}
use Rattle.lt_image_laws.specs.Bytes.{extent_at}
use Rattle.lt_image_laws.specs.Fresh.{FreshHolds, HasFresh, fresh_length, fresh_placing}
use Rattle.lt_image_laws.specs.Standing.{IsRooted}
use Rattle.lt_image_laws.proofs.Bytes.{bytes_stay}
use Rattle.lt_image_laws.proofs.Commit.{commit_laws}
use Rattle.lt_image_laws.proofs.Opening.{reads}
use Rattle.lt_image_laws.proofs.Placed.{placed_holds}
use Rattle.lt_image_laws.proofs.Standing.{held_by}

abbrev entry : Header → Stream
entry h = record { low = h.range.low; points = [] }

-- ---- how long the manifest is

entries_short : (hs : List Header) → IsTrue (list_all is_stream_entry (map entry hs)) → length (flat_map stream_entry_bytes (map entry hs)) ≤ 4099 * length hs
entries_short [] h = omega arith
entries_short (x ∷ hs) h =
    let p = and_parts (is_stream_entry (entry x)) (list_all is_stream_entry (map entry hs)) h in
    let a = and_parts _ _ (and_parts _ _ (and_parts _ _ p.0).0).0 in
    let short : length x.range.low ≤ max_key = leb-true (length x.range.low) max_key a.0 in
    let size : length (stream_entry_bytes (entry x)) ≡ 3 + length x.range.low = omega (arith, length-append (u16 (length x.range.low)) (x.range.low ++ 0 ∷ []), length-append x.range.low (0 ∷ [])) in
    omega (arith, length-append (stream_entry_bytes (entry x)) (flat_map stream_entry_bytes (map entry hs)), entries_short hs p.1, size, short)

manifest_short : (most : ℕ) (hs : List Header) → length hs ≤ 64 → IsTrue (list_all is_stream_entry (map entry hs)) → fresh_length most hs ≤ 262400
unfolding manifest_bytes
manifest_short most hs few h =
    let streams = flat_map stream_entry_bytes (map entry hs) in
    let rest = counted32 part_entry_bytes (fresh most hs).parts ++ counted32 delta_entry_bytes [] in
    omega (arith, few, entries_short hs h, length-append streams rest)

-- with room for another one
pub manifest_fits : (most : ℕ) (hs : List Header) → IsLawfulPart (fresh most hs) → 1024 + fresh_length most hs + fresh_length most hs ≤ most
manifest_fits most hs l =
    let p = and_parts (nat_lt 0 (length (map entry hs)) && nat_le (length (map entry hs)) 64) (list_all is_stream_entry (map entry hs)) l.manifest.streams in
    let few : length (map entry hs) ≤ 64 = leb-true (length (map entry hs)) 64 (and_parts (nat_lt 0 (length (map entry hs))) (nat_le (length (map entry hs)) 64) p.0).1 in
    let wide : 2 ^ 20 ≤ most = leb-true (2 ^ 20) most (and_parts (nat_le (2 ^ 20) most) (nat_le most (2 ^ 40)) l.manifest.limit).0 in
    omega (arith, wide, manifest_short most hs (omega (arith, few, length-map hs entry)) p.1)

fits : (most : ℕ) (hs : List Header) → IsLawfulPart (fresh most hs) → 1024 + fresh_length most hs ≤ most
fits most hs l = omega (arith, manifest_fits most hs l)

-- ---- what an image holds once the root counts

stays : (most : ℕ) (hs : List Header) (a b : List ℕ) → HasFresh most hs a → StaysOutside 0 1024 a b → HasFresh most hs b
stays most hs a b h outside =
    record { bytes = bytes_stay.outside a b 0 1024 (extent_at 1024 (fresh_length most hs)) outside refl h.within ∙ h.bytes; within = omega (arith, h.within, outside.longer) }

apart : (most : ℕ) (hs : List Header) → IsLawfulPart (fresh most hs) → IsTrue (are_apart most (extents_of (fresh_placing most hs)))
apart most hs l = and_from _ _ (and_from _ _ (and_from _ _ refl (le-leb (1024 + fresh_length most hs) most (fits most hs l))) refl) refl

pub placed : (most : ℕ) (hs : List Header) (image : List ℕ) → IsLawfulPart (fresh most hs) → HasFresh most hs image → HasPlaced (fresh most hs) (fresh_placing most hs) image
placed most hs image l h = placed_holds.placed (fresh most hs) (first_root 1024 (fresh_length most hs)) [] image l refl tt (apart most hs l) h.bytes

within : (most : ℕ) (hs : List Header) (image : List ℕ) → HasFresh most hs image → IsTrue (are_within image (extents_of (fresh_placing most hs)))
within most hs image h = and_from _ _ (le-leb (1024 + fresh_length most hs) (length image) h.within) refl

held : (most : ℕ) (hs : List Header) (image : List ℕ) → IsLawfulPart (fresh most hs) → HasFresh most hs image → HasRoot (first_root 1024 (fresh_length most hs)) image
    → HoldsAt image (fresh most hs) (fresh_placing most hs) × IsTrue (are_within image (extents_of (fresh_placing most hs)))
held most hs image l h root = (held_by image (fresh most hs) (fresh_placing most hs) root.0 (placed most hs image l h) (apart most hs l), within most hs image h)

stands : (f : Feed) (most : ℕ) (hs : List Header) (mem : Memory) (image : List ℕ) → BelongsTo f (opened (fresh most hs) hs) mem → HasFresh most hs image → HasRoot (first_root 1024 (fresh_length most hs)) image
    → IsRooted f (opened (fresh most hs) hs) (fresh_placing most hs) [] image
stands f most hs mem image belongs h root =
    let good = belongs.1 in
    commit_laws.stands f (opened (fresh most hs) hs) (fresh_placing most hs) [] image (record {
      fronts = belongs.0;
      good = good;
      placed = placed most hs image good.lawful h;
      apart = apart most hs good.lawful;
      within = within most hs image h;
      job = refl;
      made_apart = refl;
    }) root

pub fresh_holds : FreshHolds
fresh_holds = record {
  fits = fits;
  written = λ most hs image. let bs = manifest_bytes (bare_manifest (fresh most hs)) in record { bytes = bytes_stay.there image bs 1024; within = bytes_stay.long image bs 1024 };
  stays = stays;
  held = held;
  stands = stands;
  reads = λ most hs image l h root. reads image (fresh most hs) (fresh_placing most hs) (held most hs image l h root).0;
}
