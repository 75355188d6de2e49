-- An honest image may have its root elsewhere than the session.
use Rattle.std.proofs.Common.{List, [], arith, inl, length, le-leb, refl, subst, ℕ, ◌+◌, ◌≡◌, ◌≤◌, ◌++◌, ◌∷◌, ◌∙◌}
use Rattle.std.specs.Prelude.{IsTrue, nat_le}
use Rattle.std.proofs.lemmas.Bool.{and_from, or_right, or_left}
use Rattle.lt_disk.proofs.Written.{written_length}
use Rattle.lt_root.proofs.Tears.{first_made}
use Rattle.lt_terms.specs.declared.Root.{Root}
use Rattle.lt_world.specs.Disk.{StaysOutside, bytes_in, with_bytes, zeros}
use Rattle.lt_world.specs.Feed.{Feed}
use Rattle.lt_terms.specs.Log.{Header}
use Rattle.lt_machine.specs.Machine.{fresh, opened}
use Rattle.lt_machine.specs.Outside.{BelongsTo, IsHonest}
use Rattle.lt_machine.specs.Sound.{Memory}
use Rattle.lt_machine.specs.Sound.{IsSound}
use Rattle.lt_world.specs.Extents.{are_apart, apart}
use Rattle.lt_storage.specs.Store.{IsLawfulPart, IsManifest, Manifest, Placing, bare_manifest, extents_of, root_extent, manifest_bytes}
use Rattle.lt_laws.proofs.OneImage.{one_root}
use Rattle.lt_root.proofs.SlotLaws.{counts_same, lawful_root}
use Rattle.lt_root.specs.Roots.{first_root, body_of}
use Rattle.lt_image_laws.specs.Bytes.{IsBeside, extent_at}
use Rattle.lt_image_laws.specs.Fresh.{fresh_length, fresh_placing}
use Rattle.lt_image_laws.specs.Honest.{CountsSecond, HonestAlone, second_place}
use Rattle.lt_image_laws.specs.Standing.{live_of, placed_at}
use Rattle.lt_image_laws.proofs.Bytes.{same_outside, bytes_stay}
use Rattle.lt_image_laws.proofs.Commit.{commit_laws, manifest_filled}
use Rattle.lt_image_laws.proofs.Fresh.{manifest_fits, placed}
use Rattle.lt_image_laws.proofs.Placed.{placed_holds, limit_low}
use Rattle.lt_image_laws.proofs.Standing.{held_by}

abbrev second_root : ℕ → List Header → Root
second_root most hs = first_root (second_place most hs) (fresh_length most hs)

abbrev second_placing : ℕ → List Header → Placing
second_placing most hs = record { root = second_root most hs; manifest = bare_manifest (fresh most hs); indexes = [] }

second_apart : (most : ℕ) (hs : List Header) → IsLawfulPart (fresh most hs) → IsTrue (are_apart most (extents_of (second_placing most hs)))
second_apart most hs l =
    let fits = manifest_fits most hs l in
    let high : second_place most hs + fresh_length most hs ≤ most = omega (arith, fits) in
    and_from _ _ (and_from _ _ (and_from _ _ (le-leb 1024 (second_place most hs) (omega arith)) (le-leb (second_place most hs + fresh_length most hs) most high)) refl) refl

honest : (f : Feed) (most : ℕ) (hs : List Header) (mem : Memory) (image : List ℕ) → BelongsTo f (opened (fresh most hs) hs) mem → CountsSecond most hs image → IsHonest f (placed_at (opened (fresh most hs) hs) (fresh_placing most hs) []) image
honest f most hs mem image belongs c =
    let good = belongs.1 in
    let l = second_placing most hs in
    let there = placed_holds.placed (fresh most hs) (second_root most hs) [] image good.lawful refl tt (second_apart most hs good.lawful) c.second in
    let holds = held_by image (fresh most hs) l c.root.0 there (second_apart most hs good.lawful) in
    record {
      part = inl (l, holds);
      sound = commit_laws.sound f (opened (fresh most hs) hs) belongs.0 l image good holds (and_from _ _ (le-leb (second_place most hs + fresh_length most hs) (length image) c.within) refl);
      placed = placed most hs image good.lawful c.first;
      failed = tt;
      job = refl;
      within = and_from _ _ (le-leb (1024 + fresh_length most hs) (length image) c.first.within) refl;
    }

beside : (most : ℕ) (hs : List Header) → IsBeside (second_place most hs) (fresh_length most hs) (live_of (fresh_placing most hs) [])
beside most hs = and_from _ _ (or_right (nat_le (second_place most hs + fresh_length most hs) 1024) (nat_le (1024 + fresh_length most hs) (second_place most hs)) (le-leb (1024 + fresh_length most hs) (second_place most hs) (omega arith))) refl

lost : (f : Feed) (most : ℕ) (hs : List Header) (a b : List ℕ) → CountsSecond most hs a → StaysOutside (second_place most hs) (fresh_length most hs) a b
    → ((m : Manifest) → IsManifest m (bytes_in b (extent_at (second_place most hs) (fresh_length most hs))) → ⊥) → IsSound b f → ⊥
lost f most hs a b c stays none i =
    let counts = counts_same (second_root most hs) a b (same_outside a b (second_place most hs) (fresh_length most hs) 0 1024 stays c.root.1 (inl (omega arith))) c.root.0 in
    none i.placing.manifest (subst (λ (r : Root). IsManifest i.placing.manifest (bytes_in b (root_extent r))) (one_root b i.placing.root (second_root most hs) i.holds.root counts) i.holds.manifest)

-- ---- such an image

abbrev manifest_of : ℕ → List Header → List ℕ
manifest_of most hs = manifest_bytes (bare_manifest (fresh most hs))

abbrev twice : ℕ → List Header → List ℕ
twice most hs = with_bytes (with_bytes [] 1024 (manifest_of most hs)) (second_place most hs) (manifest_of most hs)

slots_length : (n : Root) → length (body_of n ++ (165 ∷ zeros 512)) ≡ 1024
slots_length n = refl

there_is : (most : ℕ) (hs : List Header) → IsLawfulPart (fresh most hs) → (image : List ℕ) × CountsSecond most hs image
there_is most hs l =
    let n = second_root most hs in
    let slots = body_of n ++ (165 ∷ zeros 512) in
    let bs = manifest_of most hs in
    let before = with_bytes [] 1024 bs in
    let image = with_bytes (twice most hs) 0 slots in
    let fit = manifest_fits most hs l in
    let low = limit_low (fresh most hs) l in
    let some = manifest_filled (bare_manifest (fresh most hs)) in
    let root = first_made (twice most hs) n refl (lawful_root 1 (second_place most hs) (fresh_length most hs) (omega arith) (omega arith) (omega arith) (omega (arith, fit, low)) some (omega (arith, fit, low))) in
    let at_first : IsTrue (apart (extent_at (second_place most hs) (length bs)) (extent_at 1024 (length bs))) = or_right (nat_le (second_place most hs + length bs) 1024) (nat_le (1024 + length bs) (second_place most hs)) (le-leb (1024 + length bs) (second_place most hs) (omega arith)) in
    let from_slots : (place : ℕ) → 1024 ≤ place → IsTrue (apart (extent_at 0 (length slots)) (extent_at place (length bs))) = λ place behind. or_left (nat_le (0 + length slots) place) (nat_le (place + length bs) 0) (le-leb (0 + length slots) place (omega (arith, slots_length n, behind))) in
    let high = bytes_stay.long before bs (second_place most hs) in
    let longer = written_length (twice most hs) 0 slots in (
      image,
      record {
        first = record {
          bytes = bytes_stay.written (twice most hs) slots 0 (extent_at 1024 (length bs)) (from_slots 1024 (omega arith)) ∙ bytes_stay.written before bs (second_place most hs) (extent_at 1024 (length bs)) at_first ∙ bytes_stay.there [] bs 1024;
          within = omega (arith, high, longer, slots_length n);
        };
        second = bytes_stay.written (twice most hs) slots 0 (extent_at (second_place most hs) (length bs)) (from_slots (second_place most hs) (omega arith)) ∙ bytes_stay.there before bs (second_place most hs);
        within = omega (arith, high, longer, slots_length n);
        root = root;
      },
    )

pub honest_alone : HonestAlone
honest_alone = record { there_is = there_is; honest = honest; beside = beside; lost = lost }
