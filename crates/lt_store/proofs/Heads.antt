-- The first bytes of a manifest state its limit.
use Rattle.std.proofs.Common.{List, ap, arith, drop, leb-true, length, length-append, length-take, refl, sym, take, ℕ, ◌++◌, ◌<◌, ◌∙◌, ◌≡◌, ◌≤◌}
use Rattle.std.specs.Prelude.{IsTrue, codes, nat_le, ◌^◌}
use Rattle.std.specs.Int.{from_be_bytes, w64}
use Rattle.std.proofs.lemmas.Bool.{and_parts}
use Rattle.std.proofs.lemmas.List.{ext_get_or, get_or-take, length-take-le, take_all, take_at}
use Rattle.std.proofs.lemmas.Nat.{from_be_bytes-to_be_bytes_8}
use Rattle.lt_terms.specs.declared.Extent.{Extent}
use Rattle.lt_terms.specs.Log.{u64}
use Rattle.lt_world.specs.Disk.{bytes_at, bytes_in}
use Rattle.lt_storage.specs.Store.{IsManifest, Manifest, counted32, delta_entry_bytes, is_limit, manifest_bytes, part_entry_bytes, stream_entry_bytes, table_bytes}
use Rattle.lt_disk.proofs.Written.{byte_at, bytes_length}

-- the first of more bytes
front_of : (image : List ℕ) (place n k : ℕ) → n ≤ k → bytes_at image place n ≡ take n (bytes_at image place k)
front_of image place n k few =
    ext_get_or 0 (bytes_at image place n) (take n (bytes_at image place k)) (bytes_length image place n ∙ sym (length-take-le n (bytes_at image place k) (omega (arith, few, bytes_length image place k)))) (λ i within.
    let inside : i < n = omega (arith, within, bytes_length image place n) in
    byte_at image place n i inside ∙ sym (byte_at image place k i (omega (arith, inside, few))) ∙ sym (get_or-take n (bytes_at image place k) i 0 inside))

-- what stands behind the limit
behind_limit : Manifest → List ℕ
behind_limit m = u64 m.minimum ++ (u64 m.next_id ++ (counted32 table_bytes m.catalogue ++ (counted32 stream_entry_bytes m.streams ++ (counted32 part_entry_bytes m.parts ++ counted32 delta_entry_bytes m.deltas))))

spelled_so : (m : Manifest) → manifest_bytes m ≡ codes "LTM1" ++ (u64 m.limit ++ behind_limit m)
unfolding manifest_bytes behind_limit
spelled_so m = refl

limit_back : (limit : ℕ) (rest : List ℕ) → limit < 2 ^ 64 → from_be_bytes w64 (take 8 (drop 4 (take 12 (codes "LTM1" ++ (u64 limit ++ rest))))) ≡ limit
limit_back limit rest fits =
    ap (from_be_bytes w64) (take_all 8 (take 8 (u64 limit ++ rest)) (omega (arith, length-take 8 (u64 limit ++ rest))) ∙ take_at (u64 limit) rest 8 refl) ∙ from_be_bytes-to_be_bytes_8 limit fits

fits_so : (n : ℕ) → IsTrue (is_limit n) → n < 2 ^ 64
fits_so n is = omega (arith, leb-true n (2 ^ 40) (and_parts (nat_le (2 ^ 20) n) (nat_le n (2 ^ 40)) is).1)

-- what the first bytes of a manifest say is its limit
pub limit_stated : (image head : List ℕ) (at : Extent) (n : ℕ) (m : Manifest) → length head ≡ 12 → head ≡ bytes_at image at.place (length head) → n ≡ from_be_bytes w64 (take 8 (drop 4 head)) → IsManifest m (bytes_in image at) → n ≡ m.limit
limit_stated image head at n m size reads says is =
    let all : bytes_at image at.place at.length ≡ codes "LTM1" ++ (u64 m.limit ++ behind_limit m) = is.spells ∙ spelled_so m in
    let long : 12 ≤ at.length = omega (arith, bytes_length image at.place at.length, ap length all, length-append (codes "LTM1") (u64 m.limit ++ behind_limit m), length-append (u64 m.limit) (behind_limit m)) in
    let first : head ≡ take 12 (codes "LTM1" ++ (u64 m.limit ++ behind_limit m)) = reads ∙ ap (bytes_at image at.place) size ∙ front_of image at.place 12 at.length long ∙ ap (take 12) all in
    says ∙ ap (λ xs. from_be_bytes w64 (take 8 (drop 4 xs))) first ∙ limit_back m.limit (behind_limit m) (fits_so m.limit is.lawful.limit)
