-- What an image is once a first manifest and its root were written.
use Rattle.std.proofs.Common.{List, [], Some, ap, arith, is_some, length, map, refl, subst, sym, ℕ, ◌+◌, ◌∙◌, ◌∷◌, ◌≡◌, ◌≤◌}
use Rattle.std.specs.Prelude.{nat_le}
use Rattle.std.proofs.lemmas.Bool.{or_left}
use Rattle.lt_terms.specs.Log.{Header}
use Rattle.lt_world.specs.Disk.{LeavesNow, bytes_in, with_bytes}
use Rattle.lt_world.specs.Slots.{HasRoot}
use Rattle.lt_storage.specs.Store.{bare_manifest, manifest_bytes}
use Rattle.lt_machine.specs.Machine.{fresh}
use Rattle.lt_machine.specs.Sound.{low_bounds}
use Rattle.lt_disk.specs.Within.{IsStable, ReadsWithin}
use Rattle.lt_disk.proofs.Moments.{Device, told_outside}
use Rattle.lt_root.specs.Roots.{first_root}
use Rattle.lt_image_laws.specs.Bytes.{extent_at}
use Rattle.lt_image_laws.proofs.Bytes.{bytes_stay}
use Rattle.lt_image_laws.proofs.OnDisk.{stable_is}
use Rattle.lt_store.specs.Making.{HasMade, IsFirst, bare_stream, fresh_manifest}
use Rattle.lt_store.proofs.Replacing.{some_there}

module _ {D : Type 0} (v : Device D) (mid new : D) (bytes before : List ℕ) (tells : (v.state mid).told ≡ Some (with_bytes before 1024 bytes)) where
  pub first_made : ReadsWithin 0 1024 (v.state mid) (v.state new) → IsStable (v.state new) → LeavesNow (v.state new) (HasRoot (first_root 1024 (length bytes))) → LeavesNow (v.state new) (IsFirst bytes)
  first_made reads stable root c left =
      let seen = with_bytes before 1024 bytes in
      let there = some_there (v.state new).told (reads.0.0 (ap is_some tells)) in
      let outside = told_outside 0 1024 (v.state mid) (v.state new) seen there.0 tells there.1 reads in
      let e = extent_at 1024 (length bytes) in
      let long : 1024 + length bytes ≤ length seen = bytes_stay.long before bytes 1024 in
      let same : bytes_in there.0 e ≡ bytes_in seen e = bytes_stay.outside seen there.0 0 1024 e outside (or_left (nat_le 1024 1024) (nat_le (1024 + length bytes) 0) refl) long in
      let holds : (bytes_in there.0 e ≡ bytes) × (1024 + length bytes ≤ length there.0) = (same ∙ bytes_stay.there before bytes 1024, omega (arith, long, outside.longer)) in
      let now = stable_is v new there.0 (λ image. (bytes_in image e ≡ bytes) × (1024 + length bytes ≤ length image)) there.1 stable holds c left in
      record { root = root c left; bytes_are = now.0; within = now.1 }

entries : (hs : List Header) → map bare_stream (low_bounds hs) ≡ (fresh 0 hs).streams
entries [] = refl
entries (h ∷ hs) = ap (λ ss. bare_stream h.range.low ∷ ss) (entries hs)

-- the manifest of streams with the headers' bounds
manifest_is : (limit : ℕ) (hs : List Header) (lows : List (List ℕ)) → low_bounds hs ≡ lows → fresh_manifest limit lows ≡ bare_manifest (fresh limit hs)
manifest_is limit hs lows is = ap (fresh_manifest limit) (sym is) ∙ ap (λ ss. record (bare_manifest (fresh limit hs)) { streams = ss }) (entries hs)

pub made : (limit : ℕ) (hs : List Header) (lows : List (List ℕ)) (bytes image : List ℕ) → low_bounds hs ≡ lows → bytes ≡ manifest_bytes (fresh_manifest limit lows) → IsFirst bytes image → HasMade limit hs image
made limit hs lows bytes image is spelled first =
    let same : bytes ≡ manifest_bytes (bare_manifest (fresh limit hs)) = spelled ∙ ap manifest_bytes (manifest_is limit hs lows is) in
    let at : IsFirst (manifest_bytes (bare_manifest (fresh limit hs))) image = subst (λ b. IsFirst b image) same first in
    record { fresh = record { bytes = at.bytes_are; within = at.within }; root = at.root }
