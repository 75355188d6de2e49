-- What a gate that was read says, and the images while it is closed.
use Rattle.std.proofs.Common.{List, None, Option, Some, add-zero, ap, arith, get_or, inr, length, subst, sym, ℕ, ◌∙◌, ◌≡◌}
use Rattle.std.specs.Prelude.{IfSome, IsTrue}
use Rattle.std.proofs.lemmas.Bool.{eq-eqb}
use Rattle.lt_world.specs.Disk.{DiskState, Reads, StaysOutside}
use Rattle.lt_world.specs.Slots.{gate_of, is_open, open_gate}
use Rattle.lt_disk.proofs.Written.{byte_at}
use Rattle.lt_root.specs.Roots.{gate_place}
use Rattle.lt_root.specs.Steps.{IsClosing}
use Rattle.lt_disk.specs.Within.{IsWithin}

-- the gate as a disk reads it
pub gate_read : (told : Option (List ℕ)) (slot place : ℕ) (buf : List ℕ) → place ≡ gate_place slot → length buf ≡ 1 → Reads told place buf → IfSome told (λ image. gate_of image slot ≡ get_or buf 0 0)
gate_read None slot place buf there size reads = tt
gate_read (Some image) slot place buf there size reads =
    ap (λ n. get_or image n 0) (sym there ∙ sym (add-zero place)) ∙ sym (byte_at image place (length buf) 0 (omega (arith, size))) ∙ ap (λ l. get_or l 0 0) (sym reads)

pub open_read : (told : Option (List ℕ)) (slot place : ℕ) (buf : List ℕ) → place ≡ gate_place slot → length buf ≡ 1 → Reads told place buf → get_or buf 0 0 ≡ 165 → IfSome told (λ image. IsTrue (is_open image slot))
open_read None slot place buf there size reads gate = tt
open_read (Some image) slot place buf there size reads gate = eq-eqb (gate_of image slot) open_gate (gate_read (Some image) slot place buf there size reads ∙ gate)

-- an image that differs by the gate alone
pub closing : (old mid : DiskState) (slot place len : ℕ) (image : List ℕ) → ((c : List ℕ) → mid.leaves c → old.leaves c) → IfSome old.told (λ t. IsTrue (is_open t slot)) → place ≡ gate_place slot → len ≡ 1
    → IsWithin mid place len image → IsClosing old slot image
closing old mid slot place len image fewer gate there one (a, left, stays) =
    (a, fewer a left, inr (gate, subst (λ p. StaysOutside p 1 a image) there (subst (λ n. StaysOutside place n a image) one stays)))
