-- Which bytes of an image a write changes.
use Rattle.std.proofs.Common.{List, ap, arith, drop, get_or, inl, inr, length, length-append, length-drop, length-take, refl, sym, take, zero-add, ℕ, ◌+◌, ◌-◌, ◌++◌, ◌<◌, ◌∙◌, ◌≡◌, ◌≤◌, ◌⊎◌}
use Rattle.std.proofs.lemmas.Bool.{cases_lt}
use Rattle.std.proofs.lemmas.List.{ext_get_or, get_or-append_right, get_or-drop, get_or-replicate, get_or-take, get_or_append_left, get_or_past, length-replicate, take-append-le}
use Rattle.lt_world.specs.Disk.{StaysOutside, Torn, bytes_at, with_bytes, zeros}

-- ---- bytes at a place

padded : (image : List ℕ) (n i : ℕ) → get_or (image ++ zeros n) i 0 ≡ get_or image i 0
padded image n i = elim (cases_lt i (length image)) [
  | inl within ↦ get_or_append_left image (zeros n) 0 i within
  | inr past ↦ get_or-append_right image (zeros n) (length image) i 0 refl past ∙ zero_at n (i - length image) ∙ sym (get_or_past image i 0 past)
]
  where
    zero_at : (n k : ℕ) → get_or (zeros n) k 0 ≡ 0
    zero_at n k = elim (cases_lt k n) [ inl within ↦ get_or-replicate n k 0 0 within | inr past ↦ get_or_past (zeros n) k 0 (omega (arith, length-replicate {A = ℕ} n 0, past)) ]

pub bytes_length : (image : List ℕ) (place len : ℕ) → length (bytes_at image place len) ≡ len
bytes_length image place len = omega (arith, length-take len (drop place image ++ zeros len), length-append (drop place image) (zeros len), length-replicate {A = ℕ} len 0)

pub byte_at : (image : List ℕ) (place len k : ℕ) → k < len → get_or (bytes_at image place len) k 0 ≡ get_or image (place + k) 0
byte_at image place len k within = get_or-take len (drop place image ++ zeros len) k 0 within ∙ padded (drop place image) len k ∙ get_or-drop place image k 0

-- as a slice of the image has them
pub bytes_within : (image : List ℕ) (place len : ℕ) → place + len ≤ length image → take len (drop place image) ≡ bytes_at image place len
bytes_within image place len within = sym (take-append-le len (drop place image) (zeros len) (omega (arith, length-drop place image, within)))

pub same_bytes : (a b : List ℕ) (place len : ℕ) → ((i : ℕ) → place ≤ i → i < place + len → get_or b i 0 ≡ get_or a i 0) → bytes_at b place len ≡ bytes_at a place len
same_bytes a b place len same = ext_get_or 0 (bytes_at b place len) (bytes_at a place len) (bytes_length b place len ∙ sym (bytes_length a place len)) (λ k within.
    let inside : k < len = omega (arith, within, bytes_length b place len) in
    byte_at b place len k inside ∙ same (place + k) (omega arith) (omega (arith, inside)) ∙ sym (byte_at a place len k inside))

-- ---- a write

front_length : (image : List ℕ) (place : ℕ) → length (bytes_at image 0 place) ≡ place
front_length image place = bytes_length image 0 place

pub written_length : (image : List ℕ) (place : ℕ) (bs : List ℕ) → length (with_bytes image place bs) ≡ place + (length bs + (length image - (place + length bs)))
written_length image place bs = omega (arith, length-append (bytes_at image 0 place) (bs ++ drop (place + length bs) image), front_length image place, length-append bs (drop (place + length bs) image), length-drop (place + length bs) image)

pub written_outside : (image : List ℕ) (place : ℕ) (bs : List ℕ) (i : ℕ) → (i < place) ⊎ (place + length bs ≤ i) → get_or (with_bytes image place bs) i 0 ≡ get_or image i 0
written_outside image place bs i (inl before) =
    get_or_append_left (bytes_at image 0 place) (bs ++ drop (place + length bs) image) 0 i (omega (arith, before, front_length image place)) ∙ byte_at image 0 place i before ∙ ap (λ n. get_or image n 0) (zero-add i)
written_outside image place bs i (inr behind) =
    get_or-append_right (bytes_at image 0 place) (bs ++ drop (place + length bs) image) place i 0 (front_length image place) (omega (arith, behind))
    ∙ get_or-append_right bs (drop (place + length bs) image) (length bs) (i - place) 0 refl (omega (arith, behind))
    ∙ get_or-drop (place + length bs) image (i - place - length bs) 0
    ∙ ap (λ n. get_or image n 0) (let e : place + length bs + (i - place - length bs) ≡ i = omega (arith, behind) in e)

pub written_inside : (image : List ℕ) (place : ℕ) (bs : List ℕ) (k : ℕ) → k < length bs → get_or (with_bytes image place bs) (place + k) 0 ≡ get_or bs k 0
written_inside image place bs k within =
    get_or-append_right (bytes_at image 0 place) (bs ++ drop (place + length bs) image) place (place + k) 0 (front_length image place) (omega arith)
    ∙ get_or_append_left bs (drop (place + length bs) image) 0 (place + k - place) (omega (arith, within))
    ∙ ap (λ n. get_or bs n 0) (let e : place + k - place ≡ k = omega arith in e)

pub bytes_written : (image : List ℕ) (place : ℕ) (bs : List ℕ) → bytes_at (with_bytes image place bs) place (length bs) ≡ bs
bytes_written image place bs = ext_get_or 0 (bytes_at (with_bytes image place bs) place (length bs)) bs (bytes_length (with_bytes image place bs) place (length bs)) (λ k within.
    let inside : k < length bs = omega (arith, within, bytes_length (with_bytes image place bs) place (length bs)) in
    byte_at (with_bytes image place bs) place (length bs) k inside ∙ written_inside image place bs k inside)

-- ---- what stays outside a range

pub stays_itself : (image : List ℕ) (place len : ℕ) → StaysOutside place len image image
stays_itself image place len = record { longer = omega arith; others = λ i within out. refl }

pub stays_written : (image : List ℕ) (place : ℕ) (bs : List ℕ) → StaysOutside place (length bs) image (with_bytes image place bs)
stays_written image place bs = record { longer = omega (arith, written_length image place bs); others = λ i within out. written_outside image place bs i out }

pub stays_torn : (a b : List ℕ) (place len : ℕ) → Torn place len a b → StaysOutside place len a b
stays_torn a b place len torn = record { longer = torn.longer; others = torn.others }

-- one step, and then another
pub stays_on : (a b c : List ℕ) (place len : ℕ) → StaysOutside place len a b → StaysOutside place len b c → StaysOutside place len a c
stays_on a b c place len first second = record {
  longer = omega (arith, first.longer, second.longer);
  others = λ i within out. second.others i (omega (arith, within, first.longer)) out ∙ first.others i within out;
}

pub stays_wider : (a b : List ℕ) (place len from size : ℕ) → from ≤ place → place + len ≤ from + size → StaysOutside place len a b → StaysOutside from size a b
stays_wider a b place len from size low high stays = record {
  longer = stays.longer;
  others = λ i within out. stays.others i within (elim out [ inl before ↦ inl (omega (arith, before, low)) | inr behind ↦ inr (omega (arith, behind, high)) ]);
}
