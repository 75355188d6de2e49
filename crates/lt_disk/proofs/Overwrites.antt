-- A write over a file that was made long enough, and a read past the end.
use Rattle.std.proofs.Common.{List, [], ap, append-nil, arith, drop, inl, inr, length, length-append, min, refl, suc, sym, take, zero, ℕ, ◌++◌, ◌+◌, ◌-◌, ◌∙◌, ◌∷◌, ◌≡◌, ◌≤◌}
use Rattle.std.proofs.lemmas.Bool.{cases_lt}
use Rattle.std.proofs.lemmas.List.{drop_all, length-replicate, take-append-le, take-replicate, take_all}
use Rattle.lt_world.specs.Disk.{bytes_at, with_bytes, zeros}

-- how many zeros stand behind does not matter, where they are enough
take_zeros : (n : ℕ) (xs : List ℕ) (j k : ℕ) → n ≤ length xs + j → n ≤ length xs + k → take n (xs ++ zeros j) ≡ take n (xs ++ zeros k)
take_zeros n [] j k p q = take-replicate n j 0 (omega (arith, p)) ∙ sym (take-replicate n k 0 (omega (arith, q)))
take_zeros zero (x ∷ xs) j k p q = refl
take_zeros (suc n) (x ∷ xs) j k p q = ap (λ l. x ∷ l) (take_zeros n xs j k (omega (arith, p)) (omega (arith, q)))

drop_zeros : (end : ℕ) (xs : List ℕ) → drop end (xs ++ zeros (end - length xs)) ≡ drop end xs
drop_zeros end xs = elim (cases_lt end (length xs)) [
  | inl lt ↦ ap (λ n. drop end (xs ++ zeros n)) (let e : end - length xs ≡ 0 = omega (arith, lt) in e) ∙ ap (drop end) (append-nil xs)
  | inr le ↦ drop_all end (xs ++ zeros (end - length xs)) (omega (arith, le, length-append xs (zeros (end - length xs)), length-replicate {A = ℕ} (end - length xs) 0)) ∙ sym (drop_all end xs le)
]

-- the file, grown to the end of the range, with the range written over
pub overwritten : (old grown bs new : List ℕ) (place : ℕ) → grown ≡ old ++ zeros (place + length bs - length old) → new ≡ take place grown ++ (bs ++ drop (place + length bs) grown)
    → new ≡ with_bytes old place bs
overwritten old grown bs new place is put =
    let end = place + length bs in
    put
    ∙ ap (λ l. take place l ++ (bs ++ drop end l)) is
    ∙ ap (λ l. l ++ (bs ++ drop end (old ++ zeros (end - length old)))) (take_zeros place old (end - length old) place (omega arith) (omega arith))
    ∙ ap (λ l. take place (old ++ zeros place) ++ (bs ++ l)) (drop_zeros end old)

same_rest : (bytes : List ℕ) (place start : ℕ) → start ≡ min (length bytes) place → drop start bytes ≡ drop place bytes
same_rest bytes place start from = elim (cases_lt place (length bytes)) [
  | inl lt ↦ ap (λ n. drop n bytes) (let e : start ≡ place = omega (arith, from, lt) in e)
  | inr le ↦ drop_all start bytes (omega (arith, from, le)) ∙ sym (drop_all place bytes le)
]

front_and_zeros : (rest : List ℕ) (len n : ℕ) → n ≡ min (length rest) len → take n rest ++ zeros (len - n) ≡ take len (rest ++ zeros len)
front_and_zeros rest len n is = elim (cases_lt (length rest) len) [
  | inl lt ↦
      let all : n ≡ length rest = omega (arith, is, lt) in
      let enough : len ≡ length rest + (len - n) = omega (arith, all, lt) in
      ap (λ l. l ++ zeros (len - n)) (take_all n rest (omega (arith, all)))
      ∙ sym (take_all len (rest ++ zeros (len - n)) (omega (arith, enough, length-append rest (zeros (len - n)), length-replicate {A = ℕ} (len - n) 0)))
      ∙ take_zeros len rest (len - n) len (omega (arith, enough)) (omega arith)
  | inr le ↦
      let whole : n ≡ len = omega (arith, is, le) in
      let none : len - n ≡ 0 = omega (arith, whole) in
      ap (λ k. take n rest ++ zeros k) none ∙ append-nil (take n rest) ∙ ap (λ k. take k rest) whole ∙ sym (take-append-le len rest (zeros len) le)
]

-- the bytes from a place on, and 0 past their end
pub filled : (bytes front back : List ℕ) (place start n len : ℕ) → start ≡ min (length bytes) place → n ≡ min (length (drop start bytes)) len → front ≡ take n (drop start bytes) → back ≡ zeros (len - n)
    → front ++ back ≡ bytes_at bytes place len
filled bytes front back place start n len from is first behind =
    ap (λ l. l ++ back) first ∙ ap (λ l. take n (drop start bytes) ++ l) behind ∙ front_and_zeros (drop start bytes) len n is ∙ ap (λ l. take len (l ++ zeros len)) (same_rest bytes place start from)
