-- What holds of every history: the laws of a disk's clock and of its images.
use Rattle.std.proofs.Common.{List, [], ap, arith, drop, get_or, inl, inr, length, length-append, length-drop, length-take, refl, subst, suc, sym, take, true, false, zero, ℕ, ◌++◌, ◌+◌, ◌-◌, ◌∙◌, ◌∷◌, ◌≡◌, ◌≤◌}
use Rattle.std.proofs.lemmas.List.{get_or-append_right, get_or-drop, get_or-take, get_or_append_left, length-replicate}
use Rattle.lt_world.specs.Disk.{AreBytes, Elapses, Torn, bytes_at, with_bytes, zeros}
use Rattle.lt_disk.specs.declared.history.Event.{Event}
use Rattle.lt_disk.specs.declared.history.Event.TheVariants.{Sync, Write}
use Rattle.lt_disk.specs.History.{HoldBytes, LeftSince, MayLeave, replay}

-- ---- bytes

pub bytes_append : (xs ys : List ℕ) → AreBytes xs → AreBytes ys → AreBytes (xs ++ ys)
bytes_append [] ys p q i = q i
bytes_append (x ∷ xs) ys p q zero = p zero
bytes_append (x ∷ xs) ys p q (suc i) = bytes_append xs ys (λ k. p (suc k)) q i

pub bytes_take : (n : ℕ) (xs : List ℕ) → AreBytes xs → AreBytes (take n xs)
bytes_take zero xs p i = omega arith
bytes_take (suc n) [] p i = omega arith
bytes_take (suc n) (x ∷ xs) p zero = p zero
bytes_take (suc n) (x ∷ xs) p (suc i) = bytes_take n xs (λ k. p (suc k)) i

pub bytes_drop : (n : ℕ) (xs : List ℕ) → AreBytes xs → AreBytes (drop n xs)
bytes_drop zero xs p = p
bytes_drop (suc n) [] p = p
bytes_drop (suc n) (x ∷ xs) p = bytes_drop n xs (λ k. p (suc k))

pub bytes_zeros : (n : ℕ) → AreBytes (zeros n)
bytes_zeros zero i = omega arith
bytes_zeros (suc n) zero = omega arith
bytes_zeros (suc n) (suc i) = bytes_zeros n i

pub bytes_with : (image bs : List ℕ) (place : ℕ) → AreBytes image → AreBytes bs → AreBytes (with_bytes image place bs)
bytes_with image bs place p q =
    bytes_append (bytes_at image 0 place) (bs ++ drop (place + length bs) image) (bytes_take place (image ++ zeros place) (bytes_append image (zeros place) p (bytes_zeros place)))
    (bytes_append bs (drop (place + length bs) image) q (bytes_drop (place + length bs) image p))

-- ---- a write, as one that a crash tears

pub torn_itself : (image : List ℕ) (place len : ℕ) → AreBytes image → Torn place len image image
torn_itself image place len p = record { bytes = p; longer = omega arith; others = λ i within out. refl }

length-front : (image : List ℕ) (place : ℕ) → length (bytes_at image 0 place) ≡ place
length-front image place = omega (arith, length-take place (image ++ zeros place), length-append image (zeros place), length-replicate {A = ℕ} place 0)

-- fewer bytes may be written than the range has
pub torn_by_part : (image bs : List ℕ) (place len : ℕ) → length bs ≤ len → AreBytes image → AreBytes bs → Torn place len image (with_bytes image place bs)
torn_by_part image bs place len fewer p q = record {
  bytes = bytes_with image bs place p q;
  longer = omega (arith, length-front image place, length-append (bytes_at image 0 place) (bs ++ drop (place + length bs) image), length-append bs (drop (place + length bs) image), length-drop (place + length bs) image);
  others = λ i within out. elim out [
    | inl before ↦
        get_or_append_left (bytes_at image 0 place) (bs ++ drop (place + length bs) image) 0 i (omega (arith, before, length-front image place))
        ∙ get_or-take place (image ++ zeros place) i 0 before
        ∙ get_or_append_left image (zeros place) 0 i within
    | inr behind ↦
        get_or-append_right (bytes_at image 0 place) (bs ++ drop (place + length bs) image) place i 0 (length-front image place) (omega (arith, behind))
        ∙ get_or-append_right bs (drop (place + length bs) image) (length bs) (i - place) 0 refl (omega (arith, behind, fewer))
        ∙ get_or-drop (place + length bs) image (i - place - length bs) 0
        ∙ ap (λ k. get_or image k 0) (let e : place + length bs + (i - place - length bs) ≡ i = omega (arith, behind, fewer) in e)
  ];
}

pub torn_by_write : (image bs : List ℕ) (place : ℕ) → AreBytes image → AreBytes bs → Torn place (length bs) image (with_bytes image place bs)
torn_by_write image bs place p q = torn_by_part image bs place (length bs) (omega arith) p q

-- ---- what reads is one of the images, and all of them are bytes

pub replay_bytes : (first : List ℕ) (events : List Event) → HoldBytes first events → AreBytes (replay first events)
replay_bytes first [] hold = hold.0
replay_bytes first (Write place bs true ∷ earlier) hold = bytes_with (replay first earlier) bs place (replay_bytes first earlier (hold.0, hold.1.1)) hold.1.0
replay_bytes first (Write place bs false ∷ earlier) hold = replay_bytes first earlier (hold.0, hold.1.1)
replay_bytes first (Sync ∷ earlier) hold = replay_bytes first earlier (hold.0, hold.1.1)

pub replay_is_image : (first : List ℕ) (events : List Event) → HoldBytes first events → MayLeave first events (replay first events)
replay_is_image first [] hold = refl
replay_is_image first (Write place bs true ∷ earlier) hold =
    let before : HoldBytes first earlier = (hold.0, hold.1.1) in
    (replay first earlier, replay_is_image first earlier before, torn_by_write (replay first earlier) bs place (replay_bytes first earlier before) hold.1.0)
replay_is_image first (Write place bs false ∷ earlier) hold =
    let before : HoldBytes first earlier = (hold.0, hold.1.1) in
    (replay first earlier, replay_is_image first earlier before, torn_itself (replay first earlier) place (length bs) (replay_bytes first earlier before))
replay_is_image first (Sync ∷ earlier) hold = refl

pub images_are_bytes : (first : List ℕ) (events : List Event) (c : List ℕ) → HoldBytes first events → MayLeave first events c → AreBytes c
images_are_bytes first [] c hold is = subst AreBytes (sym is) hold.0
images_are_bytes first (Write place bs taken ∷ earlier) c hold image = image.2.bytes
images_are_bytes first (Sync ∷ earlier) c hold is = subst AreBytes (sym is) (replay_bytes first earlier (hold.0, hold.1.1))

-- ---- the clock

pub counts_now : (first : List ℕ) (events : List Event) (t : ℕ) (c : List ℕ) → t ≤ length events → MayLeave first events c → LeftSince first events t c
counts_now first [] t c le now = (le, now)
counts_now first (e ∷ earlier) t c le now = inl (le, now)

not_later : (first : List ℕ) (events : List Event) (t : ℕ) (c : List ℕ) → LeftSince first events t c → t ≤ length events
not_later first [] t c left = left.0
not_later first (e ∷ earlier) t c (inl now) = now.0
not_later first (e ∷ earlier) t c (inr left) = omega (arith, not_later first earlier t c left)

pub only_now : (first : List ℕ) (events : List Event) (c : List ℕ) → LeftSince first events (length events) c → MayLeave first events c
only_now first [] c left = left.1
only_now first (e ∷ earlier) c (inl now) = now.1
only_now first (e ∷ earlier) c (inr left) = absurd (omega (arith, not_later first earlier (suc (length earlier)) c left))

pub time_stands : (n : ℕ) (since : ℕ → List ℕ → Type 0) (may_leave : List ℕ → Type 0) → Elapses n n since since may_leave
time_stands n since may_leave = record { later = omega arith; nothing_else = λ t c le left. inl left; keeps = λ t c le left. left }

pub time_goes_on : (first : List ℕ) (e : Event) (earlier : List Event)
    → Elapses (length earlier) (length (e ∷ earlier)) (LeftSince first earlier) (LeftSince first (e ∷ earlier)) (MayLeave first (e ∷ earlier))
time_goes_on first e earlier = record {
  later = omega arith;
  nothing_else = λ t c le left. elim left [ inl now ↦ inr now.1 | inr past ↦ inl past ];
  keeps = λ t c le past. inr past;
}
