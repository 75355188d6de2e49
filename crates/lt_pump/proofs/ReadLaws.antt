-- Bytes that were read ahead, and what is found at their front.
use Rattle.std.proofs.Common.{◌≡◌, ℕ, ◌+◌, ◌-◌, ◌≤◌, true, false, Bool, List, [], ◌∷◌, ◌++◌, length, take, drop, refl, sym, ap, ◌∙◌, subst, arith, append_assoc, append-nil, suc, zero}
use Rattle.std.specs.Prelude.{None, Option, Some, IfSome, ◌↔◌}
use Rattle.std.proofs.lemmas.List.{drop-append-le, drop-drop, drop_at, length-append, length-drop, take-append-drop}
use Rattle.lt_terms.specs.declared.Format.TheVariants as format
use Rattle.lt_world.specs.Feed.{Feed, Grows, stream_bytes}
use Rattle.lt_terms.specs.Log.{Found, IsFound, malformed, partial, spelled, u32, whole}
use Rattle.lt_terms.specs.declared.BadFrame.TheVariants as bad
use Rattle.lt_world.specs.Feed.{FeedGrows, FeedReads}
use Rattle.lt_world.specs.Object.{StaysTold}
use Rattle.lt_codecs.proofs.FoundLaws.{stays_found}
use Rattle.lt_lemmas.proofs.FrontLaws.{bytes_grow}
use Rattle.lt_records.specs.declared.record.Found as records
use Rattle.lt_records.specs.declared.record.Found.TheVariants as found
use Rattle.lt_records.specs.View.{view_found}
use Rattle.lt_pump.proofs.FeedLaws.{told_map, told_step}
use Rattle.lt_pump.specs.Reads.{FoundAhead, IsAhead, IsWhole, More, StandAhead}

drop_more : (at : ℕ) (bytes extra : List ℕ) (b : ℕ) (rest : List ℕ) → drop at bytes ≡ b ∷ rest → drop at (bytes ++ extra) ≡ drop at bytes ++ extra
drop_more at bytes extra b rest e = let l : length (drop at bytes) ≡ length bytes - at = length-drop at bytes in let k : length (drop at bytes) ≡ 1 + length rest = ap length e ∙ omega arith in drop-append-le at bytes extra (omega (arith, l, k))

-- they still stand there in a feed that has grown
pub ahead_grows : (f g : Feed) (s at : ℕ) (bytes : List ℕ) → Grows f g → IsAhead f s at bytes → IsAhead g s at bytes
ahead_grows f g s at [] h a = (drop at (stream_bytes g s), refl)
ahead_grows f g s at (b ∷ bytes) h a =
    let grown = bytes_grow f g h s in
    (a.0 ++ grown.0, ap (drop at) grown.1 ∙ drop_more at (stream_bytes f s) grown.0 b (bytes ++ a.0) a.1 ∙ ap (λ x. x ++ grown.0) a.1 ∙ append_assoc (b ∷ bytes) a.0 grown.0)

-- behind those that are let go, the others stand
pub ahead_skips : (g : Feed) (s at n : ℕ) (bytes : List ℕ) → n ≤ length bytes → IsAhead g s at bytes → IsAhead g s (at + n) (drop n bytes)
ahead_skips g s at n bytes l a = (a.0, sym (drop-drop n at (stream_bytes g s)) ∙ ap (drop n) a.1 ∙ drop-append-le n bytes a.0 l)

-- what was read behind them stands behind them
reads_behind : (g : Feed) (s at n : ℕ) (old new read : List ℕ) → IsAhead g s at old → read ≡ take n (drop (at + length old) (stream_bytes g s)) → new ≡ old ++ read → IsAhead g s at new
reads_behind g s at n old new read a r e =
    let bytes = stream_bytes g s in
    let behind : drop (at + length old) bytes ≡ a.0 = sym (drop-drop (length old) at bytes) ∙ ap (drop (length old)) a.1 ∙ drop_at old a.0 (length old) refl in
    (drop n a.0, a.1 ∙ ap (λ x. old ++ x) (sym (take-append-drop n a.0) ∙ ap (λ x. take n x ++ drop n a.0) (sym behind) ∙ ap (λ x. x ++ drop n a.0) (sym r)) ∙ sym (append_assoc old read (drop n a.0)) ∙ ap (λ x. x ++ drop n a.0) (sym e))

-- where none stands behind them, they are all
reads_all : (g : Feed) (s at : ℕ) (old : List ℕ) → IsAhead g s at old → length (stream_bytes g s) ≤ at + length old → drop at (stream_bytes g s) ≡ old
reads_all g s at old a l =
    let bytes = stream_bytes g s in
    let size : length (drop at bytes) ≡ length old + length a.0 = ap length a.1 ∙ length-append old a.0 in
    let left : length (drop at bytes) ≡ length bytes - at = length-drop at bytes in
    let none : length a.0 ≡ 0 = omega (arith, size, left, l) in
    a.1 ∙ ap (λ x. old ++ x) (empty a.0 none) ∙ append-nil old
  where
    empty : (xs : List ℕ) → length xs ≡ 0 → xs ≡ []
    empty [] e = refl
    empty (x ∷ xs) e = absurd (omega (arith, e))

-- ---- what is found

found_ahead : (g : Feed) (s at : ℕ) (bytes : List ℕ) (x : Found) → (x ≡ partial → ⊥) → IsFound format.One bytes x → IsAhead g s at bytes → FoundAhead g s at bytes x
found_ahead g s at bytes x last h a = record { ahead = a; found = subst (λ b. IsFound format.One b x) (sym a.1) (stays_found format.One bytes a.0 x last h); all = λ e. absurd (last e) }

pub whole_of : (bytes : List ℕ) (x : Found) → IsFound format.One bytes x → IsWhole x bytes
whole_of bytes (whole i n) h = h
whole_of bytes partial h = tt
whole_of bytes (malformed b) h = tt

found_all : (g : Feed) (s at : ℕ) (old new : List ℕ) → IsFound format.One old partial → More false g s at old new → FoundAhead g s at new partial
found_all g s at old new h m = record { ahead = ([], m.1 ∙ sym m.0 ∙ sym (append-nil new)); found = subst (λ b. IsFound format.One b partial) (sym m.1) h; all = λ e. m.1 ∙ sym m.0 }

view_partial : (x : records.Found) → view_found x ≡ partial → x ≡ found.Partial
view_partial (found.Whole i n) e = absurd cc
view_partial found.Partial e = refl
view_partial (found.Malformed b) e = absurd cc

-- in no bytes nothing is found whole, and nothing malformed
none_found : (x : Found) → (x ≡ partial → ⊥) → IsFound format.One [] x → ⊥
unfolding spelled
none_found partial last h = last refl
none_found (whole i zero) last h = let e : [] ≡ spelled i = h.1.spells in absurd cc
none_found (whole i (suc n)) last h = absurd (omega (arith, h.0))
none_found (malformed (bad.Kind k)) last h = absurd (let e : [] ≡ k ∷ h.0 = h.1 in cc)
none_found (malformed (bad.Length l)) last h = absurd (let e : [] ≡ h.0 ∷ (u32 l ++ h.1) = h.5 in cc)
none_found (malformed bad.Body) last h = absurd (let e : [] ≡ h.0 ∷ (u32 h.1 ++ h.2) = h.3.spells in cc)

pub found_in_none : (x : records.Found) → (x ≡ found.Partial → ⊥) → IsFound format.One [] (view_found x) → ⊥
found_in_none x last h = none_found (view_found x) (λ p. last (view_partial x p)) h

pub found_there : (told : Option Feed) (s at : ℕ) (left bytes : List ℕ) (x : records.Found) → (x ≡ found.Partial → ⊥) → bytes ≡ left → IsFound format.One bytes (view_found x) → StandAhead told s at left → IfSome told (λ f. FoundAhead f s at left (view_found x))
found_there told s at left bytes x last e h a = told_map (λ f. IsAhead f s at left) (λ f. FoundAhead f s at left (view_found x)) told a
    (λ f b. found_ahead f s at left (view_found x) (λ p. last (view_partial x p)) (subst (λ y. IsFound format.One y (view_found x)) e h) b)

pub found_short : (told : Option Feed) (s at : ℕ) (old new bytes : List ℕ) (x : records.Found) (b : Bool) → x ≡ found.Partial → bytes ≡ old → IsFound format.One bytes (view_found x) → b ≡ false → IfSome told (λ f. More b f s at old new) → IfSome told (λ f. FoundAhead f s at new partial)
found_short told s at old new bytes x b p e h none m = told_map (λ f. More b f s at old new) (λ f. FoundAhead f s at new partial) told m
    (λ f y. found_all f s at old new (subst (λ z. IsFound format.One z partial) e (subst (λ z. IsFound format.One bytes (view_found z)) p h)) (subst (λ z. More z f s at old new) none y))

-- ---- one read behind the bytes: it gives none, or some

pub more_none : (told told' : Option Feed) (s at n : ℕ) (old piece : List ℕ) → StaysTold told told' → FeedGrows told told' → StandAhead told s at old → FeedReads told' s (at + length old) piece n → n ≡ 0 → IfSome told' (λ f. More false f s at old old)
more_none told told' s at n old piece t h a r none =
    told_step (λ f. IsAhead f s at old) (λ f. (take n piece ≡ take n (drop (at + length old) (stream_bytes f s))) × ((n ≡ 0) ↔ (length (stream_bytes f s) ≤ at + length old))) (λ f. More false f s at old old) told told' t h a r
    (λ f g grows b read. (refl, reads_all g s at old (ahead_grows f g s at old grows b) (read.1.0 none)))

pub more_some : (told told' : Option Feed) (s at n : ℕ) (old new read piece : List ℕ) → StaysTold told told' → FeedGrows told told' → StandAhead told s at old → FeedReads told' s (at + length old) piece n → read ≡ take n piece → new ≡ old ++ read → IfSome told' (λ f. More true f s at old new)
more_some told told' s at n old new read piece t h a r e is =
    told_step (λ f. IsAhead f s at old) (λ f. (take n piece ≡ take n (drop (at + length old) (stream_bytes f s))) × ((n ≡ 0) ↔ (length (stream_bytes f s) ≤ at + length old))) (λ f. More true f s at old new) told told' t h a r
    (λ f g grows b got. reads_behind g s at n old new read (ahead_grows f g s at old grows b) (e ∙ got.0) is)

pub more_ahead : (told : Option Feed) (s at : ℕ) (old new : List ℕ) (b : Bool) → b ≡ true → IfSome told (λ f. More b f s at old new) → StandAhead told s at new
more_ahead told s at old new b e m = told_map (λ f. More b f s at old new) (λ f. IsAhead f s at new) told m (λ f y. subst (λ z. More z f s at old new) e y)

-- no bytes stand anywhere
pub stand_none : (told : Option Feed) (s at : ℕ) → StandAhead told s at []
stand_none None s at = tt
stand_none (Some f) s at = (drop at (stream_bytes f s), refl)
