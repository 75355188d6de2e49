-- Lines of a script that comes byte by byte: those that were ended, and the open one.
use Rattle.std.proofs.Common.{◌≡◌, ℕ, ◌-◌, ◌<◌, Bool, true, false, List, [], ◌∷◌, ◌++◌, length, take, refl, sym, ap, ◌∙◌, arith}
use Rattle.std.specs.Prelude.{cond, suc, ◌==◌}
use Rattle.lt_words.specs.Script.{pieces, script_lines, with_byte}
use Rattle.lt_machine.specs.Run.{lines_ended}
use Rattle.lightning_cli.specs.Serving.{last_of_all, open_line}

-- ---- the last piece, and those before it

abbrev pub but_last : List (List ℕ) → List (List ℕ)
but_last [] = []
but_last (p ∷ []) = []
but_last (p ∷ q ∷ ps) = p ∷ but_last (q ∷ ps)

-- the list with a piece at its end that goes on by some bytes
abbrev pub with_last : List (List ℕ) → List ℕ → List (List ℕ)
with_last [] more = more ∷ []
with_last (p ∷ []) more = (p ++ more) ∷ []
with_last (p ∷ q ∷ ps) more = p ∷ with_last (q ∷ ps) more

some_pieces : (line : List ℕ) → 0 < length (pieces 10 line)
some_pieces [] = omega arith
some_pieces (b ∷ line) = parted (b == 10) (pieces 10 line)
  where
    parted : (t : Bool) (ps : List (List ℕ)) → 0 < length (cond t ([] ∷ ps) (with_byte b ps))
    parted true ps = omega arith
    parted false [] = omega arith
    parted false (p ∷ ps) = omega arith

but_last_is : (ps : List (List ℕ)) → take (length ps - 1) ps ≡ but_last ps
but_last_is [] = refl
but_last_is (p ∷ []) = refl
but_last_is (p ∷ q ∷ ps) = let e : length (p ∷ q ∷ ps) - 1 ≡ suc (length (q ∷ ps) - 1) = omega arith in ap (λ n. take n (p ∷ q ∷ ps)) e ∙ ap (λ x. p ∷ x) (but_last_is (q ∷ ps))

pub ended_is : (bytes : List ℕ) → lines_ended bytes ≡ but_last (pieces 10 bytes)
ended_is bytes = but_last_is (pieces 10 bytes)

parts_join : (ps : List (List ℕ)) → 0 < length ps → ps ≡ but_last ps ++ last_of_all ps ∷ []
parts_join [] h = absurd (omega (arith, h))
parts_join (p ∷ []) h = refl
parts_join (p ∷ q ∷ ps) h = ap (λ x. p ∷ x) (parts_join (q ∷ ps) (omega arith))

-- all lines are the ended ones and the open one
pub all_lines : (bytes : List ℕ) → script_lines bytes ≡ lines_ended bytes ++ open_line bytes ∷ []
all_lines bytes = parts_join (pieces 10 bytes) (some_pieces bytes) ∙ ap (λ x. x ++ open_line bytes ∷ []) (sym (ended_is bytes))

-- ---- one more byte

with_byte_last : (b : ℕ) (ps : List (List ℕ)) (more : List ℕ) → 0 < length ps → with_byte b (with_last ps more) ≡ with_last (with_byte b ps) more
with_byte_last b [] more h = absurd (omega (arith, h))
with_byte_last b (p ∷ []) more h = refl
with_byte_last b (p ∷ q ∷ ps) more h = refl

empty_last : (ps : List (List ℕ)) (more : List ℕ) → 0 < length ps → [] ∷ with_last ps more ≡ with_last ([] ∷ ps) more
empty_last [] more h = absurd (omega (arith, h))
empty_last (p ∷ ps) more h = refl

go_on : (c : ℕ) (ps qs : List (List ℕ)) (t : Bool) (more : List ℕ) → 0 < length ps → qs ≡ with_last ps more → cond t ([] ∷ qs) (with_byte c qs) ≡ with_last (cond t ([] ∷ ps) (with_byte c ps)) more
go_on c ps qs true more h e = ap (λ x. [] ∷ x) e ∙ empty_last ps more h
go_on c ps qs false more h e = ap (with_byte c) e ∙ with_byte_last c ps more h

pub pieces_byte : (bytes : List ℕ) (b : ℕ) → (b == 10) ≡ false → pieces 10 (bytes ++ b ∷ []) ≡ with_last (pieces 10 bytes) (b ∷ [])
pieces_byte [] b h = rw h refl
pieces_byte (c ∷ bytes) b h = go_on c (pieces 10 bytes) (pieces 10 (bytes ++ b ∷ [])) (c == 10) (b ∷ []) (some_pieces bytes) (pieces_byte bytes b h)

end_on : (c : ℕ) (ps qs : List (List ℕ)) (t : Bool) → 0 < length ps → qs ≡ ps ++ [] ∷ [] → cond t ([] ∷ qs) (with_byte c qs) ≡ cond t ([] ∷ ps) (with_byte c ps) ++ [] ∷ []
end_on c ps qs true h e = ap (λ x. [] ∷ x) e
end_on c [] qs false h e = absurd (omega (arith, h))
end_on c (p ∷ ps) qs false h e = ap (with_byte c) e

pub pieces_end : (bytes : List ℕ) → pieces 10 (bytes ++ 10 ∷ []) ≡ pieces 10 bytes ++ [] ∷ []
pieces_end [] = refl
pieces_end (c ∷ bytes) = end_on c (pieces 10 bytes) (pieces 10 (bytes ++ 10 ∷ [])) (c == 10) (some_pieces bytes) (pieces_end bytes)

last_with : (ps : List (List ℕ)) (more : List ℕ) → 0 < length ps → last_of_all (with_last ps more) ≡ last_of_all ps ++ more
last_with [] more h = absurd (omega (arith, h))
last_with (p ∷ []) more h = refl
last_with (p ∷ q ∷ []) more h = refl
last_with (p ∷ q ∷ r ∷ ps) more h = last_with (q ∷ r ∷ ps) more (omega arith)

but_last_with : (ps : List (List ℕ)) (more : List ℕ) → 0 < length ps → but_last (with_last ps more) ≡ but_last ps
but_last_with [] more h = absurd (omega (arith, h))
but_last_with (p ∷ []) more h = refl
but_last_with (p ∷ q ∷ []) more h = refl
but_last_with (p ∷ q ∷ r ∷ ps) more h = ap (λ x. p ∷ x) (but_last_with (q ∷ r ∷ ps) more (omega arith))

last_more : (ps : List (List ℕ)) → last_of_all (ps ++ [] ∷ []) ≡ []
last_more [] = refl
last_more (p ∷ []) = refl
last_more (p ∷ q ∷ ps) = last_more (q ∷ ps)

but_last_more : (ps : List (List ℕ)) → but_last (ps ++ [] ∷ []) ≡ ps
but_last_more [] = refl
but_last_more (p ∷ []) = refl
but_last_more (p ∷ q ∷ ps) = ap (λ x. p ∷ x) (but_last_more (q ∷ ps))

-- a byte that ends no line goes on with the open one
pub byte_open : (bytes : List ℕ) (b : ℕ) → (b == 10) ≡ false → open_line (bytes ++ b ∷ []) ≡ open_line bytes ++ b ∷ []
byte_open bytes b h = ap last_of_all (pieces_byte bytes b h) ∙ last_with (pieces 10 bytes) (b ∷ []) (some_pieces bytes)

pub byte_ended : (bytes : List ℕ) (b : ℕ) → (b == 10) ≡ false → lines_ended (bytes ++ b ∷ []) ≡ lines_ended bytes
byte_ended bytes b h = ended_is (bytes ++ b ∷ []) ∙ ap but_last (pieces_byte bytes b h) ∙ but_last_with (pieces 10 bytes) (b ∷ []) (some_pieces bytes) ∙ sym (ended_is bytes)

-- one that ends a line adds the open one to the ended ones
pub end_open : (bytes : List ℕ) → open_line (bytes ++ 10 ∷ []) ≡ []
end_open bytes = ap last_of_all (pieces_end bytes) ∙ last_more (pieces 10 bytes)

pub end_ended : (bytes : List ℕ) → lines_ended (bytes ++ 10 ∷ []) ≡ lines_ended bytes ++ open_line bytes ∷ []
end_ended bytes = ended_is (bytes ++ 10 ∷ []) ∙ ap but_last (pieces_end bytes) ∙ but_last_more (pieces 10 bytes) ∙ all_lines bytes
