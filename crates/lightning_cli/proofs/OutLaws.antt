-- What calls append to a sink, one after another.
use Rattle.std.proofs.lemmas.Bool.{false≢true}
use Rattle.std.proofs.lemmas.List.{append_cancel_left, take-take}
use Rattle.std.proofs.Common.{inl, inr, take-append-drop, false, subst, true, ◌≡◌, ℕ, ◌+◌, ◌<◌, ◌^◌, ◌≤◌, length, length-append, List, [], ◌∷◌, ◌++◌, take, drop, refl, sym, ap, ◌∙◌, append_assoc, append-nil, arith}
use Rattle.std.proofs.lemmas.Fmt.{decimal_digit}
use Rattle.lt_world.specs.Object.{BytesGo, BytesState, FailsAt, StaysTold}
use Rattle.lt_words.specs.Reply.{text_line}
use Rattle.lt_machine.specs.Run.{max_script, script_fault_text, too_long_text}
use Rattle.std.specs.Prelude.{Bool, Err, IfErr, IfSome, MatchResult, codes, None, Ok, Option, Result, Some, is_some, option_map}
use Rattle.std.specs.Result.{IsErrAnd}
use Rattle.std.specs.Io.KnownBytes.{Appends, Consumes, IsAtEnd, Keeps}
use Rattle.lightning_cli.specs.Rows.{LeadsOut}
use Rattle.lightning_cli.specs.Serving.{Failed, Finishes, IsTaken, OutOver, Unfailed, WritesSome}

pub appends_nothing : (o : Option (List ℕ)) → Appends o o []
appends_nothing None = tt
appends_nothing (Some a) = sym (append-nil a)

pub appends_then : (o p q : Option (List ℕ)) (xs ys : List ℕ) → Appends o p xs → Appends p q ys → Appends o q (xs ++ ys)
appends_then None p q xs ys h k = tt
appends_then (Some a) None q xs ys h k = absurd h
appends_then (Some a) (Some b) None xs ys h k = absurd k
appends_then (Some a) (Some b) (Some c) xs ys h k = k ∙ ap (λ x. x ++ ys) h ∙ append_assoc a xs ys

pub appends_kept : (o p q : Option (List ℕ)) (xs : List ℕ) → Appends o p xs → Keeps p q → Appends o q xs
appends_kept None p q xs h k = tt
appends_kept (Some a) None q xs h k = absurd h
appends_kept (Some a) (Some b) None xs h k = absurd k
appends_kept (Some a) (Some b) (Some c) xs h k = k ∙ h

-- what an object tells
pub told_same : {A : Type 0} (o : Option A) (a b : A) → o ≡ Some a → o ≡ Some b → b ≡ a
told_same o a b h k = cc

pub appended : (o p : Option (List ℕ)) (a b xs : List ℕ) → o ≡ Some a → p ≡ Some b → Appends o p xs → b ≡ a ++ xs
appended o p a b xs h k e = by o p h k e
  where
    by : (o p : Option (List ℕ)) → o ≡ Some a → p ≡ Some b → Appends o p xs → b ≡ a ++ xs
    by None p h k e = absurd cc
    by (Some x) None h k e = absurd cc
    by (Some x) (Some y) h k e = let i : x ≡ a = cc in let j : y ≡ b = cc in sym j ∙ e ∙ ap (λ z. z ++ xs) i

-- what is written behind what was written
pub wrote_more : (a b c d e x : List ℕ) → b ≡ a ++ c → d ≡ b ++ e → e ≡ x → d ≡ a ++ (c ++ x)
wrote_more a b c d e x h k i = k ∙ ap (λ z. z ++ e) h ∙ append_assoc a c e ∙ ap (λ z. a ++ (c ++ z)) i

-- ---- the fixed lines

pub too_long_is : codes "stopped 9 TooLong\n" ≡ too_long_text
too_long_is = sym (ap (λ d. text_line (codes "stopped" ∷ d ∷ codes "TooLong" ∷ [])) (decimal_digit 9 (omega arith)))

pub script_fault_is : codes "stopped 3 ScriptFault\n" ≡ script_fault_text
script_fault_is = sym (ap (λ d. text_line (codes "stopped" ∷ d ∷ codes "ScriptFault" ∷ [])) (decimal_digit 3 (omega arith)))

-- ---- what was read

pub consumed : (o p : Option (List ℕ)) (a b xs : List ℕ) → o ≡ Some a → p ≡ Some b → Consumes o p xs → a ≡ xs ++ b
consumed o p a b xs h k e = by o p h k e
  where
    by : (o p : Option (List ℕ)) → o ≡ Some a → p ≡ Some b → Consumes o p xs → a ≡ xs ++ b
    by None p h k e = absurd cc
    by (Some x) None h k e = absurd cc
    by (Some x) (Some y) h k e = let i : x ≡ a = cc in let j : y ≡ b = cc in sym i ∙ e ∙ ap (λ z. xs ++ z) j

pub kept_same : (o p : Option (List ℕ)) (a b : List ℕ) → o ≡ Some a → p ≡ Some b → Keeps o p → b ≡ a
kept_same o p a b h k e = by o p h k e
  where
    by : (o p : Option (List ℕ)) → o ≡ Some a → p ≡ Some b → Keeps o p → b ≡ a
    by None p h k e = absurd cc
    by (Some x) None h k e = absurd cc
    by (Some x) (Some y) h k e = let i : x ≡ a = cc in let j : y ≡ b = cc in sym j ∙ e ∙ i

pub at_its_end : (p : Option (List ℕ)) (b : List ℕ) → p ≡ Some b → IsAtEnd p → b ≡ []
at_its_end p b k e = subst IsAtEnd k e

pub cut_bytes : (n room : ℕ) (xs : List ℕ) → room ≤ n → take n xs ≡ take room xs ++ drop room (take n xs)
cut_bytes n room xs h = sym (take-append-drop room (take n xs)) ∙ ap (λ z. z ++ drop room (take n xs)) (take-take room n xs h)

-- ---- what calls leave of a source or a sink

pub bytes_stay : (a : BytesState) → BytesGo a a
bytes_stay a = record { stays = (λ h. h, λ h. h); faults = omega arith }

pub bytes_then : (a b c : BytesState) → BytesGo a b → BytesGo b c → BytesGo a c
bytes_then a b c h k = record { stays = (λ s. k.stays.0 (h.stays.0 s), λ s. h.stays.1 (k.stays.1 s)); faults = omega (arith, h.faults, k.faults) }

pub unfailed_itself : (a : BytesState) → Unfailed a a
unfailed_itself a = record { faults = refl; failed_at = refl }

pub unfailed_then : (a b c : BytesState) → Unfailed a b → Unfailed b c → Unfailed a c
unfailed_then a b c h k = record { faults = k.faults ∙ h.faults; failed_at = k.failed_at ∙ h.failed_at }

pub failed_then : (a b c : BytesState) → Unfailed a b → Failed b c → Failed a c
failed_then a b c h k = record { rose = omega (arith, h.faults, k.rose); stops = subst (λ x. FailsAt c.told x c.failed_at) h.failed_at k.stops }

-- bytes behind a text, of which some first ones are written and the others kept
pub row_poured : (o p : Option (List ℕ)) (text line all kept : List ℕ) → all ≡ text ++ line → WritesSome o p all kept → Appends (option_map (λ held. held ++ text) o) (option_map (λ held. held ++ kept) p) line
row_poured None p text line all kept e h = tt
row_poured (Some a) None text line all kept e h = absurd h.1
row_poured (Some a) (Some b) text line all kept e h = ap (λ x. x ++ kept) h.1 ∙ append_assoc a h.0 kept ∙ ap (λ x. a ++ x) (sym h.2 ∙ e) ∙ sym (append_assoc a text line)

-- what was written, by what is told with the kept text behind it
pub rows_written : (o p : Option (List ℕ)) (text kept part more : List ℕ) → is_some o ≡ true → Appends o p more → Appends (option_map (λ held. held ++ text) o) (option_map (λ held. held ++ kept) p) part → text ++ part ≡ more ++ kept
rows_written None p text kept part more told h k = absurd (false≢true told)
rows_written (Some a) None text kept part more told h k = absurd h
rows_written (Some a) (Some b) text kept part more told h k =
    append_cancel_left a (text ++ part) (more ++ kept) (sym (append_assoc a text part) ∙ sym k ∙ ap (λ x. x ++ kept) h ∙ append_assoc a more kept)

-- an output that did not fail, or failed
pub out_kept : (a b : BytesState) (status : ℕ) → (status ≡ 4 → ⊥) → Unfailed a b → OutOver a b status
out_kept a b status other h = record { failed = λ e. absurd (other e); kept = λ n. h }

pub out_failed : (a b : BytesState) (status : ℕ) → status ≡ 4 → Failed a b → OutOver a b status
out_failed a b status is h = record { failed = λ e. h; kept = λ n. absurd (n is) }

-- rows led an output on, to a fault or without one
pub fell_over : (a b : BytesState) (fault : Bool) → fault ≡ true → LeadsOut a b fault → OutOver a b 4
fell_over a b true is h = out_failed a b 4 refl h.fails
fell_over a b false is h = absurd (false≢true is)

pub led_unfailed : (a b : BytesState) (fault : Bool) → fault ≡ false → LeadsOut a b fault → Unfailed a b
led_unfailed a b true is h = absurd (false≢true (sym is))
led_unfailed a b false is h = h.fails

pub out_finishes : (a b : BytesState) (line : List ℕ) (status result : ℕ) → (status ≡ 4 → ⊥) → Finishes a b line status result → OutOver a b result
out_finishes a b line status result other (inl x) = out_kept a b result (λ e. other (sym x.0 ∙ e)) x.2
out_finishes a b line status result other (inr x) = out_failed a b result x.0 x.2

pub out_then : (a b c : BytesState) (status : ℕ) → Unfailed a b → OutOver b c status → OutOver a c status
out_then a b c status h k = record { failed = λ e. failed_then a b c h (k.failed e); kept = λ n. unfailed_then a b c h (k.kept n) }

pub finish_as : (a b : BytesState) (line more : List ℕ) (status result : ℕ) → line ≡ more → Finishes a b line status result → Finishes a b more status result
finish_as a b line more status result e h = subst (λ l. Finishes a b l status result) e h

pub over_as : (a b : BytesState) (x y : ℕ) → y ≡ x → OutOver a b x → OutOver a b y
over_as a b x y e h = subst (λ n. OutOver a b n) (sym e) h

-- a result of a fault is one
pub err_match : {T E : Type 0} (P : Type 0) {Q : Type 0} (r : Result T E) (F : E → Type 0) → IsErrAnd r F → Q → MatchResult r (λ _. P) (λ _. Q)
err_match P (Ok x) F h q = absurd h
err_match P (Err e) F h q = q

pub err_as : {T E : Type 0} (P : E → Type 0) (r : Result T E) (x : E) → IsErrAnd r (λ e. e ≡ x) → P x → IfErr r P
err_as P (Ok y) x h p = absurd h
err_as P (Err e) x h p = subst P (sym h) p

-- ---- how much was taken of a script

pub none_gone : (o : Option (List ℕ)) → IsTaken o o 0
none_gone None = tt
none_gone (Some s) = omega arith

pub gone_then : (o p q : Option (List ℕ)) (n m : ℕ) → StaysTold o p → IsTaken o p n → IsTaken p q m → IsTaken o q (n + m)
gone_then None p q n m s h k = tt
gone_then (Some a) None q n m s h k = absurd (let t : false ≡ true = s.0 refl in cc)
gone_then (Some a) (Some b) None n m s h k = tt
gone_then (Some a) (Some b) (Some c) n m s h k = omega (arith, h, k)

pub over_gone : (o p : Option (List ℕ)) (n : ℕ) → StaysTold o p → IsTaken o p n → IfSome p (λ t. 2 ^ 32 < n + length t) → IfSome o (λ s. max_script < length s)
over_gone None p n s h k = tt
over_gone (Some a) None n s h k = absurd (let t : false ≡ true = s.0 refl in cc)
over_gone (Some a) (Some b) n s h k = omega (arith, h, k)

pub read_gone : (o p : Option (List ℕ)) (xs : List ℕ) (n : ℕ) → length xs ≡ n → Consumes o p xs → IsTaken o p n
read_gone None p xs n e h = tt
read_gone (Some a) None xs n e h = tt
read_gone (Some a) (Some b) xs n e h = omega (arith, e, ap length h, length-append xs b)
