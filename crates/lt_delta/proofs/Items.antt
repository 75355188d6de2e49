-- Lists of items, read one after another and written one after another.
use Rattle.std.proofs.Common.{◌≡◌, ℕ, zero, suc, ◌-◌, ◌+◌, ◌≤◌, ◌<◌, List, [], ◌∷◌, ◌++◌, Option, Some, None, get_or, length, map, refl, sym, ap, subst, ◌∙◌, append_assoc, arith}
use Rattle.std.specs.List.{AllByRecursion}
use Rattle.std.proofs.lemmas.List.{append-nil}
use Rattle.lt_codecs.specs.Codec.{◌>>=◌, read_times}

-- what was read before, and what is still read
abbrev pub with_front : {A : Type 0} → List A → Option (List A × List ℕ) → Option (List A × List ℕ)
with_front front read = read >>= λ x. Some (front ++ x.0, x.1)

regroup : {A : Type 0} (front : List A) (n : A) (read : Option (List A × List ℕ)) → with_front front (read >>= λ x. Some (n ∷ x.0, x.1)) ≡ with_front (front ++ n ∷ []) read
regroup {A} front n (Some x) = ap (λ (ns : List A). Some (ns, x.1)) (sym (append_assoc front (n ∷ []) x.0))
regroup front n None = refl

pub goes_on : {A : Type 0} (read : List ℕ → Option (A × List ℕ)) (front : List A) (count i : ℕ) (bytes : List ℕ) (n : A) (after : List ℕ) (total : Option (List A × List ℕ)) → i < count → read bytes ≡ Some (n, after)
    → with_front front (read_times read (count - i) bytes) ≡ total → with_front (front ++ n ∷ []) (read_times read (count - (i + 1)) after) ≡ total
goes_on read front count i bytes n after total lt h so_far =
    let k : count - i ≡ suc (count - (i + 1)) = omega arith in
    let one : with_front front (read_times read (count - i) bytes) ≡ with_front (front ++ n ∷ []) (read_times read (count - (i + 1)) after) = rw (k, h) (regroup front n (read_times read (count - (i + 1)) after)) in
    sym one ∙ so_far

-- what is so of each item, as it is seen, is so of the one at a place
at_place : {A B : Type 0} (P : B → Type 0) (view : A → B) (xs : List A) (k : ℕ) (d : A) → AllByRecursion P (map view xs) → k < length xs → P (view (get_or xs k d))
at_place P view [] k d all lt = absurd (omega (arith, lt))
at_place P view (x ∷ xs) zero d all lt = all.0
at_place P view (x ∷ xs) (suc k) d all lt = at_place P view xs k d all.1 (omega (arith, lt))

pub at_item : {A B : Type 0} (P : B → Type 0) (view : A → B) (xs ys : List A) (k : ℕ) (x : A) → AllByRecursion P (map view xs) → ys ≡ xs → k < length ys → x ≡ get_or ys k x → P (view x)
at_item P view xs ys k x all same lt is = subst (λ z. P (view z)) (sym (is ∙ ap (λ zs. get_or zs k x) same)) (at_place P view xs k x all (subst (λ zs. k < length zs) same lt))

-- ---- what is written, one behind the other

pub behind : {A : Type 0} (w x y a b : List A) → x ≡ w ++ a → y ≡ x ++ b → y ≡ w ++ (a ++ b)
behind w x y a b first second = second ∙ ap (λ t. t ++ b) first ∙ append_assoc w a b
