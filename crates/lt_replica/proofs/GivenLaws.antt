-- Rows that are given one by one, and up to one that is refused.
use Rattle.std.proofs.Common.{List, [], ap, append-nil, get_or, inl, inr, length, map, refl, subst, sym, take, ℕ, ◌+◌, ◌++◌, ◌<◌, ◌∙◌, ◌∷◌, ◌≡◌}
use Rattle.std.proofs.lemmas.List.{map-append, take-map, take_more}
use Rattle.std.proofs.KnownBytes.{Appends-trans}
use Rattle.std.specs.Prelude.{Err, IfSome, Option, Result, Some}
use Rattle.std.specs.Io.KnownBytes.{Appends}
use Rattle.lt_world.specs.RowSink.{Given, RowSinkState, texts_of}
use Rattle.lt_machine.specs.Outside.{GivenUpTo}
use Rattle.lt_world.specs.Object.{IsFront}
use Rattle.lt_words.specs.Reply as model
use Rattle.lt_terms.specs.Value.{Value}
use Rattle.lt_scan.specs.declared.row_sink.RowRefusal.{RowRefusal}
use Rattle.lt_scan.specs.declared.row_sink.RowRefusal.TheVariants as refusals
use Rattle.lt_replica.specs.Scans.{GivesSome}

list_same : (rows r1 r2 : Option (List (List Value))) (xs : List (List Value)) → IfSome rows (λ a. r1 ≡ Some (a ++ xs)) → r2 ≡ r1 → IfSome rows (λ a. r2 ≡ Some (a ++ xs))
list_same rows r1 r2 xs p e = subst (λ (o : Option (List (List Value))). IfSome rows (λ a. o ≡ Some (a ++ xs))) (sym e) p

-- a front of the next row's text may stand behind, where the sink failed
given_broken : (before mid now : RowSinkState) (xs : List (List Value)) (row : List Value) (front : List ℕ)
    → Given before mid xs → IsFront front (before.spell row) → Appends mid.told now.told front → now.rows ≡ mid.rows → GivenUpTo before now xs (Err model.out_fault)
given_broken before mid now xs row front g f a e = record {
  next = row;
  broken_off = front;
  text = Appends-trans before.told mid.told now.told (texts_of before.spell xs) front g.text a;
  list = list_same before.rows mid.rows now.rows xs g.list e;
  only_so = inr (refl, f);
}

-- and nothing where it found no memory
given_cut : (before mid now : RowSinkState) (xs : List (List Value)) (answer : Result model.Reply model.Refusal) → Given before mid xs → now.told ≡ mid.told → now.rows ≡ mid.rows → GivenUpTo before now xs answer
given_cut before mid now xs answer g s e = record {
  next = [];
  broken_off = [];
  text = subst (λ (bs : List ℕ). Appends before.told now.told bs) (sym (append-nil (texts_of before.spell xs))) (subst (λ (o : Option (List ℕ)). Appends before.told o (texts_of before.spell xs)) (sym s) g.text);
  list = list_same before.rows mid.rows now.rows xs g.list e;
  only_so = inl refl;
}

-- some first items with the next one
pub one_more : {A B : Type 0} (f : A → B) (xs ys : List A) (n : ℕ) (x : A) → ys ≡ xs → n < length xs → x ≡ get_or xs n x → take n (map f ys) ++ f x ∷ [] ≡ take (n + 1) (map f ys)
one_more {A} {B} f xs ys n x same l e =
    subst (λ (zs : List A). take n (map f zs) ++ f x ∷ [] ≡ take (n + 1) (map f zs)) (sym same)
    (ap (λ (ws : List B). ws ++ f x ∷ []) (take-map f n xs)
    ∙ ap (λ (y : A). map f (take n xs) ++ f y ∷ []) e
    ∙ sym (map-append f (take n xs) (get_or xs n x ∷ []))
    ∙ ap (map f) (sym (take_more xs n x l))
    ∙ sym (take-map f (n + 1) xs))

-- the first rows of a list were given, and the next one was refused
pub row_refused : (before mid now : RowSinkState) (all : List (List Value)) (n : ℕ) (row : List Value) (e : RowRefusal) → take n all ++ row ∷ [] ≡ take (n + 1) all → Given before mid (take n all) → mid.spell ≡ before.spell
    → (e ≡ refusals.Fault → (front : List ℕ) × IsFront front (mid.spell row) × Appends mid.told now.told front) → (e ≡ refusals.Memory → now.told ≡ mid.told) → now.rows ≡ mid.rows → GivesSome before now all e
unfolding given_broken given_cut
row_refused before mid now all n row refusals.Fault here g s f m r =
    let x = f refl in record { number = n; appended = given_broken before mid now (take n all) row x.0 g (subst (λ (spell : List Value → List ℕ). IsFront x.0 (spell row)) s x.1) x.2 r; next = inr here }
row_refused before mid now all n row refusals.Memory here g s f m r = record { number = n; appended = given_cut before mid now (take n all) (Err model.out_of_memory) g (m refl) r; next = inl refl }
