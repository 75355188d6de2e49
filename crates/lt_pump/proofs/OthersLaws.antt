-- What a stream takes lies in its range: what is held stays behind the other streams.
use Rattle.std.proofs.Common.{Bool, List, [], ap, arith, false, map, refl, subst, suc, sym, true, zero, ℕ, ◌++◌, ◌<◌, ◌∙◌, ◌∷◌, ◌≡◌, length, slice_index_or, slice_set}
use Rattle.std.specs.Prelude.{IsTrue, None, Option, Some, slice_get, ◌≢◌}
use Rattle.std.specs.List.{AllByRecursion}
use Rattle.lt_terms.specs.declared.Format.TheVariants as format
use Rattle.lt_world.specs.Feed.{Feed}
use Rattle.lt_tables.specs.Fair.{Point, breaks_at}
use Rattle.lt_terms.specs.Key.{Range, in_range, ranges_from, tile}
use Rattle.lt_terms.specs.Log.{Change, Header, Item, batch_item, change_item, change_key, changes_of, checkpoint_item, close_item, header_item, is_item}
use Rattle.lt_tables.specs.Pump.{StreamAt, moved_by}
use Rattle.lt_tables.specs.Schema.{Catalogue}
use Rattle.lt_codecs.proofs.ListFacts.{all_map}
use Rattle.lt_lemmas.proofs.RangeLaws.{IsSole, tile_sole}
use Rattle.lt_pump.specs.Given.{AreAllBehind, AreApart, AreBehind, IsBehind, all_given}
use Rattle.lt_pump.specs.Positions.{AreFair, Took, range_of, stream_of}
use Rattle.lt_pump.specs.Pumps.{OthersStay}
use Rattle.lt_pump.specs.declared.position.Position.{Position}
use Rattle.lt_pump.proofs.GivenLaws.{all_after, all_there, given_append, given_nothing}
use Rattle.lt_pump.proofs.PassLaws.{passes}
use Rattle.lt_pump.proofs.PumpLaws.{map_set, stood}
use Rattle.lt_pump.proofs.SubLaws.{mapped_there}

-- ---- what is taken

-- what breaks nothing breaks nothing in an open stream
pub open_there : (h : Header) (cat : Catalogue) (is_shut : Bool) (p : Point) (i : Item) → breaks_at h cat is_shut p i ≡ None → breaks_at h cat false p i ≡ None
unfolding breaks_at
open_there h cat true p i e = absurd cc
open_there h cat false p i e = e

-- no item of format 1 is a batch
pub no_batch : (X : Type 0) (t : ℕ) (cs : List Change) → IsTrue (is_item format.One (batch_item t cs)) → X
no_batch X t cs l = absurd (let e : false ≡ true = l in cc)

abbrev pub IsWithin : Range → Change → Type 0
IsWithin r c = in_range (change_key c) r ≡ true

pub all_within : (cat : Catalogue) (a : StreamAt) (items : List Item) → AreFair cat a items → AllByRecursion (IsWithin a.header.range) (changes_of items)
all_within cat a [] f = tt
all_within cat a (header_item k ∷ items) f = all_within cat (moved_by (header_item k ∷ []) a) items f.2
all_within cat a (change_item c ∷ items) f =
    ((passes a.header cat a.point c (open_there a.header cat a.closed a.point (change_item c) f.1)).within, all_within cat (moved_by (change_item c ∷ []) a) items f.2)
all_within cat a (checkpoint_item t ∷ items) f = all_within cat (moved_by (checkpoint_item t ∷ []) a) items f.2
all_within cat a (batch_item t cs ∷ items) f = no_batch _ t cs f.0
all_within cat a (close_item first count ∷ items) f = all_within cat (moved_by (close_item first count ∷ []) a) items f.2

all_kept : (P : Change → Type 0) (cs : List Change) (subs : List (Range × ℕ)) (held : List (List Change)) → AllByRecursion P cs → AllByRecursion (AllByRecursion P) held → AllByRecursion (AllByRecursion P) (all_given cs subs held)
all_kept P [] subs held p h = subst (AllByRecursion (AllByRecursion P)) (sym (given_nothing subs held)) h
all_kept P (c ∷ cs) subs held p h = subst (AllByRecursion (AllByRecursion P)) (sym (given_append (c ∷ []) cs subs held)) (all_kept P cs subs (all_given (c ∷ []) subs held) p.1 (all_after P c subs held p.0 h))

other_stays : (told : Option Feed) (cat : Catalogue) (subs : List (Range × ℕ)) (a a' b : StreamAt) (held held' : List (List Change)) → Took told cat subs a a' held held' → AreApart a.header.range b.header.range → AreBehind b held → AreBehind b held'
other_stays told cat subs a a' b held held' t apart h =
    subst (AreBehind b) (sym t.given) (all_kept (IsBehind b) (changes_of t.items) subs held
    (all_map (IsWithin a.header.range) (IsBehind b) (changes_of t.items) (λ c within has. absurd (apart (change_key c) within has)) (all_within cat a t.items t.fair)) h)

-- ---- ranges at two places

sole_apart : (key : List ℕ) (rs : List Range) (i j : ℕ) (r s : Range) → IsSole key rs → slice_get rs i ≡ Some r → slice_get rs j ≡ Some s → (i ≡ j → ⊥) → in_range key r ≡ true → in_range key s ≡ true → ⊥
sole_apart key [] i j r s o a b n h k = absurd cc
sole_apart key (q ∷ rs) zero zero r s o a b n h k = absurd (n refl)
sole_apart key (q ∷ rs) zero (suc j) r s o a b n h k =
    let e : q ≡ r = cc in
    let out = all_there (λ (x : Range). in_range key x ≡ false) rs j s (o.0 (ap (in_range key) e ∙ h)) b in
    absurd (let d = sym out ∙ k in cc)
sole_apart key (q ∷ rs) (suc i) zero r s o a b n h k =
    let e : q ≡ s = cc in
    let out = all_there (λ (x : Range). in_range key x ≡ false) rs i r (o.0 (ap (in_range key) e ∙ k)) a in
    absurd (let d = sym out ∙ h in cc)
sole_apart key (q ∷ rs) (suc i) (suc j) r s o a b n h k = sole_apart key rs i j r s o.1 a b (λ e. n (ap suc e)) h k

range_there : (ss : List StreamAt) (lows : List (List ℕ)) (n : ℕ) (a : StreamAt) → map range_of ss ≡ ranges_from lows → slice_get ss n ≡ Some a → slice_get (ranges_from lows) n ≡ Some (range_of a)
range_there ss lows n a r e = sym (ap (λ (rs : List Range). slice_get rs n) r) ∙ mapped_there range_of ss n a e

pub others_stay : (told : Option Feed) (cat : Catalogue) (subs : List (Range × ℕ)) (s : ℕ) (ps : List Position) (lows : List (List ℕ)) (p q : Position) (held held' : List (List Change)) → s < length ps → p ≡ slice_index_or ps s p → IsTrue (tile lows)
    → map range_of (map stream_of ps) ≡ ranges_from lows → Took told cat subs (stream_of p) (stream_of q) held held' → OthersStay (map stream_of ps) s held held'
others_stay told cat subs s ps lows p q held held' l e tiles ranges t n b at other h =
    let ss = map stream_of ps in
    other_stays told cat subs (stream_of p) (stream_of q) b held held' t
    (λ key i j. sole_apart key (ranges_from lows) s n (range_of (stream_of p)) (range_of b) (tile_sole key lows tiles) (range_there ss lows s (stream_of p) ranges (stood ps s p l e)) (range_there ss lows n b ranges at) (λ same. other (sym same)) i j) h

-- ---- all streams

all_places : {A : Type 0} (P Q : A → Type 0) (xs : List A) → ((n : ℕ) (x : A) → slice_get xs n ≡ Some x → P x → Q x) → AllByRecursion P xs → AllByRecursion Q xs
all_places P Q [] k a = tt
all_places P Q (x ∷ xs) k a = (k 0 x refl a.0, all_places P Q xs (λ n y e. k (suc n) y e) a.1)

all_set : {A : Type 0} (P Q : A → Type 0) (xs : List A) (i : ℕ) (y : A) → ((n : ℕ) (x : A) → slice_get xs n ≡ Some x → n ≢ i → P x → Q x) → Q y → AllByRecursion P xs → AllByRecursion Q (slice_set xs i y)
all_set P Q [] i y k q a = tt
all_set P Q (x ∷ xs) zero y k q a = (q, all_places P Q xs (λ n z e. k (suc n) z e (λ d. absurd (omega (arith, d)))) a.1)
all_set P Q (x ∷ xs) (suc i) y k q a = (k 0 x refl (λ d. absurd (omega (arith, d))) a.0, all_set P Q xs i y (λ n z e o. k (suc n) z e (λ d. o (omega (arith, d)))) q a.1)

pub all_stay : (s : ℕ) (ps : List Position) (q : Position) (held held' : List (List Change)) → OthersStay (map stream_of ps) s held held' → AreBehind (stream_of q) held' → AreAllBehind (map stream_of ps) held → AreAllBehind (map stream_of (slice_set ps s q)) held'
all_stay s ps q held held' others b a =
    subst (λ (ss : List StreamAt). AreAllBehind ss held') (sym (map_set stream_of ps s q)) (all_set (λ (x : StreamAt). AreBehind x held) (λ (x : StreamAt). AreBehind x held') (map stream_of ps) s (stream_of q) others b a)
