-- The streams of a pump, by number.
use Rattle.std.proofs.Common.{List, [], ap, arith, eqb-true, eq-eqb, refl, subst, suc, sym, true, zero, ℕ, ◌+◌, ◌<◌, ◌∙◌, ◌∷◌, ◌≡◌, length, map, slice_index_or, slice_set}
use Rattle.std.specs.Prelude.{IfSome, IsTrue, Option, Some, Vec, slice_get, ◌&&◌, ◌==◌}
use Rattle.std.specs.Vec.{vec_len}
use Rattle.std.specs.declared.alloc.Global.{Global}
use Rattle.std.proofs.lemmas.Bool.{and_from, and_parts}
use Rattle.std.proofs.lemmas.List.{length-map}
use Rattle.lt_terms.specs.declared.Format.TheVariants as format
use Rattle.lt_world.specs.Feed.{Feed}
use Rattle.lt_terms.specs.Key.{Range}
use Rattle.lt_terms.specs.Log.{Change, header_item, is_item}
use Rattle.lt_tables.specs.Pump.{StreamAt}
use Rattle.lt_tables.specs.Schema.{Catalogue, change_at}
use Rattle.lt_pump.specs.Given.{AreBehind}
use Rattle.lt_pump.specs.Positions.{Ran, RanSome, are_streams, low_of, range_of, stream_of}
use Rattle.lt_pump.specs.Pumps.{HasPumped, HasPumpedSome}
use Rattle.lt_pump.specs.View.{view_stop}
use Rattle.lt_pump.specs.declared.position.Position.{Position}
use Rattle.lt_pump.specs.declared.stop.Pumped.{Pumped}
use Rattle.lt_pump.proofs.SubLaws.{here, mapped_there}

pub within : (v : Vec Position Global) (s : ℕ) → s < vec_len v → s < length v.items
within v s l = omega (arith, l, v.ok.0, v.ok.1)

pub stood : (ps : List Position) (i : ℕ) (p : Position) → i < length ps → p ≡ slice_index_or ps i p → slice_get (map stream_of ps) i ≡ Some (stream_of p)
stood ps i p l e = mapped_there stream_of ps i p (here ps i p l e)

pub both : (a : StreamAt) (n : ℕ) (ss : List StreamAt) → are_streams n (a ∷ ss) ≡ true → (a.header.stream ≡ n) × IsTrue (is_item format.One (header_item a.header)) × (are_streams (n + 1) ss ≡ true)
both a n ss h = let p = and_parts (a.header.stream == n && is_item format.One (header_item a.header)) (are_streams (n + 1) ss) h in let q = and_parts (a.header.stream == n) (is_item format.One (header_item a.header)) p.0 in (eqb-true a.header.stream n q.0, q.1, p.1)

pub joined : (a : StreamAt) (n : ℕ) (ss : List StreamAt) → a.header.stream ≡ n → IsTrue (is_item format.One (header_item a.header)) → are_streams (n + 1) ss ≡ true → are_streams n (a ∷ ss) ≡ true
joined a n ss e l h = and_from (a.header.stream == n && is_item format.One (header_item a.header)) (are_streams (n + 1) ss) (and_from (a.header.stream == n) (is_item format.One (header_item a.header)) (eq-eqb a.header.stream n e) l) h

-- a stream has its number
pub numbered : (n i : ℕ) (ss : List StreamAt) (a : StreamAt) → are_streams n ss ≡ true → slice_get ss i ≡ Some a → n + i ≡ a.header.stream
numbered n i [] a h e = absurd cc
numbered n zero (x ∷ ss) a h e = let d : x ≡ a = cc in let k = (both x n ss h).0 in let m : x.header.stream ≡ a.header.stream = ap (λ (y : StreamAt). y.header.stream) d in omega (arith, k, m)
numbered n (suc i) (x ∷ ss) a h e = let k = numbered (n + 1) i ss a (both x n ss h).2 e in omega (arith, k)

pub numbered_here : (s : ℕ) (ps : List Position) (p : Position) → are_streams 0 (map stream_of ps) ≡ true → s < length ps → p ≡ slice_index_or ps s p → s ≡ (stream_of p).header.stream
numbered_here s ps p h l e = let k = numbered 0 s (map stream_of ps) (stream_of p) h (stood ps s p l e) in omega (arith, k)

-- ---- one stream moved

pub map_set : {A B : Type 0} (f : A → B) (xs : List A) (i : ℕ) (y : A) → map f (slice_set xs i y) ≡ slice_set (map f xs) i (f y)
map_set f [] i y = refl
map_set f (x ∷ xs) zero y = refl
map_set f (x ∷ xs) (suc i) y = ap (λ ys. f x ∷ ys) (map_set f xs i y)

set_there : {A : Type 0} (xs : List A) (i : ℕ) (x y : A) → slice_get xs i ≡ Some x → slice_get (slice_set xs i y) i ≡ Some y
set_there [] i x y e = absurd cc
set_there (z ∷ xs) zero x y e = refl
set_there (z ∷ xs) (suc i) x y e = set_there xs i x y e

set_streams : (n i : ℕ) (ss : List StreamAt) (a b : StreamAt) → slice_get ss i ≡ Some a → b.header ≡ a.header → are_streams n ss ≡ true → are_streams n (slice_set ss i b) ≡ true
set_streams n i [] a b e h k = refl
set_streams n zero (x ∷ ss) a b e h k =
    let d : x ≡ a = cc in
    let p = both x n ss k in
    let same : x.header ≡ b.header = ap (λ (y : StreamAt). y.header) d ∙ sym h in
    joined b n ss (ap (λ y. y.stream) (sym same) ∙ p.0) (subst (λ y. IsTrue (is_item format.One (header_item y))) same p.1) p.2
set_streams n (suc i) (x ∷ ss) a b e h k = let p = both x n ss k in joined x n (slice_set ss i b) p.0 p.1 (set_streams (n + 1) i ss a b e h p.2)

set_same : {A B : Type 0} (f : A → B) (i : ℕ) (xs : List A) (x y : A) → slice_get xs i ≡ Some x → f y ≡ f x → map f (slice_set xs i y) ≡ map f xs
set_same f i [] x y e h = refl
set_same f zero (z ∷ xs) x y e h = let d : z ≡ x = cc in ap (λ w. w ∷ map f xs) (h ∙ sym (ap f d))
set_same f (suc i) (z ∷ xs) x y e h = ap (λ ws. f z ∷ ws) (set_same f i xs x y e h)

pub streams_stay : (s : ℕ) (ps : List Position) (p q : Position) → s < length ps → p ≡ slice_index_or ps s p → (stream_of q).header ≡ (stream_of p).header → are_streams 0 (map stream_of ps) ≡ true → are_streams 0 (map stream_of (slice_set ps s q)) ≡ true
streams_stay s ps p q l e h k = ap (are_streams 0) (map_set stream_of ps s q) ∙ set_streams 0 s (map stream_of ps) (stream_of p) (stream_of q) (stood ps s p l e) h k

pub lows_stay : (s : ℕ) (ps : List Position) (p q : Position) (lows : List (List ℕ)) → s < length ps → p ≡ slice_index_or ps s p → (stream_of q).header ≡ (stream_of p).header → lows ≡ map low_of (map stream_of ps) → lows ≡ map low_of (map stream_of (slice_set ps s q))
lows_stay s ps p q lows l e h k = k ∙ sym (ap (map low_of) (map_set stream_of ps s q) ∙ set_same low_of s (map stream_of ps) (stream_of p) (stream_of q) (stood ps s p l e) (ap (λ y. y.range.low) h))

pub ranges_stay : (s : ℕ) (ps : List Position) (p q : Position) (rs : List Range) → s < length ps → p ≡ slice_index_or ps s p → (stream_of q).header ≡ (stream_of p).header → map range_of (map stream_of ps) ≡ rs → map range_of (map stream_of (slice_set ps s q)) ≡ rs
ranges_stay s ps p q rs l e h k = ap (map range_of) (map_set stream_of ps s q) ∙ set_same range_of s (map stream_of ps) (stream_of p) (stream_of q) (stood ps s p l e) (ap (λ y. y.range) h) ∙ k

pub behind_here : (s : ℕ) (ps : List Position) (p : Position) (held : List (List Change)) → s < length ps → p ≡ slice_index_or ps s p → IfSome (slice_get (map stream_of ps) s) (λ a. AreBehind a held) → AreBehind (stream_of p) held
behind_here s ps p held l e h = subst (λ o. IfSome o (λ a. AreBehind a held)) (stood ps s p l e) h

pub behind_then : (s : ℕ) (ps : List Position) (p q : Position) (held : List (List Change)) → s < length ps → p ≡ slice_index_or ps s p → AreBehind (stream_of q) held → IfSome (slice_get (map stream_of (slice_set ps s q)) s) (λ a. AreBehind a held)
behind_then s ps p q held l e h =
    subst (λ o. IfSome o (λ a. AreBehind a held)) (sym (ap (λ ss. slice_get ss s) (map_set stream_of ps s q) ∙ set_there (map stream_of ps) s (stream_of p) (stream_of q) (stood ps s p l e))) h

-- ---- what a call answers

pub has_pumped : (told : Option Feed) (cat : Catalogue) (s asked : ℕ) (subs : List (Range × ℕ)) (ps : List Position) (p q : Position) (held held' : List (List Change)) (r : Pumped) → s < length ps → p ≡ slice_index_or ps s p
    → Ran told cat subs (stream_of p) (stream_of q) held held' asked r.records (view_stop r.stop) → r.offset ≡ (stream_of q).offset → r.checkpoint ≡ (stream_of q).point.checkpoint
    → HasPumped told cat s asked subs (map stream_of ps) (map stream_of (slice_set ps s q)) held held' r
has_pumped told cat s asked subs ps p q held held' r l e ran o k = record { stood = stream_of p; stands = stream_of q; known = stood ps s p l e; moved = map_set stream_of ps s q; ran = ran; offset = o; checkpoint = k }

pub has_pumped_some : (told : Option Feed) (cat : Catalogue) (s asked : ℕ) (subs : List (Range × ℕ)) (ps : List Position) (p q : Position) (held held' : List (List Change)) → s < length ps → p ≡ slice_index_or ps s p
    → RanSome told cat subs (stream_of p) (stream_of q) held held' asked → HasPumpedSome told cat s asked subs (map stream_of ps) (map stream_of (slice_set ps s q)) held held'
has_pumped_some told cat s asked subs ps p q held held' l e ran = record { stood = stream_of p; stands = stream_of q; known = stood ps s p l e; moved = map_set stream_of ps s q; ran = ran }

-- ---- a stream that goes on elsewhere

pub set_changed : {A B : Type 0} (f : A → B) (g : B → B) (xs : List A) (i : ℕ) (x y : A) → slice_get xs i ≡ Some x → f y ≡ g (f x) → map f (slice_set xs i y) ≡ change_at g i (map f xs)
set_changed f g [] i x y e h = refl
set_changed f g (z ∷ xs) zero x y e h = let d : z ≡ x = cc in ap (λ w. w ∷ map f xs) (h ∙ ap (λ w. g (f w)) (sym d))
set_changed f g (z ∷ xs) (suc i) x y e h = ap (λ ws. f z ∷ ws) (set_changed f g xs i x y e h)

pub same_place : (s : ℕ) (ps : List Position) → s < length (map stream_of ps) → s < length ps
same_place s ps l = omega (arith, l, length-map ps stream_of)
