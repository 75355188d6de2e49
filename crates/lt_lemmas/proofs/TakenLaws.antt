-- What a pump takes: key parts of a lawful change, items that are taken after others, and items of a longer feed.
use Rattle.std.proofs.Common.{Bool, List, [], ap, append-nil, append_assoc, arith, drop, false, length, ltb-true, refl, subst, sym, true, ℕ, ◌++◌, ◌+◌, ◌<◌, ◌∙◌, ◌∷◌, ◌≡◌, ◌≤◌}
use Rattle.std.specs.Prelude.{IsTrue, None, Option, Some, flat_map, fold, nat_lt, ◌-◌, ◌^◌, ◌||◌}
use Rattle.std.specs.Option.{option_map_or}
use Rattle.std.proofs.lemmas.Bool.{and_parts}
use Rattle.std.specs.List.{list_any}
use Rattle.std.proofs.lemmas.List.{drop-append-le, length-append, length-drop}
use Rattle.std.proofs.lemmas.List.Concat.{flat_map-append}
use Rattle.std.proofs.lemmas.List.Sums.{fold-append}
use Rattle.lt_terms.specs.Key.{is_key_of}
use Rattle.lt_terms.specs.Log.{Change, Header, Item, spelled}
use Rattle.lt_terms.specs.Value.{is_number}
use Rattle.lt_world.specs.Feed.{Feed, Grows, stream_bytes}
use Rattle.lt_tables.specs.Schema.{Catalogue, Registered, Table, key_kinds}
use Rattle.lt_tables.specs.Fair.{Point, has_change_shape, is_close, is_closed, point_after}
use Rattle.lt_tables.specs.Pump.{StreamAt, Takes, moved_by}
use Rattle.lt_lemmas.proofs.FrontLaws.{bytes_grow, successors_stay}
use Rattle.lt_lemmas.proofs.PointLaws.{right}

-- ---- their keys are of the tables' kinds

pub shape_key : (o : Option Table) (r : Option Registered) (c : Change) → option_map_or (λ t. option_map_or (λ r. has_change_shape t r c) r false) o false ≡ true → IsTrue (is_key_of (option_map_or (λ t. key_kinds t.key) o []) c.key)
shape_key None r c e = cc
shape_key (Some t) None c e = cc
shape_key (Some t) (Some r) c e = (and_parts (is_key_of (key_kinds t.key) c.key) _ e).0

pub number_fits : (n : ℕ) → IsTrue (is_number n) → n < 2 ^ 32
number_fits n h = let l : n < 2 ^ 16 = ltb-true n (2 ^ 16) (right (nat_lt 0 n) (nat_lt n (2 ^ 16)) h) in omega (arith, l)

-- ---- items that were taken

pub or_nothing : (b : Bool) → (b || false) ≡ b
or_nothing true = refl
or_nothing false = refl

or_assoc : (a b c : Bool) → (a || (b || c)) ≡ ((a || b) || c)
or_assoc true b c = refl
or_assoc false b c = refl

pub any_append : {A : Type 0} (p : A → Bool) (xs ys : List A) → list_any p (xs ++ ys) ≡ (list_any p xs || list_any p ys)
any_append p [] ys = refl
any_append p (x ∷ xs) ys = ap (λ b. p x || b) (any_append p xs ys) ∙ or_assoc (p x) (list_any p xs) (list_any p ys)

pub made_same : (h : Header) (o u : ℕ) (p q : Point) (c d : Bool) → o ≡ u → p ≡ q → c ≡ d → record { header = h; offset = o; point = p; closed = c } ≡ (let a : StreamAt = record { header = h; offset = u; point = q; closed = d } in a)
made_same h o u p q c d e f g = cc

pub spelled_length : (xs ys : List Item) → length (flat_map spelled (xs ++ ys)) ≡ length (flat_map spelled xs) + length (flat_map spelled ys)
spelled_length xs ys = ap length (flat_map-append spelled xs ys) ∙ length-append (flat_map spelled xs) (flat_map spelled ys)

pub moved_none : (a : StreamAt) → moved_by [] a ≡ a
moved_none a = made_same a.header (a.offset + 0) a.offset a.point a.point (a.closed || false) a.closed (omega arith) refl (or_nothing a.closed)

pub moved_append : (xs ys : List Item) (a : StreamAt) → moved_by (xs ++ ys) a ≡ moved_by ys (moved_by xs a)
moved_append xs ys a = made_same a.header (a.offset + length (flat_map spelled (xs ++ ys))) (a.offset + length (flat_map spelled xs) + length (flat_map spelled ys)) (fold point_after a.point (xs ++ ys))
    (fold point_after (fold point_after a.point xs) ys) (a.closed || is_closed (xs ++ ys)) ((a.closed || is_closed xs) || is_closed ys) (omega (arith, spelled_length xs ys)) (fold-append point_after a.point xs ys)
    (ap (λ b. a.closed || b) (any_append is_close xs ys) ∙ or_assoc a.closed (is_closed xs) (is_closed ys))

pub takes_rest : (feed : Feed) (cat : Catalogue) (a : StreamAt) (items : List Item) (rest : List ℕ) → Takes feed cat a items rest → rest ≡ drop (moved_by items a).offset (stream_bytes feed a.header.stream)
takes_rest feed cat a [] rest t = t ∙ ap (λ (n : ℕ). drop n (stream_bytes feed a.header.stream)) (omega arith)
takes_rest feed cat a (i ∷ items) rest t = takes_rest feed cat (moved_by (i ∷ []) a) items rest t.4 ∙ ap (λ (x : StreamAt). drop x.offset (stream_bytes feed a.header.stream)) (sym (moved_append (i ∷ []) items a))

-- taking goes on where it stopped
pub takes_append : (feed : Feed) (cat : Catalogue) (a : StreamAt) (xs ys : List Item) (r rest : List ℕ) → Takes feed cat a xs r → Takes feed cat (moved_by xs a) ys rest → Takes feed cat a (xs ++ ys) rest
takes_append feed cat a [] ys r rest t u = subst (λ (x : StreamAt). Takes feed cat x ys rest) (moved_none a) u
takes_append feed cat a (x ∷ xs) ys r rest t u = (t.0, t.1, t.2, t.3, takes_append feed cat (moved_by (x ∷ []) a) xs ys r rest t.4 (subst (λ (s : StreamAt). Takes feed cat s ys rest) (moved_append (x ∷ []) xs a) u))

pub spelled_one : (i : Item) → flat_map spelled (i ∷ []) ≡ spelled i
spelled_one i = append-nil (spelled i)

-- ---- a longer feed: what was taken is taken, with more behind it

takes_in : (feed more : Feed) (cat : Catalogue) (a : StreamAt) (items : List Item) (rest extra : List ℕ) → Grows feed more → stream_bytes more a.header.stream ≡ stream_bytes feed a.header.stream ++ extra
    → a.offset ≤ length (stream_bytes feed a.header.stream) → Takes feed cat a items rest → Takes more cat a items (rest ++ extra)
takes_in feed more cat a [] rest extra g e l t = ap (λ (x : List ℕ). x ++ extra) t ∙ sym (drop-append-le a.offset (stream_bytes feed a.header.stream) extra l) ∙ ap (drop a.offset) (sym e)
takes_in feed more cat a (i ∷ items) rest extra g e l t =
    let bytes = stream_bytes feed a.header.stream in
    let size : length (drop a.offset bytes) ≡ length (spelled i) + length t.1.0 = ap length t.1.1 ∙ length-append (spelled i) t.1.0 in
    let left : length (drop a.offset bytes) ≡ length bytes - a.offset = length-drop a.offset bytes in
    let one : length (flat_map spelled (i ∷ [])) ≡ length (spelled i) = ap length (spelled_one i) in (
      t.0,
      (t.1.0 ++ extra, ap (drop a.offset) e ∙ drop-append-le a.offset bytes extra l ∙ ap (λ (x : List ℕ). x ++ extra) t.1.1 ∙ append_assoc (spelled i) t.1.0 extra),
      t.2,
      successors_stay feed more g a.header a.point.checkpoint i t.3,
      takes_in feed more cat (moved_by (i ∷ []) a) items rest extra g e (omega (arith, l, size, left, one)) t.4,
    )

pub takes_grow : (feed more : Feed) (cat : Catalogue) (a : StreamAt) (items : List Item) (rest : List ℕ) → Grows feed more → a.offset ≤ length (stream_bytes feed a.header.stream) → Takes feed cat a items rest
    → (extra : List ℕ) × Takes more cat a items (rest ++ extra)
takes_grow feed more cat a items rest g l t = let b = bytes_grow feed more g a.header.stream in (b.0, takes_in feed more cat a items rest b.0 g b.1 l t)
