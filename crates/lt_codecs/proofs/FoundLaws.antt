-- What stands at the front of bytes: exactly one thing, which stays what it is while the bytes grow.
use Rattle.std.proofs.Common.{Bool, List, None, Option, Some, [], ap, arith, cond, drop, false, inl, inr, leb, length, ltb, refl, subst, suc, sym, take, true, ℕ, ◌++◌, ◌+◌, ◌-◌, ◌<◌, ◌^◌, ◌∙◌, ◌∷◌, ◌≡◌, ◌≤◌, ◌⊎◌}
use Rattle.std.proofs.lemmas.List.{drop_at, length-append, length-take, take-append-drop, take-append-le, take_at}
use Rattle.std.specs.Prelude.{IsTrue}
use Rattle.std.proofs.lemmas.Bool.{and_from, le-leb, leb-false, leb-true, lt-leb, lt-ltb, ltb-true}
use Rattle.std.specs.Int.{from_be_bytes, w32}
use Rattle.lt_terms.specs.declared.Format.{Format}
use Rattle.lt_terms.specs.Log.{Found, HasNoValue, IsFound, IsFrame, Item, Opens, batch_item, body, change_item, checkpoint_item, close_item, header_item, is_content, is_item, is_kind, kind_byte, malformed, max_body, partial, spelled, value_bytes, whole}
use Rattle.lt_terms.specs.Value.{Value}
use Rattle.lt_codecs.specs.Codec.{IsBytes, Takes, u32}
use Rattle.lt_codecs.proofs.Codecs.{IsBytes-drop, IsBytes-take, some, spell_apart, u32_is, unread, whole_again, whole_takes}
use Rattle.lt_codecs.specs.LogCodec.{found, found_sized, found_whole, item, item_body, log_value, value}
use Rattle.lt_codecs.proofs.LogTests.{small_limit}
use Rattle.lt_codecs.proofs.ItemCodecs.{item_body_is, item_is}
use Rattle.lt_codecs.proofs.ListFacts.{first, heads, second, tails}
use Rattle.lt_codecs.specs.Front.{DecidesWhole, FindsOne, ReadsValue, ReadsWhole, StaysFound}
use Rattle.lt_codecs.proofs.ValueCodecs.{log_value_is}
use Rattle.lt_terms.specs.Log as log
use Rattle.lt_terms.specs.declared.Format.TheVariants as format
use Rattle.lt_terms.specs.declared.BadFrame.TheVariants as bad
use Rattle.lt_codecs.specs.Codec as codec

-- ---- the front that a codec takes

front_is : (bytes text rest : List ℕ) → bytes ≡ text ++ rest → (length bytes - length rest ≤ length bytes) × (take (length bytes - length rest) bytes ≡ text) × (drop (length bytes - length rest) bytes ≡ rest)
front_is bytes text rest e =
    let n = length bytes - length rest in
    let len : length text ≡ n = omega (arith, length-append text rest, ap length e) in
    (omega arith, ap (take n) e ∙ take_at text rest n len, ap (drop n) e ∙ drop_at text rest n len)

split_at : (n : ℕ) (bytes text : List ℕ) → take n bytes ≡ text → bytes ≡ text ++ drop n bytes
split_at n bytes text e = sym (take-append-drop n bytes) ∙ ap (λ (t : List ℕ). t ++ drop n bytes) e

-- ---- frames and their parts

u32_spells : (n : ℕ) (rest : List ℕ) → n < 2 ^ 32 → u32.read (log.u32 n ++ rest) ≡ Some (n, rest)
unfolding u32
u32_spells n rest h = u32_is.again n rest h

pub kind_is : (f : Format) (i : Item) → IsTrue (is_content f i) → IsTrue (is_kind f (kind_byte i))
kind_is format.One (header_item h) l = refl
kind_is format.One (change_item c) l = refl
kind_is format.One (checkpoint_item t) l = refl
kind_is format.One (batch_item t cs) l = absurd cc
kind_is format.One (close_item n count) l = absurd cc
kind_is format.Two (header_item h) l = refl
kind_is format.Two (change_item c) l = refl
kind_is format.Two (checkpoint_item t) l = refl
kind_is format.Two (batch_item t cs) l = refl
kind_is format.Two (close_item n count) l = refl

-- what reading gives where a frame opens
opened : (f : Format) (bytes : List ℕ) (k l : ℕ) (rest : List ℕ) → Opens f bytes k l rest → found f bytes ≡ cond (leb l (length rest)) (found_whole (5 + l) (codec.whole (item_body f k) (take l rest))) partial
unfolding found
opened f bytes k l rest o =
    let below : l < 2 ^ 32 = omega (arith, o.small, small_limit f) in
    ap (found f) o.spells
    ∙ ap (λ (b : Bool). cond b (found_sized f k (u32.read (log.u32 l ++ rest))) (malformed (bad.Kind k))) o.kind
    ∙ ap (found_sized f k) (u32_spells l rest below)
    ∙ ap (λ (b : Bool). cond b (cond (leb l (length rest)) (found_whole (5 + l) (codec.whole (item_body f k) (take l rest))) partial) (malformed (bad.Length l))) (le-leb l (max_body f) o.small)

-- a body that is read makes a frame
framed : (f : Format) (k l : ℕ) (rest : List ℕ) (i : Item) → IsBytes (take l rest) → l ≤ max_body f → l ≤ length rest → codec.whole (item_body f k) (take l rest) ≡ Some i → IsFrame f i (k ∷ (log.u32 l ++ take l rest))
unfolding spelled item_body
framed f k l rest i fits small long e =
    let w = whole_takes (item_body f k) (item_body_is f k) (take l rest) i fits e in
    let len : length (body i) ≡ l = sym (ap length w.0) ∙ length_taken in
    record {
      lawful = and_from (is_content f i) _ w.1.1 (le-leb _ _ (omega (arith, small, len)));
      spells = ap (λ (b : List ℕ). k ∷ (log.u32 l ++ b)) w.0 ∙ ap (λ (n : ℕ). k ∷ (log.u32 n ++ body i)) (sym len) ∙ ap (λ (n : ℕ). n ∷ log.bytes32 (body i)) (sym w.1.0);
    } where
      length_taken : length (take l rest) ≡ l
      length_taken = omega (arith, length-take l rest, long)

-- a frame is a kind, a length and a body
body_at : (f : Format) (i : Item) (k l : ℕ) (text : List ℕ) → l < 2 ^ 32 → IsFrame f i (k ∷ (log.u32 l ++ text)) → (kind_byte i ≡ k) × (length (body i) ≡ l) × (text ≡ body i)
unfolding spelled u32
body_at f i k l text below frame =
    let kind = heads k (kind_byte i) (log.u32 l ++ text) (log.bytes32 (body i)) frame.spells in
    let on = tails k (kind_byte i) (log.u32 l ++ text) (log.bytes32 (body i)) frame.spells in
    let short : length (body i) < 2 ^ 32 = omega (arith, leb-true (length (body i)) (max_body f) (second (is_content f i) _ frame.lawful), small_limit f) in
    let apart = spell_apart u32 u32_is l (length (body i)) text (body i) below short on in
    (sym kind, sym apart.0, apart.1)

-- a frame's body is read
body_read : (f : Format) (i : Item) → IsTrue (is_item f i) → codec.whole (item_body f (kind_byte i)) (body i) ≡ Some i
unfolding item_body
body_read f i h = whole_again (item_body f (kind_byte i)) (item_body_is f (kind_byte i)) i (refl, first (is_content f i) _ h)

-- a body that is not read makes no frame
unframed : (f : Format) (k l : ℕ) (text : List ℕ) → l < 2 ^ 32 → codec.whole (item_body f k) text ≡ None → (i : Item) → IsFrame f i (k ∷ (log.u32 l ++ text)) → ⊥
unframed f k l text below none i frame =
    let at = body_at f i k l text below frame in
    let read : codec.whole (item_body f k) text ≡ Some i = ap (λ (n : ℕ). codec.whole (item_body f n) text) (sym at.0) ∙ ap (codec.whole (item_body f (kind_byte i))) at.2 ∙ body_read f i frame.lawful in
    let clash : some_item i ≡ None = sym read ∙ none in
    absurd cc
  where
    some_item : Item → Option Item
    some_item i = Some i

-- ---- what is found is there

whole_found : (f : Format) (bytes : List ℕ) (k l : ℕ) (rest : List ℕ) → IsBytes rest → Opens f bytes k l rest → l ≤ length rest → (o : Option Item) → codec.whole (item_body f k) (take l rest) ≡ o
    → IsFound f bytes (found_whole (5 + l) o)
whole_found f bytes k l rest fits o long None e = (k, l, rest, o, long, unframed f k l (take l rest) (omega (arith, o.small, small_limit f)) e)
whole_found f bytes k l rest fits o long (Some i) e =
    let text = k ∷ (log.u32 l ++ take l rest) in
    let after = drop l rest in
    let parts : bytes ≡ text ++ after = o.spells ∙ ap (λ (r : List ℕ). k ∷ (log.u32 l ++ r)) (sym (take-append-drop l rest)) in
    let len : length text ≡ 5 + l = omega (arith, length-take l rest, long) in
    let front : take (5 + l) bytes ≡ text = ap (take (5 + l)) parts ∙ take_at text after (5 + l) len in
    let enough : 5 + l ≤ length bytes = omega (arith, ap length parts, length-append text after, len) in
    (enough, subst (IsFrame f i) (sym front) (framed f k l rest i (IsBytes-take l rest fits) o.small long e))

opened_found : (f : Format) (bytes : List ℕ) (k l : ℕ) (rest : List ℕ) → IsBytes rest → Opens f bytes k l rest → (b : Bool) → leb l (length rest) ≡ b
    → IsFound f bytes (cond b (found_whole (5 + l) (codec.whole (item_body f k) (take l rest))) partial)
opened_found f bytes k l rest fits o true e = whole_found f bytes k l rest fits o (leb-true l (length rest) e) (codec.whole (item_body f k) (take l rest)) refl
opened_found f bytes k l rest fits o false e = inr (inr (k, l, rest, o, leb-false l (length rest) e))

-- too few bytes for a length
u32_none : (bytes : List ℕ) → u32.read bytes ≡ None → length bytes < 4
unfolding u32
u32_none bytes e = by_test (ltb (length bytes) 4) refl e
  where
    nothing : Option (ℕ × List ℕ)
    nothing = None

    by_test : (b : Bool) → ltb (length bytes) 4 ≡ b → cond b nothing (Some (from_be_bytes w32 (take 4 bytes), drop 4 bytes)) ≡ nothing → length bytes < 4
    by_test true is e = ltb-true (length bytes) 4 is
    by_test false is e = absurd cc

found_none : (f : Format) (k : ℕ) (bytes : List ℕ) → IsTrue (is_kind f k) → (o : Option (ℕ × List ℕ)) → u32.read bytes ≡ o → IsBytes bytes → IsFound f (k ∷ bytes) (found_sized f k o)
unfolding u32
found_none f k bytes kind None e fits = inr (inl (k, bytes, kind, refl, u32_none bytes e))
found_none f k bytes kind (Some l) e fits =
    let t = u32_is.takes bytes l.0 l.1 fits e in
    by_limit (leb l.0 (max_body f)) refl t.0 t.1
  where
    by_limit : (b : Bool) → leb l.0 (max_body f) ≡ b → Takes bytes (log.u32 l.0) l.1 → l.0 < 2 ^ 32
        → IsFound f (k ∷ bytes) (cond b (cond (leb l.0 (length l.1)) (found_whole (5 + l.0) (codec.whole (item_body f k) (take l.0 l.1))) partial) (malformed (bad.Length l.0)))
    by_limit true is t below = opened_found f (k ∷ bytes) k l.0 l.1 t.rest_fits (record { kind = kind; small = leb-true l.0 (max_body f) is; spells = ap (λ (b : List ℕ). k ∷ b) t.parts }) (leb l.0 (length l.1)) refl
    by_limit false is t below = (k, l.1, kind, leb-false l.0 (max_body f) is, below, ap (λ (b : List ℕ). k ∷ b) t.parts)

pub found_is_there : (f : Format) (bytes : List ℕ) → IsBytes bytes → IsFound f bytes (found f bytes)
unfolding found
found_is_there f [] fits = inl refl
found_is_there f (k ∷ bytes) fits = by_kind (is_kind f k) refl
  where
    by_kind : (b : Bool) → is_kind f k ≡ b → IsFound f (k ∷ bytes) (cond b (found_sized f k (u32.read bytes)) (malformed (bad.Kind k)))
    by_kind true is = found_none f k bytes is (u32.read bytes) refl (λ i. fits (suc i))
    by_kind false is = (bytes, refl, is)

-- ---- and nothing else is

whole_is_found : (f : Format) (bytes : List ℕ) (i : Item) (n : ℕ) → IsFound f bytes (whole i n) → whole i n ≡ found f bytes
unfolding spelled
whole_is_found f bytes i n h =
    let l = length (body i) in
    let after = drop n bytes in
    let small : l ≤ max_body f = leb-true l (max_body f) (second (is_content f i) _ h.1.lawful) in
    let parts : bytes ≡ spelled i ++ after = split_at n bytes (spelled i) h.1.spells in
    let o : Opens f bytes (kind_byte i) l (body i ++ after) = record { kind = kind_is f i (first (is_content f i) _ h.1.lawful); small = small; spells = parts } in
    let long : leb l (length (body i ++ after)) ≡ true = le-leb l _ (omega (arith, length-append (body i) after)) in
    let text : take l (body i ++ after) ≡ body i = take_at (body i) after l refl in
    let len : length (spelled i) ≡ n = sym (ap length h.1.spells) ∙ length_taken in
    let five : 5 + l ≡ n = sym five_more ∙ len in
    let is : found f bytes ≡ whole i (5 + l) =
    opened f bytes (kind_byte i) l (body i ++ after) o
    ∙ ap (λ (b : Bool). cond b (found_whole (5 + l) (codec.whole (item_body f (kind_byte i)) (take l (body i ++ after)))) partial) long
    ∙ ap (λ (t : List ℕ). found_whole (5 + l) (codec.whole (item_body f (kind_byte i)) t)) text
    ∙ ap (found_whole (5 + l)) (body_read f i h.1.lawful) in
    sym (is ∙ ap (whole i) five)
  where
    length_taken : length (take n bytes) ≡ n
    length_taken = omega (arith, length-take n bytes, h.0)

    five_more : length (spelled i) ≡ 5 + length (body i)
    five_more = omega arith

body_is_found : (f : Format) (bytes : List ℕ) (k l : ℕ) (rest : List ℕ) → IsBytes rest → Opens f bytes k l rest → l ≤ length rest → ((i : Item) → IsFrame f i (k ∷ (log.u32 l ++ take l rest)) → ⊥)
    → (o : Option Item) → codec.whole (item_body f k) (take l rest) ≡ o → malformed bad.Body ≡ found_whole (5 + l) o
body_is_found f bytes k l rest fits o long never None e = refl
body_is_found f bytes k l rest fits o long never (Some i) e = absurd (never i (framed f k l rest i (IsBytes-take l rest fits) o.small long e))

rest_fits : (k l : ℕ) (bytes rest : List ℕ) → bytes ≡ k ∷ (log.u32 l ++ rest) → IsBytes bytes → IsBytes rest
rest_fits k l bytes rest e fits = subst (λ (b : List ℕ). IsBytes (drop 5 b)) e (IsBytes-drop 5 bytes fits)

pub only_found : (f : Format) (bytes : List ℕ) → IsBytes bytes → (x : Found) → IsFound f bytes x → x ≡ found f bytes
unfolding found u32
only_found f bytes fits (whole i n) h = whole_is_found f bytes i n h
only_found f bytes fits partial (inl e) = sym (ap (found f) e)
only_found f bytes fits partial (inr (inl h)) =
    let k = h.0 in
    let rest = h.1 in
    sym (ap (found f) h.3
    ∙ ap (λ (b : Bool). cond b (found_sized f k (u32.read rest)) (malformed (bad.Kind k))) h.2
    ∙ ap (λ (b : Bool). found_sized f k (cond b None (Some (from_be_bytes w32 (take 4 rest), drop 4 rest)))) (lt-ltb (length rest) 4 h.4))
only_found f bytes fits partial (inr (inr h)) =
    sym (opened f bytes h.0 h.1 h.2 h.3 ∙ ap (λ (b : Bool). cond b (found_whole (5 + h.1) (codec.whole (item_body f h.0) (take h.1 h.2))) partial) (lt-leb h.1 (length h.2) h.4))
only_found f bytes fits (malformed (bad.Kind k)) h = sym (ap (found f) h.1 ∙ ap (λ (b : Bool). cond b (found_sized f k (u32.read h.0)) (malformed (bad.Kind k))) h.2)
only_found f bytes fits (malformed (bad.Length l)) h =
    let k = h.0 in
    let rest = h.1 in
    sym (ap (found f) h.5
    ∙ ap (λ (b : Bool). cond b (found_sized f k (u32.read (log.u32 l ++ rest))) (malformed (bad.Kind k))) h.2
    ∙ ap (found_sized f k) (u32_spells l rest h.4)
    ∙ ap (λ (b : Bool). cond b (cond (leb l (length rest)) (found_whole (5 + l) (codec.whole (item_body f k) (take l rest))) partial) (malformed (bad.Length l))) (lt-leb l (max_body f) h.3))
only_found f bytes fits (malformed bad.Body) h =
    let k = h.0 in
    let l = h.1 in
    let rest = h.2 in
    let o = h.3 in
    body_is_found f bytes k l rest (rest_fits k l bytes rest o.spells fits) o h.4 h.5 (codec.whole (item_body f k) (take l rest)) refl
    ∙ ap (λ (b : Bool). cond b (found_whole (5 + l) (codec.whole (item_body f k) (take l rest))) partial) (sym (le-leb l (length rest) h.4))
    ∙ sym (opened f bytes k l rest o)

pub finds_one : FindsOne
finds_one f bytes fits = (found_is_there f bytes fits, only_found f bytes fits)

-- ---- whole items

-- reading an item makes it found whole
read_is_found : (f : Format) (bytes : List ℕ) (i : Item) (rest : List ℕ) → IsBytes bytes → (item f).read bytes ≡ Some (i, rest) → IsFound f bytes (whole i (length bytes - length rest))
unfolding item
read_is_found f bytes i rest fits e =
    let t = (item_is f).takes bytes i rest fits e in
    let front = front_is bytes (spelled i) rest t.0.parts in
    (front.0, record { lawful = t.1; spells = front.1 })

found_is_read : (f : Format) (bytes : List ℕ) (i : Item) (n : ℕ) → IsFound f bytes (whole i n) → (item f).read bytes ≡ Some (i, drop n bytes)
unfolding item
found_is_read f bytes i n h = ap (item f).read (split_at n bytes (spelled i) h.1.spells) ∙ (item_is f).again i (drop n bytes) h.1.lawful

pub reads_whole : ReadsWhole
reads_whole f bytes fits = (λ i rest e. read_is_found f bytes i rest fits e, λ i n h. found_is_read f bytes i n h)

pub decides_whole : DecidesWhole
decides_whole f bytes fits = by_read ((item f).read bytes) refl
  where
    clash : (i : Item) (n : ℕ) → some {A = Item × List ℕ} (i, drop n bytes) ≡ None → ⊥
    clash i n e = absurd cc

    by_read : (o : Option (Item × List ℕ)) → (item f).read bytes ≡ o → ((i : Item) × (n : ℕ) × IsFound f bytes (whole i n)) ⊎ ((i : Item) (n : ℕ) → IsFound f bytes (whole i n) → ⊥)
    by_read (Some x) e = inl (x.0, length bytes - length x.1, read_is_found f bytes x.0 x.1 fits e)
    by_read None e = inr (λ i n h. clash i n (sym (found_is_read f bytes i n h) ∙ e))

-- an item that is found whole is the front, and the rest is behind it
pub whole_splits : (f : Format) (bytes : List ℕ) (i : Item) (n : ℕ) → IsFound f bytes (whole i n) → (bytes ≡ spelled i ++ drop n bytes) × (n ≡ 5 + length (body i))
unfolding spelled
whole_splits f bytes i n h =
    let taken : length (take n bytes) ≡ n = omega (arith, length-take n bytes, h.0) in
    let spells : length (take n bytes) ≡ 5 + length (body i) = omega (arith, ap length h.1.spells) in
    (split_at n bytes (spelled i) h.1.spells, sym taken ∙ spells)

-- ---- bytes that grow

pub stays_found : StaysFound
stays_found f bytes more (whole i n) last h = (omega (arith, h.0, length-append bytes more), record { lawful = h.1.lawful; spells = take-append-le n bytes more h.0 ∙ h.1.spells })
stays_found f bytes more partial last h = absurd (last refl)
stays_found f bytes more (malformed (bad.Kind k)) last h = (h.0 ++ more, ap (λ (b : List ℕ). b ++ more) h.1, h.2)
stays_found f bytes more (malformed (bad.Length l)) last h = (h.0, h.1 ++ more, h.2, h.3, h.4, ap (λ (b : List ℕ). b ++ more) h.5)
stays_found f bytes more (malformed bad.Body) last h =
    let k = h.0 in
    let l = h.1 in
    let rest = h.2 in
    let same : take l (rest ++ more) ≡ take l rest = take-append-le l rest more h.4 in
    let never = λ (i : Item) (frame : IsFrame f i (k ∷ (log.u32 l ++ take l (rest ++ more)))). h.5 i (subst (λ (t : List ℕ). IsFrame f i (k ∷ (log.u32 l ++ t))) same frame) in
    (k, l, rest ++ more, record { kind = h.3.kind; small = h.3.small; spells = ap (λ (b : List ℕ). b ++ more) h.3.spells }, omega (arith, h.4, length-append rest more), never)

-- ---- values

value_read : (bytes : List ℕ) (v : Value) (rest : List ℕ) → IsBytes bytes → log_value.read bytes ≡ Some (v, rest) → log.IsValueFront bytes v (length bytes - length rest) × (rest ≡ drop (length bytes - length rest) bytes)
unfolding log_value value
value_read bytes v rest fits e =
    let t = log_value_is.takes bytes v rest fits e in
    let front = front_is bytes (value_bytes v) rest t.0.parts in
    ((t.1, front.0, front.1), sym front.2)

value_unread : (bytes : List ℕ) → log_value.read bytes ≡ None → HasNoValue bytes
unfolding log_value value
value_unread bytes none v n h = unread log_value log_value_is bytes none v (drop n bytes) h.0 (split_at n bytes (value_bytes v) h.2)

pub reads_value : ReadsValue
reads_value bytes fits = (λ v rest e. value_read bytes v rest fits e, λ none. value_unread bytes none)
