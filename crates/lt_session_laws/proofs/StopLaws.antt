-- From where a stream stands a pump takes what the stream's front has next, and all of it where what stands next stops the pump.
use Rattle.std.proofs.Common.{List, [], ap, append-nil, append_assoc, arith, drop, inl, inr, length, refl, subst, suc, sym, take, zero, ℕ, ◌++◌, ◌+◌, ◌<◌, ◌∙◌, ◌∷◌, ◌≡◌, ◌≤◌}
use Rattle.std.specs.Prelude.{IsTrue, None, Option, Some, flat_map, is_none, ◌^◌}
use Rattle.std.proofs.lemmas.Bool.{and_parts, false≢true, leb-true}
use Rattle.std.proofs.lemmas.List.{length-append, take-append-drop, take_at}
use Rattle.lt_terms.specs.Log.{Header, IsFound, Item, body, close_item, is_content, is_item, is_kind, kind_byte, malformed, max_body, partial, spelled}
use Rattle.lt_terms.specs.declared.Format.{Format}
use Rattle.lt_terms.specs.declared.BadFrame.{BadFrame}
use Rattle.lt_terms.specs.Key.{Range}
use Rattle.lt_world.specs.Feed.{Feed, stream_bytes}
use Rattle.lt_tables.specs.Fair.{AllSuccessorsStand, AreSuccessors, FirstMissing, IsPrefix, SuccessorsStand, breaks, breaks_at, checkpoint_of, is_closed, point_of, tiles_range}
use Rattle.lt_tables.specs.Schema.{Catalogue}
use Rattle.lt_tables.specs.Pump.{Stop, StopsBy, StreamAt, Takes, at_count, at_end, at_malformed, at_partial, at_successor, at_unfair, moved_by}
use Rattle.lt_machine.specs.Sound.{Stands}
use Rattle.lt_machine.specs.Laws.{PumpLaws}
use Rattle.lt_codecs.specs.Codec.{u32}
use Rattle.lt_codecs.proofs.Codecs.{spell_apart, u32_is}
use Rattle.lt_codecs.proofs.ListFacts.{all_rest, heads, tails}
use Rattle.lt_codecs.proofs.LogTests.{small_limit}
use Rattle.lt_codecs.proofs.FoundLaws.{kind_is, whole_splits}
use Rattle.lt_codecs.proofs.LogLaws.{frames_prefix_free}
use Rattle.lt_lemmas.proofs.PointLaws.{none, point_suffices}
use Rattle.lt_lemmas.proofs.TakenLaws.{moved_append, takes_append, takes_grow, takes_rest}
use Rattle.lt_laws.proofs.FrontLaws.{Front, fair_front, header_unique}
use Rattle.lt_laws.proofs.SoundLaws.{checkpoint-is}
use Rattle.lt_laws.proofs.TakenLaws.{behind_spells, moved_behind, stream_behind, taken_goes_on, with_items_append}
use Rattle.lt_session_laws.proofs.PumpLaws.{stands_behind}
use Rattle.lt_terms.specs.Log as log
use Rattle.lt_terms.specs.declared.BadFrame.TheVariants as bad

-- ---- what stands whole is neither partial nor malformed

lawful_body : (f : Format) (i : Item) → IsTrue (is_item f i) → IsTrue (is_content f i) × (length (body i) ≤ max_body f)
lawful_body f i l = let p = and_parts (is_content f i) _ l in (p.0, leb-true (length (body i)) (max_body f) p.1)

-- a kind, a length and what follows, at the front of the item's frame
sized : (f : Format) (i : Item) (k l : ℕ) (rest more : List ℕ) → IsTrue (is_item f i) → l < 2 ^ 32 → k ∷ (log.u32 l ++ rest) ≡ spelled i ++ more → (k ≡ kind_byte i) × (l ≡ length (body i)) × (rest ≡ body i ++ more)
unfolding spelled u32
sized f i k l rest more lawful below e =
    let b = lawful_body f i lawful in
    let n = length (body i) in
    let kind = heads k (kind_byte i) (log.u32 l ++ rest) (log.bytes32 (body i) ++ more) e in
    let on = tails k (kind_byte i) (log.u32 l ++ rest) (log.bytes32 (body i) ++ more) e in
    let short : n < 2 ^ 32 = omega (arith, b.1, small_limit f) in
    let apart = spell_apart u32 u32_is l n rest (body i ++ more) below short (on ∙ append_assoc (log.u32 n) (body i) more) in
    (kind, apart.0, apart.1)

five : (i : Item) → length (spelled i) ≡ 5 + length (body i)
unfolding spelled
five i = omega arith

first_is : (i : Item) (k : ℕ) (rest more : List ℕ) → k ∷ rest ≡ spelled i ++ more → k ≡ kind_byte i
unfolding spelled
first_is i k rest more e = heads k (kind_byte i) rest (log.bytes32 (body i) ++ more) e

not_partial : (f : Format) (i : Item) (bytes more : List ℕ) → IsTrue (is_item f i) → bytes ≡ spelled i ++ more → IsFound f bytes partial → ⊥
not_partial f i bytes more lawful e (inl z) = let n : length bytes ≡ length (spelled i) + length more = ap length e ∙ length-append (spelled i) more in absurd (omega (arith, n, five i, ap length z))
not_partial f i bytes more lawful e (inr (inl h)) =
    let n : length bytes ≡ length (spelled i) + length more = ap length e ∙ length-append (spelled i) more in absurd (omega (arith, n, five i, ap length h.3, h.4))
not_partial f i bytes more lawful e (inr (inr h)) =
    let s = sized f i h.0 h.1 h.2 more lawful (omega (arith, h.3.small, small_limit f)) (sym h.3.spells ∙ e) in
    absurd (omega (arith, s.1, ap length s.2, length-append (body i) more, h.4))

frame_of : (i : Item) (k l : ℕ) (text : List ℕ) → k ≡ kind_byte i → l ≡ length (body i) → text ≡ body i → k ∷ (log.u32 l ++ text) ≡ spelled i
unfolding spelled
frame_of i k l text a b c = ap (λ (n : ℕ). n ∷ (log.u32 l ++ text)) a ∙ ap (λ (n : ℕ). kind_byte i ∷ (log.u32 n ++ text)) b ∙ ap (λ (t : List ℕ). kind_byte i ∷ (log.u32 (length (body i)) ++ t)) c

not_malformed : (f : Format) (i : Item) (bytes more : List ℕ) (b : BadFrame) → IsTrue (is_item f i) → bytes ≡ spelled i ++ more → IsFound f bytes (malformed b) → ⊥
not_malformed f i bytes more (bad.Kind k) lawful e h =
    let d : k ≡ kind_byte i = first_is i k h.0 more (sym h.1 ∙ e) in
    absurd (false≢true (sym h.2 ∙ ap (is_kind f) d ∙ kind_is f i (lawful_body f i lawful).0))
not_malformed f i bytes more (bad.Length l) lawful e h =
    let s = sized f i h.0 l h.1 more lawful h.4 (sym h.5 ∙ e) in
    absurd (omega (arith, s.1, (lawful_body f i lawful).1, h.3))
not_malformed f i bytes more bad.Body lawful e h =
    let s = sized f i h.0 h.1 h.2 more lawful (omega (arith, h.3.small, small_limit f)) (sym h.3.spells ∙ e) in
    let text : take h.1 h.2 ≡ body i = ap (take h.1) s.2 ∙ take_at (body i) more h.1 (sym s.1) in
    absurd (h.5 i (record { lawful = lawful; spells = frame_of i h.0 h.1 (take h.1 h.2) s.0 s.1 text }))

-- ---- successors that stand are not missing

none_missing : (feed : Feed) (h : Header) (t first count : ℕ) (needed : Option (List ℕ)) (n : ℕ) (r : Range) (gs : List Header) → length gs ≡ count → AreSuccessors feed h t first gs → tiles_range r gs → r.high ≡ h.range.high
    → needed ≡ Some r.low → FirstMissing feed h t first count needed n → ⊥
none_missing feed h t first zero needed n r gs l a tiles high low m = absurd m
none_missing feed h t first (suc count) needed n r [] l a tiles high low m = absurd tiles
none_missing feed h t first (suc count) needed n r (g ∷ []) l a tiles high low (inl m) =
    m.1 g ((a.0, a.1, a.2, a.3, tt), low ∙ ap (λ (x : Range). Some x.low) (sym tiles), λ z. ap (λ (x : Range). x.high) tiles ∙ high)
none_missing feed h t first (suc count) needed n r (g ∷ []) l a tiles high low (inr m) =
    let none_left : count ≡ 0 = omega (arith, l) in absurd (subst (λ (c : ℕ). FirstMissing feed h t (first + 1) c m.0.range.high n) none_left m.2)
none_missing feed h t first (suc count) needed n r (g ∷ other ∷ gs) l a tiles high low (inl m) =
    m.1 g ((a.0, a.1, a.2, a.3, tt), low ∙ ap Some (sym tiles.0), λ z. absurd (omega (arith, l, z)))
none_missing feed h t first (suc count) needed n r (g ∷ other ∷ gs) l a tiles high low (inr m) =
    let is : m.0 ≡ g = header_unique frames_prefix_free feed first m.0 g m.1.0.0 a.0 in
    none_missing feed h t (first + 1) count m.0.range.high n (record r { low = tiles.2 }) (other ∷ gs) (omega (arith, l)) a.4 tiles.4 high (ap (λ (x : Header). x.range.high) is ∙ tiles.3) m.2

-- ---- what stands next in the front stops no pump

successors_at : (feed : Feed) (h : Header) (before items js : List Item) (i : Item) → AllSuccessorsStand feed h before (items ++ i ∷ js) → SuccessorsStand feed h (checkpoint_of h (before ++ items)) i
successors_at feed h before [] js i a = subst (λ (x : List Item). SuccessorsStand feed h (checkpoint_of h x) i) (sym (append-nil before)) a.0
successors_at feed h before (j ∷ items) js i a = subst (λ (x : List Item). SuccessorsStand feed h (checkpoint_of h x) i) (append_assoc before (j ∷ []) items) (successors_at feed h (before ++ j ∷ []) items js i a.1)

-- behind some items of a front its next item
record StandsNext (feed : Feed) (cat : Catalogue) (h : Header) (done : List Item) (i : Item) (rest : List ℕ) : Type 0 where
  lawful : IsTrue (is_item h.format i)
  follows : breaks_at h cat (is_closed done) (point_of h done) i ≡ None
  successors : SuccessorsStand feed h (point_of h done).checkpoint i
  more : List ℕ
  spells : rest ≡ spelled i ++ more

next_stands : (feed : Feed) (cat : Catalogue) (h : Header) (done js : List Item) (i : Item) (rest : List ℕ) → IsPrefix feed cat h (done ++ i ∷ js) → rest ≡ drop (stream_behind h done).offset (stream_bytes feed h.stream) → StandsNext feed cat h done i rest
next_stands feed cat h done js i rest p e =
    let f = fair_front h cat done (i ∷ js) p.fair in record {
      lawful = (all_rest (λ i. IsTrue (is_item h.format i)) done (i ∷ js) p.lawful).0;
      follows = point_suffices.test h cat done i f.0 ∙ none (breaks h cat done i) (and_parts (is_none (breaks h cat done i)) _ f.1).0;
      successors = subst (λ (t : ℕ). SuccessorsStand feed h t i) (sym (checkpoint-is h done)) (successors_at feed h [] done js i p.successors);
      more = flat_map spelled js ++ p.rest;
      spells = e ∙ behind_spells feed cat h done (i ∷ js) p ∙ append_assoc (spelled i) (flat_map spelled js) p.rest;
    }

-- an item that is found whole is the one that stands there
whole_is : (f : Format) (i j : Item) (n : ℕ) (rest more : List ℕ) → IsTrue (is_item f i) → rest ≡ spelled i ++ more → IsFound f rest (log.whole j n) → i ≡ j
whole_is f i j n rest more lawful e found = (frames_prefix_free f i j more (drop n rest) lawful found.1.lawful (sym e ∙ (whole_splits f rest j n found).0)).0

none_closed : (feed : Feed) (h : Header) (t first count n : ℕ) → SuccessorsStand feed h t (close_item first count) → FirstMissing feed h t first count (Some h.range.low) n → ⊥
none_closed feed h t first count n s m = none_missing feed h t first count (Some h.range.low) n h.range s.0 s.1 s.2 s.3 refl refl m

never_stops : (feed : Feed) (cat : Catalogue) (h : Header) (done : List Item) (i : Item) (rest : List ℕ) → StandsNext feed cat h done i rest → (stop : Stop) → StopsBy feed cat (stream_behind h done) rest stop → ⊥
never_stops feed cat h done i rest x at_count s = absurd s
never_stops feed cat h done i rest x at_end s =
    let n : length rest ≡ length (spelled i) + length x.more = ap length x.spells ∙ length-append (spelled i) x.more in absurd (omega (arith, n, five i, ap length s))
never_stops feed cat h done i rest x at_partial s = not_partial h.format i rest x.more x.lawful x.spells s.1
never_stops feed cat h done i rest x (at_malformed b) s = not_malformed h.format i rest x.more b x.lawful x.spells s
never_stops feed cat h done i rest x (at_unfair u) s =
    let same_item : i ≡ s.0 = whole_is h.format i s.0 s.1 rest x.more x.lawful x.spells s.2 in
    let d : Some u ≡ None = sym s.3 ∙ ap (breaks_at h cat (is_closed done) (point_of h done)) (sym same_item) ∙ x.follows in cc
never_stops feed cat h done i rest x (at_successor t) s =
    let same_item : i ≡ close_item s.0 s.1 = whole_is h.format i (close_item s.0 s.1) s.2 rest x.more x.lawful x.spells s.3 in
    none_closed feed h (point_of h done).checkpoint s.0 s.1 t (subst (SuccessorsStand feed h (point_of h done).checkpoint) same_item x.successors) s.5

-- ---- what is taken from a place of the front

-- what is taken is what the front has next
pub taken_next : (feed : Feed) (cat : Catalogue) (f : Header × List Item) (a : StreamAt) (items : List Item) (rest : List ℕ) → IsPrefix feed cat f.0 f.1 → a.header ≡ f.0 → (k : Stands f a) → Takes feed cat a items rest
    → Front items (drop k.0 f.1)
taken_next feed cat f a items rest p h k t =
    taken_goes_on feed cat f.0 (take k.0 f.1) (drop k.0 f.1) items rest (subst (IsPrefix feed cat f.0) (sym (take-append-drop k.0 f.1)) p) (subst (λ (x : StreamAt). Takes feed cat x items rest) (stands_behind f a h k) t)

all_left : (feed : Feed) (cat : Catalogue) (h : Header) (before items more : List Item) (rest : List ℕ) (stop : Stop) → IsPrefix feed cat h (before ++ (items ++ more)) → Takes feed cat (stream_behind h before) items rest
    → StopsBy feed cat (moved_by items (stream_behind h before)) rest stop → more ≡ []
all_left feed cat h before items [] rest stop p t s = refl
all_left feed cat h before items (i ∷ js) rest stop p t s =
    let q : IsPrefix feed cat h ((before ++ items) ++ i ∷ js) = subst (IsPrefix feed cat h) (sym (append_assoc before items (i ∷ js))) p in
    let moved : moved_by items (stream_behind h before) ≡ stream_behind h (before ++ items) = moved_behind h cat before items (fair_front h cat (before ++ items) (i ∷ js) q.fair).0 in
    let at : rest ≡ drop (stream_behind h (before ++ items)).offset (stream_bytes feed h.stream) = takes_rest feed cat (stream_behind h before) items rest t ∙ ap (λ (x : StreamAt). drop x.offset (stream_bytes feed h.stream)) moved in
    absurd (never_stops feed cat h (before ++ items) i rest (next_stands feed cat h (before ++ items) js i rest q at) stop (subst (λ (x : StreamAt). StopsBy feed cat x rest stop) moved s))

-- and it is all that is left where what stands next stops the pump
pub taken_all : (feed : Feed) (cat : Catalogue) (f : Header × List Item) (a : StreamAt) (items : List Item) (rest : List ℕ) (stop : Stop) → IsPrefix feed cat f.0 f.1 → a.header ≡ f.0 → (k : Stands f a) → Takes feed cat a items rest
    → StopsBy feed cat (moved_by items a) rest stop → drop k.0 f.1 ≡ items
taken_all feed cat f a items rest stop p h k t s =
    let front = taken_next feed cat f a items rest p h k t in
    let before = take k.0 f.1 in
    let e : a ≡ stream_behind f.0 before = stands_behind f a h k in
    let whole : f.1 ≡ before ++ (items ++ front.0) = sym (take-append-drop k.0 f.1) ∙ ap (λ (x : List Item). before ++ x) front.1 in
    let none_left = all_left feed cat f.0 before items front.0 rest stop (subst (IsPrefix feed cat f.0) whole p) (subst (λ (x : StreamAt). Takes feed cat x items rest) e t) (subst (λ (x : StreamAt). StopsBy feed cat (moved_by items x) rest stop) e s) in
    front.1 ∙ ap (λ (x : List Item). items ++ x) none_left ∙ append-nil items

-- ---- all of these

pub pump_laws : PumpLaws
pump_laws = record {
  front = taken_next;
  all = taken_all;
  goes_on = takes_append;
  moved = moved_append;
  left = with_items_append;
  grows = takes_grow;
}
