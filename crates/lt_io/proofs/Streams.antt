-- What a call leaves of the streams of a feed in memory, and what a read of one gives.
use Rattle.std.proofs.Common.{List, Result, Some, Vec, Global, [], append-nil, arith, inl, inr, drop, get_or, is_err, length, length-drop, map, min, refl, set, subst, sym, take, take-append-drop, ℕ, ◌++◌, ◌+◌, ◌<◌, ◌∙◌, ◌∷◌, ◌≡◌, ◌≤◌, ◌↔◌, ap}
use Rattle.std.proofs.lemmas.Bool.{cases_lt}
use Rattle.std.proofs.Math.Seq.{map-set_same}
use Rattle.std.proofs.lemmas.List.{drop-drop, drop_all, get_or-map, length-map, map-set, nil_from_length}
use Rattle.std.proofs.lemmas.Option.{unwrap_or-slice_get}
use Rattle.lt_world.specs.Feed.{Feed, Grows, stream_bytes}
use Rattle.lt_world.specs.Feed.{FeedCalled, FeedState}
use Rattle.lt_io.specs.Plan.{GoesByPlan, Plan}
use Rattle.lt_io.proofs.Plans.{cause_by_plan}

grows_itself : (streams : Feed) → Grows streams streams
grows_itself [] = tt
grows_itself (b ∷ bs) = (([], sym (append-nil b)), grows_itself bs)

-- what a feed in memory is, by its streams and its plan
abbrev state_by : Feed → Plan → FeedState
state_by f p = record { told = Some f; known = length f; faults = p.faults; calls = p.made }

-- a call that changes no stream
pub called_by_plan : {T E : Type 0} (f g : Feed) (p q : Plan) (r : Result T E) → g ≡ f → GoesByPlan p q (is_err r) → p.faults ≤ q.faults → p.made ≤ q.made
    → FeedCalled (state_by f p) (state_by g q) r
called_by_plan f g p q r same goes later made = record {
  goes = record { stays = (λ _. refl, λ _. refl); grows = subst (Grows f) (sym same) (grows_itself f); more = omega (arith, ap length same); faults = later; calls = made };
  cause = cause_by_plan p q r goes later;
  counted = omega (arith, ap (λ p. p.made) goes.1);
}

-- ---- reads

-- what is left is what was given and what is left now; nothing is given only at the end
pub consumed : (bytes buf old : List ℕ) (at n : ℕ) → n ≡ min (length (drop at bytes)) (length old) → length buf ≡ length old → take n buf ≡ take n (drop at bytes)
    → (drop at bytes ≡ take n buf ++ drop (at + n) bytes) × (n ≡ 0 → 0 < length buf → drop (at + n) bytes ≡ [])
consumed bytes buf old at n number same front = (
  sym (take-append-drop n (drop at bytes)) ∙ ap (λ l. l ++ drop n (drop at bytes)) (sym front) ∙ ap (λ l. take n buf ++ l) (drop-drop n at bytes),
  λ none room. nil_from_length _ (omega (arith, number, none, room, same, length-drop at bytes, length-drop (at + n) bytes)),
)

same_rest : (bytes : List ℕ) (offset start : ℕ) → start ≡ min (length bytes) offset → drop start bytes ≡ drop offset bytes
same_rest bytes offset start from = elim (cases_lt offset (length bytes)) [
  | inl lt ↦ ap (λ n. drop n bytes) (let e : start ≡ offset = omega (arith, from, lt) in e)
  | inr le ↦ drop_all start bytes (omega (arith, from, le)) ∙ sym (drop_all offset bytes le)
]

-- the stream's bytes from the offset on; none exactly where the stream has no byte there
pub stream_read : (bytes buf old : List ℕ) (offset start n : ℕ) → start ≡ min (length bytes) offset → n ≡ min (length (drop start bytes)) (length old) → 0 < length old → take n buf ≡ take n (drop start bytes)
    → (take n buf ≡ take n (drop offset bytes)) × ((n ≡ 0) ↔ (length bytes ≤ offset))
stream_read bytes buf old offset start n from number room front =
    (front ∙ ap (take n) (same_rest bytes offset start from), (λ none. omega (arith, none, number, from, room, length-drop start bytes), λ past. omega (arith, past, number, from, length-drop start bytes)))

-- ---- one stream

pub stream_at : (streams : List (Vec ℕ Global)) (s : ℕ) (v : Vec ℕ Global) → s < length (map (λ v. v.items) streams) → v ≡ get_or streams s v → v.items ≡ stream_bytes (map (λ v. v.items) streams) s
stream_at streams s v within is =
    let bytes = map (λ (w : Vec ℕ Global). w.items) streams in
    let short : s < length streams = omega (arith, within, length-map streams (λ (w : Vec ℕ Global). w.items)) in
    ap (λ w. w.items) is ∙ sym (get_or-map (λ (w : Vec ℕ Global). w.items) streams s v [] short) ∙ sym (unwrap_or-slice_get bytes s [])

-- ---- a stream that grows

pub with_same : (streams : List (Vec ℕ Global)) (s : ℕ) (v w : Vec ℕ Global) → v ≡ get_or streams s v → w.items ≡ v.items → map (λ v. v.items) (set streams s w) ≡ map (λ v. v.items) streams
with_same streams s v w is same = map-set_same (λ (u : Vec ℕ Global). u.items) streams s w v (same ∙ ap (λ u. u.items) is)

pub with_more : (streams : List (Vec ℕ Global)) (s : ℕ) (v w : Vec ℕ Global) (more : List ℕ) → s < length (map (λ v. v.items) streams) → v ≡ get_or streams s v → w.items ≡ v.items ++ more
    → map (λ v. v.items) (set streams s w) ≡ set (map (λ v. v.items) streams) s (stream_bytes (map (λ v. v.items) streams) s ++ more)
with_more streams s v w more within is grown =
    map-set (λ (u : Vec ℕ Global). u.items) streams s w ∙ ap (set (map (λ (u : Vec ℕ Global). u.items) streams) s) (grown ∙ ap (λ l. l ++ more) (stream_at streams s v within is))
