-- The tests of a change, one after the other, and what is known of a check that took a list of items.
use Rattle.std.proofs.Common.{List, None, [], ap, append-nil, append_assoc, ap₂, false, refl, sym, true, ℕ, ◌++◌, ◌∙◌, ◌∷◌, ◌≡◌}
use Rattle.std.specs.Prelude.{Err, Ok, OnOk, is_none, nat_le, not, option_and_then, ◌||◌}
use Rattle.std.specs.Option.{option_map_or, option_or}
use Rattle.std.specs.declared.result.Result.{Result}
use Rattle.std.proofs.lemmas.Bool.{and_from, and_parts, or_parts}
use Rattle.lt_terms.specs.Key.{in_range}
use Rattle.lt_terms.specs.Log.{Change, Header, Item, change_key}
use Rattle.lt_tables.specs.Schema.{Catalogue, registered, table_numbered, when}
use Rattle.lt_tables.specs.Fair.{Point, bad_shape, breaks, breaks_at, change_fault_at, fair_after, has_change_shape, is_close, is_closed, item_fault_at, late, out_of_order, out_of_range, point_after, point_of, unknown_table_number, unknown_version_number, window_ts}
use Rattle.lt_lemmas.proofs.PointLaws.{first_of-append, point_suffices}
use Rattle.lt_fair.specs.Faults.{Answers, HasTaken, shape_fault, time_fault}
use Rattle.lt_records.specs.View.{view_item}
use Rattle.lt_records.specs.declared.record.LogRecord.{LogRecord}
use Rattle.lt_records.specs.declared.record.LogRecord.TheVariants as record_of
use Rattle.lt_fair.specs.declared.refusal.TakeRefusal.{TakeRefusal}

-- ---- the order of the tests

-- the range, then the version and its shape, then the time
pub fault_parts : (h : Header) (cat : Catalogue) (p : Point) (c : Change) → change_fault_at h cat p c
    ≡ option_or (when (not (in_range (change_key c) h.range)) out_of_range) (option_or (shape_fault cat c) (time_fault c.ts p.checkpoint (window_ts (change_key c) p.window)))
fault_parts h cat p c = let t = table_numbered cat c.table in let r = option_and_then (λ t. registered t c.version) t in
    ap (option_or (when (not (in_range (change_key c) h.range)) out_of_range)) (first_of-append
    (when (is_none t) (unknown_table_number c.table) ∷ when (is_none r) (unknown_version_number c.version) ∷ when (not (option_map_or (λ t. option_map_or (λ r. has_change_shape t r c) r false) t false)) bad_shape ∷ [])
    (when (nat_le c.ts p.checkpoint) (late p.checkpoint) ∷ when (nat_le c.ts (window_ts (change_key c) p.window)) (out_of_order (window_ts (change_key c) p.window)) ∷ []))

-- ---- by what is kept, and by the list

-- where no close came, only an item's own test counts
pub not_shut : (h : Header) (cat : Catalogue) (p : Point) (i : Item) → breaks_at h cat false p i ≡ item_fault_at h cat p i
unfolding breaks_at
not_shut h cat p i = refl

-- without a close before it, an item breaks what its own test finds
pub by_point : (h : Header) (cat : Catalogue) (p : Point) (i : Item) (items : List Item) → HasTaken h cat p items → breaks_at h cat false p i ≡ breaks h cat items i
by_point h cat p i items t = ap (λ b. breaks_at h cat b p i) (sym t.open) ∙ ap (λ p. breaks_at h cat (is_closed items) p i) t.point ∙ point_suffices.test h cat items i t.fair

-- ---- a list with one item more

fair_push : (h : Header) (cat : Catalogue) (before items : List Item) (i : Item) → fair_after h cat before items ≡ true → breaks h cat (before ++ items) i ≡ None → fair_after h cat before (items ++ i ∷ []) ≡ true
fair_push h cat before [] i f e = and_from (is_none (breaks h cat before i)) true (ap is_none (ap (λ is. breaks h cat is i) (sym (append-nil before)) ∙ e)) refl
fair_push h cat before (j ∷ items) i f e = let g = and_parts (is_none (breaks h cat before j)) (fair_after h cat (before ++ j ∷ []) items) f in
    and_from (is_none (breaks h cat before j)) (fair_after h cat (before ++ j ∷ []) (items ++ i ∷ [])) g.0
    (fair_push h cat (before ++ j ∷ []) items i g.1 (ap (λ is. breaks h cat is i) (append_assoc before (j ∷ []) items) ∙ e))

still_open : (items : List Item) (i : Item) → is_closed items ≡ false → is_close i ≡ false → is_closed (items ++ i ∷ []) ≡ false
still_open [] i e f = ap (λ b. b || false) f
still_open (j ∷ items) i e f = let g = or_parts (is_close j) (is_closed items) e in ap (λ b. b || is_closed (items ++ i ∷ [])) g.0 ∙ still_open items i g.1 f

-- no record closes a stream
pub no_close : (r : LogRecord) → is_close (view_item r) ≡ false
no_close (record_of.Header h) = refl
no_close (record_of.Change c) = refl
no_close (record_of.Checkpoint t) = refl

-- nothing was taken
pub point_none : (h : Header) (ws : List (List ℕ × ℕ)) → h.from ≡ 0 → ws ≡ [] → (let p : Point = record { checkpoint = 0; greatest = 0; window = ws } in p) ≡ point_of h []
unfolding point_of
point_none h ws f e = ap₂ (λ (t : ℕ) (ws : List (List ℕ × ℕ)). let p : Point = record { checkpoint = t; greatest = 0; window = ws } in p) (sym f) e

pub taken_none : (h : Header) (cat : Catalogue) (p : Point) → p ≡ point_of h [] → HasTaken h cat p []
taken_none h cat p e = record { fair = refl; «open» = refl; point = e }

-- a record more was taken
pub taken_more : (h : Header) (cat : Catalogue) (p q : Point) (items : List Item) (r : LogRecord) → HasTaken h cat p items → breaks_at h cat false p (view_item r) ≡ None → q ≡ point_after p (view_item r) → HasTaken h cat q (items ++ view_item r ∷ [])
taken_more h cat p q items r t e n =
    let none : breaks h cat items (view_item r) ≡ None = sym (by_point h cat p (view_item r) items t) ∙ e in
    record {
      fair = fair_push h cat [] items (view_item r) t.fair none;
      «open» = still_open items (view_item r) t.open (no_close r);
      point = n ∙ ap (λ p. point_after p (view_item r)) t.point ∙ sym (point_suffices.next h cat items (view_item r) t.fair none);
    }

pub taken_on_ok : {A : Type 0} (h : Header) (cat : Catalogue) (p q : Point) (items : List Item) (r : LogRecord) (result : Result A TakeRefusal) → HasTaken h cat p items → Answers (breaks_at h cat false p (view_item r)) result
    → OnOk result (q ≡ point_after p (view_item r)) → OnOk result (HasTaken h cat q (items ++ view_item r ∷ []))
taken_on_ok h cat p q items r (Ok a) t e n = taken_more h cat p q items r t e n
taken_on_ok h cat p q items r (Err x) t e n = tt
