-- One record more: what it leaves of the stream and of what is held.
use Rattle.std.proofs.Common.{Bool, List, [], ap, append-nil, arith, false, refl, subst, sym, ℕ, ◌+◌, ◌<◌, ◌∙◌, ◌∷◌, ◌≡◌, length}
use Rattle.std.specs.Prelude.{IfNone, IfSome, IsTrue, None, Option, Some, flat_map, nat_lt, slice_get, unwrap_or, ◌||◌}
use Rattle.std.specs.List.{AllByRecursion}
use Rattle.std.proofs.lemmas.Bool.{ltb-false}
use Rattle.lt_tables.specs.Fair.{Point, backward, breaks_at, is_closed, point_after}
use Rattle.lt_terms.specs.Key.{Range}
use Rattle.lt_terms.specs.Log.{Change, Header, change_item, change_key, changes_in, spelled}
use Rattle.lt_tables.specs.Pump.{StreamAt, moved_by}
use Rattle.lt_tables.specs.Pump.{holds_change, put_change, without_change}
use Rattle.lt_tables.specs.Schema.{Catalogue, change_at, when}
use Rattle.lt_lemmas.proofs.ListFacts.{when_none}
use Rattle.lt_lemmas.proofs.PartsChanged.{length_changed}
use Rattle.lt_records.specs.View.{view_item}
use Rattle.lt_records.specs.declared.record.ChangeRecord.{ChangeRecord}
use Rattle.lt_records.specs.declared.record.LogRecord.{LogRecord}
use Rattle.lt_records.specs.declared.record.LogRecord.TheVariants as record_of
use Rattle.lt_fair.proofs.FaultParts.{not_shut}
use Rattle.lt_pump.specs.Given.{AreBehind, IsBehind, all_given}
use Rattle.lt_pump.specs.Positions.{IsOther, with_item}
use Rattle.lt_pump.proofs.PassLaws.{Passes}
use Rattle.lt_pump.proofs.GivenLaws.{all_after, given_nothing, holds_there, taken_back}
use Rattle.lt_pump.proofs.BehindLaws.{AfterChange, behind_after, behind_passed, behind_self}

-- ---- a change that is taken back

pub undo_ready : (o : Option ℕ) (key : List ℕ) (c : Change) (h0 h1 : List (List Change)) → key ≡ change_key c → IfSome o (λ i. (i < length h0) × (h1 ≡ change_at (put_change c) i h0))
    → IfSome o (λ i. (i < length h1) × IsTrue (holds_change key c.ts (unwrap_or (slice_get h1 i) [])))
undo_ready None key c h0 h1 e a = tt
undo_ready (Some i) key c h0 h1 e a =
    let l : length h1 ≡ length h0 = ap length a.1 ∙ length_changed (put_change c) i h0 in
    (omega (arith, l, a.0), subst (λ (k : List ℕ). IsTrue (holds_change k c.ts (unwrap_or (slice_get h1 i) []))) (sym e) (holds_there c i h0 h1 a.0 a.1))

pub undone : (o : Option ℕ) (key : List ℕ) (c : Change) (h0 h1 h2 : List (List Change)) → key ≡ change_key c → AllByRecursion (AllByRecursion (IsOther c)) h0 → IfSome o (λ i. (i < length h0) × (h1 ≡ change_at (put_change c) i h0)) → IfNone o (h1 ≡ h0)
    → IfSome o (λ i. h2 ≡ change_at (without_change key c.ts) i h1) → IfNone o (h2 ≡ h1) → h2 ≡ h0
undone None key c h0 h1 h2 e others a same b kept = kept ∙ same
undone (Some i) key c h0 h1 h2 e others a same b kept = taken_back c i h0 h2 others
    (b ∙ ap (λ (k : List ℕ). change_at (without_change k c.ts) i h1) e ∙ ap (change_at (without_change (change_key c) c.ts) i) a.1)

-- ---- what is held stays behind

pub change_behind : (a b : StreamAt) (cat : Catalogue) (c : Change) (subs : List (Range × ℕ)) (held held' : List (List Change)) → Passes a.header cat a.point c → b ≡ with_item a (change_item c) → held' ≡ all_given (c ∷ []) subs held → AreBehind a held → AreBehind b held'
change_behind a b cat c subs held held' p e g h =
    let after : AfterChange a b c = record { header = ap (λ (x : StreamAt). x.header) e; checkpoint = ap (λ (x : StreamAt). x.point.checkpoint) e; window = ap (λ (x : StreamAt). x.point.window) e } in
    subst (AreBehind b) (sym g) (all_after (IsBehind b) c subs held (behind_self a b c after) (behind_after a b cat c held p after h))

pub record_behind : (a b : StreamAt) (cat : Catalogue) (r : LogRecord) (held : List (List Change)) → ((c : ChangeRecord) → r ≡ record_of.Change c → ⊥) → breaks_at a.header cat false a.point (view_item r) ≡ None → b ≡ with_item a (view_item r) → AreBehind a held → AreBehind b held
record_behind a b cat (record_of.Change c) held n f e h = absurd (n c refl)
record_behind a b cat (record_of.Header k) held n f e h = absurd (let g = sym (not_shut a.header cat a.point (view_item (record_of.Header k))) ∙ f in cc)
record_behind a b cat (record_of.Checkpoint t) held n f e h =
    let g : when (nat_lt t a.point.checkpoint) (backward a.point.checkpoint) ≡ None = sym (not_shut a.header cat a.point (view_item (record_of.Checkpoint t))) ∙ f in
    let l = ltb-false t a.point.checkpoint (when_none (nat_lt t a.point.checkpoint) (backward a.point.checkpoint) g) in
    behind_passed a b t held (record { header = ap (λ (x : StreamAt). x.header) e; later = l; checkpoint = ap (λ (x : StreamAt). x.point.checkpoint) e; window = ap (λ (x : StreamAt). x.point.window) e }) h

pub no_changes : (r : LogRecord) (subs : List (Range × ℕ)) (held : List (List Change)) → ((c : ChangeRecord) → r ≡ record_of.Change c → ⊥) → held ≡ all_given (changes_in (view_item r)) subs held
no_changes (record_of.Change c) subs held n = absurd (n c refl)
no_changes (record_of.Header k) subs held n = sym (given_nothing subs held)
no_changes (record_of.Checkpoint t) subs held n = sym (given_nothing subs held)

-- ---- the stream behind it

made_same : (h : Header) (o u : ℕ) (p q : Point) (c d : Bool) → o ≡ u → p ≡ q → c ≡ d → record { header = h; offset = o; point = p; closed = c } ≡ (let a : StreamAt = record { header = h; offset = u; point = q; closed = d } in a)
made_same h o u p q c d e f g = cc

stays_open : (r : LogRecord) → is_closed (view_item r ∷ []) ≡ false
stays_open (record_of.Change c) = refl
stays_open (record_of.Header k) = refl
stays_open (record_of.Checkpoint t) = refl

pub moved_one : (h : Header) (o u size : ℕ) (p q : Point) (r : LogRecord) → u ≡ o + size → size ≡ length (spelled (view_item r)) → q ≡ point_after p (view_item r)
    → (let b : StreamAt = record { header = h; offset = u; point = q; closed = false } in b) ≡ moved_by (view_item r ∷ []) (record { header = h; offset = o; point = p; closed = false })
moved_one h o u size p q r e l f =
    let one : length (flat_map spelled (view_item r ∷ [])) ≡ length (spelled (view_item r)) = ap length (append-nil (spelled (view_item r))) in
    made_same h u (o + length (flat_map spelled (view_item r ∷ []))) q (point_after p (view_item r)) false (false || is_closed (view_item r ∷ [])) (omega (arith, e, l, one)) f (sym (stays_open r))
