-- A change that is put or taken out where a partition holds it.
use Rattle.std.proofs.Common.{List, [], ap, length, map, refl, slice_index_or, slice_set, suc, sym, zero, ℕ, ◌<◌, ◌∙◌, ◌∷◌, ◌≡◌}
use Rattle.std.specs.Prelude.{Err, Ok, OnErr, OnOk, Result, Some, slice_get}
use Rattle.lt_terms.specs.Log.{Change}
use Rattle.lt_tables.specs.Pump.{put_change, without_change}
use Rattle.lt_tables.specs.Schema.{change_at}
use Rattle.lt_pending.specs.Held.{held_in}
use Rattle.lt_pending.specs.declared.changes.Changes.{Changes}
use Rattle.lt_pump.proofs.PumpLaws.{set_changed}
use Rattle.lt_pump.proofs.SubLaws.{here}
use Rattle.lt_records.specs.View.{view_change}
use Rattle.lt_records.specs.declared.record.ChangeRecord.{ChangeRecord}

put_in : (parts : List Changes) (i : ℕ) (x y : Changes) (c : Change) → i < length parts → x ≡ slice_index_or parts i x → held_in y ≡ put_change c (held_in x) → map held_in (slice_set parts i y) ≡ change_at (put_change c) i (map held_in parts)
put_in parts i x y c l e h = set_changed held_in (put_change c) parts i x y (here parts i x l e) h

pub taken_from : (parts : List Changes) (i : ℕ) (x y : Changes) (key : List ℕ) (t : ℕ) → i < length parts → x ≡ slice_index_or parts i x → held_in y ≡ without_change key t (held_in x) → map held_in (slice_set parts i y) ≡ change_at (without_change key t) i (map held_in parts)
taken_from parts i x y key t l e h = set_changed held_in (without_change key t) parts i x y (here parts i x l e) h

kept_by : (parts : List Changes) (i : ℕ) (x y : Changes) → slice_get parts i ≡ Some x → held_in y ≡ held_in x → map held_in (slice_set parts i y) ≡ map held_in parts
kept_by [] i x y e h = refl
kept_by (p ∷ parts) zero x y e h = let is : p ≡ x = cc in ap (λ (z : List Change). z ∷ map held_in parts) (h ∙ ap held_in (sym is))
kept_by (p ∷ parts) (suc i) x y e h = ap (λ (zs : List (List Change)). held_in p ∷ zs) (kept_by parts i x y e h)

kept_in : (parts : List Changes) (i : ℕ) (x y : Changes) → i < length parts → x ≡ slice_index_or parts i x → held_in y ≡ held_in x → map held_in (slice_set parts i y) ≡ map held_in parts
kept_in parts i x y l e h = kept_by parts i x y (here parts i x l e) h

-- ---- by what a put answers

pub put_done : {T E : Type 0} (r : Result T E) (parts : List Changes) (i : ℕ) (x y : Changes) (copy change : ChangeRecord) → i < length parts → x ≡ slice_index_or parts i x → copy ≡ change
    → OnOk r (held_in y ≡ put_change (view_change copy) (held_in x)) → OnOk r (map held_in (slice_set parts i y) ≡ change_at (put_change (view_change change)) i (map held_in parts))
put_done (Ok t) parts i x y copy change l e is h = put_in parts i x y (view_change change) l e (h ∙ ap (λ (c : ChangeRecord). put_change (view_change c) (held_in x)) is)
put_done (Err e) parts i x y copy change l at is h = tt

pub put_failed : {T E : Type 0} (r : Result T E) (parts : List Changes) (i : ℕ) (x y : Changes) → i < length parts → x ≡ slice_index_or parts i x → OnErr r (held_in y ≡ held_in x) → OnErr r (map held_in (slice_set parts i y) ≡ map held_in parts)
put_failed (Ok t) parts i x y l e h = tt
put_failed (Err f) parts i x y l e h = kept_in parts i x y l e h
