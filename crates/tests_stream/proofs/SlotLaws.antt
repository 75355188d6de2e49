-- One change in a slot, as the tests keep it.
use Rattle.std.proofs.Common.{Bool, List, [], ap, cond, refl, subst, sym, true, false, ℕ, ◌∙◌, ◌∷◌, ◌≡◌, length, map, slice_index_or, slice_set, ◌<◌}
use Rattle.std.specs.Prelude.{IsTrue, None, Option, Some, not, option_map, slice_get, unwrap_or, ◌&&◌, ◌==◌, ◌||◌}
use Rattle.lt_terms.specs.Key.{same_key}
use Rattle.lt_terms.specs.Log.{Change, change_key}
use Rattle.lt_tables.specs.Pump.{holds_change, put_change, without_change}
use Rattle.lt_tables.specs.Schema.{change_at}
use Rattle.lt_records.specs.View.{view_change}
use Rattle.lt_records.specs.declared.record.ChangeRecord.{ChangeRecord}
use Rattle.lt_pump.proofs.PumpLaws.{set_changed}
use Rattle.lt_pump.proofs.SubLaws.{here, mapped_there}

-- the list of a slot
abbrev pub in_slot : Option ChangeRecord → List Change
in_slot o = unwrap_or (option_map (λ c. view_change c ∷ []) o) []

pub slot_filled : (slots : List (Option ChangeRecord)) (i : ℕ) (x : Option ChangeRecord) (copy c : ChangeRecord) → i < length slots → x ≡ slice_index_or slots i x → x ≡ None → copy ≡ c → map in_slot (slice_set slots i (Some copy)) ≡ change_at (put_change (view_change c)) i (map in_slot slots)
slot_filled slots i x copy c l e n s = set_changed in_slot (put_change (view_change c)) slots i x (Some copy) (here slots i x l e) (ap (λ (y : ChangeRecord). view_change y ∷ []) s ∙ sym (ap (λ o. put_change (view_change c) (in_slot o)) n))

only_named : (c : Change) (key : List ℕ) (t : ℕ) (b : Bool) → (b || false) ≡ true → [] ≡ cond (not b) (c ∷ []) []
only_named c key t true h = refl
only_named c key t false h = absurd cc

emptied : (key : List ℕ) (t : ℕ) (o : Option ChangeRecord) → holds_change key t (in_slot o) ≡ true → [] ≡ without_change key t (in_slot o)
emptied key t None h = refl
emptied key t (Some c) h = only_named (view_change c) key t (same_key (change_key (view_change c)) key && (view_change c).ts == t) h

pub slot_emptied : (slots : List (Option ChangeRecord)) (i : ℕ) (x : Option ChangeRecord) (key : List ℕ) (t : ℕ) → i < length slots → x ≡ slice_index_or slots i x → IsTrue (holds_change key t (unwrap_or (slice_get (map in_slot slots) i) [])) → map in_slot (slice_set slots i None) ≡ change_at (without_change key t) i (map in_slot slots)
slot_emptied slots i x key t l e h =
    let at = here slots i x l e in
    set_changed in_slot (without_change key t) slots i x None at (emptied key t x (subst (λ o. IsTrue (holds_change key t (unwrap_or o []))) (mapped_there in_slot slots i x at) h))
