-- What is listed, from the back.
use Rattle.std.proofs.Common.{◌≡◌, List, [], ◌∷◌, ◌++◌, sym, ap, ◌∙◌, map, reverse, append_assoc, append-nil}
use Rattle.std.specs.Borrow.{Bor}
use Rattle.std.proofs.lemmas.List.{map-append, reverse-append}
use Rattle.lt_terms.specs.Log.{Change}
use Rattle.lt_records.specs.View.{view_change}
use Rattle.lt_records.specs.declared.record.ChangeRecord.{ChangeRecord}
use Rattle.lt_pending.specs.Stamps.{change_at, changes_at, changes_in}
use Rattle.lt_pending.proofs.Puts.{Held, Stamped}
use Rattle.lt_pending.proofs.Splits.{in-append}

abbrev pub views : List (Bor ChangeRecord) → List Change
views cs = map (λ c. view_change c.now) cs

-- one more change of a key
pub change-next : (was now : List (Bor ChangeRecord)) (left left' : List Stamped) (x : Stamped) (c : Bor ChangeRecord) → left ≡ left' ++ x ∷ [] → c.now ≡ x.1 → now ≡ was ++ c ∷ []
    → views now ++ reverse (changes_at left') ≡ views was ++ reverse (changes_at left)
change-next was now left left' x c e d n =
    ap (λ l. views l ++ reverse (changes_at left')) n
    ∙ ap (λ l. l ++ reverse (changes_at left')) (map-append (λ (b : Bor ChangeRecord). view_change b.now) was (c ∷ []))
    ∙ append_assoc (views was) (view_change c.now ∷ []) (reverse (changes_at left'))
    ∙ ap (λ r. views was ++ view_change r ∷ reverse (changes_at left')) d
    ∙ ap (λ l. views was ++ l) (sym (reverse-append (changes_at left') (change_at x ∷ [])) ∙ ap reverse (sym (map-append change_at left' (x ∷ []))))
    ∙ ap (λ l. views was ++ reverse (changes_at l)) (sym e)

-- all changes of one more key
pub key-next : (was now : List (Bor ChangeRecord)) (left left' : List Held) (x : Held) → left ≡ left' ++ x ∷ [] → views now ≡ views was ++ reverse (changes_at x.1.entries)
    → views now ++ reverse (changes_in left') ≡ views was ++ reverse (changes_in left)
key-next was now left left' x e n =
    ap (λ l. l ++ reverse (changes_in left')) n
    ∙ append_assoc (views was) (reverse (changes_at x.1.entries)) (reverse (changes_in left'))
    ∙ ap (λ l. views was ++ l) (sym (reverse-append (changes_in left') (changes_at x.1.entries)))
    ∙ ap (λ l. views was ++ reverse (changes_in left' ++ l)) (sym (append-nil (changes_at x.1.entries)))
    ∙ ap (λ l. views was ++ reverse l) (sym (in-append left' (x ∷ [])))
    ∙ ap (λ l. views was ++ reverse (changes_in l)) (sym e)
