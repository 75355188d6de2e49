-- Low bounds that equal a key, and why there is no split at one.
use Rattle.std.proofs.Common.{Bool, List, None, Some, ap, arith, false, inl, inr, le-leb, length, subst, sym, true, ℕ, ◌+◌, ◌<◌, ◌∙◌, ◌≡◌, ◌≤◌}
use Rattle.std.specs.Prelude.{IsTrue, nat_le, option_map, slice_get}
use Rattle.std.specs.Option.{option_or}
use Rattle.std.proofs.lemmas.Bool.{cases_order, false≢true, lt-leb}
use Rattle.std.proofs.lemmas.Option.{same_Some}
use Rattle.lt_terms.specs.Key.{below, rise, same_key}
use Rattle.lt_tables.specs.Schema.{when}
use Rattle.lt_lemmas.proofs.PointLaws.{above, same, swapped}
use Rattle.lt_lemmas.proofs.SplitLaws.{not_below_itself}
use Rattle.lt_parts.specs.declared.entry.PartEntry.{PartEntry}
use Rattle.lt_parts.specs.declared.refusal.SplitRefusal.TheVariants as refusals
use Rattle.lt_parts.specs.Parts.{HasKey, edge_in, lows_of, split_fault}
use Rattle.lt_parts.specs.Search.{IsInner}
use Rattle.lt_parts.proofs.Bounds.{is_false, lows_rise}
use Rattle.lt_parts.proofs.Numbers.{find_at, find_none}
use Rattle.lt_parts.proofs.Ranges.{below_later, key_between}

not_itself : (a b : List ℕ) → below a b ≡ true → a ≡ b → ⊥
not_itself a b h e = false≢true (sym (not_below_itself b) ∙ subst (λ (x : List ℕ). below x b ≡ true) e h)

edge_at : (es : List PartEntry) (key : List ℕ) (n : ℕ) (e : PartEntry) → IsTrue (rise (lows_of es)) → slice_get es n ≡ Some e → same_key e.low key ≡ true → edge_in es key ≡ Some n
edge_at es key n e r h s =
    let found = find_at (λ (x : PartEntry). same_key x.low key) 0 es n e h s (λ k y l g. is_false (same_key y.low key) (λ t.
    not_itself y.low e.low (lows_rise es r k n y e g h l) (same y.low key t ∙ sym (same e.low key s)))) in
    let k : 0 + n ≡ n = omega arith in
    ap (option_map (λ (x : ℕ × PartEntry). x.0)) found ∙ ap (λ (i : ℕ). Some i) k

no_edge : (es : List PartEntry) (key : List ℕ) (n : ℕ) (e : PartEntry) → IsTrue (rise (lows_of es)) → HasKey es key n → slice_get es n ≡ Some e → same_key e.low key ≡ false → edge_in es key ≡ None
no_edge es key n e r has h s =
    let z = key_between es key n has in
    ap (option_map (λ (x : ℕ × PartEntry). x.0)) (find_none (λ (x : PartEntry). same_key x.low key) 0 es (λ k y g. is_false (same_key y.low key) (λ t.
    let is : y.low ≡ key = same y.low key t in
    elim (cases_order k n) [
      | inl one ↦ (let both : y ≡ e = same_Some y e (sym g ∙ ap (slice_get es) one ∙ h) in false≢true (sym s ∙ subst (λ (x : PartEntry). same_key x.low key ≡ true) both t))
      | inr (inl less) ↦ (let up : below y.low z.0.low ≡ true = lows_rise es r k n y z.0 g z.1 less in false≢true (sym z.2 ∙ subst (λ (x : List ℕ). below x z.0.low ≡ true) is up))
      | inr (inr more) ↦ not_itself key y.low (below_later es key n k y r g more z.3) (sym is)
    ])))

pub fault_at_edge : (es : List PartEntry) (key : List ℕ) (n : ℕ) (e : PartEntry) → IsTrue (rise (lows_of es)) → slice_get es n ≡ Some e → same_key e.low key ≡ true → split_fault es key ≡ Some (refusals.AtEdge n)
fault_at_edge es key n e r h s = ap (λ o. option_or (option_map refusals.AtEdge o) (when (nat_le 1024 (length es)) refusals.TooManyParts)) (edge_at es key n e r h s)

pub fault_too_many : (es : List PartEntry) (key : List ℕ) (n : ℕ) (e : PartEntry) → IsTrue (rise (lows_of es)) → HasKey es key n → slice_get es n ≡ Some e → same_key e.low key ≡ false → 1024 ≤ length es → split_fault es key ≡ Some refusals.TooManyParts
fault_too_many es key n e r has h s l = ap (λ o. option_or (option_map refusals.AtEdge o) (when (nat_le 1024 (length es)) refusals.TooManyParts)) (no_edge es key n e r has h s)
    ∙ ap (λ (b : Bool). when b refusals.TooManyParts) (le-leb 1024 (length es) l)

pub fault_none : (es : List PartEntry) (key : List ℕ) (n : ℕ) (e : PartEntry) → IsTrue (rise (lows_of es)) → HasKey es key n → slice_get es n ≡ Some e → same_key e.low key ≡ false → length es < 1024 → split_fault es key ≡ None
fault_none es key n e r has h s l = ap (λ o. option_or (option_map refusals.AtEdge o) (when (nat_le 1024 (length es)) refusals.TooManyParts)) (no_edge es key n e r has h s)
    ∙ ap (λ (b : Bool). when b refusals.TooManyParts) (lt-leb 1024 (length es) l)

pub inner : (es : List PartEntry) (key : List ℕ) (n : ℕ) (e : PartEntry) → HasKey es key n → slice_get es n ≡ Some e → same_key e.low key ≡ false → length es < 1024 → IsInner es key n
inner es key n e has h s l =
    let z = key_between es key n has in
    let low : below key e.low ≡ false = subst (λ (x : PartEntry). below key x.low ≡ false) (same_Some z.0 e (sym z.1 ∙ h)) z.2 in record {
      entry = e;
      here = h;
      has = has;
      inside = above key e.low low (swapped key e.low ∙ s);
      few = l;
    }
