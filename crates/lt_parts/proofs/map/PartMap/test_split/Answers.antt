use Rattle.std.proofs.Common.{Some, arith, length, refl, subst, sym, ap, is_eq, ◌<◌, ◌≤◌, ◌∙◌, ◌≡◌, true, false}
use Rattle.std.specs.Prelude.{IsTrue, slice_get}
use Rattle.std.proofs.lemmas.Option.{slice_get_read}
use Rattle.lt_terms.specs.Key.{bytes_cmp, rise, same_key}
use Rattle.lt_lemmas.proofs.RangeLaws.{tile_rises}
use Rattle.lt_parts.specs.Parts.{lows_of}
use Rattle.lt_parts.proofs.Edges.{fault_at_edge, fault_none, fault_too_many, inner}
use Rattle.lt_parts.proofs.map.PartMap.test_split.Goals as goal

pub returns-then-is_eq-clause-refused : goal.returns-then-is_eq-clause-refused
returns-then-is_eq-clause-refused c =
    let es = c.args.self.now in
    let key = c.args.key.now in
    let n = c.find-part.result in
    let e = c.index.result.now in
    let rises = subst (λ l. IsTrue (rise (lows_of l))) c.self.view_is (tile_rises (lows_of c.self.inside.entries.items) c.self.invariant.tiled) in
    let within : n < length c.self.inside.entries.items = subst (λ l. n < length l) (sym c.self.view_is) c.find-part.ensures.within in
    let here : slice_get es n ≡ Some e = ap (λ l. slice_get l n) (sym c.self.view_is) ∙ slice_get_read c.self.inside.entries.items (length c.self.inside.entries.items) n e refl within c.index.ensures in
    let same : same_key e.low key ≡ true = ap (λ low. is_eq (bytes_cmp low key)) (sym c.as_slice.ensures) ∙ ap is_eq (sym c.cmp.ensures) ∙ sym c.is_eq.ensures ∙ c.if-is_eq.true in
    fault_at_edge es key n e rises here same

pub returns-then-len-ge-MAX_PARTS-clause-refused : goal.returns-then-len-ge-MAX_PARTS-clause-refused
returns-then-len-ge-MAX_PARTS-clause-refused c =
    let es = c.args.self.now in
    let key = c.args.key.now in
    let n = c.find-part.result in
    let e = c.index.result.now in
    let rises = subst (λ l. IsTrue (rise (lows_of l))) c.self.view_is (tile_rises (lows_of c.self.inside.entries.items) c.self.invariant.tiled) in
    let within : n < length c.self.inside.entries.items = subst (λ l. n < length l) (sym c.self.view_is) c.find-part.ensures.within in
    let here : slice_get es n ≡ Some e = ap (λ l. slice_get l n) (sym c.self.view_is) ∙ slice_get_read c.self.inside.entries.items (length c.self.inside.entries.items) n e refl within c.index.ensures in
    let apart : same_key e.low key ≡ false = ap (λ low. is_eq (bytes_cmp low key)) (sym c.as_slice.ensures) ∙ ap is_eq (sym c.cmp.ensures) ∙ sym c.is_eq.ensures ∙ c.if-is_eq.false in
    fault_too_many es key n e rises c.find-part.ensures.here here apart (subst (λ l. 1024 ≤ length l) c.self.view_is (omega arith))

pub returns-clause-inner : goal.returns-clause-inner
returns-clause-inner c =
    let es = c.args.self.now in
    let key = c.args.key.now in
    let n = c.find-part.result in
    let e = c.index.result.now in
    let within : n < length c.self.inside.entries.items = subst (λ l. n < length l) (sym c.self.view_is) c.find-part.ensures.within in
    let here : slice_get es n ≡ Some e = ap (λ l. slice_get l n) (sym c.self.view_is) ∙ slice_get_read c.self.inside.entries.items (length c.self.inside.entries.items) n e refl within c.index.ensures in
    let apart : same_key e.low key ≡ false = ap (λ low. is_eq (bytes_cmp low key)) (sym c.as_slice.ensures) ∙ ap is_eq (sym c.cmp.ensures) ∙ sym c.is_eq.ensures ∙ c.if-is_eq.false in
    inner es key n e c.find-part.ensures.here here apart (subst (λ l. length l < 1024) c.self.view_is (omega arith))

pub returns-clause-free : goal.returns-clause-free
returns-clause-free c =
    let es = c.args.self.now in
    let key = c.args.key.now in
    let n = c.find-part.result in
    let e = c.index.result.now in
    let rises = subst (λ l. IsTrue (rise (lows_of l))) c.self.view_is (tile_rises (lows_of c.self.inside.entries.items) c.self.invariant.tiled) in
    let within : n < length c.self.inside.entries.items = subst (λ l. n < length l) (sym c.self.view_is) c.find-part.ensures.within in
    let here : slice_get es n ≡ Some e = ap (λ l. slice_get l n) (sym c.self.view_is) ∙ slice_get_read c.self.inside.entries.items (length c.self.inside.entries.items) n e refl within c.index.ensures in
    let apart : same_key e.low key ≡ false = ap (λ low. is_eq (bytes_cmp low key)) (sym c.as_slice.ensures) ∙ ap is_eq (sym c.cmp.ensures) ∙ sym c.is_eq.ensures ∙ c.if-is_eq.false in
    fault_none es key n e rises c.find-part.ensures.here here apart (subst (λ l. length l < 1024) c.self.view_is (omega arith))
