use Rattle.std.proofs.Common.{Some, ap, length, refl, subst, sym, ◌+◌, ◌<◌, ◌∙◌, ◌≡◌}
use Rattle.std.specs.Prelude.{IsTrue, insert, slice_get}
use Rattle.std.proofs.lemmas.Option.{slice_get_read, slice_get_within}
use Rattle.lt_terms.specs.Key.{rise}
use Rattle.lt_lemmas.proofs.RangeLaws.{tile_rises}
use Rattle.lt_parts.specs.Parts.{lows_of}
use Rattle.lt_parts.specs.Search.{IsInner}
use Rattle.lt_parts.proofs.Edits.{parts_left, split_left, upper}
use Rattle.lt_parts.proofs.Ranges.{part_is}
use Rattle.lt_parts.proofs.map.PartMap.split.Goals as goal

pub invariant_of-self-2 : goal.invariant_of-self-2
invariant_of-self-2 c =
    let es = c.self.inside.entries.items in
    let key = c.args.key in
    let n = c.in_ok-part.part in
    let e = c.index-lower.result.now in
    let i : IsInner es key n = subst (λ l. IsInner l key n) (sym c.self.view_is) (subst (λ k. IsInner c.args.self.now k n) c.as_slice.ensures c.in_ok-part.ensures.inner) in
    let here : slice_get es n ≡ Some e = slice_get_read es (length es) n e refl (slice_get_within es n i.entry i.here) c.index-lower.ensures in
    parts_left es c.insert.new.self.items key n e i c.self.invariant here c.in_ok-insert.ensures.items

pub returns-clause-split : goal.returns-clause-split
returns-clause-split c =
    let es = c.args.self.now in
    let key = c.args.key in
    let n = c.in_ok-part.part in
    let e = c.index-lower.result.now in
    let i : IsInner es key n = subst (λ k. IsInner c.args.self.now k n) c.as_slice.ensures c.in_ok-part.ensures.inner in
    let inside : n < length c.self.inside.entries.items = subst (λ l. n < length l) (sym c.self.view_is) (slice_get_within es n i.entry i.here) in
    let here : slice_get es n ≡ Some e = ap (λ l. slice_get l n) (sym c.self.view_is) ∙ slice_get_read c.self.inside.entries.items (length c.self.inside.entries.items) n e refl inside c.index-lower.ensures in
    split_left es c.insert.new.self.items key n e i here (c.in_ok-insert.ensures.items ∙ ap (λ l. insert l (n + 1) (upper e key)) c.self.view_is)

pub returns-clause-part : goal.returns-clause-part
returns-clause-part c =
    let es = c.args.self.now in
    let key = c.args.key in
    let n = c.in_ok-part.part in
    let rises = subst (λ l. IsTrue (rise (lows_of l))) c.self.view_is (tile_rises (lows_of c.self.inside.entries.items) c.self.invariant.tiled) in
    let i : IsInner es key n = subst (λ k. IsInner c.args.self.now k n) c.as_slice.ensures c.in_ok-part.ensures.inner in
    ap (λ k. k + 1) (sym (part_is es key n rises i.has))
