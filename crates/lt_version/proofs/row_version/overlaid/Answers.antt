use Rattle.std.proofs.Common.{[], ap, ap₂, arith, get_or, length, length-append, sym, take_all, ◌+◌, ◌++◌, ◌<◌, ◌∙◌, ◌∷◌, ◌≡◌}
use Rattle.std.proofs.lemmas.List.{map-append}
use Rattle.lt_tables.specs.Version.{overlay}
use Rattle.lt_core.specs.View.{view_cells, view_scalar}
use Rattle.lt_version.proofs.Overlays.{laid_more}
use Rattle.lt_version.proofs.row_version.overlaid.Goals as goal

pub loop-now-preserved : goal.loop-now-preserved
loop-now-preserved c =
    let i = c.loop-now.invariant in
    let n = c.loop-now.now-index in
    let older = c.args.older.now in
    let newer = c.args.newer.now in
    let within : n < length newer = omega (arith, c.loop-now-test.true, ap length c.as_slice-now-items.ensures) in
    let was : c.index-as_slice-len.result ≡ get_or older n c.index-as_slice-len.result = c.index-as_slice-len.is ∙ ap₂ (λ xs k. get_or xs k c.index-as_slice-len.result) c.as_slice.ensures (c.len.ensures ∙ i.number) in
    let now : c.now-item.result ≡ get_or newer n c.now-item.result = c.now-item.is ∙ ap (λ xs. get_or xs n c.now-item.result) c.as_slice-now-items.ensures in
    record {
      number = ap length c.in_ok-push.ensures.ok ∙ length-append c.loop-now.cells (c.in_ok-copy.field-0 ∷ []) ∙ ap (λ k. k + 1) i.number;
      laid = ap view_cells c.in_ok-push.ensures.ok ∙ map-append view_scalar c.loop-now.cells (c.in_ok-copy.field-0 ∷ [])
          ∙ ap₂ (λ cells x. cells ++ x ∷ []) i.laid (ap view_scalar c.in_ok-copy.ensures ∙ c.over.ensures)
          ∙ sym (laid_more older newer n c.index-as_slice-len.result c.now-item.result (omega (arith, within, c.requires)) within was now);
    }

pub returns : goal.returns
returns c =
    let n = c.loop-now.now-index in
    c.loop-now.invariant.laid ∙ ap₂ (λ a b. overlay (view_cells a) (view_cells b))
    (take_all n c.args.older.now (omega (arith, c.loop-now-test.false, ap length c.as_slice-now-items.ensures, c.requires))) (take_all n c.args.newer.now (omega (arith, c.loop-now-test.false, ap length c.as_slice-now-items.ensures)))
