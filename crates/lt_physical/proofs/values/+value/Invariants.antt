use Rattle.std.proofs.Common.{[], drop, map, ◌*◌, ◌+◌, ◌++◌, ◌∷◌, ◌≡◌}
use Rattle.std.specs.Prelude.{None, filter_map, if◌then◌else◌, ◌==◌}
use Rattle.lt_core.specs.View.{view_settings}
use Rattle.lt_terms.specs.Layout.{next_field, value_from}
use Rattle.lt_physical.specs.Placed.{fields_at, view_placed}
use Rattle.lt_physical.proofs.values.+value.Given as goal

abbrev pub decreases-value_from : goal.decreases-value_from
decreases-value_from l = 2 * l.depth

abbrev pub decreases-fields_from : goal.decreases-fields_from
decreases-fields_from l = 2 * l.depth + 1

abbrev pub invariant-fields_from-loop-one : goal.invariant-fields_from-loop-one
invariant-fields_from-loop-one l =
    view_settings l.fields ++ map (λ n. (n, value_from l.depth l.column (l.path ++ n ∷ []) (view_placed l.placed)))
    (filter_map (λ d. if d.0.column == l.column then next_field l.path d.0.path else None) (view_placed (drop l.one-index l.placed)))
    ≡ fields_at l.depth l.column l.path (view_placed l.placed)
