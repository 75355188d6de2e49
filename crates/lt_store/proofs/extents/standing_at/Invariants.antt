use Rattle.std.specs.Prelude.{Contains, drop, ◌≡◌}
use Rattle.lt_terms.specs.declared.Extent.{Extent}
use Rattle.lt_store.proofs.extents.standing_at.Given as goal

abbrev pub invariant-loop-extent : goal.invariant-loop-extent
invariant-loop-extent l = (e : Extent) × Contains (drop l.extent-index l.live) e × (e.place ≡ l.place)
