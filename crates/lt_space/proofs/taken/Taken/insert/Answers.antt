use Rattle.std.proofs.Common.{List, map, subst, sym, true, ◌<◌, ◌≡◌}
use Rattle.std.specs.List.{list_all}
use Rattle.std.specs.BTreeSet.{insert_key}
use Rattle.lt_terms.specs.declared.Extent.{Extent}
use Rattle.lt_world.specs.Extents.{apart}
use Rattle.lt_space.specs.Taken.{extent_at}
use Rattle.lt_space.proofs.Spots.{IsInserted, Spot, inserted, spot_cmp}
use Rattle.lt_space.proofs.taken.Taken.insert.Goals as goal

inserted_in : (e : Extent) (ks new : List Spot) (seen : List Extent) → map extent_at ks ≡ seen → new ≡ insert_key spot_cmp ks (e.place, e.length, 0) → 0 < e.length → list_all (apart e) seen ≡ true → IsInserted e seen (map extent_at new)
inserted_in e ks new seen view is some free =
    subst (λ l. IsInserted e seen (map extent_at l)) (sym is)
    (subst (λ l. IsInserted e l (map extent_at (insert_key spot_cmp ks (e.place, e.length, 0)))) view (inserted e ks some (subst (λ l. list_all (apart e) l ≡ true) (sym view) free)))

pub returns-clause-taken : goal.returns-clause-taken
returns-clause-taken c = (inserted_in c.args.extent c.self.inside.spots.keys c.insert.new.self.keys c.args.self.now c.self.view_is c.in_ok-insert.ensures.keys c.requires.some c.requires.free).adds

pub returns-clause-order : goal.returns-clause-order
returns-clause-order c = (inserted_in c.args.extent c.self.inside.spots.keys c.insert.new.self.keys c.args.self.now c.self.view_is c.in_ok-insert.ensures.keys c.requires.some c.requires.free).order
