use Rattle.std.proofs.Common.{List, ap, arith, length, map, sym, ◌-◌, ◌<◌, ◌∙◌, ◌≤◌}
use Rattle.std.proofs.lemmas.List.{length-map}
use Rattle.lt_tables.specs.Schema.{Registered, change_at, retired_version, with_retired}
use Rattle.lt_schema.specs.Tables.{view_registered, view_table}
use Rattle.lt_schema.proofs.Versions.{retired_at, retired_past}
use Rattle.lt_schema.proofs.table.Table.retire.Goals as goal

pub returns-then-place-len : goal.returns-then-place-len
returns-then-place-len c =
    let t = c.self.inside in
    let i = c.saturating_sub-place.result in
    let lt : i < length t.versions.items = omega (arith, c.if-place-len.true, c.len.ensures, t.versions.ok.0) in
    ap (λ (rs : List Registered). record (view_table t) { versions = rs })
    (retired_at t.versions.items i c.index_mut.result.now lt c.index_mut.ensures.value ∙ ap (λ n. change_at retired_version n (map view_registered t.versions.items)) c.saturating_sub-place.ensures)
    ∙ ap (with_retired c.args.version) c.self.view_is

pub returns-else-place-len : goal.returns-else-place-len
returns-else-place-len c =
    let t = c.self.inside in
    let rs = map view_registered t.versions.items in
    let all : length rs ≤ c.args.version - 1 = omega (arith, c.if-place-len.false, c.len.ensures, t.versions.ok.0, c.saturating_sub-place.ensures, length-map t.versions.items view_registered) in
    sym c.self.view_is ∙ ap (λ (qs : List Registered). record (view_table t) { versions = qs }) (sym (retired_past rs (c.args.version - 1) all)) ∙ ap (with_retired c.args.version) c.self.view_is
