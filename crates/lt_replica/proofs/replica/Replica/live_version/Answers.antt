use Rattle.std.proofs.Common.{ap, ◌∙◌}
use Rattle.lt_schema.specs.View.{view_version}
use Rattle.lt_tables.specs.Schema.{Table, table_named}
use Rattle.std.specs.Prelude.{option_map}
use Rattle.lt_replica.proofs.Results.{is_found, no_version, not_live}
use Rattle.lt_replica.proofs.replica.Replica.live_version.Goals as goal

pub returns-in_default-get : goal.returns-in_default-get
returns-in_default-get c =
    let cat = c.args.self.now.catalogue in
    let q = c.args.query.now in
    (tt, no_version cat q.table c.in-Some.number q.version c.get.ensures.lawful (c.in-Some.ensures ∙ ap (λ name. option_map (λ (t : Table). t.number) (table_named cat name)) c.as_slice.ensures.bytes) c.in_default-get.ensures.version)

pub returns-then-not-live : goal.returns-then-not-live
returns-then-not-live c =
    let cat = c.args.self.now.catalogue in
    let q = c.args.query.now in (
      tt,
      not_live cat q.table c.in-Some.number q.version (view_version c.in-Some-get.found.now) c.get.ensures.lawful
          (c.in-Some.ensures ∙ ap (λ name. option_map (λ (t : Table). t.number) (table_named cat name)) c.as_slice.ensures.bytes) c.in-Some-get.ensures.version c.if-not-live.ensures,
    )

pub returns : goal.returns
returns c =
    let cat = c.args.self.now.catalogue in
    let q = c.args.query.now in
    is_found cat q.table c.in-Some.number q.version (view_version c.in-Some-get.found.now) c.get.ensures.lawful
    (c.in-Some.ensures ∙ ap (λ name. option_map (λ (t : Table). t.number) (table_named cat name)) c.as_slice.ensures.bytes) c.in-Some-get.ensures.version c.if-not-live.ensures
