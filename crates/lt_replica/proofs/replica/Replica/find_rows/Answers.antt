use Rattle.std.proofs.Common.{map}
use Rattle.lt_core.specs.View.{view_row}
use Rattle.lt_schema.specs.View.{view_version}
use Rattle.lt_replica.proofs.Results.{err_is}
use Rattle.lt_replica.proofs.ScanLaws.{held_rows, safe_free, small_number, unnamed_refuses, unsafe_refuses}
use Rattle.lt_replica.proofs.replica.Replica.find_rows.Goals as goal

pub returns-in_err-version-clause-refused : goal.returns-in_err-version-clause-refused
returns-in_err-version-clause-refused c =
    let q = c.args.query.now in
    let e = c.in_err-version.field-0.0 in
    err_is c.from_residual.result e _ c.from_residual.ensures.1 (unnamed_refuses c.args.self.now q.table q.version q.at e c.in_err-version.ensures)

pub test_safe-requires : goal.test_safe-requires
test_safe-requires c = let q = c.args.query.now in small_number c.args.self.now.catalogue q.table q.version (view_version c.in_ok-version.version.now) c.in_ok-version.ensures

pub returns-in_err-test_safe-clause-refused : goal.returns-in_err-test_safe-clause-refused
returns-in_err-test_safe-clause-refused c =
    let q = c.args.query.now in
    let e = c.in_err-test_safe.field-0.0 in
    err_is c.from_residual-in_err-test_safe.result e _ c.from_residual-in_err-test_safe.ensures.1 (unsafe_refuses c.args.self.now q.table q.version q.at (view_version c.in_ok-version.version.now) e c.in_ok-version.ensures c.in_err-test_safe.ensures)

pub returns-clause-free : goal.returns-clause-free
returns-clause-free c = let q = c.args.query.now in safe_free c.args.self.now q.table q.version q.at (view_version c.in_ok-version.version.now) c.in_ok-version.ensures c.in_ok-test_safe.ensures

pub returns-clause-rows : goal.returns-clause-rows
returns-clause-rows c =
    let q = c.args.query.now in
    let version = view_version c.in_ok-version.version.now in
    held_rows c.args.self.now q.table q.version q.at version (map view_row c.in_ok-rows_of.field-0) c.in_ok-version.ensures (safe_free c.args.self.now q.table q.version q.at version c.in_ok-version.ensures c.in_ok-test_safe.ensures) c.in_ok-rows_of.ensures
