use Rattle.std.proofs.Common.{refl}
use Rattle.lt_manifest.specs.View.{view_manifest}
use Rattle.lt_pump.specs.Pumps.{streams_of}
use Rattle.lt_storage.specs.Store.{bare_manifest}
use Rattle.lt_replica.specs.Numbers.{durable_with, numbers_of}
use Rattle.lt_replica.proofs.CommitLaws.{lawful_next, shape_kept, shape_of, still_taken, taken_by}
use Rattle.lt_replica.proofs.replica.Replica.commit_catalogue.Goals as goal

pub commit-requires-clause-lawful : goal.commit-requires-clause-lawful
commit-requires-clause-lawful g c =
    let s = c.args.self.now in
    let n = numbers_of s.store s.next_id in
    lawful_next (bare_manifest (durable_with c.args.catalogue n s.map (streams_of s.pump))) (view_manifest c.in_ok-next.next) c.in_ok-next.ensures refl c.tables-tables.ensures.lawful
    (shape_of s.catalogue c.args.catalogue n s.map (streams_of s.pump) s.lawful)

pub commit-requires-clause-taken : goal.commit-requires-clause-taken
commit-requires-clause-taken g c = taken_by c.args.self.now.store c.args.self.now.taken

pub invariant_of-self : goal.invariant_of-self
invariant_of-self g c =
    let s = c.args.self.now in
    let call = c.commit.ensures.call in
    record {
      as_many = s.as_many;
      behind = s.behind;
      settled = s.settled;
      lawful = shape_kept s.catalogue s.catalogue s.store c.commit.new.store s.next_id s.map (streams_of s.pump) c.commit.ensures.result call.kept s.lawful;
      taken = still_taken s.store c.commit.new.store c.commit.ensures.result call.kept s.taken;
    }

pub invariant_of-self-2 : goal.invariant_of-self-2
invariant_of-self-2 g c =
    let s = c.args.self.now in
    let call = c.commit.ensures.call in
    record {
      as_many = s.as_many;
      behind = s.behind;
      settled = s.settled;
      lawful = shape_kept s.catalogue c.in_ok-next.next.catalogue s.store c.commit.new.store s.next_id s.map (streams_of s.pump) c.commit.ensures.result call.kept s.lawful;
      taken = still_taken s.store c.commit.new.store c.commit.ensures.result call.kept s.taken;
    }
