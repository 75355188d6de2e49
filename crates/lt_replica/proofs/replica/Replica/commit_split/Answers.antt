use Rattle.std.proofs.Common.{ap, length, map, refl, subst, sym, ◌-◌, ◌∙◌, ◌≡◌}
use Rattle.std.specs.Prelude.{IsTrue, List}
use Rattle.lt_manifest.specs.View.{view_manifest}
use Rattle.lt_pending.specs.Held.{held_in}
use Rattle.lt_pending.specs.declared.changes.Changes.{Changes}
use Rattle.lt_parts.specs.Parts.{AreParts}
use Rattle.lt_pump.specs.Pumps.{streams_of}
use Rattle.lt_storage.specs.Store.{bare_manifest}
use Rattle.lt_replica.specs.Behind.{are_behind}
use Rattle.lt_replica.specs.Numbers.{durable_with, numbers_of}
use Rattle.lt_replica.specs.Splitting.{parted_at}
use Rattle.lt_replica.specs.State.{memory_of}
use Rattle.lt_replica.proofs.CommitLaws.{lawful_next, shape_kept, still_taken, taken_by}
use Rattle.lt_replica.proofs.SplitCommits.{shape_split}
use Rattle.lt_replica.proofs.SplitLaws.{behind_parted, still_as_many}
use Rattle.lt_replica.proofs.replica.Replica.commit_split.Goals as goal

pub commit-requires-clause-lawful : goal.commit-requires-clause-lawful
commit-requires-clause-lawful g c =
    let s = c.args.self.now in
    let n = numbers_of s.store s.next_id in
    let shape = shape_split s.catalogue n s.map c.args.map (streams_of s.pump) c.args.key.now c.args.upper c.requires.split (subst AreParts c.map.view_is c.map.invariant) s.lawful in
    lawful_next (bare_manifest (durable_with s.catalogue n c.args.map (streams_of s.pump))) (view_manifest c.in_ok-next.next) (c.in_ok-next.ensures ∙ ap (λ cat. bare_manifest (durable_with cat n c.args.map (streams_of s.pump))) c.in_ok-copy.ensures) refl
    c.tables-tables.ensures.lawful shape

pub commit-requires-clause-taken : goal.commit-requires-clause-taken
commit-requires-clause-taken g c = taken_by c.args.self.now.store c.args.self.now.taken

pub invariant_of-self-in-Break-branch-4 : goal.invariant_of-self-in-Break-branch-4
invariant_of-self-in-Break-branch-4 g c =
    let s = c.args.self.now in
    let call = c.commit.ensures.call in
    let held = c.upper_half.ensures.held in
    record {
      as_many = ap length held ∙ s.as_many;
      behind = subst (λ (xs : List Changes). IsTrue (are_behind (streams_of s.pump) (map held_in xs))) (sym held) s.behind;
      settled = s.settled;
      lawful = shape_kept s.catalogue s.catalogue s.store c.commit.new.store s.next_id s.map (streams_of s.pump) c.commit.ensures.result call.kept s.lawful;
      taken = still_taken s.store c.commit.new.store c.commit.ensures.result call.kept s.taken;
    }

pub invariant_of-self-2 : goal.invariant_of-self-2
invariant_of-self-2 g c =
    let s = c.args.self.now in
    let call = c.commit.ensures.call in
    let split = c.requires.split in
    let key = c.args.key.now in
    let upper = c.args.upper in
    let ss = streams_of s.pump in
    let held : map held_in c.install_halves.new.parts.items ≡ parted_at (upper - 1) key (memory_of s) = c.install_halves.ensures ∙ ap (λ (xs : List Changes). parted_at (upper - 1) key (map held_in xs)) c.upper_half.ensures.held in
    let shape = shape_split s.catalogue (numbers_of s.store s.next_id) s.map c.args.map ss key upper split (subst AreParts c.map.view_is c.map.invariant) s.lawful in
    record {
      as_many = still_as_many s.map split.parts c.args.map s.parts.items c.install_halves.new.parts.items upper key s.as_many split.split split.same held;
      behind = behind_parted ss (upper - 1) key (memory_of s) (map held_in c.install_halves.new.parts.items) held s.behind;
      settled = c.requires.settled;
      lawful = shape_kept s.catalogue s.catalogue s.store c.commit.new.store s.next_id c.args.map ss c.commit.ensures.result call.kept shape;
      taken = still_taken s.store c.commit.new.store c.commit.ensures.result call.kept s.taken;
    }
