use Rattle.std.proofs.Common.{false, rules, true, ◌≡◌}
use Rattle.std.proofs.lemmas.List.Sorted.{IsPartitionPoint-from_clause}
use Rattle.lt_terms.specs.Key.{below}
use Rattle.lt_version_laws.proofs.MeetSteps.{meet_steps}
use Rattle.lt_delta.specs.View.{view_entries, view_entry}
use Rattle.lt_delta.proofs.Meets.{parted_unseen, point_seen}
use Rattle.lt_delta.proofs.meeting.ended_below.Goals as goal

pub returns-clause-parted : goal.returns-clause-parted
returns-clause-parted c =
    let es = c.args.entries.now in
    let low = c.args.low.now in
    let parted = parted_unseen view_entry (λ e. below e.last low) es (meet_steps.ends_parted low (view_entries es) c.requires) in
    point_seen view_entry (λ e. below e.last low ≡ true) (λ e. below e.last low ≡ false) es c.partition_point.result c.partition_point.ensures.bound
    (IsPartitionPoint-from_clause (λ e. below e.last low) es c.partition_point.result c.partition_point.ensures.partitioned parted (λ a r g called. search rules))
