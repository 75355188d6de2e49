use Rattle.std.proofs.Common.{false, rules, true, ◌≡◌}
use Rattle.std.specs.Option.{option_copied}
use Rattle.std.proofs.lemmas.List.Sorted.{IsPartitionPoint-from_clause}
use Rattle.lt_terms.specs.Key.{is_below_high}
use Rattle.lt_version_laws.proofs.MeetSteps.{meet_steps}
use Rattle.lt_delta.specs.View.{view_entries, view_entry}
use Rattle.lt_delta.proofs.Meets.{parted_unseen, point_seen}
use Rattle.lt_delta.proofs.meeting.begun_below.Goals as goal

pub returns-clause-parted : goal.returns-clause-parted
returns-clause-parted c =
    let es = c.args.entries.now in
    let high = option_copied c.args.high in
    let parted = parted_unseen view_entry (λ e. is_below_high e.first high) es (meet_steps.begins_parted high (view_entries es) c.requires) in
    point_seen view_entry (λ e. is_below_high e.first high ≡ true) (λ e. is_below_high e.first high ≡ false) es c.partition_point.result c.partition_point.ensures.bound
    (IsPartitionPoint-from_clause (λ e. is_below_high e.first high) es c.partition_point.result c.partition_point.ensures.partitioned parted (λ a r g called. search rules))
