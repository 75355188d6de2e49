-- What a check and its refusals stand for in the definitions.
use Rattle.std.specs.Prelude.{List, ℕ}
use Rattle.lt_terms.specs.Log as log
use Rattle.lt_tables.specs.Fair as fair
use Rattle.lt_records.specs.View.{view_header}
use Rattle.lt_fair.specs.declared.checker.Checker.{Checker}
use Rattle.lt_fair.specs.declared.point.Point.{Point}
use Rattle.lt_fair.specs.declared.refusal.Unfair.{Unfair}
use Rattle.lt_fair.specs.declared.refusal.Unfair.TheVariants as rules
use Rattle.lt_fair.specs.declared.window.Kept.{Kept}
use Rattle.lt_fair.specs.declared.window.Kept.TheVariants as kept

abbrev pub view_unfair : Unfair → fair.Unfair
view_unfair rules.SecondHeader = fair.second_header
view_unfair rules.Range = fair.out_of_range
view_unfair (rules.UnknownTable number) = fair.unknown_table_number number
view_unfair (rules.UnknownVersion version) = fair.unknown_version_number version
view_unfair rules.Shape = fair.bad_shape
view_unfair (rules.Late checkpoint) = fair.late checkpoint
view_unfair (rules.Order last) = fair.out_of_order last
view_unfair (rules.Backward checkpoint) = fair.backward checkpoint

abbrev pub view_point : Point → fair.Point
view_point p = record { checkpoint = p.checkpoint; greatest = p.greatest; window = p.window }

-- keys with their timestamps, in either form
abbrev pub view_kept : Kept → List (List ℕ × ℕ)
view_kept (kept.Listed window) = window.items
view_kept (kept.Mapped window) = window

-- the header of the stream that is checked
abbrev pub header_of : Checker → log.Header
header_of c = view_header c.header

-- what the check keeps of the items that were taken
abbrev pub point_in : Checker → fair.Point
point_in c = record { checkpoint = c.checkpoint; greatest = c.greatest; window = view_kept c.window }
