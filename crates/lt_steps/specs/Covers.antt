-- A job over partitions that are split, and that may later be made one: its inputs stand wherever a partition meets its range.
use Rattle.std.specs.Prelude.{IfSome, IsTrue, List, None, Some, [], zip, ℕ, ◌&&◌, ◌<◌, ◌==◌, ◌↔◌, ◌∷◌, ◌≡◌, ◌⊎◌}
use Rattle.std.specs.List.{AllByRecursion, list_any}
use Rattle.lt_machine.specs.Claims.{Claim, whole_claims}
use Rattle.lt_world.specs.Feed.{Feed}
use Rattle.lt_terms.specs.Key.{Range, common, in_range, meets}
use Rattle.lt_terms.specs.Log.{Change, Header}
use Rattle.lt_machine.specs.Machine.{Answer, Does, Job, State, Step, opened, part_job, ranges_of, refused}
use Rattle.lt_words.specs.Reply.{Refusal}
use Rattle.lt_machine.specs.Run.{AfterFault}
use Rattle.lt_tables.specs.Query.{Command, Mode}
use Rattle.lt_machine.specs.Sound.{HasPart, JobStands, ListsAll}
use Rattle.lt_tables.specs.Pump.{Part}
use Rattle.lt_storage.specs.Store.{Durable, merged_in}
use Rattle.lt_steps.specs.Jobs.{keeps_job}

-- a delta is an input of the job, or it holds in a range only versions above the job's minimum
abbrev pub IsInputOrLate : Durable → Job → Range → ℕ → Type 0
IsInputOrLate d j r id = IsTrue (list_any (λ i. i == id) j.inputs) ⊎ ((table : ℕ) → AllByRecursion (λ v. j.minimum < v.ts) (merged_in d.catalogue d.shelf (id ∷ []) r table))

-- A partition that meets the job's range lists its inputs. For a major job every other delta of the partition holds, where the two ranges
-- meet, only versions above the job's minimum. A job stands where this holds of each partition.
abbrev pub CoversAt : Durable → Job → Part → Range → Type 0
CoversAt d j p r = IsTrue (meets r j.range) → ListsAll p.ids j.inputs × (IsTrue j.is_major → AllByRecursion (IsInputOrLate d j (common r j.range)) p.ids)

-- The same of a list that says for each delta the range in which it counts, as partitions have it that may be made one: where the partition's
-- range and the job's meet, each key of each input counts, and what other deltas have there is late.
abbrev pub ClaimsCoverAt : Durable → Job → List Claim → Range → Type 0
ClaimsCoverAt d j cs r = IsTrue (meets r j.range) → AllByRecursion (λ i. (key : List ℕ) → IsTrue (in_range key (common r j.range)) → IsTrue (list_any (λ c. c.id == i && in_range key c.range) cs)) j.inputs
    × (IsTrue j.is_major → AllByRecursion (λ c. IsInputOrLate d j (common c.range j.range) c.id) cs)

-- some partition lies in the range of an open job
abbrev pub PartOfJob : State → Type 0
PartOfJob s = IfSome s.job (HasPart s.durable)

pub record CoverLaws : Type 0 where
  -- it is what is said of an open job's inputs
  pub stands : (d : Durable) (j : Job) → JobStands d j ↔ AllByRecursion (λ x. CoversAt d j x.0 x.1) (zip d.parts (ranges_of d))
  -- where each delta of a partition counts in its whole range, it is what is said of such lists
  pub claims : (d : Durable) (j : Job) (p : Part) (r : Range) → CoversAt d j p r ↔ ClaimsCoverAt d j (whole_claims r p.ids) r
  -- some partition lies in the range of a job that begins, and one does while other commands are answered
  pub begins : (d : Durable) (p : ℕ) (m : Mode) (j : Job) → part_job d p m ≡ Some j → HasPart d j
  pub stays : (f : Feed) (source : List Change) (s s' : State) (j : Job) (c : Command) (a : Answer) → s.job ≡ Some j → HasPart s.durable j → IsTrue (keeps_job c) → refused s c ≡ None → Does f source s c a s' → HasPart s'.durable j
  -- so an opening, each command and each fault leave that some partition lies in an open job's range
  pub opens : (d : Durable) (hs : List Header) → PartOfJob (opened d hs)
  pub steps : (f : Feed) (source : List Change) (s s' : State) (c : Command) (a : Answer) → PartOfJob s → Step f source s c a s' → PartOfJob s'
  pub faults : (f : Feed) (source : List Change) (s s' : State) (c : Command) (r : Refusal) → PartOfJob s → AfterFault f source s c r s' → PartOfJob s'
