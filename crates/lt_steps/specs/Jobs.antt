-- What a job has made after some keys, what a further step adds, and what each command between its beginning and its finish leaves of it.
use Rattle.std.specs.Prelude.{Bool, IfSome, IsSome, IsTrue, List, None, Option, Some, [], drop, false, flat_map, if◌then◌else◌, length, map, nat_le, slice_get, take, true, ℕ, ◌+◌, ◌++◌, ◌==◌, ◌≡◌, ◌≤◌, ◌∷◌, ◌↔◌}
use Rattle.std.specs.List.{list_all}
use Rattle.lt_terms.specs.declared.Extent.{Extent}
use Rattle.lt_terms.specs.declared.Progress.TheVariants as progress
use Rattle.lt_storage.specs.Bundle.{bundle_bytes, cut_groups, full_size, grouped}
use Rattle.lt_world.specs.Feed.{Feed}
use Rattle.lt_terms.specs.Layout.{Leaf}
use Rattle.lt_terms.specs.Log.{Change, Header, Item}
use Rattle.lt_machine.specs.Machine.{Answer, Does, Job, State, Step, delta_of, job_after, job_keys, job_output, job_progress}
use Rattle.lt_machine.specs.Outside.{AreBesides, AreMade, MadeStand, bundles_made, bytes_of_bundle, full_bundles, input_keys, job_bundles, made_of, next_bundles}
use Rattle.lt_words.specs.Reply.{Refusal}
use Rattle.lt_machine.specs.Run.{AfterFault}
use Rattle.lt_tables.specs.Query.{Command, do_compact, do_deltas, do_flush, do_job_begin, do_job_drop, do_job_finish, do_job_step, do_page, do_pump, do_reopen, do_retain, do_retire, do_scan, do_schema, do_split, do_status}
use Rattle.lt_machine.specs.Sound.{IsGood, Session, source_of}
use Rattle.lt_world.specs.Extents.{apart}
use Rattle.lt_storage.specs.Store.{Delta, bundle_lengths, extents_of, merged_in}
use Rattle.lt_tables.specs.Version.{RowVersion}

-- ---- laws: what a job has made

pub record JobMakes : Type 0 where
  -- it is the front of its output
  pub front : (s : State) (j : Job) → bundles_made s.durable.shelf j ≡ take (length (bundles_made s.durable.shelf j)) (job_bundles s j)
  -- a step of k keys adds the next ones
  pub steps : (s : State) (k : ℕ) (j : Job) → bundles_made s.durable.shelf (job_after s k j) ≡ bundles_made s.durable.shelf j ++ next_bundles s k j
  pub next : (s : State) (k : ℕ) (j : Job) → next_bundles s k j ≡ take (length (next_bundles s k j)) (drop (length (bundles_made s.durable.shelf j)) (job_bundles s j))
  -- one that has taken no key has made none
  pub begins : (s : State) (j : Job) → j.taken ≡ 0 → bundles_made s.durable.shelf j ≡ []
  -- one that is done has made all; it is done exactly where no key is left
  pub done : (s : State) (j : Job) → job_progress s j ≡ progress.Done → bundles_made s.durable.shelf j ≡ job_bundles s j
  pub left : (s : State) (j : Job) → (job_progress s j ≡ progress.Done) ↔ (job_keys s.durable.shelf j ≤ j.taken)

-- the bundles of a delta, each with its layout, in order
abbrev pub delta_bundles : Delta → List (List Leaf × List RowVersion)
delta_bundles d = flat_map (λ t. map (λ b. (t.layout, b)) t.bundles) d.tables

-- the new delta of a finish is spelled by what the job has made
pub record JobSpells : Type 0 where
  pub bundles : (s : State) (j : Job) (id : ℕ) → delta_bundles (delta_of id j.catalogue (job_output s.durable.shelf j)) ≡ job_bundles s j
  pub lengths : (s : State) (j : Job) (id : ℕ) → bundle_lengths (delta_of id j.catalogue (job_output s.durable.shelf j)) ≡ map (λ b. length (bytes_of_bundle b)) (job_bundles s j)

-- ---- what other commands leave of a job

-- the commands that leave a job open where one is, and none where none is
abbrev pub keeps_job : Command → Bool
keeps_job (do_schema t) = true
keeps_job (do_retire t v) = true
keeps_job (do_pump n k) = true
keeps_job (do_flush p) = true
keeps_job (do_compact p m) = true
keeps_job (do_job_begin p m) = false
keeps_job (do_job_step n) = true
keeps_job do_job_finish = false
keeps_job do_job_drop = false
keeps_job (do_split t k) = true
keeps_job (do_retain t) = true
keeps_job (do_scan q) = true
keeps_job (do_page q) = true
keeps_job do_status = true
keeps_job (do_deltas p) = true
keeps_job do_reopen = false

-- the extents of some first bundles of an open job's output, however many
abbrev pub MadeExtents : Option Job → State → List Extent → Type 0
MadeExtents None s made = made ≡ []
MadeExtents (Some j) s made = map (λ e. e.length) made ≡ map (λ b. length (bytes_of_bundle b)) (take (length made) (job_bundles s j))

-- a job stays open, with the same output; it may have taken more keys
pub record StaysOpen (s s' : State) (j : Job) : Type 0 where
  pub taken : ℕ
  pub open_still : s'.job ≡ Some (record j { taken = taken })
  pub keys : job_keys s'.durable.shelf j ≡ job_keys s.durable.shelf j
  pub output : job_bundles s' (record j { taken = taken }) ≡ job_bundles s j
  pub made : (n : ℕ) → bundles_made s'.durable.shelf (record j { taken = n }) ≡ bundles_made s.durable.shelf (record j { taken = n })

pub record JobStays : Type 0 where
  -- between its beginning and its finish, while other commands are answered
  pub stays : (f : Feed) (fs : List (Header × List Item)) (s s' : State) (j : Job) (c : Command) (a : Answer) → IsGood f s fs → s.job ≡ Some j → IsTrue (keeps_job c) → Step f (source_of fs) s c a s' → StaysOpen s s' j
  -- so what it has made stays what stands besides the session's own extents
  pub extents : (f : Feed) (fs : List (Header × List Item)) (s s' : State) (c : Command) (a : Answer) (made : List Extent) → IsGood f s fs → IsTrue (keeps_job c) → Step f (source_of fs) s c a s' → MadeExtents s.job s made → MadeExtents s'.job s' made
  pub stand : (f : Feed) (fs : List (Header × List Item)) (s s' : State) (c : Command) (a : Answer) (made : List Extent) (image : List ℕ) → IsGood f s fs → IsTrue (keeps_job c) → Step f (source_of fs) s c a s' → MadeStand s.job s made image → MadeStand s'.job s' made image
  pub besides : (f : Feed) (fs : List (Header × List Item)) (x y : Session) (c : Command) (a : Answer) → IsGood f x.state fs → IsTrue (keeps_job c) → y.state.job ≡ x.state.job → Step f (source_of fs) x.state c a y.state
      → y.failed ≡ x.failed → y.made ≡ x.made → AreBesides x → IsTrue (list_all (λ e. list_all (apart e) (extents_of y.placing)) y.made) → AreBesides y
  -- nor does a fault change what the job has made; where it breaks the session the failed command's extents may be live too
  pub faults : (f : Feed) (source : List Change) (x y : Session) (c : Command) (r : Refusal) → AfterFault f source x.state c r y.state → y.placing ≡ x.placing → y.made ≡ x.made → AreBesides x → IfSome y.failed (λ l. IsSome y.state.broken) → AreBesides y
  pub fault_stand : (f : Feed) (source : List Change) (s s' : State) (c : Command) (r : Refusal) (made : List Extent) (image : List ℕ) → AfterFault f source s c r s' → MadeStand s.job s made image → MadeStand s'.job s' made image
  -- one that begins has made none; with a finish, a drop and a reopening there is no job, and nothing stands for one
  pub begins : (f : Feed) (source : List Change) (s s' : State) (c : Command) (a : Answer) → keeps_job c ≡ false → Does f source s c a s' → MadeExtents s'.job s' [] × ((image : List ℕ) → MadeStand s'.job s' [] image)
  -- a step's further bundles stand behind those that were made
  pub more : (s : State) (j : Job) (made es : List Extent) → MadeExtents (Some j) s made → map (λ e. e.length) es ≡ map (λ b. length (bytes_of_bundle b)) (take (length es) (drop (length made) (job_bundles s j))) → MadeExtents (Some j) s (made ++ es)

-- ---- exactly what the keys taken complete

pub record JobMadeExactly : Type 0 where
  pub extents : (s : State) (made : List Extent) → AreMade s.job s made → MadeExtents s.job s made
  pub many : (s : State) (j : Job) (made : List Extent) → AreMade (Some j) s made → length made ≡ length (bundles_made s.durable.shelf j)
  -- other commands leave it
  pub stays : (f : Feed) (fs : List (Header × List Item)) (s s' : State) (c : Command) (a : Answer) (made : List Extent) → IsGood f s fs → IsTrue (keeps_job c) → s'.job ≡ s.job → Step f (source_of fs) s c a s' → AreMade s.job s made → AreMade s'.job s' made
  -- a step adds the extents of the bundles that its keys complete
  pub steps : (f : Feed) (source : List Change) (s s' : State) (k : ℕ) (j : Job) (a : Answer) (made es : List Extent) → s.job ≡ Some j → Does f source s (do_job_step k) a s' → AreMade s.job s made
      → map (λ e. e.length) es ≡ map (λ b. length (bytes_of_bundle b)) (next_bundles s k j) → AreMade s'.job s' (made ++ es)
  -- one that is refused leaves what was made, so the extents that it took are given back
  pub faults : (f : Feed) (source : List Change) (s s' : State) (c : Command) (r : Refusal) (made : List Extent) → AfterFault f source s c r s' → AreMade s.job s made → AreMade s'.job s' made
  pub begins : (f : Feed) (source : List Change) (s s' : State) (c : Command) (a : Answer) → keeps_job c ≡ false → Does f source s c a s' → AreMade s'.job s' []
  -- a job that is done has made all that a finish spells
  pub done : (s : State) (j : Job) (made : List Extent) → AreMade (Some j) s made → job_progress s j ≡ progress.Done → map (λ e. e.length) made ≡ map (λ b. length (bytes_of_bundle b)) (job_bundles s j)

-- ---- key by key

-- what stands in the open bundle behind those that are closed by their size
abbrev pub open_left : List Leaf → List RowVersion → List (List RowVersion) → List RowVersion
open_left layout open_one [] = open_one
open_left layout open_one (g ∷ gs) = if nat_le full_size (length (bundle_bytes layout (open_one ++ g))) then open_left layout [] gs else open_left layout (open_one ++ g) gs

-- a key's versions as a group, where there are some
abbrev pub as_group : List RowVersion → List (List RowVersion)
as_group vs = if length vs == 0 then [] else vs ∷ []

pub record JobGoesOn : Type 0 where
  -- bundles go on where those of the groups before left one open
  pub full : (layout : List Leaf) (open_one : List RowVersion) (gs hs : List (List RowVersion)) → full_bundles layout open_one (gs ++ hs) ≡ full_bundles layout open_one gs ++ full_bundles layout (open_left layout open_one gs) hs
  pub whole : (layout : List Leaf) (open_one : List RowVersion) (gs hs : List (List RowVersion)) → cut_groups layout open_one (gs ++ hs) ≡ full_bundles layout open_one gs ++ cut_groups layout (open_left layout open_one gs) hs
  pub left : (layout : List Leaf) (open_one : List RowVersion) (gs hs : List (List RowVersion)) → open_left layout open_one (gs ++ hs) ≡ open_left layout (open_left layout open_one gs) hs
  -- what a job makes of its inputs in a table it makes key by key: of the keys before, and then of the next one
  pub next_key : (shelf : List Delta) (j : Job) (t n : ℕ) (g : List RowVersion) → slice_get (input_keys shelf j t) n ≡ Some g
      → grouped (made_of j (flat_map (λ g. g) (take (n + 1) (input_keys shelf j t)))) ≡ grouped (made_of j (flat_map (λ g. g) (take n (input_keys shelf j t)))) ++ as_group (made_of j g)
  -- all keys make the table's output
  pub all_keys : (shelf : List Delta) (j : Job) (t : ℕ) → grouped (made_of j (flat_map (λ g. g) (input_keys shelf j t))) ≡ grouped (made_of j (merged_in j.catalogue shelf j.inputs j.range t))
