-- Some partition lies in a job's range while other commands are answered; and how its inputs stand in lists that say where each delta counts.
use Rattle.std.proofs.Common.{Bool, List, [], ap, cond, false, inl, inr, refl, subst, sym, true, ℕ, ◌∙◌, ◌∷◌, ◌≡◌}
use Rattle.std.specs.Prelude.{IfSome, IsTrue, None, Option, Some, not, ◌&&◌, ◌==◌, ◌||◌}
use Rattle.std.specs.List.{AllByRecursion, list_any}
use Rattle.std.proofs.lemmas.Bool.{and_from, and_parts, false≢true, or_cases}
use Rattle.lt_machine.specs.Claims.{Claim, whole_claims}
use Rattle.lt_world.specs.Feed.{Feed}
use Rattle.lt_terms.specs.Key.{Range, below, common, in_range, is_below_high, is_high_within, lies_in}
use Rattle.lt_terms.specs.Log.{Change}
use Rattle.lt_machine.specs.Machine.{Answer, Does, Job, State, StepBy, flush_id, job_after, ranges_of, refused, resume_after, split_key, with_id, with_resume}
use Rattle.lt_words.specs.Reply.{Refusal}
use Rattle.lt_machine.specs.Run.{AfterFault}
use Rattle.lt_tables.specs.Query.{Command, do_compact, do_deltas, do_flush, do_job_begin, do_job_drop, do_job_finish, do_job_step, do_page, do_pump, do_reopen, do_retain, do_retire, do_scan, do_schema, do_split, do_status}
use Rattle.lt_machine.specs.Sound.{HasPart}
use Rattle.lt_tables.specs.Pump.{Part}
use Rattle.lt_storage.specs.Store.{Durable, part_ranges}
use Rattle.lt_session_laws.proofs.CompactLaws.{no_job}
use Rattle.lt_lemmas.proofs.ClipLaws.{in-common}
use Rattle.lt_codecs.proofs.ListFacts.{all_map}
use Rattle.lt_session_laws.proofs.PartsChanged.{ranges_changed}
use Rattle.lt_lemmas.proofs.PointLaws.{below_trans}
use Rattle.lt_lemmas.proofs.SoundLaws.{not-true, pick}
use Rattle.lt_lemmas.proofs.SplitLaws.{meets_some}
use Rattle.lt_session_laws.proofs.SplitLaws.{first_stays}
use Rattle.lt_session_laws.proofs.StepLaws.{unrefused}
use Rattle.lt_steps.proofs.CommitLaws.{has_part}
use Rattle.lt_steps.proofs.JobKept.{same_job}
use Rattle.lt_steps.proofs.SplitParts.{id_low, lower, range_before, split_at, upper}
use Rattle.lt_steps.specs.Covers.{ClaimsCoverAt, CoverLaws, CoversAt, IsInputOrLate, PartOfJob}
use Rattle.lt_steps.specs.Jobs.{keeps_job}
use Rattle.lt_lemmas.proofs.SnapshotLaws.{or_left, or_right}

abbrev IsWithinFirst : Range → Range → Type 0
IsWithinFirst r t = (key : List ℕ) → in_range key (common r t) ≡ true → in_range key r ≡ true

common_first : (r t : Range) → IsWithinFirst r t
common_first r t key h = (and_parts (in_range key r) (in_range key t) (sym (in-common key r t) ∙ h)).0

abbrev some_lies : Range → List Part → Bool
some_lies t ps = list_any (λ r. lies_in r t) (part_ranges ps)

high_lower : (key : List ℕ) (a b : Option (List ℕ)) → is_below_high key a ≡ true → is_high_within a b ≡ true → is_high_within (Some key) b ≡ true
high_lower key a None h i = refl
high_lower key None (Some b) h i = absurd (false≢true i)
high_lower key (Some a) (Some b) h i = pick (below b key) (λ e. absurd (false≢true (sym (not-true (below b a) i) ∙ below_trans b key a e h))) (λ e. ap not e)

lower_lies : (r t : Range) (key : List ℕ) → in_range key r ≡ true → lies_in r t ≡ true → lies_in (lower r key) t ≡ true
lower_lies r t key w l =
    let p = and_parts (not (below r.low t.low)) (is_high_within r.high t.high) l in
    and_from _ _ p.0 (high_lower key r.high t.high (and_parts (not (below key r.low)) (is_below_high key r.high) w).1 p.1)

lies_by : (t : Range) (key : List ℕ) (p : Part) (ps : List Part) (b : Bool) → in_range key (range_before p ps) ≡ b → lies_in (range_before p ps) t || some_lies t ps ≡ true → (some_lies t ps ≡ true → some_lies t (split_at key ps) ≡ true)
    → some_lies t (cond b (p ∷ record p { low = key } ∷ ps) (p ∷ split_at key ps)) ≡ true
lies_by t key p ps true e h ih = elim (or_cases (lies_in (range_before p ps) t) (some_lies t ps) h) [
  | inl l ↦ or_left (lies_in (lower (range_before p ps) key) t) _ (lower_lies (range_before p ps) t key e l)
  | inr l ↦ or_right (lies_in (lower (range_before p ps) key) t) _ (or_right (lies_in (upper (range_before p ps) key) t) (some_lies t ps) l)
]
lies_by t key p ps false e h ih = subst (λ (o : Option (List ℕ)). lies_in (record { low = p.low; high = o }) t || some_lies t (split_at key ps) ≡ true) (sym (first_stays key ps))
    (elim (or_cases (lies_in (range_before p ps) t) (some_lies t ps) h) [ inl l ↦ or_left (lies_in (range_before p ps) t) (some_lies t (split_at key ps)) l | inr l ↦ or_right (lies_in (range_before p ps) t) (some_lies t (split_at key ps)) (ih l) ])

lies_split : (t : Range) (key : List ℕ) (ps : List Part) → some_lies t ps ≡ true → some_lies t (split_at key ps) ≡ true
lies_split t key [] h = h
lies_split t key (p ∷ ps) h = lies_by t key p ps (in_range key (range_before p ps)) refl h (lies_split t key ps)

part_as : (d e : Durable) (j : Job) → e.parts ≡ d.parts → HasPart d j → HasPart e j
part_as d e j p h = subst (λ (ps : List Part). IsTrue (some_lies j.range ps)) (sym p) h

part_stays : (f : Feed) (source : List Change) (s s' : State) (j : Job) (c : Command) (a : Answer) → s.job ≡ Some j → HasPart s.durable j → IsTrue (keeps_job c) → refused s c ≡ None → Does f source s c a s' → HasPart s'.durable j
part_stays f source s s' j (do_schema t) a e h k free d = part_as s.durable s'.durable j (ap (λ (x : State). x.durable.parts) d.3) h
part_stays f source s s' j (do_retire t v) a e h k free d = part_as s.durable s'.durable j (ap (λ (x : State). x.durable.parts) d.3) h
part_stays f source s s' j (do_pump n m) a e h k free d = part_as s.durable s'.durable j (ap (λ (x : State). x.durable.parts) d.6) h
part_stays f source s s' j (do_flush p) a e h k free d =
    let same : part_ranges s'.durable.parts ≡ ranges_of s.durable = ap (λ (x : State). part_ranges x.durable.parts) d.1 ∙ ranges_changed (λ x. with_resume (resume_after s p) (with_id (flush_id s p) x)) p s.durable.parts (λ x. id_low (flush_id s p) (resume_after s p) x) in
    subst (λ (rs : List Range). IsTrue (list_any (λ r. lies_in r j.range) rs)) (sym same) h
part_stays f source s s' j (do_compact p m) a e h k free d = let n : None ≡ Some j = sym (no_job s s.job refl (unrefused s (do_compact p m) free).alone) ∙ e in absurd cc
part_stays f source s s' j (do_job_begin p m) a e h k free d = absurd (false≢true k)
part_stays f source s s' j (do_job_step n) a e h k free d = part_as s.durable s'.durable j (ap (λ (x : State). x.durable.parts) d.3) h
part_stays f source s s' j do_job_finish a e h k free d = absurd (false≢true k)
part_stays f source s s' j do_job_drop a e h k free d = absurd (false≢true k)
part_stays f source s s' j (do_split t ls) a e h k free d =
    let parts : s'.durable.parts ≡ split_at (split_key d.0 ls) s.durable.parts = ap (λ (x : State). x.durable.parts) d.3 in
    subst (λ (ps : List Part). IsTrue (some_lies j.range ps)) (sym parts) (lies_split j.range (split_key d.0 ls) s.durable.parts h)
part_stays f source s s' j (do_retain t) a e h k free d = part_as s.durable s'.durable j (ap (λ (x : State). x.durable.parts) d.1) h
part_stays f source s s' j (do_scan q) a e h k free d = part_as s.durable s'.durable j (ap (λ (x : State). x.durable.parts) d.2) h
part_stays f source s s' j (do_page q) a e h k free d = part_as s.durable s'.durable j (ap (λ (x : State). x.durable.parts) d.2) h
part_stays f source s s' j do_status a e h k free d = part_as s.durable s'.durable j (ap (λ (x : State). x.durable.parts) d.1) h
part_stays f source s s' j (do_deltas p) a e h k free d = part_as s.durable s'.durable j (ap (λ (x : State). x.durable.parts) d.1) h
part_stays f source s s' j do_reopen a e h k free d = absurd (false≢true k)

-- ---- an open job's range

part_by : (s s' : State) (o : Option Job) → s.job ≡ o → s'.job ≡ s.job → ((j : Job) → s.job ≡ Some j → HasPart s.durable j → HasPart s'.durable j) → IfSome o (HasPart s.durable) → PartOfJob s'
part_by s s' None e same f h = subst (λ (o : Option Job). IfSome o (HasPart s'.durable)) (sym (same ∙ e)) tt
part_by s s' (Some j) e same f h = subst (λ (o : Option Job). IfSome o (HasPart s'.durable)) (sym (same ∙ e)) (f j e h)

part_of_job : (s : State) (j : Job) → s.job ≡ Some j → PartOfJob s → HasPart s.durable j
part_of_job s j e h = subst (λ (o : Option Job). IfSome o (HasPart s.durable)) e h

with_job : (s : State) (o : Option Job) → s.job ≡ o → IfSome o (HasPart s.durable) → PartOfJob s
with_job s o e h = subst (λ (o : Option Job). IfSome o (HasPart s.durable)) (sym e) h

does_keep : (f : Feed) (source : List Change) (s s' : State) (c : Command) (a : Answer) → PartOfJob s → refused s c ≡ None → Does f source s c a s' → PartOfJob s'
does_keep f source s s' (do_schema t) a h free d = part_by s s' s.job refl (ap (λ (x : State). x.job) d.3) (λ j e p. part_stays f source s s' j (do_schema t) a e p refl free d) h
does_keep f source s s' (do_retire t v) a h free d = part_by s s' s.job refl (ap (λ (x : State). x.job) d.3) (λ j e p. part_stays f source s s' j (do_retire t v) a e p refl free d) h
does_keep f source s s' (do_pump n m) a h free d = part_by s s' s.job refl (ap (λ (x : State). x.job) d.6) (λ j e p. part_stays f source s s' j (do_pump n m) a e p refl free d) h
does_keep f source s s' (do_flush p) a h free d = part_by s s' s.job refl (ap (λ (x : State). x.job) d.1) (λ j e q. part_stays f source s s' j (do_flush p) a e q refl free d) h
does_keep f source s s' (do_compact p m) a h free d = part_by s s' s.job refl (ap (λ (x : State). x.job) d.3) (λ j e q. part_stays f source s s' j (do_compact p m) a e q refl free d) h
does_keep f source s s' (do_job_begin p m) a h free d = with_job s' (Some d.0) (ap (λ (x : State). x.job) d.3) (part_as s.durable s'.durable d.0 (ap (λ (x : State). x.durable.parts) d.3) (has_part s.durable p m d.0 d.1))
does_keep f source s s' (do_job_step n) a h free d =
    with_job s' (Some (job_after s n d.0)) (ap (λ (x : State). x.job) d.3) (part_as s.durable s'.durable d.0 (ap (λ (x : State). x.durable.parts) d.3) (part_of_job s d.0 d.1 h))
does_keep f source s s' do_job_finish a h free d = with_job s' None (ap (λ (x : State). x.job) d.3) tt
does_keep f source s s' do_job_drop a h free d = with_job s' None (ap (λ (x : State). x.job) d.1) tt
does_keep f source s s' (do_split t ls) a h free d = part_by s s' s.job refl (ap (λ (x : State). x.job) d.3) (λ j e p. part_stays f source s s' j (do_split t ls) a e p refl free d) h
does_keep f source s s' (do_retain t) a h free d = part_by s s' s.job refl (ap (λ (x : State). x.job) d.1) (λ j e p. part_stays f source s s' j (do_retain t) a e p refl free d) h
does_keep f source s s' (do_scan q) a h free d = part_by s s' s.job refl (ap (λ (x : State). x.job) d.2) (λ j e p. part_stays f source s s' j (do_scan q) a e p refl free d) h
does_keep f source s s' (do_page q) a h free d = part_by s s' s.job refl (ap (λ (x : State). x.job) d.2) (λ j e p. part_stays f source s s' j (do_page q) a e p refl free d) h
does_keep f source s s' do_status a h free d = part_by s s' s.job refl (ap (λ (x : State). x.job) d.1) (λ j e p. part_stays f source s s' j do_status a e p refl free d) h
does_keep f source s s' (do_deltas p) a h free d = part_by s s' s.job refl (ap (λ (x : State). x.job) d.1) (λ j e q. part_stays f source s s' j (do_deltas p) a e q refl free d) h
does_keep f source s s' do_reopen a h free d = with_job s' None (ap (λ (x : State). x.job) d.3) tt

step_keeps_part : (f : Feed) (source : List Change) (s s' : State) (c : Command) (a : Answer) (o : Option Refusal) → refused s c ≡ o → PartOfJob s → StepBy o f source s c a s' → PartOfJob s'
step_keeps_part f source s s' c a (Some r) e h d = subst PartOfJob (sym d.1) h
step_keeps_part f source s s' c a None e h d = does_keep f source s s' c a h e d

fault_keeps_part : (f : Feed) (source : List Change) (s s' : State) (c : Command) (r : Refusal) → PartOfJob s → AfterFault f source s c r s' → PartOfJob s'
fault_keeps_part f source s s' c r h e =
    let k = same_job f source s s' c r e in
    part_by s s' s.job refl k.job (λ j is p. part_as s.durable s'.durable j (ap (λ (d : Durable). d.parts) k.durable) p) h

-- ---- lists that say where each delta counts

claimed_by : (key : List ℕ) (i : ℕ) (r : Range) (ids : List ℕ) → in_range key r ≡ true → list_any (λ x. x == i) ids ≡ true → list_any (λ c. c.id == i && in_range key c.range) (whole_claims r ids) ≡ true
claimed_by key i r [] w h = absurd (false≢true h)
claimed_by key i r (x ∷ ids) w h = elim (or_cases (x == i) (list_any (λ x. x == i) ids) h) [
  | inl e ↦ or_left (x == i && in_range key r) (list_any (λ c. c.id == i && in_range key c.range) (whole_claims r ids)) (and_from _ _ e w)
  | inr e ↦ or_right (x == i && in_range key r) (list_any (λ c. c.id == i && in_range key c.range) (whole_claims r ids)) (claimed_by key i r ids w e)
]

listed_by : (key : List ℕ) (i : ℕ) (r : Range) (ids : List ℕ) → list_any (λ c. c.id == i && in_range key c.range) (whole_claims r ids) ≡ true → list_any (λ x. x == i) ids ≡ true
listed_by key i r [] h = absurd (false≢true h)
listed_by key i r (x ∷ ids) h = elim (or_cases (x == i && in_range key r) (list_any (λ c. c.id == i && in_range key c.range) (whole_claims r ids)) h) [
  | inl e ↦ or_left (x == i) (list_any (λ x. x == i) ids) (and_parts (x == i) (in_range key r) e).0
  | inr e ↦ or_right (x == i) (list_any (λ x. x == i) ids) (listed_by key i r ids e)
]

all_claimed : (P : Claim → Type 0) (r : Range) (ids : List ℕ) → AllByRecursion (λ id. P (record { id = id; range = r })) ids → AllByRecursion P (whole_claims r ids)
all_claimed P r [] a = tt
all_claimed P r (id ∷ ids) a = (a.0, all_claimed P r ids a.1)

claimed_all : (P : Claim → Type 0) (r : Range) (ids : List ℕ) → AllByRecursion P (whole_claims r ids) → AllByRecursion (λ id. P (record { id = id; range = r })) ids
claimed_all P r [] a = tt
claimed_all P r (id ∷ ids) a = (a.0, claimed_all P r ids a.1)

to_claims : (d : Durable) (j : Job) (p : Part) (r : Range) → CoversAt d j p r → ClaimsCoverAt d j (whole_claims r p.ids) r
to_claims d j p r h m = let a = h m in (
  all_map (λ i. IsTrue (list_any (λ x. x == i) p.ids)) (λ i. (key : List ℕ) → IsTrue (in_range key (common r j.range)) → IsTrue (list_any (λ c. c.id == i && in_range key c.range) (whole_claims r p.ids))) j.inputs
      (λ i l key w. claimed_by key i r p.ids (common_first r j.range key w) l) a.0,
  (λ major. all_claimed (λ c. IsInputOrLate d j (common c.range j.range) c.id) r p.ids (a.1 major)),
)

from_claims : (d : Durable) (j : Job) (p : Part) (r : Range) → ClaimsCoverAt d j (whole_claims r p.ids) r → CoversAt d j p r
from_claims d j p r h m =
    let a = h m in
    let k = meets_some r j.range m in (
      all_map (λ i. (key : List ℕ) → IsTrue (in_range key (common r j.range)) → IsTrue (list_any (λ c. c.id == i && in_range key c.range) (whole_claims r p.ids))) (λ i. IsTrue (list_any (λ x. x == i) p.ids)) j.inputs
          (λ i f. listed_by k.0 i r p.ids (f k.0 (in-common k.0 r j.range ∙ and_from _ _ k.1 k.2))) a.0,
      (λ major. claimed_all (λ c. IsInputOrLate d j (common c.range j.range) c.id) r p.ids (a.1 major)),
    )

pub cover_laws : CoverLaws
cover_laws = record { stands = λ d j. ((λ h. h), (λ h. h)); claims = λ d j p r. (to_claims d j p r, from_claims d j p r); begins = has_part; stays = part_stays; opens = λ d hs. tt; steps = λ f source s s' c a h d. step_keeps_part f source s s' c a (refused s c) refl h d; faults = fault_keeps_part }
