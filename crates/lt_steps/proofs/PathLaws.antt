-- From command to command a session stays good, its minimum does not fall, and no checkpoint but at a reopening.
use Rattle.std.proofs.Common.{List, [], ap, arith, false, inl, inr, subst, sym, ◌∷◌, ◌≡◌, ◌≤◌}
use Rattle.std.specs.Prelude.{None, ◌⊎◌}
use Rattle.std.specs.List.{AllByRecursion}
use Rattle.lt_world.specs.Feed.{AreShort, Feed, Grows}
use Rattle.lt_terms.specs.Log.{Header, Item}
use Rattle.lt_machine.specs.Machine.{Answer, CheckpointsStay, State, Step, cat_of, is_reopen, refused}
use Rattle.lt_words.specs.Reply.{Refusal, out_of_memory}
use Rattle.lt_machine.specs.Run.{AfterFault, Answers, CauseOf, LineRunsAs, Moment, last_moment}
use Rattle.lt_tables.specs.Query.{Command}
use Rattle.lt_words.specs.Script.{Line, bad_line, skipped, spells_command}
use Rattle.lt_machine.specs.Sound.{FailedIsLater, FailedIsSound, IsGood, Session, source_of}
use Rattle.lt_terms.specs.Value.{Value}
use Rattle.lt_session_laws.proofs.AllSteps.{step_keeps}
use Rattle.lt_session_laws.proofs.FaultLaws.{fault_keeps}
use Rattle.lt_lemmas.proofs.FrontLaws.{grows_itself}
use Rattle.lt_laws.proofs.FrontStands.{fronts_grow}
use Rattle.lt_session_laws.proofs.GrowthLaws.{growth_keeps}
use Rattle.lt_steps.proofs.RisingLaws.{nothing_falls}
use Rattle.lt_steps.specs.Rising.{AnswersKeep, KeepsFor, MinimumRises, Moved, Moves, Path, PathKeeps, RunsKeep, last_feed, last_state, reopens}

abbrev Kept : Feed → State → Command → State → Type 0
Kept g s c s' = KeepsFor g s' × MinimumRises s s' × (is_reopen c ≡ false → CheckpointsStay s s')

moves_by : (g : Feed) (s s' : State) (c : Command) (fs : List (Header × List Item)) → IsGood g s fs → FailedIsSound g s → FailedIsLater s
    → ((a : Answer) × Step g (source_of fs) s c a s') ⊎ ((r : Refusal) × ((r ≡ out_of_memory) ⊎ (refused s c ≡ None)) × AfterFault g (source_of fs) s c r s') → Kept g s c s'
moves_by g s s' c fs good failed later (inl t) =
    let k = step_keeps c g fs s s' t.0 good failed t.1 in
    let up = nothing_falls.minimum.step g (source_of fs) s s' c t.0 later t.1 in
    ((k.0, k.1, up.1), up.0, (λ n. nothing_falls.checkpoints.step g fs s s' c t.0 good n t.1))
moves_by g s s' c fs good failed later (inr t) =
    let k = fault_keeps g fs s s' c t.0 good failed t.1 t.2 in
    let up = nothing_falls.minimum.fault g (source_of fs) s s' c t.0 later t.1 t.2 in
    (((fs, k.0), k.1, up.1), up.0, (λ n. nothing_falls.checkpoints.fault g fs s s' c t.0 good failed t.1 t.2))

moves_keep : (f g : Feed) (s s' : State) (c : Command) → Grows f g → AreShort g → KeepsFor f s → Moves g s c s' → Kept g s c s'
moves_keep f g s s' c grows short k m = moves_by g s s' c m.0 (growth_keeps.good f g k.0.0 m.0 s grows short k.0.1 m.1) (growth_keeps.failed f g s grows k.1) k.2 m.2

rises_on : (s t u : State) → CheckpointsStay s t → CheckpointsStay t u → CheckpointsStay s u
rises_on s t u a b key = let x = a key in let y = b key in omega (arith, x, y)

minimum_on : (s t u : State) → MinimumRises s t → MinimumRises t u → MinimumRises s u
minimum_on s t u a b = let x : s.durable.minimum ≤ t.durable.minimum = a in let y : t.durable.minimum ≤ u.durable.minimum = b in omega (arith, x, y)

path_keeps_all : (f : Feed) (s : State) (ms : List Moved) → KeepsFor f s → Path f s ms → KeepsFor (last_feed f ms) (last_state s ms) × MinimumRises s (last_state s ms) × (AllByRecursion (λ m. is_reopen m.command ≡ false) ms → CheckpointsStay s (last_state s ms))
path_keeps_all f s [] k p = (k, omega arith, (λ n key. omega arith))
path_keeps_all f s (m ∷ ms) k p =
    let one = moves_keep f m.feed s m.state m.command p.0 p.1 k p.2 in
    let rest = path_keeps_all m.feed m.state ms one.0 p.3 in
    (rest.0, minimum_on s m.state (last_state m.state ms) one.1 rest.1, (λ n. rises_on s m.state (last_state m.state ms) (one.2 n.0) (rest.2 n.1)))

pub path_keeps : PathKeeps
path_keeps = record { one = moves_keep; all = path_keeps_all }

-- ---- a run

-- what is kept for a feed is kept for a longer one
keeps_longer : (f g : Feed) (s : State) → Grows f g → AreShort g → KeepsFor f s → KeepsFor g s
keeps_longer f g s grows short k =
    let grown = fronts_grow f g (cat_of s) (cat_of s) k.0.0 grows k.0.1.fronts in
    ((grown.0, growth_keeps.good f g k.0.0 grown.0 s grows short k.0.1 grown.2), growth_keeps.failed f g s grows k.1, k.2)

-- a fault in place of an answer, whatever its cause
fault_why : (r : Refusal) (rows : List (List Value)) (s : State) (c : Command) → ((r ≡ out_of_memory) × (rows ≡ [])) ⊎ (refused s c ≡ None) → (r ≡ out_of_memory) ⊎ (refused s c ≡ None)
fault_why r rows s c (inl h) = inl h.0
fault_why r rows s c (inr h) = inr h

answers_move : (caused : Refusal → Type 0) (g : Feed) (s s' : State) (c : Command) (a : Answer) → Answers caused g s c a s' → Moves g s c s'
answers_move caused g s s' c a h = (h.0, h.1, elim h.2 [ inl step ↦ inl (a, step) | inr f ↦ inr (f.0, fault_why f.0 a.rows s c f.7, f.6) ])

pub answers_keep : AnswersKeep
answers_keep caused f s s' c a k h = moves_keep f f s s' c (grows_itself f) k.0.1.short k (answers_move caused f s s' c a h)

-- what a line leaves
abbrev LineKeeps : Feed → State → Line → State → Type 0
LineKeeps g s line s' = KeepsFor g s' × MinimumRises s s' × (reopens line ≡ false → CheckpointsStay s s')

stays_on : (f g : Feed) (s s' : State) (line : Line) → Grows f g → AreShort g → KeepsFor f s → s' ≡ s → LineKeeps g s line s'
stays_on f g s s' line grows short k e = subst (λ (x : State). LineKeeps g s line x) (sym e) (keeps_longer f g s grows short k, omega arith, (λ n key. omega arith))

line_by : (cause : CauseOf) (before : Moment) (line : Line) (m : Moment) → Grows before.feed m.feed → AreShort m.feed → KeepsFor before.feed before.session.state → LineRunsAs cause before line m → LineKeeps m.feed before.session.state line m.session.state
line_by cause before skipped m grows short k r = stays_on before.feed m.feed before.session.state m.session.state skipped grows short k (ap (λ (x : Session). x.state) r.1)
line_by cause before bad_line m grows short k r = stays_on before.feed m.feed before.session.state m.session.state bad_line grows short k (ap (λ (x : Session). x.state) r.1)
line_by cause before (spells_command c) m grows short k r =
    moves_keep before.feed m.feed before.session.state m.session.state c grows short k (answers_move (cause before.counts m.counts m.feed before.session c) m.feed before.session.state m.session.state c r.answer r.answers)

pub runs_keep : RunsKeep
runs_keep rules before [] [] short k r = (k, omega arith, (λ none key. omega arith))
runs_keep rules before (line ∷ lines) [] short k r = absurd r
runs_keep rules before [] (m ∷ ms) short k r = absurd r
runs_keep rules before (line ∷ lines) (m ∷ ms) short k r =
    let one = line_by rules.cause before (rules.reads line) m r.0.grows short.0 k r.0.runs in
    let rest = runs_keep rules m lines ms short.1 one.0 r.1 in
    let s = before.session.state in
    let t = m.session.state in
    let u = (last_moment m ms).session.state in
    (rest.0, minimum_on s t u one.1 rest.1, (λ none. rises_on s t u (one.2 none.0) (rest.2 none.1)))
