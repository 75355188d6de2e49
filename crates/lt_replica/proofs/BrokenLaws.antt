-- A command that does not write is answered in a broken session as in a whole one.
use Rattle.std.proofs.Common.{List, [], ap, inl, inr, refl, subst, sym, ℕ, ◌∙◌, ◌≡◌}
use Rattle.std.proofs.lemmas.Bool.{false≢true}
use Rattle.std.specs.Prelude.{IsTrue, None, Option, Some, ◌⊎◌}
use Rattle.lt_terms.specs.Log.{Change, Header, Item}
use Rattle.lt_world.specs.Feed.{Feed}
use Rattle.lt_tables.specs.Query.{Command, Query, do_pump, do_scan, do_status}
use Rattle.lt_words.specs.Reply as model
use Rattle.lt_storage.specs.Store.{Durable}
use Rattle.lt_machine.specs.Machine.{Answer, Does, DoesOver, PumpsFair, Pumps, State, Step, StepBy, refused}
use Rattle.lt_machine.specs.Outside.{BelongsTo}
use Rattle.lt_machine.specs.Run.{AfterFault, Answers, FaultsIn, TakesSome, may_break}
use Rattle.lt_machine.specs.Sound.{IsGood, Memory, source_of}

-- a state with what a failed command would have left
abbrev pub with_broken : Option Durable → State → State
with_broken b s = record s { broken = b }

-- what does not write does not look whether the session is broken
pub data IsReading : Command → Type 0 where
  reads_pump : (n asked : ℕ) → IsReading (do_pump n asked)
  reads_scan : (q : Query) → IsReading (do_scan q)
  reads_status : IsReading do_status

either_way : (s : State) (c : Command) (a b : Option Durable) → IsReading c → refused (with_broken b s) c ≡ refused (with_broken a s) c
unfolding refused
either_way s c None None (reads_pump n asked) = refl
either_way s c None None (reads_scan q) = refl
either_way s c None None reads_status = refl
either_way s c None (Some d) (reads_pump n asked) = refl
either_way s c None (Some d) (reads_scan q) = refl
either_way s c None (Some d) reads_status = refl
either_way s c (Some d) None (reads_pump n asked) = refl
either_way s c (Some d) None (reads_scan q) = refl
either_way s c (Some d) None reads_status = refl
either_way s c (Some d) (Some e) (reads_pump n asked) = refl
either_way s c (Some d) (Some e) (reads_scan q) = refl
either_way s c (Some d) (Some e) reads_status = refl

pub refused_in : (s : State) (c : Command) (b : Option Durable) → IsReading c → refused (with_broken b s) c ≡ refused s c
refused_in s c b reading = either_way s c s.broken b reading

pub good_in : (f : Feed) (s : State) (fs : List (Header × List Item)) (b : Option Durable) → IsGood f s fs → IsGood f (with_broken b s) fs
good_in f s fs b g = record { short = g.short; lawful = g.lawful; fronts = g.fronts; sound = g.sound; ready = record { places = g.ready.places; pending = g.ready.pending; job = g.ready.job } }

pub good_of : (f : Feed) (s : State) (fs : List (Header × List Item)) (b : Option Durable) → IsGood f (with_broken b s) fs → IsGood f s fs
good_of f s fs b g = record { short = g.short; lawful = g.lawful; fronts = g.fronts; sound = g.sound; ready = record { places = g.ready.places; pending = g.ready.pending; job = g.ready.job } }

pub belongs_in : (f : Feed) (s : State) (mem : Memory) (b : Option Durable) → BelongsTo f s mem → BelongsTo f (with_broken b s) mem
belongs_in f s mem b h = (h.0, good_in f s h.0 b h.1, h.2, h.3)

pub belongs_of : (f : Feed) (s : State) (mem : Memory) (b : Option Durable) → BelongsTo f (with_broken b s) mem → BelongsTo f s mem
belongs_of f s mem b h = (h.0, good_of f s h.0 b h.1, h.2, h.3)

pumps_in : (f : Feed) (s : State) (n asked : ℕ) (items : List Item) (b : Option Durable) {stop : _} → Pumps f s n asked items stop → Pumps f (with_broken b s) n asked items stop
pumps_in f s n asked items b p = record { stands = p.stands; known = p.known; few = p.few; rest = p.rest; takes = p.takes; stops = p.stops }

pub does_in : (f : Feed) (source : List Change) (s s' : State) (c : Command) (a : Answer) (b : Option Durable) → IsReading c → Does f source s c a s' → Does f source (with_broken b s) c a (with_broken b s')
does_in f source s s' c a b (reads_pump n asked) d = (d.0, d.1, d.2, pumps_in f s n asked d.0 b d.3, d.4, d.5, ap (with_broken b) d.6, d.7)
does_in f source s s' c a b (reads_scan q) d = (d.0, d.1, ap (with_broken b) d.2)
does_in f source s s' c a b reads_status d = (d.0, ap (with_broken b) d.1)

fair_in : (s s' : State) (n asked : ℕ) (a : Answer) (b : Option Durable) → PumpsFair s n asked a s' → PumpsFair (with_broken b s) n asked a (with_broken b s')
fair_in s s' n asked a b p = record {
  stands = p.stands;
  known = p.known;
  items = p.items;
  few = p.few;
  fair = p.fair;
  entered = p.entered;
  enter = p.enter;
  state = ap (with_broken b) p.state;
  at = p.at;
  stands_now = p.stands_now;
  stop = p.stop;
  answer = p.answer;
}

pub over_in : (told : Option Feed) (source : List Change) (s s' : State) (c : Command) (a : Answer) (b : Option Durable) → IsReading c → DoesOver told source s c a s' → DoesOver told source (with_broken b s) c a (with_broken b s')
over_in None source s s' c a b (reads_pump n asked) d = (fair_in s s' n asked a b d.0, tt)
over_in (Some f) source s s' c a b (reads_pump n asked) d = (fair_in s s' n asked a b d.0, does_in f source s s' c a b (reads_pump n asked) d.1)
over_in told source s s' c a b (reads_scan q) d = λ f. does_in f source s s' c a b (reads_scan q) (d f)
over_in told source s s' c a b reads_status d = λ f. does_in f source s s' c a b reads_status (d f)

takes_in : (f : Feed) (s s' : State) (c : Command) (b : Option Durable) → IsReading c → TakesSome f s c s' → TakesSome f (with_broken b s) c (with_broken b s')
takes_in f s s' c b (reads_pump n asked) t = (t.0, t.1, t.2, t.3, t.4, t.5, ap (with_broken b) t.6)
takes_in f s s' c b (reads_scan q) t = absurd t
takes_in f s s' c b reads_status t = absurd t

pub step_in : (f : Feed) (source : List Change) (s s' : State) (c : Command) (a : Answer) (b : Option Durable) → IsReading c → Step f source s c a s' → Step f source (with_broken b s) c a (with_broken b s')
step_in f source s s' c a b reading step =
    subst (λ (o : Option model.Refusal). StepBy o f source (with_broken b s) c a (with_broken b s')) (sym (refused_in s c b reading)) (by (refused s c) step)
  where
    by : (o : Option model.Refusal) → StepBy o f source s c a s' → StepBy o f source (with_broken b s) c a (with_broken b s')
    by None d = does_in f source s s' c a b reading d
    by (Some r) h = (h.0, ap (with_broken b) h.1)

pub never_breaks : (c : Command) → IsReading c → IsTrue (may_break c) → ⊥
never_breaks c (reads_pump n asked) h = false≢true h
never_breaks c (reads_scan q) h = false≢true h
never_breaks c reads_status h = false≢true h

-- only what writes or opens anew breaks a session
after_in : (f : Feed) (source : List Change) (s s' : State) (c : Command) (r : model.Refusal) (b : Option Durable) → IsReading c → AfterFault f source s c r s' → AfterFault f source (with_broken b s) c r (with_broken b s')
after_in f source s s' c r b reading (inl e) = inl (ap (with_broken b) e)
after_in f source s s' c r b reading (inr (inl t)) = inr (inl (t.0, takes_in f s s' c b reading t.1))
after_in f source s s' c r b reading (inr (inr t)) = absurd (never_breaks c reading t.1.3)

faults_in : (caused known : model.Refusal → Type 0) (f : Feed) (source : List Change) (s s' : State) (c : Command) (a : Answer) (b : Option Durable) → IsReading c → ((r : model.Refusal) → caused r → known r)
    → FaultsIn caused f source s c a s' → FaultsIn known f source (with_broken b s) c a (with_broken b s')
faults_in caused known f source s s' c a b reading more h = (h.0, h.1, h.2, h.3, more h.0 h.4, h.5, after_in f source s s' c h.0 b reading h.6, by h.7)
  where
    by : ((h.0 ≡ model.out_of_memory) × (a.rows ≡ [])) ⊎ (refused s c ≡ None) → ((h.0 ≡ model.out_of_memory) × (a.rows ≡ [])) ⊎ (refused (with_broken b s) c ≡ None)
    by (inl x) = inl x
    by (inr e) = inr (refused_in s c b reading ∙ e)

-- an answer without the disk is one in a broken session, by more causes
pub answers_in : (caused known : model.Refusal → Type 0) (f : Feed) (s s' : State) (c : Command) (a : Answer) (b : Option Durable) → IsReading c → ((r : model.Refusal) → caused r → known r)
    → Answers caused f s c a s' → Answers known f (with_broken b s) c a (with_broken b s')
answers_in caused known f s s' c a b reading more h = (h.0, h.1, by h.2)
  where
    by : Step f (source_of h.0) s c a s' ⊎ FaultsIn caused f (source_of h.0) s c a s' → Step f (source_of h.0) (with_broken b s) c a (with_broken b s') ⊎ FaultsIn known f (source_of h.0) (with_broken b s) c a (with_broken b s')
    by (inl step) = inl (step_in f (source_of h.0) s s' c a b reading step)
    by (inr fault) = inr (faults_in caused known f (source_of h.0) s s' c a b reading more fault)
