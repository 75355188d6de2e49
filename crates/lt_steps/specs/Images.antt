-- What images hold beside a session: that they are sound for its feed, and honest, while commands that commit nothing are answered.
use Rattle.std.specs.Prelude.{IfSome, IsSome, IsTrue, List, None, Some, [], false, ℕ, ◌≡◌, ◌⊎◌}
use Rattle.lt_world.specs.Feed.{Feed, Grows}
use Rattle.lt_terms.specs.Log.{Change, Header, Item}
use Rattle.lt_machine.specs.Machine.{Answer, Does, State, Step, refused}
use Rattle.lt_machine.specs.Outside.{BelongsTo, LeavesSession, StandsOn, is_commit}
use Rattle.lt_words.specs.Reply.{Refusal, out_of_memory}
use Rattle.lt_machine.specs.Run.{AfterFault}
use Rattle.lt_tables.specs.Query.{Command, Mode, do_job_begin, do_job_drop}
use Rattle.lt_machine.specs.Sound.{FailedIsSound, IsGood, IsSound, Session, source_of}
use Rattle.lt_storage.specs.Store.{Durable, HoldsAt, Placing, are_within, extents_of}
use Rattle.lt_steps.specs.Jobs.{keeps_job}

-- a durable part stands whole in an image
abbrev pub StandsWhole : List ℕ → Durable → Type 0
StandsWhole image d = (l : Placing) × HoldsAt image d l × IsTrue (are_within image (extents_of l))

-- an image has the session's durable part, or where broken what the failed command would have left
abbrev pub HasEither : State → List ℕ → Type 0
HasEither s image = StandsWhole image s.durable ⊎ ((d : Durable) × (s.broken ≡ Some d) × StandsWhole image d)

-- a session that stands where another one does
pub record SamePlace (x y : Session) : Type 0 where
  pub placing : y.placing ≡ x.placing
  pub failed : y.failed ≡ x.failed
  pub made : y.made ≡ x.made

-- the same, but nothing is made
pub record SameUnmade (x y : Session) : Type 0 where
  pub placing : y.placing ≡ x.placing
  pub failed : y.failed ≡ x.failed
  pub made : y.made ≡ []

pub record ImagesStay : Type 0 where
  -- an image that has the durable part of a good session, or what a failed command would have left, is sound for the feed
  pub sound : (f : Feed) (fs : List (Header × List Item)) (s : State) (image : List ℕ) → IsGood f s fs → FailedIsSound f s → HasEither s image → IsSound image f
  -- So whatever of the two a crash leaves while a command is answered, from the part of before to the part of after, is sound.
  pub either : (f : Feed) (x y : Session) (c : Command) (a : Answer) (image : List ℕ) → (b : BelongsTo f x.state x.memory) → FailedIsSound f x.state → Step f (source_of b.0) x.state c a y.state
      → HasEither x.state image ⊎ HasEither y.state image → LeavesSession f x image ⊎ LeavesSession f y image
  -- a session stands on an image for a longer feed
  pub grows : (f g : Feed) (x : Session) (image : List ℕ) → Grows f g → StandsOn f x image → StandsOn g x image
  -- and after a command that commits nothing
  pub stays : (f : Feed) (fs : List (Header × List Item)) (x y : Session) (c : Command) (a : Answer) (image : List ℕ) → IsGood f x.state fs → IsTrue (keeps_job c) → is_commit c ≡ false → Step f (source_of fs) x.state c a y.state
      → SamePlace x y → StandsOn f x image → StandsOn f y image
  -- a job that begins has made nothing, and of one that is dropped nothing is kept
  pub begins : (f : Feed) (source : List Change) (x y : Session) (p : ℕ) (m : Mode) (a : Answer) (image : List ℕ) → Does f source x.state (do_job_begin p m) a y.state → SameUnmade x y → StandsOn f x image → StandsOn f y image
  pub drops : (f : Feed) (source : List Change) (x y : Session) (a : Answer) (image : List ℕ) → Does f source x.state do_job_drop a y.state → SameUnmade x y → StandsOn f x image → StandsOn f y image
  -- A fault keeps it too: one that breaks the session without a placing for what would have been left commits nothing.
  pub faults : (f : Feed) (source : List Change) (x y : Session) (c : Command) (r : Refusal) (image : List ℕ) → (r ≡ out_of_memory) ⊎ (refused x.state c ≡ None) → AfterFault f source x.state c r y.state
      → SamePlace x y → IfSome x.failed (λ l. IsSome x.state.broken) → StandsOn f x image → StandsOn f y image
