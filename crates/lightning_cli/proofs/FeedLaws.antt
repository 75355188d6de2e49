-- What a feed exposes, from one call to the next, and what a session is for a longer feed.
use Rattle.std.proofs.Common.{◌≡◌, true, false, refl, subst, ap}
use Rattle.std.specs.Prelude.{is_some, IfSome, None, Option, Some}
use Rattle.lt_world.specs.Disk.{DiskState}
use Rattle.lt_world.specs.Feed.{AreShort, Feed, Grows}
use Rattle.lt_machine.specs.InMemory.{on_memory}
use Rattle.lt_world.specs.Feed.{FeedGrows}
use Rattle.lt_world.specs.Object.{StaysTold}
use Rattle.lt_machine.specs.Sound.{Session}
use Rattle.lt_machine.specs.Step.{Serves}
use Rattle.lt_session_laws.proofs.GrowthLaws.{growth_keeps}
use Rattle.lt_steps.proofs.GrowsLaws.{memory_grows}

-- what holds of what is told
pub at_told : (P : Feed → Type 0) (o : Option Feed) (g : Feed) → o ≡ Some g → IfSome o P → P g
at_told P o g e h = subst (λ (x : Option Feed). IfSome x P) e h

pub told_grew : (o p : Option Feed) (f g : Feed) → o ≡ Some f → p ≡ Some g → FeedGrows o p → Grows f g
told_grew o p f g h k e = subst (λ x. IfSome x (λ b. Grows f b)) k (subst (λ x. IfSome x (λ a. IfSome p (λ b. Grows a b))) h e)

-- what tells goes on telling
pub told_on : {A : Type 0} (o p : Option A) (f : A) → StaysTold o p → o ≡ Some f → (g : A) × (p ≡ Some g)
told_on o None f s e = absurd (let t : false ≡ true = s.0 (ap is_some e) in cc)
told_on o (Some g) f s e = (g, refl)

-- a session that serves a feed serves a longer one
pub serves_grown : (d d' : DiskState) (f g : Feed) (x : Session) → Grows f g → AreShort g → Serves on_memory d f x → Serves on_memory d' g x
serves_grown d d' f g x grows short s = record {
  belongs = memory_grows f g x.state x.memory grows short s.belongs;
  kept = s.kept;
  failed = (growth_keeps.failed f g x.state grows s.failed.0, s.failed.1);
  rests = tt;
  stands = λ image l. tt;
}
