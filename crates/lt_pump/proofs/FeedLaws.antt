-- What calls leave of a feed, one after another, and what two told contents say together.
use Rattle.std.proofs.Common.{◌≡◌, true, false, refl, arith}
use Rattle.std.specs.Prelude.{IfSome, None, Option, Result, Some}
use Rattle.lt_world.specs.Feed.{Feed, Grows}
use Rattle.lt_world.specs.Feed.{FeedCalled, FeedGoes, FeedGrows, FeedState}
use Rattle.lt_world.specs.Object.{StaysTold}
use Rattle.lt_lemmas.proofs.FrontLaws.{grows_itself, grows_then}

-- what two contents say together, one of which grew to the other
pub told_step : (P Q R : Feed → Type 0) (o p : Option Feed) → StaysTold o p → FeedGrows o p → IfSome o P → IfSome p Q → ((f g : Feed) → Grows f g → P f → Q g → R g) → IfSome p R
told_step P Q R o None s h a b k = tt
told_step P Q R None (Some g) s h a b k = absurd (let e : false ≡ true = s.1 refl in cc)
told_step P Q R (Some f) (Some g) s h a b k = k f g h a b

pub told_map : (P Q : Feed → Type 0) (o : Option Feed) → IfSome o P → ((f : Feed) → P f → Q f) → IfSome o Q
told_map P Q None a k = tt
told_map P Q (Some f) a k = k f a

pub told_both : (P Q R : Feed → Type 0) (o : Option Feed) → IfSome o P → IfSome o Q → ((f : Feed) → P f → Q f → R f) → IfSome o R
told_both P Q R None a b k = tt
told_both P Q R (Some f) a b k = k f a b

pub told_all : (P : Feed → Type 0) (o : Option Feed) → ((f : Feed) → P f) → IfSome o P
told_all P None k = tt
told_all P (Some f) k = k f

pub told_grows_itself : (o : Option Feed) → FeedGrows o o
told_grows_itself None = tt
told_grows_itself (Some f) = grows_itself f

told_grows_then : (o p q : Option Feed) → StaysTold o p → FeedGrows o p → FeedGrows p q → FeedGrows o q
told_grows_then None p q s h k = tt
told_grows_then (Some f) None q s h k = absurd (let e : false ≡ true = s.0 refl in cc)
told_grows_then (Some f) (Some g) None s h k = tt
told_grows_then (Some f) (Some g) (Some e) s h k = grows_then f g e h k

pub goes_itself : (f : FeedState) → FeedGoes f f
goes_itself f = record { stays = (λ h. h, λ h. h); grows = told_grows_itself f.told; more = omega arith; faults = omega arith; calls = omega arith }

pub goes_then : (a b c : FeedState) → FeedGoes a b → FeedGoes b c → FeedGoes a c
goes_then a b c h k = record {
  stays = (λ s. k.stays.0 (h.stays.0 s), λ s. h.stays.1 (k.stays.1 s));
  grows = told_grows_then a.told b.told c.told h.stays h.grows k.grows;
  more = omega (arith, h.more, k.more);
  faults = omega (arith, h.faults, k.faults);
  calls = omega (arith, h.calls, k.calls);
}

pub goes_called : {T E : Type 0} (a b : FeedState) (r : Result T E) → FeedCalled a b r → FeedGoes a b
goes_called a b r h = h.goes
