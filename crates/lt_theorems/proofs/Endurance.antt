-- What a crash leaves of a run follows, line by line, from what each step says of the images: for a program over any base.
use Rattle.std.proofs.Common.{List, [], arith, inl, inr, refl, subst, suc, sym, zero, ℕ, ◌++◌, ◌∷◌, ◌≡◌, ◌≤◌}
use Rattle.std.specs.Prelude.{Contains, Result, ◌⊎◌}
use Rattle.std.specs.List.{AllByRecursion}
use Rattle.lt_world.specs.Feed.{Feed, Grows}
use Rattle.lt_world.specs.Disk.{DiskGoes, DiskState, LeavesNow, LeftOnly}
use Rattle.lt_tables.specs.Query.{Command}
use Rattle.lt_words.specs.Reply.{Refusal, Reply}
use Rattle.lt_machine.specs.Sound.{Session}
use Rattle.lt_machine.specs.Step.{Base, Served}
use Rattle.lt_machine.specs.Run.{Moment, last_moment}
use Rattle.lt_machine.specs.InMemory.{on_memory}
use Rattle.lt_machine.specs.OverStore.{on_store}
use Rattle.lt_machine.specs.Outside.{World}
use Rattle.lt_machine.specs.Program.{StandFrom}
use Rattle.lt_laws.proofs.FrontStands.{sound_grows}

-- what is seen among some images is seen among more
abbrev pub SeenAmongMore : Base → Type 1
SeenAmongMore g = (P Q : List ℕ → Type 0) (f : Feed) (x : Session) → ((image : List ℕ) → P image → Q image) → g.seen P f x → g.seen Q f x

-- A line led from one disk to the next: during it a crash left the part of the session before or of that after, and then that after. What
-- was left before stays so.
pub record Led (g : Base) (d d' : DiskState) (f : Feed) (x : Session) (n : Moment) : Type 0 where
  pub during : LeftOnly d d' (λ image. g.leaves f x image ⊎ g.leaves f n.session image)
  pub past : (t : ℕ) (image : List ℕ) → t ≤ d.clock → d.left_since t image → d'.left_since t image
  pub clock : n.counts.clock ≡ d'.clock
  pub now : LeavesNow d' (g.leaves f n.session)
  pub only_now : (image : List ℕ) → d'.left_since d'.clock image → d'.leaves image
  pub seen : g.seen (d'.left_since n.counts.clock) f n.session

-- what a crash leaves for a feed it leaves for a longer one
abbrev pub LeavesGrow : Base → Type 0
LeavesGrow g = (f more : Feed) (x : Session) (image : List ℕ) → Grows f more → g.leaves f x image → g.leaves more x image

-- both bases have these
pub memory_sees : SeenAmongMore on_memory
memory_sees P Q f x sub s = tt

pub store_sees : SeenAmongMore on_store
store_sees P Q f x sub s = (s.0, (s.1.0, sub s.1.0 s.1.1, s.1.2))

pub memory_grows_leaves : LeavesGrow on_memory
memory_grows_leaves f more x image grows l = tt

pub store_grows_leaves : LeavesGrow on_store
store_grows_leaves f more x image grows l = (sound_grows image f more grows l.0, l.1)

-- A step of a session that serves its feed leads so.
pub led_by_step : (g : Base) (f : Feed) (w w' : World) (x y : Session) (c : Command) (r : Result Reply Refusal) (n : Moment) → Served g f w w' x y c r → DiskGoes w.disk w'.disk → n.session ≡ y → n.counts.clock ≡ w'.disk.clock
    → ((image : List ℕ) → w'.disk.left_since w'.disk.clock image → w'.disk.leaves image) → g.seen (w'.disk.left_since n.counts.clock) f n.session → Led g w.disk w'.disk f x n
led_by_step g f w w' x y c r n served goes same clock only_now seen = record {
  during = subst (λ (z : Session). LeftOnly w.disk w'.disk (λ image. g.leaves f x image ⊎ g.leaves f z image)) (sym same) served.any_moment;
  past = goes.past;
  clock = clock;
  now = subst (λ (z : Session). LeavesNow w'.disk (g.leaves f z)) (sym same) served.serves.stands;
  only_now = only_now;
  seen = seen;
}

-- ---- moments

with_last : (ms : List Moment) (n k : Moment) → Contains ms k → Contains (ms ++ n ∷ []) k
with_last [] n k h = absurd (omega (arith, h.1))
with_last (m ∷ ms) n k (zero, l, e) = (zero, omega arith, e)
with_last (m ∷ ms) n k (suc i, l, e) = let h = with_last ms n k (i, omega (arith, l), e) in (suc h.0, omega (arith, h.1), h.2)

the_last : (ms : List Moment) (n : Moment) → Contains (ms ++ n ∷ []) n
the_last [] n = (zero, omega arith, refl)
the_last (m ∷ ms) n = let h = the_last ms n in (suc h.0, omega (arith, h.1), h.2)

last_of_them : (k : Moment) (ms : List Moment) → Contains (k ∷ ms) (last_moment k ms)
last_of_them k [] = (zero, omega arith, refl)
last_of_them k (m ∷ ms) = let h = last_of_them m ms in (suc h.0, omega (arith, h.1), h.2)

-- ---- from each moment on

abbrev Some_of : Base → Feed → List Moment → List ℕ → Type 0
Some_of g f ms image = (k : Moment) × Contains ms k × g.leaves f k.session image

since : (g : Base) (d d' : DiskState) (f : Feed) (k : Moment) (ms : List Moment) (n : Moment) (t : ℕ) → t ≤ d.clock → Led g d d' f (last_moment k ms).session n
    → ((image : List ℕ) → d.left_since t image → Some_of g f (k ∷ ms) image) → (image : List ℕ) → d'.left_since t image → Some_of g f (k ∷ (ms ++ n ∷ [])) image
since g d d' f k ms n t le led was image left = elim (led.during.before t image le left) [
  | inl past ↦ (let h = was image past in (h.0, with_last (k ∷ ms) n h.0 h.1, h.2))
  | inr (inl before) ↦ (last_moment k ms, with_last (k ∷ ms) n (last_moment k ms) (last_of_them k ms), before)
  | inr (inr after) ↦ (n, the_last (k ∷ ms) n, after)
]

stand_at : (g : Base) (d d' : DiskState) (f : Feed) (x : Session) (n : Moment) → Led g d d' f x n → (image : List ℕ) → d'.left_since n.counts.clock image → Some_of g f (n ∷ []) image
stand_at g d d' f x n led image left = (n, (zero, omega arith, refl), led.now image (led.only_now image (subst (λ (t : ℕ). d'.left_since t image) led.clock left)))

-- What stood from each moment on stands after one line more, and from that line on too.
pub stand_on : (g : Base) → SeenAmongMore g → (d d' : DiskState) (f : Feed) (k : Moment) (ms : List Moment) (n : Moment) → AllByRecursion (λ m. m.counts.clock ≤ d.clock) (k ∷ ms) → Led g d d' f (last_moment k ms).session n
    → StandFrom g d f (k ∷ ms) → StandFrom g d' f (k ∷ (ms ++ n ∷ []))
stand_on g more d d' f k [] n le led h = (
  since g d d' f k [] n k.counts.clock le.0 led h.0,
  more (d.left_since k.counts.clock) (d'.left_since k.counts.clock) f k.session (λ image left. led.past k.counts.clock image le.0 left) h.1,
  (stand_at g d d' f k.session n led, led.seen, tt),
)
stand_on g more d d' f k (m ∷ ms) n le led h = (
  since g d d' f k (m ∷ ms) n k.counts.clock le.0 led h.0,
  more (d.left_since k.counts.clock) (d'.left_since k.counts.clock) f k.session (λ image left. led.past k.counts.clock image le.0 left) h.1,
  stand_on g more d d' f m ms n le.1 led h.2,
)

-- ---- at any moment

-- the images of a whole run, after one line more
pub any_on : (g : Base) (d0 d d' : DiskState) (f : Feed) (k : Moment) (ms : List Moment) (n : Moment) → Led g d d' f (last_moment k ms).session n
    → LeftOnly d0 d (λ image. d0.leaves image ⊎ Some_of g f (k ∷ ms) image) → LeftOnly d0 d' (λ image. d0.leaves image ⊎ Some_of g f (k ∷ (ms ++ n ∷ [])) image)
any_on g d0 d d' f k ms n led h =
    let P = λ (image : List ℕ). d0.leaves image ⊎ Some_of g f (k ∷ (ms ++ n ∷ [])) image in
    let wide : (image : List ℕ) → d0.leaves image ⊎ Some_of g f (k ∷ ms) image → P image = λ image a. elim a [ inl s ↦ inl s | inr o ↦ inr (o.0, with_last (k ∷ ms) n o.0 o.1, o.2) ] in
    let here : (image : List ℕ) → g.leaves f (last_moment k ms).session image ⊎ g.leaves f n.session image → P image
    = λ image a. elim a [ inl b ↦ inr (last_moment k ms, with_last (k ∷ ms) n (last_moment k ms) (last_of_them k ms), b) | inr b ↦ inr (n, the_last (k ∷ ms) n, b) ] in
    record {
      later = omega (arith, h.later, led.during.later);
      each = λ image left. elim (led.during.before d0.clock image h.later left) [ inl past ↦ wide image (h.each image past) | inr a ↦ here image a ];
      before = λ t image le left. elim (led.during.before t image (omega (arith, le, h.later)) left) [
        | inl past ↦ elim (h.before t image le past) [ inl o ↦ inl o | inr a ↦ inr (wide image a) ]
        | inr a ↦ inr (here image a)
      ];
    }
