-- What the readers answer.
use Rattle.std.specs.Prelude.{Err, None, Ok, Option, Result, Some, ◌≡◌}
use Rattle.lt_log_text.specs.declared.refusal.LineRefusal.{LineRefusal}
use Rattle.lt_log_text.specs.declared.refusal.LineRefusal.TheVariants as refusals
use Rattle.lt_log_text.specs.declared.refusal.Member.{Member}
use Rattle.lt_log_text.specs.declared.refusal.Stop.{Stop}
use Rattle.lt_log_text.specs.declared.refusal.Stop.TheVariants as stops

-- where reading stopped, the part has not the form, unless memory ran out
abbrev pub Stops : {A : Type 0} → Option A → Stop → Type 0
Stops form stops.Memory = Unit {0}
Stops form stops.Unlike = form ≡ None

-- a reader answered what the form says
abbrev pub Reads : {X A : Type 0} → (X → A) → Option A → Result X Stop → Type 0
Reads view form (Ok x) = form ≡ Some (view x)
Reads view form (Err e) = Stops form e

-- what a caller is told of a part at a member
abbrev pub refusal_at : Member → Stop → LineRefusal
refusal_at m stops.Unlike = refusals.Wrong m
refusal_at m stops.Memory = refusals.Memory

-- where a line is refused it says nothing, unless memory ran out
abbrev pub Refused : {A : Type 0} → Option A → LineRefusal → Type 0
Refused form refusals.NotJson = form ≡ None
Refused form refusals.NotAnObject = form ≡ None
Refused form (refusals.Missing m) = form ≡ None
Refused form (refusals.Wrong m) = form ≡ None
Refused form (refusals.Unlawful r) = form ≡ None
Refused form (refusals.TooLong len) = form ≡ None
Refused form refusals.Memory = Unit {0}

-- a line's reader answered what the line says
abbrev pub Gives : {X A : Type 0} → (X → A) → Option A → Result X LineRefusal → Type 0
Gives view form (Ok x) = form ≡ Some (view x)
Gives view form (Err e) = Refused form e
