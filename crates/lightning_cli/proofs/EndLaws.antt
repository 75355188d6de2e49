-- The statuses that a run ends with, and why.
use Rattle.std.proofs.Common.{ℕ, List, refl, arith, inl, inr, subst, sym, ◌∙◌, ◌≡◌, true}
use Rattle.std.proofs.lemmas.Bool.{false≢true}
use Rattle.std.specs.Prelude.{Bool, Err, IfErr, IsTrue, MatchResult, Ok, OnOk, Result, false, is_err, ◌&&◌, ◌⊎◌}
use Rattle.std.specs.Result.{IsErrAnd}
use Rattle.lt_world.specs.Disk.{Rose}
use Rattle.lt_world.specs.Object.{BytesState, FailsAt}
use Rattle.lt_machine.specs.Program.{IsCut}
use Rattle.lightning_cli.specs.Serving.{Finishes, OutOver, ScriptOver, Unfailed}
use Rattle.lightning_cli.specs.Turns.{take_status}
use Rattle.lightning_cli.specs.declared.server.TakeFault.{TakeFault}
use Rattle.lightning_cli.specs.declared.server.TakeFault.TheVariants as faults
use Rattle.lightning_cli.proofs.OutLaws.{err_as, out_kept, unfailed_itself, unfailed_then}

-- ---- results

pub err_side : {T E : Type 0} (P : Type 0) {Q : Type 0} (r : Result T E) → is_err r ≡ true → MatchResult r (λ _. P) (λ _. Q) → Q
err_side P (Ok x) h k = absurd (false≢true h)
err_side P (Err e) h k = k

pub ok_side : {T E : Type 0} {P : Type 0} (Q : Type 0) (r : Result T E) → is_err r ≡ false → MatchResult r (λ _. P) (λ _. Q) → P
ok_side Q (Ok x) h k = k
ok_side Q (Err e) h k = absurd (false≢true (sym h))

-- a fault leaves nothing to show of what was done
pub err_ok : {T E : Type 0} (P : Type 0) (r : Result T E) (F : E → Type 0) → IsErrAnd r F → OnOk r P
err_ok P (Ok x) F h = absurd h
err_ok P (Err e) F h = tt

pub second_holds : (a b : Bool) → IsTrue (a && b) → b ≡ true
second_holds true b h = h
second_holds false b h = absurd (false≢true h)

pub never_rose : Rose 0 0 → ⊥
never_rose h = absurd (omega (arith, h))

-- ---- statuses

-- with any fault a run is cut short
pub cuts : (fault : TakeFault) → IsCut (take_status fault)
cuts faults.Memory = inr refl
cuts faults.Sink = inl refl

pub cut_status : (fault : TakeFault) → (take_status fault ≡ 4) ⊎ (take_status fault ≡ 10)
cut_status faults.Memory = inr refl
cut_status faults.Sink = inl refl

-- where memory ran out the output is as it was
pub lost_over : {T : Type 0} (a : BytesState) (r : Result T TakeFault) → IsErrAnd r (λ e. e ≡ faults.Memory) → IfErr r (λ e. OutOver a a (take_status e))
lost_over a r h = err_as (λ e. OutOver a a (take_status e)) r faults.Memory h (out_kept a a 10 (λ e. absurd (omega (arith, e))) (unfailed_itself a))

-- a fault that is passed on
pub over_by : {T : Type 0} (a b : BytesState) (fault : TakeFault) (r : Result T TakeFault) → IsErrAnd r (λ e. e ≡ fault) → OutOver a b (take_status fault) → IfErr r (λ e. OutOver a b (take_status e))
over_by a b fault r h over = err_as (λ e. OutOver a b (take_status e)) r fault h over

pub finish_status : (a b : BytesState) (line : List ℕ) (status result : ℕ) → Finishes a b line status result → (result ≡ status) ⊎ (result ≡ 4)
finish_status a b line status result (inl x) = inl x.0
finish_status a b line status result (inr x) = inr x.0

-- ---- a script that did not fail, or failed

pub script_kept : (a b : BytesState) (status : ℕ) → (status ≡ 3 → ⊥) → Unfailed a b → ScriptOver a b status
script_kept a b status other h = record { failed = λ e. absurd (other e); stops = inl (other, h); kept = λ n m. h.faults }

pub script_failed : (a b : BytesState) (status : ℕ) → (status ≡ 3) ⊎ (status ≡ 4) → Rose a.faults b.faults → FailsAt b.told a.failed_at b.failed_at → ScriptOver a b status
script_failed a b status why rose stops = record { failed = λ e. rose; stops = inr stops; kept = λ n m. elim why [ inl e ↦ absurd (n e) | inr e ↦ absurd (m e) ] }

pub script_then : (a b c : BytesState) (status : ℕ) → Unfailed a b → ScriptOver b c status → ScriptOver a c status
script_then a b c status h k = record {
  failed = λ e. let r = k.failed e in omega (arith, h.faults, r);
  stops = elim k.stops [
    | inl x ↦ inl (x.0, unfailed_then a b c h x.1)
    | inr x ↦ inr (subst (λ o. FailsAt c.told o c.failed_at) h.failed_at x)
  ];
  kept = λ n m. k.kept n m ∙ h.faults;
}
