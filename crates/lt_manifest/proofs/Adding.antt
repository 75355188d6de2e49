-- An answer of an addition.
use Rattle.std.proofs.Common.{Bool, List, None, Option, Some, [], ap, arith, drop, false, get_or, length, subst, suc, sym, true, zero, ℕ, ◌+◌, ◌<◌, ◌∙◌, ◌∷◌, ◌≡◌}
use Rattle.std.specs.Prelude.{Err, IfOk, IfSome, IsSome, Ok, Result, map}
use Rattle.std.proofs.lemmas.Bool.{false≢true}
use Rattle.lt_tables.specs.Schema as schema
use Rattle.lt_tables.specs.Schema.{whole_version}
use Rattle.lt_image_laws.specs.Rebuild.{adds, retires}
use Rattle.lt_image_laws.proofs.Rebuilding.{add_goes_on, add_stops, live_goes_on, retire_goes_on, retire_stops}
use Rattle.lt_manifest.specs.declared.reading.tables.VersionRead.{VersionRead}
use Rattle.lt_manifest.specs.Reading.{AddsOne, RetiresOne}
use Rattle.lt_manifest.specs.View.{view_read}

some_fault : (o : Option schema.SchemaFault) (old : schema.Catalogue) (v : schema.SchemaVersion) → IsSome o → IfSome o (λ f. schema.added old v ≡ Err f) → (e : schema.SchemaFault) × (schema.added old v ≡ Err e)
some_fault None old v some is = absurd (false≢true some)
some_fault (Some f) old v some is = (f, is)

pub err_answer : {E : Type 0} (r : Result Bool E) (o : Option schema.SchemaFault) (old new : schema.Catalogue) (v : schema.SchemaVersion) → IfOk r (λ done. (done ≡ false) × IsSome o) → IfSome o (λ f. schema.added old v ≡ Err f) → IfOk r (λ done. AddsOne done old new v)
err_answer (Ok done) o old new v is answer = subst (λ (b : Bool). AddsOne b old new v) (sym is.0) (some_fault o old v is.1 answer)
err_answer (Err e) o old new v is answer = tt

pub err_for : {E : Type 0} (r : Result Bool E) (o : Option schema.SchemaFault) (old new : schema.Catalogue) (v w : schema.SchemaVersion) → v ≡ w → IfOk r (λ done. (done ≡ false) × IsSome o) → IfSome o (λ f. schema.added old v ≡ Err f) → IfOk r (λ done. AddsOne done old new w)
err_for r o old new v w same is answer = subst (λ x. IfOk r (λ done. AddsOne done old new x)) same (err_answer r o old new v is answer)

-- ---- one step of a loop

drop_here : (vs : List VersionRead) (i : ℕ) (v : VersionRead) → i < length vs → v ≡ get_or vs i v → drop i (map view_read vs) ≡ view_read v ∷ drop (i + 1) (map view_read vs)
drop_here vs i v low is = by vs i low is ∙ ap (λ n. view_read v ∷ drop n (map view_read vs)) (let e : suc i ≡ i + 1 = omega arith in e)
  where
    by : (vs : List VersionRead) (i : ℕ) → i < length vs → v ≡ get_or vs i v → drop i (map view_read vs) ≡ view_read v ∷ drop (suc i) (map view_read vs)
    by [] i low is = absurd (omega (arith, low))
    by (w ∷ vs) zero low is = ap (λ x. view_read x ∷ map view_read vs) (sym is)
    by (w ∷ vs) (suc i) low is = by vs i (omega (arith, low)) is

pub goes_on : (t : schema.Table) (n i : ℕ) (vs : List VersionRead) (v : VersionRead) (cat new : schema.Catalogue) (all : Option schema.Catalogue) (b : Bool) → i < length vs → v ≡ get_or vs i v → b ≡ true → AddsOne b cat new (whole_version t n (view_read v))
    → adds t n (drop i (map view_read vs)) cat ≡ all → adds t (n + 1) (drop (i + 1) (map view_read vs)) new ≡ all
goes_on t n i vs v cat new all true low is off one so_far = sym (add_goes_on t n (view_read v) (drop (i + 1) (map view_read vs)) cat new one) ∙ ap (λ l. adds t n l cat) (sym (drop_here vs i v low is)) ∙ so_far
goes_on t n i vs v cat new all false low is off one so_far = cc

pub stops : (t : schema.Table) (n i : ℕ) (vs : List VersionRead) (v : VersionRead) (cat new : schema.Catalogue) (all : Option schema.Catalogue) (b : Bool) → i < length vs → v ≡ get_or vs i v → b ≡ false → AddsOne b cat new (whole_version t n (view_read v))
    → adds t n (drop i (map view_read vs)) cat ≡ all → all ≡ None
stops t n i vs v cat new all true low is off one so_far = cc
stops t n i vs v cat new all false low is off one so_far = sym so_far ∙ ap (λ l. adds t n l cat) (drop_here vs i v low is) ∙ add_stops t n (view_read v) (drop (i + 1) (map view_read vs)) cat one.0 one.1

pub retire_on : (number n i : ℕ) (vs : List VersionRead) (v : VersionRead) (cat new : schema.Catalogue) (all : Option schema.Catalogue) (b l : Bool) → i < length vs → v ≡ get_or vs i v → v.live ≡ l → b ≡ true → RetiresOne b l cat new number n
    → retires number n (drop i (map view_read vs)) cat ≡ all → retires number (n + 1) (drop (i + 1) (map view_read vs)) new ≡ all
retire_on number n i vs v cat new all b true low is live off one so_far =
    ap (retires number (n + 1) (drop (i + 1) (map view_read vs))) one.1 ∙ sym (live_goes_on number n (view_read v) (drop (i + 1) (map view_read vs)) cat live) ∙ ap (λ l. retires number n l cat) (sym (drop_here vs i v low is)) ∙ so_far
retire_on number n i vs v cat new all true false low is dead off one so_far = sym (retire_goes_on number n (view_read v) (drop (i + 1) (map view_read vs)) cat new dead one) ∙ ap (λ l. retires number n l cat) (sym (drop_here vs i v low is)) ∙ so_far
retire_on number n i vs v cat new all false false low is dead off one so_far = cc

pub retire_ends : (number n i : ℕ) (vs : List VersionRead) (v : VersionRead) (cat new : schema.Catalogue) (all : Option schema.Catalogue) (b l : Bool) → i < length vs → v ≡ get_or vs i v → v.live ≡ l → b ≡ false → RetiresOne b l cat new number n
    → retires number n (drop i (map view_read vs)) cat ≡ all → all ≡ None
retire_ends number n i vs v cat new all true true low is live off one so_far = cc
retire_ends number n i vs v cat new all false true low is live off one so_far = let e = one.0 in cc
retire_ends number n i vs v cat new all true false low is dead off one so_far = cc
retire_ends number n i vs v cat new all false false low is dead off one so_far = sym so_far ∙ ap (λ l. retires number n l cat) (drop_here vs i v low is) ∙ retire_stops number n (view_read v) (drop (i + 1) (map view_read vs)) cat one.0 dead one.1
