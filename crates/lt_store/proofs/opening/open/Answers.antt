use Rattle.std.proofs.Common.{subst, ◌-◌}
use Rattle.std.specs.Prelude.{IfErr, IfSome, OnOk, Ok, Err, Result}
use Rattle.lt_world.specs.Feed.{Feed}
use Rattle.lt_machine.specs.Program.{OpensIn}
use Rattle.lt_machine.specs.Sound.{IsSound}
use Rattle.lt_disk.proofs.Moments.{Device}
use Rattle.lt_store.specs.Opening.{IsNoDamage, NamesDamage}
use Rattle.lt_store.proofs.FirstDamage.{completes, names}
use Rattle.lt_store.proofs.Looking.{stable_on}
use Rattle.lt_store.proofs.opening.open.Given as given
use Rattle.lt_store.proofs.opening.open.Goals as goal

abbrev device : (g : given.Over) → Device g.row.D.Denot
device g = record { state = g.D.Disk.state; counts_now = g.met.D.Disk.counts_now; only_now = g.met.D.Disk.only_now; reads_an_image = g.met.D.Disk.reads_an_image }

at_ok : {T E P : Type 0} (r : Result T E) → P → OnOk r P
at_ok (Ok x) p = p
at_ok (Err e) p = tt

pub returns-in-Ok-clause-damage : goal.returns-in-Ok-clause-damage
returns-in-Ok-clause-damage g c =
    subst (λ told. IfErr c.open_synced.result (λ e. IfSome told (λ image. NamesDamage image e))) c.sync.ensures.same (names (g.D.Disk.state c.sync.new.self).told c.open_synced.result c.open_synced.ensures.opens.refused)

pub returns-in-Ok-clause-complete : goal.returns-in-Ok-clause-complete
returns-in-Ok-clause-complete g c =
    subst (λ told. IfErr c.open_synced.result (λ e. IfSome told (λ image. (f : Feed) → IsSound image f → IsNoDamage e))) c.sync.ensures.same (completes (g.D.Disk.state c.sync.new.self).told c.open_synced.result c.open_synced.ensures.opens.refused)

pub returns-in-Ok-clause-stable : goal.returns-in-Ok-clause-stable
returns-in-Ok-clause-stable g c = at_ok c.open_synced.result (stable_on (device g) c.sync.new.self c.open_synced.new.disk c.open_synced.ensures.opens.told c.open_synced.ensures.opens.images c.in-Ok.ensures.durable)

pub returns-in-Ok-clause-reads : goal.returns-in-Ok-clause-reads
returns-in-Ok-clause-reads g c =
    subst (λ told. IfSome told (λ image. OpensIn image ((g.D.Disk.state c.open_synced.new.disk).reads - (g.D.Disk.state c.args.disk.now).reads))) c.sync.ensures.same
    (subst (λ n. IfSome (g.D.Disk.state c.sync.new.self).told (λ image. OpensIn image ((g.D.Disk.state c.open_synced.new.disk).reads - n))) c.sync.ensures.read c.open_synced.ensures.opens.reads)
