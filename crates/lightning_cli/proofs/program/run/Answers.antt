use Rattle.std.proofs.Common.{◌∙◌, ◌≤◌, arith, ap, inl, map, refl, string_bytes, subst, sym}
use Rattle.std.specs.Prelude.{if◌then◌else◌}
use Rattle.lt_engine.specs.State.{view_start}
use Rattle.lt_world.specs.Disk.{DiskGoes, LeftOnly}
use Rattle.lt_machine.specs.Run.{no_words_known, word_run}
use Rattle.lt_pump.proofs.FeedLaws.{goes_itself, goes_then}
use Rattle.lightning_cli.proofs.FeedLaws.{told_on}
use Rattle.lightning_cli.proofs.OutLaws.{bytes_stay}
use Rattle.lightning_cli.proofs.ProgramLaws.{begun, begun_at, begun_stands, begun_tells, disk_stays, ran_did, ran_ends, stopped_did, stopped_ends, usage_did, usage_ends}
use Rattle.lightning_cli.proofs.program.run.Goals as goal

-- ---- other words

pub returns-then-not-asks_run-clause-did : goal.returns-then-not-asks_run-clause-did
returns-then-not-asks_run-clause-did g c old new tells tells' =
    usage_did (map (λ w. string_bytes w) c.args.words.now) _ _ _ _ _ old new c.finish.result (c.asks_run.ensures ∙ ap (λ b. if b then word_run else no_words_known) c.if-not-asks_run.true) tells tells' c.finish.ensures.finishes

pub returns-then-not-asks_run-clause-ends : goal.returns-then-not-asks_run-clause-ends
returns-then-not-asks_run-clause-ends g c =
    usage_ends (map (λ w. string_bytes w) c.args.words.now) _ _ _ _ _ c.finish.result (c.asks_run.ensures ∙ ap (λ b. if b then word_run else no_words_known) c.if-not-asks_run.true) c.finish.ensures.finishes

pub returns-then-not-asks_run-clause-goes : goal.returns-then-not-asks_run-clause-goes
returns-then-not-asks_run-clause-goes g c = (refl, record { disk = disk_stays _; feed = goes_itself _; script = bytes_stay _; out = c.finish.ensures.goes })

-- ---- a script runs

pub returns-in-Ok-clause-did : goal.returns-in-Ok-clause-did
returns-in-Ok-clause-did g c old new tells tells' =
    let D = g.D.Disk in
    let disk = c.args.disk.now in
    let s = c.start.ensures in
    let started = c.in-Ok.ensures.started in
    let y = started.0 in
    let f = told_on (g.F.Feed.state c.args.feed.now).told (g.F.Feed.state c.start.new.feed).told old.feed s.goes.1.stays tells.feed in
    let asked = c.asks_run.ensures ∙ ap (λ b. if b then word_run else no_words_known) c.if-not-asks_run.false in
    let left = subst (λ z. LeftOnly (D.state disk) (D.state z) (D.state disk).leaves) (sym (c.serve.ensures.goes.0 ∙ s.goes.0)) (record { later = omega arith; each = λ image l. g.met.D.Disk.only_now disk image l; before = λ t image le l. inl l }) in
    let d1 = D.state c.start.new.disk in
    let f1 = g.F.Feed.state c.start.new.feed in
    let x = g.S.Source.state c.args.script.now in
    let o = g.K.Sink.state c.args.out.now in
    let m = begun_at d1 f1 x o f.0 y in
    let mid = begun d1 f1 x o f.0 old in
    ran_did (map (λ w. string_bytes w) c.args.words.now) (D.state disk) d1 (D.state c.serve.new.disk) (g.F.Feed.state c.args.feed.now) f1 (g.F.Feed.state c.serve.new.feed) x (g.S.Source.state c.serve.new.script) o (g.K.Sink.state c.serve.new.out) old new f.0 y c.serve.result asked tells tells' f.1 started.3 s.goes.1 (subst (λ z. (D.state disk).clock ≤ (D.state z).clock) (sym s.goes.0) (omega arith)) left
    (c.serve.ensures.served m mid (begun_tells (D.state disk) d1 (g.F.Feed.state c.args.feed.now) f1 x o f.0 old tells f.1) refl refl (begun_stands (D.state disk) d1 (g.F.Feed.state c.args.feed.now) f1 x o f.0 y c.in-Ok.replica f.1 started.1 started.3))

pub returns-in-Ok-clause-ends : goal.returns-in-Ok-clause-ends
returns-in-Ok-clause-ends g c =
    let e = c.serve.ensures in
    ran_ends (map (λ w. string_bytes w) c.args.words.now) _ _ c.serve.result (c.asks_run.ensures ∙ ap (λ b. if b then word_run else no_words_known) c.if-not-asks_run.false) e.statuses e.script_over e.out_over e.too_long

pub returns-in-Ok-clause-goes : goal.returns-in-Ok-clause-goes
returns-in-Ok-clause-goes g c =
    let D = g.D.Disk in
    let disk = c.args.disk.now in
    let s = c.start.ensures.goes in
    let e = c.serve.ensures.goes in
    (e.0 ∙ s.0, record { disk = subst (λ z. DiskGoes (D.state disk) (D.state z)) (sym (e.0 ∙ s.0)) (disk_stays _); feed = goes_then _ _ _ s.1 e.1; script = e.2; out = e.3 })

-- ---- no session begins

pub returns-in-Err-clause-did : goal.returns-in-Err-clause-did
returns-in-Err-clause-did g c old new tells tells' =
    let D = g.D.Disk in
    let disk = c.args.disk.now in
    let s = c.start.ensures.goes in
    let asked = c.asks_run.ensures ∙ ap (λ b. if b then word_run else no_words_known) c.if-not-asks_run.false in
    let left = subst (λ z. LeftOnly (D.state disk) (D.state z) (D.state disk).leaves) (sym s.0) (record { later = omega arith; each = λ image l. g.met.D.Disk.only_now disk image l; before = λ t image le l. inl l }) in
    stopped_did (map (λ w. string_bytes w) c.args.words.now) _ _ _ _ _ _ _ old new (view_start c.in-Err.refusal) c.stop.result asked tells tells' c.in-Err.ensures.refused left (ap (λ z. (D.state z).faults) s.0) c.stop.ensures.stopped

pub returns-in-Err-clause-ends : goal.returns-in-Err-clause-ends
returns-in-Err-clause-ends g c =
    stopped_ends (map (λ w. string_bytes w) c.args.words.now) _ _ _ _ _ _ _ (view_start c.in-Err.refusal) c.stop.result (c.asks_run.ensures ∙ ap (λ b. if b then word_run else no_words_known) c.if-not-asks_run.false) c.in-Err.ensures.refused (ap (λ z. (g.D.Disk.state z).faults) c.start.ensures.goes.0) c.stop.ensures.stopped

pub returns-in-Err-clause-goes : goal.returns-in-Err-clause-goes
returns-in-Err-clause-goes g c =
    let D = g.D.Disk in
    let disk = c.args.disk.now in
    let s = c.start.ensures.goes in
    (s.0, record { disk = subst (λ z. DiskGoes (D.state disk) (D.state z)) (sym s.0) (disk_stays _); feed = s.1; script = bytes_stay _; out = c.stop.ensures.goes })
