use Rattle.std.proofs.Common.{◌≡◌, ◌++◌, ◌∷◌, [], subst, sym, arith}
use Rattle.std.proofs.lemmas.List.{map_push}
use Rattle.lt_terms.specs.Value.{is_number}
use Rattle.lt_core.specs.View.{view_setting, view_settings}
use Rattle.lt_codecs.specs.Codec.{◌then◌, read_times, u16, where_true}
use Rattle.lt_codecs.specs.LogCodec as log
use Rattle.lt_records.specs.Reading.{Gives}
use Rattle.lt_records.proofs.Depth.{fields_below, no_fields}
use Rattle.lt_records.proofs.Loop.{goes_on}
use Rattle.lt_records.proofs.reading.value.+value.Goals as goal

pub counted_at-loop-preserved : goal.counted_at-loop-preserved
counted_at-loop-preserved t c =
    let one = (where_true is_number u16 then log.value c.args.depth).read in
    let pushed : view_settings c.push.new.self ≡ view_settings c.loop.settings ++ view_setting c.in_ok-setting.setting ∷ [] = rw c.in_ok-push.ensures.ok (map_push view_setting c.loop.settings c.in_ok-setting.setting) in
    rw pushed (goes_on one (view_settings c.loop.settings) c.args.count c.loop.counter c.loop.from (view_setting c.in_ok-setting.setting) c.setting_at.new.from (read_times one c.args.count c.args.from.now) c.loop-test.true c.in_ok-setting.ensures c.loop.invariant)

pub fields_at-returns-then-depth-eq0 : goal.fields_at-returns-then-depth-eq0
fields_at-returns-then-depth-eq0 t c = no_fields c.args.depth c.args.from.now c.if-depth-eq0.true

pub fields_at-returns : goal.fields_at-returns
fields_at-returns t c =
    let below = fields_below c.args.depth (omega (arith, c.if-depth-eq0.false)) in
    subst (λ f. Gives view_settings (f.read c.args.from.now) c.settings_at.result c.settings_at.new.from) (sym below) c.settings_at.ensures
