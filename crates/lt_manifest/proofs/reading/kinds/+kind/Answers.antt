use Rattle.std.proofs.Common.{[], arith, map, subst, sym, ◌++◌, ◌∷◌, ◌≡◌}
use Rattle.std.proofs.lemmas.List.{map_push}
use Rattle.lt_codecs.specs.Codec.{read_times}
use Rattle.lt_schema.specs.View.{view_field}
use Rattle.lt_records.proofs.Loop.{goes_on}
use Rattle.lt_manifest.specs.Reading.{Gives}
use Rattle.lt_manifest.specs.Texts as texts
use Rattle.lt_manifest.proofs.Depth.{fields_below, no_fields}
use Rattle.lt_manifest.proofs.reading.kinds.+kind.Goals as goal

pub counted_at-loop-preserved : goal.counted_at-loop-preserved
counted_at-loop-preserved t c =
    let one = (texts.kind_field (texts.kind c.args.depth)).read in
    let pushed : map view_field c.push.new.self ≡ map view_field c.loop.fields ++ view_field c.in_ok-field.field ∷ [] = rw c.in_ok-push.ensures.ok (map_push view_field c.loop.fields c.in_ok-field.field) in
    rw pushed (goes_on one (map view_field c.loop.fields) c.args.count c.loop.counter c.loop.from (view_field c.in_ok-field.field) c.field_at.new.from (read_times one c.args.count c.args.from.now) c.loop-test.true c.in_ok-field.ensures c.loop.invariant)

pub fields_at-returns-then-depth-eq0 : goal.fields_at-returns-then-depth-eq0
fields_at-returns-then-depth-eq0 t c = no_fields c.args.depth c.args.from.now c.if-depth-eq0.true

pub fields_at-returns : goal.fields_at-returns
fields_at-returns t c =
    let below = fields_below c.args.depth (omega (arith, c.if-depth-eq0.false)) in
    subst (λ f. Gives (map view_field) (f.read c.args.from.now) c.deeper_at.result c.deeper_at.new.from) (sym below) c.deeper_at.ensures
