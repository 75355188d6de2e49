use Rattle.std.proofs.Common.{ap, flat_map, map, ◌∙◌, ◌≡◌}
use Rattle.lt_manifest.specs.Rules.{SameMembers, are_streams, is_in}
use Rattle.lt_manifest.specs.View.{view_delta, view_part, view_stream, view_unbuilt}
use Rattle.lt_manifest.proofs.RuleLaws.{lawful_parts}
use Rattle.lt_manifest.proofs.reading.rules.has_lawful_parts.Goals as goal

pub returns : goal.returns
returns c =
    let u = c.args.unbuilt.now in
    let are : c.in_ok-streams.streams ≡ are_streams (map view_stream u.streams) = c.in_ok-streams.ensures ∙ ap (λ ss. are_streams (map view_stream ss)) c.as_slice-3.ensures in
    let known : c.deref.result.now ≡ map (λ d. d.0) (map view_delta u.deltas) = c.deref.ensures.value ∙ c.in_ok-known.ensures ∙ ap (λ ds. map (λ d. d.0) (map view_delta ds)) c.as_slice.ensures in
    let same : SameMembers c.deref-2.result.now (flat_map (λ p. p.ids) (map view_part u.parts)) = λ n.
    ap (λ ns. is_in ns n) c.deref-2.ensures.value ∙ c.in_ok-listed.ensures.same n ∙ ap (λ ps. is_in (flat_map (λ p. p.ids) (map view_part ps)) n) c.as_slice-2.ensures in
    c.fit_together.ensures ∙ lawful_parts (view_unbuilt u) c.in_ok-streams.streams c.deref.result.now c.deref-2.result.now are known same
