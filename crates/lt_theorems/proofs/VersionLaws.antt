-- The laws of lists of row versions and of layouts, all together.
use Rattle.lt_machine.specs.Laws.{LayoutLaws, ListLaws, VersionLaws}
use Rattle.lt_lemmas.proofs.MergeLaws.{clip-ordered}
use Rattle.lt_laws.proofs.ComposeLemmas.{compose_laws}
use Rattle.lt_laws.proofs.CutLaws.{cut_parts}
use Rattle.lt_laws.proofs.ListLaws.{asof-effect, cut-whole}
use Rattle.lt_laws.proofs.MergeLaws.{clip-merge, merge-is-merge, merge-within, one-merge}
use Rattle.lt_laws.proofs.MomentLaws.{asof-clip, asof-collapse, asof-ordered, collapse-clip, collapse-collapse, collapse-newer, collapse-ordered}
use Rattle.lt_laws.proofs.ClipLaws.{clip-clip, clips-abut, coerce-clip, coerce-merge, coerce-ordered}
use Rattle.lt_laws.proofs.CoerceLaws.{effect_coerced}
use Rattle.lt_laws.proofs.CollapseLaws.{asof_goes, collapse_from, collapse_goes, collapse_in}
use Rattle.lt_theorems.proofs.LayoutLaws.{between_twice, carriers_stand, delta_carried}

pub layout_laws : LayoutLaws
layout_laws = record { twice = between_twice; carried = delta_carried; of_carriers = carriers_stand }

pub version_laws : VersionLaws
version_laws = record {
  merged = merge-is-merge;
  composed = asof-effect;
  collapsed = asof-collapse;
  cut_whole = cut-whole;
  cut_parts = cut_parts;
  compositions = compose_laws;
}

pub list_laws : ListLaws
list_laws = record {
  one_merge = one-merge;
  merge_within = merge-within;
  clip_merge = clip-merge;
  clip_clip = clip-clip;
  clips_abut = clips-abut;
  coerce_merge = coerce-merge;
  coerce_clip = coerce-clip;
  coerce_asof = asof_goes;
  coerce_collapse = collapse_goes;
  coerce_effect = effect_coerced;
  asof_clip = asof-clip;
  collapse_clip = collapse-clip;
  collapse_collapse = collapse-collapse;
  collapse_from = collapse_from;
  collapse_in = collapse_in;
  collapse_newer = collapse-newer;
  clip_ordered = clip-ordered;
  coerce_ordered = coerce-ordered;
  asof_ordered = asof-ordered;
  collapse_ordered = collapse-ordered;
}
