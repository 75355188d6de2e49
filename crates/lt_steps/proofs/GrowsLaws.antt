-- A longer feed: its fronts go on from those that stood, so what a session holds in memory stays what the source has of the pending names.
use Rattle.std.proofs.Common.{List, sym, ◌∙◌}
use Rattle.std.specs.Prelude.{Contains}
use Rattle.std.specs.List.{AllByRecursion}
use Rattle.lt_terms.specs.Log.{Change}
use Rattle.lt_machine.specs.Machine.{cat_of}
use Rattle.lt_tables.specs.Schema.{as_it_was}
use Rattle.lt_machine.specs.Sound.{source_of}
use Rattle.lt_codecs.proofs.LogLaws.{frames_prefix_free}
use Rattle.lt_laws.proofs.FrontLaws.{fronts_stay}
use Rattle.lt_laws.proofs.FrontStands.{fronts_grow}
use Rattle.lt_codecs.proofs.ListFacts.{all_map}
use Rattle.lt_laws.proofs.ListFacts.{all_at}
use Rattle.lt_laws.proofs.SoundLaws.{good_grows, grows-same, longer-by, source-more}
use Rattle.lt_steps.specs.Memory.{MemoryGrows}

-- what holds changes of a source holds changes of one that has all of these
held_more : (source more : List Change) (cs : List Change) → AllByRecursion (Contains more) source → AllByRecursion (Contains source) cs → AllByRecursion (Contains more) cs
held_more source more cs all held = all_map (Contains source) (Contains more) cs (λ c h. all_at (Contains more) source c all h) held

pub memory_grows : MemoryGrows
memory_grows f g s mem grows short b =
    let fs = b.0 in
    let good = b.1 in
    let cat = cat_of s in
    let lawful = good.lawful.manifest.catalogue in
    let grown = fronts_grow f g cat cat fs grows good.fronts in
    let gs = grown.0 in
    let stay = fronts_stay frames_prefix_free f g cat cat fs gs grows lawful as_it_was good.fronts grown.2 in
    let more : AllByRecursion (Contains (source_of gs)) (source_of fs) = source-more cat fs gs (longer-by g cat 0 fs gs (good.fronts.all ∙ grows-same f g grows ∙ sym grown.2.all) stay grown.2.each) in (
      gs,
      good_grows f g fs s grows short good gs grown.2,
      b.2,
      all_map (AllByRecursion (Contains (source_of fs))) (AllByRecursion (Contains (source_of gs))) mem (λ cs held. held_more (source_of fs) (source_of gs) cs more held) b.3,
    )
