-- A longer feed keeps a good session, and neither it nor a longer catalogue changes an answer up to a safe moment.
use Rattle.std.proofs.Common.{List, [], ℕ, ◌+◌, ◌∷◌}
use Rattle.lt_terms.specs.Log.{Header, Item, changes_of}
use Rattle.lt_world.specs.Feed.{Feed, Grows}
use Rattle.lt_tables.specs.Schema.{Became, Catalogue, IsCatalogue}
use Rattle.lt_tables.specs.Row.{AreKeyed, IsKeyed}
use Rattle.lt_storage.specs.Store.{Durable}
use Rattle.lt_machine.specs.Sound.{FrontsFrom, GrowthKeeps, IsSoundFor, source_of}
use Rattle.lt_machine.specs.Machine.{cat_of, query_interval}
use Rattle.lt_laws.proofs.CatalogueLaws.{fair_stays}
use Rattle.lt_laws.proofs.TakenLaws.{fair_keyed, source_keyed}
use Rattle.lt_laws.proofs.FrontStands.{fronts_grow}
use Rattle.lt_laws.proofs.SoundLaws.{good_grows, safe_row_stays, sound_grows_part}
use Rattle.lt_laws.proofs.SnapshotLaws.{answer_by_rows}
use Rattle.lt_session_laws.proofs.StepLaws.{if_some}
use Rattle.lt_codecs.proofs.ListFacts.{all_append}

-- the changes of fronts are keyed under a longer catalogue too
wider_keyed : (feed : Feed) (cat wide : Catalogue) (n : ℕ) (fs : List (Header × List Item)) → IsCatalogue cat → Became cat wide → FrontsFrom feed cat n fs → AreKeyed wide (source_of fs)
wider_keyed feed cat wide n [] lawful became a = tt
wider_keyed feed cat wide n (f ∷ fs) lawful became a = all_append (IsKeyed wide) (changes_of f.1) (source_of fs) (fair_keyed f.0 wide f.1 (fair_stays cat wide lawful became f.0 f.1 a.2.fair) a.2.lawful) (wider_keyed feed cat wide (n + 1) fs lawful became a.3)

part_grows : (feed more : Feed) (d : Durable) → Grows feed more → IsSoundFor feed d → IsSoundFor more d
part_grows feed more d grows h =
    let f = fronts_grow feed more d.catalogue d.catalogue h.1.0 grows h.1.1 in
    (h.0, (f.0, f.2, sound_grows_part feed more d h.1.0 f.0 grows h.0.manifest.catalogue h.1.1 f.2 h.1.2))

pub growth_keeps : GrowthKeeps
growth_keeps = record {
  good = λ feed more fs gs s grows short good fronts. good_grows feed more fs s grows short good gs fronts;
  failed = λ feed more s grows failed. if_some (IsSoundFor feed) (IsSoundFor more) s.broken (λ d h. part_grows feed more d grows h) failed;
  answers = λ feed more wide fs gs s grows became good fronts t columns q safe.
      answer_by_rows wide (source_of gs) (source_of fs) t columns q q.at (source_keyed more wide gs fronts) (wider_keyed feed (cat_of s) wide 0 fs good.lawful.manifest.catalogue became good.fronts.each)
      (safe_row_stays feed more wide fs s grows became good gs fronts (query_interval t q) q.at safe);
}
