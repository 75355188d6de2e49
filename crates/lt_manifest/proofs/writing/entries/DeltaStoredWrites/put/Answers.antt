use Rattle.lt_manifest.specs.View.{view_delta}
use Rattle.lt_manifest.proofs.Spellings.{chain, delta_spells, put_whole}
use Rattle.lt_manifest.proofs.writing.entries.DeltaStoredWrites.put.Goals as goal

pub returns : goal.returns
returns c = put_whole c.args.to.now _ _ _
    (chain c.args.to.now c.u64.new.self _ _ _ c.in_ok-u64.ensures.ok (chain c.u64.new.self c.u64-2.new.self _ _ _ c.in_ok-u64-2.ensures.ok c.in_ok-u64-3.ensures.ok))
    (delta_spells (view_delta c.args.self.now))
