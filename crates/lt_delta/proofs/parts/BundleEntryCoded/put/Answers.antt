use Rattle.std.proofs.Common.{◌++◌, ap, ◌∙◌}
use Rattle.lt_codecs.specs.Codec.{bytes16, u64}
use Rattle.lt_delta.specs.View.{view_entry}
use Rattle.lt_delta.proofs.Items.{behind}
use Rattle.lt_delta.proofs.Spellings.{entry_spells}
use Rattle.lt_delta.proofs.parts.BundleEntryCoded.put.Goals as goal

pub returns : goal.returns
returns c =
    let e = c.args.self.now in
    let end = c.u64-5.new.self in
    let greatest = u64.spell e.greatest in
    let times = u64.spell e.least ++ greatest in
    let last = bytes16.spell e.last ++ times in
    let keys = bytes16.spell e.first ++ last in
    let counted = u64.spell e.versions ++ keys in
    behind c.args.to.now c.u64.new.self end (u64.spell e.place) (u64.spell e.length ++ counted) c.in_ok-u64.ensures.ok
    (behind c.u64.new.self c.u64-2.new.self end (u64.spell e.length) counted c.in_ok-u64-2.ensures.ok
    (behind c.u64-2.new.self c.u64-3.new.self end (u64.spell e.versions) keys c.in_ok-u64-3.ensures.ok
    (behind c.u64-3.new.self c.put_key.new.to end (bytes16.spell e.first) last c.in_ok-put_key.ensures
    (behind c.put_key.new.to c.put_key-2.new.to end (bytes16.spell e.last) times c.in_ok-put_key-2.ensures
    (behind c.put_key-2.new.to c.u64-4.new.self end (u64.spell e.least) greatest c.in_ok-u64-4.ensures.ok c.in_ok-u64-5.ensures.ok)))))
    ∙ ap (λ t. c.args.to.now ++ t) (entry_spells (view_entry e))
