use Rattle.std.proofs.Common.{ap, length, sym, ◌+◌, ◌∙◌, ◌≡◌}
use Rattle.lt_records.specs.View.{view_change}
use Rattle.lt_pending.specs.Stamps.{changes_in}
use Rattle.lt_pending.proofs.Puts.{put-length}
use Rattle.lt_pending.proofs.changes.Changes.put.Goals as goal

pub invariant_of-self-2 : goal.invariant_of-self-2
invariant_of-self-2 c =
    let old = c.args.self.now.keys.entries in
    let had : c.args.self.now.count ≡ length (changes_in old) = c.args.self.now.counted in
    record {
      named = c.put_in.ensures.named;
      counted = ap (λ n. n + 1) had ∙ sym (put-length (view_change c.args.change) (changes_in old)) ∙ sym (ap length c.in_ok-put_in.ensures.ok);
    }
