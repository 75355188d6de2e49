use Rattle.std.proofs.Common.{Some, ap, arith, sym, ◌+◌, ◌∙◌, ℕ}
use Rattle.std.specs.Prelude.{option_map}
use Rattle.lt_core.specs.View.{view_parts}
use Rattle.lt_terms.specs.Key.{key_bytes}
use Rattle.lt_words.specs.Reply.{not_safe}
use Rattle.lt_replica.proofs.ScanLaws.{unsafe_told, unsafe_within}
use Rattle.lt_replica.proofs.replica.Replica.test_safe.Goals as goal

pub returns-in-None : goal.returns-in-None
returns-in-None c =
    unsafe_told c.args.self.now c.args.table c.args.at c.as_slice.result.now c.as_slice-2.result.now c.first_below.result
    (c.as_slice.ensures ∙ c.in_ok-low.ensures ∙ ap (λ ps. key_bytes c.args.table (view_parts ps)) c.new-none.ensures)
    (c.as_slice-2.ensures ∙ c.in_ok-high.ensures ∙ ap (λ ps. key_bytes (c.args.table + 1) (view_parts ps)) c.new-none.ensures)
    c.first_below.ensures ∙ ap (option_map (λ (x : ℕ × ℕ). not_safe x.0 x.1)) c.in-None.is

pub overflow_cast-result : goal.overflow_cast-result
overflow_cast-result c =
    let l = unsafe_within c.args.self.now.map (record { low = c.as_slice.result.now; high = Some c.as_slice-2.result.now }) c.args.at (c.in-Some.part, c.in-Some.checkpoint) (sym c.first_below.ensures ∙ c.in-Some.is) in
    omega (arith, l, c.len-count.ensures.lawful.few)

pub returns : goal.returns
returns c = (
  tt,
  unsafe_told c.args.self.now c.args.table c.args.at c.as_slice.result.now c.as_slice-2.result.now c.first_below.result
      (c.as_slice.ensures ∙ c.in_ok-low.ensures ∙ ap (λ ps. key_bytes c.args.table (view_parts ps)) c.new-none.ensures)
      (c.as_slice-2.ensures ∙ c.in_ok-high.ensures ∙ ap (λ ps. key_bytes (c.args.table + 1) (view_parts ps)) c.new-none.ensures)
      c.first_below.ensures ∙ ap (option_map (λ (x : ℕ × ℕ). not_safe x.0 x.1)) c.in-Some.is,
)
