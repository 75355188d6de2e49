use Rattle.std.proofs.Common.{sym, ap, ◌∙◌, ◌++◌, ◌+◌, take, drop, append_assoc, take-append-drop, take-suc, add-one}
use Rattle.lightning_log.proofs.WriteLaws.{stops_more}
use Rattle.lightning_log.proofs.encoder.Encoder.take.Goals as goal

pub returns-in-Err : goal.returns-in-Err
returns-in-Err c taken written s =
    let bytes = c.args.bytes.now in
    let i = c.loop-byte.byte-index in
    let one = append_assoc taken (take i bytes) _ ∙ ap (λ x. taken ++ x) (sym (take-suc bytes i 0 c.loop-byte-test.true) ∙ ap (λ n. take n bytes) (sym (add-one i))) in
    let all = ap (λ x. x ++ drop (i + 1) bytes) one ∙ append_assoc taken (take (i + 1) bytes) (drop (i + 1) bytes) ∙ ap (λ x. taken ++ x) (take-append-drop (i + 1) bytes) in
    stops_more _ _ (drop (i + 1) bytes) written _ _ all (c.in-Err.ensures (taken ++ take i bytes) written (c.loop-byte.invariant taken written s))
