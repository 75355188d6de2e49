-- The lines of deltas, and the one that counts them.
use Rattle.std.proofs.Common.{List, [], ap, append_assoc, length, sym, ℕ, ◌++◌, ◌∙◌, ◌∷◌, ◌≡◌}
use Rattle.std.proofs.lemmas.List.{length-map}
use Rattle.std.specs.Prelude.{codes, decimal, flat_map}
use Rattle.lt_words.specs.Reply.{delta_line, deltas_told, ended, reply_text, text_line}
use Rattle.lt_reply.specs.View.{view_delta, view_deltas}
use Rattle.lt_reply.specs.declared.reply.DeltaLine.{DeltaLine}

pub deltas_lines : (ds : List DeltaLine) (n : ℕ) (text words : List ℕ) → n ≡ length ds → text ≡ flat_map delta_line (view_deltas ds)
    → words ≡ text ++ (codes "ok deltas " ++ decimal n) → ended words ≡ reply_text (deltas_told (view_deltas ds))
unfolding reply_text
deltas_lines ds n text words e f g =
    ap ended g ∙ append_assoc text (codes "ok deltas " ++ decimal n) (10 ∷ [])
    ∙ ap (λ (t : List ℕ). t ++ text_line (codes "ok deltas" ∷ decimal n ∷ [])) f
    ∙ ap (λ k. flat_map delta_line (view_deltas ds) ++ text_line (codes "ok deltas" ∷ decimal k ∷ [])) (e ∙ sym (length-map ds view_delta))
