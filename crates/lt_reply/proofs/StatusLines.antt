-- The lines of a status, put together from their parts.
use Rattle.std.proofs.Common.{List, None, Option, Some, [], ap, ap₂, append_assoc, drop, length, refl, slice_index_or, sym, ℕ, ◌+◌, ◌++◌, ◌<◌, ◌∙◌, ◌∷◌, ◌≡◌}
use Rattle.std.proofs.lemmas.List.{drop_more}
use Rattle.std.specs.Prelude.{codes, decimal, flat_map}
use Rattle.lt_words.specs.Reply as model
use Rattle.lt_terms.specs.declared.Progress.{Progress}
use Rattle.lt_terms.specs.declared.Progress.TheVariants as progress
use Rattle.lt_words.specs.Reply.{ended, job_text, part_line, part_lines, reply_text, status_told, stream_line, text_line}
use Rattle.lt_reply.specs.View.{view_part, view_parts}
use Rattle.lt_reply.specs.declared.reply.PartLine.{PartLine}

-- the lines from a partition on are its line, and then those from the next one on
next_part : (ps : List PartLine) (n : ℕ) (p : PartLine) → n < length ps → p ≡ slice_index_or ps n p
    → part_lines n (view_parts (drop n ps)) ≡ part_line n (view_part p) ++ part_lines (n + 1) (view_parts (drop (n + 1) ps))
next_part ps n p l e =
    ap (λ (us : List PartLine). part_lines n (view_parts us)) (drop_more ps n p l)
    ∙ ap (λ (r : PartLine). part_line n (view_part r) ++ part_lines (n + 1) (view_parts (drop (n + 1) ps))) (sym e)

pub more_parts : (ps : List PartLine) (n : ℕ) (p : PartLine) (text new all : List ℕ) → n < length ps → p ≡ slice_index_or ps n p
    → text ++ part_lines n (view_parts (drop n ps)) ≡ all → new ≡ text ++ part_line n (view_part p) → new ++ part_lines (n + 1) (view_parts (drop (n + 1) ps)) ≡ all
more_parts ps n p text new all l e before put =
    let behind = part_lines (n + 1) (view_parts (drop (n + 1) ps)) in
    ap (λ (t : List ℕ). t ++ behind) put ∙ append_assoc text (part_line n (view_part p)) behind ∙ ap (λ (t : List ℕ). text ++ t) (sym (next_part ps n p l e)) ∙ before

regrouped : (d p s t e j k : List ℕ) → t ++ e ≡ j ++ k → (d ++ (10 ∷ (p ++ (s ++ t)))) ++ e ≡ ((((d ++ (10 ∷ [])) ++ p) ++ s) ++ j) ++ k
regrouped d p s t e j k same =
    append_assoc d (10 ∷ (p ++ (s ++ t))) e
    ∙ ap (λ (u : List ℕ). d ++ (10 ∷ u)) (append_assoc p (s ++ t) e ∙ ap (λ (u : List ℕ). p ++ u) (append_assoc s t e ∙ ap (λ (u : List ℕ). s ++ u) same))
    ∙ sym (append_assoc (((d ++ (10 ∷ [])) ++ p) ++ s) j k ∙ append_assoc ((d ++ (10 ∷ [])) ++ p) s (j ++ k)
    ∙ append_assoc (d ++ (10 ∷ [])) p (s ++ (j ++ k)) ∙ append_assoc d (10 ∷ []) (p ++ (s ++ (j ++ k))))

job_ends : (job : Option Progress) → (codes "job " ++ (job_text job ++ codes "\nok status")) ++ (10 ∷ []) ≡ text_line (codes "job" ∷ job_text job ∷ []) ++ ended (codes "ok status")
job_ends None = refl
job_ends (Some progress.More) = refl
job_ends (Some progress.Done) = refl

pub status_lines : (m : ℕ) (ps : List model.PartLine) (ss : List model.StreamLine) (job : Option Progress) (parts streams word words : List ℕ)
    → parts ≡ part_lines 0 ps → streams ≡ flat_map stream_line ss → word ≡ job_text job
    → words ≡ codes "minimum " ++ (decimal m ++ (codes "\n" ++ (parts ++ (streams ++ (codes "job " ++ (word ++ codes "\nok status")))))) → ended words ≡ reply_text (status_told m ps ss job)
unfolding reply_text
status_lines m ps ss job parts streams word words e f h g =
    ap ended (g ∙ ap₂ (λ (x y : List ℕ). codes "minimum " ++ (decimal m ++ (codes "\n" ++ (x ++ (y ++ (codes "job " ++ (word ++ codes "\nok status"))))))) e f
    ∙ ap (λ (w : List ℕ). codes "minimum " ++ (decimal m ++ (codes "\n" ++ (part_lines 0 ps ++ (flat_map stream_line ss ++ (codes "job " ++ (w ++ codes "\nok status"))))))) h)
    ∙ ap (λ (u : List ℕ). codes "minimum " ++ u)
    (regrouped (decimal m) (part_lines 0 ps) (flat_map stream_line ss) (codes "job " ++ (job_text job ++ codes "\nok status")) (10 ∷ []) (text_line (codes "job" ∷ job_text job ∷ [])) (ended (codes "ok status")) (job_ends job))
