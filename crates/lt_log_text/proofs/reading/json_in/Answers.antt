use Rattle.std.proofs.Common.{sym, ◌∙◌}
use Rattle.std.proofs.lemmas.Bool.{false≢true}
use Rattle.lt_schema_json.proofs.ReadTexts.{is_not_read, is_read}
use Rattle.lt_log_text.proofs.reading.json_in.Goals as goal

pub returns-in-Ok : goal.returns-in-Ok
returns-in-Ok c = is_read _ _ c.in-Ok.ensures.ok

pub returns-in-Err-2 : goal.returns-in-Err-2
returns-in-Err-2 c = is_not_read _ (c.in-Err.ensures.err (λ m. false≢true (sym c.if-is_memory.false ∙ c.is_memory.ensures.1 m)))
