use Rattle.std.proofs.Common.{ap, ◌∙◌}
use Rattle.serde_json.specs.Written.{compact_text, has_float}
use Rattle.lt_lemmas.proofs.SchemaTextLaws.{text_reads_back}
use Rattle.lt_words.specs.SchemaText.{version_of_text}
use Rattle.lt_schema.specs.View.{view_version}
use Rattle.lt_schema_json.proofs.Written.{version_plain}
use Rattle.lt_schema_json.proofs.writing.write_version.Goals as goal

pub returns-clause-text : goal.returns-clause-text
returns-clause-text c =
    let json = c.in_ok-json.ensures in
    c.from_vec.ensures ∙ c.in_ok-to_vec.ensures.text (ap has_float json ∙ version_plain (view_version c.args.version.now)) ∙ ap compact_text json

pub returns-clause-reads_back : goal.returns-clause-reads_back
returns-clause-reads_back c =
    let json = c.in_ok-json.ensures in
    let text = c.from_vec.ensures ∙ c.in_ok-to_vec.ensures.text (ap has_float json ∙ version_plain (view_version c.args.version.now)) ∙ ap compact_text json in
    λ h. ap version_of_text text ∙ text_reads_back (view_version c.args.version.now) h
