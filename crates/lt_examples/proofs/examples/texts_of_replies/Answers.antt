use Rattle.std.proofs.Common.{refl}
use Rattle.std.specs.Str.{is_utf8, chars}
use Rattle.std.specs.Fmt.{digits}
use lib.Utf8.{encode}
use Rattle.lt_terms.specs.Conversion.{at_rank, number_of_text}
use Rattle.lt_tables.specs.Fair.{breaks}
use Rattle.lt_terms.specs.Log.{spelled}
use Rattle.lt_words.specs.Reply.{refusal_text, reply_text}
use Rattle.lt_tables.specs.Row.{snapshot}
use Rattle.lt_tables.specs.Schema.{carrier, carrier_layout, schema_fault}
use Rattle.lt_storage.specs.Store.{manifest_bytes}
use Rattle.lt_tables.specs.Version.{collapse, compose}
use Rattle.serde_json.proofs.OnLiterals.{serde_json_on_literals}
use Rattle.lt_examples.proofs.examples.texts_of_replies.Goals as goal

pub returns-clause-pump : goal.returns-clause-pump
unfolding serde_json_on_literals is_utf8 chars encode digits at_rank number_of_text carrier carrier_layout schema_fault spelled breaks snapshot compose collapse manifest_bytes reply_text refusal_text
returns-clause-pump c = refl

pub returns-clause-refusal : goal.returns-clause-refusal
unfolding serde_json_on_literals is_utf8 chars encode digits at_rank number_of_text carrier carrier_layout schema_fault spelled breaks snapshot compose collapse manifest_bytes reply_text refusal_text
returns-clause-refusal c = refl
