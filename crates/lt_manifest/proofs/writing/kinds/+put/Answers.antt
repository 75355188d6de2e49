use Rattle.std.proofs.Common.{rules}
use Rattle.lt_core.specs.declared.kind.Kind.{the_lemmas}
use Rattle.lt_records.proofs.Spellings.{at_place}
use Rattle.lt_manifest.specs.Writing.{HasSpelling}
use Rattle.lt_manifest.proofs.Spellings.{enum_lawful, enum_put, plain_put, struct_fields, struct_put}
use Rattle.lt_manifest.proofs.writing.kinds.+put.Goals as goal

pub put_fields-put_kind-requires : goal.put_fields-put_kind-requires
put_fields-put_kind-requires t c = (search (rules, the_lemmas), at_place (λ f. HasSpelling f.2) c.args.fields.now c.as_slice-number-items.result.now c.loop-number.number-index c.loop-number-item.result c.requires.spelled c.as_slice-number-items.ensures c.loop-number-test.true c.loop-number-item.is)

pub put_kind-put_names-requires : goal.put_kind-put_names-requires
put_kind-put_names-requires t c = enum_lawful c.args.kind.now c.in-Enum.names c.in-Enum.is c.requires

pub put_kind-put_fields-requires : goal.put_kind-put_fields-requires
put_kind-put_fields-requires t c = (search (rules, the_lemmas), struct_fields c.args.kind.now c.in-Struct.fields c.in-Struct.is c.requires)

pub put_kind-returns-in_ok-u8-in-Plain : goal.put_kind-returns-in_ok-u8-in-Plain
put_kind-returns-in_ok-u8-in-Plain t c = plain_put c.args.to.now c.u8.new.self c.number_of.result c.in-Plain.rank c.args.kind.now c.in_ok-u8-in-Plain.ensures.ok c.number_of.ensures c.in-Plain.is

pub put_kind-returns-in_ok-put_names-in-Enum : goal.put_kind-returns-in_ok-put_names-in-Enum
put_kind-returns-in_ok-put_names-in-Enum t c = enum_put c.args.to.now c.u8-in-Enum.new.self c.put_names.new.to c.in-Enum.names c.args.kind.now c.in_ok-u8-in-Enum.ensures.ok c.in_ok-put_names-in-Enum.ensures c.in-Enum.is

pub put_kind-returns-in_ok-put_fields-in-Struct : goal.put_kind-returns-in_ok-put_fields-in-Struct
put_kind-returns-in_ok-put_fields-in-Struct t c = struct_put c.args.to.now c.u8-in-Struct.new.self c.put_fields.new.to c.in-Struct.fields c.args.kind.now c.in_ok-u8-in-Struct.ensures.ok c.in_ok-put_fields-in-Struct.ensures c.in-Struct.is
