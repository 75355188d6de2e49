use Rattle.lt_codecs.specs.Codec.{i32, ◌then◌}
use Rattle.lt_manifest.specs.Texts.{enum_names, text16}
use Rattle.lt_manifest.proofs.Lists.{gives_counted}
use Rattle.lt_manifest.proofs.reading.kinds.names_at.Goals as goal

pub returns : goal.returns
unfolding enum_names
returns c = gives_counted (i32 then text16).read _ c.from.result c.in_ok-count.count c.u16.new.self c.items_at.result c.items_at.new.from c.in_ok-count.ensures.read c.from.ensures c.items_at.ensures
