use Rattle.lt_schema.proofs.SeenLaws.{seen_more}
use Rattle.lt_schema.proofs.adding.seen.see.Goals as goal

pub returns-clause-added : goal.returns-clause-added
returns-clause-added c = λ before h. seen_more c.as_str.result c.args.name.now c.args.seen.now c.insert.new.self c.as_str.ensures c.in_ok-insert.ensures.updates before h
