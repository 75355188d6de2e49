use Rattle.std.proofs.Common.{arith}
use Rattle.std.proofs.lemmas.Str.Pattern.{split_parts}
use Rattle.lt_script.proofs.WordLaws.{splits_parted, splits_whole}
use Rattle.lt_script.proofs.words.first_word.Goals as goal

pub returns-clause-parted : goal.returns-clause-parted
returns-clause-parted c = splits_parted c.args.line.now c.split_once.result (split_parts 32 c.args.line.now c.split_once.result c.split_once.ensures.cases (omega arith))

pub returns-clause-whole : goal.returns-clause-whole
returns-clause-whole c = splits_whole c.args.line.now c.split_once.result (split_parts 32 c.args.line.now c.split_once.result c.split_once.ensures.cases (omega arith))
