use Rattle.std.proofs.Common.{rules, ◌≡◌, ◌≤◌, ◌++◌, length, arith}
use Rattle.lt_codecs.specs.Codec.{bytes32, u8}
use Rattle.lt_terms.specs.Log.{kind_byte}
use Rattle.lt_records.specs.View.{view_item}
use Rattle.lt_records.proofs.Spellings.{frame_of, too_long}
use Rattle.lt_records.proofs.writing.frame.write.Goals as goal

pub returns-then-len-clause-refused : goal.returns-then-len-clause-refused
returns-then-len-clause-refused c = too_long c.args.item.now c.in_ok-body.body c.len-len.result c.in_ok-body.ensures c.len-len.ensures c.if-len.true

pub returns-clause-frame : goal.returns-clause-frame
returns-clause-frame c =
    let small : length c.in_ok-body.body ≤ 1048576 = omega (arith, c.if-len.false, c.len-len.ensures) in
    let written : c.finish.result ≡ u8.spell (kind_byte (view_item c.args.item.now)) ++ bytes32.spell c.in_ok-body.body = search rules in
    frame_of c.args.item.now c.finish.result c.in_ok-body.body c.requires c.in_ok-body.ensures small written
