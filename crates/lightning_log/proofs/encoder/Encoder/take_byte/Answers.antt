use Rattle.std.proofs.Common.{arith, ne_eqb, refl}
use Rattle.lightning_log.proofs.WriteLaws.{stands_ended, stands_open}
use Rattle.lightning_log.proofs.encoder.Encoder.take_byte.Goals as goal

pub returns-then-byte-eq-LINE_FEED : goal.returns-then-byte-eq-LINE_FEED
returns-then-byte-eq-LINE_FEED c taken written s = stands_ended taken written c.args.self.now _ c.args.byte s c.if-byte-eq-LINE_FEED.true c.in_ok-say.ensures.ok c.clear.ensures.items

pub returns : goal.returns
returns c taken written s =
    stands_open taken written c.args.self.now _ c.args.byte s (ne_eqb c.args.byte 10 c.if-byte-eq-LINE_FEED.false) (omega (arith, c.len.ensures, c.if-len-ge-MAX_LINE.false)) c.in_ok-push.ensures.items refl
