use Rattle.std.proofs.Common.{arith}
use Rattle.guest_session.proofs.TextLemmas.{text-goes-on}
use Rattle.guest_session.proofs.text.text_of.Goals as goal

pub loop-byte-preserved : goal.loop-byte-preserved
loop-byte-preserved g c = (
  text-goes-on c.args.bytes.now c.loop-byte.text.items c.loop-byte.byte-index c.printed.result c.push.new.self.items c.loop-byte.invariant.0 c.loop-byte-test.true c.if-byte-eq0.false c.printed.ensures c.push.ensures.items,
  omega (arith, c.push.ensures.len, c.loop-byte.invariant.1),
)
