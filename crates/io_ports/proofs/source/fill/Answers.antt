use Rattle.std.proofs.Common.{arith, rules}
use Rattle.io_ports.proofs.ReadLemmas.{taken_more}
use Rattle.io_ports.proofs.source.fill.Goals as goal

pub loop-at-preserved : goal.loop-at-preserved
loop-at-preserved g c = record {
  within = search rules;
  taken = λ bytes told. let first = c.loop-at.invariant.taken bytes told in
      taken_more bytes c.loop-at.room c.read.new.room c.loop-at.at c.in_ok-n.n _ _ _ c.loop-at.invariant.within (omega (arith, c.in_ok-n.ensures.bound)) first (c.in_ok-n.ensures.taken _ first.left);
  keeps = g.met.S.Source.keeps_on _ _ _ c.loop-at.invariant.keeps c.in_ok-n.ensures.keeps;
  later = omega (arith, c.loop-at.invariant.later, c.in_ok-n.ensures.cause.later);
}
