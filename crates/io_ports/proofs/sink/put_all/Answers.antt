use Rattle.std.proofs.Common.{take, [], arith, rules}
use Rattle.std.proofs.lemmas.List.{append-nil}
use Rattle.std.proofs.lemmas.Result.{err_from_is_err_and}
use Rattle.io_ports.specs.Content.{GrowsPart}
use Rattle.io_ports.proofs.GrowLemmas.{grows_on, grows_none, grows_slice, prefix_take}
use Rattle.io_ports.proofs.sink.put_all.Goals as goal

pub returns-in_err-at-clause-err : goal.returns-in_err-at-clause-err
returns-in_err-at-clause-err g c =
    let front = take c.loop-at.at c.args.bytes.now in
    let part : GrowsPart (g.K.Sink.written c.args.sink.now) c.args.bytes.now (g.K.Sink.written c.put.new.self) = (
      front,
      prefix_take c.loop-at.at c.args.bytes.now,
      grows_on _ _ _ front [] front c.loop-at.invariant.grown (grows_none _ _ c.in_err-at.ensures.same) (append-nil front),
    ) in
    let p = err_from_is_err_and c.from_residual.result c.from_residual.ensures.1 in rw (p.1) part

pub returns-in_err-at-clause-keeps : goal.returns-in_err-at-clause-keeps
returns-in_err-at-clause-keeps g c = g.met.K.Sink.keeps_on _ _ _ c.loop-at.invariant.keeps c.put.ensures.keeps

pub loop-at-preserved : goal.loop-at-preserved
loop-at-preserved g c = record {
  within = search rules;
  grown = grows_slice _ _ _ c.args.bytes.now c.loop-at.at c.in_ok-at.field-0 c.loop-at.invariant.grown c.in_ok-at.ensures.grows;
  keeps = g.met.K.Sink.keeps_on _ _ _ c.loop-at.invariant.keeps c.in_ok-at.ensures.keeps;
  later = omega (arith, c.loop-at.invariant.later, c.in_ok-at.ensures.cause.later);
}
