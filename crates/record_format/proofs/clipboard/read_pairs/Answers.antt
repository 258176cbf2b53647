use Rattle.std.proofs.Common.{◌≡◌, ◌+◌, ◌-◌, suc, refl, arith}
use Rattle.record_format.specs.Config.{pair_of, many_of}
use Rattle.record_format.proofs.ReaderLemmas.{took_none, hands_err, Reaches, one_more, none_yet, next_one, more_read, all_read}
use Rattle.record_format.proofs.clipboard.read_pairs.Goals as goal

pub returns-in-Err-clause-reads : goal.returns-in-Err-clause-reads
returns-in-Err-clause-reads g c = λ bytes told.
    let more = c.args.count - (c.loop.counter + 1) in
    let so_many : c.loop.counter + suc more ≡ c.args.count = omega arith in
    let first = next_one pair_of c.args.count c.loop.counter more _ bytes _ so_many (c.loop.invariant.reads bytes told) in
    hands_err (many_of pair_of c.args.count) (one_more pair_of _ more) pair_of c.in-Err.e bytes _ _ (λ w. refl) first (c.in-Err.ensures.reads first.rest first.is_left)

pub loop-init : goal.loop-init
loop-init g c = record {
  reads = λ bytes told. took_none bytes _ (Reaches pair_of c.args.count 0 c.new-pairs.result) told (none_yet pair_of c.args.count c.new-pairs.result c.new-pairs.ensures);
  keeps = g.met.S.Source.keeps_same _;
  later = omega arith;
}

pub loop-preserved : goal.loop-preserved
loop-preserved g c = record {
  reads = λ bytes told.
      let first = c.loop.invariant.reads bytes told in
      more_read pair_of c.args.count c.loop.counter c.loop.pairs c.push.new.self c.in-Ok.pair bytes _ _ c.in-Ok-push.ensures.ok first (c.in-Ok.ensures.reads first.rest first.is_left);
  keeps = g.met.S.Source.keeps_on _ _ _ c.loop.invariant.keeps c.in-Ok.ensures.keeps;
  later = omega (arith, c.loop.invariant.later, c.in-Ok.ensures.later);
}

pub returns-clause-reads : goal.returns-clause-reads
returns-clause-reads g c = λ bytes told.
    all_read pair_of c.args.count c.loop.counter c.loop.pairs bytes _ (omega arith) (c.loop.invariant.reads bytes told)
