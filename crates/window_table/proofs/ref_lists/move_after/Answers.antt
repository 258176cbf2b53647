use Rattle.std.proofs.Common.{◌≡◌, ◌+◌, ◌-◌, ◌<◌, arith, length, get_or, set, subst, sym}
use Rattle.std.proofs.lemmas.List.{get_or_read}
use Rattle.window_table.proofs.MoveLemmas.{MovedSoFar, moved-start, moved-more, moved-end}
use Rattle.window_table.proofs.ref_lists.move_after.Goals as goal

pub loop-k-init : goal.loop-k-init
loop-k-init c = (moved-start c.args.places.now.items c.args.slot c.args.taken c.args.given, omega arith)

pub loop-k-preserved : goal.loop-k-preserved
loop-k-preserved c =
    let old = c.args.places.now.items in
    let now = c.loop-k.places.items in
    let so_far = c.loop-k.invariant.0 in
    let inside : c.loop-k.k < length old = omega (arith, c.loop-k-test.true, c.len-k-end.ensures, c.args.places.now.ok.0) in
    let read : c.index.result.now ≡ get_or now c.loop-k.k 0 =
    get_or_read now c.loop-k.k c.index.result.now (omega (arith, inside, so_far.long)) c.index.ensures 0 in (
      subst (λ n. MovedSoFar old (set now c.loop-k.k (n - c.args.taken + c.args.given)) c.args.slot c.args.taken c.args.given (c.loop-k.k + 1)) (sym read)
          (moved-more old now c.args.slot c.args.taken c.args.given c.loop-k.k so_far c.loop-k.invariant.1 inside),
      omega (arith, c.loop-k.invariant.1),
    )

pub returns : goal.returns
returns c =
    moved-end c.args.places.now.items c.loop-k.places.items c.args.slot c.args.taken c.args.given c.loop-k.k c.loop-k.invariant.0
    (omega (arith, c.loop-k-test.false, c.len-k-end.ensures, c.args.places.now.ok.0))
