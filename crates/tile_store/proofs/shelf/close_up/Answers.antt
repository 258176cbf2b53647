use Rattle.std.proofs.Common.{◌≡◌, ◌∙◌, ℕ, ◌+◌, ◌<◌, suc, Bool, length, ap, sym, subst, arith}
use Rattle.tile_store.specs.declared.shelf.Entry.{Entry}
use Rattle.tile_store.specs.Kept.{tile_in, stays}
use Rattle.tile_store.proofs.SweepLemmas.{ClosedUp, closed-number, closed-step}
use Rattle.tile_store.proofs.shelf.close_up.Goals as goal

pub has_stayed-left-requires : goal.has_stayed-left-requires
has_stayed-left-requires c =
    let so = c.loop-i.invariant.0 in
    let inside : c.loop-i.i < length c.loop-i.held.items = omega (arith, c.loop-i-test.true, c.len-i-end.ensures, so.long) in
    let P : Entry → Type 0 = λ (e : Entry). e.number < length c.args.squares.now in
    subst P (sym c.index.ensures) (closed-number (length c.args.squares.now) c.index.result.now so c.requires.once inside)

pub loop-i-preserved : goal.loop-i-preserved
loop-i-preserved c =
    let so = c.loop-i.invariant.0 in
    let i = c.loop-i.i in
    let old = c.args.held.now.items in
    let inside : i < length old = omega (arith, c.loop-i-test.true, c.len-i-end.ensures) in
    let stay : Entry → Bool = λ e. stays c.args.all c.args.slot (tile_in c.args.squares.now e) in
    let next : suc i ≡ i + 1 = omega arith in
    let P : ℕ → Type 0 = λ n. ClosedUp stay old c.close_one-kept.new.held.items c.args.spare.now.items c.close_one-kept.new.spare.items c.close_one-kept.result n in (
      subst P next
          (closed-step stay old c.loop-i.held.items c.close_one-kept.new.held.items c.args.spare.now.items c.loop-i.spare.items c.close_one-kept.new.spare.items
          c.loop-i.kept i c.close_one-kept.result c.has_stayed-left.result c.index.result.now so inside
          (c.has_stayed-left.ensures ∙ ap stay c.index.ensures) c.close_one-kept.ensures.closes),
      c.close_one-kept.ensures.held_room ∙ c.loop-i.invariant.1,
      c.close_one-kept.ensures.spare_room ∙ c.loop-i.invariant.2,
    )
