use Rattle.std.proofs.Common.{◌≡◌, [], replicate, ◌+◌, ap, sym, ◌∙◌, subst, arith}
use Rattle.window_table.specs.Parts.{AreCuts, parts, no_lists}
use Rattle.window_table.proofs.CutLemmas.{cuts-none, parts-none}
use Rattle.window_table.proofs.ref_lists.RefLists.new.Goals as goal

pub invariant_of-result : goal.invariant_of-result
invariant_of-result c =
    let none : c.in_ok-items.items.items ≡ [] = c.in_ok-items.ensures.items in
    let zeros : c.in_ok-places.places.items ≡ replicate (c.args.slots + 1) 0 = c.in_ok-places.ensures.items_if_clones_equal (λ y h. h) in (
      subst (λ xs. AreCuts xs c.in_ok-places.places.items c.args.pages) (sym none)
          (subst (λ ps. AreCuts [] ps c.args.pages) (sym zeros) (cuts-none c.args.slots c.args.pages (omega (arith, c.ranges.pages.fits)))),
      omega (arith, c.in_ok-items.ensures.exact),
    )

pub returns : goal.returns
unfolding no_lists
returns c =
    let none : c.in_ok-items.items.items ≡ [] = c.in_ok-items.ensures.items in
    let zeros : c.in_ok-places.places.items ≡ replicate (c.args.slots + 1) 0 = c.in_ok-places.ensures.items_if_clones_equal (λ y h. h) in
    let lists : parts c.in_ok-items.items.items c.in_ok-places.places.items ≡ no_lists c.args.slots =
    ap (λ xs. parts xs c.in_ok-places.places.items) none ∙ ap (parts []) zeros ∙ parts-none c.args.slots in
    ap (λ ls. record { pages = c.args.pages; lists = ls }) lists
