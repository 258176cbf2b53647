use Rattle.std.proofs.Common.{◌<◌, ◌+◌, [], length, get_or, subst, sym, arith, ap, ◌∙◌}
use Rattle.std.proofs.lemmas.List.{get_or_read}
use Rattle.window_table.proofs.CutLemmas.{place-inside, part-place, part-at}
use Rattle.window_table.proofs.ref_lists.RefLists.at.Goals as goal

pub index-requires : goal.index-requires
index-requires c =
    let s = c.self.inside in
    let slot = subst (λ v. c.args.slot < length v.lists) (sym c.self.view_is) c.requires.slot in
    let inside = place-inside s.items.items s.places.items s.pages c.self.invariant.0 c.args.slot slot in
    omega (arith, inside, s.places.ok.0)

pub overflow_add-index : goal.overflow_add-index
overflow_add-index c =
    let s = c.self.inside in
    let slot = subst (λ v. c.args.slot < length v.lists) (sym c.self.view_is) c.requires.slot in
    let i = subst (λ v. c.args.i < length (get_or v.lists c.args.slot [])) (sym c.self.view_is) c.requires.i in
    let inside = place-inside s.items.items s.places.items s.pages c.self.invariant.0 c.args.slot slot in
    let at = get_or_read s.places.items c.args.slot c.index.result.now (omega (arith, inside)) c.index.ensures 0 in
    let place = part-place s.items.items s.places.items s.pages c.self.invariant.0 c.args.slot c.args.i slot i in
    let fits = c.self.invariant.0.fits in
    let small = c.self.invariant.0.small in
    omega (arith, at, place, fits, small)

pub index-requires-2 : goal.index-requires-2
index-requires-2 c =
    let s = c.self.inside in
    let slot = subst (λ v. c.args.slot < length v.lists) (sym c.self.view_is) c.requires.slot in
    let i = subst (λ v. c.args.i < length (get_or v.lists c.args.slot [])) (sym c.self.view_is) c.requires.i in
    let inside = place-inside s.items.items s.places.items s.pages c.self.invariant.0 c.args.slot slot in
    let at = get_or_read s.places.items c.args.slot c.index.result.now (omega (arith, inside)) c.index.ensures 0 in
    let place = part-place s.items.items s.places.items s.pages c.self.invariant.0 c.args.slot c.args.i slot i in
    omega (arith, at, place, s.items.ok.0)

pub returns : goal.returns
returns c =
    let s = c.self.inside in
    let slot = subst (λ v. c.args.slot < length v.lists) (sym c.self.view_is) c.requires.slot in
    let i = subst (λ v. c.args.i < length (get_or v.lists c.args.slot [])) (sym c.self.view_is) c.requires.i in
    let inside = place-inside s.items.items s.places.items s.pages c.self.invariant.0 c.args.slot slot in
    let at = get_or_read s.places.items c.args.slot c.index.result.now (omega (arith, inside)) c.index.ensures 0 in
    let place = part-place s.items.items s.places.items s.pages c.self.invariant.0 c.args.slot c.args.i slot i in
    let read = get_or_read s.items.items (c.index.result.now + c.args.i) c.index-2.result.now (omega (arith, at, place)) c.index-2.ensures 0 in
    read
    ∙ ap (λ p. get_or s.items.items (p + c.args.i) 0) at
    ∙ part-at s.items.items s.places.items s.pages c.self.invariant.0 c.args.slot c.args.i slot i
    ∙ ap (λ v. get_or (get_or v.lists c.args.slot []) c.args.i 0) c.self.view_is
