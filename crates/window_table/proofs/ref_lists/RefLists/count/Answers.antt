use Rattle.std.proofs.Common.{◌<◌, ◌+◌, ◌-◌, [], length, get_or, subst, sym, arith, ap, ◌∙◌}
use Rattle.std.proofs.lemmas.List.{get_or_read}
use Rattle.window_table.proofs.CutLemmas.{place-inside, place-le, length-part}
use Rattle.window_table.proofs.ref_lists.RefLists.count.Goals as goal

pub overflow_add-slot : goal.overflow_add-slot
overflow_add-slot c =
    let s = c.self.inside in
    let slot = subst (λ v. c.args.slot < length v.lists) (sym c.self.view_is) c.requires in
    let inside = place-inside s.items.items s.places.items s.pages c.self.invariant.0 c.args.slot slot in
    omega (arith, inside, s.places.ok.0, s.places.small)

pub index-requires : goal.index-requires
index-requires c =
    let s = c.self.inside in
    let slot = subst (λ v. c.args.slot < length v.lists) (sym c.self.view_is) c.requires in
    let inside = place-inside s.items.items s.places.items s.pages c.self.invariant.0 c.args.slot slot in
    omega (arith, inside, s.places.ok.0)

pub index-requires-2 : goal.index-requires-2
index-requires-2 c =
    let s = c.self.inside in
    let slot = subst (λ v. c.args.slot < length v.lists) (sym c.self.view_is) c.requires in
    let inside = place-inside s.items.items s.places.items s.pages c.self.invariant.0 c.args.slot slot in
    omega (arith, inside, s.places.ok.0)

pub overflow_sub-result : goal.overflow_sub-result
overflow_sub-result c =
    let s = c.self.inside in
    let slot = subst (λ v. c.args.slot < length v.lists) (sym c.self.view_is) c.requires in
    let inside = place-inside s.items.items s.places.items s.pages c.self.invariant.0 c.args.slot slot in
    let to = get_or_read s.places.items (c.args.slot + 1) c.index.result.now (omega (arith, inside)) c.index.ensures 0 in
    let from = get_or_read s.places.items c.args.slot c.index-2.result.now (omega (arith, inside)) c.index-2.ensures 0 in
    let le = place-le s.items.items s.places.items s.pages c.self.invariant.0 c.args.slot (c.args.slot + 1) (omega arith) inside in
    omega (arith, to, from, le)

pub returns : goal.returns
returns c =
    let s = c.self.inside in
    let slot = subst (λ v. c.args.slot < length v.lists) (sym c.self.view_is) c.requires in
    let inside = place-inside s.items.items s.places.items s.pages c.self.invariant.0 c.args.slot slot in
    let to = get_or_read s.places.items (c.args.slot + 1) c.index.result.now (omega (arith, inside)) c.index.ensures 0 in
    let from = get_or_read s.places.items c.args.slot c.index-2.result.now (omega (arith, inside)) c.index-2.ensures 0 in
    ap (λ n. n - c.index-2.result.now) to
    ∙ ap (λ n. get_or s.places.items (c.args.slot + 1) 0 - n) from
    ∙ length-part s.items.items s.places.items s.pages c.self.invariant.0 c.args.slot slot
    ∙ ap (λ v. length (get_or v.lists c.args.slot [])) c.self.view_is
