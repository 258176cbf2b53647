use Rattle.std.proofs.Common.{◌<◌, [], Some, IsSome, option_map, length, get_or, subst, sym, arith, ap, ◌∙◌}
use Rattle.slab.specs.Slab.{get}
use Rattle.window_table.specs.Entries.{entry_at, refs_in}
use Rattle.window_table.specs.Kept.{entry_in, entries_of, size_in}
use Rattle.window_table.proofs.FindLemmas.{at-among, at-is}
use Rattle.window_table.proofs.RefLemmas.{refs-in-by}
use Rattle.window_table.proofs.table.Table.ref_at.Goals as goal

pub at-requires-clause-slot : goal.at-requires-clause-slot
at-requires-clause-slot c =
    let t = c.self.inside in
    let kept = c.self.invariant.0 in
    let some : IsSome (entry_at c.args.slot (entries_of t.held t.refs.lists t.order.items)) =
    subst (λ v. IsSome (entry_at c.args.slot v.entries)) (sym c.self.view_is) c.requires.held in
    let here = at-among t.held t.refs.lists c.args.slot t.order.items some in
    let is = at-is t.held t.refs.lists c.args.slot t.order.items some in
    omega (arith, kept.below c.args.slot here, kept.slots)

pub at-requires-clause-i : goal.at-requires-clause-i
at-requires-clause-i c =
    let t = c.self.inside in
    let kept = c.self.invariant.0 in
    let some : IsSome (entry_at c.args.slot (entries_of t.held t.refs.lists t.order.items)) =
    subst (λ v. IsSome (entry_at c.args.slot v.entries)) (sym c.self.view_is) c.requires.held in
    let here = at-among t.held t.refs.lists c.args.slot t.order.items some in
    let is = at-is t.held t.refs.lists c.args.slot t.order.items some in
    let refs_is = refs-in-by (size_in (get t.held c.args.slot)) (get_or t.refs.lists c.args.slot []) (kept.unused c.args.slot) in
    let asked = c.requires.i (entry_in t.held t.refs.lists c.args.slot) (ap (λ v. entry_at c.args.slot v.entries) (sym c.self.view_is) ∙ is) in
    subst (λ xs. c.args.i < length xs) refs_is asked

pub returns : goal.returns
returns c =
    let t = c.self.inside in
    let kept = c.self.invariant.0 in
    let some : IsSome (entry_at c.args.slot (entries_of t.held t.refs.lists t.order.items)) =
    subst (λ v. IsSome (entry_at c.args.slot v.entries)) (sym c.self.view_is) c.requires.held in
    let here = at-among t.held t.refs.lists c.args.slot t.order.items some in
    let is = at-is t.held t.refs.lists c.args.slot t.order.items some in
    let refs_is = refs-in-by (size_in (get t.held c.args.slot)) (get_or t.refs.lists c.args.slot []) (kept.unused c.args.slot) in
    ap (λ v. option_map (λ e. get_or (refs_in e.dump) c.args.i 0) (entry_at c.args.slot v.entries)) (sym c.self.view_is)
    ∙ ap (option_map (λ e. get_or (refs_in e.dump) c.args.i 0)) is
    ∙ ap (λ xs. Some (get_or xs c.args.i 0)) refs_is
    ∙ ap Some (sym c.at.ensures)
