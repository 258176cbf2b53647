use Rattle.std.proofs.Common.{[], Some, IsSome, option_map, get_or, subst, sym, ap, ◌∙◌}
use Rattle.slab.specs.Slab.{get}
use Rattle.window_table.specs.Entries.{entry_at, size_of_dump}
use Rattle.window_table.specs.Kept.{entries_of, size_in}
use Rattle.window_table.proofs.FindLemmas.{at-among, at-is}
use Rattle.window_table.proofs.RefLemmas.{size-back}
use Rattle.window_table.proofs.table.Table.dump_at.Goals as goal

pub index-requires : goal.index-requires
index-requires c =
    let t = c.self.inside in
    let kept = c.self.invariant.0 in
    let some : IsSome (entry_at c.args.slot (entries_of t.held t.refs.lists t.order.items)) =
    subst (λ v. IsSome (entry_at c.args.slot v.entries)) (sym c.self.view_is) c.requires in
    let here = at-among t.held t.refs.lists c.args.slot t.order.items some in
    let is = at-is t.held t.refs.lists c.args.slot t.order.items some in
    kept.each c.args.slot here

pub returns : goal.returns
returns c =
    let t = c.self.inside in
    let kept = c.self.invariant.0 in
    let some : IsSome (entry_at c.args.slot (entries_of t.held t.refs.lists t.order.items)) =
    subst (λ v. IsSome (entry_at c.args.slot v.entries)) (sym c.self.view_is) c.requires in
    let here = at-among t.held t.refs.lists c.args.slot t.order.items some in
    let is = at-is t.held t.refs.lists c.args.slot t.order.items some in
    ap (λ v. option_map (λ e. size_of_dump e.dump) (entry_at c.args.slot v.entries)) (sym c.self.view_is)
    ∙ ap (option_map (λ e. size_of_dump e.dump)) is
    ∙ ap Some (size-back (size_in (get t.held c.args.slot)) (get_or t.refs.lists c.args.slot []))
    ∙ ap (λ o. Some (size_in o)) c.index.ensures
