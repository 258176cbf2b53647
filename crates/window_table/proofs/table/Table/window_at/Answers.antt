use Rattle.std.proofs.Common.{Some, IsSome, option_map, subst, sym, ap, ◌∙◌}
use Rattle.window_table.specs.Entries.{entry_at}
use Rattle.window_table.specs.Kept.{entries_of, window_of}
use Rattle.window_table.proofs.FindLemmas.{at-among, at-is}
use Rattle.window_table.proofs.table.Table.window_at.Goals as goal

pub index-requires : goal.index-requires
index-requires c =
    let t = c.self.inside in
    let kept = c.self.invariant.0 in
    let some : IsSome (entry_at c.args.slot (entries_of t.held t.refs.lists t.order.items)) =
    subst (λ v. IsSome (entry_at c.args.slot v.entries)) (sym c.self.view_is) c.requires in
    let here = at-among t.held t.refs.lists c.args.slot t.order.items some in
    let is = at-is t.held t.refs.lists c.args.slot t.order.items some in
    kept.each c.args.slot here

pub returns : goal.returns
returns c =
    let t = c.self.inside in
    let kept = c.self.invariant.0 in
    let some : IsSome (entry_at c.args.slot (entries_of t.held t.refs.lists t.order.items)) =
    subst (λ v. IsSome (entry_at c.args.slot v.entries)) (sym c.self.view_is) c.requires in
    let here = at-among t.held t.refs.lists c.args.slot t.order.items some in
    let is = at-is t.held t.refs.lists c.args.slot t.order.items some in
    ap (λ v. option_map (λ e. e.window) (entry_at c.args.slot v.entries)) (sym c.self.view_is)
    ∙ ap (option_map (λ e. e.window)) is
    ∙ ap (λ o. Some (window_of o)) c.index.ensures
