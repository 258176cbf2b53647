use Rattle.std.proofs.Common.{Some, IsSome, option_map, subst, sym, ap, refl, ◌∙◌}
use Rattle.window_table.specs.Entries.{entry_at, updated, with_pane}
use Rattle.window_table.specs.Kept.{entries_of, pane_in}
use Rattle.window_table.proofs.FindLemmas.{at-among, at-is}
use Rattle.window_table.specs.Keys.{IsIndex}
use Rattle.window_table.proofs.IndexLemmas.{index-updated}
use Rattle.window_table.proofs.EditLemmas.{kept-pane, entries-pane}
use Rattle.window_table.proofs.table.Table.get_mut.Goals as goal

pub index_mut-held-requires : goal.index_mut-held-requires
index_mut-held-requires c =
    let t = c.self.inside in
    let kept = c.self.invariant.0 in
    let some : IsSome (entry_at c.args.slot (entries_of t.held t.refs.lists t.order.items)) =
    subst (λ v. IsSome (entry_at c.args.slot v.entries)) (sym c.self.view_is) c.requires in
    let here = at-among t.held t.refs.lists c.args.slot t.order.items some in
    let is = at-is t.held t.refs.lists c.args.slot t.order.items some in
    kept.each c.args.slot here

pub invariant_of-self-lent : goal.invariant_of-self-lent
invariant_of-self-lent c =
    let t = c.self.inside in
    let kept = c.self.invariant.0 in
    let some : IsSome (entry_at c.args.slot (entries_of t.held t.refs.lists t.order.items)) =
    subst (λ v. IsSome (entry_at c.args.slot v.entries)) (sym c.self.view_is) c.requires in
    let here = at-among t.held t.refs.lists c.args.slot t.order.items some in
    let is = at-is t.held t.refs.lists c.args.slot t.order.items some in
    λ w. (
      kept-pane t.held t.refs.lists t.order.items c.args.slot c.index_mut-held.result.now kept here c.index_mut-held.ensures.value w,
      (
        c.self.invariant.1.0,
        (
          c.self.invariant.1.1.0,
          (
            subst (λ es. IsIndex es t.keys.items)
                (sym (entries-pane t.held t.refs.lists t.order.items c.args.slot c.index_mut-held.result.now kept here c.index_mut-held.ensures.value w))
                (index-updated c.args.slot (with_pane w) (λ e. refl) (λ e. refl) (entries_of t.held t.refs.lists t.order.items) t.keys.items c.self.invariant.1.1.1.0),
            c.self.invariant.1.1.1.1,
          ),
        ),
      ),
    )

pub returns : goal.returns
returns c =
    let t = c.self.inside in
    let kept = c.self.invariant.0 in
    let some : IsSome (entry_at c.args.slot (entries_of t.held t.refs.lists t.order.items)) =
    subst (λ v. IsSome (entry_at c.args.slot v.entries)) (sym c.self.view_is) c.requires in
    let here = at-among t.held t.refs.lists c.args.slot t.order.items some in
    let is = at-is t.held t.refs.lists c.args.slot t.order.items some in
    let value = c.index_mut-held.ensures.value in (
      (
        refl,
        λ w. ap (λ es. record { pages = t.refs.pages; entries = es })
            (entries-pane t.held t.refs.lists t.order.items c.args.slot c.index_mut-held.result.now kept here value w)
            ∙ ap (λ v. record { pages = v.pages; entries = updated c.args.slot (with_pane w) v.entries }) c.self.view_is,
      ),
      record {
        lent = tt;
        pane = ap (λ v. option_map (λ e. e.pane) (entry_at c.args.slot v.entries)) (sym c.self.view_is)
            ∙ ap (option_map (λ e. e.pane)) is
            ∙ ap (λ o. Some (pane_in o)) value;
      },
    )
