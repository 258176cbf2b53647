use Rattle.std.proofs.Common.{◌≡◌, ◌≤◌, ◌+◌, Some, IsSome, length, sum_by, subst, sym, arith, ap, refl, ◌∙◌}
use Rattle.desk_laws.specs.Rows.{DumpOf}
use Rattle.window_table.specs.declared.pane.DumpSize.{DumpSize}
use Rattle.gui_wire.specs.Seen.{references}
use Rattle.slab.specs.Slab.{get, with_value}
use Rattle.desk_laws.specs.Effects.{refs_besides}
use Rattle.window_table.specs.Entries.{Entry, entry_at, updated, with_dump, plain_rows}
use Rattle.window_table.specs.Kept.{IsKept, entry_in, entries_of, window_of}
use Rattle.window_table.proofs.FindLemmas.{at-among, at-is}
use Rattle.window_table.proofs.RefLemmas.{set-fits}
use Rattle.window_table.specs.Keys.{IsIndex}
use Rattle.window_table.proofs.IndexLemmas.{index-updated}
use Rattle.window_table.proofs.EditLemmas.{kept-dump, entries-dump}
use Rattle.window_table.proofs.table.Table.set_refs.Goals as goal

pub set-requires-clause-slot : goal.set-requires-clause-slot
set-requires-clause-slot c =
    let t = c.self.inside in
    let kept = c.self.invariant.0 in
    let some : IsSome (entry_at c.args.slot (entries_of t.held t.refs.lists t.order.items)) =
    subst (λ v. IsSome (entry_at c.args.slot v.entries)) (sym c.self.view_is) c.requires.held in
    let here = at-among t.held t.refs.lists c.args.slot t.order.items some in
    let is = at-is t.held t.refs.lists c.args.slot t.order.items some in
    omega (arith, kept.below c.args.slot here, kept.slots)

pub set-requires-clause-fits : goal.set-requires-clause-fits
set-requires-clause-fits c =
    let t = c.self.inside in
    let kept = c.self.invariant.0 in
    let some : IsSome (entry_at c.args.slot (entries_of t.held t.refs.lists t.order.items)) =
    subst (λ v. IsSome (entry_at c.args.slot v.entries)) (sym c.self.view_is) c.requires.held in
    let here = at-among t.held t.refs.lists c.args.slot t.order.items some in
    let is = at-is t.held t.refs.lists c.args.slot t.order.items some in
    let new = references c.args.refs.now in
    let fits : refs_besides (window_of (get t.held c.args.slot)) (plain_rows (entries_of t.held t.refs.lists t.order.items)) + length new ≤ t.refs.pages =
    subst (λ v. (e : Entry) → entry_at c.args.slot v.entries ≡ Some e → refs_besides e.window (plain_rows v.entries) + length new ≤ v.pages)
    (sym c.self.view_is) c.requires.fits (entry_in t.held t.refs.lists c.args.slot) is in
    set-fits t.held t.refs.lists t.order.items kept c.args.slot t.refs.pages new here fits

pub index_mut-held-requires : goal.index_mut-held-requires
index_mut-held-requires c =
    let t = c.self.inside in
    let kept = c.self.invariant.0 in
    let some : IsSome (entry_at c.args.slot (entries_of t.held t.refs.lists t.order.items)) =
    subst (λ v. IsSome (entry_at c.args.slot v.entries)) (sym c.self.view_is) c.requires.held in
    let here = at-among t.held t.refs.lists c.args.slot t.order.items some in
    let is = at-is t.held t.refs.lists c.args.slot t.order.items some in
    kept.each c.args.slot here

pub invariant_of-self : goal.invariant_of-self
invariant_of-self c =
    let t = c.self.inside in
    let kept = c.self.invariant.0 in
    let some : IsSome (entry_at c.args.slot (entries_of t.held t.refs.lists t.order.items)) =
    subst (λ v. IsSome (entry_at c.args.slot v.entries)) (sym c.self.view_is) c.requires.held in
    let here = at-among t.held t.refs.lists c.args.slot t.order.items some in
    let is = at-is t.held t.refs.lists c.args.slot t.order.items some in
    let new = references c.args.refs.now in
    let size : DumpSize = record { width = c.args.width; height = c.args.height } in
    let fits : refs_besides (window_of (get t.held c.args.slot)) (plain_rows (entries_of t.held t.refs.lists t.order.items)) + length new ≤ t.refs.pages =
    subst (λ v. (e : Entry) → entry_at c.args.slot v.entries ≡ Some e → refs_besides e.window (plain_rows v.entries) + length new ≤ v.pages)
    (sym c.self.view_is) c.requires.fits (entry_in t.held t.refs.lists c.args.slot) is in
    let dump : DumpOf = record { width = c.args.width; height = c.args.height; refs = new } in
    let h = c.index_mut-held.result.now in (
      subst (λ r. IsKept (with_value t.held c.args.slot (record h { size = Some size })) r.lists t.order.items) (sym c.set.ensures)
          (kept-dump t.held t.refs.lists t.order.items c.args.slot h kept here c.index_mut-held.ensures.value size new),
      (
        c.self.invariant.1.0,
        (
          subst (λ r. sum_by length r.lists ≤ r.pages) (sym c.set.ensures)
              (set-fits t.held t.refs.lists t.order.items kept c.args.slot t.refs.pages new here fits),
          (
            subst (λ r. IsIndex (entries_of (with_value t.held c.args.slot (record h { size = Some size })) r.lists t.order.items) t.keys.items) (sym c.set.ensures)
                (subst (λ es. IsIndex es t.keys.items)
                (sym (entries-dump t.held t.refs.lists t.order.items c.args.slot h kept here c.index_mut-held.ensures.value size new))
                (index-updated c.args.slot (with_dump dump) (λ e. refl) (λ e. refl) (entries_of t.held t.refs.lists t.order.items) t.keys.items c.self.invariant.1.1.1.0)),
            c.self.invariant.1.1.1.1,
          ),
        ),
      ),
    )

pub returns : goal.returns
returns c =
    let t = c.self.inside in
    let kept = c.self.invariant.0 in
    let some : IsSome (entry_at c.args.slot (entries_of t.held t.refs.lists t.order.items)) =
    subst (λ v. IsSome (entry_at c.args.slot v.entries)) (sym c.self.view_is) c.requires.held in
    let here = at-among t.held t.refs.lists c.args.slot t.order.items some in
    let is = at-is t.held t.refs.lists c.args.slot t.order.items some in
    let new = references c.args.refs.now in
    let size : DumpSize = record { width = c.args.width; height = c.args.height } in
    let h = c.index_mut-held.result.now in
    let held = with_value t.held c.args.slot (record h { size = Some size }) in
    let dump : DumpOf = record { width = c.args.width; height = c.args.height; refs = new } in
    ap (λ r. record { pages = r.pages; entries = entries_of held r.lists t.order.items }) c.set.ensures
    ∙ ap (λ es. record { pages = t.refs.pages; entries = es })
    (entries-dump t.held t.refs.lists t.order.items c.args.slot h kept here c.index_mut-held.ensures.value size new)
    ∙ ap (λ v. record { pages = v.pages; entries = updated c.args.slot (with_dump dump) v.entries }) c.self.view_is
