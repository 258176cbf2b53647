use Rattle.std.proofs.Common.{◌≡◌, ◌≤◌, ℕ, IfSome, is_some, length, find, option_map, subst, sym, arith, ap, ◌∙◌}
use Rattle.desk_laws.specs.Effects.{refs_besides}
use Rattle.window_table.specs.Entries.{entry_at, entry_with, plain_rows}
use Rattle.window_table.specs.Kept.{holds}
use Rattle.window_table.specs.Keys.{RiseFrom, slot_in}
use Rattle.window_table.proofs.IndexLemmas.{index-find}
use Rattle.window_table.proofs.FindLemmas.{same-entry, known-entry}
use Rattle.window_table.proofs.RefLemmas.{besides-le}
use Rattle.window_table.proofs.table.Table.slot_of.Goals as goal

pub slot_in-requires-clause-rising : goal.slot_in-requires-clause-rising
slot_in-requires-clause-rising c = subst (RiseFrom 0) (sym c.deref.ensures.value) c.self.invariant.1.1.1.0.rising

pub slot_in-requires-clause-notes : goal.slot_in-requires-clause-notes
slot_in-requires-clause-notes c = ap length c.deref-2.ensures.value ∙ c.self.invariant.1.1.1.1.1

pub returns-clause-slot : goal.returns-clause-slot
returns-clause-slot c =
    let t = c.self.inside in
    c.slot_in.ensures
    ∙ ap (slot_in c.args.window) c.deref.ensures.value
    ∙ c.self.invariant.1.1.1.0.slots c.args.window
    ∙ ap (λ v. option_map (λ e. e.slot) (entry_with c.args.window v.entries)) c.self.view_is

pub returns-clause-held : goal.returns-clause-held
returns-clause-held c =
    let t = c.self.inside in
    subst (λ v. (other : ℕ) → refs_besides other (plain_rows v.entries) ≤ v.pages) c.self.view_is
    (λ other. let le = besides-le t.held t.refs.lists t.order.items c.self.invariant.0 other in omega (arith, le, c.self.invariant.1.1.0))

pub returns-clause-known : goal.returns-clause-known
returns-clause-known c =
    let t = c.self.inside in
    let found : c.slot_in.result ≡ find (holds t.held c.args.window) t.order.items =
    c.slot_in.ensures
    ∙ ap (slot_in c.args.window) c.deref.ensures.value
    ∙ index-find t.held t.refs.lists t.order.items t.keys.items c.self.invariant.1.1.1.0 c.args.window in
    ap (λ v. is_some (entry_with c.args.window v.entries)) (sym c.self.view_is)
    ∙ known-entry t.held t.refs.lists t.order.items c.args.window
    ∙ ap is_some (sym found)

pub returns-clause-same : goal.returns-clause-same
returns-clause-same c =
    let t = c.self.inside in
    let found : c.slot_in.result ≡ find (holds t.held c.args.window) t.order.items =
    c.slot_in.ensures
    ∙ ap (slot_in c.args.window) c.deref.ensures.value
    ∙ index-find t.held t.refs.lists t.order.items t.keys.items c.self.invariant.1.1.1.0 c.args.window in
    subst (λ v. IfSome c.slot_in.result (λ slot. entry_at slot v.entries ≡ entry_with c.args.window v.entries)) c.self.view_is
    (same-entry t.held t.refs.lists t.order.items c.args.window c.slot_in.result found)
