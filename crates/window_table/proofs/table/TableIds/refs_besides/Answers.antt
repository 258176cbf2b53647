use Rattle.std.proofs.Common.{◌≡◌, ◌-◌, length, find, Some, None, sym, subst, arith, ap, ◌∙◌}
use Rattle.slab.specs.Slab.{get}
use Rattle.desk_laws.specs.Effects.{refs_besides}
use Rattle.window_table.specs.Entries.{plain_rows}
use Rattle.window_table.specs.Kept.{entries_of, window_of, holds}
use Rattle.window_table.specs.Keys.{RiseFrom, slot_in}
use Rattle.window_table.proofs.IndexLemmas.{index-find}
use Rattle.window_table.proofs.RefLemmas.{besides-known, besides-unknown}
use Rattle.window_table.proofs.AmongLemmas.{found-is}
use Rattle.window_table.proofs.table.TableIds.refs_besides.Goals as goal

pub slot_in-requires-clause-rising : goal.slot_in-requires-clause-rising
slot_in-requires-clause-rising c = subst (RiseFrom 0) (sym c.deref.ensures.value) c.self.invariant.1.1.1.0.rising

pub slot_in-requires-clause-notes : goal.slot_in-requires-clause-notes
slot_in-requires-clause-notes c = ap length c.deref-2.ensures.value ∙ c.self.invariant.1.1.1.1.1

pub count-requires : goal.count-requires
count-requires c =
    let t = c.self.inside in
    let kept = c.self.invariant.0 in
    let found : find (holds t.held c.args.window) t.order.items ≡ Some c.in-Some.slot =
    sym (index-find t.held t.refs.lists t.order.items t.keys.items c.self.invariant.1.1.1.0 c.args.window)
    ∙ ap (slot_in c.args.window) (sym c.deref.ensures.value)
    ∙ sym c.slot_in.ensures
    ∙ c.in-Some.is in
    let there = found-is (λ k. window_of (get t.held k)) c.args.window t.order.items c.in-Some.slot found in
    omega (arith, kept.below c.in-Some.slot there.0, kept.slots)

pub returns-in-Some : goal.returns-in-Some
returns-in-Some c =
    let t = c.self.inside in
    let kept = c.self.invariant.0 in
    let found : find (holds t.held c.args.window) t.order.items ≡ Some c.in-Some.slot =
    sym (index-find t.held t.refs.lists t.order.items t.keys.items c.self.invariant.1.1.1.0 c.args.window)
    ∙ ap (slot_in c.args.window) (sym c.deref.ensures.value)
    ∙ sym c.slot_in.ensures
    ∙ c.in-Some.is in
    let all = besides-known t.held t.refs.lists t.order.items kept c.args.window c.in-Some.slot found in
    let others : c.total.result - c.count.result ≡ refs_besides c.args.window (plain_rows (entries_of t.held t.refs.lists t.order.items)) =
    omega (arith, all, c.total.ensures, c.count.ensures) in
    others ∙ ap (λ v. refs_besides c.args.window (plain_rows v.entries)) c.self.view_is

pub returns-in-None : goal.returns-in-None
returns-in-None c =
    let t = c.self.inside in
    let kept = c.self.invariant.0 in
    let none : find (holds t.held c.args.window) t.order.items ≡ None =
    sym (index-find t.held t.refs.lists t.order.items t.keys.items c.self.invariant.1.1.1.0 c.args.window)
    ∙ ap (slot_in c.args.window) (sym c.deref.ensures.value)
    ∙ sym c.slot_in.ensures
    ∙ c.in-None.is in
    c.total-in-None.ensures
    ∙ sym (besides-unknown t.held t.refs.lists t.order.items kept c.args.window none)
    ∙ ap (λ v. refs_besides c.args.window (plain_rows v.entries)) c.self.view_is
