use Rattle.std.proofs.Common.{◌≡◌, ◌≤◌, ◌+◌, ◌==◌, not, filter, Option, ℕ, [], Some, None, IsSome, is_some, true, if◌then◌else◌, length, set, sum_by, subst, sym, arith, ap, ◌∙◌}
use Rattle.window_table.specs.Entries.{Entry, entry_at, removed}
use Rattle.window_table.specs.Kept.{IsKept, entry_in, entries_of, window_of}
use Rattle.window_table.proofs.FindLemmas.{at-among, at-is}
use Rattle.window_table.specs.Keys.{IsIndex, slot_in}
use Rattle.window_table.proofs.IndexLemmas.{index-known, index-removed}
use Rattle.window_table.proofs.RemoveLemmas.{kept-remove, entries-remove}
use Rattle.window_table.proofs.RefLemmas.{set-none-fits}
use Rattle.window_table.proofs.table.Table.remove.Goals as goal

window_eq : (a b : Entry) → Some a ≡ Some b → a.window ≡ b.window
window_eq a b e = ap (λ o. window_or o) e
  where
    window_or : Option Entry → ℕ
    window_or None = 0
    window_or (Some x) = x.window

pub remove-held-requires : goal.remove-held-requires
remove-held-requires c =
    let t = c.self.inside in
    let kept = c.self.invariant.0 in
    let some : IsSome (entry_at c.args.slot (entries_of t.held t.refs.lists t.order.items)) =
    subst (λ v. IsSome (entry_at c.args.slot v.entries)) (sym c.self.view_is) c.requires in
    let here = at-among t.held t.refs.lists c.args.slot t.order.items some in
    let is = at-is t.held t.refs.lists c.args.slot t.order.items some in
    kept.each c.args.slot here

pub empty-requires : goal.empty-requires
empty-requires c =
    let t = c.self.inside in
    let kept = c.self.invariant.0 in
    let some : IsSome (entry_at c.args.slot (entries_of t.held t.refs.lists t.order.items)) =
    subst (λ v. IsSome (entry_at c.args.slot v.entries)) (sym c.self.view_is) c.requires in
    let here = at-among t.held t.refs.lists c.args.slot t.order.items some in
    let is = at-is t.held t.refs.lists c.args.slot t.order.items some in
    omega (arith, kept.below c.args.slot here, kept.slots)

pub take_out-requires-clause-known : goal.take_out-requires-clause-known
take_out-requires-clause-known c =
    let t = c.self.inside in
    let kept = c.self.invariant.0 in
    let some : IsSome (entry_at c.args.slot (entries_of t.held t.refs.lists t.order.items)) =
    subst (λ v. IsSome (entry_at c.args.slot v.entries)) (sym c.self.view_is) c.requires in
    let is = at-is t.held t.refs.lists c.args.slot t.order.items some in
    subst (λ n. is_some (slot_in n t.keys.items) ≡ true) (ap window_of c.remove-held.ensures.value)
    (index-known (entries_of t.held t.refs.lists t.order.items) c.args.slot (entry_in t.held t.refs.lists c.args.slot) t.keys.items
    c.self.invariant.1.1.1.0 is)

pub invariant_of-self : goal.invariant_of-self
invariant_of-self c =
    let t = c.self.inside in
    let kept = c.self.invariant.0 in
    let some : IsSome (entry_at c.args.slot (entries_of t.held t.refs.lists t.order.items)) =
    subst (λ v. IsSome (entry_at c.args.slot v.entries)) (sym c.self.view_is) c.requires in
    let here = at-among t.held t.refs.lists c.args.slot t.order.items some in
    let is = at-is t.held t.refs.lists c.args.slot t.order.items some in
    let lists : c.empty.new.self.lists ≡ set t.refs.lists c.args.slot [] = ap (λ r. r.lists) c.empty.ensures in (
      subst (λ o. IsKept c.forget.new.held c.empty.new.self.lists o) (sym c.leave.ensures.items)
          (subst (λ ls. IsKept c.forget.new.held ls (filter (λ k. not (k == c.args.slot)) t.order.items)) (sym lists)
          (kept-remove t.held c.remove-held.new.self c.forget.new.held t.refs.lists t.order.items c.args.slot c.remove-held.result.window
          kept here c.remove-held.ensures.updates c.forget.ensures.each
          (c.forget.ensures.capacity ∙ c.remove-held.ensures.capacity)
          (ap (λ n. n + 1) c.forget.ensures.len ∙ c.remove-held.ensures.len))),
      (
        c.leave.ensures.capacity ∙ c.self.invariant.1.0,
        (
          subst (λ r. sum_by length r.lists ≤ r.pages) (sym c.empty.ensures)
              (set-none-fits t.held t.refs.lists t.order.items kept c.args.slot t.refs.pages here c.self.invariant.1.1.0),
          (
            subst (λ o. IsIndex (entries_of c.forget.new.held c.empty.new.self.lists o) c.take_out.new.keys.items) (sym c.leave.ensures.items)
                (subst (λ ls. IsIndex (entries_of c.forget.new.held ls (filter (λ k. not (k == c.args.slot)) t.order.items)) c.take_out.new.keys.items) (sym lists)
                (subst (λ es. IsIndex es c.take_out.new.keys.items)
                (sym (entries-remove t.held c.remove-held.new.self c.forget.new.held t.refs.lists t.order.items c.args.slot c.remove-held.result.window
                kept here c.remove-held.ensures.updates c.forget.ensures.each t.order.items))
                (subst (λ n. IsIndex (removed c.args.slot n (entries_of t.held t.refs.lists t.order.items)) c.take_out.new.keys.items)
                (ap window_of c.remove-held.ensures.value)
                (index-removed (entries_of t.held t.refs.lists t.order.items) c.args.slot (entry_in t.held t.refs.lists c.args.slot)
                t.keys.items c.take_out.new.keys.items c.self.invariant.1.1.1.0 kept.apart is c.take_out.ensures.rising c.take_out.ensures.len
                (subst (λ n. (w : ℕ) → slot_in w c.take_out.new.keys.items ≡ (if n == w then None else slot_in w t.keys.items))
                (sym (ap window_of c.remove-held.ensures.value)) c.take_out.ensures.slots))))),
            (omega (arith, c.take_out.ensures.capacity, c.self.invariant.1.1.1.1.0), c.note_all.ensures),
          ),
        ),
      ),
    )

pub returns : goal.returns
returns c = λ e found.
    let t = c.self.inside in
    let kept = c.self.invariant.0 in
    let some : IsSome (entry_at c.args.slot (entries_of t.held t.refs.lists t.order.items)) =
    subst (λ v. IsSome (entry_at c.args.slot v.entries)) (sym c.self.view_is) c.requires in
    let here = at-among t.held t.refs.lists c.args.slot t.order.items some in
    let is = at-is t.held t.refs.lists c.args.slot t.order.items some in
    let lists : c.empty.new.self.lists ≡ set t.refs.lists c.args.slot [] = ap (λ r. r.lists) c.empty.ensures in
    let one : Some (entry_in t.held t.refs.lists c.args.slot) ≡ Some e =
    sym is ∙ ap (λ v. entry_at c.args.slot v.entries) c.self.view_is ∙ found in
    let window : c.remove-held.result.window ≡ e.window =
    sym (ap window_of c.remove-held.ensures.value) ∙ window_eq (entry_in t.held t.refs.lists c.args.slot) e one in
    ap (λ r. record { pages = r.pages; entries = entries_of c.forget.new.held r.lists c.leave.new.order.items }) c.empty.ensures
    ∙ ap (λ o. record { pages = t.refs.pages; entries = entries_of c.forget.new.held (set t.refs.lists c.args.slot []) o }) c.leave.ensures.items
    ∙ ap (λ es. record { pages = t.refs.pages; entries = es })
    (entries-remove t.held c.remove-held.new.self c.forget.new.held t.refs.lists t.order.items c.args.slot c.remove-held.result.window
    kept here c.remove-held.ensures.updates c.forget.ensures.each t.order.items)
    ∙ ap (λ n. record { pages = t.refs.pages; entries = removed c.args.slot n (entries_of t.held t.refs.lists t.order.items) }) window
    ∙ ap (λ v. record { pages = v.pages; entries = removed c.args.slot e.window v.entries }) c.self.view_is
