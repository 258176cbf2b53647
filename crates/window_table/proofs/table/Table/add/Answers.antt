use Rattle.std.proofs.Common.{◌≡◌, ◌<◌, false, [], ◌∷◌, ◌++◌, is_some, Some, None, length, subst, sym, arith, ap, ◌∙◌}
use Rattle.std.proofs.lemmas.List.{length-map}
use Rattle.window_table.specs.Entries.{entry_at, entry_with, new_entry}
use Rattle.window_table.specs.Kept.{IsKept, entry_of, entry_in, entries_of}
use Rattle.window_table.specs.declared.held.Held.{Held}
use Rattle.window_table.specs.Keys.{IsIndex}
use Rattle.window_table.proofs.IndexLemmas.{index-added}
use Rattle.window_table.proofs.AddLemmas.{kept-add, entries-add, new-free}
use Rattle.window_table.proofs.table.Table.add.Goals as goal

pub invariant_of-self : goal.invariant_of-self
invariant_of-self c =
    let t = c.self.inside in
    let kept = c.self.invariant.0 in
    let h : Held = record { window = c.args.window; size = None; pane = c.pane_of.result } in
    let room : length (entries_of t.held t.refs.lists t.order.items) < 1024 =
    subst (λ v. length v.entries < 1024) (sym c.self.view_is) c.requires.room in
    let unknown : is_some (entry_with c.args.window (entries_of t.held t.refs.lists t.order.items)) ≡ false =
    ap (λ v. is_some (entry_with c.args.window v.entries)) c.self.view_is ∙ c.requires.unknown in
    let order : c.push_reserved.new.self.items ≡ t.order.items ++ c.insert_reserved-slot.result ∷ [] = c.push_reserved.ensures.items in (
      subst (λ o. IsKept c.insert_reserved-slot.new.self t.refs.lists o) (sym order)
          (kept-add t.held c.insert_reserved-slot.new.self t.refs.lists t.order.items c.insert_reserved-slot.result h kept
          c.insert_reserved-slot.ensures.was_vacant c.insert_reserved-slot.ensures.updates
          c.insert_reserved-slot.ensures.capacity c.insert_reserved-slot.ensures.len
          (omega (arith, c.insert_reserved-slot.ensures.key_in_range, c.insert_reserved-slot.ensures.capacity, kept.capacity))
          (omega (arith, room, length-map t.order.items (entry_in t.held t.refs.lists)))
          unknown),
      (
        c.push_reserved.ensures.capacity ∙ c.self.invariant.1.0,
        (
          c.self.invariant.1.1.0,
          (
            subst (λ o. IsIndex (entries_of c.insert_reserved-slot.new.self t.refs.lists o) c.put_in.new.keys.items) (sym order)
                (subst (λ es. IsIndex es c.put_in.new.keys.items)
                (sym (entries-add t.held c.insert_reserved-slot.new.self t.refs.lists t.order.items c.insert_reserved-slot.result h kept
                c.insert_reserved-slot.ensures.was_vacant c.insert_reserved-slot.ensures.updates))
                (index-added (entries_of t.held t.refs.lists t.order.items) (entry_of c.insert_reserved-slot.result (Some h) [])
                t.keys.items c.put_in.new.keys.items c.self.invariant.1.1.1.0 unknown c.put_in.ensures.rising c.put_in.ensures.len c.put_in.ensures.slots)),
            (omega (arith, c.put_in.ensures.capacity, c.self.invariant.1.1.1.1.0), c.note_all.ensures),
          ),
        ),
      ),
    )

pub returns-clause-vacant : goal.returns-clause-vacant
returns-clause-vacant c =
    let t = c.self.inside in
    let kept = c.self.invariant.0 in
    let h : Held = record { window = c.args.window; size = None; pane = c.pane_of.result } in
    ap (λ v. is_some (entry_at c.insert_reserved-slot.result v.entries)) (sym c.self.view_is)
    ∙ new-free t.held c.insert_reserved-slot.new.self t.refs.lists t.order.items c.insert_reserved-slot.result h kept
    c.insert_reserved-slot.ensures.was_vacant c.insert_reserved-slot.ensures.updates

pub returns-clause-added : goal.returns-clause-added
returns-clause-added c =
    let t = c.self.inside in
    let kept = c.self.invariant.0 in
    let h : Held = record { window = c.args.window; size = None; pane = c.pane_of.result } in
    let order : c.push_reserved.new.self.items ≡ t.order.items ++ c.insert_reserved-slot.result ∷ [] = c.push_reserved.ensures.items in
    ap (λ o. record { pages = t.refs.pages; entries = entries_of c.insert_reserved-slot.new.self t.refs.lists o }) order
    ∙ ap (λ es. record { pages = t.refs.pages; entries = es })
    (entries-add t.held c.insert_reserved-slot.new.self t.refs.lists t.order.items c.insert_reserved-slot.result h kept
    c.insert_reserved-slot.ensures.was_vacant c.insert_reserved-slot.ensures.updates)
    ∙ ap (λ p. record {
      pages = t.refs.pages;
      entries = entries_of t.held t.refs.lists t.order.items ++ record { slot = c.insert_reserved-slot.result; window = c.args.window; dump = None; pane = p } ∷ [];
    }) c.pane_of.ensures
    ∙ ap (λ v. record {
      pages = v.pages;
      entries = v.entries ++ new_entry c.insert_reserved-slot.result c.args.window c.args.place c.args.parent c.args.asked ∷ [];
    }) c.self.view_is
