use Rattle.std.proofs.Common.{◌≡◌, ◌∙◌, Some, None, refl, sym, ap, subst}
use Rattle.std.specs.Prelude.{ℕ}
use Rattle.gui_wire.specs.Seen.{references}
use Rattle.desk_laws.specs.Ranges.{IsPlace}
use Rattle.window_table.specs.Entries as entries
use Rattle.window_table.specs.Entries.{Entry, TableView}
use Rattle.guest_session.specs.RowsView.{FitsDump, RowsView, StaysInside, with_row, with_dump}
use Rattle.guest_session.proofs.TableLemmas.{has_slot}
use Rattle.guest_session.proofs.KeptLemmas.{kept-at, kept-updated, viewed-updated, row-is, row-none, dump-fits}
use Rattle.guest_session.proofs.rows.Rows.set_dump.Goals as goal

pub set_refs-requires-clause-held : goal.set_refs-requires-clause-held
set_refs-requires-clause-held c =
    let h = has_slot c.args.window c.in-Some.slot c.self.inside.table.entries c.slot_of.ensures.apart c.in-Some.ensures.slot in
    rw h.at_slot refl

pub set_refs-requires-clause-fits : goal.set_refs-requires-clause-fits
set_refs-requires-clause-fits c =
    let s = c.self.inside in
    let h = has_slot c.args.window c.in-Some.slot s.table.entries c.slot_of.ensures.apart c.in-Some.ensures.slot in
    dump-fits s.guest c.args.window c.in-Some.slot s.table s.tiles c.args.self.now h _ c.self.view_is c.requires.budget

pub invariant_of-self : goal.invariant_of-self
invariant_of-self c =
    let s = c.self.inside in
    let refs = references c.args.refs.now in
    let P : ℕ → Type 0 = λ n. FitsDump n c.args.width c.args.height refs in
    let fits : FitsDump s.table.pages c.args.width c.args.height refs = subst P (sym (ap (λ (v : RowsView). v.pages) c.self.view_is)) c.requires.fits in
    let h = has_slot c.args.window c.in-Some.slot s.table.entries c.slot_of.ensures.apart c.in-Some.ensures.slot in
    kept-updated c.args.window c.in-Some.slot (entries.with_dump (record { width = c.args.width; height = c.args.height; refs = refs })) s.table c.set_refs.new.self s.tiles.held s.tiles.held h c.slot_of.ensures.apart c.self.invariant
    (λ _. refl) (kept-at (λ (e : Entry). IsPlace e.pane.place) c.args.window c.in-Some.slot s.table.entries h c.self.invariant.placed) fits
    (kept-at (StaysInside s.tiles.held) c.args.window c.in-Some.slot s.table.entries h c.self.invariant.inside) c.self.invariant.owned c.self.invariant.left (λ _ _ _ _. refl) c.set_refs.ensures

pub returns-in-Some : goal.returns-in-Some
returns-in-Some c = λ row found.
    let s = c.self.inside in
    let refs = references c.args.refs.now in
    let h = has_slot c.args.window c.in-Some.slot s.table.entries c.slot_of.ensures.apart c.in-Some.ensures.slot in
    let new = with_dump c.args.width c.args.height refs row in
    viewed-updated s.guest c.args.window c.in-Some.slot s.table c.set_refs.new.self s.tiles s.tiles h c.slot_of.ensures.apart (entries.with_dump (record { width = c.args.width; height = c.args.height; refs = refs })) new refl
    (ap (with_dump c.args.width c.args.height refs) (row-is s.guest c.args.window c.in-Some.slot s.table s.tiles c.args.self.now h row c.self.view_is found))
    c.set_refs.ensures refl (λ _ _ _ _. refl)
    ∙ ap (with_row new) c.self.view_is

pub returns-in_default : goal.returns-in_default
returns-in_default c = λ row found.
    let s = c.self.inside in
    let none = row-none s.guest c.args.window s.table s.tiles c.args.self.now c.self.view_is c.in_default.ensures.slot in
    let both : None ≡ Some row = sym none ∙ found in
    absurd cc
