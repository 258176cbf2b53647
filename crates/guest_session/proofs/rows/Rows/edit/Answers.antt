use Rattle.std.proofs.Common.{◌≡◌, ◌∙◌, Some, None, refl, sym, ap}
use Rattle.tile_store.specs.Held.{TilesView}
use Rattle.window_table.specs.Entries.{with_pane}
use Rattle.guest_session.specs.RowsView.{StaysInside, with_row, own_row}
use Rattle.guest_session.specs.Edits.{row_edited, pane_edited}
use Rattle.guest_session.proofs.TableLemmas.{has_slot}
use Rattle.guest_session.proofs.KeptLemmas.{kept-at, viewed-updated, row-is, row-none, got-is}
use Rattle.guest_session.proofs.EditLemmas.{edits-others, kept-edited, edited-row}
use Rattle.guest_session.proofs.rows.Rows.edit.Goals as goal

pub get_mut-requires : goal.get_mut-requires
get_mut-requires c =
    let h = has_slot c.args.window c.in-Some.slot c.self.inside.table.entries c.slot_of.ensures.apart c.in-Some.ensures.slot in
    rw h.at_slot refl

pub invariant_of-self : goal.invariant_of-self
invariant_of-self c =
    let s = c.self.inside in
    let h = has_slot c.args.window c.in-Some.slot s.table.entries c.slot_of.ensures.apart c.in-Some.ensures.slot in
    let pane : h.entry.pane ≡ c.get_mut.result.now = got-is c.args.window c.in-Some.slot s.table.entries h (λ e. e.pane) c.get_mut.result.now c.get_mut.ensures.pane in
    kept-edited c.args.window c.in-Some.slot s.table s.tiles.held c.cut_for.new.tiles.held h c.slot_of.ensures.apart c.self.invariant c.args.edit.now c.requires c.edit_pane.new.pane
    (c.edit_pane.ensures ∙ ap (pane_edited c.args.edit.now) (sym pane)) (ap (λ (t : TilesView). t.held) c.cut_for.ensures.tiles) c.cut_for.ensures.pixels _ refl

pub returns-in-Some : goal.returns-in-Some
returns-in-Some c = λ row found.
    let s = c.self.inside in
    let slot = c.in-Some.slot in
    let edit = c.args.edit.now in
    let h = has_slot c.args.window slot s.table.entries c.slot_of.ensures.apart c.in-Some.ensures.slot in
    let pane : h.entry.pane ≡ c.get_mut.result.now = got-is c.args.window slot s.table.entries h (λ e. e.pane) c.get_mut.result.now c.get_mut.ensures.pane in
    let made : own_row s.guest c.cut_for.new.tiles.held (with_pane c.edit_pane.new.pane h.entry) ≡ row_edited edit row =
    edited-row s.guest edit slot s.tiles.held c.cut_for.new.tiles.held h.entry c.edit_pane.new.pane h.slot_is (kept-at (StaysInside s.tiles.held) c.args.window slot s.table.entries h c.self.invariant.inside)
    (c.edit_pane.ensures ∙ ap (pane_edited edit) (sym pane)) (ap (λ (t : TilesView). t.held) c.cut_for.ensures.tiles) c.cut_for.ensures.pixels
    ∙ ap (row_edited edit) (row-is s.guest c.args.window slot s.table s.tiles c.args.self.now h row c.self.view_is found) in
    viewed-updated s.guest c.args.window slot s.table _ s.tiles c.cut_for.new.tiles h c.slot_of.ensures.apart (with_pane c.edit_pane.new.pane) (row_edited edit row) refl made refl
    (ap (λ (t : TilesView). t.number) c.cut_for.ensures.tiles) (edits-others edit slot s.tiles.held c.cut_for.new.tiles.held c.cut_for.ensures.pixels)
    ∙ ap (with_row (row_edited edit row)) c.self.view_is

pub returns-in_default : goal.returns-in_default
returns-in_default c = λ row found.
    let s = c.self.inside in
    let none = row-none s.guest c.args.window s.table s.tiles c.args.self.now c.self.view_is c.in_default.ensures.slot in
    let both : None ≡ Some row = sym none ∙ found in
    absurd cc
