use Rattle.std.proofs.Common.{◌∙◌, refl, sym, ap, subst}
use Rattle.desk_laws.specs.Ranges.{IsPlace}
use Rattle.window_table.specs.declared.pane.Pane.{Pane}
use Rattle.window_table.specs.Entries.{Entry}
use Rattle.guest_session.specs.RowsView.{StaysInside}
use Rattle.guest_session.specs.Reading.{content_in}
use Rattle.guest_session.proofs.TableLemmas.{has_slot}
use Rattle.guest_session.proofs.KeptLemmas.{content-shown, got-is, kept-at, row-none, row-some}
use Rattle.guest_session.proofs.rows.Rows.content.Goals as goal

pub get-requires : goal.get-requires
get-requires c =
    let h = has_slot c.args.window c.in-Some.slot c.self.inside.table.entries c.slot_of.ensures.apart c.in-Some.ensures.slot in
    rw h.at_slot refl

pub colour_of-requires-clause-w : goal.colour_of-requires-clause-w
colour_of-requires-clause-w c =
    let s = c.self.inside in
    let h = has_slot c.args.window c.in-Some.slot s.table.entries c.slot_of.ensures.apart c.in-Some.ensures.slot in
    let P : Pane → Type 0 = λ p. IsPlace p.place in
    let place = subst P (got-is c.args.window c.in-Some.slot s.table.entries h (λ e. e.pane) c.get.result.now c.get.ensures)
    (kept-at (λ (e : Entry). IsPlace e.pane.place) c.args.window c.in-Some.slot s.table.entries h c.self.invariant.placed) in
    place.w_high

pub colour_of-requires-clause-h : goal.colour_of-requires-clause-h
colour_of-requires-clause-h c =
    let s = c.self.inside in
    let h = has_slot c.args.window c.in-Some.slot s.table.entries c.slot_of.ensures.apart c.in-Some.ensures.slot in
    let P : Pane → Type 0 = λ p. IsPlace p.place in
    let place = subst P (got-is c.args.window c.in-Some.slot s.table.entries h (λ e. e.pane) c.get.result.now c.get.ensures)
    (kept-at (λ (e : Entry). IsPlace e.pane.place) c.args.window c.in-Some.slot s.table.entries h c.self.invariant.placed) in
    place.h_high

pub returns-in-Some : goal.returns-in-Some
returns-in-Some c =
    let s = c.self.inside in
    let h = has_slot c.args.window c.in-Some.slot s.table.entries c.slot_of.ensures.apart c.in-Some.ensures.slot in
    let pane = got-is c.args.window c.in-Some.slot s.table.entries h (λ e. e.pane) c.get.result.now c.get.ensures in
    c.colour_of.ensures
    ∙ content-shown s.guest c.in-Some.slot s.tiles.held h.entry c.get.result.now c.args.x c.args.y h.slot_is pane (kept-at (StaysInside s.tiles.held) c.args.window c.in-Some.slot s.table.entries h c.self.invariant.inside)
    ∙ ap (λ o. content_in o c.args.x c.args.y) (sym (row-some s.guest c.args.window c.in-Some.slot s.table s.tiles c.args.self.now h c.self.view_is))

pub returns-in-None : goal.returns-in-None
returns-in-None c =
    let s = c.self.inside in
    ap (λ o. content_in o c.args.x c.args.y) (sym (row-none s.guest c.args.window s.table s.tiles c.args.self.now c.self.view_is c.in-None.ensures.slot))
