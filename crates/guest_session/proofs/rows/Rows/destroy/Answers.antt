use Rattle.std.proofs.Common.{◌≡◌, ◌∙◌, Some, None, refl, sym, ap}
use Rattle.desk_laws.specs.Effects.{Removed}
use Rattle.tile_store.specs.Held.{TilesView}
use Rattle.guest_session.specs.RowsView.{with_change}
use Rattle.guest_session.proofs.TableLemmas.{has_slot}
use Rattle.guest_session.proofs.KeptLemmas.{empties-others, kept-removed, viewed-removed, row-none}
use Rattle.guest_session.proofs.rows.Rows.destroy.Goals as goal

pub remove-requires : goal.remove-requires
remove-requires c =
    let h = has_slot c.args.window c.in-Some.slot c.self.inside.table.entries c.slot_of.ensures.apart c.in-Some.ensures.slot in
    rw h.at_slot refl

pub invariant_of-self : goal.invariant_of-self
invariant_of-self c =
    let s = c.self.inside in
    let slot = c.in-Some.slot in
    let h = has_slot c.args.window slot s.table.entries c.slot_of.ensures.apart c.in-Some.ensures.slot in
    kept-removed slot h.entry.window s.table c.remove.new.self s.tiles.held c.drop_slot.new.self.held c.self.invariant (c.remove.ensures h.entry h.at_slot)
    (ap (λ (t : TilesView). t.held) c.drop_slot.ensures.dropped) (empties-others slot s.tiles.held c.drop_slot.new.self.held c.drop_slot.ensures.pixels)

pub returns-in-Some : goal.returns-in-Some
returns-in-Some c = λ row found.
    let s = c.self.inside in
    let slot = c.in-Some.slot in
    let h = has_slot c.args.window slot s.table.entries c.slot_of.ensures.apart c.in-Some.ensures.slot in
    viewed-removed s.guest c.args.window slot s.table c.remove.new.self s.tiles c.drop_slot.new.self h c.slot_of.ensures.apart (c.remove.ensures h.entry h.at_slot)
    (ap (λ (t : TilesView). t.number) c.drop_slot.ensures.dropped) (empties-others slot s.tiles.held c.drop_slot.new.self.held c.drop_slot.ensures.pixels)
    ∙ ap (with_change (Removed c.args.window)) c.self.view_is

pub returns-in_default : goal.returns-in_default
returns-in_default c = λ row found.
    let s = c.self.inside in
    let none = row-none s.guest c.args.window s.table s.tiles c.args.self.now c.self.view_is c.in_default.ensures.slot in
    let both : None ≡ Some row = sym none ∙ found in
    absurd cc
